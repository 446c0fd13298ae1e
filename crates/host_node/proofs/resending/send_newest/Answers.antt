use Rattle.std.proofs.Common.{ℕ, ◌+◌, ◌-◌, ap, drop}
use Rattle.faim_model.specs.Sending.{resume_frames}
use Rattle.host_node.specs.Resending.{frames_at}
use Rattle.host_node.proofs.Newest.{joined, newest_more}
use Rattle.host_node.proofs.resending.send_newest.Goals as goal

pub loop-number-preserved : goal.loop-number-preserved
loop-number-preserved c =
    let s = c.args.state.now in
    let number = c.loop-number.number in
    let place = c.len.result - c.args.last + number in
    record {
      sent =
          joined c.args.outbox.now c.loop-number.outbox c.send_entry.new.outbox (resume_frames s.config (drop (c.args.last - number) s.entries) number)
          (frames_at s.config s.entries place 80) (resume_frames s.config (drop (c.args.last - (number + 1)) s.entries) (number + 1))
          c.loop-number.invariant.sent c.in-Ok.ensures
          (newest_more s.config s.entries c.args.last number place c.requires c.loop-number-test.true (ap (λ (k : ℕ). k + number) c.loop-number.invariant.begin));
      begin = c.loop-number.invariant.begin;
    }
