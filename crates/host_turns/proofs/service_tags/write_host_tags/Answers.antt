use Rattle.host_turns.proofs.Appended.{three_broken}
use Rattle.host_turns.proofs.service_tags.write_host_tags.Goals as goal

pub returns-clause-ok : goal.returns-clause-ok
returns-clause-ok c =
    three_broken c.args.out.now.items _ _ _ c.args.line_break.now _ _ _ _ _ _
    c.in_ok-write_status.ensures.ok c.in_ok-extend_from_slice.ensures.items c.in_ok-write_moment.ensures.ok
    c.in_ok-extend_from_slice-2.ensures.items c.in_ok-write_output.ensures.ok c.in_ok-extend_from_slice-3.ensures.items
