use Rattle.std.proofs.Common.{◌≡◌, ℕ}
use Rattle.std.specs.Prelude.{Ok, Err}
use Rattle.faim_top.specs.declared.feeding.Unread.TheVariants as unread
use Rattle.faim_top.specs.Seen.{seen}
use Rattle.faim_top.proofs.Counted.{same_faults}
use Rattle.faim_top.proofs.Tried.{checked_of, refused_of}
use Rattle.faim_top.proofs.answers.check.Goals as goal

pub returns-in_ok-tried-in-Ok-clause-answer : goal.returns-in_ok-tried-in-Ok-clause-answer
returns-in_ok-tried-in-Ok-clause-answer g c =
    checked_of {E = ℕ} (Ok c.in_ok-tried-in-Ok.field-0) (λ v. v.items) (seen g.I.Source.left c.args.input.now c.read_message.new.input) c.in-Ok.message
    c.in-Ok.ensures.form c.in-Ok.ensures.read c.in-Ok.ensures.end c.in_ok-tried-in-Ok.ensures

pub returns-in_ok-tried-in-Ok-clause-faults : goal.returns-in_ok-tried-in-Ok-clause-faults
returns-in_ok-tried-in-Ok-clause-faults g c =
    same_faults (λ failed. absurd (cc (failed, c.in-Ok.is))) (λ failed. absurd (cc (failed))) c.read_message.ensures.faults

pub returns-in_ok-refused-in-Err-Refused-clause-answer : goal.returns-in_ok-refused-in-Err-Refused-clause-answer
returns-in_ok-refused-in-Err-Refused-clause-answer g c =
    let is : c.read_message.result ≡ Err (unread.Refused c.in-Err-Refused.why) = cc in
    let told = c.in_ok-refused-in-Err-Refused.ensures in
    refused_of (seen g.I.Source.left c.args.input.now c.read_message.new.input) c.in-Err-Refused.why c.in_ok-refused-in-Err-Refused.field-0.1 c.in_ok-refused-in-Err-Refused.field-0.0.items
    (c.read_message.ensures.refused c.in-Err-Refused.why is) told.2 told.0 told.1
