use Rattle.std.proofs.Common.{◌≡◌, ℕ, List, subst}
use Rattle.std.specs.Prelude.{IfOk}
use Rattle.faim_message.specs.Spelling.{Content, IsMessage}
use Rattle.bank_texts.proofs.Texts.{numbered_text}
use Rattle.bank_texts.proofs.drafts.number_draft.Goals as goal

pub returns : goal.returns
returns c =
    let w = c.in_ok-submission.submission in
    let sound : IsMessage w = subst (λ (v : Content). IsMessage v) c.submission.view_is c.submission.invariant in
    subst (λ (l : List ℕ). IfOk c.body.result (λ text. text ≡ l)) (numbered_text c.args.message w c.args.imad sound c.in_ok-submission.ensures) c.body.ensures
