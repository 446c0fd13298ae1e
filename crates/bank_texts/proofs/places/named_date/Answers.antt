use Rattle.std.proofs.Common.{◌≡◌, ◌∙◌, sym, ap, Bool, true, None, take, drop}
use Rattle.std.specs.Prelude.{bytes_eq, codes, if◌then◌else◌}
use Rattle.host_ledger.proofs.EndpointLists.{bytes_eq_sym}
use Rattle.faim_model.specs.Steps.{date_in}
use Rattle.bank_turns.specs.OutputTexts.{later_than}
use Rattle.bank_texts.proofs.places.named_date.Goals as goal

pub returns-then-starts_with : goal.returns-then-starts_with
returns-then-starts_with c =
    let date = c.args.date in
    let star = c.args.star.now in
    let test : bytes_eq (take 5 star) (codes "NEXT ") ≡ true = bytes_eq_sym (take 5 star) (codes "NEXT ") ∙ sym c.starts_with.ensures.value ∙ c.if-starts_with.true in
    c.later_than.ensures
    ∙ ap (later_than date) (c.date_in.ensures ∙ ap date_in c.after.ensures)
    ∙ sym (ap (λ (b : Bool). if b then later_than date (date_in (drop 5 star)) else None) test)
