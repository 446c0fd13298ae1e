-- What a bank keeps is what its steps make of its list.
use Rattle.std.proofs.Common.{◌≡◌, List, refl, ap, Option, Some, None}
use Rattle.bank_books.specs.declared.entries.BankEntry.{BankEntry}
use Rattle.bank_turns.specs.BankSteps.{adds_to}
use Rattle.journaled_steps.specs.Steps.{entries_with}
use Rattle.node_session.specs.Kinds.{IsFit}
use Rattle.bank_session.specs.BankKind.{bank_kind, step_at}

same_entries : (adds : Option BankEntry) (es : List BankEntry) → adds_to adds es ≡ entries_with adds es
same_entries None es = refl
same_entries (Some x) es = refl

pub bank_fit : IsFit bank_kind
bank_fit = record {
  list_after = λ kept f. ap (λ (es : List BankEntry). record { opening = kept.opening; entries = es }) (same_entries (step_at kept f).adds kept.entries);
  recent_after = λ kept f. refl;
  nothing_read = refl;
  read_on = λ arrivals f. refl;
}
