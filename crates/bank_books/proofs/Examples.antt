-- The lists of a bank BANKB001 that receives, and of a bank BANKA001 that drafts; 8767 is 2024-01-02.
use Rattle.std.specs.Prelude.{◌≡◌, refl, ℕ, List, [], ◌∷◌, codes, Some, None, Ok}
use Rattle.std.proofs.Common.{lit≤, arith}
use Rattle.faim_base.specs.declared.ids.Imad.{Imad}
use Rattle.faim_base.specs.declared.ids.OutPos.{OutPos}
use Rattle.faim_base.specs.declared.judgement.Verdict.TheVariants.{Taken, Refused}
use Rattle.faim_base.specs.Refusals.{f401}
use Rattle.bank_books.specs.declared.entries.BankEntry.{BankEntry}
use Rattle.bank_books.specs.declared.entries.BankEntry.TheVariants.{Drafted, Answered, Received}
use Rattle.bank_books.specs.declared.entries.BankOpening.{BankOpening}
use Rattle.bank_books.specs.declared.outcomes.AckCase.TheVariants as ack
use Rattle.bank_books.specs.declared.outcomes.OutCase.TheVariants as out
use Rattle.bank_books.specs.Drafts.{ack_case, unanswered, verdict_of}
use Rattle.bank_books.specs.Inbox.{bank_cycle, out_case, wanted}
use Rattle.bank_books.specs.Numbering.{next_imad}
use Rattle.bank_books.specs.Lawful.{LawfulBank, MayGoOn, draft_numbers, received_numbers}

abbrev opening : List ℕ → BankOpening
opening endpoint = record { endpoint = endpoint; env = 84; date = 8767 }

abbrev receiver : BankOpening
receiver = opening (codes "BANKB001")

abbrev sender : BankOpening
sender = opening (codes "BANKA001")

abbrev at : ℕ → ℕ → OutPos
at date seq = record { date = date; seq = seq }

abbrev numbered : ℕ → ℕ → Imad
numbered date seq = record { date = date; source = codes "BANKA001"; seq = seq }

-- nothing yet
first_wanted : wanted receiver [] ≡ at 8767 1
first_wanted = refl

first_number : next_imad sender [] ≡ Ok (numbered 8767 1)
first_number = refl

-- outputs 1 and 2, the second of which ends the cycle
abbrev ended : List BankEntry
ended = Received (at 8767 2) (codes "TWO") (Some 8768) ∷ Received (at 8767 1) (codes "ONE") None ∷ []

ended_lawful : LawfulBank receiver ended
ended_lawful = (
  record { position = refl; date = (lit≤ tt, lit≤ tt) },
  (record { position = refl; date = lit≤ tt }, tt),
)

-- the first of another cycle is wanted, and the old ones are repeated
ended_wants : wanted receiver ended ≡ at 8768 1
ended_wants = refl

ended_cases : (out_case receiver ended (at 8768 1) ≡ out.Next) × (out_case receiver ended (at 8767 2) ≡ out.Repeated)
    × (out_case receiver ended (at 8767 999_999) ≡ out.Repeated) × (out_case receiver ended (at 8768 2) ≡ out.Gap)
    × (out_case receiver ended (at 8769 1) ≡ out.Gap)
ended_cases = (refl, refl, refl, refl, refl)

ended_numbers : (received_numbers 8767 ended ≡ 1 ∷ 2 ∷ []) × (received_numbers 8768 ended ≡ [])
ended_numbers = (refl, refl)

-- the last number of a cycle is left for its end
last_numbers : MayGoOn (at 8767 999_998) None × MayGoOn (at 8767 999_999) (Some 8768) × (MayGoOn (at 8767 999_999) None → ⊥)
    × (MayGoOn (at 8767 5) (Some 8767) → ⊥)
last_numbers = (lit≤ tt, (lit≤ tt, lit≤ tt), λ few. absurd (omega (arith, few)), λ later. absurd (omega (arith, later.0)))

-- two drafts, of which the first is answered
abbrev two : List BankEntry
two = Answered (numbered 8767 1) (Refused f401) ∷ Drafted (numbered 8767 2) (codes "SECOND") ∷ Drafted (numbered 8767 1) (codes "FIRST") ∷ []

two_lawful : LawfulBank sender two
two_lawful = (refl, (refl, (refl, tt)))

two_cases : (ack_case two (numbered 8767 1) ≡ ack.Repeated) × (ack_case two (numbered 8767 2) ≡ ack.Fresh)
    × (ack_case two (numbered 8767 3) ≡ ack.Strange) × (ack_case two (numbered 8768 1) ≡ ack.Strange)
two_cases = (refl, refl, refl, refl)

two_open : (unanswered 64 two ≡ 1 ∷ []) × (unanswered 0 two ≡ []) × (unanswered 1 (Drafted (numbered 8767 3) (codes "THIRD") ∷ two) ≡ 1 ∷ [])
two_open = (refl, refl, refl)

two_kept : (verdict_of (numbered 8767 1) two ≡ Some (Refused f401)) × (verdict_of (numbered 8767 2) two ≡ None)
two_kept = (refl, refl)

two_numbers : (draft_numbers 8767 two ≡ 1 ∷ 2 ∷ []) × (next_imad sender two ≡ Ok (numbered 8767 3))
two_numbers = (refl, refl)

-- after the end of a cycle numbers begin again, and what was drafted may still be answered
abbrev later : List BankEntry
later = Received (at 8767 1) (codes "END") (Some 8770) ∷ two

later_numbers : (next_imad sender later ≡ Ok (numbered 8770 1)) × (ack_case later (numbered 8767 2) ≡ ack.Fresh) × (bank_cycle sender later ≡ 8770)
later_numbers = (refl, refl, refl)

later_lawful : LawfulBank sender (Answered (numbered 8767 2) (Taken (codes "BANKB001") 7) ∷ Drafted (numbered 8770 1) (codes "FOURTH") ∷ later)
later_lawful = (refl, (refl, (record { position = refl; date = (lit≤ tt, lit≤ tt) }, two_lawful)))
