-- The refusals that are listed, and their texts (docs/FORMATS.md, "Refusals").
use Rattle.std.specs.Prelude.{ℕ, ◌==◌, ◌&&◌, Bool, List, [], ◌∷◌, codes, Option, option_map}
use Rattle.std.specs.List.{find, list_any}
use Rattle.faim_base.specs.declared.judgement.Reject.{Reject}
use Rattle.faim_base.specs.Refusals.{edit, e001, e002, e161, e162, f401, h101, h102, i501, w301, w302, x201, is_edit_number}

-- a refusal and its text
pub record Listed : Type 0 where
  pub refusal : Reject
  pub text : List ℕ

abbrev pub says : Reject → List ℕ → Listed
says refusal text = record { refusal = refusal; text = text }

-- the edits first, in the order of their numbers, then the others
abbrev pub listed : List Listed
listed =
    says (edit 101) (codes "FORMAT VERSION IS NOT 30")
    ∷ says (edit 102) (codes "TEST OR PRODUCTION CODE IS WRONG")
    ∷ says (edit 103) (codes "DUPLICATION CODE IS WRONG")
    ∷ says (edit 104) (codes "BUSINESS FUNCTION CODE UNKNOWN")
    ∷ says (edit 105) (codes "TYPE AND SUBTYPE NOT FOR CODE")
    ∷ says (edit 106) (codes "SENDER CHECK DIGIT IS WRONG")
    ∷ says (edit 107) (codes "RECEIVER CHECK DIGIT IS WRONG")
    ∷ says (edit 108) (codes "AMOUNT IS ZERO")
    ∷ says (edit 109) (codes "TAG 4200 IS MISSING")
    ∷ says (edit 110) (codes "TAG 5000 IS MISSING")
    ∷ says (edit 111) (codes "TAG 4400 IS MISSING")
    ∷ says (edit 112) (codes "TAG 3500 IS MISSING")
    ∷ says (edit 113) (codes "TAG 9000 NOT FOR CODE")
    ∷ says (edit 114) (codes "TAG 4400 NOT FOR CODE")
    ∷ says (edit 115) (codes "TAG 5400 NOT FOR CODE")
    ∷ says (edit 116) (codes "TAG 6110 NOT FOR CODE")
    ∷ says (edit 117) (codes "ID CODE IS NOT LISTED")
    ∷ says e161 (codes "SENDER NOT SERVED ON THIS LINE")
    ∷ says e162 (codes "RECEIVER IS NOT SERVED")
    ∷ says e001 (codes "TEXT IS NOT A MESSAGE")
    ∷ says e002 (codes "IMAD IS NOT VALID")
    ∷ says f401 (codes "BALANCE BELOW FLOOR")
    ∷ says h101 (codes "CYCLE DATE IS NOT CURRENT")
    ∷ says h102 (codes "INPUT SOURCE IS NOT THIS LINE")
    ∷ says i501 (codes "OUTPUT NUMBERS ARE USED UP")
    ∷ says w301 (codes "CUSTOMER CUTOFF IS PAST")
    ∷ says w302 (codes "BANK CUTOFF IS PAST")
    ∷ says x201 (codes "IMAD IS KNOWN WITH OTHER TEXT")
    ∷ []

abbrev pub is_same : Reject → Reject → Bool
is_same a b = (a.category == b.category) && (a.code == b.code)

-- the text of a refusal, none where it isn't listed
abbrev pub text_of : Reject → Option (List ℕ)
text_of r = option_map (λ l. l.text) (find (λ l. is_same r l.refusal) listed)

-- a refusal that is an edit's
abbrev pub is_edit : Reject → Bool
is_edit r = (r.category == 69) && is_edit_number r.code

-- the refusals of a submission that is turned away: no entry keeps them
abbrev pub is_turned_away : Reject → Bool
is_turned_away r = list_any (is_same r) (e001 ∷ e002 ∷ h102 ∷ x201 ∷ [])
