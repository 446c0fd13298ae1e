-- Equal bytes and identifiers, and the entries that have one.
use Rattle.std.proofs.Common.{◌≡◌, ◌≢◌, refl, sym, ◌∙◌, subst, ℕ, ◌==◌, ◌&&◌, Bool, true, false, List, [], ◌∷◌, length, Option, Some, None, if◌then◌else◌}
use Rattle.std.proofs.lemmas.Bool.{and_parts, and_from, eq-eqb, eqb-true}
use Rattle.std.proofs.lemmas.Slice.Eq.{bytes_eq-Decides}
use Rattle.std.specs.Str.{bytes_eq}
use Rattle.faim_base.specs.declared.ids.Imad.{Imad}
use Rattle.host_ledger.specs.declared.entries.Entry.{Entry}
use Rattle.faim_model.specs.Verdicts.{has_imad, place_of, same_imad}
use Rattle.faim_model.specs.Lawful.{times_posted}

-- the test of bytes holds where they are equal, and only there
pub bytes_equal : (a b : List ℕ) → bytes_eq a b ≡ true → a ≡ b
bytes_equal a b same = (bytes_eq-Decides a b).0 same

pub bytes_pass : (a b : List ℕ) → a ≡ b → bytes_eq a b ≡ true
bytes_pass a b equal = (bytes_eq-Decides a b).1 equal

pub bytes_differ : (a b : List ℕ) → bytes_eq a b ≡ false → a ≢ b
bytes_differ a b apart same = let both : true ≡ false = sym (bytes_pass a b same) ∙ apart in absurd cc

-- so does the test of identifiers
pub imads_equal : (a b : Imad) → same_imad a b ≡ true → a ≡ b
imads_equal a b same =
    let dates = and_parts (a.date == b.date) (bytes_eq a.source b.source && (a.seq == b.seq)) same in
    let others = and_parts (bytes_eq a.source b.source) (a.seq == b.seq) dates.1 in
    let date : a.date ≡ b.date = eqb-true a.date b.date dates.0 in
    let source : a.source ≡ b.source = bytes_equal a.source b.source others.0 in
    let seq : a.seq ≡ b.seq = eqb-true a.seq b.seq others.1 in
    λ i. record { date = date i; source = source i; seq = seq i }

pub imads_pass : (a b : Imad) → a ≡ b → same_imad a b ≡ true
imads_pass a b equal =
    let own : same_imad a a ≡ true =
    and_from _ _ (eq-eqb a.date a.date refl) (and_from _ _ (bytes_pass a.source a.source refl) (eq-eqb a.seq a.seq refl)) in
    subst (λ (d : Imad). same_imad a d ≡ true) equal own

passed_over : (passes : Bool) (n : ℕ) (rest : Option ℕ) → (if passes then Some n else rest) ≡ None → (passes ≡ false) × (rest ≡ None)
passed_over true n rest none = absurd cc
passed_over false n rest none = (refl, none)

-- where no entry is found, the newest doesn't pass, and none of the others is found
pub none_there : (p : Entry → Bool) (x : Entry) (es : List Entry) → place_of p (x ∷ es) ≡ None → (p x ≡ false) × (place_of p es ≡ None)
none_there p x es none = passed_over (p x) (length es) (place_of p es) none

-- an identifier that no entry has isn't posted
pub never_posted : (imad : Imad) (es : List Entry) → place_of (has_imad imad) es ≡ None → times_posted imad es ≡ 0
never_posted imad [] none = refl
never_posted imad (x ∷ es) none =
    let apart = none_there (has_imad imad) x es none in
    rw (apart.0, never_posted imad es apart.1) refl
