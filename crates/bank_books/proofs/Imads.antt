-- Equal identifiers.
use Rattle.std.proofs.Common.{◌≡◌, refl, sym, ◌∙◌, subst, ℕ, ◌==◌, ◌&&◌, Bool, true, false, List}
use Rattle.std.proofs.lemmas.Bool.{and_parts, and_from, eq-eqb, eqb-true}
use Rattle.std.proofs.lemmas.Slice.Eq.{bytes_eq-Decides}
use Rattle.std.specs.Str.{bytes_eq}
use Rattle.faim_base.specs.declared.ids.Imad.{Imad}
use Rattle.bank_books.specs.Drafts.{same_imad}

bytes_equal : (a b : List ℕ) → bytes_eq a b ≡ true → a ≡ b
bytes_equal a b same = (bytes_eq-Decides a b).0 same

bytes_pass : (a b : List ℕ) → a ≡ b → bytes_eq a b ≡ true
bytes_pass a b equal = (bytes_eq-Decides a b).1 equal

-- the test holds where they are equal, and only there
pub imads_equal : (a b : Imad) → same_imad a b ≡ true → a ≡ b
imads_equal a b same =
    let dates = and_parts (a.date == b.date) (bytes_eq a.source b.source && (a.seq == b.seq)) same in
    let others = and_parts (bytes_eq a.source b.source) (a.seq == b.seq) dates.1 in
    let date : a.date ≡ b.date = eqb-true a.date b.date dates.0 in
    let source : a.source ≡ b.source = bytes_equal a.source b.source others.0 in
    let seq : a.seq ≡ b.seq = eqb-true a.seq b.seq others.1 in
    λ i. record { date = date i; source = source i; seq = seq i }

pub imads_pass : (a b : Imad) → a ≡ b → same_imad a b ≡ true
imads_pass a b equal =
    let own : same_imad a a ≡ true =
    and_from _ _ (eq-eqb a.date a.date refl) (and_from _ _ (bytes_pass a.source a.source refl) (eq-eqb a.seq a.seq refl)) in
    subst (λ (d : Imad). same_imad a d ≡ true) equal own

either_way : (a b : Imad) (there back : Bool) → same_imad a b ≡ there → same_imad b a ≡ back → there ≡ back
either_way a b true true is other = refl
either_way a b false false is other = refl
either_way a b true false is other = sym (imads_pass b a (sym (imads_equal a b is))) ∙ other
either_way a b false true is other = sym is ∙ imads_pass a b (sym (imads_equal b a other))

-- and it says the same of both orders
pub either_order : (a b : Imad) → same_imad a b ≡ same_imad b a
either_order a b = either_way a b (same_imad a b) (same_imad b a) refl refl
