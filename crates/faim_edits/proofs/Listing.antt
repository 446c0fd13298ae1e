-- Which refusals are listed.
use Rattle.std.proofs.Common.{◌≡◌, ℕ, Bool, true, false, cond, eqb, ◌&&◌, ◌||◌, List, [], ◌∷◌, ◌++◌, Option, Some, None, refl, sym, ap, ◌∙◌, subst, arith}
use Rattle.std.specs.Prelude.{is_some, option_map}
use Rattle.std.specs.List.{find, list_any}
use Rattle.std.proofs.lemmas.Bool.{eqb-true}
use Rattle.std.proofs.lemmas.Grind.{common_steps}
use Rattle.faim_base.specs.declared.judgement.Reject.{Reject}
use Rattle.faim_base.specs.Refusals.{refusal, is_recorded, is_edit_number}
use Rattle.faim_edits.specs.Texts.{Listed, listed, text_of, is_same, is_turned_away}
use Rattle.faim_edits.proofs.Rows.{is_some-find}

-- a refusal is in the table exactly where it is recorded or turned away
abbrev Right : ℕ → ℕ → Type 0
Right c k = list_any (λ l. is_same (refusal c k) l.refusal) listed ≡ is_recorded (refusal c k) || is_turned_away (refusal c k)

same : (a b : Bool) → (a ≡ true → b ≡ true) → (b ≡ true → a ≡ true) → a ≡ b
same true b to from = sym (to refl)
same false true to from = from refl
same false false to from = refl

-- the numbers of edits, one by one
edit_numbers : List ℕ
edit_numbers = 101 ∷ 102 ∷ 103 ∷ 104 ∷ 105 ∷ 106 ∷ 107 ∷ 108 ∷ 109 ∷ 110 ∷ 111 ∷ 112 ∷ 113 ∷ 114 ∷ 115 ∷ 116 ∷ 117 ∷ 161 ∷ 162 ∷ []

numbered : (k : ℕ) → list_any (λ n. eqb k n) edit_numbers ≡ is_edit_number k
unfolding edit_numbers
numbered k = same _ _ (λ e. grind (arith, common_steps)) (λ e. grind (arith, common_steps))

any_append : (p : ℕ → Bool) (ns ks : List ℕ) → list_any p (ns ++ ks) ≡ list_any p ns || list_any p ks
any_append p [] ks = refl
any_append p (n ∷ ns) ks = here (p n) (any_append p ns ks)
  where
    here : (b : Bool) → list_any p (ns ++ ks) ≡ list_any p ns || list_any p ks → b || list_any p (ns ++ ks) ≡ (b || list_any p ns) || list_any p ks
    here true more = refl
    here false more = more

or_false : (b : Bool) → b || false ≡ b
or_false true = refl
or_false false = refl

at_e : (k : ℕ) → Right 69 k
unfolding edit_numbers
at_e k =
    let late : Bool = list_any (λ n. eqb k n) (1 ∷ 2 ∷ []) in
    any_append (λ n. eqb k n) edit_numbers (1 ∷ 2 ∷ [])
    ∙ ap (λ (b : Bool). b || late) (numbered k ∙ sym (or_false (is_edit_number k)))

at_f : (k : ℕ) → Right 70 k
at_f k = grind arith

at_h : (k : ℕ) → Right 72 k
at_h k = grind arith

at_i : (k : ℕ) → Right 73 k
at_i k = grind arith

at_w : (k : ℕ) → Right 87 k
at_w k = grind arith

at_x : (k : ℕ) → Right 88 k
at_x k = grind arith

at_other : (c k : ℕ) → eqb c 69 ≡ false → eqb c 70 ≡ false → eqb c 72 ≡ false → eqb c 73 ≡ false → eqb c 87 ≡ false → eqb c 88 ≡ false → Right c k
at_other c k e f h i w x = simp (e, f, h, i, w, x) refl

-- where a letter isn't one, the next is asked
or_else : (c k letter : ℕ) → Right letter k → (eqb c letter ≡ false → Right c k) → Right c k
or_else c k letter at more = here (eqb c letter) refl
  where
    here : (b : Bool) → eqb c letter ≡ b → Right c k
    here true is = let P : ℕ → Type 0 = λ x. Right x k in subst P (sym (eqb-true c letter is)) at
    here false is = more is

right : (c k : ℕ) → Right c k
right c k =
    or_else c k 69 (at_e k) (λ e. or_else c k 70 (at_f k) (λ f. or_else c k 72 (at_h k) (λ h. or_else c k 73 (at_i k) (λ i.
    or_else c k 87 (at_w k) (λ w. or_else c k 88 (at_x k) (λ x. at_other c k e f h i w x))))))

some_map : {X Y : Type 0} (h : X → Y) (o : Option X) → is_some (option_map h o) ≡ is_some o
some_map h (Some x) = refl
some_map h None = refl

pub listed_where : (r : Reject) → is_some (text_of r) ≡ is_recorded r || is_turned_away r
listed_where r = some_map (λ (l : Listed). l.text) (find (λ l. is_same r l.refusal) listed) ∙ is_some-find (λ l. is_same r l.refusal) listed ∙ right r.category r.code
