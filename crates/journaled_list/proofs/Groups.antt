-- Groups of entries: how they grow, and that bytes spell one group at most.
use Rattle.std.proofs.Common.{◌≡◌, ℕ, ◌+◌, ◌≤◌, List, [], ◌∷◌, ◌++◌, length, refl, sym, ◌∙◌, ap, subst, arith, append_assoc, append-nil, length-append}
use Rattle.journaled_list.specs.Rules.{Rules, AreReadOnce, AllFollowed}
use Rattle.journaled_list.specs.Payloads.{joined, onto, Continues}

pub onto-push : {E : Type 0} (group : List E) (x : E) (older : List E) → onto (group ++ x ∷ []) older ≡ x ∷ onto group older
onto-push [] x older = refl
onto-push (y ∷ ys) x older = onto-push ys x (y ∷ older)

-- so many entries are on top
pub length-onto : {E : Type 0} (group older : List E) → length (onto group older) ≡ length group + length older
length-onto [] older = omega arith
length-onto (x ∷ xs) older = omega (arith, length-onto xs (x ∷ older))

module _ {O E : Type 0} (rules : Rules O E) where
  pub joined-push : (group : List E) (x : E) (rest : List ℕ) → joined rules (group ++ x ∷ []) ++ rest ≡ joined rules group ++ (rules.entry_bytes x ++ rest)
  joined-push [] x rest = ap (λ (l : List ℕ). l ++ rest) (append-nil (rules.entry_bytes x))
  joined-push (y ∷ ys) x rest =
      append_assoc (rules.entry_bytes y) (joined rules (ys ++ x ∷ [])) rest
      ∙ ap (λ (l : List ℕ). rules.entry_bytes y ++ l) (joined-push ys x rest)
      ∙ sym (append_assoc (rules.entry_bytes y) (joined rules ys) (rules.entry_bytes x ++ rest))

  pub continues-push : (o : O) (older group : List E) (x : E) → Continues rules o older group → rules.MayFollow o (onto group older) x → Continues rules o older (group ++ x ∷ [])
  continues-push o older [] x lawful follows = (follows, tt)
  continues-push o older (y ∷ ys) x lawful follows = (lawful.0, continues-push o (y ∷ older) ys x lawful.1 follows)

  -- a group on a lawful list makes a lawful one
  pub followed_onto : (o : O) (older group : List E) → AllFollowed rules o older → Continues rules o older group → AllFollowed rules o (onto group older)
  followed_onto o older [] lawful more = lawful
  followed_onto o older (x ∷ xs) lawful more = followed_onto o (x ∷ older) xs (more.0, lawful) more.1

-- what is left of a group, when the bytes of some entries were read
pub record Left {O E : Type 0} (rules : Rules O E) (o : O) (now : List E) (rest : List ℕ) : Type 0 where
  pub more : List E
  pub is : rest ≡ joined rules more
  pub lawful : Continues rules o now more

module _ {O E : Type 0} (rules : Rules O E) (once : AreReadOnce rules) where
  pub no_empty : (o : O) (older : List E) (x : E) (rest : List ℕ) → rules.MayFollow o older x → rules.entry_bytes x ++ rest ≡ [] → ⊥
  no_empty o older x rest follows same = omega (arith, once.some_bytes o older x follows, ap length same, length-append (rules.entry_bytes x) rest)

  pub long_bytes : (o : O) (older : List E) (x : E) (rest : List ℕ) → rules.MayFollow o older x → 1 + length rest ≤ length (rules.entry_bytes x ++ rest)
  long_bytes o older x rest follows = omega (arith, once.some_bytes o older x follows, length-append (rules.entry_bytes x) rest)

  -- entries that were read are the first of any group that the payload spells
  pub left_of : (o : O) (older done group : List E) (rest : List ℕ) → Continues rules o older done → Continues rules o older group
      → joined rules done ++ rest ≡ joined rules group → Left rules o (onto done older) rest
  left_of o older [] group rest a b same = record { more = group; is = same; lawful = b }
  left_of o older (x ∷ xs) [] rest a b same = absurd (no_empty o older x (joined rules xs ++ rest) a.0 (sym (append_assoc (rules.entry_bytes x) (joined rules xs) rest) ∙ same))
  left_of o older (x ∷ xs) (y ∷ ys) rest a b same =
      let both = once.one_entry o older x y (joined rules xs ++ rest) (joined rules ys) a.0 b.0 (sym (append_assoc (rules.entry_bytes x) (joined rules xs) rest) ∙ same) in
      let b' : Continues rules o (x ∷ older) ys = subst (λ (z : E). Continues rules o (z ∷ older) ys) (sym both.0) b.1 in
      left_of o (x ∷ older) xs ys rest a.1 b' both.1

  -- one spelling has one group
  pub one_group : (o : O) (older a b : List E) → Continues rules o older a → Continues rules o older b → joined rules a ≡ joined rules b → a ≡ b
  one_group o older [] [] p q same = refl
  one_group o older [] (y ∷ ys) p q same = absurd (no_empty o older y (joined rules ys) q.0 (sym same))
  one_group o older (x ∷ xs) [] p q same = absurd (no_empty o older x (joined rules xs) p.0 same)
  one_group o older (x ∷ xs) (y ∷ ys) p q same =
      let both = once.one_entry o older x y (joined rules xs) (joined rules ys) p.0 q.0 same in
      let q' : Continues rules o (x ∷ older) ys = subst (λ (z : E). Continues rules o (z ∷ older) ys) (sym both.0) q.1 in
      ap (λ (z : E). z ∷ xs) both.0 ∙ ap (λ (l : List E). y ∷ l) (one_group o (x ∷ older) xs ys p.1 q' both.1)
