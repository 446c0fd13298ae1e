-- What a list is: an opening and then entries, each of which may come after those before it.
use Rattle.std.specs.Prelude.{◌≡◌, ℕ, ◌≤◌, List, [], ◌∷◌, ◌++◌, length}

-- how a kind of list is spelled, and what may come next
pub record Rules (Opening Entry : Type 0) : Type 1 where
  -- an opening that has a spelling
  pub IsOpening : Opening → Type 0
  pub opening_bytes : Opening → List ℕ
  pub entry_bytes : Entry → List ℕ
  -- an entry that has a spelling, and that may come after this opening and these entries, the newest of which is the first
  pub MayFollow : Opening → List Entry → Entry → Type 0

-- an opening and its entries, the newest first
pub record Listed (Opening Entry : Type 0) : Type 0 where
  pub opening : Opening
  pub entries : List Entry

-- one spelling is read in one way: it has one opening, and one entry at its front; and no entry is spelled by nothing
pub record AreReadOnce {O E : Type 0} (rules : Rules O E) : Type 0 where
  pub one_opening : (a b : O) → rules.IsOpening a → rules.IsOpening b → rules.opening_bytes a ≡ rules.opening_bytes b → a ≡ b
  pub one_entry : (o : O) (older : List E) (x y : E) (rest more : List ℕ) → rules.MayFollow o older x → rules.MayFollow o older y
      → rules.entry_bytes x ++ rest ≡ rules.entry_bytes y ++ more → (x ≡ y) × (rest ≡ more)
  pub some_bytes : (o : O) (older : List E) (x : E) → rules.MayFollow o older x → 1 ≤ length (rules.entry_bytes x)

-- each entry may come after those before it
abbrev pub AllFollowed : {O E : Type 0} → Rules O E → O → List E → Type 0
AllFollowed rules o [] = Unit {0}
AllFollowed rules o (x ∷ older) = rules.MayFollow o older x × AllFollowed rules o older

-- a list whose opening has a spelling, and each of whose entries may come where it stands
pub record IsLawful {O E : Type 0} (rules : Rules O E) (list : Listed O E) : Type 0 where
  pub opening : rules.IsOpening list.opening
  pub entries : AllFollowed rules list.opening list.entries
