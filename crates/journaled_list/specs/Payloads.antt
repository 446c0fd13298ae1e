-- What the payloads of a journal say: an opening, and then groups of entries, each lawful after those before.
use Rattle.std.specs.Prelude.{◌≡◌, ◌⊎◌, ℕ, ◌≤◌, List, [], ◌∷◌, ◌++◌, length}
use Rattle.torn_journal.specs.Damage.{IsDamaged}
use Rattle.torn_journal.specs.Journal.{IsJournal}
use Rattle.torn_journal.specs.Limits.{header_length}
use Rattle.journaled_list.specs.Rules.{Rules, Listed}

-- a group is entries that one record keeps, the oldest first: its spelling
abbrev pub joined : {O E : Type 0} → Rules O E → List E → List ℕ
joined rules [] = []
joined rules (x ∷ more) = rules.entry_bytes x ++ joined rules more

-- entries with a group on top, the newest first
abbrev pub onto : {E : Type 0} → List E → List E → List E
onto [] older = older
onto (x ∷ more) older = onto more (x ∷ older)

abbrev pub with_group : {O E : Type 0} → Listed O E → List E → Listed O E
with_group list group = record { opening = list.opening; entries = onto group list.entries }

-- each entry of the group may come after those before it
abbrev pub Continues : {O E : Type 0} → Rules O E → O → List E → List E → Type 0
Continues rules o older [] = Unit {0}
Continues rules o older (x ∷ more) = rules.MayFollow o older x × Continues rules o (x ∷ older) more

-- a payload that spells a group of at least one entry
pub record IsGroup {O E : Type 0} (rules : Rules O E) (o : O) (older group : List E) (payload : List ℕ) : Type 0 where
  pub some : 1 ≤ length group
  pub spells : payload ≡ joined rules group
  pub lawful : Continues rules o older group

-- payloads that go on from some entries, of which the last group has r, to others with another last group
abbrev pub Grows : {O E : Type 0} → Rules O E → O → List E → ℕ → List (List ℕ) → List E → ℕ → Type 0
Grows rules o older r [] entries last = (entries ≡ older) × (last ≡ r)
Grows {E = E} rules o older r (p ∷ ps) entries last = (group : List E) × IsGroup rules o older group p × Grows rules o (onto group older) (length group) ps entries last

-- the payloads stand for a list, and for how many of its entries the last of them has
abbrev pub StandFor : {O E : Type 0} → Rules O E → List (List ℕ) → Listed O E → ℕ → Type 0
StandFor rules [] list last = ⊥
StandFor rules (p ∷ ps) list last = rules.IsOpening list.opening × (p ≡ rules.opening_bytes list.opening) × Grows rules list.opening [] 0 ps list.entries last

-- the payloads stand for some list
pub record AreOfList {O E : Type 0} (rules : Rules O E) (payloads : List (List ℕ)) : Type 0 where
  pub list : Listed O E
  pub last : ℕ
  pub stand : StandFor rules payloads list last

-- with this payload more they still do
abbrev pub MayCome : {O E : Type 0} → Rules O E → List (List ℕ) → List ℕ → Type 0
MayCome rules payloads payload = AreOfList rules (payloads ++ payload ∷ [])

-- the image is a journal whose payloads stand for the list
pub record Stands {O E : Type 0} (rules : Rules O E) (image : List ℕ) (list : Listed O E) (last : ℕ) : Type 0 where
  pub payloads : List (List ℕ)
  pub journal : IsJournal image payloads
  pub stand : StandFor rules payloads list last

-- the image stands for no list from the gate at this place on; the first gate is the place where it isn't open at all
abbrev pub IsListDamage : {O E : Type 0} → Rules O E → List ℕ → ℕ → Type 0
IsListDamage rules image place = IsDamaged (MayCome rules) image place ⊎ ((place ≡ header_length) × IsJournal image [])
