-- Payloads stand for one list at most, and what may come after them is a group.
use Rattle.std.proofs.Common.{◌≡◌, ℕ, ◌≤◌, List, [], ◌∷◌, ◌++◌, length, refl, sym, ◌∙◌, ap, subst, arith}
use Rattle.torn_journal.specs.Visits.{FollowsFrom, AllFollow}
use Rattle.journaled_list.specs.Rules.{Rules, Listed, AreReadOnce, AllFollowed, IsLawful}
use Rattle.journaled_list.specs.Payloads.{onto, with_group, IsGroup, Grows, StandFor, MayCome}
use Rattle.journaled_list.proofs.Groups.{followed_onto, one_group, length-onto}

module _ {O E : Type 0} (rules : Rules O E) where
  -- a group more
  grows-push : (o : O) (older : List E) (r : ℕ) (ps : List (List ℕ)) (es : List E) (n : ℕ) (group : List E) (p : List ℕ)
      → Grows rules o older r ps es n → IsGroup rules o es group p → Grows rules o older r (ps ++ p ∷ []) (onto group es) (length group)
  grows-push o older r [] es n group p grows is =
      let is' : IsGroup rules o older group p = subst (λ (l : List E). IsGroup rules o l group p) grows.0 is in
      (group, is', (ap (λ (l : List E). onto group l) grows.0, refl))
  grows-push o older r (q ∷ qs) es n group p grows is = (grows.0, grows.1, grows-push o (onto grows.0 older) (length grows.0) qs es n group p grows.2 is)

  pub stand-push : (ps : List (List ℕ)) (list : Listed O E) (r : ℕ) (group : List E) (p : List ℕ)
      → StandFor rules ps list r → IsGroup rules list.opening list.entries group p → StandFor rules (ps ++ p ∷ []) (with_group list group) (length group)
  stand-push [] list r group p stand is = absurd stand
  stand-push (q ∷ qs) list r group p stand is = (stand.0, stand.1, grows-push list.opening [] 0 qs list.entries r group p stand.2 is)

  pub of_one : (p : List ℕ) (o : O) → rules.IsOpening o → p ≡ rules.opening_bytes o → StandFor rules (p ∷ []) (record { opening = o; entries = [] }) 0
  of_one p o fit is = (fit, is, (refl, refl))

-- the last payload of some, and those before it
pub record Before {O E : Type 0} (rules : Rules O E) (o : O) (older : List E) (r : ℕ) (ps : List (List ℕ)) (p : List ℕ) : Type 0 where
  pub entries : List E
  pub last : ℕ
  pub grows : Grows rules o older r ps entries last
  pub group : List E
  pub is : IsGroup rules o entries group p

module _ {O E : Type 0} (rules : Rules O E) where
  grows-back : (o : O) (older : List E) (r : ℕ) (ps : List (List ℕ)) (p : List ℕ) (es : List E) (n : ℕ)
      → Grows rules o older r (ps ++ p ∷ []) es n → Before rules o older r ps p
  grows-back o older r [] p es n grows = record { entries = older; last = r; grows = (refl, refl); group = grows.0; is = grows.1 }
  grows-back o older r (q ∷ qs) p es n grows =
      let b = grows-back o (onto grows.0 older) (length grows.0) qs p es n grows.2 in
      record { entries = b.entries; last = b.last; grows = (grows.0, grows.1, b.grows); group = b.group; is = b.is }

pub record OneList {O E : Type 0} (a b : Listed O E) (r m : ℕ) : Type 0 where
  pub list : a ≡ b
  pub last : r ≡ m

module _ {O E : Type 0} (rules : Rules O E) (once : AreReadOnce rules) where
  one_growth : (o : O) (older : List E) (r : ℕ) (ps : List (List ℕ)) (es : List E) (n : ℕ) (fs : List E) (m : ℕ)
      → Grows rules o older r ps es n → Grows rules o older r ps fs m → (es ≡ fs) × (n ≡ m)
  one_growth o older r [] es n fs m a b = (a.0 ∙ sym b.0, a.1 ∙ sym b.1)
  one_growth o older r (p ∷ ps) es n fs m a b =
      let same : a.0 ≡ b.0 = one_group rules once o older a.0 b.0 a.1.lawful b.1.lawful (sym a.1.spells ∙ b.1.spells) in
      let b' : Grows rules o (onto a.0 older) (length a.0) ps fs m = subst (λ (g : List E). Grows rules o (onto g older) (length g) ps fs m) (sym same) b.2 in
      one_growth o (onto a.0 older) (length a.0) ps es n fs m a.2 b'

  same_opening : (a b : O) (p : List ℕ) → rules.IsOpening a → rules.IsOpening b → p ≡ rules.opening_bytes a → p ≡ rules.opening_bytes b → a ≡ b
  same_opening a b p fit fits is also = once.one_opening a b fit fits (sym is ∙ also)

  -- payloads stand for one list and one count at most
  pub one_list : (ps : List (List ℕ)) (a b : Listed O E) (r m : ℕ) → StandFor rules ps a r → StandFor rules ps b m → OneList a b r m
  one_list [] a b r m p q = absurd p
  one_list (x ∷ xs) a b r m p q =
      let same : a.opening ≡ b.opening = same_opening a.opening b.opening x p.0 q.0 p.1 q.1 in
      let q' : Grows rules a.opening [] 0 xs b.entries m = subst (λ (o : O). Grows rules o [] 0 xs b.entries m) (sym same) q.2 in
      let both = one_growth a.opening [] 0 xs a.entries r b.entries m p.2 q' in
      record {
        list = ap (λ (o : O). record { opening = o; entries = a.entries }) same ∙ ap (λ (l : List E). record { opening = b.opening; entries = l }) both.0;
        last = both.1;
      }

  -- what may come behind payloads that stand for a list is a group
  pub next_group : (ps : List (List ℕ)) (list : Listed O E) (r : ℕ) (p : List ℕ) → StandFor rules ps list r → MayCome rules ps p → (group : List E) × IsGroup rules list.opening list.entries group p
  next_group [] list r p stand come = absurd stand
  next_group (q ∷ qs) list r p stand come =
      let o = come.list.opening in
      let theirs : StandFor rules (q ∷ (qs ++ p ∷ [])) come.list come.last = come.stand in
      let same : o ≡ list.opening = same_opening o list.opening q theirs.0 stand.0 theirs.1 stand.1 in
      let grown : Grows rules list.opening [] 0 (qs ++ p ∷ []) come.list.entries come.last = subst (λ (x : O). Grows rules x [] 0 (qs ++ p ∷ []) come.list.entries come.last) same theirs.2 in
      let b = grows-back rules list.opening [] 0 qs p come.list.entries come.last grown in
      let both = one_growth list.opening [] 0 qs b.entries b.last list.entries r b.grows stand.2 in
      (b.group, subst (λ (l : List E). IsGroup rules list.opening l b.group p) both.0 b.is)

module _ {O E : Type 0} (rules : Rules O E) where
  -- the first payload is an opening
  pub first_opening : (p : List ℕ) → MayCome rules [] p → (o : O) × rules.IsOpening o × (p ≡ rules.opening_bytes o)
  first_opening p come = (come.list.opening, come.stand.0, come.stand.1)

  -- the entries are lawful
  grows_lawful : (o : O) (older : List E) (r : ℕ) (ps : List (List ℕ)) (es : List E) (n : ℕ) → AllFollowed rules o older → Grows rules o older r ps es n → AllFollowed rules o es
  grows_lawful o older r [] es n lawful grows = subst (λ (l : List E). AllFollowed rules o l) (sym grows.0) lawful
  grows_lawful o older r (p ∷ ps) es n lawful grows =
      grows_lawful o (onto grows.0 older) (length grows.0) ps es n (followed_onto rules o older grows.0 lawful grows.1.lawful) grows.2

  pub stand_lawful : (ps : List (List ℕ)) (list : Listed O E) (r : ℕ) → StandFor rules ps list r → IsLawful rules list
  stand_lawful [] list r stand = absurd stand
  stand_lawful (p ∷ ps) list r stand = record { opening = stand.0; entries = grows_lawful list.opening [] 0 ps list.entries r tt stand.2 }

  -- the last payload's entries are some of them
  grows_last : (o : O) (older : List E) (r : ℕ) (ps : List (List ℕ)) (es : List E) (n : ℕ) → r ≤ length older → Grows rules o older r ps es n → n ≤ length es
  grows_last o older r [] es n few grows = omega (arith, few, grows.1, ap length grows.0)
  grows_last o older r (p ∷ ps) es n few grows = grows_last o (onto grows.0 older) (length grows.0) ps es n (omega (arith, length-onto grows.0 older)) grows.2

  pub stand_last : (ps : List (List ℕ)) (list : Listed O E) (r : ℕ) → StandFor rules ps list r → r ≤ length list.entries
  stand_last [] list r stand = absurd stand
  stand_last (p ∷ ps) list r stand = grows_last list.opening [] 0 ps list.entries r (omega arith) stand.2

  -- each payload may come behind those before it
  grows_follow : (first : List ℕ) (before : List (List ℕ)) (o : O) (older : List E) (r : ℕ) (ps : List (List ℕ)) (es : List E) (n : ℕ)
      → StandFor rules (first ∷ before) (record { opening = o; entries = older }) r → Grows rules o older r ps es n → FollowsFrom (MayCome rules) (first ∷ before) ps
  grows_follow first before o older r [] es n stand grows = tt
  grows_follow first before o older r (p ∷ ps) es n stand grows =
      let next : StandFor rules (first ∷ (before ++ p ∷ [])) (record { opening = o; entries = onto grows.0 older }) (length grows.0) =
      stand-push rules (first ∷ before) (record { opening = o; entries = older }) r grows.0 p stand grows.1 in (
        record { list = record { opening = o; entries = onto grows.0 older }; last = length grows.0; stand = next },
        grows_follow first (before ++ p ∷ []) o (onto grows.0 older) (length grows.0) ps es n next grows.2,
      )

  pub all_follow : (ps : List (List ℕ)) (list : Listed O E) (r : ℕ) → StandFor rules ps list r → AllFollow (MayCome rules) ps
  all_follow [] list r stand = absurd stand
  all_follow (p ∷ ps) list r stand =
      let opened : StandFor rules (p ∷ []) (record { opening = list.opening; entries = [] }) 0 = of_one rules p list.opening stand.0 stand.1 in
      (record { list = record { opening = list.opening; entries = [] }; last = 0; stand = opened }, grows_follow p [] list.opening [] 0 ps list.entries r opened stand.2)
