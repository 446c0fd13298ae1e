-- What an image says of the list that it stands for.
use Rattle.std.proofs.Common.{◌≡◌, ◌⊎◌, inl, inr, ⊎_elim, ℕ, ◌≤◌, List, [], ◌∷◌, ◌++◌, length, refl, sym, ◌∙◌, subst, append_assoc}
use Rattle.torn_journal.specs.Damage.{IsDamaged, IsSound}
use Rattle.torn_journal.specs.Journal.{HasHeader, IsJournal}
use Rattle.torn_journal.proofs.OneDamage.{undamaged, one_damage, damaged_header, journal_header}
use Rattle.torn_journal.proofs.OneList as images
use Rattle.torn_journal.specs.Limits.{header_length}
use Rattle.torn_journal.specs.Visits.{FollowsFrom, AllFollow}
use Rattle.journaled_list.specs.Rules.{Rules, Listed, AreReadOnce, IsLawful}
use Rattle.journaled_list.specs.Payloads.{StandFor, Stands, AreOfList, MayCome, IsListDamage}
use Rattle.journaled_list.proofs.ListsOfPayloads.{OneList, one_list, all_follow, stand_lawful, stand_last}

module _ {O E : Type 0} (rules : Rules O E) where
  sound : (image : List ℕ) (list : Listed O E) (r : ℕ) → Stands rules image list r → IsSound (MayCome rules) image
  sound image list r stands = (stands.payloads, stands.journal, all_follow rules stands.payloads list r stands.stand)

  pub no_payload : (image : List ℕ) (list : Listed O E) (r : ℕ) → Stands rules image list r → IsJournal image [] → ⊥
  no_payload image list r stands empty =
      subst (λ (l : List (List ℕ)). StandFor rules l list r) (images.one_list image stands.payloads [] stands.journal empty) stands.stand

  empty_sound : (image : List ℕ) → IsJournal image [] → IsSound (MayCome rules) image
  empty_sound image empty = ([], empty, tt)

  pub whole : (image : List ℕ) (list : Listed O E) (r place : ℕ) → Stands rules image list r → IsListDamage rules image place → ⊥
  whole image list r place stands bad = ⊎_elim
      (λ d. undamaged (MayCome rules) image place (sound image list r stands) d)
      (λ e. no_payload image list r stands e.1)
      bad

  pub stands_header : (image : List ℕ) (list : Listed O E) (r : ℕ) → Stands rules image list r → HasHeader image
  stands_header image list r stands = journal_header image stands.payloads stands.journal

  pub headed : (image : List ℕ) (place : ℕ) → IsListDamage rules image place → HasHeader image
  headed image place bad = ⊎_elim (λ d. damaged_header (MayCome rules) image place d) (λ e. journal_header image [] e.1) bad

  pub one_place : (image : List ℕ) (a b : ℕ) → IsListDamage rules image a → IsListDamage rules image b → a ≡ b
  one_place image a b bad worse = ⊎_elim
      (λ d. ⊎_elim (λ e. one_damage (MayCome rules) image a b d e) (λ f. absurd (undamaged (MayCome rules) image a (empty_sound image f.1) d)) worse)
      (λ f. ⊎_elim (λ e. absurd (undamaged (MayCome rules) image b (empty_sound image f.1) e)) (λ g. f.0 ∙ sym g.0) worse)
      bad

  pub lawful : (image : List ℕ) (list : Listed O E) (r : ℕ) → Stands rules image list r → IsLawful rules list
  lawful image list r stands = stand_lawful rules stands.payloads list r stands.stand

  pub last : (image : List ℕ) (list : Listed O E) (r : ℕ) → Stands rules image list r → r ≤ length list.entries
  last image list r stands = stand_last rules stands.payloads list r stands.stand

-- payloads of the image that stand for a list
module _ {O E : Type 0} (rules : Rules O E) (once : AreReadOnce rules) where
  pub one_listed : (image : List ℕ) (payloads : List (List ℕ)) (a b : Listed O E) (r m : ℕ) → IsJournal image payloads → StandFor rules payloads a r → Stands rules image b m → OneList a b r m
  one_listed image payloads a b r m journal stand stands =
      let same = images.one_list image stands.payloads payloads stands.journal journal in
      one_list rules once payloads a b r m stand (subst (λ (l : List (List ℕ)). StandFor rules l b m) same stands.stand)

  pub once_only : (image : List ℕ) (a b : Listed O E) (r m : ℕ) → Stands rules image a r → Stands rules image b m → (a ≡ b) × (r ≡ m)
  once_only image a b r m p q = let one = one_listed image p.payloads a b r m p.journal p.stand q in (one.list, one.last)

-- payloads each of which may come are those of a list, where there is one
follows_of : {O E : Type 0} (rules : Rules O E) (before : List (List ℕ)) (p : List ℕ) (ps : List (List ℕ)) → FollowsFrom (MayCome rules) before (p ∷ ps) → AreOfList rules (before ++ p ∷ ps)
follows_of rules before p [] follows = follows.0
follows_of rules before p (q ∷ qs) follows = subst (AreOfList rules) (append_assoc before (p ∷ []) (q ∷ qs)) (follows_of rules (before ++ p ∷ []) q qs follows.1)

module _ {O E : Type 0} (rules : Rules O E) (image : List ℕ) where
  abbrev pub StandsOrNot : Type 0
  StandsOrNot = ((list : Listed O E) × (r : ℕ) × Stands rules image list r) ⊎ ((place : ℕ) × IsListDamage rules image place)

  of_payloads : (payloads : List (List ℕ)) → IsJournal image payloads → AllFollow (MayCome rules) payloads → StandsOrNot
  of_payloads [] journal follows = inr (header_length, inr (refl, journal))
  of_payloads (p ∷ ps) journal follows =
      let are = follows_of rules [] p ps follows in
      inl (are.list, are.last, record { payloads = p ∷ ps; journal = journal; stand = are.stand })

  pub stands_or_not : IsSound (MayCome rules) image ⊎ ((place : ℕ) × IsDamaged (MayCome rules) image place) → StandsOrNot
  stands_or_not judged = ⊎_elim (λ s. of_payloads s.0 s.1 s.2) (λ d. inr (d.0, inl d.1)) judged
