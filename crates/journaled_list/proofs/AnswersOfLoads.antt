-- What the answers of a journal's reading say of the list that its image stands for.
use Rattle.std.proofs.Common.{◌≡◌, inr, ⊎_elim, ℕ, List, [], refl, sym, ◌∙◌, ap, subst, Ok, Err, Option, Some, None}
use Rattle.std.specs.Prelude.{IfSome}
use Rattle.site_core.specs.Log.{reads}
use Rattle.site_core.specs.Told.{Told}
use Rattle.torn_journal.specs.Journal.{IsJournal}
use Rattle.torn_journal.specs.Resume as journals
use Rattle.torn_journal.specs.declared.faults.ResumeFault.{ResumeFault}
use Rattle.torn_journal.specs.declared.faults.ResumeFault.TheVariants as resume_faults
use Rattle.journaled_list.specs.declared.faults.OpenFault.TheVariants.{NoHeader, Damaged}
use Rattle.journaled_list.specs.Rules.{Rules, Listed, AreReadOnce}
use Rattle.journaled_list.specs.Payloads.{StandFor, MayCome, IsListDamage}
use Rattle.journaled_list.specs.Reading.{IsLoaded}
use Rattle.journaled_list.specs.Loading.{Found, Finds, AnswersImage}
use Rattle.journaled_list.proofs.ListsOfPayloads.{all_follow}
use Rattle.journaled_list.proofs.Images.{one_listed}

pub if_some_as : (P Q : Told → Type 0) (a : Option Told) → ((x : Told) → P x → Q x) → IfSome a P → IfSome a Q
if_some_as P Q None f p = tt
if_some_as P Q (Some x) f p = f x p

place_of : ResumeFault → ℕ
place_of (resume_faults.Damaged place) = place
place_of other = 0

module _ {L O E : Type 0} (rules : Rules O E) (list_of : L → Listed O E) where
  abbrev stood : Option L → ℕ → List (List ℕ) → Type 0
  stood v last = IsLoaded rules list_of v last

  -- a list was found
  pub finds : (v : Option L) (l : L) (last tail : ℕ) (told : Option Told) → v ≡ Some l → journals.Finds (MayCome rules) (stood v last) told tail
      → Finds rules told (record { list = list_of l; last = last; tail = tail })
  finds v l last tail told is f = record {
    payloads = f.payloads;
    stand = subst (λ (o : Option L). IsLoaded rules list_of o last f.payloads) is f.stood;
    place = f.place;
    small = f.small;
    image = f.image;
  }

  -- no payload was found
  pub finds_none : (v : Option L) (last tail : ℕ) (told : Option Told) → v ≡ None → journals.Finds (MayCome rules) (stood v last) told tail
      → IfSome told (λ site. IsListDamage rules (reads site.log) 16)
  finds_none v last tail told is f =
      let none : f.payloads ≡ [] = subst (λ (o : Option L). IsLoaded rules list_of o last f.payloads) is f.stood in
      if_some_as (λ site. IsJournal (reads site.log) f.payloads) (λ site. IsListDamage rules (reads site.log) 16) told
      (λ site journal. inr (refl, subst (λ (l : List (List ℕ)). IsJournal (reads site.log) l) none journal)) f.image

  module _ (v : Option L) (last : ℕ) (image : List ℕ) where
    -- an image that stands for a list is read as it
    pub answers_found : {T : Type 0} (view : T → Found O E) (kept : T) (l : L) (tail : ℕ) → AreReadOnce rules → v ≡ Some l → view kept ≡ record { list = list_of l; last = last; tail = tail }
        → journals.AnswersImage (MayCome rules) (stood v last) image (Ok tail) → AnswersImage rules view image (Ok kept)
    answers_found view kept l tail once is viewed answers = record {
      sound = λ list r stands.
          let back = answers.sound stands.payloads stands.journal (all_follow rules stands.payloads list r stands.stand) in
          let stand : StandFor rules stands.payloads (list_of l) last = subst (λ (o : Option L). IsLoaded rules list_of o last stands.payloads) is back.0 in
          let one = one_listed rules once image stands.payloads (list_of l) list last r stands.journal stand stands in
          (ap (λ (f : Found O E). f.list) viewed ∙ one.list, ap (λ (f : Found O E). f.last) viewed ∙ one.last);
      damaged = λ place bad. ⊎_elim
          (λ d. answers.damaged place d)
          (λ e. subst (λ (o : Option L). IsLoaded rules list_of o last []) is (answers.sound [] e.1 tt).0)
          bad;
      headless = λ none. answers.headless none;
    }

    pub answers_none : {T : Type 0} (view : T → Found O E) (tail : ℕ) → v ≡ None → journals.AnswersImage (MayCome rules) (stood v last) image (Ok tail) → AnswersImage rules view image (Err (Damaged 16))
    answers_none view tail is answers = record {
      sound = λ list r stands.
          let back = answers.sound stands.payloads stands.journal (all_follow rules stands.payloads list r stands.stand) in
          let none : stands.payloads ≡ [] = subst (λ (o : Option L). IsLoaded rules list_of o last stands.payloads) is back.0 in
          subst (λ (l : List (List ℕ)). StandFor rules l list r) none stands.stand;
      damaged = λ place bad. ⊎_elim (λ d. absurd (answers.damaged place d)) (λ e. ap (λ k. Damaged k) (sym e.0)) bad;
      headless = λ none. absurd (answers.headless none);
    }

    pub answers_headless : {T : Type 0} (view : T → Found O E) → journals.AnswersImage (MayCome rules) (stood v last) image (Err resume_faults.NoHeader) → AnswersImage rules view image (Err NoHeader)
    answers_headless view answers = record {
      sound = λ list r stands. answers.sound stands.payloads stands.journal (all_follow rules stands.payloads list r stands.stand);
      damaged = λ place bad. ⊎_elim (λ d. let same : resume_faults.NoHeader ≡ resume_faults.Damaged place = answers.damaged place d in absurd cc) (λ e. absurd (answers.sound [] e.1 tt)) bad;
      headless = λ none. refl;
    }

    pub answers_damaged : {T : Type 0} (view : T → Found O E) (at : ℕ) → journals.AnswersImage (MayCome rules) (stood v last) image (Err (resume_faults.Damaged at)) → AnswersImage rules view image (Err (Damaged at))
    unfolding place_of
    answers_damaged view at answers = record {
      sound = λ list r stands. answers.sound stands.payloads stands.journal (all_follow rules stands.payloads list r stands.stand);
      damaged = λ place bad. ⊎_elim (λ d. ap (λ f. Damaged (place_of f)) (answers.damaged place d)) (λ e. absurd (answers.sound [] e.1 tt)) bad;
      headless = λ none. let same : resume_faults.Damaged at ≡ resume_faults.NoHeader = answers.headless none in absurd cc;
    }
