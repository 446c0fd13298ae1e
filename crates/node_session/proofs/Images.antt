-- What the end of a session says of its image.
use Rattle.std.proofs.Common.{◌≡◌, ◌≢◌, ◌⊎◌, inl, inr, ℕ, List, refl, ap, Option, Some, None, Result, Ok, Err}
use Rattle.std.specs.Prelude.{IfSome}
use Rattle.site_core.specs.Log.{reads}
use Rattle.site_core.specs.Told.{Told}
use Rattle.torn_journal.specs.Journal.{HasHeader}
use Rattle.journaled_list.specs.declared.faults.OpenFault.{OpenFault}
use Rattle.journaled_list.specs.declared.faults.OpenFault.TheVariants as opens
use Rattle.journaled_list.specs.Loading.{GivesList, Refuses}
use Rattle.journaled_list.specs.Loading.{AnswersImage as AnswersList}
use Rattle.journaled_list.specs.Payloads.{IsListDamage, Stands}
use Rattle.journaled_list.specs.Rules.{Listed}
use Rattle.journaled_steps.specs.Node.{Node, found_of}
use Rattle.line_sessions.specs.declared.ends.SessionEnd.{SessionEnd}
use Rattle.line_sessions.specs.declared.ends.SessionEnd.TheVariants as ends
use Rattle.node_session.specs.Ending.{Answered, AnswersImage}
use Rattle.node_session.specs.Ends.{open_end}
use Rattle.node_session.specs.Going.{IsLaterEnd}
use Rattle.node_session.specs.Kinds.{Kind, KeptStands}

-- an image that is damaged nowhere and has the header
pub record IsSound {O E X A K : Type 0} (kind : Kind O E X A K) (image : List ℕ) : Type 0 where
  pub whole : (place : ℕ) → ¬ (IsListDamage kind.rules image place)
  pub headed : ¬ (¬ HasHeader image)

-- a node is opened, or it isn't
abbrev pub opened : {O E : Type 0} → Node O E → Result (Node O E) OpenFault
opened node = Ok node

abbrev pub unopened : {O E : Type 0} → OpenFault → Result (Node O E) OpenFault
unopened fault = Err fault

abbrev ended_as : SessionEnd → Result (Unit {0}) SessionEnd
ended_as end = Err end

module _ {O E X A K : Type 0} (kind : Kind O E X A K) where
  pub sound_image : (image : List ℕ) (node : Node O E) → AnswersList kind.rules found_of image (opened node) → IsSound kind image
  sound_image image node says = record { whole = says.damaged; headed = says.headless }

  not_answered : (image : List ℕ) (fault : OpenFault) → ((list : Listed O E) (last : ℕ) → Stands kind.rules image list last → GivesList found_of list last (unopened fault))
      → (kept : K) → KeptStands kind image kept → (ended_as (open_end fault) ≢ Err ends.NoJournal) × ((place : ℕ) → ended_as (open_end fault) ≢ Err (ends.Damaged place))
  not_answered image opens.SiteFault gives kept stands = (λ e. absurd cc, λ place e. absurd cc)
  not_answered image opens.LineFault gives kept stands = (λ e. absurd cc, λ place e. absurd cc)
  not_answered image opens.NoHeader gives kept stands = absurd (gives (kind.list_of kept) (kind.recent_of kept) stands)
  not_answered image (opens.Damaged place) gives kept stands = absurd (gives (kind.list_of kept) (kind.recent_of kept) stands)
  not_answered image opens.NoMemory gives kept stands = (λ e. absurd cc, λ place e. absurd cc)

  refused_as : (why fault : OpenFault) → Refuses why (unopened {O = O} {E = E} fault) → Answered (open_end why) (Err (open_end fault))
  refused_as why opens.SiteFault is = inr (inl refl)
  refused_as why opens.LineFault is = absurd is
  refused_as why opens.NoHeader is = inl (ap (λ (f : OpenFault). Err (open_end f)) is)
  refused_as why (opens.Damaged place) is = inl (ap (λ (f : OpenFault). Err (open_end f)) is)
  refused_as why opens.NoMemory is = inr (inr refl)

  pub answers_unopened : (image : List ℕ) (fault : OpenFault) → AnswersList kind.rules found_of image (unopened fault) → AnswersImage kind image (Err (open_end fault))
  answers_unopened image fault says = record {
    sound = not_answered image fault says.sound;
    damaged = λ place damaged. refused_as (opens.Damaged place) fault (says.damaged place damaged);
    headless = λ none. refused_as opens.NoHeader fault (says.headless none);
  }

  sound_done : (image : List ℕ) → IsSound kind image → AnswersImage kind image (Ok tt)
  sound_done image sound = record {
    sound = λ kept stands. (λ e. absurd cc, λ place e. absurd cc);
    damaged = λ place damaged. absurd (sound.whole place damaged);
    headless = λ none. absurd (sound.headed none);
  }

  later_not : (end : SessionEnd) → IsLaterEnd end → (ended_as end ≢ Err ends.NoJournal) × ((place : ℕ) → ended_as end ≢ Err (ends.Damaged place))
  later_not ends.ReadFault is = (λ e. absurd cc, λ place e. absurd cc)
  later_not (ends.Frame fault) is = (λ e. absurd cc, λ place e. absurd cc)
  later_not ends.TooLong is = (λ e. absurd cc, λ place e. absurd cc)
  later_not ends.ClockFault is = (λ e. absurd cc, λ place e. absurd cc)
  later_not ends.DiskFault is = (λ e. absurd cc, λ place e. absurd cc)
  later_not ends.LineFault is = (λ e. absurd cc, λ place e. absurd cc)
  later_not ends.NoJournal is = absurd is
  later_not (ends.Damaged place) is = absurd is
  later_not (ends.JournalFull tail need) is = (λ e. absurd cc, λ place e. absurd cc)
  later_not ends.NoMemory is = (λ e. absurd cc, λ place e. absurd cc)

  sound_later : (image : List ℕ) (end : SessionEnd) → IsLaterEnd end → IsSound kind image → AnswersImage kind image (Err end)
  sound_later image end later sound = record {
    sound = λ kept stands. later_not end later;
    damaged = λ place damaged. absurd (sound.whole place damaged);
    headless = λ none. absurd (sound.headed none);
  }

  if_known : (P Q : Told → Type 0) (a : Option Told) → ((x : Told) → P x → Q x) → IfSome a P → IfSome a Q
  if_known P Q None h p = tt
  if_known P Q (Some x) h p = h x p

  pub known_sound : (a : Option Told) (node : Node O E) → IfSome a (λ x. AnswersList kind.rules found_of (reads x.log) (opened node)) → IfSome a (λ x. IsSound kind (reads x.log))
  known_sound a node says = if_known (λ x. AnswersList kind.rules found_of (reads x.log) (opened node)) (λ x. IsSound kind (reads x.log)) a (λ x p. sound_image (reads x.log) node p) says

  pub known_done : (a : Option Told) → IfSome a (λ x. IsSound kind (reads x.log)) → IfSome a (λ x. AnswersImage kind (reads x.log) (Ok tt))
  known_done a sound = if_known (λ x. IsSound kind (reads x.log)) (λ x. AnswersImage kind (reads x.log) (Ok tt)) a (λ x p. sound_done (reads x.log) p) sound

  pub known_later : (a : Option Told) (end : SessionEnd) → IsLaterEnd end → IfSome a (λ x. IsSound kind (reads x.log)) → IfSome a (λ x. AnswersImage kind (reads x.log) (Err end))
  known_later a end later sound = if_known (λ x. IsSound kind (reads x.log)) (λ x. AnswersImage kind (reads x.log) (Err end)) a (λ x p. sound_later (reads x.log) end later p) sound

  pub known_unopened : (a : Option Told) (fault : OpenFault) → IfSome a (λ x. AnswersList kind.rules found_of (reads x.log) (unopened fault)) → IfSome a (λ x. AnswersImage kind (reads x.log) (Err (open_end fault)))
  known_unopened a fault says =
      if_known (λ x. AnswersList kind.rules found_of (reads x.log) (unopened fault)) (λ x. AnswersImage kind (reads x.log) (Err (open_end fault))) a (λ x p. answers_unopened (reads x.log) fault p) says
