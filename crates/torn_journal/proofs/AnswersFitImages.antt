-- What the answers of a resume say leaves one answer to each image.
use Rattle.std.proofs.Common.{ℕ, List, refl, subst, ◌∙◌, ap, Ok, Err, Result, Option, Some, None}
use Rattle.std.specs.Prelude.{IfSome}
use Rattle.site_core.specs.Log.{reads}
use Rattle.site_core.specs.Told.{Told}
use Rattle.torn_journal.specs.declared.faults.ResumeFault.{ResumeFault}
use Rattle.torn_journal.specs.declared.faults.ResumeFault.TheVariants.{SiteFault, NoHeader, Damaged, NoMemory}
use Rattle.torn_journal.specs.Damage.{IsDamaged}
use Rattle.torn_journal.specs.Journal.{tail_of, HasHeader, IsJournal}
use Rattle.torn_journal.specs.Resume.{Says, GivesBack, Refuses, AnswersImage}
use Rattle.torn_journal.specs.Visits.{AllFollow}
use Rattle.torn_journal.proofs.OneDamage.{journal_header, damaged_header, undamaged, one_damage}
use Rattle.torn_journal.proofs.OneList.{one_list}

module _ (follows : List (List ℕ) → List ℕ → Type 0) (stands : List (List ℕ) → Type 0) where
  module _ (site : Told) where
    to_sound : (result : Result ℕ ResumeFault) → Says follows stands (Some site) result → (payloads : List (List ℕ)) → IsJournal (reads site.log) payloads → AllFollow follows payloads → GivesBack stands payloads result
    to_sound (Ok tail) says payloads journal all =
        let same = one_list (reads site.log) says.payloads payloads says.image journal in
        (subst stands same says.stood, says.place ∙ ap tail_of same)
    to_sound (Err NoHeader) says payloads journal all = says (journal_header (reads site.log) payloads journal)
    to_sound (Err (Damaged place)) says payloads journal all = undamaged follows (reads site.log) place (payloads, journal, all) says
    to_sound (Err SiteFault) says payloads journal all = tt
    to_sound (Err NoMemory) says payloads journal all = tt

    to_damaged : (result : Result ℕ ResumeFault) → Says follows stands (Some site) result → (place : ℕ) → IsDamaged follows (reads site.log) place → Refuses (Damaged place) result
    to_damaged (Ok tail) says place damaged = undamaged follows (reads site.log) place (says.payloads, says.image, says.followed) damaged
    to_damaged (Err NoHeader) says place damaged = absurd (says (damaged_header follows (reads site.log) place damaged))
    to_damaged (Err (Damaged found)) says place damaged = ap Damaged (one_damage follows (reads site.log) found place says damaged)
    to_damaged (Err SiteFault) says place damaged = tt
    to_damaged (Err NoMemory) says place damaged = tt

    to_headless : (result : Result ℕ ResumeFault) → Says follows stands (Some site) result → (HasHeader (reads site.log) → ⊥) → Refuses NoHeader result
    to_headless (Ok tail) says headless = headless (journal_header (reads site.log) says.payloads says.image)
    to_headless (Err NoHeader) says headless = refl
    to_headless (Err (Damaged place)) says headless = absurd (headless (damaged_header follows (reads site.log) place says))
    to_headless (Err SiteFault) says headless = tt
    to_headless (Err NoMemory) says headless = tt

  pub fits : (told : Option Told) (result : Result ℕ ResumeFault) → Says follows stands told result → IfSome told (λ site. AnswersImage follows stands (reads site.log) result)
  fits None result says = tt
  fits (Some site) result says = record { sound = to_sound site result says; damaged = to_damaged site result says; headless = to_headless site result says }
