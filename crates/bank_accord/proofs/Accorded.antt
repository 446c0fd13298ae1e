-- A bank's step over a trusted frame keeps accord.
use Rattle.std.proofs.Common.{◌≡◌, ⊎_elim, refl, subst, List, ◌∷◌, Option, Some, None}
use Rattle.std.specs.List.{Contains}
use Rattle.faim_base.specs.declared.ids.Imad.{Imad}
use Rattle.faim_base.specs.declared.judgement.Verdict.{Verdict}
use Rattle.link_frames.specs.Frames.{Content as Frame}
use Rattle.host_ledger.specs.declared.config.Config.{Config}
use Rattle.host_ledger.specs.declared.entries.Entry.{Entry}
use Rattle.bank_books.specs.declared.entries.BankEntry.{BankEntry}
use Rattle.bank_books.specs.declared.entries.BankEntry.TheVariants.{Drafted, Answered, Received}
use Rattle.bank_books.specs.declared.entries.BankOpening.{BankOpening}
use Rattle.bank_books.specs.Lawful.{BankFollows}
use Rattle.faim_model.proofs.Members.{first_or_later}
use Rattle.bank_turns.specs.BankSteps.{adds_to, bank_step}
use Rattle.bank_turns.specs.KeptTexts.{KeptBank}
use Rattle.bank_turns.proofs.Following.{step_follows}
use Rattle.bank_accord.specs.Accord.{Accords, HasVerdict, IsHost, IsTrusted, VerdictsStand}
use Rattle.bank_accord.proofs.Brought.{Brings, step_brings}
use Rattle.bank_accord.proofs.NextOutputs.{next_received}

-- an entry that is no verdict adds none
pub no_verdict : (es : List Entry) (kept : List BankEntry) (x : BankEntry) → ((imad : Imad) (v : Verdict) → Answered imad v ≡ x → ⊥)
    → VerdictsStand es kept → VerdictsStand es (x ∷ kept)
no_verdict es kept x none stand imad v there =
    ⊎_elim (λ (first : Answered imad v ≡ x). absurd (none imad v first)) (λ (later : Contains kept (Answered imad v)). stand imad v later)
    (first_or_later x (Answered imad v) kept there)

-- one that is the host's verdict adds that
pub one_verdict : (es : List Entry) (kept : List BankEntry) (own : Imad) (w : Verdict) → HasVerdict es own w
    → VerdictsStand es kept → VerdictsStand es (Answered own w ∷ kept)
one_verdict es kept own w has stand imad v there =
    ⊎_elim
    (λ (first : Answered imad v ≡ Answered own w). let imads : own ≡ imad = cc in let verdicts : w ≡ v = cc in
    subst (λ (u : Verdict). HasVerdict es imad u) verdicts (subst (λ (n : Imad). HasVerdict es n w) imads has))
    (λ (later : Contains kept (Answered imad v)). stand imad v later)
    (first_or_later (Answered own w) (Answered imad v) kept there)

module _ (c : Config) (es : List Entry) (o : BankOpening) (host : IsHost c es o) where
  entry_accords : (kept : List BankEntry) (x : BankEntry) → KeptBank o kept → BankFollows o kept x → Brings c es o host.sound host.lawful x
      → Accords c es o kept → Accords c es o (x ∷ kept)
  entry_accords kept (Drafted imad text) keeps follows brings accord =
      record { verdicts = no_verdict es kept (Drafted imad text) (λ own v same. absurd cc) accord.verdicts; inbox = accord.inbox }
  entry_accords kept (Answered imad verdict) keeps follows brings accord =
      record { verdicts = one_verdict es kept imad verdict brings accord.verdicts; inbox = accord.inbox }
  entry_accords kept (Received at text next) keeps follows brings accord = record {
    verdicts = no_verdict es kept (Received at text next) (λ own v same. absurd cc) accord.verdicts;
    inbox = next_received c es o kept host keeps at text next brings.item follows.position brings.there brings.shows accord.inbox;
  }

  added_accords : (kept : List BankEntry) (adds : Option BankEntry) → ((x : BankEntry) → adds ≡ Some x → Accords c es o (x ∷ kept))
      → Accords c es o kept → Accords c es o (adds_to adds kept)
  added_accords kept None with_it accord = accord
  added_accords kept (Some x) with_it accord = with_it x refl

  pub step_accords : (kept : List BankEntry) (f : Frame) → KeptBank o kept → IsTrusted c es f → Accords c es o kept
      → Accords c es o (adds_to (bank_step o kept f).adds kept)
  step_accords kept f keeps trusted accord =
      added_accords kept (bank_step o kept f).adds
      (λ x adds. entry_accords kept x keeps (step_follows o kept f x adds) (step_brings c es o host.sound host.lawful kept f trusted x adds) accord) accord
