-- A host's step leaves a safe world, however it lands, and so do the frames of a resume.
use Rattle.std.proofs.Common.{◌≡◌, ⊎_elim, sym, subst, ap, ℕ, ◌≤◌, ◌==◌, Bool, true, false, List, [], ◌∷◌, ◌++◌, length, take, Option, Some, None, arith}
use Rattle.std.specs.List.{Contains}
use Rattle.std.proofs.lemmas.List.Elements.{Contains-append_cases}
use Rattle.faim_base.specs.declared.judgement.Head.{Head}
use Rattle.faim_base.specs.declared.judgement.Reject.{Reject}
use Rattle.faim_base.specs.declared.judgement.Verdict.{Verdict}
use Rattle.faim_base.specs.Numbers.{IsMoment}
use Rattle.link_frames.specs.declared.frame.FrameKind.{FrameKind}
use Rattle.link_frames.specs.Frames.{Content as Frame, IsFrame}
use Rattle.host_ledger.specs.declared.config.Config.{Config}
use Rattle.host_ledger.specs.declared.entries.Entry.{Entry}
use Rattle.host_ledger.specs.declared.entries.Entry.TheVariants.{Posted, Roll}
use Rattle.bank_books.specs.declared.entries.BankEntry.{BankEntry}
use Rattle.bank_books.specs.declared.entries.BankOpening.{BankOpening}
use Rattle.faim_model.specs.Frames.{Covered}
use Rattle.faim_model.specs.Landing.{InOrder, kept_of}
use Rattle.faim_model.specs.Lawful.{last_moment}
use Rattle.faim_model.specs.Sessions.{recent_with}
use Rattle.faim_model.specs.Steps.{HostStep, host_step}
use Rattle.faim_model.specs.Submissions.{Numbered, submission}
use Rattle.faim_model.specs.Turns.{adds_to, effective}
use Rattle.faim_model.proofs.Drawn.{from_take}
use Rattle.faim_model.proofs.Landings.{landed_covered, landed_lawful}
use Rattle.faim_model.proofs.Members.{first_or_later}
use Rattle.faim_model.proofs.SendingLemmas.{resume_covered}
use Rattle.faim_model.proofs.StepCases.{StepCase, Submits, Retrieves, GoesOn, StaysAt, Refuses, New, Again, Away, step_case}
use Rattle.faim_model.proofs.Stepping.{step_in_calendar}
use Rattle.bank_accord.specs.Accord.{Accords}
use Rattle.bank_accord.proofs.Growing.{accord_outlasts}
use Rattle.world_model.specs.Worlds.{HasBank, World, opening_at}
use Rattle.world_model.specs.Ways.{host_lands, owed, resume_lands, resumed}
use Rattle.world_model.specs.Safety.{IsDraftOf, IsFromBank, Safe}

-- a frame that may reach the host of a safe world: a message in it whose source is a bank is that bank's draft
pub record MayReachHost (w : World) (f : Frame) : Type 0 where
  pub sound : IsFrame f
  pub posts : (h : Head) (body : List ℕ) (mark : ℕ) (failed : Option Reject) → f.kind ≡ FrameKind.Submit
      → submission w.config.env f.payload ≡ Numbered h body mark failed → h.imad.source ≡ f.endpoint → HasBank w h.imad.source
      → IsDraftOf (w.books h.imad.source) h.imad body

-- what an entry more leaves of an accord
accords_with : (c : Config) (es : List Entry) (adds : Option Entry) (o : BankOpening) (kept : List BankEntry) → Accords c es o kept → Accords c (adds_to adds es) o kept
accords_with c es None o kept accord = accord
accords_with c es (Some x) o kept accord = accord_outlasts c es (x ∷ []) o kept accord

recent_fits : (r : ℕ) (adds : Option Entry) (es : List Entry) → r ≤ length es → recent_with r adds ≤ length (adds_to adds es)
recent_fits r None es fits = fits
recent_fits r (Some x) es fits = omega arith

pub accord_of : (w : World) (e : List ℕ) → Safe w → HasBank w e → Accords w.config w.entries (opening_at w.config e) (w.books e)
accord_of w e s bank = record { verdicts = s.verdicts e bank; inbox = s.inboxes e bank }

-- the frames that were sent to the host come from banks, whatever else changes
pub still_from_bank : (w : World) (entries : List Entry) (recent : ℕ) (from_host : List Frame) (f : Frame) → IsFromBank w f
    → IsFromBank (record w { entries = entries; recent = recent; from_host = from_host }) f
still_from_bank w entries recent from_host f from = record { bank = from.bank; is = from.is }

-- frames more that the list covers
pub sends_safe : (w : World) (frames : List Frame) → Safe w → ((f : Frame) → Contains frames f → Covered w.config w.entries f)
    → Safe (record w { from_host = w.from_host ++ frames })
sends_safe w frames s covered = record {
  values = record { config = s.values.config; distinct = s.values.distinct; served = s.values.served; clock = s.values.clock; newest = s.values.newest };
  lawful = s.lawful;
  recent = s.recent;
  covered = λ f there. ⊎_elim (λ (old : Contains w.from_host f). s.covered f old) (λ (new : Contains frames f). covered f new) (Contains-append_cases w.from_host frames f there);
  banks = s.banks;
  submits = λ f there. still_from_bank w w.entries w.recent (w.from_host ++ frames) f (s.submits f there);
  bodies = s.bodies;
  verdicts = s.verdicts;
  inboxes = s.inboxes;
}

pub resume_safe : (w : World) (n : ℕ) → Safe w → Safe (resume_lands w n)
resume_safe w n s =
    sends_safe w (take n (owed w)) s (λ f there. resume_covered w.config w.entries w.recent f (from_take n (owed w) f there))

pub resumed_safe : (w : World) → Safe w → Safe (resumed w)
resumed_safe w s = sends_safe w (owed w) s (λ f there. resume_covered w.config w.entries w.recent f there)

module _ (w : World) (f : Frame) (s : Safe w) (reach : MayReachHost w f) where
  abbrev step : HostStep
  step = host_step w.config w.entries f w.moment

  -- a message that a step posts, whose source is a bank, is that bank's draft
  abbrev AddsDrafts : Option Entry → Type 0
  AddsDrafts adds = (h : Head) (body : List ℕ) (resent : Bool) (moment : ℕ) (v : Verdict) → adds ≡ Some (Posted h body resent moment v)
      → HasBank w h.imad.source → IsDraftOf (w.books h.imad.source) h.imad body

  abbrev StepAdds : HostStep → Type 0
  StepAdds x = AddsDrafts x.adds

  adds_none : AddsDrafts None
  adds_none h body resent moment v adds bank = absurd cc

  adds_roll : (at date : ℕ) → AddsDrafts (Some (Roll at date))
  adds_roll at date h body resent moment v adds bank = absurd cc

  adds_post : (own : Head) (text : List ℕ) (again : Bool) (at : ℕ) (u : Verdict)
      → (HasBank w own.imad.source → IsDraftOf (w.books own.imad.source) own.imad text) → AddsDrafts (Some (Posted own text again at u))
  adds_post own text again at u is h body resent moment v adds bank =
      let heads : own ≡ h = cc in
      let texts : text ≡ body = cc in
      subst (λ (b : List ℕ). IsDraftOf (w.books h.imad.source) h.imad b) texts
      (subst (λ (x : Head). HasBank w x.imad.source → IsDraftOf (w.books x.imad.source) x.imad text) heads is bank)

  adds_by : (x : HostStep) → StepCase w.config w.entries f (effective w.entries w.moment) x → StepAdds x
  adds_by x (Submits kind (New p)) =
      subst StepAdds (sym p.gives) (adds_post p.head p.body (p.mark == 80) (effective w.entries w.moment) p.verdict
      (λ bank. reach.posts p.head p.body p.mark p.failed kind p.is p.own_line bank))
  adds_by x (Submits kind (Again k)) = subst StepAdds (sym k.gives) adds_none
  adds_by x (Submits kind (Away a)) = subst StepAdds (sym a.gives) adds_none
  adds_by x (Retrieves p asks gives) = subst StepAdds (sym gives) adds_none
  adds_by x (GoesOn date asks later gives) = subst StepAdds (sym gives) (adds_roll (effective w.entries w.moment) date)
  adds_by x (StaysAt date asks early gives) = subst StepAdds (sym gives) adds_none
  adds_by x (Refuses asks gives) = subst StepAdds (sym gives) adds_none

  kept_adds : (kept : Bool) → AddsDrafts (kept_of kept step.adds)
  kept_adds true = adds_by step (step_case w.config w.entries f w.moment)
  kept_adds false = adds_none

  bodies_with : (adds : Option Entry) → AddsDrafts adds → (h : Head) (body : List ℕ) (resent : Bool) (moment : ℕ) (v : Verdict)
      → Contains (adds_to adds w.entries) (Posted h body resent moment v) → HasBank w h.imad.source → IsDraftOf (w.books h.imad.source) h.imad body
  bodies_with None new h body resent moment v there bank = s.bodies h body resent moment v there bank
  bodies_with (Some x) new h body resent moment v there bank =
      ⊎_elim (λ (first : Posted h body resent moment v ≡ x). new h body resent moment v (ap (λ (y : Entry). Some y) (sym first)) bank)
      (λ (later : Contains w.entries (Posted h body resent moment v)). s.bodies h body resent moment v later bank)
      (first_or_later x (Posted h body resent moment v) w.entries there)

  newest_fits : (kept : Bool) → IsMoment (last_moment (adds_to (kept_of kept step.adds) w.entries))
  newest_fits true = step_in_calendar w.config w.entries f w.moment s.values.clock s.values.newest
  newest_fits false = s.values.newest

  pub host_lands_safe : (kept : Bool) (n : ℕ) → InOrder step kept n → Safe (host_lands w step kept n)
  host_lands_safe kept n in_order =
      let adds : Option Entry = kept_of kept step.adds in
      let accords = λ (e : List ℕ) (bank : HasBank w e). accords_with w.config w.entries adds (opening_at w.config e) (w.books e) (accord_of w e s bank) in
      record {
        values = record { config = s.values.config; distinct = s.values.distinct; served = s.values.served; clock = s.values.clock; newest = newest_fits kept };
        lawful = landed_lawful w.config w.entries f w.moment kept s.lawful;
        recent = recent_fits w.recent adds w.entries s.recent;
        covered = λ g there. landed_covered w.config w.entries f w.moment w.from_host kept n g reach.sound s.values.clock s.values.newest in_order s.covered there;
        banks = s.banks;
        submits = λ g there.
            still_from_bank w (adds_to adds w.entries) (recent_with w.recent adds) (w.from_host ++ take n step.sends) g (s.submits g there);
        bodies = bodies_with adds (kept_adds kept);
        verdicts = λ e bank. (accords e bank).verdicts;
        inboxes = λ e bank. (accords e bank).inbox;
      }
