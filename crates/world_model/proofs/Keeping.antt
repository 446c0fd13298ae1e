-- Each step of a world keeps it safe, and so do whole runs.
use Rattle.std.proofs.Common.{◌≡◌, ◌⊎◌, ⊎_elim, ltb, refl, sym, subst, ℕ, ◌+◌, ◌<◌, ◌≤◌, Bool, true, false, List, [], length, Option, Some, None, IsSome, arith}
use Rattle.std.specs.Prelude.{is_some}
use Rattle.std.proofs.lemmas.Bool.{ltb-false, ltb-true}
use Rattle.host_ledger.specs.declared.config.Config.{Config}
use Rattle.host_ledger.specs.declared.entries.Entry.TheVariants.{Posted}
use Rattle.host_ledger.specs.Accounts.{has_endpoint}
use Rattle.host_ledger.specs.Soundness.{IsConfig}
use Rattle.bank_books.specs.declared.entries.BankEntry.TheVariants.{Answered}
use Rattle.faim_model.specs.Landing.{InOrder}
use Rattle.faim_model.specs.Steps.{HostStep}
use Rattle.faim_model.proofs.Members.{none_in}
use Rattle.bank_turns.specs.BankSteps.{BankStep}
use Rattle.world_events.specs.Allowed.{AreBanks, IsAct, IsEvent}
use Rattle.world_events.specs.declared.acts.Act.{Act}
use Rattle.world_events.specs.declared.acts.Event.{Event}
use Rattle.world_events.specs.declared.outcomes.Kept.{Kept}
use Rattle.world_events.specs.declared.outcomes.Kept.TheVariants as entry
use Rattle.world_events.specs.declared.outcomes.Outcome.{Outcome}
use Rattle.world_model.specs.Worlds.{World, started}
use Rattle.world_model.specs.Effects.{AtBank, AtHost, Effect, Missing, ResumesBank, ResumesHost, Sets, effect}
use Rattle.world_model.specs.Ways.{BankInOrder, Stopped, Through, Way, after, bank_lands, host_lands, is_kept, resume_lands}
use Rattle.world_model.specs.WorldSteps.{MayGo, MayKeep, StopsAt, WorldStep, call_of, calls_before}
use Rattle.world_model.specs.Safety.{Safe}
use Rattle.world_model.proofs.BankLands.{bank_lands_safe}
use Rattle.world_model.proofs.HostLands.{host_lands_safe, resume_safe, resumed_safe}
use Rattle.world_model.proofs.Members.{each_in}
use Rattle.world_model.proofs.Reaching.{IsBankStep, IsHostStep, MayHappen, act_may_happen}

pub started_safe : (c : Config) (banks : List (List ℕ)) → IsConfig c → AreBanks c.accounts banks → Safe (started c banks)
started_safe c banks sound are = record {
  values = record { config = sound; distinct = are.distinct; served = λ e bank. each_in (λ (x : List ℕ). has_endpoint c.accounts x ≡ true) banks are.served e bank; clock = let day = sound.date in omega (arith, day); newest = omega arith };
  lawful = tt;
  recent = omega arith;
  covered = λ f there. absurd (none_in f there);
  banks = λ e bank. tt;
  submits = λ f there. absurd (none_in f there);
  bodies = λ h body resent moment v there bank. absurd (none_in (Posted h body resent moment v) there);
  verdicts = λ e bank imad v there. absurd (none_in (Answered imad v) there);
  inboxes = λ e bank. ([], refl);
}

-- a step lands where a stop may leave it: in order, and no frame is out before the entry is kept
pub record LandsAt (adds : Bool) (frames : ℕ) (kept : Bool) (sent : ℕ) : Type 0 where
  pub few : sent ≤ frames
  pub unkept : adds ≡ true → kept ≡ false → sent ≡ 0

few_sent : (call before frames sent : ℕ) → call ≤ before + frames → (call ≤ before → sent ≡ 0)
    → (before < call → (before + sent + 1 ≡ call) ⊎ (before + sent ≡ call)) → (b : Bool) → ltb before call ≡ b → sent ≤ frames
few_sent call before frames sent reached unsent in_turn true is =
    ⊎_elim (λ (own : before + sent + 1 ≡ call). omega (arith, own, reached)) (λ (own : before + sent ≡ call). omega (arith, own, reached))
    (in_turn (ltb-true before call is))
few_sent call before frames sent reached unsent in_turn false is = let none = unsent (ltb-false before call is) in omega (arith, none)

pub stop_lands : (call : ℕ) (adds : Bool) (frames : ℕ) (fate : Kept) (sent : ℕ) → StopsAt call adds frames fate sent → LandsAt adds frames (is_kept fate) sent
stop_lands call adds frames fate sent stop = record {
  few = few_sent call (calls_before adds) frames sent stop.reached stop.unsent stop.in_turn (ltb (calls_before adds) call) refl;
  unkept = by_kept adds fate stop.may_keep stop.unsent;
}
  where
    by_kept : (some : Bool) (k : Kept) → MayKeep call some k → (call ≤ calls_before some → sent ≡ 0) → some ≡ true → is_kept k ≡ false → sent ≡ 0
    by_kept true entry.Kept may unsent is unkept = absurd cc
    by_kept true entry.Lost may unsent is unkept = unsent may
    by_kept true entry.Plain may unsent is unkept = absurd may
    by_kept false k may unsent is unkept = absurd cc

some_added : {A : Type 0} (adds : Option A) → IsSome adds → is_some adds ≡ true
some_added None some = absurd cc
some_added (Some x) some = refl

host_in_order : (step : HostStep) (kept : Bool) (n : ℕ) → LandsAt (is_some step.adds) (length step.sends) kept n → InOrder step kept n
host_in_order step kept n lands = record { few = lands.few; unkept = λ some unkept. lands.unkept (some_added step.adds some) unkept }

bank_in_order : (step : BankStep) (kept : Bool) (n : ℕ) → LandsAt (is_some step.adds) (length step.sends) kept n → BankInOrder step kept n
bank_in_order step kept n lands = record { few = lands.few; unkept = λ some unkept. lands.unkept (some_added step.adds some) unkept }

all_lands : (adds : Bool) (frames : ℕ) → LandsAt adds frames true frames
all_lands adds frames = record { few = omega arith; unkept = λ some unkept. absurd cc }

module _ (w : World) (s : Safe w) where
  pub host_moment : (step : HostStep) (kept : Bool) (n : ℕ) → IsHostStep w step → InOrder step kept n → Safe (host_lands w step kept n)
  host_moment step kept n is in_order =
      subst (λ (x : HostStep). InOrder x kept n → Safe (host_lands w x kept n)) is.is (host_lands_safe w is.frame s is.reaches kept n) in_order

  pub bank_moment : (e : List ℕ) (step : BankStep) (kept : Bool) (n : ℕ) → IsBankStep w e step → BankInOrder step kept n → Safe (bank_lands w e step kept n)
  bank_moment e step kept n is in_order =
      subst (λ (x : BankStep). BankInOrder x kept n → Safe (bank_lands w e x kept n)) is.is (bank_lands_safe w e is.frame s is.bank is.trusted kept n) in_order

  pub after_safe : (act : Effect) (stop : Option ℕ) (way : Way) → MayHappen w act → MayGo w stop act way → Safe (after w act way)
  after_safe (Sets moment) stop way may goes = record {
    values = record { config = s.values.config; distinct = s.values.distinct; served = s.values.served; clock = may; newest = s.values.newest };
    lawful = s.lawful;
    recent = s.recent;
    covered = s.covered;
    banks = s.banks;
    submits = λ f there. let from = s.submits f there in record { bank = from.bank; is = from.is };
    bodies = s.bodies;
    verdicts = s.verdicts;
    inboxes = s.inboxes;
  }
  after_safe Missing stop way may goes = s
  after_safe (AtHost step) stop Through may goes =
      host_moment step true (length step.sends) may (host_in_order step true (length step.sends) (all_lands (is_some step.adds) (length step.sends)))
  after_safe (AtHost step) None (Stopped fate sent) may goes = absurd cc
  after_safe (AtHost step) (Some call) (Stopped fate sent) may goes =
      resumed_safe (host_lands w step (is_kept fate) sent)
      (host_moment step (is_kept fate) sent may (host_in_order step (is_kept fate) sent (stop_lands call (is_some step.adds) (length step.sends) fate sent goes)))
  after_safe (AtBank e step) stop Through may goes =
      bank_moment e step true (length step.sends) may (bank_in_order step true (length step.sends) (all_lands (is_some step.adds) (length step.sends)))
  after_safe (AtBank e step) None (Stopped fate sent) may goes = absurd cc
  after_safe (AtBank e step) (Some call) (Stopped fate sent) may goes =
      bank_moment e step (is_kept fate) sent may (bank_in_order step (is_kept fate) sent (stop_lands call (is_some step.adds) (length step.sends) fate sent goes))
  after_safe ResumesHost stop Through may goes = resumed_safe w s
  after_safe ResumesHost stop (Stopped fate sent) may goes = resumed_safe (resume_lands w sent) (resume_safe w sent s)
  after_safe (ResumesBank e) stop way may goes = s

pub step_safe : (w next : World) (event : Event) (x : Outcome) → Safe w → IsEvent w.banks event → WorldStep w event x next → Safe next
step_safe w next event x s is step =
    subst Safe (sym step.gives) (after_safe w s (effect w event.act) (call_of event.stop) step.way (act_may_happen w s event.act is.act) step.may)

-- an act's step at any moment
pub host_moment_safe : (w : World) (act : Act) (step : HostStep) (kept : Bool) (n : ℕ) → Safe w → IsAct w.banks act → effect w act ≡ AtHost step
    → InOrder step kept n → Safe (host_lands w step kept n)
host_moment_safe w act step kept n s is about in_order = host_moment w s step kept n (subst (MayHappen w) about (act_may_happen w s act is)) in_order

pub bank_moment_safe : (w : World) (act : Act) (e : List ℕ) (step : BankStep) (kept : Bool) (n : ℕ) → Safe w → IsAct w.banks act → effect w act ≡ AtBank e step
    → BankInOrder step kept n → Safe (bank_lands w e step kept n)
bank_moment_safe w act e step kept n s is about in_order = bank_moment w s e step kept n (subst (MayHappen w) about (act_may_happen w s act is)) in_order
