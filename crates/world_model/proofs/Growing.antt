-- No step of a world, and no run, loses or changes what was there.
use Rattle.std.proofs.Common.{◌≡◌, refl, sym, subst, ap, ◌∙◌, ℕ, Bool, true, false, List, [], ◌∷◌, ◌++◌, append-nil, append_assoc, length, take, Option, Some, None}
use Rattle.std.specs.Prelude.{bytes_eq, if◌then◌else◌}
use Rattle.link_frames.specs.Frames.{Content as Frame}
use Rattle.host_ledger.specs.declared.entries.Entry.{Entry}
use Rattle.bank_books.specs.declared.entries.BankEntry.{BankEntry}
use Rattle.faim_model.specs.Landing.{kept_of}
use Rattle.faim_model.specs.Steps.{HostStep}
use Rattle.faim_model.specs.Turns.{adds_to}
use Rattle.faim_model.proofs.Imads.{bytes_equal}
use Rattle.bank_turns.specs.BankSteps.{BankStep, adds_to as bank_adds_to}
use Rattle.world_events.specs.declared.acts.Event.{Event}
use Rattle.world_events.specs.declared.outcomes.Outcome.{Outcome}
use Rattle.world_model.specs.Worlds.{World, books_with}
use Rattle.world_model.specs.Effects.{AtBank, AtHost, Effect, Missing, ResumesBank, ResumesHost, Sets, effect}
use Rattle.world_model.specs.Ways.{Stopped, Through, Way, after, bank_lands, host_lands, is_kept, owed, resume_lands, resumed}
use Rattle.world_model.specs.WorldSteps.{WorldStep}
use Rattle.world_model.specs.Runs.{IsGrownFrom, Run}

pub entries_grow : (adds : Option Entry) (es : List Entry) → (newer : List Entry) × (adds_to adds es ≡ newer ++ es)
entries_grow None es = ([], refl)
entries_grow (Some x) es = (x ∷ [], refl)

pub kept_grow : (adds : Option BankEntry) (es : List BankEntry) → (newer : List BankEntry) × (bank_adds_to adds es ≡ newer ++ es)
kept_grow None es = ([], refl)
kept_grow (Some x) es = (x ∷ [], refl)

pub books_grow : (e : List ℕ) (adds : Option BankEntry) (books : List ℕ → List BankEntry) (other : List ℕ)
    → (newer : List BankEntry) × (books_with e (bank_adds_to adds (books e)) books other ≡ newer ++ books other)
books_grow e adds books other = by_test (bytes_eq other e) refl
  where
    by_test : (b : Bool) → bytes_eq other e ≡ b
        → (newer : List BankEntry) × ((if b then bank_adds_to adds (books e) else books other) ≡ newer ++ books other)
    by_test true same =
        subst (λ (x : List ℕ). (newer : List BankEntry) × (bank_adds_to adds (books x) ≡ newer ++ books other)) (bytes_equal other e same) (kept_grow adds (books other))
    by_test false apart = ([], refl)

pub same_world : (w : World) → IsGrownFrom w w
same_world w = record {
  config = refl;
  banks = refl;
  entries = ([], refl);
  books = λ e. ([], refl);
  to_host = ([], sym (append-nil w.to_host));
  from_host = ([], sym (append-nil w.from_host));
}

joined : {A : Type 0} (a b c first later : List A) → b ≡ a ++ first → c ≡ b ++ later → c ≡ a ++ (first ++ later)
joined a b c first later begins goes = goes ∙ ap (λ l. l ++ later) begins ∙ append_assoc a first later

joined_newer : {A : Type 0} (a b c first later : List A) → b ≡ first ++ a → c ≡ later ++ b → c ≡ (later ++ first) ++ a
joined_newer a b c first later begins goes = goes ∙ ap (λ l. later ++ l) begins ∙ sym (append_assoc later first a)

pub grows_on : (w middle last : World) → IsGrownFrom w middle → IsGrownFrom middle last → IsGrownFrom w last
grows_on w middle last a b = record {
  config = b.config ∙ a.config;
  banks = b.banks ∙ a.banks;
  entries = (b.entries.0 ++ a.entries.0, joined_newer w.entries middle.entries last.entries a.entries.0 b.entries.0 a.entries.1 b.entries.1);
  books = λ e. let first = a.books e in let more = b.books e in (
    more.0 ++ first.0,
    joined_newer (w.books e) (middle.books e) (last.books e) first.0 more.0 first.1 more.1,
  );
  to_host = (a.to_host.0 ++ b.to_host.0, joined w.to_host middle.to_host last.to_host a.to_host.0 b.to_host.0 a.to_host.1 b.to_host.1);
  from_host = (a.from_host.0 ++ b.from_host.0, joined w.from_host middle.from_host last.from_host a.from_host.0 b.from_host.0 a.from_host.1 b.from_host.1);
}

pub sends_grow : (w : World) (frames : List Frame) → IsGrownFrom w (record w { from_host = w.from_host ++ frames })
sends_grow w frames = record {
  config = refl;
  banks = refl;
  entries = ([], refl);
  books = λ e. ([], refl);
  to_host = ([], sym (append-nil w.to_host));
  from_host = (frames, refl);
}

pub host_grows : (w : World) (step : HostStep) (kept : Bool) (n : ℕ) → IsGrownFrom w (host_lands w step kept n)
host_grows w step kept n = record {
  config = refl;
  banks = refl;
  entries = entries_grow (kept_of kept step.adds) w.entries;
  books = λ e. ([], refl);
  to_host = ([], sym (append-nil w.to_host));
  from_host = (take n step.sends, refl);
}

pub bank_grows : (w : World) (e : List ℕ) (step : BankStep) (kept : Bool) (n : ℕ) → IsGrownFrom w (bank_lands w e step kept n)
bank_grows w e step kept n = record {
  config = refl;
  banks = refl;
  entries = ([], refl);
  books = books_grow e (if kept then step.adds else None) w.books;
  to_host = (take n step.sends, refl);
  from_host = ([], sym (append-nil w.from_host));
}

after_grows : (w : World) (act : Effect) (way : Way) → IsGrownFrom w (after w act way)
after_grows w (Sets moment) way = record {
  config = refl;
  banks = refl;
  entries = ([], refl);
  books = λ e. ([], refl);
  to_host = ([], sym (append-nil w.to_host));
  from_host = ([], sym (append-nil w.from_host));
}
after_grows w Missing way = same_world w
after_grows w (AtHost step) Through = host_grows w step true (length step.sends)
after_grows w (AtHost step) (Stopped fate sent) =
    let landed : World = host_lands w step (is_kept fate) sent in
    grows_on w landed (resumed landed) (host_grows w step (is_kept fate) sent) (sends_grow landed (owed landed))
after_grows w (AtBank e step) Through = bank_grows w e step true (length step.sends)
after_grows w (AtBank e step) (Stopped fate sent) = bank_grows w e step (is_kept fate) sent
after_grows w ResumesHost Through = sends_grow w (owed w)
after_grows w ResumesHost (Stopped fate sent) =
    let landed : World = resume_lands w sent in
    grows_on w landed (resumed landed) (sends_grow w (take sent (owed w))) (sends_grow landed (owed landed))
after_grows w (ResumesBank e) way = same_world w

pub step_grows : (w next : World) (event : Event) (x : Outcome) → WorldStep w event x next → IsGrownFrom w next
step_grows w next event x step = subst (IsGrownFrom w) (sym step.gives) (after_grows w (effect w event.act) step.way)

pub run_grows : (w last : World) (events : List Event) (xs : List Outcome) → Run w events xs last → IsGrownFrom w last
run_grows w last [] [] run = subst (IsGrownFrom w) (sym run) (same_world w)
run_grows w last [] (x ∷ xs) run = absurd run
run_grows w last (event ∷ events) [] run = absurd run
run_grows w last (event ∷ events) (x ∷ xs) run = grows_on w run.0 last (step_grows w run.0 event x run.1) (run_grows run.0 last events xs run.2)
