-- There is a way for each event to go, and where no stop is set there is one alone.
use Rattle.std.proofs.Common.{◌≡◌, inl, refl, sym, subst, ap, ◌∙◌, ℕ, ◌+◌, ◌-◌, ◌≤◌, leb, Bool, true, false, length, Option, Some, None, arith}
use Rattle.std.specs.Prelude.{is_some}
use Rattle.std.proofs.lemmas.Bool.{leb-false, leb-true}
use Rattle.world_events.specs.declared.acts.Event.{Event}
use Rattle.world_events.specs.declared.outcomes.Kept.TheVariants as entry
use Rattle.world_events.specs.declared.outcomes.Outcome.{Outcome}
use Rattle.world_model.specs.Worlds.{World}
use Rattle.world_model.specs.Effects.{AtBank, AtHost, Effect, Missing, ResumesBank, ResumesHost, Sets, effect}
use Rattle.world_model.specs.Ways.{Stopped, Through, Way, after, owed}
use Rattle.world_model.specs.WorldSteps.{MayGo, ResumeMayGo, StepMayGo, WorldStep, call_of, calls_before, most_calls, told}

-- a step that a stop is set in goes through before it, or is stopped
step_goes : (call : ℕ) (adds : Bool) (frames : ℕ) → (way : Way) × StepMayGo call adds frames way
step_goes call adds frames = by_reach (leb call (calls_before adds + frames)) refl
  where
    stopped : (some : Bool) → call ≤ calls_before some + frames → (early : Bool) → leb call 4 ≡ early → (way : Way) × StepMayGo call some frames way
    stopped false reached early is = (
      Stopped entry.Plain (call - 1),
      record {
        reached = reached;
        may_keep = tt;
        unsent = λ none. omega (arith, none);
        in_turn = λ some. inl (omega (arith, some));
      },
    )
    stopped true reached true is =
        let low = leb-true call 4 is in
        (Stopped entry.Lost 0, record { reached = reached; may_keep = low; unsent = λ none. refl; in_turn = λ some. absurd (omega (arith, some, low)) })
    stopped true reached false is =
        let high = leb-false call 4 is in (
          Stopped entry.Kept (call - 5),
          record {
            reached = reached;
            may_keep = omega (arith, high);
            unsent = λ none. omega (arith, none, high);
            in_turn = λ some. inl (omega (arith, high));
          },
        )

    by_reach : (b : Bool) → leb call (calls_before adds + frames) ≡ b → (way : Way) × StepMayGo call adds frames way
    by_reach true is = stopped adds (leb-true call (calls_before adds + frames) is) (leb call 4) refl
    by_reach false is = (Through, leb-false call (calls_before adds + frames) is)

resume_goes : (call frames records : ℕ) → (way : Way) × ResumeMayGo call frames records way
resume_goes call frames records = by_reach (leb call (frames + most_calls records)) refl
  where
    by_reach : (b : Bool) → leb call (frames + most_calls records) ≡ b → (way : Way) × ResumeMayGo call frames records way
    by_reach true is = (Stopped entry.Plain 0, record { reached = leb-true call (frames + most_calls records) is; nothing = refl; few = omega arith })
    by_reach false is = let late = leb-false call (frames + most_calls records) is in (Through, omega (arith, late))

act_goes : (w : World) (stop : Option ℕ) (act : Effect) → (way : Way) × MayGo w stop act way
act_goes w stop (Sets moment) = (Through, refl)
act_goes w stop Missing = (Through, refl)
act_goes w None (AtHost step) = (Through, refl)
act_goes w (Some call) (AtHost step) = step_goes call (is_some step.adds) (length step.sends)
act_goes w None (AtBank e step) = (Through, refl)
act_goes w (Some call) (AtBank e step) = step_goes call (is_some step.adds) (length step.sends)
act_goes w None ResumesHost = (Through, refl)
act_goes w (Some call) ResumesHost = resume_goes call (length (owed w)) (2 + length w.entries)
act_goes w None (ResumesBank e) = (Through, refl)
act_goes w (Some call) (ResumesBank e) = resume_goes call 0 (2 + length (w.books e))

pub some_step : (w : World) (event : Event) → (x : Outcome) × (next : World) × WorldStep w event x next
some_step w event =
    let goes = act_goes w (call_of event.stop) (effect w event.act) in (
      told w (effect w event.act) goes.0,
      after w (effect w event.act) goes.0,
      record { way = goes.0; may = goes.1; tells = refl; gives = refl },
    )

goes_through : (w : World) (act : Effect) (way : Way) → MayGo w None act way → way ≡ Through
goes_through w (Sets moment) way may = may
goes_through w Missing way may = may
goes_through w (AtHost step) way may = may
goes_through w (AtBank e step) way may = may
goes_through w ResumesHost way may = may
goes_through w (ResumesBank e) way may = may

pub one_step : (w next other : World) (event : Event) (x y : Outcome) → event.stop ≡ None → WorldStep w event x next → WorldStep w event y other
    → (x ≡ y) × (next ≡ other)
one_step w next other event x y none first second =
    let act : Effect = effect w event.act in
    let call : call_of event.stop ≡ None = ap call_of none in
    let a = goes_through w act first.way (subst (λ (stop : Option ℕ). MayGo w stop act first.way) call first.may) in
    let b = goes_through w act second.way (subst (λ (stop : Option ℕ). MayGo w stop act second.way) call second.may) in
    let same : first.way ≡ second.way = a ∙ sym b in
    (first.tells ∙ ap (told w act) same ∙ sym second.tells, first.gives ∙ ap (after w act) same ∙ sym second.gives)
