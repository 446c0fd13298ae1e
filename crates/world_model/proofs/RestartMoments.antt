-- What stands at each moment of a restart lies in a step of the world.
use Rattle.std.proofs.Common.{◌≡◌, inl, refl, sym, subst, ap, ℕ, ◌+◌, leb, Bool, true, false, List, ◌++◌, length, take, Option, Some, None, arith}
use Rattle.std.proofs.Math.Seq.{take-length}
use Rattle.std.proofs.lemmas.Bool.{leb-false, leb-true}
use Rattle.link_frames.specs.Frames.{Content as Frame}
use Rattle.world_events.specs.declared.acts.Event.{Event}
use Rattle.world_events.specs.declared.outcomes.Kept.{Kept}
use Rattle.world_events.specs.declared.outcomes.Kept.TheVariants as entry
use Rattle.world_model.specs.Worlds.{World}
use Rattle.world_model.specs.Effects.{ResumesHost, effect}
use Rattle.world_model.specs.Ways.{Stopped, Through, Way, after, owed, resume_lands, resumed}
use Rattle.world_model.specs.WorldSteps.{MayGo, ResumeStopsAt, call_of, most_calls, told}
use Rattle.world_model.specs.Runs.{IsGrownFrom}
use Rattle.world_model.specs.Moments.{LiesIn}
use Rattle.world_model.proofs.Growing.{grows_on, sends_grow}
use Rattle.world_model.proofs.HostMoments.{resume_more, step_by}

module _ (w : World) (event : Event) (about : effect w event.act ≡ ResumesHost) where
  -- the world from which a step goes on
  lies_by : (way : Way) (moment : World) (stop : Option ℕ) → call_of event.stop ≡ stop → MayGo w stop ResumesHost way → IsGrownFrom w moment
      → IsGrownFrom moment (after w ResumesHost way) → moment.entries ≡ w.entries → moment.recent ≡ w.recent → ((e : List ℕ) → moment.books e ≡ w.books e)
      → LiesIn w event moment
  lies_by way moment stop is may begins ends entries recent books = record {
    x = told w ResumesHost way;
    next = after w ResumesHost way;
    step = step_by w event ResumesHost way about (subst (λ (x : Option ℕ). MayGo w x ResumesHost way) (sym is) may);
    begins = begins;
    ends = ends;
    host = inl (entries, recent);
    banks = λ e. inl (books e);
  }

  restart_through : (stop : Option ℕ) (n : ℕ) → call_of event.stop ≡ stop → MayGo w stop ResumesHost Through → LiesIn w event (resume_lands w n)
  restart_through stop n is may =
      lies_by Through (resume_lands w n) stop is may (sends_grow w (take n (owed w))) (resume_more w n) refl refl (λ e. refl)

  -- the restart is stopped after all its frames, which go out once more
  all_sent : (n : ℕ) → IsGrownFrom (resume_lands w n) (resumed (resume_lands w (length (owed w))))
  all_sent n =
      let whole : World = resume_lands w (length (owed w)) in
      let same : resumed w ≡ whole = ap (λ (l : List Frame). record w { from_host = w.from_host ++ l }) (sym (take-length (owed w))) in
      grows_on (resume_lands w n) whole (resumed whole) (subst (IsGrownFrom (resume_lands w n)) same (resume_more w n)) (sends_grow whole (owed whole))

  restart_by : (stop : Option ℕ) (n : ℕ) → call_of event.stop ≡ stop → LiesIn w event (resume_lands w n)
  restart_by None n is = restart_through None n is refl
  restart_by (Some call) n is = by_reach (leb call (length (owed w) + most_calls (2 + length w.entries))) refl
    where
      by_reach : (b : Bool) → leb call (length (owed w) + most_calls (2 + length w.entries)) ≡ b → LiesIn w event (resume_lands w n)
      by_reach true reach =
          lies_by (Stopped entry.Plain (length (owed w))) (resume_lands w n) (Some call) is
          (record { reached = leb-true call (length (owed w) + most_calls (2 + length w.entries)) reach; nothing = refl; few = omega arith })
          (sends_grow w (take n (owed w))) (all_sent n) refl refl (λ e. refl)
      by_reach false reach =
          let late = leb-false call (length (owed w) + most_calls (2 + length w.entries)) reach in
          restart_through (Some call) n is (omega (arith, late))

  pub restart_lies : (n : ℕ) → LiesIn w event (resume_lands w n)
  restart_lies n = restart_by (call_of event.stop) n refl

  -- what the resume after a stop of the restart has sent
  pub again_lies : (call : ℕ) (fate : Kept) (sent n : ℕ) → call_of event.stop ≡ Some call
      → ResumeStopsAt call (length (owed w)) (2 + length w.entries) fate sent → LiesIn w event (resume_lands (resume_lands w sent) n)
  again_lies call fate sent n is stop =
      let landed : World = resume_lands w sent in
      lies_by (Stopped fate sent) (resume_lands landed n) (Some call) is stop
      (grows_on w landed (resume_lands landed n) (sends_grow w (take sent (owed w))) (sends_grow landed (take n (owed landed)))) (resume_more landed n) refl refl (λ e. refl)
