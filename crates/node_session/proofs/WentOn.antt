-- A session that handles one arrival more.
use Rattle.std.proofs.Common.{◌≡◌, ℕ, List, [], ◌∷◌, ◌++◌, map, refl, sym, ◌∙◌, ap, subst, Option, Some, None, Result, Ok, Err, arith}
use Rattle.std.proofs.lemmas.List.{map-append}
use Rattle.site_core.specs.Log.{reads, sent, Left, NothingPending}
use Rattle.site_core.specs.Told.{Told, Goes}
use Rattle.site_core.proofs.Runs.{counted_on}
use Rattle.torn_journal.specs.Journal.{tail_of}
use Rattle.journaled_list.specs.Payloads.{StandFor}
use Rattle.journaled_list.specs.Rules.{Listed}
use Rattle.journaled_steps.specs.declared.faults.StepFault.{StepFault}
use Rattle.journaled_steps.specs.declared.faults.StepFault.TheVariants.{SiteFault, LineFault, JournalFull, NoMemory}
use Rattle.journaled_steps.specs.Node.{Node, IsLive}
use Rattle.journaled_steps.specs.Steps.{HandlesAll, HasRoom, HasStepped, IsBeyond, IsStepMoment, NodeAfter, Step, StepCalls, StepSends, last_after, list_with}
use Rattle.line_sessions.specs.Plays.{Plays, PlaysOut, all_after}
use Rattle.line_sessions.proofs.Joined.{after_on, plays_on, plays_out_on}
use Rattle.node_session.specs.Ending.{AtRest, EndsSite, IsDone, IsFull, IsShort, kept_at}
use Rattle.node_session.specs.Ends.{step_end}
use Rattle.node_session.specs.Going.{GoesOn, IsReady}
use Rattle.node_session.specs.Kinds.{Event, IsFit, Kind, KeptStands, events, part_of}
use Rattle.node_session.specs.Kinds.Event.{Resumed, Came}
use Rattle.node_session.specs.Serving.{ServesAll}
use Rattle.node_session.proofs.OneEvent.{HasGrown, sent_alone, step_grown, step_moment}

-- what handling an arrival says of a site that tells
pub record HandledAt {O E X A K : Type 0} (kind : Kind O E X A K) (result : Result X StepFault) (a : A) (before after : Node O E) (old new : Told) : Type 0 where
  pub calls : StepCalls kind.rules (kind.step before.list a).adds (kind.step before.list a).sends before.tail result old new
  pub sends : StepSends (kind.step before.list a).sends result old new
  pub moments : HandlesAll kind.rules result (kind.step before.list a) before after old new

pub said_at : {O E X A K : Type 0} (kind : Kind O E X A K) (result : Result X StepFault) (a : A) (before after : Node O E) (old new : Option Told)
    → Goes old new (StepCalls kind.rules (kind.step before.list a).adds (kind.step before.list a).sends before.tail result)
    → Goes old new (StepSends (kind.step before.list a).sends result)
    → Goes old new (HandlesAll kind.rules result (kind.step before.list a) before after)
    → Goes old new (HandledAt kind result a before after)
said_at kind result a before after None new calls sends moments = tt
said_at kind result a before after (Some x) None calls sends moments = absurd calls
said_at kind result a before after (Some x) (Some y) calls sends moments = record { calls = calls; sends = sends; moments = moments }

-- no call was made
unmoved_full : {O E X A K : Type 0} (kind : Kind O E X A K) (adds : Option E) (frames : List (List ℕ)) (tail t n : ℕ) (old new : Told) → StepCalls {T = X} kind.rules adds frames tail (Err (JournalFull t n)) old new → new ≡ old
unmoved_full kind None frames tail t n old new calls = calls
unmoved_full kind (Some x) frames tail t n old new calls = calls

unmoved_short : {O E X A K : Type 0} (kind : Kind O E X A K) (adds : Option E) (frames : List (List ℕ)) (tail : ℕ) (old new : Told) → StepCalls {T = X} kind.rules adds frames tail (Err NoMemory) old new → new ≡ old
unmoved_short kind None frames tail old new calls = calls
unmoved_short kind (Some x) frames tail old new calls = calls

module _ {O E X A K : Type 0} (kind : Kind O E X A K) where
  -- a live node's site is at rest
  abbrev pub at_rest : (node : Node O E) (kept : K) (told : Told) → IsLive kind.rules node told → node.list ≡ kind.list_of kept → node.last ≡ kind.recent_of kept → AtRest kind kept told
  at_rest node kept told live list last =
      let s = live.ready.stands in
      record {
        stands = record {
          payloads = s.payloads;
          journal = s.journal;
          stand = subst (λ (l : Listed O E). StandFor kind.rules s.payloads l (kind.recent_of kept)) list (subst (λ (n : ℕ). StandFor kind.rules s.payloads node.list n) last s.stand);
        };
        pending = live.ready.pending;
      }

  module _ (fit : IsFit kind) (arrivals : List A) (a : A) (before after : Node O E) where
    abbrev step : Step E X
    step = kind.step before.list a

    abbrev more : List A
    more = arrivals ++ a ∷ []

    pub events_on : events arrivals ++ Came a ∷ [] ≡ events more
    events_on = ap (λ (l : List (Event A)). Resumed ∷ l) (sym (map-append Came arrivals (a ∷ [])))

    module _ (result : Result X StepFault) (start mid new : Told) (g : GoesOn kind arrivals before start mid) (h : HandledAt kind result a before after mid new) where
      grown : HasGrown mid new
      grown = step_grown kind.rules step.adds step.sends before.tail result mid new h.calls

      module _ (kept : K) (pending : NothingPending start.log) (stands : KeptStands kind (reads start.log) kept) where
        abbrev ready : IsReady kind kept arrivals before start mid
        ready = g.ready kept pending stands

        abbrev now : K
        now = kept_at kind kept arrivals

        -- a moment of the step is one of what is kept
        moment_now : (image : List ℕ) (found : List (List ℕ)) → IsStepMoment kind.rules before.list before.last step mid new image found
            → IsStepMoment kind.rules (kind.list_of now) (kind.recent_of now) (kind.step (kind.list_of now) a) mid new image found
        moment_now image found m =
            subst (λ (l : Listed O E). IsStepMoment kind.rules l (kind.recent_of now) (kind.step l a) mid new image found) ready.list
            (subst (λ (n : ℕ). IsStepMoment kind.rules before.list n step mid new image found) ready.last m)

        plays_one : Plays (part_of kind) now (Came a ∷ []) mid new
        plays_one = record {
          acts = grown.acts;
          grows = grown.grows;
          each = λ image found left. step_moment kind fit now a mid new image found (moment_now image found ((h.moments ready.live).each image found left));
        }

        plays_more : Plays (part_of kind) kept (events more) start new
        plays_more = subst (λ (l : List (Event A)). Plays (part_of kind) kept l start new) events_on (plays_on (part_of kind) kept (events arrivals) (Came a ∷ []) start mid new ready.plays plays_one)

        -- what is kept after this arrival too
        kept_more : kind.after now a ≡ kept_at kind kept more
        kept_more = sym (after_on (part_of kind) kept (events arrivals) (Came a ∷ [])) ∙ ap (all_after (part_of kind) kept) events_on

        list_more : HasStepped kind.rules step before after → after.list ≡ kind.list_of (kept_at kind kept more)
        list_more stepped =
            stepped.list
            ∙ ap (λ (l : Listed O E). list_with (kind.step l a).adds l) ready.list
            ∙ sym (fit.list_after now a)
            ∙ ap kind.list_of kept_more

        last_more : HasStepped kind.rules step before after → after.last ≡ kind.recent_of (kept_at kind kept more)
        last_more stepped =
            stepped.last
            ∙ ap (λ (l : Listed O E). last_after before.last (kind.step l a).adds) ready.list
            ∙ ap (λ (n : ℕ). last_after n (kind.step (kind.list_of now) a).adds) ready.last
            ∙ sym (fit.recent_after now a)
            ∙ ap kind.recent_of kept_more

        -- all before this arrival is done
        abbrev done_before : IsDone kind kept (events arrivals) start mid
        done_before = record { plays = ready.plays; rest = at_rest before now mid ready.live ready.list ready.last }

        full_before : (t n : ℕ) → IsBeyond kind.rules step.adds before.tail t n → IsFull kind kept more t n start mid
        full_before t n beyond = record {
          before = arrivals;
          last = a;
          are = refl;
          done = done_before;
          beyond =
              subst (λ (l : Listed O E). IsBeyond kind.rules (kind.step l a).adds (tail_of ready.live.ready.stands.payloads) t n) ready.list
              (subst (λ (place : ℕ). IsBeyond kind.rules step.adds place t n) ready.live.ready.place beyond);
        }

        short_before : IsShort kind kept more start mid
        short_before = record {
          before = events arrivals;
          last = Came a ∷ [];
          are = sym events_on;
          one = omega arith;
          done = done_before;
        }

    -- it is handled
    pub went_on : (o : X) (start mid new : Told) → NodeAfter kind.rules (Ok o) step before after → GoesOn kind arrivals before start mid → HandledAt kind (Ok o) a before after mid new → GoesOn kind more after start new
    went_on o start mid new stepped g h = record {
      counted = counted_on start mid new g.counted (grown (Ok o) start mid new g h).counted;
      ready = λ kept pending stands.
          let r = g.ready kept pending stands in
          let now : K = kept_at kind kept arrivals in
          let one : PlaysOut (part_of kind) now (Came a ∷ []) mid new =
          record {
            plays = plays_one (Ok o) start mid new g h kept pending stands;
            all = h.sends ∙ ap (λ (l : Listed O E). sent mid.log ++ (kind.step l a).sends) r.list ∙ ap (λ (l : List (List ℕ)). sent mid.log ++ l) (sym (sent_alone kind fit now a));
          } in
          record {
            plays = subst (λ (l : List (Event A)). PlaysOut (part_of kind) kept l start new) events_on (plays_out_on (part_of kind) kept (events arrivals) (Came a ∷ []) start mid new r.plays one);
            live = (h.moments r.live).live;
            list = list_more (Ok o) start mid new g h kept pending stands stepped.1;
            last = last_more (Ok o) start mid new g h kept pending stands stepped.1;
          };
    }

    ends_site : (fault : StepFault) (start mid new : Told) → NodeAfter {X = X} kind.rules (Err fault) step before after → HasRoom {T = X} kind.rules (Err fault) step.adds before.tail
        → (g : GoesOn kind arrivals before start mid) → (h : HandledAt kind (Err fault) a before after mid new)
        → (kept : K) (pending : NothingPending start.log) (stands : KeptStands kind (reads start.log) kept) → EndsSite kind (Err (step_end fault)) kept more start new
    ends_site SiteFault start mid new stepped room g h kept pending stands = tt
    ends_site LineFault start mid new stepped room g h kept pending stands =
        at_rest after (kept_at kind kept more) new (h.moments (g.ready kept pending stands).live).live
        (list_more (Err LineFault) start mid new g h kept pending stands stepped) (last_more (Err LineFault) start mid new g h kept pending stands stepped)
    ends_site (JournalFull t n) start mid new stepped room g h kept pending stands =
        subst (λ (told : Told). IsFull kind kept more t n start told) (sym (unmoved_full kind step.adds step.sends before.tail t n mid new h.calls))
        (full_before (Err (JournalFull t n)) start mid new g h kept pending stands t n room)
    ends_site NoMemory start mid new stepped room g h kept pending stands =
        subst (λ (told : Told). IsShort kind kept more start told) (sym (unmoved_short kind step.adds step.sends before.tail mid new h.calls))
        (short_before (Err NoMemory) start mid new g h kept pending stands)

    -- it isn't
    pub broke_off : (fault : StepFault) (start mid new : Told) → NodeAfter {X = X} kind.rules (Err fault) step before after → HasRoom {T = X} kind.rules (Err fault) step.adds before.tail
        → GoesOn kind arrivals before start mid → HandledAt kind (Err fault) a before after mid new → ServesAll kind (Err (step_end fault)) more start new
    broke_off fault start mid new stepped room g h kept pending stands = record {
      plays = plays_more (Err fault) start mid new g h kept pending stands;
      ended = ends_site fault start mid new stepped room g h kept pending stands;
    }
