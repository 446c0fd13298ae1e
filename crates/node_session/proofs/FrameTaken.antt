-- A session, by what a frame at the front of its input does.
use Rattle.std.proofs.Common.{◌≡◌, ℕ, List, [], ◌∷◌, ◌++◌, refl, sym, ◌∙◌, ap, subst, Option, Some, None, Result, Ok, Err, append-nil, append_assoc}
use Rattle.std.specs.List.{AllByRecursion}
use Rattle.std.specs.Io.KnownBytes.{append_known}
use Rattle.std.proofs.lemmas.List.{map-append}
use Rattle.site_core.specs.Told.{Told, Goes}
use Rattle.site_core.proofs.Runs.{goes_as, goes_on}
use Rattle.link_frames.specs.Frames.{Content as Frame, IsFrame, frame_bytes}
use Rattle.framed_input.specs.Intake.{Intake}
use Rattle.framed_input.specs.Reading.{HasRead}
use Rattle.framed_input.proofs.InputFrames.{first_ones, hands_out}
use Rattle.journaled_steps.specs.declared.faults.StepFault.{StepFault}
use Rattle.journaled_steps.specs.declared.faults.StepFault.TheVariants.{SiteFault, LineFault, JournalFull, NoMemory}
use Rattle.journaled_steps.specs.Node.{Node}
use Rattle.journaled_steps.specs.Steps.{HasRoom, NodeAfter}
use Rattle.line_sessions.specs.declared.ends.SessionEnd.{SessionEnd}
use Rattle.line_sessions.specs.declared.ends.SessionEnd.TheVariants as ends
use Rattle.node_session.specs.Ending.{EndsInput, IsAhead, IsDone}
use Rattle.node_session.specs.Ends.{step_end}
use Rattle.node_session.specs.Going.{Going, GoesOn}
use Rattle.node_session.specs.Kinds.{IsFit, Kind, events}
use Rattle.node_session.specs.Serving.{Serves, ServesAll, Session}
use Rattle.node_session.specs.Views.{View, HasCome, frames_of}
use Rattle.node_session.proofs.WentOn.{HandledAt, at_rest, broke_off, went_on}

pub known_on : (known : Option (List ℕ)) (xs ys : List ℕ) → append_known (append_known known xs) ys ≡ append_known known (xs ++ ys)
known_on None xs ys = refl
known_on (Some bytes) xs ys = ap Some (append_assoc bytes xs ys)

pub known_same : (known : Option (List ℕ)) → known ≡ append_known known []
known_same None = refl
known_same (Some bytes) = ap Some (sym (append-nil bytes))

each_on : {A : Type 0} (Is : A → Type 0) (arrivals : List A) (a : A) → AllByRecursion Is arrivals → Is a → AllByRecursion Is (arrivals ++ a ∷ [])
each_on Is [] a each is = (is, tt)
each_on Is (b ∷ arrivals) a each is = (each.0, each_on Is arrivals a each.1 is)

module _ {O E X A K : Type 0} (kind : Kind O E X A K) where
  -- what came so far
  pub came_of : (start : View) (intake : Intake) (node : Node O E) (now : View) (g : Going kind start intake node now) → HasCome kind g.arrivals g.bytes start now
  came_of start intake node now g = record {
    taken = g.taken;
    few = g.few;
    read = g.given;
    each = g.each;
    first = λ more all rest splits. first_ones g.bytes more (frames_of kind g.arrivals) all rest intake g.read splits;
  }

  -- where all that came is done, the session may end so that all of it is
  pub done_site : (arrivals : List A) (node : Node O E) (old new : Told) → GoesOn kind arrivals node old new → (end : Result (Unit {0}) SessionEnd)
      → ((kept : K) → IsDone kind kept (events arrivals) old new → Serves kind end kept arrivals old new) → ServesAll kind end arrivals old new
  done_site arrivals node old new g end serves kept pending stands =
      let r = g.ready kept pending stands in
      serves kept (record { plays = r.plays; rest = at_rest kind node _ new r.live r.list r.last })

  module _ (fit : IsFit kind) (start : View) (left given : Option (List ℕ)) (site : Option Told) (intake : Intake) (node : Node O E) (g : Going kind start intake node (record { left = left; given = given; site = site }))
      (f : Frame) (sound : IsFrame f) (after : Intake) (held : intake.held ≡ frame_bytes f ++ after.held) (taken : after.taken ≡ intake.taken) where
    abbrev frames : List Frame
    frames = frames_of kind g.arrivals

    -- the frame counts as handed out
    read_on : HasRead g.bytes (frames ++ f ∷ []) after
    read_on = hands_out g.bytes frames f intake after g.read sound held taken

    ahead : IsAhead kind g.arrivals g.bytes
    ahead = record {
      next = f;
      sound = sound;
      first = λ more all rest splits.
          let l = first_ones g.bytes more (frames ++ f ∷ []) all rest after read_on splits in
          (l.0, l.1 ∙ append_assoc frames (f ∷ []) l.0);
    }

    -- there was no reading for it
    pub without_reading : (same : Option (List ℕ)) → same ≡ given → Session kind (Err ends.ClockFault) start (record { left = left; given = same; site = site })
    without_reading same is = record {
      bytes = g.bytes;
      arrivals = g.arrivals;
      came = subst (λ (o : Option (List ℕ)). HasCome kind g.arrivals g.bytes start (record { left = left; given = o; site = site })) (sym is)
          (came_of start intake node (record { left = left; given = given; site = site }) g);
      input = ahead;
      site = goes_as (GoesOn kind g.arrivals node) (ServesAll kind (Err ends.ClockFault) g.arrivals) start.site site
          (λ x y on. done_site g.arrivals node x y on (Err ends.ClockFault) (λ kept done. record { plays = done.plays.plays; ended = done })) g.site;
    }

    -- it arrives, and takes its readings
    module _ (a : A) (is : kind.frame_of a ≡ f) (each : kind.IsArrival a) (later : Option (List ℕ)) (read : later ≡ append_known given (kind.readings_of (a ∷ []))) where
      abbrev more : List A
      more = g.arrivals ++ a ∷ []

      frames_more : frames_of kind more ≡ frames ++ f ∷ []
      frames_more = map-append kind.frame_of g.arrivals (a ∷ []) ∙ ap (λ (x : Frame). frames ++ x ∷ []) is

      read_more : HasRead g.bytes (frames_of kind more) after
      read_more = subst (λ (l : List Frame). HasRead g.bytes l after) (sym frames_more) read_on

      given_more : later ≡ append_known start.given (kind.readings_of more)
      given_more =
          read
          ∙ ap (λ (o : Option (List ℕ)). append_known o (kind.readings_of (a ∷ []))) g.given
          ∙ known_on start.given (kind.readings_of g.arrivals) (kind.readings_of (a ∷ []))
          ∙ ap (append_known start.given) (sym (fit.read_on g.arrivals a))

      each_more : AllByRecursion kind.IsArrival more
      each_more = each_on kind.IsArrival g.arrivals a g.each each

      came_more : (now : Option Told) → HasCome kind more g.bytes start (record { left = left; given = later; site = now })
      came_more now = record {
        taken = g.taken;
        few = g.few;
        read = given_more;
        each = each_more;
        first = λ m all rest splits. first_ones g.bytes m (frames_of kind more) all rest after read_more splits;
      }

      -- it is handled
      pub handled : (o : X) (next : Node O E) (now : Option Told) → NodeAfter kind.rules (Ok o) (kind.step node.list a) node next
          → Goes site now (HandledAt kind (Ok o) a node next) → Going kind start after next (record { left = left; given = later; site = now })
      handled o next now stepped told = record {
        bytes = g.bytes;
        arrivals = more;
        taken = g.taken;
        few = g.few;
        read = read_more;
        given = given_more;
        each = each_more;
        site = goes_on (GoesOn kind g.arrivals node) (HandledAt kind (Ok o) a node next) (GoesOn kind more next) start.site site now
            (λ x y z on h. went_on kind fit g.arrivals a node next o x y z stepped on h) g.site told;
      }

      any_input : (fault : StepFault) → EndsInput kind (Err (step_end fault)) more g.bytes left
      any_input SiteFault = tt
      any_input LineFault = tt
      any_input (JournalFull t n) = tt
      any_input NoMemory = tt

      -- it isn't handled whole
      pub not_handled : (fault : StepFault) (next : Node O E) (now : Option Told) → NodeAfter {X = X} kind.rules (Err fault) (kind.step node.list a) node next
          → HasRoom {T = X} kind.rules (Err fault) (kind.step node.list a).adds node.tail
          → Goes site now (HandledAt kind (Err fault) a node next) → Session kind (Err (step_end fault)) start (record { left = left; given = later; site = now })
      not_handled fault next now stepped room told = record {
        bytes = g.bytes;
        arrivals = more;
        came = came_more now;
        input = any_input fault;
        site = goes_on (GoesOn kind g.arrivals node) (HandledAt kind (Err fault) a node next) (ServesAll kind (Err (step_end fault)) more) start.site site now
            (λ x y z on h. broke_off kind fit g.arrivals a node next fault x y z stepped room on h) g.site told;
      }
