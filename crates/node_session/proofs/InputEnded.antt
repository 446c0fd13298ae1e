-- A session reads on, and ends with its input.
use Rattle.std.proofs.Common.{◌≡◌, ◌≢◌, ◌↔◌, ⊎_elim, ℕ, ◌+◌, ◌<◌, ◌≤◌, Bool, true, false, List, ◌++◌, take, refl, ap, subst, Option, Result, Ok, Err, arith}
use Rattle.std.proofs.lemmas.Bool.{cases_lt}
use Rattle.std.proofs.KnownBytes.{Consumes-trans}
use Rattle.site_core.specs.Told.{Told}
use Rattle.site_core.proofs.Runs.{goes_as}
use Rattle.link_frames.specs.Splits.{Splits, is_whole}
use Rattle.framed_input.specs.declared.ends.InputEnd.{InputEnd}
use Rattle.framed_input.specs.declared.ends.InputEnd.TheVariants as inputs
use Rattle.framed_input.specs.Intake.{Intake}
use Rattle.framed_input.specs.Limits.{greatest_input}
use Rattle.framed_input.specs.Taking.{Answers, Takes}
use Rattle.framed_input.proofs.InputFrames.{short_input, takes_more}
use Rattle.journaled_steps.specs.Node.{Node}
use Rattle.line_sessions.specs.declared.ends.SessionEnd.TheVariants as ends
use Rattle.node_session.specs.Ending.{AllCame, EndsInput}
use Rattle.node_session.specs.Ends.{input_end}
use Rattle.node_session.specs.Going.{Going, GoesOn}
use Rattle.node_session.specs.Kinds.{Kind}
use Rattle.node_session.specs.Serving.{ServesAll, Session}
use Rattle.node_session.specs.Views.{View, frames_of}
use Rattle.node_session.proofs.FrameTaken.{came_of, done_site}

-- whether a frame came, and why none did
abbrev pub came_as : Bool → Result Bool InputEnd
came_as came = Ok came

abbrev ended_as : InputEnd → Result Bool InputEnd
ended_as end = Err end

module _ {O E X A K : Type 0} (kind : Kind O E X A K) where
  -- more was taken
  pub advanced : (start : View) (left rest given : Option (List ℕ)) (site : Option Told) (old new : Intake) (node : Node O E)
      → Going kind start old node (record { left = left; given = given; site = site }) → Takes greatest_input left rest old new → new.taken ≤ greatest_input + 1
      → Going kind start new node (record { left = rest; given = given; site = site })
  advanced start left rest given site old new node g t most = record {
    bytes = g.bytes ++ t.more;
    arrivals = g.arrivals;
    taken = Consumes-trans start.left left rest g.bytes t.more g.taken t.source;
    few = omega (arith, most, (takes_more g.bytes (frames_of kind g.arrivals) left rest old new t g.read).counted);
    read = takes_more g.bytes (frames_of kind g.arrivals) left rest old new t g.read;
    given = g.given;
    each = g.each;
    site = g.site;
  }

  module _ (start : View) (left given : Option (List ℕ)) (site : Option Told) (intake : Intake) (node : Node O E) (g : Going kind start intake node (record { left = left; given = given; site = site })) where
    abbrev now : View
    now = record { left = left; given = given; site = site }

    -- no whole frame is held
    all_came : is_whole intake.held ≡ false → AllCame kind g.arrivals g.bytes intake.held
    all_came part = record { is = g.read.is; each = g.read.each; part = part }

    part_by : (result : Result Bool InputEnd) (whole : Bool) → (result ≡ Ok true) ↔ (whole ≡ true) → result ≢ Ok true → whole ≡ false
    part_by result false same other = refl
    part_by result true same other = absurd (other (same.1 refl))

    short : (result : Result Bool InputEnd) → (result ≡ Err inputs.TooLong) ↔ (greatest_input < intake.taken) → result ≢ Err inputs.TooLong → take greatest_input g.bytes ≡ g.bytes
    short result same other = short_input g.bytes (frames_of kind g.arrivals) intake g.read
        (⊎_elim (λ (lt : greatest_input < intake.taken). absurd (other (same.1 lt))) (λ le. le) (cases_lt greatest_input intake.taken))

    -- the input came to its end
    pub came_to_end : Answers (Ok false) intake.held left → (came_as false ≡ Err inputs.TooLong) ↔ (greatest_input < intake.taken) → intake.taken ≤ greatest_input + 1 → Session kind (Ok tt) start now
    came_to_end answer long most =
        let ended = answer.done refl in
        let all = short (Ok false) long (λ e. absurd cc) in
        let splits = all_came (part_by (Ok false) (is_whole intake.held) answer.frame (λ e. absurd cc)) in
        record {
          bytes = g.bytes;
          arrivals = g.arrivals;
          came = came_of kind start intake node now g;
          input = (subst (λ (l : List ℕ). Splits g.bytes (frames_of kind g.arrivals) l) ended.0 (subst (λ (l : List ℕ). Splits l (frames_of kind g.arrivals) intake.held) all splits), all, ended.1);
          site = goes_as (GoesOn kind g.arrivals node) (ServesAll kind (Ok tt) g.arrivals) start.site site
              (λ x y on. done_site kind g.arrivals node x y on (Ok tt) (λ kept done. record { plays = done.plays.plays; ended = done })) g.site;
        }

    input_ends : (end : InputEnd) → Answers (Err end) intake.held left → (ended_as end ≡ Err inputs.TooLong) ↔ (greatest_input < intake.taken) → intake.taken ≤ greatest_input + 1
        → EndsInput kind (Err (input_end end)) g.arrivals g.bytes left
    input_ends inputs.ReadFault answer long most = (intake.held, all_came (part_by (Err inputs.ReadFault) (is_whole intake.held) answer.frame (λ e. absurd cc)))
    input_ends (inputs.Frame fault) answer long most = record {
      rest = intake.held;
      all = all_came (part_by (Err (inputs.Frame fault)) (is_whole intake.held) answer.frame (λ e. absurd cc));
      fault_is = answer.bad fault refl;
      cut = λ n is. answer.cut n (ap (λ f. Err (inputs.Frame f)) is);
    }
    input_ends inputs.TooLong answer long most = (
      (intake.held, all_came (part_by (Err inputs.TooLong) (is_whole intake.held) answer.frame (λ e. absurd cc))),
      omega (arith, long.0 refl, most, g.read.counted),
    )

    site_ends : (end : InputEnd) → (x y : Told) → GoesOn kind g.arrivals node x y → ServesAll kind (Err (input_end end)) g.arrivals x y
    site_ends inputs.ReadFault x y on = done_site kind g.arrivals node x y on (Err ends.ReadFault) (λ kept done. record { plays = done.plays.plays; ended = done })
    site_ends (inputs.Frame fault) x y on = done_site kind g.arrivals node x y on (Err (ends.Frame fault)) (λ kept done. record { plays = done.plays.plays; ended = done })
    site_ends inputs.TooLong x y on = done_site kind g.arrivals node x y on (Err ends.TooLong) (λ kept done. record { plays = done.plays.plays; ended = done })

    -- no frame comes
    pub no_frame : (end : InputEnd) → Answers (Err end) intake.held left → (ended_as end ≡ Err inputs.TooLong) ↔ (greatest_input < intake.taken) → intake.taken ≤ greatest_input + 1
        → Session kind (Err (input_end end)) start now
    no_frame end answer long most = record {
      bytes = g.bytes;
      arrivals = g.arrivals;
      came = came_of kind start intake node now g;
      input = input_ends end answer long most;
      site = goes_as (GoesOn kind g.arrivals node) (ServesAll kind (Err (input_end end)) g.arrivals) start.site site (site_ends end) g.site;
    }
