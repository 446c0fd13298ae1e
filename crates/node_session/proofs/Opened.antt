-- A session that begins, or whose node isn't resumed.
use Rattle.std.proofs.Common.{◌≡◌, ◌⊎◌, ⊎_elim, ℕ, Bool, true, false, List, [], ◌∷◌, ◌++◌, length, take, refl, sym, ◌∙◌, ap, subst, Option, Some, None, Result, Ok, Err, append-nil, append_assoc, arith}
use Rattle.std.specs.Prelude.{IfSome}
use Rattle.std.specs.Io.KnownBytes.{append_known}
use Rattle.std.proofs.KnownBytes.{Consumes-nil}
use Rattle.site_core.specs.Log.{Act, reads, sent, Left}
use Rattle.site_core.specs.Told.{Told, Goes}
use Rattle.site_core.proofs.Moments.{only_reads}
use Rattle.site_core.proofs.Runs.{counted_on, goes_as, goes_nowhere}
use Rattle.torn_journal.specs.Resume.{HasLooked}
use Rattle.framed_input.specs.Intake.{Intake}
use Rattle.framed_input.specs.Reading.{HasRead}
use Rattle.journaled_list.specs.declared.faults.OpenFault.{OpenFault}
use Rattle.journaled_list.specs.declared.faults.OpenFault.TheVariants as opens
use Rattle.journaled_list.specs.Loading.{AnswersImage as AnswersList}
use Rattle.journaled_list.specs.Resuming.{IsResumeMoment, OpenCalls, ReadCalls, Resumes, ResumesAll}
use Rattle.journaled_list.specs.Rules.{Rules, Listed}
use Rattle.journaled_steps.specs.Node.{Node, found_of}
use Rattle.line_sessions.specs.declared.ends.SessionEnd.TheVariants as ends
use Rattle.line_sessions.specs.Plays.{IsMoment, Plays, all_sent}
use Rattle.node_session.specs.Ending.{AtRest, EndsInput, IsShort}
use Rattle.node_session.specs.Ends.{open_end}
use Rattle.node_session.specs.Going.{Going, GoesOn}
use Rattle.node_session.specs.Kinds.{IsFit, Kind, KeptStands, part_of}
use Rattle.node_session.specs.Kinds.Event.{Resumed}
use Rattle.node_session.specs.Serving.{ServesAll, Session}
use Rattle.node_session.specs.Views.{View, HasCome}
use Rattle.node_session.proofs.FrameTaken.{known_same}
use Rattle.node_session.proofs.Images.{opened, unopened}
use Rattle.node_session.proofs.OneEvent.{HasGrown, grown_by, grown_nowhere}

-- ---- what opening did

looked_grown : (whole : Bool) (old new : Told) → HasLooked whole old new → HasGrown old new
looked_grown whole old new looked = grown_by whole _ old new looked.ran

grown_on : (a b c : Told) → HasGrown a b → HasGrown b c → HasGrown a c
grown_on a b c p q = record {
  acts = q.acts ++ p.acts;
  grows = q.grows ∙ ap (λ (l : List Act). q.acts ++ l) p.grows ∙ sym (append_assoc q.acts p.acts a.log);
  counted = counted_on a b c p.counted q.counted;
}

-- a node was to be opened: the log went on, and nothing was sent where memory ran out
pub record HasTried {O E : Type 0} (result : Result (Node O E) OpenFault) (old new : Told) : Type 0 where
  pub grown : HasGrown old new
  pub unsent : result ≡ unopened opens.NoMemory → sent new.log ≡ sent old.log

same_sent : (old new : Told) → (new ≡ old) ⊎ HasLooked true old new → sent new.log ≡ sent old.log
same_sent old new calls = ⊎_elim (λ same. ap (λ (t : Told). sent t.log) same) (λ looked. looked.frames) calls

-- it sends again what its last record gave
pub tried_sending : {O E : Type 0} (rules : Rules O E) (again : Listed O E → ℕ → List (List ℕ)) (result : Result (Node O E) OpenFault) (old new : Told) → OpenCalls rules found_of again result old new
    → HasTried result old new
tried_sending rules again (Ok node) old new calls = record {
  grown = grown_on old calls.mid new (looked_grown true old calls.mid calls.looked) (grown_by true _ calls.mid new calls.sends);
  unsent = λ e. absurd cc;
}
tried_sending rules again (Err opens.LineFault) old new calls =
    let c = calls.2 in
    record { grown = grown_on old c.mid new (looked_grown true old c.mid c.looked) (grown_by false _ c.mid new c.sends); unsent = λ e. absurd cc }
tried_sending rules again (Err opens.SiteFault) old new calls = record { grown = looked_grown false old new calls; unsent = λ e. absurd cc }
tried_sending rules again (Err opens.NoHeader) old new calls = record { grown = looked_grown true old new calls; unsent = λ e. absurd cc }
tried_sending rules again (Err (opens.Damaged place)) old new calls = record { grown = looked_grown true old new calls; unsent = λ e. absurd cc }
tried_sending rules again (Err opens.NoMemory) old new calls = record { grown = ⊎_elim (grown_nowhere old new) (looked_grown true old new) calls; unsent = λ e. same_sent old new calls }

-- or it sends nothing
pub tried_reading : {O E : Type 0} (result : Result (Node O E) OpenFault) (old new : Told) → ReadCalls result old new → HasTried result old new
tried_reading (Ok node) old new calls = record { grown = looked_grown true old new calls; unsent = λ e. absurd cc }
tried_reading (Err opens.LineFault) old new calls = record { grown = looked_grown true old new calls; unsent = λ e. absurd cc }
tried_reading (Err opens.SiteFault) old new calls = record { grown = looked_grown false old new calls; unsent = λ e. absurd cc }
tried_reading (Err opens.NoHeader) old new calls = record { grown = looked_grown true old new calls; unsent = λ e. absurd cc }
tried_reading (Err (opens.Damaged place)) old new calls = record { grown = looked_grown true old new calls; unsent = λ e. absurd cc }
tried_reading (Err opens.NoMemory) old new calls = record { grown = ⊎_elim (grown_nowhere old new) (looked_grown true old new) calls; unsent = λ e. same_sent old new calls }

-- so it is where the site tells
pub goes_sending : {O E : Type 0} (rules : Rules O E) (again : Listed O E → ℕ → List (List ℕ)) (result : Result (Node O E) OpenFault) (a b : Option Told) → Goes a b (OpenCalls rules found_of again result)
    → Goes a b (HasTried result)
goes_sending rules again result a b calls = goes_as (OpenCalls rules found_of again result) (HasTried result) a b (tried_sending rules again result) calls

pub goes_reading : {O E : Type 0} (result : Result (Node O E) OpenFault) (a b : Option Told) → Goes a b (ReadCalls result) → Goes a b (HasTried result)
goes_reading result a b calls = goes_as (ReadCalls result) (HasTried result) a b (tried_reading result) calls

-- ---- the moments and the end

module _ {O E X A K : Type 0} (kind : Kind O E X A K) (fit : IsFit kind) where
  module _ (kept : K) (old new : Told) where
    abbrev frames : List (List ℕ)
    frames = kind.again (kind.list_of kept) (kind.recent_of kept)

    resumed_sent : all_sent (part_of kind) kept (Resumed ∷ []) ≡ frames
    resumed_sent = append-nil frames

    resumed_moment : (image : List ℕ) (found : List (List ℕ)) → IsResumeMoment kind.rules (kind.list_of kept) (kind.recent_of kept) frames old new image found → IsMoment (part_of kind) kept (Resumed ∷ []) (sent old.log) image found
    resumed_moment image found m = record {
      done = [];
      begun = Resumed ∷ [];
      later = [];
      are = refl;
      one = omega arith;
      stays = true;
      count = m.number;
      stands = m.stands;
      few = omega (arith, m.few, ap length resumed_sent);
      unsent = λ e. absurd cc;
      found_are = m.found_are ∙ ap (λ (l : List (List ℕ)). sent old.log ++ take m.number l) (sym resumed_sent);
    }

    module _ (result : Result (Node O E) OpenFault) (r : Resumes kind.rules found_of result (kind.list_of kept) (kind.recent_of kept) frames old new) (grown : HasGrown old new) where
      resumed_plays : Plays (part_of kind) kept (Resumed ∷ []) old new
      resumed_plays = record {
        acts = grown.acts;
        grows = grown.grows;
        each = λ image found left. resumed_moment image found (r.each image found left);
      }

      rest_after : KeptStands kind (reads old.log) kept → AtRest kind kept new
      rest_after stands = record { stands = subst (λ (i : List ℕ). KeptStands kind i kept) (sym r.image) stands; pending = r.pending }

    -- nothing was done
    still : (acts : List Act) → new.log ≡ acts ++ old.log
        → ((image : List ℕ) (found : List (List ℕ)) → Left (length old.log) new.log image found → KeptStands kind image kept × (found ≡ sent old.log))
        → sent new.log ≡ sent old.log → AtRest kind kept new → IsShort kind kept [] old new
    still acts grows each same rest = record {
      before = [];
      last = Resumed ∷ [];
      are = refl;
      one = omega arith;
      done = record {
        plays = record {
          plays = record {
            acts = acts;
            grows = grows;
            each = λ image found left. record {
              done = [];
              begun = [];
              later = [];
              are = refl;
              one = omega arith;
              stays = true;
              count = 0;
              stands = (each image found left).0;
              few = omega arith;
              unsent = λ e. refl;
              found_are = (each image found left).1 ∙ sym (append-nil (sent old.log));
            };
          };
          all = same ∙ sym (append-nil (sent old.log));
        };
        rest = rest;
      };
    }

  abbrev Moments : Result (Node O E) OpenFault → Told → Told → Type 0
  Moments result old new = ResumesAll kind.rules found_of kind.again result old new

  ends_unopened : (fault : OpenFault) (old new : Told) → AnswersList kind.rules found_of (reads old.log) (unopened fault)
      → HasTried {O = O} {E = E} (unopened fault) old new → Moments (unopened fault) old new → ServesAll kind (Err (open_end fault)) [] old new
  ends_unopened opens.SiteFault old new says tried moments kept pending stands =
      let r = moments (kind.list_of kept) (kind.recent_of kept) pending stands in
      record { plays = resumed_plays kept old new (Err opens.SiteFault) r tried.grown; ended = tt }
  ends_unopened opens.LineFault old new says tried moments kept pending stands =
      let r = moments (kind.list_of kept) (kind.recent_of kept) pending stands in
      record { plays = resumed_plays kept old new (Err opens.LineFault) r tried.grown; ended = rest_after kept old new (Err opens.LineFault) r tried.grown stands }
  ends_unopened opens.NoHeader old new says tried moments kept pending stands = absurd (says.sound (kind.list_of kept) (kind.recent_of kept) stands)
  ends_unopened (opens.Damaged place) old new says tried moments kept pending stands = absurd (says.sound (kind.list_of kept) (kind.recent_of kept) stands)
  ends_unopened opens.NoMemory old new says tried moments kept pending stands =
      let r = moments (kind.list_of kept) (kind.recent_of kept) pending stands in
      let grown = tried.grown in
      record {
        plays = resumed_plays kept old new (Err opens.NoMemory) r grown;
        ended = still kept old new grown.acts grown.grows (λ image found left. ((r.each image found left).stands, r.none_sent refl image found left)) (tried.unsent refl) (rest_after kept old new (Err opens.NoMemory) r grown stands);
      }

  nothing_came : (start : View) (now : Option Told) → HasCome kind [] [] start (record { left = start.left; given = start.given; site = now })
  nothing_came start now = record {
    taken = Consumes-nil start.left;
    few = omega arith;
    read = known_same start.given ∙ ap (append_known start.given) (sym fit.nothing_read);
    each = tt;
    first = λ more all rest splits. (all, refl);
  }

  input_unopened : (fault : OpenFault) (left : Option (List ℕ)) → EndsInput kind (Err (open_end fault)) [] [] left
  input_unopened opens.SiteFault left = tt
  input_unopened opens.LineFault left = tt
  input_unopened opens.NoHeader left = (refl, refl)
  input_unopened (opens.Damaged place) left = (refl, refl)
  input_unopened opens.NoMemory left = tt

  site_unopened : (fault : OpenFault) (a b : Option Told) → IfSome a (λ x. AnswersList kind.rules found_of (reads x.log) (unopened fault))
      → Goes a b (HasTried {O = O} {E = E} (unopened fault)) → Goes a b (Moments (unopened fault)) → Goes a b (ServesAll kind (Err (open_end fault)) [])
  site_unopened fault None b says tried moments = tt
  site_unopened fault (Some x) None says tried moments = absurd tried
  site_unopened fault (Some x) (Some y) says tried moments = ends_unopened fault x y says tried moments

  -- it isn't resumed
  pub not_opened : (start : View) (now : Option Told) (fault : OpenFault) → IfSome start.site (λ x. AnswersList kind.rules found_of (reads x.log) (unopened fault))
      → Goes start.site now (HasTried {O = O} {E = E} (unopened fault)) → Goes start.site now (Moments (unopened fault))
      → Session kind (Err (open_end fault)) start (record { left = start.left; given = start.given; site = now })
  not_opened start now fault says tried moments = record {
    bytes = [];
    arrivals = [];
    came = nothing_came start now;
    input = input_unopened fault start.left;
    site = site_unopened fault start.site now says tried moments;
  }

  -- there is no memory to begin
  pub not_begun : (start : View) → Session kind (Err ends.NoMemory) start start
  not_begun start = record {
    bytes = [];
    arrivals = [];
    came = nothing_came start start.site;
    input = tt;
    site = goes_nowhere (ServesAll kind (Err ends.NoMemory) []) start.site (λ x kept pending stands.
        let quiet : (image : List ℕ) (found : List (List ℕ)) → Left (length x.log) x.log image found → KeptStands kind image kept × (found ≡ sent x.log) =
        λ image found left.
        let now = only_reads x.log image found pending left in
        (subst (λ (i : List ℕ). KeptStands kind i kept) (sym now.0) stands, now.1) in
        let short = still kept x x [] refl quiet refl (record { stands = stands; pending = pending }) in
        record {
          plays = record {
            acts = [];
            grows = refl;
            each = λ image found left. record {
              done = [];
              begun = [];
              later = Resumed ∷ [];
              are = refl;
              one = omega arith;
              stays = true;
              count = 0;
              stands = (quiet image found left).0;
              few = omega arith;
              unsent = λ e. refl;
              found_are = (quiet image found left).1 ∙ sym (append-nil (sent x.log));
            };
          };
          ended = short;
        });
  }

  begun_on : (node : Node O E) → node.live ≡ true → (old new : Told) → HasTried (opened node) old new → Moments (opened node) old new → GoesOn kind [] node old new
  begun_on node live old new tried moments = record {
    counted = tried.grown.counted;
    ready = λ kept pending stands.
        let r = moments (kind.list_of kept) (kind.recent_of kept) pending stands in
        record {
          plays = record {
            plays = resumed_plays kept old new (Ok node) r tried.grown;
            all = r.all.0 ∙ ap (λ (l : List (List ℕ)). sent old.log ++ l) (sym (resumed_sent kept old new));
          };
          live = record { live = live; ready = r.ready.0 };
          list = r.ready.1;
          last = r.ready.2;
        };
  }

  site_begun : (node : Node O E) → node.live ≡ true → (a b : Option Told) → Goes a b (HasTried (opened node)) → Goes a b (Moments (opened node)) → Goes a b (GoesOn kind [] node)
  site_begun node live None b tried moments = tt
  site_begun node live (Some x) None tried moments = absurd tried
  site_begun node live (Some x) (Some y) tried moments = begun_on node live x y tried moments

  -- it is resumed
  pub begun : (start : View) (intake : Intake) (node : Node O E) (now : Option Told) → intake ≡ record { held = []; taken = 0 } → node.live ≡ true
      → Goes start.site now (HasTried (opened node)) → Goes start.site now (Moments (opened node))
      → Going kind start intake node (record { left = start.left; given = start.given; site = now })
  begun start intake node now fresh live tried moments = record {
    bytes = [];
    arrivals = [];
    taken = Consumes-nil start.left;
    few = omega arith;
    read = subst (λ (i : Intake). HasRead [] [] i) (sym fresh) (record { counted = refl; each = tt; is = refl });
    given = known_same start.given ∙ ap (append_known start.given) (sym fit.nothing_read);
    each = tt;
    site = site_begun node live start.site now tried moments;
  }
