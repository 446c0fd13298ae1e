-- What stands where a session ended, for the next one.
use Rattle.std.proofs.Common.{◌≡◌, ◌≢◌, ⊎_elim, ℕ, ◌≤◌, List, [], ◌∷◌, ◌++◌, length, refl, sym, ◌∙◌, ap, subst, Result, Ok, Err, append-nil, arith}
use Rattle.std.proofs.lemmas.List.{map-append}
use Rattle.site_core.specs.Log.{Act, reads, sent, NothingPending}
use Rattle.site_core.specs.Log.Act.{Restarted}
use Rattle.site_core.specs.Told.{Restarts, Told}
use Rattle.site_core.proofs.Moments.{counts_now, leaves_reads, restarted}
use Rattle.journaled_list.specs.Making.{Inits}
use Rattle.journaled_list.specs.Payloads.{Stands}
use Rattle.journaled_list.specs.Rules.{Listed}
use Rattle.journaled_steps.specs.Node.{Node, found_of}
use Rattle.line_sessions.specs.declared.ends.SessionEnd.{SessionEnd}
use Rattle.line_sessions.specs.declared.ends.SessionEnd.TheVariants as ends
use Rattle.line_sessions.specs.Plays.{IsMoment, Plays, all_after}
use Rattle.line_sessions.proofs.Joined.{after_on, kept_in_order, plays_on, plays_out_on}
use Rattle.node_session.specs.Ending.{AtRest, EndsSite, IsDone}
use Rattle.node_session.specs.Kinds.{Event, Kind, KeptStands, events, part_of}
use Rattle.node_session.specs.Kinds.Event.{Resumed, Came}
use Rattle.node_session.specs.Serving.{Serves, ServesAll}

module _ {O E X A K : Type 0} (kind : Kind O E X A K) where
  -- ---- where the site is at rest

  -- after some first events of the session, with at most one event later
  abbrev IsAfter : (K → List (Event A) → Type 0) → K → List A → Type 0
  IsAfter Holds kept arrivals = (done : List (Event A)) × (later : List (Event A)) × (events arrivals ≡ done ++ later) × (length later ≤ 1) × Holds kept done

  after_all : (Holds : K → List (Event A) → Type 0) (kept : K) (arrivals : List A) → Holds kept (events arrivals) → IsAfter Holds kept arrivals
  after_all Holds kept arrivals holds = (events arrivals, [], sym (append-nil (events arrivals)), omega arith, holds)

  abbrev Rests : Told → K → List (Event A) → Type 0
  Rests new kept done = AtRest kind (all_after (part_of kind) kept done) new

  abbrev Done : Told → Told → K → List (Event A) → Type 0
  Done old new kept done = IsDone kind kept done old new

  pub some_done : (result : Result (Unit {0}) SessionEnd) (kept : K) (arrivals : List A) (old new : Told) → Serves kind result kept arrivals old new
      → result ≢ Err ends.DiskFault → result ≢ Err ends.LineFault
      → (done : List (Event A)) × (later : List (Event A)) × (events arrivals ≡ done ++ later) × (length later ≤ 1) × IsDone kind kept done old new
  some_done (Ok done) kept arrivals old new s disk line = after_all (Done old new) kept arrivals s.ended
  some_done (Err ends.ReadFault) kept arrivals old new s disk line = after_all (Done old new) kept arrivals s.ended
  some_done (Err (ends.Frame fault)) kept arrivals old new s disk line = after_all (Done old new) kept arrivals s.ended
  some_done (Err ends.TooLong) kept arrivals old new s disk line = after_all (Done old new) kept arrivals s.ended
  some_done (Err ends.ClockFault) kept arrivals old new s disk line = after_all (Done old new) kept arrivals s.ended
  some_done (Err ends.DiskFault) kept arrivals old new s disk line = absurd (disk refl)
  some_done (Err ends.LineFault) kept arrivals old new s disk line = absurd (line refl)
  some_done (Err ends.NoJournal) kept arrivals old new s disk line = absurd s.ended
  some_done (Err (ends.Damaged place)) kept arrivals old new s disk line = absurd s.ended
  some_done (Err (ends.JournalFull tail need)) kept arrivals old new s disk line = (
    events s.ended.before,
    Came s.ended.last ∷ [],
    ap events s.ended.are ∙ ap (λ (l : List (Event A)). Resumed ∷ l) (map-append Came s.ended.before (s.ended.last ∷ [])),
    omega arith,
    s.ended.done,
  )
  some_done (Err ends.NoMemory) kept arrivals old new s disk line = (s.ended.before, s.ended.last, s.ended.are, omega (arith, s.ended.one), s.ended.done)

  pub all_done : (result : Result (Unit {0}) SessionEnd) (kept : K) (arrivals : List A) (old new : Told) → Serves kind result kept arrivals old new
      → result ≢ Err ends.DiskFault → result ≢ Err ends.LineFault → result ≢ Err ends.NoMemory → ((tail need : ℕ) → result ≢ Err (ends.JournalFull tail need))
      → IsDone kind kept (events arrivals) old new
  all_done (Ok done) kept arrivals old new s disk line memory full = s.ended
  all_done (Err ends.ReadFault) kept arrivals old new s disk line memory full = s.ended
  all_done (Err (ends.Frame fault)) kept arrivals old new s disk line memory full = s.ended
  all_done (Err ends.TooLong) kept arrivals old new s disk line memory full = s.ended
  all_done (Err ends.ClockFault) kept arrivals old new s disk line memory full = s.ended
  all_done (Err ends.DiskFault) kept arrivals old new s disk line memory full = absurd (disk refl)
  all_done (Err ends.LineFault) kept arrivals old new s disk line memory full = absurd (line refl)
  all_done (Err ends.NoJournal) kept arrivals old new s disk line memory full = absurd s.ended
  all_done (Err (ends.Damaged place)) kept arrivals old new s disk line memory full = absurd s.ended
  all_done (Err (ends.JournalFull tail need)) kept arrivals old new s disk line memory full = absurd (full tail need refl)
  all_done (Err ends.NoMemory) kept arrivals old new s disk line memory full = absurd (memory refl)

  line_or_done : (result : Result (Unit {0}) SessionEnd) (kept : K) (arrivals : List A) (old new : Told) → Serves kind result kept arrivals old new
      → (result ≡ Err ends.LineFault → IsAfter (Rests new) kept arrivals) → (result ≢ Err ends.LineFault → IsAfter (Rests new) kept arrivals) → IsAfter (Rests new) kept arrivals
  line_or_done (Err ends.LineFault) kept arrivals old new s is other = is refl
  line_or_done result kept arrivals old new s is other = other (λ e. absurd cc)

  pub rests_at : (result : Result (Unit {0}) SessionEnd) (kept : K) (arrivals : List A) (old new : Told) → Serves kind result kept arrivals old new → result ≢ Err ends.DiskFault
      → (done : List (Event A)) × (later : List (Event A)) × (events arrivals ≡ done ++ later) × (length later ≤ 1) × AtRest kind (all_after (part_of kind) kept done) new
  rests_at result kept arrivals old new s disk =
      line_or_done result kept arrivals old new s
      (λ line. after_all (Rests new) kept arrivals (subst (λ (r : Result (Unit {0}) SessionEnd). EndsSite kind r kept arrivals old new) line s.ended))
      (λ line. let d = some_done result kept arrivals old new s disk line in (d.0, d.1, d.2, d.3, d.4.rest))

  -- the next session
  module _ (kept : K) (done : List (Event A)) (end : Result (Unit {0}) SessionEnd) (later : List A) (a b c : Told) (first : IsDone kind kept done a b) (next : ServesAll kind end later b c) where
    abbrev served : Serves kind end (all_after (part_of kind) kept done) later b c
    served = next (all_after (part_of kind) kept done) first.rest.pending first.rest.stands

    pub served_next : Plays (part_of kind) kept (done ++ events later) a c × EndsSite kind end (all_after (part_of kind) kept done) later b c
    served_next = (plays_on (part_of kind) kept done (events later) a b c first.plays served.plays, served.ended)

  pub done_on : (kept : K) (first later : List (Event A)) (a b c : Told) → IsDone kind kept first a b → IsDone kind (all_after (part_of kind) kept first) later b c → IsDone kind kept (first ++ later) a c
  done_on kept first later a b c p q = record {
    plays = plays_out_on (part_of kind) kept first later a b c p.plays q.plays;
    rest = subst (λ (k : K). AtRest kind k c) (sym (after_on (part_of kind) kept first later)) q.rest;
  }

  -- what stands now
  pub stands_now : (kept : K) (taken : List (Event A)) (a b : Told) → Plays (part_of kind) kept taken a b → IsMoment (part_of kind) kept taken (sent a.log) (reads b.log) (sent b.log)
  stands_now kept taken a b plays = plays.each (reads b.log) (sent b.log) (counts_now b.log (length a.log) (reads b.log) (sent b.log) (leaves_reads b.log, refl))

  -- a stop, and then a restart
  module _ (kept : K) (taken : List (Event A)) (a b c : Told) (plays : Plays (part_of kind) kept taken a b) (r : Restarts b c) where
    abbrev Stops : List Act → Type 0
    Stops log = IsMoment (part_of kind) kept taken (sent a.log) (reads log) (sent log) × NothingPending log

    moment_left : IsMoment (part_of kind) kept taken (sent a.log) r.image (sent b.log)
    moment_left = plays.each r.image (sent b.log) (counts_now b.log (length a.log) r.image (sent b.log) (r.allowed, refl))

    pub restarts_at : IsMoment (part_of kind) kept taken (sent a.log) (reads c.log) (sent c.log) × NothingPending c.log
    restarts_at =
        ⊎_elim (λ (gone : c.log ≡ Restarted r.image ∷ b.log). subst Stops (sym gone) (moment_left, restarted r.image b.log))
        (λ (same : (c.log ≡ b.log) × NothingPending b.log).
        subst Stops (sym same.0)
        (subst (λ (image : List ℕ). IsMoment (part_of kind) kept taken (sent a.log) image (sent b.log)) (same.1.image r.image r.allowed) moment_left, same.1))
        r.log

    pub rests_after : (done : List (Event A)) × (later : List (Event A)) × (taken ≡ done ++ later) × AtRest kind (all_after (part_of kind) kept done) c
    rests_after =
        let order = kept_in_order (part_of kind) kept taken (sent a.log) (reads c.log) (sent c.log) restarts_at.0 in
        (order.0, order.1, order.2, record { stands = order.3; pending = restarts_at.1 })

  -- a node that was made
  pub rests_made : (opening : List ℕ) (kept : K) (node : Node O E) (old new : Told) → Inits kind.rules found_of opening (Ok node) old new
      → node.list ≡ kind.list_of kept → node.last ≡ kind.recent_of kept → AtRest kind kept new × (sent new.log ≡ sent old.log)
  rests_made opening kept node old new makes list last = (
    record {
      stands = subst (λ (n : ℕ). Stands kind.rules (reads new.log) (kind.list_of kept) n) last
          (subst (λ (l : Listed O E). Stands kind.rules (reads new.log) l node.last) list makes.ready.stands);
      pending = makes.ready.pending;
    },
    makes.made.frames,
  )
