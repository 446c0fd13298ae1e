-- A session in the model's words.
use Rattle.std.proofs.Common.{◌≡◌, List, [], ◌∷◌, ◌++◌, map, refl, sym, ◌∙◌, ap, append_assoc}
use Rattle.std.proofs.lemmas.List.{map-append}
use Rattle.link_frames.specs.Frames.{Content as Frame, frame_bytes}
use Rattle.faim_model.specs.Sending.{resume_frames}
use Rattle.faim_model.specs.Sessions.{Arrival, entries_after, frames_at, recent_after, session_frames}
use Rattle.line_sessions.specs.Plays.{all_after, all_sent}
use Rattle.node_session.specs.Kinds.{Event, events, kept_after, sent_at}
use Rattle.host_session.specs.HostKind.{Kept, host_kind, host_part, step_of}
use Rattle.node_session.specs.Kinds.Event.{Resumed, Came}
use Rattle.host_session.specs.Promises.{all_frames, frames_for}

came_after : (kept : Kept) (arrivals : List Arrival) → all_after host_part kept (map Came arrivals)
    ≡ record { config = kept.config; entries = entries_after kept.config kept.entries arrivals; recent = recent_after kept.config kept.entries kept.recent arrivals }
came_after kept [] = refl
came_after kept (a ∷ arrivals) = came_after (kept_after host_kind kept (Came a)) arrivals

pub session_after : (kept : Kept) (arrivals : List Arrival) → all_after host_part kept (events arrivals)
    ≡ record { config = kept.config; entries = entries_after kept.config kept.entries arrivals; recent = recent_after kept.config kept.entries kept.recent arrivals }
session_after kept arrivals = came_after kept arrivals

came_frames : (kept : Kept) (arrivals : List Arrival) → all_frames kept (map Came arrivals) ≡ frames_at kept.config kept.entries arrivals
came_frames kept [] = refl
came_frames kept (a ∷ arrivals) = ap (λ (l : List Frame). (step_of kept a).sends ++ l) (came_frames (kept_after host_kind kept (Came a)) arrivals)

pub frames_of_session : (kept : Kept) (arrivals : List Arrival) → all_frames kept (events arrivals) ≡ session_frames kept.config kept.entries kept.recent arrivals
frames_of_session kept arrivals = ap (λ (l : List Frame). resume_frames kept.config kept.entries kept.recent ++ l) (came_frames kept arrivals)

-- ---- their bytes

bytes_at : (kept : Kept) (event : Event Arrival) → sent_at host_kind kept event ≡ map frame_bytes (frames_for kept event)
bytes_at kept Resumed = refl
bytes_at kept (Came a) = refl

pub bytes_of_all : (kept : Kept) (taken : List (Event Arrival)) → all_sent host_part kept taken ≡ map frame_bytes (all_frames kept taken)
bytes_of_all kept [] = refl
bytes_of_all kept (event ∷ later) =
    (λ k. bytes_at kept event k ++ bytes_of_all (kept_after host_kind kept event) later k)
    ∙ sym (map-append frame_bytes (frames_for kept event) (all_frames (kept_after host_kind kept event) later))

pub session_sent : (kept : Kept) (arrivals : List Arrival) → all_sent host_part kept (events arrivals) ≡ map frame_bytes (session_frames kept.config kept.entries kept.recent arrivals)
session_sent kept arrivals = bytes_of_all kept (events arrivals) ∙ ap (map frame_bytes) (frames_of_session kept arrivals)

-- ---- of events in two parts

pub frames_on : (kept : Kept) (first more : List (Event Arrival)) → all_frames kept (first ++ more) ≡ all_frames kept first ++ all_frames (all_after host_part kept first) more
frames_on kept [] more = refl
frames_on kept (event ∷ first) more =
    ap (λ (l : List Frame). frames_for kept event ++ l) (frames_on (kept_after host_kind kept event) first more)
    ∙ sym (append_assoc (frames_for kept event) (all_frames (kept_after host_kind kept event) first) (all_frames (all_after host_part (kept_after host_kind kept event) first) more))
