-- A bank's session in the words of its steps, and what its events add.
use Rattle.std.proofs.Common.{◌≡◌, ℕ, List, [], ◌∷◌, ◌++◌, map, refl, sym, ◌∙◌, ap, Option, Some, None, append_assoc}
use Rattle.std.specs.Option.{option_to_list}
use Rattle.link_frames.specs.Frames.{Content as Frame, frame_bytes}
use Rattle.bank_books.specs.declared.entries.BankEntry.{BankEntry}
use Rattle.bank_turns.specs.BankSteps.{adds_to}
use Rattle.line_sessions.specs.Plays.{all_after, all_sent}
use Rattle.node_session.specs.Kinds.{Event, events, kept_after, sent_at}
use Rattle.node_session.specs.Kinds.Event.{Resumed, Came}
use Rattle.node_session.proofs.InFrames.{bytes_in_order}
use Rattle.bank_session.specs.BankKind.{Kept, bank_kind, bank_part, kept_with, step_at}
use Rattle.bank_session.specs.BankSessions.{entries_after, frames_at}
use Rattle.bank_session.specs.Promises.{all_frames, frames_for}

-- ---- in the words of its steps

came_opened : (kept : Kept) (arrivals : List Frame) → (all_after bank_part kept (map Came arrivals)).opening ≡ kept.opening
came_opened kept [] = refl
came_opened kept (f ∷ arrivals) = came_opened (kept_with kept f) arrivals

came_after : (kept : Kept) (arrivals : List Frame) → (all_after bank_part kept (map Came arrivals)).entries ≡ entries_after kept.opening kept.entries arrivals
came_after kept [] = refl
came_after kept (f ∷ arrivals) = came_after (kept_with kept f) arrivals

pub session_after : (kept : Kept) (arrivals : List Frame) → ((all_after bank_part kept (events arrivals)).opening ≡ kept.opening)
    × ((all_after bank_part kept (events arrivals)).entries ≡ entries_after kept.opening kept.entries arrivals)
session_after kept arrivals = (came_opened kept arrivals, came_after kept arrivals)

came_frames : (kept : Kept) (arrivals : List Frame) → all_frames kept (map Came arrivals) ≡ frames_at kept.opening kept.entries arrivals
came_frames kept [] = refl
came_frames kept (f ∷ arrivals) = ap (λ (l : List Frame). (step_at kept f).sends ++ l) (came_frames (kept_with kept f) arrivals)

pub frames_of_session : (kept : Kept) (arrivals : List Frame) → all_frames kept (events arrivals) ≡ frames_at kept.opening kept.entries arrivals
frames_of_session kept arrivals = came_frames kept arrivals

-- their bytes
pub bytes_for : (kept : Kept) (event : Event Frame) → sent_at bank_kind kept event ≡ map frame_bytes (frames_for kept event)
bytes_for kept Resumed = refl
bytes_for kept (Came f) = refl

pub session_sent : (kept : Kept) (arrivals : List Frame) → all_sent bank_part kept (events arrivals) ≡ map frame_bytes (frames_at kept.opening kept.entries arrivals)
session_sent kept arrivals = bytes_in_order bank_part frames_for bytes_for kept (events arrivals) ∙ ap (map frame_bytes) (frames_of_session kept arrivals)

-- ---- what events add

abbrev pub newer_at : Kept → Event Frame → List BankEntry
newer_at kept Resumed = []
newer_at kept (Came f) = option_to_list (step_at kept f).adds

abbrev pub all_newer : Kept → List (Event Frame) → List BankEntry
all_newer kept [] = []
all_newer kept (event ∷ later) = all_newer (kept_after bank_kind kept event) later ++ newer_at kept event

added : (adds : Option BankEntry) (es : List BankEntry) → adds_to adds es ≡ option_to_list adds ++ es
added None es = refl
added (Some x) es = refl

grown_by : (kept : Kept) (event : Event Frame) → (kept_after bank_kind kept event).entries ≡ newer_at kept event ++ kept.entries
grown_by kept Resumed = refl
grown_by kept (Came f) = added (step_at kept f).adds kept.entries

pub grown_is : (kept : Kept) (taken : List (Event Frame)) → (all_after bank_part kept taken).entries ≡ all_newer kept taken ++ kept.entries
grown_is kept [] = refl
grown_is kept (event ∷ later) =
    grown_is (kept_after bank_kind kept event) later
    ∙ ap (λ (l : List BankEntry). all_newer (kept_after bank_kind kept event) later ++ l) (grown_by kept event)
    ∙ sym (append_assoc (all_newer (kept_after bank_kind kept event) later) (newer_at kept event) kept.entries)

-- the opening stays
opened_by : (kept : Kept) (event : Event Frame) → (kept_after bank_kind kept event).opening ≡ kept.opening
opened_by kept Resumed = refl
opened_by kept (Came f) = refl

pub opened_still : (kept : Kept) (taken : List (Event Frame)) → (all_after bank_part kept taken).opening ≡ kept.opening
opened_still kept [] = refl
opened_still kept (event ∷ later) = opened_still (kept_after bank_kind kept event) later ∙ opened_by kept event
