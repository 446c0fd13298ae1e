-- The frames of a session in order, and those that are out at a moment.
use Rattle.std.proofs.Common.{◌≡◌, ℕ, List, [], ◌∷◌, ◌++◌, map, take, drop, refl, sym, ◌∙◌, ap, append_assoc, take-append-drop}
use Rattle.std.proofs.lemmas.List.{map-append, take-map}
use Rattle.link_frames.specs.Frames.{Content as Frame, frame_bytes}
use Rattle.line_sessions.specs.Plays.{Part, all_after, all_sent}
use Rattle.node_session.specs.Sent.{frames_in_order}

module _ {K T : Type 0} (part : Part K T) (sends : K → T → List Frame) (same : (kept : K) (t : T) → part.sends kept t ≡ map frame_bytes (sends kept t)) where
  abbrev frames : K → List T → List Frame
  frames kept taken = frames_in_order part.after sends kept taken

  -- their bytes
  pub bytes_in_order : (kept : K) (taken : List T) → all_sent part kept taken ≡ map frame_bytes (frames kept taken)
  bytes_in_order kept [] = refl
  bytes_in_order kept (t ∷ later) =
      (λ k. same kept t k ++ bytes_in_order (part.after kept t) later k)
      ∙ sym (map-append frame_bytes (sends kept t) (frames (part.after kept t) later))

  -- of things in two parts
  pub frames_on : (kept : K) (first more : List T) → frames kept (first ++ more) ≡ frames kept first ++ frames (all_after part kept first) more
  frames_on kept [] more = refl
  frames_on kept (t ∷ first) more =
      ap (λ (l : List Frame). sends kept t ++ l) (frames_on (part.after kept t) first more)
      ∙ sym (append_assoc (sends kept t) (frames (part.after kept t) first) (frames (all_after part (part.after kept t) first) more))

  -- some things are done, one is begun with so many of its frames out, and others come later
  module _ (kept : K) (done begun later : List T) (count : ℕ) where
    abbrev mid : K
    mid = all_after part kept done

    abbrev going : List Frame
    going = frames mid begun

    abbrev pub out_at : List Frame
    out_at = frames kept done ++ take count going

    abbrev pub later_at : List Frame
    later_at = drop count going ++ frames (all_after part mid begun) later

    pub frames_at : frames kept (done ++ (begun ++ later)) ≡ out_at ++ later_at
    frames_at =
        frames_on kept done (begun ++ later)
        ∙ ap (λ (l : List Frame). frames kept done ++ l) (
        frames_on mid begun later
        ∙ ap (λ (l : List Frame). l ++ frames (all_after part mid begun) later) (sym (take-append-drop count going))
        ∙ append_assoc (take count going) (drop count going) (frames (all_after part mid begun) later))
        ∙ sym (append_assoc (frames kept done) (take count going) (drop count going ++ frames (all_after part mid begun) later))

    pub bytes_at : all_sent part kept done ++ take count (all_sent part mid begun) ≡ map frame_bytes out_at
    bytes_at =
        (λ k. bytes_in_order kept done k ++ take count (bytes_in_order mid begun k))
        ∙ ap (λ (l : List (List ℕ)). map frame_bytes (frames kept done) ++ l) (take-map frame_bytes count going)
        ∙ sym (map-append frame_bytes (frames kept done) (take count going))
