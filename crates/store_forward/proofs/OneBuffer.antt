-- Frames in one list of bytes.
use Rattle.std.proofs.Common.{◌≡◌, ℕ, zero, suc, ◌-◌, ◌<◌, ◌≤◌, List, [], ◌∷◌, ◌++◌, length, take, drop, get_or, refl, sym, ◌∙◌, ap, subst, arith, length-append, length-drop}
use Rattle.std.proofs.lemmas.List.{take-append-le, drop-append-le, take_all}
use Rattle.std.proofs.Math.Seq.{drop-append_seam}
use Rattle.std.specs.Prelude.{slice_get, Some}
use Rattle.store_forward.specs.Outbox.{frames_from, AreEnds}

-- there are as many frames as ends
pub frames_long : (start : ℕ) (bytes ends : List ℕ) → length (frames_from start bytes ends) ≡ length ends
frames_long start bytes [] = refl
frames_long start bytes (e ∷ ends) = ap suc (frames_long e bytes ends)

-- the start lies in the bytes
pub start_within : (start size : ℕ) (ends : List ℕ) → AreEnds start size ends → start ≤ size
start_within start size [] are = omega (arith, are)
start_within start size (e ∷ ends) are = omega (arith, are.0, start_within e size ends are.1)

-- and so does each end
pub end_within : (start size : ℕ) (ends : List ℕ) (i : ℕ) → AreEnds start size ends → i < length ends → get_or ends i 0 ≤ size
end_within start size [] i are lt = absurd (omega (arith, lt))
end_within start size (e ∷ ends) zero are lt = start_within e size ends are.1
end_within start size (e ∷ ends) (suc i) are lt = end_within e size ends i are.1 (omega (arith, lt))

-- a frame begins before it ends
pub start_before : (start size : ℕ) (ends : List ℕ) (i : ℕ) → AreEnds start size ends → i < length ends → get_or (start ∷ ends) i 0 ≤ get_or ends i 0
start_before start size [] i are lt = absurd (omega (arith, lt))
start_before start size (e ∷ ends) zero are lt = are.0
start_before start size (e ∷ ends) (suc i) are lt = start_before e size ends i are.1 (omega (arith, lt))

-- and these are its bytes
pub frame_is : (start : ℕ) (bytes ends : List ℕ) (i : ℕ) → i < length ends → slice_get (frames_from start bytes ends) i ≡ Some (take (get_or ends i 0 - get_or (start ∷ ends) i 0) (drop (get_or (start ∷ ends) i 0) bytes))
frame_is start bytes [] i lt = absurd (omega (arith, lt))
frame_is start bytes (e ∷ ends) zero lt = refl
frame_is start bytes (e ∷ ends) (suc i) lt = frame_is e bytes ends i (omega (arith, lt))

-- what lies before the last end stays where more bytes come
part_stays : (start e : ℕ) (bytes more : List ℕ) → start ≤ e → e ≤ length bytes → take (e - start) (drop start (bytes ++ more)) ≡ take (e - start) (drop start bytes)
part_stays start e bytes more le inside =
    ap (λ (l : List ℕ). take (e - start) l) (drop-append-le start bytes more (omega (arith, le, inside)))
    ∙ take-append-le (e - start) (drop start bytes) more (omega (arith, le, inside, length-drop start bytes))

-- what comes behind all bytes is the rest from there on
rest_is : (start : ℕ) (bytes frame : List ℕ) → start ≡ length bytes → take (length (bytes ++ frame) - start) (drop start (bytes ++ frame)) ≡ frame
rest_is start bytes frame is =
    ap (λ n. take (length (bytes ++ frame) - n) (drop n (bytes ++ frame))) is
    ∙ ap (λ (l : List ℕ). take (length (bytes ++ frame) - length bytes) l) (drop-append_seam bytes frame)
    ∙ take_all (length (bytes ++ frame) - length bytes) frame (omega (arith, length-append bytes frame))

-- with a frame behind them and its end
pub frames_push : (start : ℕ) (bytes frame ends : List ℕ) → AreEnds start (length bytes) ends → frames_from start (bytes ++ frame) (ends ++ length (bytes ++ frame) ∷ []) ≡ frames_from start bytes ends ++ frame ∷ []
frames_push start bytes frame [] are = ap (λ (l : List ℕ). l ∷ []) (rest_is start bytes frame are)
frames_push start bytes frame (e ∷ ends) are =
    ap (λ (l : List ℕ). l ∷ frames_from e (bytes ++ frame) (ends ++ length (bytes ++ frame) ∷ [])) (part_stays start e bytes frame are.0 (start_within e (length bytes) ends are.1))
    ∙ ap (λ (l : List (List ℕ)). take (e - start) (drop start bytes) ∷ l) (frames_push e bytes frame ends are.1)

pub ends_push : (start size more : ℕ) (ends : List ℕ) → AreEnds start size ends → size ≤ more → AreEnds start more (ends ++ more ∷ [])
ends_push start size more [] are le = (omega (arith, are, le), refl)
ends_push start size more (e ∷ ends) are le = (are.0, ends_push e size more ends are.1 le)

-- what the buffer and its ends stand for once a frame is there too
module _ (bytes ends frame later last : List ℕ) (is : later ≡ bytes ++ frame) (are : AreEnds 0 (length bytes) ends) (ended : last ≡ ends ++ length later ∷ []) where
  pub ends_pushed : AreEnds 0 (length later) last
  ends_pushed = subst (λ (l : List ℕ). AreEnds 0 (length later) l) (sym ended) (ends_push 0 (length bytes) (length later) ends are (omega (arith, ap length is, length-append bytes frame)))

  pub frames_pushed : (frames : List (List ℕ)) → frames_from 0 bytes ends ≡ frames → frames_from 0 later last ≡ frames ++ frame ∷ []
  frames_pushed frames were =
      ap (λ (l : List ℕ). frames_from 0 later l) ended
      ∙ ap (λ (l : List ℕ). frames_from 0 l (ends ++ length l ∷ [])) is
      ∙ frames_push 0 bytes frame ends are
      ∙ ap (λ (l : List (List ℕ)). l ++ frame ∷ []) were
