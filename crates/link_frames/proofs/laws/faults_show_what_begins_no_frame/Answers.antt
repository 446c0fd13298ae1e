use Rattle.std.proofs.Common.{◌≡◌, ⊎_elim, ◌<◌, ◌≤◌, ℕ, List, ◌++◌, length, take, false, None, refl, sym, ◌∙◌, ap, arith}
use Rattle.std.proofs.lemmas.Bool.{cases_lt}
use Rattle.std.proofs.lemmas.List.{take_at}
use Rattle.link_frames.specs.Frames.{Content, IsFrame, frame_bytes}
use Rattle.link_frames.specs.Splits.{fault_at, is_whole, size_at}
use Rattle.link_frames.proofs.Fronts.{whole_from}
use Rattle.link_frames.proofs.Spelled.{front_clean, begun}
use Rattle.link_frames.proofs.laws.faults_show_what_begins_no_frame.Goals as goal

pub returns-clause-front : goal.returns-clause-front
returns-clause-front c = λ f n is. front_clean f is n

not_longer : (bytes : List ℕ) → 4 ≤ length bytes → is_whole bytes ≡ false → fault_at bytes ≡ None → length bytes ≤ size_at bytes
not_longer bytes four part clean = ⊎_elim
    (λ (lt : size_at bytes < length bytes). let h = whole_from bytes four (omega (arith, lt)) clean in absurd (cc))
    (λ le. le)
    (cases_lt (size_at bytes) (length bytes))

part_clean : (bytes more : List ℕ) (f : Content) → IsFrame f → bytes ++ more ≡ frame_bytes f → fault_at bytes ≡ None
part_clean bytes more f is e =
    ap fault_at (sym (take_at bytes more (length bytes) refl) ∙ ap (take (length bytes)) e)
    ∙ front_clean f is (length bytes)

pub returns-clause-begun : goal.returns-clause-begun
returns-clause-begun c = λ bytes small four part. (
  λ clean. begun bytes small four clean (not_longer bytes four part clean),
  λ t. part_clean bytes t.1 t.0 t.2 t.3,
)
