-- The frames of the newest entries, one entry more.
use Rattle.std.proofs.Common.{◌≡◌, sym, ap, ◌∙◌, ℕ, zero, suc, ◌+◌, ◌-◌, ◌<◌, ◌≤◌, List, [], ◌∷◌, ◌++◌, length, drop, map, append_assoc, arith}
use Rattle.std.proofs.lemmas.List.{map-append}
use Rattle.host_ledger.specs.declared.config.Config.{Config}
use Rattle.host_ledger.specs.declared.entries.Entry.{Entry}
use Rattle.link_frames.specs.Frames.{Content as Frame, frame_bytes}
use Rattle.faim_model.specs.Sending.{resume_frames}
use Rattle.host_node.specs.Resending.{frames_at}
use Rattle.host_node.proofs.AtPlaces.{frames_before, frames_newest}

-- the frames of so many entries, and those of the entry after them
one_more : (c : Config) (es : List Entry) (place k i : ℕ) → place + suc k ≡ length es
    → resume_frames c (drop (suc k) es) i ++ frames_at c es place 80 ≡ resume_frames c (drop k es) (suc i)
one_more c [] place k i is = absurd (omega (arith, is))
one_more c (y ∷ older) place zero i is =
    ap (λ (l : List Frame). resume_frames c older i ++ l) (frames_newest c y older place 80 (omega (arith, is)))
one_more c (y ∷ older) place (suc k) i is =
    ap (λ (l : List Frame). resume_frames c (drop (suc k) older) i ++ l) (frames_before c y older place 80 (omega (arith, is)))
    ∙ one_more c older place k i (omega (arith, is))

-- what is appended to frames that were appended
pub joined : (old mid new : List (List ℕ)) (first then_sent all : List Frame) → mid ≡ old ++ map frame_bytes first → new ≡ mid ++ map frame_bytes then_sent
    → first ++ then_sent ≡ all → new ≡ old ++ map frame_bytes all
joined old mid new first then_sent all before after same =
    after ∙ ap (λ (l : List (List ℕ)). l ++ map frame_bytes then_sent) before
    ∙ append_assoc old (map frame_bytes first) (map frame_bytes then_sent)
    ∙ ap (λ (l : List (List ℕ)). old ++ l) (sym (map-append frame_bytes first then_sent) ∙ ap (map frame_bytes) same)

-- the frames of the first of them, as a loop counts them
pub newest_more : (c : Config) (es : List Entry) (last i place : ℕ) → last ≤ length es → i < last → place ≡ (length es - last) + i
    → resume_frames c (drop (last - i) es) i ++ frames_at c es place 80 ≡ resume_frames c (drop (last - (i + 1)) es) (i + 1)
newest_more c es last i place few lt is =
    let k : ℕ = last - (i + 1) in
    let next : last - i ≡ suc k = omega arith in
    let one : suc i ≡ i + 1 = omega arith in
    ap (λ (m : ℕ). resume_frames c (drop m es) i ++ frames_at c es place 80) next
    ∙ one_more c es place k i (omega arith)
    ∙ ap (λ (m : ℕ). resume_frames c (drop k es) m) one
