-- The frames of an entry: what covers them, their marks, and that they differ in their marks alone.
use Rattle.std.proofs.Common.{◌≡◌, ⊎_elim, inl, inr, refl, sym, ap, ◌∙◌, ℕ, suc, zero, set, get_or, List, [], ◌∷◌, ◌++◌, length, map, Option, Some, None, option_and_then}
use Rattle.std.specs.List.{Contains, flat_map}
use Rattle.std.specs.Option.{option_to_list}
use Rattle.std.proofs.lemmas.List.{map-append, set-get_or}
use Rattle.std.proofs.lemmas.List.Elements.{Contains-append_cases, Contains-append_right}
use Rattle.host_ledger.specs.declared.config.Config.{Config}
use Rattle.host_ledger.specs.declared.entries.Entry.{Entry}
use Rattle.host_ledger.specs.declared.entries.Entry.TheVariants.{Posted, Roll}
use Rattle.host_ledger.specs.Accounts.{endpoints_of}
use Rattle.link_frames.specs.Frames.{Content as Frame}
use Rattle.faim_model.specs.Outputs.{Item, item_of, outputs}
use Rattle.faim_model.specs.Frames.{Covered, IsAckMark, ack_of, output}
use Rattle.faim_model.specs.Sending.{frames_of, given_to, resume_frames, unmarked}
use Rattle.faim_model.proofs.Covering.{covered_by_longer}
use Rattle.faim_model.proofs.Drawn.{from_flat_map, from_map, from_option}
use Rattle.faim_model.proofs.Marks.{set_twice}
use Rattle.faim_model.proofs.Members.{none_in}
use Rattle.faim_model.proofs.Places.{at_newest}

-- a frame of an entry is its acknowledgement, or one of the outputs that it gives an endpoint
pub data Part (c : Config) (older : List Entry) (x : Entry) (mark : ℕ) (f : Frame) : Type 0 where
  Acked : ack_of c mark x ≡ Some f → Part c older x mark f
  Given : (e : List ℕ) → (i : Item) → Contains (endpoints_of c.accounts) e → Contains (item_of c older (outputs c older e) x e) i
      → output c e i mark ≡ f → Part c older x mark f

pub part_of : (c : Config) (older : List Entry) (x : Entry) (mark : ℕ) (f : Frame) → Contains (frames_of c older x mark) f → Part c older x mark f
part_of c older x mark f there =
    ⊎_elim (λ (own : Contains (option_to_list (ack_of c mark x)) f). Acked (from_option (ack_of c mark x) f own)) given
    (Contains-append_cases (option_to_list (ack_of c mark x)) (flat_map (given_to c older x mark) (endpoints_of c.accounts)) f there)
  where
    given : Contains (flat_map (given_to c older x mark) (endpoints_of c.accounts)) f → Part c older x mark f
    given some =
        let at = from_flat_map (given_to c older x mark) (endpoints_of c.accounts) f some in
        let item = from_map (λ i. output c at.0 i mark) (item_of c older (outputs c older at.0) x at.0) f at.2 in
        Given at.0 item.0 at.1 item.1 item.2

part_covered : (c : Config) (older : List Entry) (x : Entry) (mark : ℕ) (f : Frame) → IsAckMark mark → Part c older x mark f → Covered c (x ∷ older) f
part_covered c older x mark f marked (Acked sent) =
    inl (record { place = length older; mark = mark; marked = marked; sent = ap (option_and_then (ack_of c mark)) (at_newest x older) ∙ sent })
part_covered c older x mark f marked (Given e i served there sent) =
    inr (inl (record {
      line = e;
      item = i;
      there = Contains-append_right (outputs c older e) (item_of c older (outputs c older e) x e) i there;
      mark = mark;
      marked = ⊎_elim (λ (blank : mark ≡ 32). inl blank) (λ (again : mark ≡ 80). inr (inl again)) marked;
      sent = sent;
    }))

-- the list with the entry covers each of its frames
pub entry_covered : (c : Config) (older : List Entry) (x : Entry) (mark : ℕ) (f : Frame) → IsAckMark mark → Contains (frames_of c older x mark) f
    → Covered c (x ∷ older) f
entry_covered c older x mark f marked there = part_covered c older x mark f marked (part_of c older x mark f there)

-- a list covers each frame that is sent again
pub resume_covered : (c : Config) (es : List Entry) (r : ℕ) (f : Frame) → Contains (resume_frames c es r) f → Covered c es f
resume_covered c es zero f there = absurd (none_in f there)
resume_covered c [] (suc r) f there = absurd (none_in f there)
resume_covered c (x ∷ older) (suc r) f there =
    ⊎_elim (λ (before : Contains (resume_frames c older r) f). covered_by_longer c older (x ∷ []) f (resume_covered c older r f before))
    (λ (own : Contains (frames_of c older x 80) f). entry_covered c older x 80 f (inr refl) own)
    (Contains-append_cases (resume_frames c older r) (frames_of c older x 80) f there)

-- the mark is byte 9 of each frame
part_marked : (c : Config) (older : List Entry) (x : Entry) (mark : ℕ) (f : Frame) → Part c older x mark f → get_or f.payload 9 0 ≡ mark
part_marked c older (Roll moment date) mark f (Acked sent) = absurd cc
part_marked c older (Posted h body resent moment v) mark f (Acked sent) =
    let same : Some _ ≡ Some f = sent in ap (λ (o : Option Frame). first o) (sym same)
  where
    first : Option Frame → ℕ
    first None = mark
    first (Some g) = get_or g.payload 9 0
part_marked c older x mark f (Given e i served there sent) = ap (λ (g : Frame). get_or g.payload 9 0) (sym sent)

pub entry_marked : (c : Config) (older : List Entry) (x : Entry) (mark : ℕ) (f : Frame) → Contains (frames_of c older x mark) f → get_or f.payload 9 0 ≡ mark
entry_marked c older x mark f there = part_marked c older x mark f (part_of c older x mark f there)

pub resume_marked : (c : Config) (es : List Entry) (r : ℕ) (f : Frame) → Contains (resume_frames c es r) f → get_or f.payload 9 0 ≡ 80
resume_marked c es zero f there = absurd (none_in f there)
resume_marked c [] (suc r) f there = absurd (none_in f there)
resume_marked c (x ∷ older) (suc r) f there =
    ⊎_elim (λ (before : Contains (resume_frames c older r) f). resume_marked c older r f before)
    (λ (own : Contains (frames_of c older x 80) f). entry_marked c older x 80 f own)
    (Contains-append_cases (resume_frames c older r) (frames_of c older x 80) f there)

-- with another mark they are the same frames but for it
acks_alike : (c : Config) (x : Entry) (m n : ℕ) → map unmarked (option_to_list (ack_of c m x)) ≡ map unmarked (option_to_list (ack_of c n x))
acks_alike c (Posted h body resent moment v) m n = refl
acks_alike c (Roll moment date) m n = refl

outputs_alike : (c : Config) (e : List ℕ) (items : List Item) (m n : ℕ)
    → map unmarked (map (λ (i : Item). output c e i m) items) ≡ map unmarked (map (λ (i : Item). output c e i n) items)
outputs_alike c e [] m n = refl
outputs_alike c e (i ∷ items) m n = ap (λ (l : List Frame). unmarked (output c e i m) ∷ l) (outputs_alike c e items m n)

given_alike : (c : Config) (older : List Entry) (x : Entry) (m n : ℕ) (endpoints : List (List ℕ))
    → map unmarked (flat_map (given_to c older x m) endpoints) ≡ map unmarked (flat_map (given_to c older x n) endpoints)
given_alike c older x m n [] = refl
given_alike c older x m n (e ∷ endpoints) =
    map-append unmarked (given_to c older x m e) (flat_map (given_to c older x m) endpoints)
    ∙ (λ k. outputs_alike c e (item_of c older (outputs c older e) x e) m n k ++ given_alike c older x m n endpoints k)
    ∙ sym (map-append unmarked (given_to c older x n e) (flat_map (given_to c older x n) endpoints))

pub frames_alike : (c : Config) (older : List Entry) (x : Entry) (m n : ℕ) → map unmarked (frames_of c older x m) ≡ map unmarked (frames_of c older x n)
frames_alike c older x m n =
    map-append unmarked (option_to_list (ack_of c m x)) (flat_map (given_to c older x m) (endpoints_of c.accounts))
    ∙ (λ k. acks_alike c x m n k ++ given_alike c older x m n (endpoints_of c.accounts) k)
    ∙ sym (map-append unmarked (option_to_list (ack_of c n x)) (flat_map (given_to c older x n) (endpoints_of c.accounts)))

-- two frames with one mark that are the same but for it are one
pub marked_same : (f g : Frame) → unmarked f ≡ unmarked g → get_or f.payload 9 0 ≡ get_or g.payload 9 0 → f ≡ g
marked_same f g alike mark =
    let payload : f.payload ≡ g.payload =
    sym (set-get_or f.payload 9 0) ∙ sym (set_twice f.payload 9 32 (get_or f.payload 9 0))
    ∙ (λ k. set (alike k).payload 9 (mark k))
    ∙ set_twice g.payload 9 32 (get_or g.payload 9 0) ∙ set-get_or g.payload 9 0 in
    λ k. record { kind = (alike k).kind; endpoint = (alike k).endpoint; payload = payload k }
