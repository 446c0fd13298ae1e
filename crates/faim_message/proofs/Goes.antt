-- Each byte of a message keeps the rules, and from each place some message goes on.
use Rattle.std.proofs.Common.{◌≡◌, ℕ, Bool, true, false, cond, eqb, not, ◌⊎◌, List, [], ◌∷◌, ◌++◌, Option, Some, None, refl, sym, ap, subst, ◌∙◌, append_assoc, inl, inr}
use Rattle.std.specs.Prelude.{if◌then◌else◌}
use Rattle.std.proofs.lemmas.List.{append-nil}
use Rattle.std.proofs.lemmas.Bool.{eqb-true}
use Rattle.faim_tags.specs.Spelling.{Tag, spelling, is_empty}
use Rattle.faim_tags.specs.Steps.{Progress, InNumber, Inside, step, may_end, tag_of, read_so_far}
use Rattle.faim_tags.proofs.Goods.{IsGood, step-number}
use Rattle.faim_tags.proofs.Ends.{good-begins}
use Rattle.faim_message.specs.declared.form.Form.{Form}
use Rattle.faim_message.specs.declared.so_far.BreakSoFar.{BreakSoFar}
use Rattle.faim_message.specs.declared.so_far.BreakSoFar.TheVariants.{Unknown, Bare, Feed, ReturnFeed}
use Rattle.faim_message.specs.Forms.{first_of, mandatory, between, ending}
use Rattle.faim_message.specs.Spelling.{AreTags, joined}
use Rattle.faim_message.specs.Refusal.{Begins}
use Rattle.faim_message.specs.Stages.{open_numbers, Stage, Within, Returned, begun, after_tag, next, reads, is_whole, tags_of, breaks_with, breaks_of, bytes_between, followed, bytes_so_far}
use Rattle.faim_message.proofs.Numbers.{mandatory_permitted}
use Rattle.faim_message.proofs.Sound.{AreTags-push, grow}
use Rattle.faim_message.proofs.Flow.{reads_cases, IsWithin, IsAt, Reads, reads_part, TagEnds, tag_ends, feed_bytes, same_front, may_stand, open_all, followed-push, followed-append, joined-push, joined-followed, joined-return}

one_case : (t : Bool) (x s : Stage) → cond t (Some x) None ≡ Some s → (t ≡ true) × (x ≡ s)
one_case true x s e = (refl, cc)
one_case false x s e = absurd cc

part_cases : (o : Option Progress) (tags : List Tag) (s : Stage) → (elim o [ None ↦ None | Some p ↦ Some (Within tags Bare p) ]) ≡ Some s → (p : Progress) × (o ≡ Some p) × (Within tags Bare p ≡ s)
part_cases None tags s e = absurd cc
part_cases (Some p) tags s e = (p, refl, cc)

-- an LF after a tag
feed_read : (form : Form) (tags : List Tag) (so_far : BreakSoFar) (p : Progress) → TagEnds form tags p → followed (bytes_between so_far) tags ≡ followed (10 ∷ []) tags → Reads form (Within tags so_far p) 10 (Within (tags ++ tag_of p ∷ []) Feed (InNumber []))
feed_read form tags so_far p h same =
    (record { placed = inr (h.sound, refl); part = inr (refl, h.sound) }, feed_bytes (10 ∷ []) (bytes_between so_far) tags (tag_of p) (read_so_far p) 10 same refl h.is)

-- a CR after a tag
return_read : (form : Form) (tags : List Tag) (so_far : BreakSoFar) (p : Progress) → TagEnds form tags p → followed (bytes_between so_far) tags ≡ followed (13 ∷ 10 ∷ []) tags → Reads form (Within tags so_far p) 13 (Returned (tags ++ tag_of p ∷ []))
return_read form tags so_far p h same = (
  h.sound,
  joined-push (13 ∷ 10 ∷ []) (13 ∷ []) tags (tag_of p) ∙ ap (λ (t : List ℕ). followed (13 ∷ 10 ∷ []) tags ++ (t ++ 13 ∷ [])) h.is
      ∙ sym (append_assoc (followed (13 ∷ 10 ∷ []) tags) (read_so_far p) (13 ∷ [])) ∙ ap (λ (t : List ℕ). t ++ read_so_far p ++ 13 ∷ []) (sym same),
)

-- the next tag's first byte after a tag
bare_read : (form : Form) (tags : List Tag) (so_far : BreakSoFar) (p : Progress) (b : ℕ) (s : Stage) → TagEnds form tags p → followed (bytes_between so_far) tags ≡ followed [] tags → begun form (tags ++ tag_of p ∷ []) b ≡ Some s → Reads form (Within tags so_far p) b s
bare_read form tags so_far p b s h same e =
    let v = tag_of p in
    let c = part_cases (step (open_numbers form (tags ++ v ∷ [])) (InNumber []) b) (tags ++ v ∷ []) s e in
    let t = step-number (open_numbers form (tags ++ v ∷ [])) [] b c.0 (open_all form (tags ++ v ∷ [])) c.1 in
    let bytes : followed [] (tags ++ v ∷ []) ++ read_so_far c.0 ≡ followed (bytes_between so_far) tags ++ read_so_far p ++ b ∷ [] =
    ap (λ (x : List ℕ). followed [] (tags ++ v ∷ []) ++ x) t.1
    ∙ ap (λ (x : List ℕ). x ++ b ∷ []) (followed-push [] tags v ∙ ap (λ (x : List ℕ). followed [] tags ++ x) (append-nil (spelling v) ∙ h.is) ∙ ap (λ (x : List ℕ). x ++ read_so_far p) (sym same)) in
    subst (λ (r : Stage). Reads form (Within tags so_far p) b r) c.2 (record { placed = inr (h.sound, refl); part = inl t.0 }, bytes)

at_ten : (form : Form) (s t r : Stage) (b : ℕ) → Reads form s 10 t → b ≡ 10 → t ≡ r → Reads form s b r
at_ten form s t r b h e f = let P : ℕ → Type 0 = λ n. Reads form s n t in subst (λ (x : Stage). Reads form s b x) f (subst P (sym e) h)

at_thirteen : (form : Form) (s t r : Stage) (b : ℕ) → Reads form s 13 t → b ≡ 13 → t ≡ r → Reads form s b r
at_thirteen form s t r b h e f = let P : ℕ → Type 0 = λ n. Reads form s n t in subst (λ (x : Stage). Reads form s b x) f (subst P (sym e) h)

unknown_read : (form : Form) (tags : List Tag) (p : Progress) (b : ℕ) (s : Stage) → IsWithin form tags Unknown p → TagEnds form tags p → (t u : Bool) → eqb b 10 ≡ t → eqb b 13 ≡ u → (if t then Some (Within (tags ++ tag_of p ∷ []) Feed (InNumber [])) else (if u then Some (Returned (tags ++ tag_of p ∷ [])) else begun form (tags ++ tag_of p ∷ []) b)) ≡ Some s → Reads form (Within tags Unknown p) b s
unknown_read form tags p b s h ends true u e f k = at_ten form (Within tags Unknown p) (Within (tags ++ tag_of p ∷ []) Feed (InNumber [])) s b (feed_read form tags Unknown p ends (same_front form tags Unknown (10 ∷ []) h.placed refl)) (eqb-true b 10 e) cc
unknown_read form tags p b s h ends false true e f k = at_thirteen form (Within tags Unknown p) (Returned (tags ++ tag_of p ∷ [])) s b (return_read form tags Unknown p ends (same_front form tags Unknown (13 ∷ 10 ∷ []) h.placed refl)) (eqb-true b 13 f) cc
unknown_read form tags p b s h ends false false e f k = bare_read form tags Unknown p b s ends refl k

after_read : (form : Form) (tags : List Tag) (so_far : BreakSoFar) (p : Progress) (b : ℕ) (s : Stage) → IsWithin form tags so_far p → TagEnds form tags p → after_tag form (tags ++ tag_of p ∷ []) so_far b ≡ Some s → Reads form (Within tags so_far p) b s
after_read form tags Unknown p b s h ends e = unknown_read form tags p b s h ends (eqb b 10) (eqb b 13) refl refl e
after_read form tags Bare p b s h ends e = bare_read form tags Bare p b s ends refl e
after_read form tags Feed p b s h ends e =
    let c = one_case (eqb b 10) (Within (tags ++ tag_of p ∷ []) Feed (InNumber [])) s e in
    at_ten form (Within tags Feed p) (Within (tags ++ tag_of p ∷ []) Feed (InNumber [])) s b (feed_read form tags Feed p ends refl) (eqb-true b 10 c.0) c.1
after_read form tags ReturnFeed p b s h ends e =
    let c = one_case (eqb b 13) (Returned (tags ++ tag_of p ∷ [])) s e in
    at_thirteen form (Within tags ReturnFeed p) (Returned (tags ++ tag_of p ∷ [])) s b (return_read form tags ReturnFeed p ends refl) (eqb-true b 13 c.0) c.1

within_cases : (form : Form) (tags : List Tag) (so_far : BreakSoFar) (p : Progress) (b : ℕ) (s : Stage) (o : Option Progress) → (elim o [ None ↦ if may_end p then after_tag form (tags ++ tag_of p ∷ []) so_far b else None | Some q ↦ Some (Within tags so_far q) ]) ≡ Some s
    → ((q : Progress) × (o ≡ Some q) × (Within tags so_far q ≡ s)) ⊎ ((may_end p ≡ true) × (after_tag form (tags ++ tag_of p ∷ []) so_far b ≡ Some s))
within_cases form tags so_far p b s None e = inr (taken (may_end p) (after_tag form (tags ++ tag_of p ∷ []) so_far b) s e)
  where
    taken : (t : Bool) (o : Option Stage) (s : Stage) → (if t then o else None) ≡ Some s → (t ≡ true) × (o ≡ Some s)
    taken true o s e = (refl, e)
    taken false o s e = absurd cc
within_cases form tags so_far p b s (Some q) e = inl (q, refl, cc)

pub next-good : (form : Form) (s : Stage) (b : ℕ) (t : Stage) → IsAt form s → next form s b ≡ Some t → Reads form s b t
next-good form (Within tags so_far p) b t h e =
    elim (within_cases form tags so_far p b t (step (open_numbers form tags) p b) e) [
      | inl w ↦ subst (λ (r : Stage). Reads form (Within tags so_far p) b r) w.2 (reads_part form tags so_far p w.0 b h w.1)
      | inr w ↦ after_read form tags so_far p b t h (tag_ends form tags so_far p h w.0) w.1
    ]
next-good form (Returned tags) b t h e =
    let c = one_case (eqb b 10) (Within tags ReturnFeed (InNumber [])) t e in
    let bytes : followed (13 ∷ 10 ∷ []) tags ++ [] ≡ joined (13 ∷ 10 ∷ []) (13 ∷ []) tags ++ 10 ∷ [] = append-nil (followed (13 ∷ 10 ∷ []) tags) ∙ sym (joined-return (first_of form) tags h.led) in
    at_ten form (Returned tags) (Within tags ReturnFeed (InNumber [])) t b (record { placed = inr (h, refl); part = inr (refl, h) }, bytes) (eqb-true b 10 c.0) c.1

-- what was read is what the bytes are
pub reads-good : (form : Form) (s : Stage) (bytes : List ℕ) (t : Stage) → IsAt form s → reads form s bytes ≡ Some t → IsAt form t × (bytes_so_far t ≡ bytes_so_far s ++ bytes)
reads-good form s [] t h e =
    let same : s ≡ t = cc in
    subst (λ (r : Stage). IsAt form r × (bytes_so_far r ≡ bytes_so_far s ++ [])) same (h, sym (append-nil (bytes_so_far s)))
reads-good form s (b ∷ bytes) t h e =
    let c = reads_cases form (next form s b) bytes t e in
    let one = next-good form s b c.0 h c.1 in
    let more = reads-good form c.0 bytes t one.0 c.2 in
    (more.0, more.1 ∙ ap (λ (x : List ℕ). x ++ bytes) one.1 ∙ append_assoc (bytes_so_far s) (b ∷ []) bytes)

-- the breaks with one after the last tag
between_with : (so_far : BreakSoFar) → between (breaks_with so_far true) ≡ bytes_between so_far
between_with Unknown = refl
between_with Bare = refl
between_with Feed = refl
between_with ReturnFeed = refl

ending_with : (so_far : BreakSoFar) → ending (breaks_with so_far true) ≡ bytes_between so_far
ending_with Unknown = refl
ending_with Bare = refl
ending_with Feed = refl
ending_with ReturnFeed = refl

spelled_all : (so_far : BreakSoFar) (tags : List Tag) → joined (between (breaks_with so_far true)) (ending (breaks_with so_far true)) tags ≡ followed (bytes_between so_far) tags
spelled_all so_far tags =
    ap (λ (s : List ℕ). joined s (ending (breaks_with so_far true)) tags) (between_with so_far) ∙ ap (λ (e : List ℕ). joined (bytes_between so_far) e tags) (ending_with so_far) ∙ joined-followed (bytes_between so_far) tags

-- a message that has these tags in front
fill_up : (form : Form) (so_far : BreakSoFar) (tags : List Tag) (bytes rest : List ℕ) → AreTags form tags → followed (bytes_between so_far) tags ≡ bytes ++ rest → Begins form bytes
fill_up form so_far tags bytes rest h e =
    let g = grow form tags (mandatory form) h (mandatory_permitted form) in
    record {
      message = record { form = form; breaks = breaks_with so_far true; tags = tags ++ g.more };
      sound = record { tags_sound = g.sound; complete = g.there };
      form_is = refl;
      rest = rest ++ followed (bytes_between so_far) g.more;
      goes = spelled_all so_far (tags ++ g.more) ∙ followed-append (bytes_between so_far) tags g.more ∙ ap (λ (t : List ℕ). t ++ followed (bytes_between so_far) g.more) e ∙ append_assoc bytes rest (followed (bytes_between so_far) g.more);
    }

part_begins : (form : Form) (tags : List Tag) (so_far : BreakSoFar) (p : Progress) → IsWithin form tags so_far p → IsGood (open_numbers form tags) p → Begins form (followed (bytes_between so_far) tags ++ read_so_far p)
part_begins form tags so_far p h good =
    let b = good-begins (open_numbers form tags) p (open_all form tags) good in
    let s = bytes_between so_far in
    fill_up form so_far (tags ++ b.tag ∷ []) (followed s tags ++ read_so_far p) (b.rest ++ s) (AreTags-push form tags b.tag (may_stand form tags so_far h.placed) b.sound b.known)
    (followed-push s tags b.tag ∙ ap (λ (t : List ℕ). followed s tags ++ (t ++ s)) b.goes
    ∙ ap (λ (t : List ℕ). followed s tags ++ t) (append_assoc (read_so_far p) b.rest s) ∙ sym (append_assoc (followed s tags) (read_so_far p) (b.rest ++ s)))

pub good-begins-message : (form : Form) (s : Stage) → IsAt form s → Begins form (bytes_so_far s)
good-begins-message form (Within tags so_far p) h =
    elim h.part [
      | inl good ↦ part_begins form tags so_far p h good
      | inr at ↦
          let P : Progress → Type 0 = λ r. Begins form (followed (bytes_between so_far) tags ++ read_so_far r) in
          subst P (sym at.0) (fill_up form so_far tags (followed (bytes_between so_far) tags ++ []) [] at.1 (sym (append-nil (followed (bytes_between so_far) tags ++ []) ∙ append-nil (followed (bytes_between so_far) tags))))
    ]
good-begins-message form (Returned tags) h = fill_up form ReturnFeed tags (joined (13 ∷ 10 ∷ []) (13 ∷ []) tags) (10 ∷ []) h (sym (joined-return (first_of form) tags h.led))

-- where tags are whole, they are joined with their breaks
pub record WholeHere (form : Form) (s : Stage) : Type 0 where
  pub sound : AreTags form (tags_of s)
  pub bytes : bytes_so_far s ≡ joined (between (breaks_of s)) (ending (breaks_of s)) (tags_of s)

open_between : (so_far : BreakSoFar) → between (breaks_with so_far false) ≡ bytes_between so_far
open_between Unknown = refl
open_between Bare = refl
open_between Feed = refl
open_between ReturnFeed = refl

open_after : (so_far : BreakSoFar) → ending (breaks_with so_far false) ≡ []
open_after Unknown = refl
open_after Bare = refl
open_after Feed = refl
open_after ReturnFeed = refl

pub whole-here : (form : Form) (s : Stage) → IsAt form s → is_whole s ≡ true → WholeHere form s
whole-here form (Within tags so_far (InNumber (b ∷ given))) h w = absurd (let wrong : false ≡ true = w in cc)
whole-here form (Returned tags) h w = absurd (let wrong : false ≡ true = w in cc)
whole-here form (Within tags so_far (InNumber [])) h w =
    record {
      sound = elim h.placed [ inl none ↦ let P : List Tag → Type 0 = λ ts. not (is_empty ts) ≡ true in absurd (let wrong : false ≡ true = subst P none.0 w in cc) | inr a ↦ a.0 ];
      bytes = append-nil (followed (bytes_between so_far) tags) ∙ sym (spelled_all so_far tags);
    }
whole-here form (Within tags so_far (Inside n fixed stars part)) h w =
    let p = Inside n fixed stars part in
    let e = tag_ends form tags so_far p h w in
    let s = bytes_between so_far in
    record {
      sound = e.sound;
      bytes = ap (λ (t : List ℕ). followed s tags ++ t) (sym e.is) ∙ ap (λ (t : List ℕ). followed s tags ++ t) (sym (append-nil (spelling (tag_of p)))) ∙ sym (joined-push s [] tags (tag_of p))
          ∙ ap (λ (x : List ℕ). joined x [] (tags ++ tag_of p ∷ [])) (sym (open_between so_far)) ∙ ap (λ (x : List ℕ). joined (between (breaks_with so_far false)) x (tags ++ tag_of p ∷ [])) (sym (open_after so_far));
    }
