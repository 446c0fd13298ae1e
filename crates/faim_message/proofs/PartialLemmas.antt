-- A message byte by byte, without memory of its bytes: what is known of it tells which byte goes on.
use Rattle.std.proofs.Common.{◌≡◌, ℕ, ◌+◌, ◌<◌, ◌≤◌, Bool, true, false, not, List, [], ◌∷◌, ◌++◌, length, get_or, take, drop, Option, Some, None, refl, sym, ap, subst, ◌∙◌, append_assoc, append-nil, length-append, arith}
use Rattle.std.specs.Prelude.{◌==◌, filter, if◌then◌else◌}
use Rattle.std.proofs.lemmas.List.{take_more, get_or-append-add, get_or-drop, length-drop}
use Rattle.std.proofs.Math.Seq.{take-append-add, take-add}
use Rattle.faim_tags.specs.Spelling.{Tag, is_empty}
use Rattle.faim_tags.specs.Steps.{Progress, InNumber, step, may_end, tag_of}
use Rattle.faim_tags.specs.Partial.{StandsFor, BothStand, Reaches}
use Rattle.faim_tags.specs.declared.partial.TagPart.{TagPart}
use Rattle.faim_message.specs.declared.form.Form.{Form}
use Rattle.faim_message.specs.declared.form.Breaks.{Breaks}
use Rattle.faim_message.specs.declared.so_far.BreakSoFar.{BreakSoFar}
use Rattle.faim_message.specs.declared.so_far.BreakSoFar.TheVariants.{Unknown, Bare}
use Rattle.faim_message.specs.declared.partial.MessagePart.{MessagePart}
use Rattle.faim_message.specs.Forms.{permitted, without}
use Rattle.faim_message.specs.Spelling.{numbers}
use Rattle.faim_message.specs.Refusal.{Begins, StopsAt, EndsWhole}
use Rattle.faim_message.specs.Stages.{open_numbers, Stage, Within, Returned, start, after_tag, next, reads, is_whole, tags_of, breaks_of, Ends}
use Rattle.faim_message.specs.Partial.{form_of, Knows, PartOf, StandsAt, Follows, PastTag, ReadsTag, Moves, HasRead}
use Rattle.faim_message.proofs.Numbers.{numbers-append}
use Rattle.faim_message.proofs.Left.{without_none, without-push}
use Rattle.faim_message.proofs.Flow.{reads-then, reads-one, lift, within-none}
use Rattle.faim_message.proofs.Judge.{reads-begins, barred-stops, ends-whole}

-- what is left once one tag more is whole
pub left-push : (form : Form) (tags : List Tag) (v : Tag) (number : ℕ) (left more : List ℕ) → left ≡ without (numbers tags) (permitted form) → number ≡ v.no
    → more ≡ filter (λ n. not (n == number)) left → more ≡ without (numbers (tags ++ v ∷ [])) (permitted form)
left-push form tags v number left more is same taken =
    let all = permitted form in
    taken ∙ ap (λ (ns : List ℕ). filter (λ n. not (n == number)) ns) is
    ∙ ap (λ (k : ℕ). filter (λ n. not (n == k)) (without (numbers tags) all)) same
    ∙ without-push (numbers tags) v.no all ∙ ap (λ (ns : List ℕ). without ns all) (sym (numbers-append tags (v ∷ [])))

pub some_tags : (tags : List Tag) (v : Tag) → true ≡ not (is_empty (tags ++ v ∷ []))
some_tags [] v = refl
some_tags (w ∷ tags) v = refl

-- nothing is read
pub nothing_read : (form : Form) (left : List ℕ) (t : TagPart) → left ≡ permitted form → StandsFor (open_numbers form []) t (InNumber [])
    → HasRead (record { form = form; any = false; remaining = left; so_far = Unknown; tag = Some t }) form []
nothing_read form left t is stands = record {
  stage = start;
  run = refl;
  stands = (record { form_is = refl; any_is = refl; left_is = is ∙ sym (without_none (permitted form)) }, refl, stands);
}

-- a further tag begins
pub bare_on : (m : MessagePart) (form : Form) (tags : List Tag) (b : ℕ) (t : TagPart) (o : Option Progress) → Knows m form tags → m.so_far ≡ Bare → m.tag ≡ Some t → BothStand (open_numbers form tags) (Some t) o
    → Follows m form true (elim o [ None ↦ None | Some p ↦ Some (Within tags Bare p) ])
bare_on m form tags b t None k far tag both = absurd both
bare_on m form tags b t (Some p) k far tag both = let P : Option TagPart → Type 0 = λ o. PartOf (open_numbers form tags) o p in (k, far, subst P (sym tag) both)

pub bare_off : (m : MessagePart) (form : Form) (tags : List Tag) (o : Option Progress) → BothStand (open_numbers form tags) None o
    → Follows m form false (elim o [ None ↦ None | Some p ↦ Some (Within tags Bare p) ])
bare_off m form tags None both = tt
bare_off m form tags (Some p) both = absurd both

-- the bytes of the tag that is being read
pub tag_reads : (m : MessagePart) (form : Form) (t : TagPart) (bytes : List ℕ) (k : ℕ) (s : Stage) → StandsAt m form s
    → ((tags : List Tag) (p : Progress) → Knows m form tags → PartOf (open_numbers form tags) m.tag p → Reaches (open_numbers form tags) p bytes k t)
    → (m.tag ≡ None → ⊥) → ReadsTag (record { form = m.form; any = m.any; remaining = m.remaining; so_far = m.so_far; tag = Some t }) form s bytes k
tag_reads m form t bytes k (Within tags so_far p) h on none =
    let r = on tags p h.0 h.2 in
    record {
      stage = Within tags so_far r.last;
      run = lift form tags so_far p r.last (take k bytes) r.stuck.run;
      stands = (record { form_is = h.0.form_is; any_is = h.0.any_is; left_is = h.0.left_is }, h.1, r.stands);
      past = r.stuck.none;
    }
tag_reads m form t bytes k (Returned tags) h on none = absurd (none h.1)

-- the byte after those of a tag
pub past_goes : (m n : MessagePart) (form : Form) (on : Bool) (b : ℕ)
    → ((tags : List Tag) (p : Progress) → Knows m form tags → PartOf (open_numbers form tags) m.tag p → Follows n form on (if may_end p then after_tag form (tags ++ tag_of p ∷ []) m.so_far b else None))
    → ((tags : List Tag) → Knows m form tags → m.tag ≡ None → Follows n form on (next form (Returned tags) b))
    → (s : Stage) → StandsAt m form s → PastTag form s b → Follows n form on (next form s b)
past_goes m n form on b tag returned (Within tags so_far p) h past =
    let P : BreakSoFar → Type 0 = λ f. Follows n form on (if may_end p then after_tag form (tags ++ tag_of p ∷ []) f b else None) in
    let Q : Option Stage → Type 0 = λ o. Follows n form on o in
    subst Q (sym (within-none form tags so_far p b past)) (subst P h.1 (tag tags p h.0 h.2))
past_goes m n form on b tag returned (Returned tags) h past = returned tags h.0 h.1

barred : (m : MessagePart) (form : Form) (o : Option Stage) → Follows m form false o → o ≡ None
barred m form None h = refl
barred m form (Some s) h = absurd h

gone : (m : MessagePart) (form : Form) (o : Option Stage) → Follows m form true o → (s : Stage) × (o ≡ Some s) × StandsAt m form s
gone m form None h = absurd h
gone m form (Some s) h = (s, refl, h)

-- one byte more is read
pub moves_on : (m n : MessagePart) (form : Form) (s : Stage) (bytes : List ℕ) (k : ℕ) → k < length bytes → ReadsTag m form s bytes k
    → ((t : Stage) → StandsAt m form t → PastTag form t (get_or bytes k 0) → Follows n form true (next form t (get_or bytes k 0))) → Moves n form s bytes (k + 1) true
moves_on m n form s bytes k lt r on =
    let b = get_or bytes k 0 in
    let g = gone n form (next form r.stage b) (on r.stage r.stands (r.past lt)) in
    (g.0, ap (reads form s) (take_more bytes k 0 lt) ∙ reads-then form s r.stage (take k bytes) (b ∷ []) r.run ∙ reads-one form r.stage g.0 b [] g.1, g.2)

-- the next byte is barred
pub moves_off : (m n : MessagePart) (form : Form) (s : Stage) (bytes : List ℕ) (k : ℕ) → k < length bytes → ReadsTag m form s bytes k
    → ((t : Stage) → StandsAt m form t → PastTag form t (get_or bytes k 0) → Follows n form false (next form t (get_or bytes k 0))) → Moves n form s bytes k false
moves_off m n form s bytes k lt r off = (r.stage, r.run, lt, barred n form (next form r.stage (get_or bytes k 0)) (off r.stage r.stands (r.past lt)))

-- one byte is read of the tag that is being read
pub tag_goes : (m : MessagePart) (form : Form) (t : TagPart) (b : ℕ) → ((tags : List Tag) (p : Progress) → Knows m form tags → PartOf (open_numbers form tags) m.tag p → BothStand (open_numbers form tags) (Some t) (step (open_numbers form tags) p b))
    → (m.tag ≡ None → ⊥) → (s : Stage) → StandsAt m form s → Follows (record { form = m.form; any = m.any; remaining = m.remaining; so_far = m.so_far; tag = Some t }) form true (next form s b)
tag_goes m form t b on none (Within tags so_far p) h = goes (step (open_numbers form tags) p b) (on tags p h.0 h.2)
  where
    goes : (o : Option Progress) → BothStand (open_numbers form tags) (Some t) o → Follows (record { form = m.form; any = m.any; remaining = m.remaining; so_far = m.so_far; tag = Some t }) form true (elim o [ None ↦ if may_end p then after_tag form (tags ++ tag_of p ∷ []) so_far b else None | Some q ↦ Some (Within tags so_far q) ])
    goes None both = absurd both
    goes (Some q) both = (record { form_is = h.0.form_is; any_is = h.0.any_is; left_is = h.0.left_is }, h.1, both)
tag_goes m form t b on none (Returned tags) h = absurd (none h.1)

no_progress : (ns : List ℕ) (o : Option Progress) → BothStand ns None o → o ≡ None
no_progress ns None both = refl
no_progress ns (Some p) both = absurd both

-- the tag doesn't go on with the byte
pub tag_past : (m : MessagePart) (form : Form) (b : ℕ) → ((tags : List Tag) (p : Progress) → Knows m form tags → PartOf (open_numbers form tags) m.tag p → BothStand (open_numbers form tags) None (step (open_numbers form tags) p b))
    → (s : Stage) → StandsAt m form s → PastTag form s b
tag_past m form b off (Within tags so_far p) h = no_progress (open_numbers form tags) (step (open_numbers form tags) p b) (off tags p h.0 h.2)
tag_past m form b off (Returned tags) h = tt

-- one byte as a piece
one_on : (n : MessagePart) (form : Form) (s : Stage) (b : ℕ) → Follows n form true (next form s b) → Moves n form s (b ∷ []) 1 true
one_on n form s b follows = let g = gone n form (next form s b) follows in (g.0, reads-one form s g.0 b [] g.1, g.2)

one_off : (n : MessagePart) (form : Form) (s : Stage) (b : ℕ) → Follows n form false (next form s b) → Moves n form s (b ∷ []) 0 false
one_off n form s b follows = (s, refl, omega arith, barred n form (next form s b) follows)

pub byte_read : (m n : MessagePart) (form : Form) (bytes : List ℕ) (b : ℕ) → HasRead m form bytes → ((s : Stage) → StandsAt m form s → Follows n form true (next form s b)) → HasRead n form (bytes ++ b ∷ [])
byte_read m n form bytes b h on =
    let w = one_on n form h.stage b (on h.stage h.stands) in
    record { stage = w.0; run = reads-then form start h.stage bytes (b ∷ []) h.run ∙ w.1; stands = w.2 }

pub one_byte : (piece : List ℕ) → length piece ≡ 1 → get_or piece 0 0 ∷ [] ≡ piece
one_byte [] e = absurd (omega (arith, e))
one_byte (b ∷ []) e = refl
one_byte (b ∷ a ∷ piece) e = absurd (omega (arith, e))

-- some bytes more are read
pub read_more : (m n : MessagePart) (form : Form) (bytes piece : List ℕ) (a k : ℕ) → HasRead m form (bytes ++ take a piece)
    → ((s : Stage) → StandsAt m form s → Moves n form s (drop a piece) k true) → HasRead n form (bytes ++ take (a + k) piece)
read_more m n form bytes piece a k h on =
    let w = on h.stage h.stands in
    let P : List ℕ → Type 0 = λ l. HasRead n form l in
    let more : (bytes ++ take a piece) ++ take k (drop a piece) ≡ bytes ++ take (a + k) piece =
    append_assoc bytes (take a piece) (take k (drop a piece)) ∙ ap (λ (l : List ℕ). bytes ++ l) (sym (take-add a k piece)) in
    subst P more (record { stage = w.0; run = reads-then form start h.stage (bytes ++ take a piece) (take k (drop a piece)) h.run ∙ w.1; stands = w.2 })

-- and then one is barred
pub read_stops : (m n : MessagePart) (form : Form) (bytes piece : List ℕ) (a k : ℕ) → a ≤ length piece → HasRead m form (bytes ++ take a piece)
    → ((s : Stage) → StandsAt m form s → Moves n form s (drop a piece) k false) → (a + k < length piece) × StopsAt form (bytes ++ piece) (length bytes + (a + k))
read_stops m n form bytes piece a k le h off =
    let w = off h.stage h.stands in
    let lt : a + k < length piece = omega (arith, w.2, length-drop a piece) in
    let front : take (length bytes + (a + k)) (bytes ++ piece) ≡ (bytes ++ take a piece) ++ take k (drop a piece) =
    take-append-add bytes piece (a + k) ∙ ap (λ (l : List ℕ). bytes ++ l) (take-add a k piece) ∙ sym (append_assoc bytes (take a piece) (take k (drop a piece))) in (
      lt,
      barred-stops form (bytes ++ piece) (length bytes + (a + k)) (record {
        short = omega (arith, length-append bytes piece);
        stage = w.0;
        run = ap (reads form start) front ∙ reads-then form start h.stage (bytes ++ take a piece) (take k (drop a piece)) h.run ∙ w.1;
        none = ap (next form w.0) (get_or-append-add bytes piece (a + k) 0 ∙ sym (get_or-drop a piece k 0)) ∙ w.3;
      }),
    )

pub byte_stops : (m n : MessagePart) (form : Form) (bytes : List ℕ) (b : ℕ) → HasRead m form bytes → ((s : Stage) → StandsAt m form s → Follows n form false (next form s b)) → StopsAt form (bytes ++ b ∷ []) (length bytes + 0)
byte_stops m n form bytes b h off =
    let P : List ℕ → Type 0 = λ l. HasRead m form l in
    (read_stops m n form bytes (b ∷ []) 0 0 (omega arith) (subst P (sym (append-nil bytes)) h) (λ s stands. one_off n form s b (off s stands))).1

-- what was read begins a message
pub read_begins : (m : MessagePart) (form : Form) (bytes : List ℕ) → HasRead m form bytes → Begins form bytes
read_begins m form bytes h = reads-begins form bytes h.stage h.run

-- it knows its form
pub read_form : (m : MessagePart) (form : Form) (bytes : List ℕ) → HasRead m form bytes → form_of m ≡ form
read_form m form bytes h = at h.stage h.stands
  where
    at : (s : Stage) → StandsAt m form s → form_of m ≡ form
    at (Within tags so_far p) k = k.0.form_is
    at (Returned tags) k = k.0.form_is

pub read_own : (m : MessagePart) (form : Form) (bytes : List ℕ) → HasRead m form bytes → HasRead m (form_of m) bytes
read_own m form bytes h = let P : Form → Type 0 = λ f. HasRead m f bytes in subst P (sym (read_form m form bytes h)) h

-- all of the bytes are read
pub read_all : (m : MessagePart) (form : Form) (bytes : List ℕ) (count : ℕ) → count ≤ length bytes → length bytes ≤ count → (count ≡ length bytes → HasRead m form bytes) → HasRead m form bytes
read_all m form bytes count few many read = read (omega arith)

-- where the bytes stop, they are refused
pub stop_refused : (form : Form) (bytes : List ℕ) (count : ℕ) → StopsAt form bytes (length {A = ℕ} [] + count) → StopsAt form bytes count
stop_refused form bytes count s = let P : ℕ → Type 0 = λ p. StopsAt form bytes p in let same : length {A = ℕ} [] + count ≡ count = omega arith in subst P same s

-- where all is whole, tags with their breaks stand
pub whole_there : (form : Form) (bytes : List ℕ) (s : Stage) → reads form start bytes ≡ Some s → is_whole s ≡ true → EndsWhole form bytes
whole_there form bytes s run whole =
    let w = ends-whole form bytes (tags_of s) (breaks_of s) (record { stage = s; run = run; whole = whole; tags_are = refl; breaks_are = refl }) in
    record { tags = tags_of s; breaks = breaks_of s; sound = w.0; whole = w.1 }

-- the tags that are cut are those of the end
pub ends_there : (form : Form) (bytes : List ℕ) (s : Stage) (tags : List Tag) (breaks : Breaks) → reads form start bytes ≡ Some s → is_whole s ≡ true → breaks_of s ≡ breaks
    → ((end : EndsWhole form bytes) → tags ≡ end.tags) → Ends form bytes tags breaks
unfolding whole_there
ends_there form bytes s tags breaks run whole same cut =
    record { stage = s; run = run; whole = whole; tags_are = sym (cut (whole_there form bytes s run whole)); breaks_are = same }
