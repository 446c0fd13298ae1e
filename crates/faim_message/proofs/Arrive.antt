-- Each message is read to its end, and nothing else is.
use Rattle.std.proofs.Common.{◌≡◌, ℕ, Bool, true, false, eqb, not, ◌||◌, List, [], ◌∷◌, ◌++◌, drop, Option, Some, None, refl, sym, ap, subst, ◌∙◌, append_assoc}
use Rattle.std.specs.List.{list_all}
use Rattle.std.proofs.lemmas.List.{append-nil}
use Rattle.std.proofs.lemmas.Bool.{eqb-true, eqb-false, eq-eqb, ne_eqb, and_parts, or_left, not-true}
use Rattle.faim_tags.specs.Spelling.{Tag, IsTag, spelling, is_empty}
use Rattle.faim_tags.specs.Reading.{is_among}
use Rattle.faim_tags.specs.Steps.{Progress, InNumber, Inside, step, may_end, tag_of}
use Rattle.faim_tags.proofs.Ends.{EndsAs, spelling-ends}
use Rattle.faim_message.specs.declared.form.Form.{Form}
use Rattle.faim_message.specs.declared.form.Breaks.{Breaks}
use Rattle.faim_message.specs.declared.form.Breaks.TheVariants.{Joined, Lf, CrLf}
use Rattle.faim_message.specs.declared.so_far.BreakSoFar.{BreakSoFar}
use Rattle.faim_message.specs.declared.so_far.BreakSoFar.TheVariants.{Unknown, Bare, Feed, ReturnFeed}
use Rattle.faim_message.specs.Forms.{first_of, permitted, between, ending}
use Rattle.faim_message.specs.Spelling.{AreTags, EachTag, numbers, distinct, joined}
use Rattle.faim_message.specs.Stages.{open_numbers, Stage, Within, Returned, begun, after_tag, next, reads, is_whole, tags_of, breaks_with, breaks_of}
use Rattle.faim_message.proofs.Numbers.{numbers-append, without_among}
use Rattle.faim_message.proofs.Flow.{reads-then, reads-one, lift, tag_over, known}

-- ---- what comes next in tags that keep the rules

each_at : (before : List Tag) (v : Tag) (more : List Tag) → EachTag (before ++ v ∷ more) → IsTag v
each_at [] v more h = h.0
each_at (w ∷ before) v more h = each_at before v more h.1

all_there : (p : ℕ → Bool) (before : List ℕ) (n : ℕ) (more : List ℕ) → list_all p (before ++ n ∷ more) ≡ true → p n ≡ true
all_there p [] n more e = (and_parts (p n) (list_all p more) e).0
all_there p (m ∷ before) n more e = all_there p before n more (and_parts (p m) (list_all p (before ++ n ∷ more)) e).1

apart_before : (before : List ℕ) (n : ℕ) (more : List ℕ) → distinct (before ++ n ∷ more) ≡ true → is_among before n ≡ false
apart_before [] n more e = refl
apart_before (m ∷ before) n more e =
    let p = and_parts (not (is_among (before ++ n ∷ more) m)) (distinct (before ++ n ∷ more)) e in
    neither (eqb m n) (is_among before n) (other before m n more (not-true (is_among (before ++ n ∷ more) m) p.0)) (apart_before before n more p.1)
  where
    neither : (x y : Bool) → x ≡ false → y ≡ false → x || y ≡ false
    neither true y e f = e
    neither false y e f = f

    right : (x y : Bool) → x || y ≡ false → y ≡ false
    right true y e = absurd (let wrong : true ≡ false = e in cc)
    right false y e = e

    left : (x y : Bool) → x || y ≡ false → x ≡ false
    left true y e = e
    left false y e = refl

    other : (before : List ℕ) (m n : ℕ) (more : List ℕ) → is_among (before ++ n ∷ more) m ≡ false → eqb m n ≡ false
    other [] m n more e = ne_eqb m n (λ h. eqb-false n m (left (eqb n m) (is_among more m) e) (sym h))
    other (k ∷ before) m n more e = other before m n more (right (eqb k m) (is_among (before ++ n ∷ more) m) e)

open_next : (form : Form) (before : List Tag) (v : Tag) (more : List Tag) → AreTags form (before ++ v ∷ more) → is_among (open_numbers form before) v.no ≡ true
open_next form [] v more h = or_left (eqb (first_of form) v.no) false (eq-eqb (first_of form) v.no (sym (eqb-true v.no (first_of form) h.led)))
open_next form (w ∷ before) v more h =
    let same = numbers-append (w ∷ before) (v ∷ more) in
    let P : List ℕ → Type 0 = λ ns. list_all (is_among (permitted form)) ns ≡ true in
    let Q : List ℕ → Type 0 = λ ns. distinct ns ≡ true in
    without_among (numbers (w ∷ before)) (permitted form) v.no (all_there (is_among (permitted form)) (numbers (w ∷ before)) v.no (numbers more) (subst P same h.allowed)) (apart_before (numbers (w ∷ before)) v.no (numbers more) (subst Q same h.apart))

-- ---- over a break

-- the breaks that may still come
abbrev pub Suits : BreakSoFar → Breaks → Type 0
Suits Unknown breaks = Unit {0}
Suits Bare Joined = Unit {0}
Suits Feed (Lf last) = Unit {0}
Suits ReturnFeed (CrLf last) = Unit {0}
Suits so_far breaks = ⊥

abbrev pub so_far_of : Breaks → BreakSoFar
so_far_of Joined = Bare
so_far_of (Lf last) = Feed
so_far_of (CrLf last) = ReturnFeed

suits_own : (breaks : Breaks) → Suits (so_far_of breaks) breaks
suits_own Joined = tt
suits_own (Lf last) = tt
suits_own (CrLf last) = tt

lf_after : (form : Form) (tags : List Tag) (so_far : BreakSoFar) (last : Bool) → Suits so_far (Lf last) → after_tag form tags so_far 10 ≡ Some (Within tags Feed (InNumber []))
lf_after form tags Unknown last s = refl
lf_after form tags Bare last s = absurd s
lf_after form tags Feed last s = refl
lf_after form tags ReturnFeed last s = absurd s

cr_after : (form : Form) (tags : List Tag) (so_far : BreakSoFar) (last : Bool) → Suits so_far (CrLf last) → after_tag form tags so_far 13 ≡ Some (Returned tags)
cr_after form tags Unknown last s = refl
cr_after form tags Bare last s = absurd s
cr_after form tags Feed last s = absurd s
cr_after form tags ReturnFeed last s = refl

bare_after : (form : Form) (tags : List Tag) (so_far : BreakSoFar) → Suits so_far Joined → after_tag form tags so_far 123 ≡ begun form tags 123
bare_after form tags Unknown s = refl
bare_after form tags Bare s = refl
bare_after form tags Feed s = absurd s
bare_after form tags ReturnFeed s = absurd s

fresh : (form : Form) (tags : List Tag) (b : ℕ) → next form (Within tags Bare (InNumber [])) b ≡ begun form tags b
fresh form tags b =
    elim (step (open_numbers form tags) (InNumber []) b) as (λ o. (elim o [ None ↦ None | Some p ↦ Some (Within tags Bare p) ]) ≡ (elim o [ None ↦ None | Some p ↦ Some (Within tags Bare p) ])) [ None ↦ refl | Some p ↦ refl ]

-- over a line feed
pub over_feed : (form : Form) (tags : List Tag) (so_far : BreakSoFar) (p : Progress) (last : Bool) (bytes : List ℕ) → may_end p ≡ true → Suits so_far (Lf last) → reads form (Within tags so_far p) (10 ∷ bytes) ≡ reads form (Within (tags ++ tag_of p ∷ []) Feed (InNumber [])) bytes
over_feed form tags so_far p last bytes m s = reads-one form (Within tags so_far p) (Within (tags ++ tag_of p ∷ []) Feed (InNumber [])) 10 bytes (tag_over form tags so_far p 10 m refl ∙ lf_after form (tags ++ tag_of p ∷ []) so_far last s)

-- to a carriage return
pub to_return : (form : Form) (tags : List Tag) (so_far : BreakSoFar) (p : Progress) (last : Bool) (bytes : List ℕ) → may_end p ≡ true → Suits so_far (CrLf last) → reads form (Within tags so_far p) (13 ∷ bytes) ≡ reads form (Returned (tags ++ tag_of p ∷ [])) bytes
to_return form tags so_far p last bytes m s = reads-one form (Within tags so_far p) (Returned (tags ++ tag_of p ∷ [])) 13 bytes (tag_over form tags so_far p 13 m refl ∙ cr_after form (tags ++ tag_of p ∷ []) so_far last s)

-- over both
pub over_return : (form : Form) (tags : List Tag) (so_far : BreakSoFar) (p : Progress) (last : Bool) (bytes : List ℕ) → may_end p ≡ true → Suits so_far (CrLf last) → reads form (Within tags so_far p) (13 ∷ 10 ∷ bytes) ≡ reads form (Within (tags ++ tag_of p ∷ []) ReturnFeed (InNumber [])) bytes
over_return form tags so_far p last bytes m s = to_return form tags so_far p last (10 ∷ bytes) m s ∙ reads-one form (Returned (tags ++ tag_of p ∷ [])) (Within (tags ++ tag_of p ∷ []) ReturnFeed (InNumber [])) 10 bytes refl

-- over nothing
pub over_nothing : (form : Form) (tags : List Tag) (so_far : BreakSoFar) (p : Progress) (bytes : List ℕ) → may_end p ≡ true → Suits so_far Joined → reads form (Within tags so_far p) (123 ∷ bytes) ≡ reads form (Within (tags ++ tag_of p ∷ []) Bare (InNumber [])) (123 ∷ bytes)
over_nothing form tags so_far p bytes m s =
    ap (λ (o : Option Stage). elim o [ None ↦ None | Some t ↦ reads form t bytes ]) (tag_over form tags so_far p 123 m refl ∙ bare_after form (tags ++ tag_of p ∷ []) so_far s ∙ sym (fresh form (tags ++ tag_of p ∷ []) 123))

-- over a break to the next tag
pub over_break : (form : Form) (tags : List Tag) (so_far : BreakSoFar) (p : Progress) (breaks : Breaks) (bytes : List ℕ) → may_end p ≡ true → Suits so_far breaks → reads form (Within tags so_far p) (between breaks ++ 123 ∷ bytes) ≡ reads form (Within (tags ++ tag_of p ∷ []) (so_far_of breaks) (InNumber [])) (123 ∷ bytes)
over_break form tags so_far p Joined bytes m s = over_nothing form tags so_far p bytes m s
over_break form tags so_far p (Lf last) bytes m s = over_feed form tags so_far p last (123 ∷ bytes) m s
over_break form tags so_far p (CrLf last) bytes m s = over_return form tags so_far p last (123 ∷ bytes) m s

-- ---- whole messages

-- the bytes are read to their end, and there these tags are whole
pub record Arrives (form : Form) (s : Stage) (bytes : List ℕ) (tags : List Tag) (breaks : Breaks) (told : Bool) : Type 0 where
  pub last : Stage
  pub run : reads form s bytes ≡ Some last
  pub whole : is_whole last ≡ true
  pub tags_are : tags_of last ≡ tags
  pub breaks_are : told ≡ true → breaks_of last ≡ breaks

pub ended : (form : Form) (before : List Tag) (so_far : BreakSoFar) (p : Progress) → may_end p ≡ true → (is_whole (Within before so_far p) ≡ true) × (tags_of (Within before so_far p) ≡ before ++ tag_of p ∷ []) × (breaks_of (Within before so_far p) ≡ breaks_with so_far false)
ended form before so_far (InNumber given) m = absurd (let wrong : false ≡ true = m in cc)
ended form before so_far (Inside n fixed stars part) m = (m, refl, refl)

pub not_none : (before : List Tag) (v : Tag) → not (is_empty (before ++ v ∷ [])) ≡ true
not_none [] v = refl
not_none (w ∷ before) v = refl

without_last : (so_far : BreakSoFar) (breaks : Breaks) → Suits so_far breaks → ending breaks ≡ [] → known so_far ≡ true → breaks_with so_far false ≡ breaks
without_last Unknown breaks s e k = absurd (let wrong : false ≡ true = k in cc)
without_last Bare Joined s e k = refl
without_last Bare (Lf last) s e k = absurd s
without_last Bare (CrLf last) s e k = absurd s
without_last Feed Joined s e k = absurd s
without_last Feed (Lf true) s e k = absurd cc
without_last Feed (Lf false) s e k = refl
without_last Feed (CrLf last) s e k = absurd s
without_last ReturnFeed Joined s e k = absurd s
without_last ReturnFeed (Lf last) s e k = absurd s
without_last ReturnFeed (CrLf true) s e k = absurd cc
without_last ReturnFeed (CrLf false) s e k = refl

one_left : (form : Form) (before : List Tag) (so_far : BreakSoFar) (v : Tag) (breaks : Breaks) → Suits so_far breaks → EndsAs (open_numbers form before) (InNumber []) (spelling v) v → Arrives form (Within before so_far (InNumber [])) (spelling v ++ ending breaks) (before ++ v ∷ []) breaks (known so_far)
one_left form before so_far v breaks s w = by breaks s
  where
    plain : (b : Breaks) → Suits so_far b → ending b ≡ [] → Arrives form (Within before so_far (InNumber [])) (spelling v ++ ending b) (before ++ v ∷ []) b (known so_far)
    plain b s e =
        let here = ended form before so_far w.last w.may in
        record {
          last = Within before so_far w.last;
          run = ap (reads form (Within before so_far (InNumber []))) (ap (λ (t : List ℕ). spelling v ++ t) e ∙ append-nil (spelling v)) ∙ lift form before so_far (InNumber []) w.last (spelling v) w.run;
          whole = here.0;
          tags_are = here.1 ∙ ap (λ (t : Tag). before ++ t ∷ []) w.tag;
          breaks_are = λ k. here.2 ∙ without_last so_far b s e k;
        }

    by : (b : Breaks) → Suits so_far b → Arrives form (Within before so_far (InNumber [])) (spelling v ++ ending b) (before ++ v ∷ []) b (known so_far)
    by Joined s = plain Joined s refl
    by (Lf false) s = plain (Lf false) s refl
    by (CrLf false) s = plain (CrLf false) s refl
    by (Lf true) s = record {
      last = Within (before ++ tag_of w.last ∷ []) Feed (InNumber []);
      run = reads-then form (Within before so_far (InNumber [])) (Within before so_far w.last) (spelling v) (10 ∷ []) (lift form before so_far (InNumber []) w.last (spelling v) w.run) ∙ over_feed form before so_far w.last true [] w.may s;
      whole = not_none before (tag_of w.last);
      tags_are = ap (λ (t : Tag). before ++ t ∷ []) w.tag;
      breaks_are = λ k. refl;
    }
    by (CrLf true) s = record {
      last = Within (before ++ tag_of w.last ∷ []) ReturnFeed (InNumber []);
      run = reads-then form (Within before so_far (InNumber [])) (Within before so_far w.last) (spelling v) (13 ∷ 10 ∷ []) (lift form before so_far (InNumber []) w.last (spelling v) w.run) ∙ over_return form before so_far w.last true [] w.may s;
      whole = not_none before (tag_of w.last);
      tags_are = ap (λ (t : Tag). before ++ t ∷ []) w.tag;
      breaks_are = λ k. refl;
    }

-- tags joined begin with a brace
opens : (s e : List ℕ) (v : Tag) (more : List Tag) → (t : List ℕ) × (joined s e (v ∷ more) ≡ 123 ∷ t)
opens s e v [] = (drop 1 (spelling v ++ e), refl)
opens s e v (w ∷ more) = (drop 1 (spelling v ++ (s ++ joined s e (w ∷ more))), refl)

abbrev told_with : BreakSoFar → List Tag → Bool
told_with so_far [] = known so_far
told_with so_far (v ∷ more) = true

pub arrives : (form : Form) (before : List Tag) (so_far : BreakSoFar) (v : Tag) (more : List Tag) (breaks : Breaks) → Suits so_far breaks → AreTags form (before ++ v ∷ more) → Arrives form (Within before so_far (InNumber [])) (joined (between breaks) (ending breaks) (v ∷ more)) (before ++ v ∷ more) breaks (told_with so_far more)
arrives form before so_far v [] breaks s h = one_left form before so_far v breaks s (spelling-ends (open_numbers form before) v (each_at before v [] h.each) (open_next form before v [] h))
arrives form before so_far v (w ∷ more) breaks s h =
    let e = spelling-ends (open_numbers form before) v (each_at before v (w ∷ more) h.each) (open_next form before v (w ∷ more) h) in
    let rest = joined (between breaks) (ending breaks) (w ∷ more) in
    let o = opens (between breaks) (ending breaks) w more in
    let same : before ++ v ∷ [] ++ w ∷ more ≡ before ++ v ∷ w ∷ more = append_assoc before (v ∷ []) (w ∷ more) in
    let P : List Tag → Type 0 = λ ts. AreTags form ts in
    let on = arrives form (before ++ v ∷ []) (so_far_of breaks) w more breaks (suits_own breaks) (subst P (sym same) h) in
    let crossed : reads form (Within before so_far e.last) (between breaks ++ rest) ≡ reads form (Within (before ++ v ∷ []) (so_far_of breaks) (InNumber [])) rest =
    ap (λ (t : List ℕ). reads form (Within before so_far e.last) (between breaks ++ t)) o.1
    ∙ over_break form before so_far e.last breaks o.0 e.may s
    ∙ ap (λ (t : Tag). reads form (Within (before ++ t ∷ []) (so_far_of breaks) (InNumber [])) (123 ∷ o.0)) e.tag
    ∙ ap (reads form (Within (before ++ v ∷ []) (so_far_of breaks) (InNumber []))) (sym o.1) in
    record {
      last = on.last;
      run = reads-then form (Within before so_far (InNumber [])) (Within before so_far e.last) (spelling v) (between breaks ++ rest) (lift form before so_far (InNumber []) e.last (spelling v) e.run) ∙ crossed ∙ on.run;
      whole = on.whole;
      tags_are = on.tags_are ∙ same;
      breaks_are = λ k. on.breaks_are (told_known breaks more);
    }
  where
    told_known : (b : Breaks) (ts : List Tag) → told_with (so_far_of b) ts ≡ true
    told_known Joined [] = refl
    told_known (Lf last) [] = refl
    told_known (CrLf last) [] = refl
    told_known b (t ∷ ts) = refl
