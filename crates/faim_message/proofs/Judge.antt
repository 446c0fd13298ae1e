-- What reading a message to its end, or not, says of it.
use Rattle.std.proofs.Common.{◌≡◌, ℕ, ◌+◌, ◌<◌, ◌≤◌, Bool, true, false, cond, eqb, not, ◌&&◌, List, [], ◌∷◌, ◌++◌, length, get_or, take, drop, Option, Some, None, refl, sym, ap, subst, ◌∙◌, inl, inr, arith}
use Rattle.std.specs.Prelude.{if◌then◌else◌, is_some}
use Rattle.std.specs.List.{list_all, find}
use Rattle.std.proofs.lemmas.List.{append-nil, take-append-drop, take-take, take_more, take_all}
use Rattle.std.proofs.lemmas.Bool.{eqb-true, and_parts, and_from, or_cases, cases_lt, both_ways}
use Rattle.faim_base.specs.declared.judgement.Refused.{Refused}
use Rattle.faim_base.specs.declared.judgement.Refused.TheVariants.{Byte, Cut, Missing, NoMemory}
use Rattle.faim_tags.specs.Spelling.{Tag}
use Rattle.faim_tags.specs.Reading.{is_among}
use Rattle.faim_tags.proofs.Meaning.{start as tag_start}
use Rattle.faim_message.specs.declared.form.Form.{Form}
use Rattle.faim_message.specs.declared.form.Form.TheVariants.{Input, Draft, Output, Ack}
use Rattle.faim_message.specs.declared.form.Breaks.{Breaks}
use Rattle.faim_message.specs.declared.so_far.BreakSoFar.TheVariants.{Unknown}
use Rattle.faim_message.specs.Forms.{mandatory, between, ending}
use Rattle.faim_message.specs.Spelling.{Content, AreTags, numbers, is_complete, joined, Spells}
use Rattle.faim_message.specs.Refusal.{Begins, StopsAt, EndsWhole, Refuses, missing}
use Rattle.faim_message.specs.Stages.{open_numbers, Stage, start, next, reads, is_whole, tags_of, content_of, BarredAt, Halts, Ends, Fails}
use Rattle.faim_message.proofs.Numbers.{open_listed}
use Rattle.faim_message.proofs.Flow.{onward, reads-append, reads-then, reads_cases, IsAt}
use Rattle.faim_message.proofs.Goes.{reads-good, good-begins-message, whole-here}
use Rattle.faim_message.proofs.Arrive.{arrives}

-- the start keeps the rules
pub start_at : (form : Form) → IsAt form start
start_at form = record { placed = inl (refl, refl); part = inl (tag_start (open_numbers form []) (record { some = omega arith; listed = open_listed form [] })) }

-- what is read begins a message
pub reads-begins : (form : Form) (bytes : List ℕ) (s : Stage) → reads form start bytes ≡ Some s → Begins form bytes
reads-begins form bytes s e =
    let g = reads-good form start bytes s (start_at form) e in
    let P : List ℕ → Type 0 = λ t. Begins form t in
    subst P g.1 (good-begins-message form s g.0)

somewhere : (form : Form) (bytes : List ℕ) (o : Option Stage) (t : Stage) → onward form o bytes ≡ Some t → (s : Stage) × (o ≡ Some s)
somewhere form bytes None t e = absurd cc
somewhere form bytes (Some s) t e = (s, refl)

pub front-reads : (form : Form) (s : Stage) (a b : List ℕ) (t : Stage) → reads form s (a ++ b) ≡ Some t → (r : Stage) × (reads form s a ≡ Some r)
front-reads form s a b t e = somewhere form b (reads form s a) t (sym (reads-append form s a b) ∙ e)

-- tags that keep the rules are read to their end
pub tags_arrive : (form : Form) (tags : List Tag) (breaks : Breaks) → AreTags form tags → (last : Stage) × (reads form start (joined (between breaks) (ending breaks) tags) ≡ Some last) × (is_whole last ≡ true) × (tags_of last ≡ tags)
tags_arrive form [] breaks h = absurd (let wrong : false ≡ true = h.led in cc)
tags_arrive form (v ∷ more) breaks h = let a = arrives form [] Unknown v more breaks tt h in (a.last, a.run, a.whole, a.tags_are)

-- what begins a message is read
pub begins-reads : (form : Form) (bytes : List ℕ) → Begins form bytes → (s : Stage) × (reads form start bytes ≡ Some s)
begins-reads form bytes b =
    let P : Form → Type 0 = λ f. AreTags f b.message.tags in
    let a = tags_arrive form b.message.tags b.message.breaks (subst P b.form_is b.sound.tags_sound) in
    front-reads form start bytes b.rest a.0 (ap (reads form start) (sym b.goes) ∙ a.1)

pub same_some : {X : Type 0} (x y : X) (o : Option X) → o ≡ Some x → o ≡ Some y → x ≡ y
same_some x y o e f = cc

pub take_split : (bytes : List ℕ) (k p : ℕ) → k ≤ p → take p bytes ≡ take k bytes ++ drop k (take p bytes)
take_split bytes k p le = sym (take-append-drop k (take p bytes)) ∙ ap (λ (t : List ℕ). t ++ drop k (take p bytes)) (take-take k p bytes le)

stuck_there : (form : Form) (bytes : List ℕ) (k : ℕ) (s : Stage) → k < length bytes → reads form start (take k bytes) ≡ Some s → next form s (get_or bytes k 0) ≡ None → (j : ℕ) (t : Stage) → k < j → reads form start (take j bytes) ≡ Some t → ⊥
stuck_there form bytes k s lt e none j t l run =
    let r = front-reads form start (take (k + 1) bytes) (drop (k + 1) (take j bytes)) t (ap (reads form start) (sym (take_split bytes (k + 1) j (omega arith))) ∙ run) in
    let b = get_or bytes k 0 in
    let more : reads form s (b ∷ []) ≡ Some r.0 = sym (reads-then form start s (take k bytes) (b ∷ []) e) ∙ ap (reads form start) (sym (take_more bytes k 0 lt)) ∙ r.1 in
    let c = reads_cases form (next form s b) [] r.0 more in
    let wrong : None ≡ Some c.0 = sym none ∙ c.1 in
    absurd cc

pub barred-stops : (form : Form) (bytes : List ℕ) (k : ℕ) → BarredAt form bytes k → StopsAt form bytes k
barred-stops form bytes k b = record {
  short = b.short;
  begins = reads-begins form (take k bytes) b.stage b.run;
  longest = λ j le t. let r = begins-reads form (take j bytes) t in elim (cases_lt k j) [ inl l ↦ absurd (stuck_there form bytes k b.stage b.short b.run b.none j r.0 l r.1) | inr ge ↦ ge ];
}

pub halts-cut : (form : Form) (bytes : List ℕ) → Halts form bytes → Begins form bytes × (EndsWhole form bytes → ⊥)
halts-cut form bytes h = (
  reads-begins form bytes h.stage h.run,
  λ w.
      let a = tags_arrive form w.tags w.breaks w.sound in
      let last : a.0 ≡ h.stage = same_some a.0 h.stage (reads form start bytes) (ap (reads form start) w.whole ∙ a.1) h.run in
      both_ways (is_whole h.stage) h.unfinished (ap is_whole (sym last) ∙ a.2),
)

pub fails-refuses : (form : Form) (bytes : List ℕ) (e : Refused) → Fails form bytes e → Refuses form bytes e
fails-refuses form bytes (Byte p) f = barred-stops form bytes p f
fails-refuses form bytes Cut f = halts-cut form bytes f
fails-refuses form bytes (Missing n) f = absurd f
fails-refuses form bytes NoMemory f = tt

-- whole tags with their breaks
pub ends-whole : (form : Form) (bytes : List ℕ) (tags : List Tag) (breaks : Breaks) → Ends form bytes tags breaks → AreTags form tags × (bytes ≡ joined (between breaks) (ending breaks) tags)
ends-whole form bytes tags breaks h =
    let g = reads-good form start bytes h.stage (start_at form) h.run in
    let w = whole-here form h.stage g.0 h.whole in
    let P : List Tag → Type 0 = λ ts. AreTags form ts in
    (subst P h.tags_are w.sound, sym g.1 ∙ w.bytes ∙ ap (λ (b : Breaks). joined (between b) (ending b) (tags_of h.stage)) h.breaks_are ∙ ap (joined (between breaks) (ending breaks)) h.tags_are)

-- none is missing
pub none_missing : (wanted : List ℕ) (there : List ℕ) → find (λ n. not (is_among there n)) wanted ≡ None → list_all (is_among there) wanted ≡ true
none_missing [] there e = refl
none_missing (n ∷ wanted) there e = go (is_among there n) refl (λ h. none_missing wanted there h) e
  where
    go : (t : Bool) → is_among there n ≡ t → (find (λ m. not (is_among there m)) wanted ≡ None → list_all (is_among there) wanted ≡ true) → cond (not t) (Some n) (find (λ m. not (is_among there m)) wanted) ≡ None → is_among there n && list_all (is_among there) wanted ≡ true
    go true x more h = and_from (is_among there n) (list_all (is_among there) wanted) x (more h)
    go false x more h = absurd cc

pub ends-spells : (form : Form) (bytes : List ℕ) (tags : List Tag) (breaks : Breaks) → Ends form bytes tags breaks → missing form tags ≡ None → Spells (record { form = form; breaks = breaks; tags = tags }) bytes
ends-spells form bytes tags breaks h e =
    let w = ends-whole form bytes tags breaks h in
    record { sound = record { tags_sound = w.0; complete = none_missing (mandatory form) (numbers tags) e }; spelled = w.1 }

pub ends-missing : (form : Form) (bytes : List ℕ) (tags : List Tag) (breaks : Breaks) (n : ℕ) → Ends form bytes tags breaks → missing form tags ≡ Some n → Refuses form bytes (Missing n)
ends-missing form bytes tags breaks n h e =
    let w = ends-whole form bytes tags breaks h in
    (reads-begins form bytes h.stage h.run, (record { tags = tags; breaks = breaks; sound = w.0; whole = w.1 }, e))

one_is : (n m : ℕ) → is_among (n ∷ []) m ≡ true → n ≡ m
one_is n m e = elim (or_cases (eqb n m) false e) [ inl same ↦ eqb-true n m same | inr never ↦ absurd (let wrong : false ≡ true = never in cc) ]

-- one tag is no message
two_tags : (form : Form) (v : Tag) → is_complete form (v ∷ []) ≡ true → ⊥
two_tags Input v e =
    let p = and_parts (is_among (v.no ∷ []) 1500) (list_all (is_among (v.no ∷ [])) (1510 ∷ 1520 ∷ 2000 ∷ 3100 ∷ 3400 ∷ 3600 ∷ [])) e in
    let q = and_parts (is_among (v.no ∷ []) 1510) (list_all (is_among (v.no ∷ [])) (1520 ∷ 2000 ∷ 3100 ∷ 3400 ∷ 3600 ∷ [])) p.1 in
    absurd (omega (arith, one_is v.no 1500 p.0, one_is v.no 1510 q.0))
two_tags Draft v e =
    let p = and_parts (is_among (v.no ∷ []) 1500) (list_all (is_among (v.no ∷ [])) (1510 ∷ 2000 ∷ 3100 ∷ 3400 ∷ 3600 ∷ [])) e in
    let q = and_parts (is_among (v.no ∷ []) 1510) (list_all (is_among (v.no ∷ [])) (2000 ∷ 3100 ∷ 3400 ∷ 3600 ∷ [])) p.1 in
    absurd (omega (arith, one_is v.no 1500 p.0, one_is v.no 1510 q.0))
two_tags Output v e =
    let p = and_parts (is_among (v.no ∷ []) 1100) (list_all (is_among (v.no ∷ [])) (1110 ∷ 1120 ∷ [])) e in
    let q = and_parts (is_among (v.no ∷ []) 1110) (list_all (is_among (v.no ∷ [])) (1120 ∷ [])) p.1 in
    absurd (omega (arith, one_is v.no 1100 p.0, one_is v.no 1110 q.0))
two_tags Ack v e =
    let p = and_parts (is_among (v.no ∷ []) 1100) (list_all (is_among (v.no ∷ [])) (1110 ∷ [])) e in
    let q = and_parts (is_among (v.no ∷ []) 1110) true p.1 in
    absurd (omega (arith, one_is v.no 1100 p.0, one_is v.no 1110 q.0))

-- a message is read to its end, and there it is told
pub message_told : (form : Form) (breaks : Breaks) (tags : List Tag) (bytes : List ℕ) → AreTags form tags → is_complete form tags ≡ true → bytes ≡ joined (between breaks) (ending breaks) tags → (last : Stage) × (reads form start bytes ≡ Some last) × (content_of form last ≡ record { form = form; breaks = breaks; tags = tags })
message_told form breaks [] bytes h c e = absurd (let wrong : false ≡ true = h.led in cc)
message_told form breaks (v ∷ []) bytes h c e = absurd (two_tags form v c)
message_told form breaks (v ∷ w ∷ more) bytes h c e =
    let a = arrives form [] Unknown v (w ∷ more) breaks tt h in
    (a.last, ap (reads form start) e ∙ a.run, ap (λ (b : Breaks). record { form = form; breaks = b; tags = tags_of a.last }) (a.breaks_are refl) ∙ ap (λ (ts : List Tag). record { form = form; breaks = breaks; tags = ts }) a.tags_are)

pub one_message : (m w : Content) (bytes : List ℕ) → m.form ≡ w.form → Spells m bytes → Spells w bytes → m ≡ w
one_message m w bytes same h k =
    let a = message_told m.form m.breaks m.tags bytes h.sound.tags_sound h.sound.complete h.spelled in
    let P : Form → Type 0 = λ f. (last : Stage) × (reads f start bytes ≡ Some last) × (content_of f last ≡ record { form = f; breaks = w.breaks; tags = w.tags }) in
    let b = subst P (sym same) (message_told w.form w.breaks w.tags bytes k.sound.tags_sound k.sound.complete k.spelled) in
    let last : a.0 ≡ b.0 = same_some a.0 b.0 (reads m.form start bytes) a.1 b.1 in
    sym a.2 ∙ ap (content_of m.form) last ∙ b.2 ∙ ap (λ (f : Form). record { form = f; breaks = w.breaks; tags = w.tags }) same

some_is : (o : Option Stage) → is_some o ≡ true → (s : Stage) × (o ≡ Some s)
some_is None e = absurd (let wrong : false ≡ true = e in cc)
some_is (Some s) e = (s, refl)

pub some-begins : (form : Form) (bytes : List ℕ) → is_some (reads form start bytes) ≡ true → Begins form bytes
some-begins form bytes e = let r = some_is (reads form start bytes) e in reads-begins form bytes r.0 r.1

pub begins-some : (form : Form) (bytes : List ℕ) → Begins form bytes → is_some (reads form start bytes) ≡ true
begins-some form bytes b = ap is_some (begins-reads form bytes b).1

whole_begins : (m : Content) (bytes : List ℕ) → Spells m bytes → Begins m.form bytes
whole_begins m bytes h = record { message = m; sound = h.sound; form_is = refl; rest = []; goes = sym h.spelled ∙ sym (append-nil bytes) }

not_complete : (wanted there : List ℕ) (n : ℕ) → find (λ m. not (is_among there m)) wanted ≡ Some n → list_all (is_among there) wanted ≡ true → ⊥
not_complete [] there n e h = absurd cc
not_complete (m ∷ wanted) there n e h =
    let p = and_parts (is_among there m) (list_all (is_among there) wanted) h in
    not_complete wanted there n (sym (ap (λ (t : Bool). if not t then Some m else find (λ k. not (is_among there k)) wanted) p.0) ∙ e) p.1

-- what is spelled is refused for want of memory alone
pub never_refused : (m : Content) (bytes : List ℕ) (e : Refused) → Spells m bytes → Refuses m.form bytes e → e ≡ NoMemory
never_refused m bytes (Byte p) h r =
    let P : List ℕ → Type 0 = λ t. Begins m.form t in
    absurd (omega (arith, r.short, r.longest (length bytes) (omega arith) (subst P (sym (take_all (length bytes) bytes (omega arith))) (whole_begins m bytes h))))
never_refused m bytes Cut h r = absurd (r.1 (record { tags = m.tags; breaks = m.breaks; sound = h.sound.tags_sound; whole = h.spelled }))
never_refused m bytes (Missing n) h r =
    let a = tags_arrive m.form m.tags m.breaks h.sound.tags_sound in
    let b = tags_arrive m.form r.1.0.tags r.1.0.breaks r.1.0.sound in
    let last : b.0 ≡ a.0 = same_some b.0 a.0 (reads m.form start bytes) (ap (reads m.form start) r.1.0.whole ∙ b.1) (ap (reads m.form start) h.spelled ∙ a.1) in
    let tags : r.1.0.tags ≡ m.tags = sym b.3 ∙ ap tags_of last ∙ a.3 in
    absurd (not_complete (mandatory m.form) (numbers m.tags) n (ap (missing m.form) (sym tags) ∙ r.1.1) h.sound.complete)
never_refused m bytes NoMemory h r = refl
