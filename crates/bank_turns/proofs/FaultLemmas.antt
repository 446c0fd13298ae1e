-- The fault of a text is why it is no draft.
use Rattle.std.proofs.Common.{◌≡◌, ◌≢◌, refl, sym, ap, subst, ◌∙◌, ℕ, ◌+◌, Bool, true, false, List, [], ◌∷◌, ◌++◌, length, Option, Some, None, option_map, arith, length-append, append_assoc, append-nil}
use Rattle.std.specs.Prelude.{slice_index, if◌then◌else◌}
use Rattle.std.proofs.Math.Seq.{take-append_seam}
use Rattle.faim_base.specs.declared.judgement.Refused.{Refused}
use Rattle.faim_base.specs.declared.judgement.Refused.TheVariants.{Byte, Cut, Missing, NoMemory}
use Rattle.faim_message.specs.declared.form.Form.{Form}
use Rattle.faim_message.specs.Decoded.{decoded}
use Rattle.faim_message.specs.Spelling.{Content}
use Rattle.faim_message.specs.Refusal.{Refuses, missing}
use Rattle.faim_message.specs.Stages.{Stage, start, next, reads, is_whole, tags_of, breaks_of, content_of, BarredAt, Ends}
use Rattle.faim_message.proofs.Flow.{reads-then, reads-one}
use Rattle.faim_message.proofs.Judge.{barred-stops, halts-cut, ends-spells, ends-missing}
use Rattle.faim_message.proofs.Decodings.{refused_undecoded, spelled_decoded}
use Rattle.bank_turns.specs.DraftFaults.{draft_fault, fault_at_end, fault_from}

-- why bytes are none of a form, and not for want of memory
abbrev Why : Form → List ℕ → Refused → Type 0
Why form bytes e = Refuses form bytes e × (e ≢ NoMemory)

-- the fault of an end is why
end_why : (form : Form) (bytes : List ℕ) (s : Stage) (e : Refused) → reads form start bytes ≡ Some s → fault_at_end form s ≡ Some e → Why form bytes e
end_why form bytes s e run = go (is_whole s) refl
  where
    all : (o : Option ℕ) → missing form (tags_of s) ≡ o → Ends form bytes (tags_of s) (breaks_of s) → option_map (λ n. Missing n) o ≡ Some e → Why form bytes e
    all None is ends fault = absurd cc
    all (Some n) is ends fault =
        let same : Missing n ≡ e = cc in
        subst (λ (r : Refused). Why form bytes r) same (ends-missing form bytes (tags_of s) (breaks_of s) n ends is, λ w. absurd cc)

    go : (b : Bool) → is_whole s ≡ b → (if b then option_map (λ n. Missing n) (missing form (tags_of s)) else Some Cut) ≡ Some e → Why form bytes e
    go true whole fault = all (missing form (tags_of s)) refl (record { stage = s; run = run; whole = whole; tags_are = refl; breaks_are = refl }) fault
    go false whole fault =
        let same : Cut ≡ e = cc in
        subst (λ (r : Refused). Why form bytes r) same (halts-cut form bytes (record { stage = s; run = run; unfinished = whole }), λ w. absurd cc)

byte_after : (front rest : List ℕ) (b : ℕ) → slice_index (front ++ b ∷ rest) (length front) ≡ b
byte_after [] rest b = refl
byte_after (f ∷ front) rest b = byte_after front rest b

-- the fault by what the next byte makes
abbrev fault_then : Form → ℕ → List ℕ → Option Stage → Option Refused
fault_then form place rest None = Some (Byte place)
fault_then form place rest (Some t) = fault_from form (place + 1) t rest

-- the fault after some bytes is why they and the rest are none
fault_why : (form : Form) (front rest : List ℕ) (s : Stage) (place : ℕ) (e : Refused) → place ≡ length front → reads form start front ≡ Some s
    → fault_from form place s rest ≡ Some e → Why form (front ++ rest) e
fault_why form front [] s place e at run = λ fault.
    subst (λ (bytes : List ℕ). Why form bytes e) (sym (append-nil front)) (end_why form front s e run fault)
fault_why form front (b ∷ rest) s place e at run = go (next form s b) refl (λ t. fault_why form (front ++ b ∷ []) rest t (place + 1) e)
  where
    go : (o : Option Stage) → next form s b ≡ o
        → ((t : Stage) → place + 1 ≡ length (front ++ b ∷ []) → reads form start (front ++ b ∷ []) ≡ Some t
        → fault_from form (place + 1) t rest ≡ Some e → Why form ((front ++ b ∷ []) ++ rest) e)
        → fault_then form place rest o ≡ Some e → Why form (front ++ b ∷ rest) e
    go None is later fault =
        let same : Byte (length front) ≡ e = ap (λ (n : ℕ). Byte n) (sym at) ∙ cc in
        let barred : BarredAt form (front ++ b ∷ rest) (length front) = record {
          short = omega (arith, length-append front (b ∷ rest));
          stage = s;
          run = ap (reads form start) (take-append_seam front (b ∷ rest)) ∙ run;
          none = ap (next form s) (byte_after front rest b) ∙ is;
        } in
        subst (λ (r : Refused). Why form (front ++ b ∷ rest) r) same (barred-stops form (front ++ b ∷ rest) (length front) barred, λ w. absurd cc)
    go (Some t) is later fault =
        let on : reads form s (b ∷ []) ≡ Some t = reads-one form s t b [] is in
        let more = later t (omega (arith, at, length-append front (b ∷ []))) (reads-then form start s front (b ∷ []) run ∙ on) fault in
        subst (λ (bytes : List ℕ). Why form bytes e) (append_assoc front (b ∷ []) rest) more

pub draft_why : (text : List ℕ) (e : Refused) → draft_fault text ≡ Some e → Why Form.Draft text e
draft_why text e fault = fault_why Form.Draft [] text start 0 e refl refl fault

-- the stage at which bytes without a fault end
record Faultless (form : Form) (s : Stage) (rest : List ℕ) : Type 0 where
  stage : Stage
  run : reads form s rest ≡ Some stage
  end : fault_at_end form stage ≡ None

no_fault : (form : Form) (s : Stage) (rest : List ℕ) (place : ℕ) → fault_from form place s rest ≡ None → Faultless form s rest
no_fault form s [] place = λ none. record { stage = s; run = refl; end = none }
no_fault form s (b ∷ rest) place = go (next form s b) refl (λ t. no_fault form t rest (place + 1))
  where
    go : (o : Option Stage) → next form s b ≡ o → ((t : Stage) → fault_from form (place + 1) t rest ≡ None → Faultless form t rest)
        → fault_then form place rest o ≡ None → Faultless form s (b ∷ rest)
    go None is later none = absurd cc
    go (Some t) is later none =
        let more = later t none in
        record { stage = more.stage; run = reads-one form s t b rest is ∙ more.run; end = more.end }

-- bytes that end without a fault are decoded
end_found : (form : Form) (bytes : List ℕ) (s : Stage) → reads form start bytes ≡ Some s → fault_at_end form s ≡ None → (m : Content) × (decoded form bytes ≡ Some m)
end_found form bytes s run = go (is_whole s) refl
  where
    all : (o : Option ℕ) → missing form (tags_of s) ≡ o → Ends form bytes (tags_of s) (breaks_of s) → option_map (λ n. Missing n) o ≡ None
        → (m : Content) × (decoded form bytes ≡ Some m)
    all (Some n) is ends none = absurd cc
    all None is ends none =
        (content_of form s, spelled_decoded (content_of form s) bytes (ends-spells form bytes (tags_of s) (breaks_of s) ends is))

    go : (b : Bool) → is_whole s ≡ b → (if b then option_map (λ n. Missing n) (missing form (tags_of s)) else Some Cut) ≡ None
        → (m : Content) × (decoded form bytes ≡ Some m)
    go true whole none = all (missing form (tags_of s)) refl (record { stage = s; run = run; whole = whole; tags_are = refl; breaks_are = refl }) none
    go false whole none = absurd cc

pub draft_found : (text : List ℕ) → draft_fault text ≡ None → (m : Content) × (decoded Form.Draft text ≡ Some m)
draft_found text none = let f = no_fault Form.Draft start text 0 none in end_found Form.Draft text f.stage f.run f.end

pub draft_none : (text : List ℕ) (m : Content) → decoded Form.Draft text ≡ Some m → draft_fault text ≡ None
draft_none text m found = go (draft_fault text) refl
  where
    go : (o : Option Refused) → draft_fault text ≡ o → o ≡ None
    go None is = refl
    go (Some e) is =
        let why = draft_why text e is in
        let none = refused_undecoded Form.Draft text e why.0 why.1 in
        absurd cc
