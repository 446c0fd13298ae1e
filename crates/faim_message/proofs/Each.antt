-- Bytes are a message of a form, or refused.
use Rattle.std.proofs.Common.{◌≡◌, ◌≢◌, ◌⊎◌, inl, inr, ℕ, Bool, true, false, List, [], ◌∷◌, ◌++◌, length, Option, Some, None, refl, sym, ap, subst, ◌∙◌, arith, length-append, append_assoc}
use Rattle.std.specs.Prelude.{slice_index}
use Rattle.std.proofs.Math.Seq.{take-append_seam}
use Rattle.faim_base.specs.declared.judgement.Refused.{Refused}
use Rattle.faim_base.specs.declared.judgement.Refused.TheVariants.{Byte, Cut, Missing, NoMemory}
use Rattle.faim_message.specs.declared.form.Form.{Form}
use Rattle.faim_message.specs.Spelling.{Content, Spells}
use Rattle.faim_message.specs.Refusal.{Refuses, missing}
use Rattle.faim_message.specs.Stages.{Stage, start, next, reads, is_whole, tags_of, breaks_of, BarredAt, Ends}
use Rattle.faim_message.proofs.Flow.{reads-then, reads-one}
use Rattle.faim_message.proofs.Judge.{barred-stops, halts-cut, ends-spells, ends-missing}

byte_after : (front rest : List ℕ) (b : ℕ) → slice_index (front ++ b ∷ rest) (length front) ≡ b
byte_after [] rest b = refl
byte_after (f ∷ front) rest b = byte_after front rest b

-- reading that doesn't come to the end breaks somewhere
pub barred_after : (form : Form) (front rest : List ℕ) (s : Stage) → reads form start front ≡ Some s → reads form s rest ≡ None → (p : ℕ) × BarredAt form (front ++ rest) p
barred_after form front [] s run none = absurd (let wrong : Some s ≡ None = none in cc)
barred_after form front (b ∷ rest) s run none = go (next form s b) (λ t. barred_after form (front ++ b ∷ []) rest t) refl
  where
    go : (o : Option Stage) → ((t : Stage) → reads form start (front ++ b ∷ []) ≡ Some t → reads form t rest ≡ None → (p : ℕ) × BarredAt form ((front ++ b ∷ []) ++ rest) p) → next form s b ≡ o → (p : ℕ) × BarredAt form (front ++ b ∷ rest) p
    go None later e = (
      length front,
      record {
        short = omega (arith, length-append front (b ∷ rest));
        stage = s;
        run = ap (reads form start) (take-append_seam front (b ∷ rest)) ∙ run;
        none = ap (next form s) (byte_after front rest b) ∙ e;
      },
    )
    go (Some t) later e =
        let on : reads form s (b ∷ []) ≡ Some t = reads-one form s t b [] e in
        let more = later t (reads-then form start s front (b ∷ []) run ∙ on) (sym (reads-one form s t b rest e) ∙ none) in
        let P : List ℕ → Type 0 = λ l. (p : ℕ) × BarredAt form l p in
        subst P (append_assoc front (b ∷ []) rest) more

-- bytes that are read to their end are judged there
judged_there : (form : Form) (bytes : List ℕ) (s : Stage) → reads form start bytes ≡ Some s
    → ((m : Content) × Spells m bytes × (m.form ≡ form)) ⊎ ((e : Refused) × Refuses form bytes e × (e ≢ NoMemory))
judged_there form bytes s run = go (is_whole s) refl
  where
    all : (o : Option ℕ) → missing form (tags_of s) ≡ o → Ends form bytes (tags_of s) (breaks_of s) → ((m : Content) × Spells m bytes × (m.form ≡ form)) ⊎ ((e : Refused) × Refuses form bytes e × (e ≢ NoMemory))
    all None e ends = inl (record { form = form; breaks = breaks_of s; tags = tags_of s }, ends-spells form bytes (tags_of s) (breaks_of s) ends e, refl)
    all (Some n) e ends = inr (Missing n, ends-missing form bytes (tags_of s) (breaks_of s) n ends e, λ w. absurd cc)

    go : (b : Bool) → is_whole s ≡ b → ((m : Content) × Spells m bytes × (m.form ≡ form)) ⊎ ((e : Refused) × Refuses form bytes e × (e ≢ NoMemory))
    go true e = all (missing form (tags_of s)) refl (record { stage = s; run = run; whole = e; tags_are = refl; breaks_are = refl })
    go false e = inr (Cut, halts-cut form bytes (record { stage = s; run = run; unfinished = e }), λ w. absurd cc)

pub each_input : (form : Form) (bytes : List ℕ) → ((m : Content) × Spells m bytes × (m.form ≡ form)) ⊎ ((e : Refused) × Refuses form bytes e × (e ≢ NoMemory))
each_input form bytes = go (reads form start bytes) refl
  where
    go : (o : Option Stage) → reads form start bytes ≡ o → ((m : Content) × Spells m bytes × (m.form ≡ form)) ⊎ ((e : Refused) × Refuses form bytes e × (e ≢ NoMemory))
    go (Some s) e = judged_there form bytes s e
    go None e = let b = barred_after form [] bytes start refl e in inr (Byte b.0, barred-stops form bytes b.0 b.1, λ w. absurd cc)
