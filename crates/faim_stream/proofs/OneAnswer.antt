-- All bytes fed have one answer, however they were cut.
use Rattle.std.proofs.Common.{◌≡◌, ℕ, List, [], ◌∷◌, ◌++◌, Option, Some, None, Result, Ok, Err, refl, sym, ap, subst, ◌∙◌, append_assoc}
use Rattle.std.specs.List.{flat_map}
use Rattle.std.proofs.lemmas.List.{append-nil}
use Rattle.faim_base.specs.declared.judgement.Refused.{Refused}
use Rattle.faim_base.specs.declared.judgement.Refused.TheVariants.{Byte}
use Rattle.faim_message.specs.declared.form.Form.{Form}
use Rattle.faim_message.specs.Stages.{Stage, start, reads}
use Rattle.faim_message.proofs.Each.{barred_after}
use Rattle.faim_message.proofs.Judge.{reads-begins, barred-stops}
use Rattle.faim_message.proofs.Reasons.{one_place, stop_stays, stops_short}
use Rattle.faim_stream.specs.Fed.{Judges}
use Rattle.faim_stream.specs.Cuts.{Answers}

abbrev Answer : Type 0
Answer = Result (Unit {0}) Refused

-- bytes have an answer
pub some_answer : (form : Form) (fed : List ℕ) → (a : Answer) × Judges form fed a
some_answer form fed = go (reads form start fed) refl
  where
    go : (o : Option Stage) → reads form start fed ≡ o → (a : Answer) × Judges form fed a
    go (Some s) e = (Ok tt, λ p stops. stops_short form fed p stops (reads-begins form fed s e))
    go None e = let b = barred_after form [] fed start refl e in (Err (Byte b.0), (b.0, refl, barred-stops form fed b.0 b.1))

-- they have one
pub one_answer : (form : Form) (fed : List ℕ) (a b : Answer) → Judges form fed a → Judges form fed b → a ≡ b
one_answer form fed (Ok u) (Ok w) h k = refl
one_answer form fed (Ok u) (Err e) h k = absurd (h k.0 k.2)
one_answer form fed (Err e) (Ok u) h k = absurd (k h.0 h.2)
one_answer form fed (Err e) (Err f) h k = ap (λ (r : Refused). Err r) (h.1 ∙ ap Byte (one_place form fed h.0 k.0 h.2 k.2) ∙ sym k.1)

-- a refusal stays
pub refusal_stays : (form : Form) (fed more : List ℕ) (e : Refused) → Judges form fed (Err e) → Judges form (fed ++ more) (Err e)
refusal_stays form fed more e h = (h.0, h.1, stop_stays form fed more h.0 h.2)

-- the last answer is that to all bytes
last_answer : (form : Form) (fed : List ℕ) (pieces : List (List ℕ)) (a : Answer) (before : List Answer) → Answers form fed pieces (before ++ a ∷ []) → Judges form (fed ++ flat_map (λ piece. piece) pieces) a
last_answer form fed [] a [] h = absurd h
last_answer form fed [] a (x ∷ before) h = absurd h
last_answer form fed (piece ∷ []) a [] h =
    let P : List ℕ → Type 0 = λ l. Judges form (fed ++ l) a in
    subst P (sym (append-nil piece)) h.0
last_answer form fed (piece ∷ next ∷ pieces) a [] h = absurd h.1
last_answer form fed (piece ∷ pieces) a (x ∷ before) h =
    let P : List ℕ → Type 0 = λ l. Judges form l a in
    subst P (append_assoc fed piece (flat_map (λ p. p) pieces)) (last_answer form (fed ++ piece) pieces a before h.1)

-- the same bytes cut elsewhere
pub cut_elsewhere : (form : Form) (fed : List ℕ) (pieces others : List (List ℕ)) (a b : Answer) (before earlier : List Answer)
    → flat_map (λ piece. piece) pieces ≡ flat_map (λ piece. piece) others → Answers form fed pieces (before ++ a ∷ []) → Answers form fed others (earlier ++ b ∷ []) → a ≡ b
cut_elsewhere form fed pieces others a b before earlier same h k =
    let P : List ℕ → Type 0 = λ l. Judges form (fed ++ l) a in
    one_answer form (fed ++ flat_map (λ p. p) others) a b (subst P same (last_answer form fed pieces a before h)) (last_answer form fed others b earlier k)
