-- Of two readings of one image one goes on where the other ends, so an image has one list of payloads.
use Rattle.std.proofs.Common.{◌≡◌, ℕ, ◌≤◌, List, [], ◌∷◌, ◌++◌, length, take, drop, refl, sym, ◌∙◌, ap, arith, append_assoc, length-append}
use Rattle.std.proofs.lemmas.List.{take_at, drop_at}
use Rattle.std.proofs.lemmas.List.Elements.{All-head, All-tail}
use Rattle.std.proofs.lemmas.Nat.{from_be_bytes-to_be_bytes_4}
use Rattle.std.specs.Int.{to_be_bytes, from_be_bytes, w32}
use Rattle.std.specs.List.{All}
use Rattle.torn_journal.specs.Journal.{record_of, records_of, front_of, IsPayload, IsJournal}
use Rattle.torn_journal.specs.Limits.{length_bytes, longest_payload}
use Rattle.torn_journal.proofs.Fronts.{same_records, next_record}

module _ (v p x y : List ℕ) (few : length v ≤ longest_payload) (less : length p ≤ longest_payload) (same : record_of v ++ x ≡ record_of p ++ y) where
  after : (v x : List ℕ) → drop 1 (record_of v ++ x) ≡ to_be_bytes w32 (length v) ++ (v ++ x)
  after v x = append_assoc (to_be_bytes w32 (length v)) v x

  both : to_be_bytes w32 (length v) ++ (v ++ x) ≡ to_be_bytes w32 (length p) ++ (p ++ y)
  both = sym (after v x) ∙ ap (λ (l : List ℕ). drop 1 l) same ∙ after p y

  heads : to_be_bytes w32 (length v) ≡ to_be_bytes w32 (length p)
  heads = sym (take_at (to_be_bytes w32 (length v)) (v ++ x) length_bytes refl) ∙ ap (λ (l : List ℕ). take length_bytes l) both ∙ take_at (to_be_bytes w32 (length p)) (p ++ y) length_bytes refl

  longs : length v ≡ length p
  longs = sym (from_be_bytes-to_be_bytes_4 (length v) (omega (arith, few))) ∙ ap (from_be_bytes w32) heads ∙ from_be_bytes-to_be_bytes_4 (length p) (omega (arith, less))

  rests : v ++ x ≡ p ++ y
  rests = sym (drop_at (to_be_bytes w32 (length v)) (v ++ x) length_bytes refl) ∙ ap (λ (l : List ℕ). drop length_bytes l) both ∙ drop_at (to_be_bytes w32 (length p)) (p ++ y) length_bytes refl

  pub same_payload : v ≡ p
  same_payload = sym (take_at v x (length v) refl) ∙ ap (λ (l : List ℕ). take (length v) l) rests ∙ take_at p y (length v) (sym longs)

  same_rest : x ≡ y
  same_rest = sym (drop_at v x (length v) refl) ∙ ap (λ (l : List ℕ). drop (length v) l) rests ∙ drop_at p y (length v) (sym longs)

-- two lists of payloads are the same, or one is the other with more after it
pub data Compared (vs ps : List (List ℕ)) : Type 0 where
  equal : vs ≡ ps → Compared vs ps
  longer : (p : List ℕ) (more : List (List ℕ)) → ps ≡ vs ++ p ∷ more → Compared vs ps
  shorter : (v : List ℕ) (more : List (List ℕ)) → vs ≡ ps ++ v ∷ more → Compared vs ps

same_first : (v p : List ℕ) (vs ps : List (List ℕ)) → v ≡ p → Compared vs ps → Compared (v ∷ vs) (p ∷ ps)
same_first v p vs ps first (equal same) = equal (cc)
same_first v p vs ps first (longer q more same) = longer q more (cc)
same_first v p vs ps first (shorter q more same) = shorter q more (cc)

compared : (vs ps : List (List ℕ)) (rest more : List ℕ) → All IsPayload vs → All IsPayload ps → records_of vs ++ rest ≡ records_of ps ++ more → Compared vs ps
compared [] [] rest more av aw same = equal refl
compared [] (p ∷ ps) rest more av aw same = longer p ps refl
compared (v ∷ vs) [] rest more av aw same = shorter v vs refl
compared (v ∷ vs) (p ∷ ps) rest more av aw same =
    let few = (All-head IsPayload v vs av).most in
    let less = (All-head IsPayload p ps aw).most in
    let moved : record_of v ++ (records_of vs ++ rest) ≡ record_of p ++ (records_of ps ++ more) = sym (append_assoc (record_of v) (records_of vs) rest) ∙ same ∙ append_assoc (record_of p) (records_of ps) more in
    same_first v p vs ps (same_payload v p (records_of vs ++ rest) (records_of ps ++ more) few less moved)
    (compared vs ps rest more (All-tail IsPayload v vs av) (All-tail IsPayload p ps aw) (same_rest v p (records_of vs ++ rest) (records_of ps ++ more) few less moved))

pub compared_fronts : (vs ps : List (List ℕ)) (rest more : List ℕ) → All IsPayload vs → All IsPayload ps → front_of vs ++ rest ≡ front_of ps ++ more → Compared vs ps
compared_fronts vs ps rest more av aw same = compared vs ps rest more av aw (same_records vs ps rest more same)

-- a journal's records end at its tail gate, so no reading goes on there
pub ends_here : (vs ps more : List (List ℕ)) (v rest : List ℕ) → vs ≡ ps ++ v ∷ more → (image : List ℕ) → image ≡ front_of vs ++ rest → IsJournal image ps → ⊥
ends_here vs ps more v rest on image is journal =
    let next = next_record ps more v (journal.gate ∷ journal.rest) rest (sym journal.is ∙ is ∙ ap (λ (l : List (List ℕ)). front_of l ++ rest) on) in
    journal.shut (cc)

few_of : (vs ps : List (List ℕ)) → Compared vs ps → ((v : List ℕ) (more : List (List ℕ)) → vs ≡ ps ++ v ∷ more → ⊥) → length vs ≤ length ps
few_of vs ps (equal same) ends = omega (arith, ap length same)
few_of vs ps (longer p more same) ends = omega (arith, ap length same, length-append vs (p ∷ more))
few_of vs ps (shorter v more same) ends = absurd (ends v more same)

-- as many records as were read
pub reached_few : (image rest : List ℕ) (vs ps : List (List ℕ)) → image ≡ front_of vs ++ rest → All IsPayload vs → IsJournal image ps → length vs ≤ length ps
reached_few image rest vs ps is each journal =
    few_of vs ps (compared_fronts vs ps rest (journal.gate ∷ journal.rest) each journal.each (sym is ∙ journal.is))
    (λ v more on. ends_here vs ps more v rest on image is journal)

one_of : (image : List ℕ) (vs ps : List (List ℕ)) → Compared vs ps → IsJournal image vs → IsJournal image ps → vs ≡ ps
one_of image vs ps (equal same) first second = same
one_of image vs ps (longer p more same) first second = absurd (ends_here ps vs more p (second.gate ∷ second.rest) same image second.is first)
one_of image vs ps (shorter v more same) first second = absurd (ends_here vs ps more v (first.gate ∷ first.rest) same image first.is second)

-- an image is a journal of one list of payloads
pub one_list : (image : List ℕ) (vs ps : List (List ℕ)) → IsJournal image vs → IsJournal image ps → vs ≡ ps
one_list image vs ps first second =
    one_of image vs ps (compared_fronts vs ps (first.gate ∷ first.rest) (second.gate ∷ second.rest) first.each second.each (sym first.is ∙ second.is)) first second
