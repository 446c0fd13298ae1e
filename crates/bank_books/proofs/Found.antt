-- The texts of drafts and outputs are those of their entries.
use Rattle.std.proofs.Common.{◌≡◌, ◌⊎◌, inl, inr, refl, sym, ◌∙◌, ap, subst, ℕ, List, [], ◌∷◌, ◌++◌, length, reverse, Option, Some, None, option_map, length-append, arith, ◌<◌, ◌≤◌, get_or}
use Rattle.std.specs.List.{slice_get}
use Rattle.std.proofs.lemmas.List.{length-reverse, reverse-append, reverse-reverse}
use Rattle.std.proofs.lemmas.Option.{get_or_from_slice_get, slice_get-get_or, slice_get_past, slice_get_read, slice_get_within}
use Rattle.bank_books.specs.declared.entries.BankEntry.{BankEntry}
use Rattle.bank_books.specs.declared.entries.BankEntry.TheVariants.{Drafted, Answered, Received}
use Rattle.bank_books.specs.declared.rows.DraftAt.{DraftAt}
use Rattle.bank_books.specs.Drafts.{Draft, drafts}
use Rattle.bank_books.specs.Inbox.{InboxItem, inbox}
use Rattle.bank_books.specs.Kept.{draft_text, drafts_at, inbox_at, received_text}
use Rattle.bank_books.proofs.Appended.{last_there, old_or_last, still_there}

-- as many places as drafts, and as outputs
pub as_many_drafts : (es : List BankEntry) → length (drafts_at es) ≡ length (drafts es)
as_many_drafts [] = refl
as_many_drafts (Drafted imad text ∷ older) = grind (arith, length-append, as_many_drafts older)
as_many_drafts (Answered imad verdict ∷ older) = as_many_drafts older
as_many_drafts (Received at text next ∷ older) = as_many_drafts older

pub as_many_outputs : (es : List BankEntry) → length (inbox_at es) ≡ length (inbox es)
as_many_outputs [] = refl
as_many_outputs (Drafted imad text ∷ older) = as_many_outputs older
as_many_outputs (Answered imad verdict ∷ older) = as_many_outputs older
as_many_outputs (Received at text next ∷ older) = grind (arith, length-append, as_many_outputs older)

-- an entry at a place, the oldest being at 0, with a text at a place of a list
pub record Stands {A : Type 0} (es : List BankEntry) (entry : ℕ) (reads : BankEntry → Option (List ℕ)) (items : List A) (text_of : A → List ℕ) (place : ℕ) : Type 0 where
  pub there : BankEntry
  pub at : slice_get (reverse es) entry ≡ Some there
  pub item : A
  pub own : slice_get items place ≡ Some item
  pub same : reads there ≡ Some (text_of item)

-- the oldest first, an entry that is appended is the last
appended : (es : List BankEntry) (x : BankEntry) → reverse (x ∷ es) ≡ reverse es ++ x ∷ []
appended es x = reverse-append (x ∷ []) es

-- so it does when an entry is appended
under_one : {A : Type 0} (es : List BankEntry) (x : BankEntry) (entry : ℕ) (reads : BankEntry → Option (List ℕ)) (items more : List A) (text_of : A → List ℕ) (place : ℕ)
    → Stands es entry reads items text_of place → Stands (x ∷ es) entry reads (items ++ more) text_of place
under_one es x entry reads items more text_of place s = record {
  there = s.there;
  at = ap (λ (l : List BankEntry). slice_get l entry) (appended es x) ∙ still_there (reverse es) (x ∷ []) entry s.there s.at;
  item = s.item;
  own = still_there items more place s.item s.own;
  same = s.same;
}

under_another : {A : Type 0} (es : List BankEntry) (x : BankEntry) (entry : ℕ) (reads : BankEntry → Option (List ℕ)) (items : List A) (text_of : A → List ℕ) (place : ℕ)
    → Stands es entry reads items text_of place → Stands (x ∷ es) entry reads items text_of place
under_another es x entry reads items text_of place s = record {
  there = s.there;
  at = ap (λ (l : List BankEntry). slice_get l entry) (appended es x) ∙ still_there (reverse es) (x ∷ []) entry s.there s.at;
  item = s.item;
  own = s.own;
  same = s.same;
}

newest : {A : Type 0} (es : List BankEntry) (x : BankEntry) (entry : ℕ) (reads : BankEntry → Option (List ℕ)) (items : List A) (i : A) (text_of : A → List ℕ) (place : ℕ)
    → entry ≡ length es → place ≡ length items → reads x ≡ Some (text_of i) → Stands (x ∷ es) entry reads (items ++ i ∷ []) text_of place
newest es x entry reads items i text_of place entry_is place_is same = record {
  there = x;
  at = ap (λ (l : List BankEntry). slice_get l entry) (appended es x) ∙ ap (λ (n : ℕ). slice_get (reverse es ++ x ∷ []) n) (entry_is ∙ sym (length-reverse es)) ∙ last_there (reverse es) x;
  item = i;
  own = ap (λ (n : ℕ). slice_get (items ++ i ∷ []) n) place_is ∙ last_there items i;
  same = same;
}

pub draft_stands : (es : List BankEntry) (k : ℕ) (r : DraftAt) → slice_get (drafts_at es) k ≡ Some r → Stands es r.entry draft_text (drafts es) (λ (d : Draft). d.text) k
draft_stands [] k r is = absurd cc
draft_stands (Answered imad verdict ∷ older) k r is = under_another older _ r.entry draft_text (drafts older) (λ (d : Draft). d.text) k (draft_stands older k r is)
draft_stands (Received at text next ∷ older) k r is = under_another older _ r.entry draft_text (drafts older) (λ (d : Draft). d.text) k (draft_stands older k r is)
draft_stands (Drafted imad text ∷ older) k r is =
    by (old_or_last (drafts_at older) (record { imad = imad; entry = length older }) k r is) (λ old. draft_stands older k r old)
  where
    by : (slice_get (drafts_at older) k ≡ Some r) ⊎ ((k ≡ length (drafts_at older)) × (r ≡ record { imad = imad; entry = length older }))
        → (slice_get (drafts_at older) k ≡ Some r → Stands older r.entry draft_text (drafts older) (λ (d : Draft). d.text) k)
        → Stands (Drafted imad text ∷ older) r.entry draft_text (drafts older ++ record { place = length (drafts older); imad = imad; text = text } ∷ []) (λ (d : Draft). d.text) k
    by (inl old) rest =
        under_one older (Drafted imad text) r.entry draft_text (drafts older) (record { place = length (drafts older); imad = imad; text = text } ∷ []) (λ (d : Draft). d.text) k (rest old)
    by (inr last) rest =
        newest older (Drafted imad text) r.entry draft_text (drafts older) (record { place = length (drafts older); imad = imad; text = text }) (λ (d : Draft). d.text) k
        (ap (λ (q : DraftAt). q.entry) last.1) (last.0 ∙ as_many_drafts older) refl

pub output_stands : (es : List BankEntry) (k entry : ℕ) → slice_get (inbox_at es) k ≡ Some entry → Stands es entry received_text (inbox es) (λ (i : InboxItem). i.text) k
output_stands [] k entry is = absurd cc
output_stands (Drafted imad text ∷ older) k entry is = under_another older _ entry received_text (inbox older) (λ (i : InboxItem). i.text) k (output_stands older k entry is)
output_stands (Answered imad verdict ∷ older) k entry is = under_another older _ entry received_text (inbox older) (λ (i : InboxItem). i.text) k (output_stands older k entry is)
output_stands (Received at text next ∷ older) k entry is =
    by (old_or_last (inbox_at older) (length older) k entry is) (λ old. output_stands older k entry old)
  where
    by : (slice_get (inbox_at older) k ≡ Some entry) ⊎ ((k ≡ length (inbox_at older)) × (entry ≡ length older))
        → (slice_get (inbox_at older) k ≡ Some entry → Stands older entry received_text (inbox older) (λ (i : InboxItem). i.text) k)
        → Stands (Received at text next ∷ older) entry received_text (inbox older ++ record { at = at; text = text; next = next } ∷ []) (λ (i : InboxItem). i.text) k
    by (inl old) rest =
        under_one older (Received at text next) entry received_text (inbox older) (record { at = at; text = text; next = next } ∷ []) (λ (i : InboxItem). i.text) k (rest old)
    by (inr last) rest =
        newest older (Received at text next) entry received_text (inbox older) (record { at = at; text = text; next = next }) (λ (i : InboxItem). i.text) k
        last.1 (last.0 ∙ as_many_outputs older) refl

-- of entries as they are kept, the oldest first: the entry is there, and its text is the item's
module _ {A : Type 0} (kept : List BankEntry) (entry : ℕ) (reads : BankEntry → Option (List ℕ)) (items : List A) (text_of : A → List ℕ) (place : ℕ)
    (stands : Stands (reverse kept) entry reads items text_of place) where
  there_as_kept : slice_get kept entry ≡ Some stands.there
  there_as_kept = ap (λ (l : List BankEntry). slice_get l entry) (sym (reverse-reverse kept)) ∙ stands.at

  pub entry_within : entry < length kept
  entry_within = slice_get_within kept entry stands.there there_as_kept

  pub text_there : (d : BankEntry) → reads (get_or kept entry d) ≡ option_map text_of (slice_get items place)
  text_there d =
      ap reads (get_or_from_slice_get kept entry stands.there d there_as_kept)
      ∙ stands.same
      ∙ sym (ap (option_map text_of) stands.own)

pub draft_found : (kept : List BankEntry) (rows : List DraftAt) (place : ℕ) (r : DraftAt) → rows ≡ drafts_at (reverse kept) → place < length rows → r ≡ get_or rows place r
    → Stands (reverse kept) r.entry draft_text (drafts (reverse kept)) (λ (d : Draft). d.text) place
draft_found kept rows place r are lt is =
    draft_stands (reverse kept) place r (subst (λ (l : List DraftAt). slice_get l place ≡ Some r) are (slice_get_read rows (length rows) place r refl lt is))

pub output_found : (kept : List BankEntry) (rows : List ℕ) (place : ℕ) → rows ≡ inbox_at (reverse kept) → place < length rows
    → Stands (reverse kept) (get_or rows place 0) received_text (inbox (reverse kept)) (λ (i : InboxItem). i.text) place
output_found kept rows place are lt =
    output_stands (reverse kept) place (get_or rows place 0) (subst (λ (l : List ℕ). slice_get l place ≡ Some (get_or rows place 0)) are (slice_get-get_or rows place 0 lt))

pub no_draft : (es : List BankEntry) (rows : List DraftAt) (place : ℕ) → rows ≡ drafts_at es → length rows ≤ place → None ≡ option_map (λ (d : Draft). d.text) (slice_get (drafts es) place)
no_draft es rows place are le =
    let few : length (drafts es) ≤ place = omega (arith, ap length are, as_many_drafts es) in
    sym (ap (option_map (λ (d : Draft). d.text)) (slice_get_past (drafts es) place few))

pub no_output : (es : List BankEntry) (rows : List ℕ) (place : ℕ) → rows ≡ inbox_at es → length rows ≤ place → None ≡ option_map (λ (i : InboxItem). i.text) (slice_get (inbox es) place)
no_output es rows place are le =
    let few : length (inbox es) ≤ place = omega (arith, ap length are, as_many_outputs es) in
    sym (ap (option_map (λ (i : InboxItem). i.text)) (slice_get_past (inbox es) place few))
