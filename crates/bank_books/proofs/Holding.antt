-- What books keep beside their list, when an entry is appended.
use Rattle.std.proofs.Common.{◌≡◌, refl, sym, ◌∙◌, ap, ℕ, ◌+◌, ◌<◌, not, List, [], ◌∷◌, ◌++◌, length, filter, Option, Some, None, arith}
use Rattle.std.proofs.lemmas.List.{map-append}
use Rattle.faim_base.specs.declared.ids.Imad.{Imad}
use Rattle.faim_base.specs.declared.ids.OutPos.{OutPos}
use Rattle.faim_base.specs.declared.judgement.Verdict.{Verdict}
use Rattle.bank_books.specs.declared.entries.BankEntry.{BankEntry}
use Rattle.bank_books.specs.declared.entries.BankEntry.TheVariants.{Drafted, Answered, Received}
use Rattle.bank_books.specs.declared.entries.BankOpening.{BankOpening}
use Rattle.bank_books.specs.declared.rows.DraftAt.{DraftAt}
use Rattle.bank_books.specs.declared.rows.OpenDraft.{OpenDraft}
use Rattle.bank_books.specs.Drafts.{Draft, drafts, open_drafts, same_imad}
use Rattle.bank_books.specs.Inbox.{bank_cycle}
use Rattle.bank_books.specs.Kept.{Kept, count_after, open_rows}
use Rattle.bank_books.specs.Lawful.{LawfulBank, right_after}
use Rattle.bank_books.proofs.Counted.{is_next, none_later, own_counts}
use Rattle.bank_books.proofs.Waiting.{open_less, open_more, rows_less}

module _ (o : BankOpening) (older : List BankEntry) (rows : List DraftAt) (left : List OpenDraft) (places : List ℕ) (count : ℕ) (position : OutPos) (kept : Kept o older rows left places count position) where
  pub with_draft : (imad : Imad) (text : List ℕ) → LawfulBank o (Drafted imad text ∷ older)
      → Kept o (Drafted imad text ∷ older) (rows ++ record { imad = imad; entry = length older } ∷ []) (left ++ record { imad = imad; place = length (drafts older) } ∷ []) places (count + 1) position
  with_draft imad text lawful =
      let new : Draft = record { place = length (drafts older); imad = imad; text = text } in
      let date : imad.date ≡ bank_cycle o older = (is_next o older imad lawful.0).date in
      record {
        drafted = ap (λ (rs : List DraftAt). rs ++ record { imad = imad; entry = length older } ∷ []) kept.drafted;
        unanswered = ap (λ (rs : List OpenDraft). rs ++ record { imad = imad; place = length (drafts older) } ∷ []) kept.unanswered
            ∙ sym (ap open_rows (open_more o older imad text lawful) ∙ map-append (λ (d : Draft). record { imad = d.imad; place = d.place }) (open_drafts older) (new ∷ []));
        received = kept.received;
        numbered = ap (λ (n : ℕ). n + 1) kept.numbered ∙ sym (own_counts older imad text (bank_cycle o older) date);
        wanted_next = kept.wanted_next;
      }

  pub with_verdict : (imad : Imad) (verdict : Verdict) (less : List OpenDraft) → less ≡ filter (λ (r : OpenDraft). not (same_imad r.imad imad)) left
      → Kept o (Answered imad verdict ∷ older) rows less places count position
  with_verdict imad verdict less is = record {
    drafted = kept.drafted;
    unanswered = is
        ∙ ap (filter (λ (r : OpenDraft). not (same_imad r.imad imad))) kept.unanswered
        ∙ rows_less imad (open_drafts older)
        ∙ ap open_rows (sym (open_less older imad verdict));
    received = kept.received;
    numbered = kept.numbered;
    wanted_next = kept.wanted_next;
  }

  pub with_output : (at : OutPos) (text : List ℕ) (next : Option ℕ) → LawfulBank o (Received at text next ∷ older)
      → Kept o (Received at text next ∷ older) rows left (places ++ length older ∷ []) (count_after count next) (right_after at next)
  with_output at text None lawful =
      let date : at.date ≡ bank_cycle o older = ap (λ (p : OutPos). p.date) lawful.0.position in
      record {
        drafted = kept.drafted;
        unanswered = kept.unanswered;
        received = ap (λ (ps : List ℕ). ps ++ length older ∷ []) kept.received;
        numbered = kept.numbered;
        wanted_next = ap (λ (d : ℕ). record { date = d; seq = at.seq + 1 }) date;
      }
  with_output at text (Some next) lawful =
      let date : at.date ≡ bank_cycle o older = ap (λ (p : OutPos). p.date) lawful.0.position in
      let rising : at.date < next = lawful.0.date.0 in
      record {
        drafted = kept.drafted;
        unanswered = kept.unanswered;
        received = ap (λ (ps : List ℕ). ps ++ length older ∷ []) kept.received;
        numbered = sym (ap length (none_later o older next lawful.1 (omega (arith, date, rising))));
        wanted_next = refl;
      }
