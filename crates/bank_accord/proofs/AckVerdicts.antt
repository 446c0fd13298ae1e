-- What an acknowledgement of an entry tells a bank is the entry's verdict, and one that turns a submission away tells it nothing.
use Rattle.std.proofs.Common.{◌≡◌, refl, sym, ap, ◌∙◌, ℕ, ◌==◌, Bool, true, false, List, Option, Some, None}
use Rattle.std.specs.Prelude.{bytes_eq, if◌then◌else◌, Result, Ok, Err}
use Rattle.faim_base.specs.declared.ids.IdFault.{IdFault}
use Rattle.faim_base.specs.declared.ids.Imad.{Imad}
use Rattle.faim_base.specs.declared.ids.Omad.{Omad}
use Rattle.faim_base.specs.declared.judgement.Head.{Head}
use Rattle.faim_base.specs.declared.judgement.Reject.{Reject}
use Rattle.faim_base.specs.declared.judgement.Verdict.{Verdict}
use Rattle.faim_base.specs.declared.judgement.Verdict.TheVariants.{Taken, Refused}
use Rattle.faim_base.specs.Ids.{omad_text, read_omad, stamp_of}
use Rattle.faim_message.specs.Spelling.{Content}
use Rattle.faim_edits.specs.Texts.{is_turned_away}
use Rattle.bank_books.specs.declared.entries.BankOpening.{BankOpening}
use Rattle.faim_model.specs.Acks.{turned_ack, verdict_ack}
use Rattle.faim_model.specs.Readings.{imad_in}
use Rattle.faim_model.proofs.Codes.{away_unread, refusal_read}
use Rattle.faim_model.proofs.Telling.{tells_imad}
use Rattle.bank_turns.specs.AckTexts.{Told, env_in, taken_under, told_by, told_in, told_of, verdict_on}
use Rattle.bank_accord.proofs.HostRanges.{Fits}
use Rattle.bank_accord.proofs.NamedOutputs.{name_read}

-- the output that an accepted message got
abbrev output_of : Head → ℕ → List ℕ → ℕ → Omad
output_of h moment dest seq = record { date = h.imad.date; dest = dest; seq = seq; stamp = stamp_of moment }

-- a verdict that is read is the one that was written
taken_read : (h : Head) (moment : ℕ) (dest : List ℕ) (seq : ℕ) (u : Verdict) → Fits h (Taken dest seq) → (read : Result Omad IdFault)
    → read_omad (omad_text (output_of h moment dest seq)) ≡ read → taken_under h.imad read ≡ Some u → u ≡ Taken dest seq
taken_read h moment dest seq u fits (Err fault) is tells = absurd cc
taken_read h moment dest seq u fits (Ok o) is tells = go (o.date == h.imad.date) tells
  where
    go : (b : Bool) → (if b then Some (Taken o.dest o.seq) else None) ≡ Some u → u ≡ Taken dest seq
    go false tells = absurd cc
    go true tells =
        let own : Taken o.dest o.seq ≡ u = cc in
        let same = name_read (output_of h moment dest seq) o fits.imad.day fits.verdict.0 fits.verdict.1 is in
        sym own ∙ (λ k. Taken (same.dest k) (same.seq k))

verdict_read : (env : ℕ) (h : Head) (moment : ℕ) (v : Verdict) (mark : ℕ) (u : Verdict) → Fits h v
    → verdict_on h.imad (verdict_ack env h moment v mark) ≡ Some u → u ≡ v
verdict_read env h moment (Taken dest seq) mark u fits tells =
    taken_read h moment dest seq u fits (read_omad (omad_text (output_of h moment dest seq))) refl tells
verdict_read env h moment (Refused why) mark u fits tells =
    let read = refusal_read why fits.verdict in
    let both : Some (Refused why) ≡ Some u = sym read ∙ tells in cc

-- what is told is of this IMAD, with this verdict
pub record Tells (imad : Imad) (v : Verdict) (t : Told) : Type 0 where
  pub imad_is : t.imad ≡ imad
  pub verdict_is : t.verdict ≡ v

told_with : (imad : Imad) (v : Verdict) (found : Option Verdict) (t : Told) → ((u : Verdict) → found ≡ Some u → u ≡ v)
    → told_of imad found ≡ Some t → Tells imad v t
told_with imad v None t reads told = absurd cc
told_with imad v (Some u) t reads told =
    let same : record { imad = imad; verdict = u } ≡ t = cc in
    record { imad_is = ap (λ (s : Told). s.imad) (sym same); verdict_is = ap (λ (s : Told). s.verdict) (sym same) ∙ reads u refl }

told_named : (o : BankOpening) (imad : Imad) (v : Verdict) (m : Content) (t : Told) → ((u : Verdict) → verdict_on imad m ≡ Some u → u ≡ v)
    → told_by o m (Ok imad) ≡ Some t → Tells imad v t
told_named o imad v m t reads = go (bytes_eq imad.source o.endpoint)
  where
    go : (b : Bool) → (if b then told_of imad (verdict_on imad m) else None) ≡ Some t → Tells imad v t
    go false told = absurd cc
    go true told = told_with imad v (verdict_on imad m) t reads told

-- what a message tells it tells by its identifier
told_on : (o : BankOpening) (m : Content) (t : Told) → told_in o (Some m) ≡ Some t → told_by o m (imad_in m) ≡ Some t
told_on o m t = go (env_in m == o.env)
  where
    go : (b : Bool) → (if b then told_by o m (imad_in m) else None) ≡ Some t → told_by o m (imad_in m) ≡ Some t
    go false told = absurd cc
    go true told = told

-- an entry's acknowledgement tells its IMAD and its verdict, if anything
pub entry_told : (o : BankOpening) (env : ℕ) (h : Head) (moment : ℕ) (v : Verdict) (mark : ℕ) (t : Told) → Fits h v
    → told_in o (Some (verdict_ack env h moment v mark)) ≡ Some t → Tells h.imad v t
entry_told o env h moment v mark t fits told =
    let m = verdict_ack env h moment v mark in
    let named : imad_in m ≡ Ok h.imad = tells_imad env h moment v mark fits.imad in
    told_named o h.imad v m t (λ u. verdict_read env h moment v mark u fits)
    (sym (ap (told_by o m) named) ∙ told_on o m t told)

-- one that turns a submission away has no verdict
away_verdict : (env : ℕ) (why : Reject) (named : Option Imad) (moment : ℕ) (imad : Imad) → is_turned_away why ≡ true
    → verdict_on imad (turned_ack env why named moment) ≡ None
away_verdict env why None moment imad away = away_unread why away
away_verdict env why (Some own) moment imad away = away_unread why away

none_told : (o : BankOpening) (m : Content) (t : Told) → ((imad : Imad) → verdict_on imad m ≡ None) → (read : Result Imad IdFault)
    → told_by o m read ≡ Some t → ⊥
none_told o m t none (Err fault) told = absurd cc
none_told o m t none (Ok imad) told = go (bytes_eq imad.source o.endpoint) told
  where
    go : (b : Bool) → (if b then told_of imad (verdict_on imad m) else None) ≡ Some t → ⊥
    go false told = absurd cc
    go true told = let both : None ≡ Some t = sym (ap (told_of imad) (none imad)) ∙ told in absurd cc

pub turned_told : (o : BankOpening) (env : ℕ) (why : Reject) (named : Option Imad) (moment : ℕ) (t : Told) → is_turned_away why ≡ true
    → told_in o (Some (turned_ack env why named moment)) ≡ Some t → ⊥
turned_told o env why named moment t away told =
    let m = turned_ack env why named moment in
    none_told o m t (λ imad. away_verdict env why named moment imad away) (imad_in m) (told_on o m t told)
