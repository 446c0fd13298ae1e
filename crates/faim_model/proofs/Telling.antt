-- An acknowledgement of an entry tells its verdict, and one that turns a submission away tells none.
use Rattle.std.proofs.Common.{◌≡◌, ap, ℕ, true, Option, Some, None, Ok}
use Rattle.faim_base.specs.declared.ids.Imad.{Imad}
use Rattle.faim_base.specs.declared.judgement.Head.{Head}
use Rattle.faim_base.specs.declared.judgement.Reject.{Reject}
use Rattle.faim_base.specs.declared.judgement.Verdict.{Verdict}
use Rattle.faim_base.specs.declared.judgement.Verdict.TheVariants.{Taken, Refused}
use Rattle.faim_base.specs.Ids.{stamp_of}
use Rattle.faim_base.specs.Numbers.{IsMoment}
use Rattle.faim_base.specs.Ranges.{IsImad}
use Rattle.faim_base.proofs.IdLemmas.{read_imad-imad_text, read_omad-omad_text}
use Rattle.faim_edits.specs.Texts.{is_turned_away}
use Rattle.host_ledger.specs.Ranges.{IsVerdict}
use Rattle.faim_model.specs.Acks.{turned_ack, verdict_ack}
use Rattle.faim_model.specs.Readings.{imad_in, taken_as, verdict_in}
use Rattle.faim_model.proofs.Codes.{away_unread, refusal_read}
use Rattle.faim_model.proofs.Stamps.{stamp_sound}

pub tells_imad : (env : ℕ) (h : Head) (moment : ℕ) (v : Verdict) (mark : ℕ) → IsImad h.imad → imad_in (verdict_ack env h moment v mark) ≡ Ok h.imad
tells_imad env h moment (Taken dest seq) mark sound = read_imad-imad_text h.imad sound
tells_imad env h moment (Refused why) mark sound = read_imad-imad_text h.imad sound

pub tells_verdict : (env : ℕ) (h : Head) (moment : ℕ) (v : Verdict) (mark : ℕ) → IsImad h.imad → IsMoment moment → IsVerdict v
    → verdict_in (verdict_ack env h moment v mark) ≡ Some v
tells_verdict env h moment (Taken dest seq) mark sound in_calendar fits =
    ap taken_as (read_omad-omad_text (record { date = h.imad.date; dest = dest; seq = seq; stamp = stamp_of moment })
    (record { day = sound.day; receiver = fits.0; number = fits.1; moment = stamp_sound moment in_calendar }))
tells_verdict env h moment (Refused why) mark sound in_calendar kept = refusal_read why kept

pub tells_none : (env : ℕ) (why : Reject) (imad : Option Imad) (moment : ℕ) → is_turned_away why ≡ true → verdict_in (turned_ack env why imad moment) ≡ None
tells_none env why None moment away = away_unread why away
tells_none env why (Some imad) moment away = away_unread why away
