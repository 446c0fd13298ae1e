-- How a host acknowledges a submission (docs/FORMATS.md, "What a host sends").
use Rattle.std.specs.Prelude.{ℕ, List, [], ◌∷◌, if◌then◌else◌, Option, Some, None}
use Rattle.faim_base.specs.declared.ids.Imad.{Imad}
use Rattle.faim_base.specs.declared.judgement.Head.{Head}
use Rattle.faim_base.specs.declared.judgement.Reject.{Reject}
use Rattle.faim_base.specs.declared.judgement.Verdict.{Verdict}
use Rattle.faim_base.specs.declared.judgement.Verdict.TheVariants.{Taken, Refused}
use Rattle.faim_base.specs.Ids.{imad_text}
use Rattle.faim_tags.specs.Spelling.{Tag}
use Rattle.faim_message.specs.declared.form.Form.TheVariants.{Ack}
use Rattle.faim_message.specs.declared.form.Breaks.TheVariants.{Joined}
use Rattle.faim_message.specs.Spelling.{Content}
use Rattle.faim_message.specs.Numbering.{imad_tag}
use Rattle.host_ledger.specs.Sums.{moves_money}
use Rattle.faim_model.specs.ServiceTags.{moment_tag, output_tag, refusal_tag, status_tag}

-- the status: 2 where a message was taken that moves money, 7 where one was that moves none, and 3 where it was refused
abbrev pub ack_status : Head → Verdict → ℕ
ack_status h (Taken dest seq) = if moves_money h then 50 else 55
ack_status h (Refused why) = 51

-- what became of a message at a moment: an output, under the message's date, or a refusal
abbrev pub verdict_tag : Head → ℕ → Verdict → Tag
verdict_tag h moment (Taken dest seq) = output_tag (record { date = h.imad.date; seq = seq }) dest moment
verdict_tag h moment (Refused why) = refusal_tag why

-- the identifier, where there is one
abbrev pub imad_tags : Option Imad → List Tag
imad_tags None = []
imad_tags (Some imad) = imad_tag (imad_text imad) ∷ []

-- tags as an acknowledgement, joined
abbrev pub acknowledging : List Tag → Content
acknowledging tags = record { form = Ack; breaks = Joined; tags = tags }

-- the acknowledgement of a message that got a verdict at a moment, with a mark
abbrev pub verdict_ack : ℕ → Head → ℕ → Verdict → ℕ → Content
verdict_ack env h moment v mark =
    acknowledging (status_tag env mark (ack_status h v) ∷ moment_tag moment ∷ verdict_tag h moment v ∷ imad_tags (Some h.imad))

-- the acknowledgement of a submission that was turned away at a moment: it is refused, with a blank as the mark
abbrev pub turned_ack : ℕ → Reject → Option Imad → ℕ → Content
turned_ack env why imad moment =
    acknowledging (status_tag env 32 51 ∷ moment_tag moment ∷ refusal_tag why ∷ imad_tags imad)
