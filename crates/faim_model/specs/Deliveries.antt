-- What an endpoint gets as an output (docs/FORMATS.md, "What a host sends").
use Rattle.std.specs.Prelude.{ℕ, Bool, List, [], ◌∷◌, ◌++◌, codes, if◌then◌else◌}
use Rattle.std.specs.Option.{unwrap_or}
use Rattle.faim_base.specs.Calendar.{date_text}
use Rattle.faim_tags.specs.Spelling.{Tag}
use Rattle.faim_message.specs.declared.form.Form.TheVariants.{Input, Output}
use Rattle.faim_message.specs.declared.form.Breaks.{Breaks}
use Rattle.faim_message.specs.declared.form.Breaks.TheVariants.{Joined}
use Rattle.faim_message.specs.Decoded.{decoded}
use Rattle.faim_message.specs.Spelling.{Content, marked_with}
use Rattle.host_ledger.specs.declared.entries.Entry.{Entry}
use Rattle.host_ledger.specs.declared.entries.Entry.TheVariants.{Posted, Roll}
use Rattle.host_ledger.specs.Sums.{moves_money}
use Rattle.faim_model.specs.Outputs.{Item}
use Rattle.faim_model.specs.Lawful.{moment_of}
use Rattle.faim_model.specs.ServiceTags.{moment_tag, output_tag, starred_tag, status_tag}

-- the status: N where a message moves money, S where it moves none, and E where a cycle ends
abbrev pub output_status : Entry → ℕ
output_status (Posted h body resent moment v) = if moves_money h then 78 else 83
output_status (Roll moment date) = 69

-- what stands for the submission where a body spells none
abbrev pub empty_message : Content
empty_message = record { form = Input; breaks = Joined; tags = [] }

-- the submission that a body spells; its mark is P where the entry is resent, and else a blank
abbrev pub posted_message : List ℕ → Bool → Content
posted_message body resent = marked_with (if resent then 80 else 32) (unwrap_or (decoded Input body) empty_message)

-- the new date, where a cycle ends
abbrev pub next_tag : ℕ → Tag
next_tag date = starred_tag 9000 [] (codes "NEXT " ++ date_text date)

-- what is delivered after a host's own tags: a submission, or the new date
abbrev pub delivered_tags : Entry → List Tag
delivered_tags (Posted h body resent moment v) = (posted_message body resent).tags
delivered_tags (Roll moment date) = next_tag date ∷ []

-- what stands between all tags: what the submission has there; the end of a cycle is joined
abbrev pub delivered_breaks : Entry → Breaks
delivered_breaks (Posted h body resent moment v) = (posted_message body resent).breaks
delivered_breaks (Roll moment date) = Joined

-- a host's own three tags: the status, the moment of the entry, and the output that the item is
abbrev pub host_tags : ℕ → List ℕ → Item → ℕ → List Tag
host_tags env e i mark =
    status_tag env mark (output_status i.entry) ∷ moment_tag (moment_of i.entry) ∷ output_tag i.at e (moment_of i.entry) ∷ []

-- an item of an endpoint as an output, with a mark
abbrev pub output_message : ℕ → List ℕ → Item → ℕ → Content
output_message env e i mark = record {
  form = Output;
  breaks = delivered_breaks i.entry;
  tags = host_tags env e i mark ++ delivered_tags i.entry;
}
