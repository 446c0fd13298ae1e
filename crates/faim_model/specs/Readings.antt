-- What the messages of a host tell the endpoint that gets them.
use Rattle.std.specs.Prelude.{◌≡◌, ℕ, ◌&&◌, Bool, List, bytes_eq, if◌then◌else◌, Option, Some, None, option_map, Result, Ok, Err}
use Rattle.std.specs.List.{Contains, find}
use Rattle.faim_base.specs.declared.ids.IdFault.{IdFault}
use Rattle.faim_base.specs.declared.ids.Imad.{Imad}
use Rattle.faim_base.specs.declared.ids.Omad.{Omad}
use Rattle.faim_base.specs.declared.judgement.Head.{Head}
use Rattle.faim_base.specs.declared.judgement.Verdict.{Verdict}
use Rattle.faim_base.specs.declared.judgement.Verdict.TheVariants.{Taken, Refused}
use Rattle.faim_base.specs.Ids.{read_imad, read_omad}
use Rattle.faim_base.specs.Refusals.{is_recorded}
use Rattle.faim_tags.specs.Reading.{is_among}
use Rattle.faim_message.specs.Spelling.{Content, numbers}
use Rattle.faim_message.specs.Heads.{fixed_in}
use Rattle.faim_edits.specs.Printing.{refusal_code}
use Rattle.faim_edits.specs.Texts.{listed}
use Rattle.link_frames.specs.Frames.{Content as Frame}
use Rattle.host_ledger.specs.declared.config.Config.{Config}
use Rattle.host_ledger.specs.declared.entries.Entry.{Entry}
use Rattle.host_ledger.specs.declared.entries.Entry.TheVariants.{Posted}
use Rattle.faim_model.specs.Acks.{verdict_ack}
use Rattle.faim_model.specs.Frames.{IsAckMark}

-- the identifier that an acknowledgement names
abbrev pub imad_in : Content → Result Imad IdFault
imad_in m = read_imad (fixed_in m.tags 1520)

-- the output that an acknowledgement or an output names
abbrev pub omad_in : Content → Result Omad IdFault
omad_in m = read_omad (fixed_in m.tags 1120)

-- taken, with this output
abbrev pub taken_as : Result Omad IdFault → Option Verdict
taken_as (Ok o) = Some (Taken o.dest o.seq)
taken_as (Err fault) = None

-- refused, with the refusal of this letter and these digits, where an entry may keep it
abbrev pub refused_as : List ℕ → Option Verdict
refused_as code =
    option_map (λ l. Refused l.refusal) (find (λ l. is_recorded l.refusal && bytes_eq (refusal_code l.refusal) code) listed)

-- the verdict that an acknowledgement tells; none where it turns a submission away
abbrev pub verdict_in : Content → Option Verdict
verdict_in m = if is_among (numbers m.tags) 1120 then taken_as (omad_in m) else refused_as (fixed_in m.tags 1130)

-- an entry of the list has this verdict, and the frame has this acknowledgement of it, to the source of its message
pub record Acknowledges (c : Config) (es : List Entry) (v : Verdict) (f : Frame) (m : Content) : Type 0 where
  pub head : Head
  pub body : List ℕ
  pub resent : Bool
  pub moment : ℕ
  pub there : Contains es (Posted head body resent moment v)
  pub mark : ℕ
  pub marked : IsAckMark mark
  pub message : m ≡ verdict_ack c.env head moment v mark
  pub to_source : f.endpoint ≡ head.imad.source
