-- What an act is about: the clock, a frame that the host or a bank takes, or an end that is resumed.
use Rattle.std.specs.Prelude.{ℕ, zero, suc, List, [], bytes_eq, filter, slice_get, Option, Some, None}
use Rattle.faim_base.specs.Calendar.{date_text}
use Rattle.link_frames.specs.declared.frame.FrameKind.{FrameKind}
use Rattle.link_frames.specs.Frames.{Content as Frame}
use Rattle.host_ledger.specs.Soundness.{operator}
use Rattle.faim_model.specs.Steps.{HostStep, host_step}
use Rattle.bank_turns.specs.Drafting.{retrieve}
use Rattle.bank_turns.specs.BankSteps.{BankStep, bank_step}
use Rattle.world_events.specs.declared.acts.Act.{Act}
use Rattle.world_events.specs.declared.acts.Act.TheVariants.{Clock, Submit, Retrieve, Draft, Tick, Roll, Deliver, Restart}
use Rattle.world_events.specs.declared.acts.End.TheVariants.{Host, Bank}
use Rattle.world_model.specs.Worlds.{World, opening_at}

pub data Effect : Type 0 where
  -- the clock reads this moment
  Sets : (moment : ℕ) → Effect
  -- no frame was sent that has the number
  Missing : Effect
  -- the host takes a frame; the bank of this endpoint does
  AtHost : HostStep → Effect
  AtBank : (e : List ℕ) → BankStep → Effect
  -- the host is resumed; the bank of this endpoint is
  ResumesHost : Effect
  ResumesBank : (e : List ℕ) → Effect

-- a frame over the line of an endpoint
abbrev pub on_line : FrameKind → List ℕ → List ℕ → Frame
on_line kind e payload = record { kind = kind; endpoint = e; payload = payload }

-- the frames to an endpoint, in their order
abbrev pub sent_to : List ℕ → List Frame → List Frame
sent_to e frames = filter (λ (f : Frame). bytes_eq f.endpoint e) frames

-- the frame with a number, the first having 1
abbrev pub numbered : List Frame → ℕ → Option Frame
numbered frames zero = None
numbered frames (suc place) = slice_get frames place

-- the host takes a frame at what the clock reads
abbrev pub at_host : World → Frame → Effect
at_host w f = AtHost (host_step w.config w.entries f w.moment)

-- the bank of an endpoint takes one
abbrev pub at_bank : World → List ℕ → Frame → Effect
at_bank w e f = AtBank e (bank_step (opening_at w.config e) (w.books e) f)

-- an end takes a frame, where there is one
abbrev pub taken : (Frame → Effect) → Option Frame → Effect
taken takes None = Missing
taken takes (Some f) = takes f

-- a delivery hands on a frame that was sent; the other acts bring a frame of their own
abbrev pub effect : World → Act → Effect
effect w (Clock moment) = Sets moment
effect w (Submit line text) = at_host w (on_line FrameKind.Submit line text)
effect w (Retrieve line at) = at_host w (retrieve line at)
effect w (Roll date) = at_host w (on_line FrameKind.Roll operator (date_text date))
effect w (Draft bank text) = at_bank w bank (on_line FrameKind.Draft bank text)
effect w (Tick bank) = at_bank w bank (on_line FrameKind.Tick bank [])
effect w (Deliver Host number) = taken (at_host w) (numbered w.to_host number)
effect w (Deliver (Bank e) number) = taken (at_bank w e) (numbered (sent_to e w.from_host) number)
effect w (Restart Host) = ResumesHost
effect w (Restart (Bank e)) = ResumesBank e
