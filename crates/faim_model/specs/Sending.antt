-- What a host sends of its entries: at first, and again after a restart (docs/FORMATS.md, "What a host sends").
use Rattle.std.specs.Prelude.{ℕ, zero, suc, ◌==◌, Bool, ◌&&◌, List, [], ◌∷◌, ◌++◌, map, bytes_eq, slice_index, slice_set}
use Rattle.std.specs.List.{flat_map}
use Rattle.std.specs.Option.{option_to_list}
use Rattle.link_frames.specs.declared.frame.FrameKind.TheVariants.{Output}
use Rattle.link_frames.specs.Frames.{Content as Frame}
use Rattle.link_frames.specs.Kinds.{kind_byte}
use Rattle.host_ledger.specs.declared.config.Config.{Config}
use Rattle.host_ledger.specs.declared.entries.Entry.{Entry}
use Rattle.host_ledger.specs.Accounts.{endpoints_of}
use Rattle.faim_model.specs.Outputs.{item_of, outputs}
use Rattle.faim_model.specs.Frames.{ack_of, output}

-- what an entry gives an endpoint, with the entries before it, as frames with a mark
abbrev pub given_to : Config → List Entry → Entry → ℕ → List ℕ → List Frame
given_to c older x mark e = map (λ i. output c e i mark) (item_of c older (outputs c older e) x e)

-- the frames of an entry, with the entries before it: its acknowledgement, and then what it gives each endpoint, in the
-- configuration's order
abbrev pub frames_of : Config → List Entry → Entry → ℕ → List Frame
frames_of c older x mark = option_to_list (ack_of c mark x) ++ flat_map (given_to c older x mark) (endpoints_of c.accounts)

-- what is sent again after a restart: the frames of the last entries, so many of them, the oldest first, marked P
abbrev pub resume_frames : Config → List Entry → ℕ → List Frame
resume_frames c es zero = []
resume_frames c [] (suc r) = []
resume_frames c (x ∷ older) (suc r) = resume_frames c older r ++ frames_of c older x 80

-- a frame with a blank as its mark, which is byte 9 of an acknowledgement and of an output
abbrev pub unmarked : Frame → Frame
unmarked f = record f { payload = slice_set f.payload 9 32 }

-- an output to this endpoint that is sent for the first time: its mark is a blank
abbrev pub is_first_output : List ℕ → Frame → Bool
is_first_output e f = (kind_byte f.kind == kind_byte Output) && (bytes_eq f.endpoint e && (slice_index f.payload 9 == 32))
