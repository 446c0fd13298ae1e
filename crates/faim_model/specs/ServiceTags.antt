-- The tags that a host writes itself (docs/FORMATS.md, "What a host sends").
use Rattle.std.specs.Prelude.{ℕ, true, false, List, [], ◌∷◌, ◌++◌, codes}
use Rattle.std.specs.Option.{unwrap_or}
use Rattle.faim_base.specs.declared.ids.OutPos.{OutPos}
use Rattle.faim_base.specs.declared.judgement.Reject.{Reject}
use Rattle.faim_base.specs.Ids.{application, omad_text, stamp_of, stamp_text}
use Rattle.faim_tags.specs.Spelling.{Tag}
use Rattle.faim_edits.specs.Printing.{refusal_code}
use Rattle.faim_edits.specs.Texts.{text_of}

-- a tag of fixed elements alone
abbrev pub fixed_tag : ℕ → List ℕ → Tag
fixed_tag n fixed = record { no = n; fixed = fixed; stars = []; closed = false }

-- a tag of fixed elements and one star element, with its star
abbrev pub starred_tag : ℕ → List ℕ → List ℕ → Tag
starred_tag n fixed star = record { no = n; fixed = fixed; stars = star ∷ []; closed = true }

-- the format's version, test or production, the mark and the status
abbrev pub status_tag : ℕ → ℕ → ℕ → Tag
status_tag env mark status = fixed_tag 1100 (codes "30" ++ env ∷ mark ∷ status ∷ [])

-- the moment, as its stamp and the application
abbrev pub moment_tag : ℕ → Tag
moment_tag moment = fixed_tag 1110 (stamp_text (stamp_of moment) ++ application)

-- the output at a position to an endpoint, with the stamp of a moment
abbrev pub output_tag : OutPos → List ℕ → ℕ → Tag
output_tag at e moment = fixed_tag 1120 (omad_text (record { date = at.date; dest = e; seq = at.seq; stamp = stamp_of moment }))

-- the refusal and its text
abbrev pub refusal_tag : Reject → Tag
refusal_tag why = starred_tag 1130 (refusal_code why) (unwrap_or (text_of why) [])
