-- What the objects of a run tell, before it and after it.
use Rattle.std.specs.Prelude.{ℕ, List, Option}
use Rattle.site_core.specs.Told.{Told}
use Rattle.node_session.specs.Views.{View}
use Rattle.faim_top.specs.Ends.{Streams}
use Rattle.faim_top.specs.Seen.{Seen}

-- the bytes that the input has left and those that the output has taken, what the site did, and the readings that the clock has
-- given, each where it is told
pub record Views : Type 0 where
  pub left : Seen (Option (List ℕ))
  pub written : Seen (Option (List ℕ))
  pub site : Seen (Option Told)
  pub given : Seen (Option (List ℕ))

-- the input and the output alone
abbrev pub streams_of : Views → Streams
streams_of v = record { left = v.left; written = v.written }

-- what a session's objects tell at first, and at last
abbrev pub first_view : Views → View
first_view v = record { left = v.left.before; given = v.given.before; site = v.site.before }

abbrev pub last_view : Views → View
last_view v = record { left = v.left.after; given = v.given.after; site = v.site.after }
