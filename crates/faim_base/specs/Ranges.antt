-- The ranges of the parts of identifiers (docs/FORMATS.md, "Identifiers").
use Rattle.std.specs.Prelude.{◌≡◌, ℕ, List, length, IsTrue}
use Rattle.faim_base.specs.Numbers.{IsDay, IsSeq}
use Rattle.faim_base.specs.Text.{is_endpoint, is_aba}
use Rattle.faim_base.specs.Ids.{is_stamp}
use Rattle.faim_base.specs.declared.ids.Imad.{Imad}
use Rattle.faim_base.specs.declared.ids.Omad.{Omad}
use Rattle.faim_base.specs.declared.ids.OutPos.{OutPos}

-- eight bytes that may stand in a name
abbrev pub IsEndpoint : List ℕ → Type 0
IsEndpoint bytes = (length bytes ≡ 8) × IsTrue (is_endpoint bytes)

-- nine digits
abbrev pub IsAba : List ℕ → Type 0
IsAba bytes = (length bytes ≡ 9) × IsTrue (is_aba bytes)

pub record IsImad (i : Imad) : Type 0 where
  pub day : IsDay i.date
  pub sender : IsEndpoint i.source
  pub number : IsSeq i.seq

pub record IsPosition (p : OutPos) : Type 0 where
  pub day : IsDay p.date
  pub number : IsSeq p.seq

pub record IsOmad (o : Omad) : Type 0 where
  pub day : IsDay o.date
  pub receiver : IsEndpoint o.dest
  pub number : IsSeq o.seq
  pub moment : IsTrue (is_stamp o.stamp)
