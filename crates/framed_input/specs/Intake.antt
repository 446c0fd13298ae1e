-- What a reader of frames has taken from its source.
use Rattle.std.specs.Prelude.{ℕ, ◌-◌, List, take, drop}

-- the bytes that were taken and not handed out, without those beyond the limit of an input; and how many were taken in all
pub record Intake : Type 0 where
  pub held : List ℕ
  pub taken : ℕ

-- what stands between two places of a buffer
abbrev pub part : List ℕ → ℕ → ℕ → List ℕ
part buffer start end = take (end - start) (drop start buffer)
