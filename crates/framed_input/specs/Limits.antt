-- How much is read.
use Rattle.std.specs.Prelude.{ℕ, ◌^◌}

-- how many bytes an input has at most
abbrev pub greatest_input : ℕ
greatest_input = 2 ^ 40

-- how many bytes one read asks for at most
abbrev pub greatest_piece : ℕ
greatest_piece = 4_096
