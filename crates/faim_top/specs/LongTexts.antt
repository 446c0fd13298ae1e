-- The laws that texts with more bytes than they may have are no openings, for which the inits of both ends ask.
use Rattle.std.specs.Prelude.{◌≡◌, ℕ, ◌<◌, List, length, Err}
use Rattle.world_text.specs.declared.script.Why.TheVariants.{Size}
use Rattle.world_text.specs.Grammar.{size_limit}
use Rattle.world_text.proofs.SizeLimits.{too_long_bank, too_long_config}
use Rattle.faim_top.specs.Inits.{Made, bank_made, host_made}

-- a text that has more bytes than it may is none, for its size
abbrev pub LongTextsAreNone : {O E : Type 0} → Made O E → Type 0
LongTextsAreNone made = (text : List ℕ) → size_limit < length text → made.opening_of text ≡ Err (record { line = 0; why = Size })

pub long_configs : LongTextsAreNone host_made
long_configs = too_long_config

pub long_bank_texts : LongTextsAreNone bank_made
long_bank_texts = too_long_bank
