-- What was read of a text is sound, where every value of such a text is.
use Rattle.std.proofs.Common.{◌≡◌, ℕ, List}
use Rattle.std.specs.Prelude.{Result, Ok, Err, IfOk}
use Rattle.world_text.specs.declared.script.ScriptFault.{ScriptFault}
use Rattle.world_text.specs.declared.script.ScriptRefused.{ScriptRefused}
use Rattle.world_text.specs.Reading.{ReadsText}

pub sound_where_read : {A : Type 0} (Sound : A → Type 0) (value_of : List ℕ → Result A ScriptFault) → ((text : List ℕ) (x : A) → value_of text ≡ Ok x → Sound x)
    → (text : List ℕ) (read : Result A ScriptRefused) → ReadsText read (value_of text) → IfOk read Sound
sound_where_read Sound value_of sound text (Ok x) is = sound text x is
sound_where_read Sound value_of sound text (Err refused) is = tt
