-- A text that has more bytes than it may.
use Rattle.std.proofs.Common.{◌≡◌, ℕ, ◌<◌, Bool, true, false, List, [], length, ap, refl, arith}
use Rattle.std.specs.Prelude.{Result, Err, nat_le, if◌then◌else◌}
use Rattle.std.proofs.lemmas.Bool.Decides.{nat_tests}
use Rattle.faim_base.specs.Ids.{◌>>=◌}
use Rattle.world_text.specs.declared.script.ScriptFault.{ScriptFault}
use Rattle.world_text.specs.declared.script.Why.TheVariants.{Size}
use Rattle.world_text.specs.BankText.{bank_after, bank_line, bank_of}
use Rattle.world_text.specs.Grammar.{FirstLines, TextLines, accounts_from, at_line, config_after, config_of, first_lines, host_line, script_after, script_of, size_limit, some_lines, text_lines}
use Rattle.world_text.specs.Lines.{lines_of}

over_limit : (b : Bool) (read : Result TextLines ScriptFault) → b ≡ false → (if b then read else Err (record { line = 0; why = Size })) ≡ Err (record { line = 0; why = Size })
over_limit true read e = absurd cc
over_limit false read e = refl

lines_too_long : (text : List ℕ) → size_limit < length text → text_lines text ≡ Err (record { line = 0; why = Size })
lines_too_long text long = over_limit (nat_le (length text) size_limit) (some_lines (lines_of text)) (grind (arith, nat_tests))

first_too_long : (text : List ℕ) → size_limit < length text → first_lines text ≡ Err (record { line = 0; why = Size })
first_too_long text long = ap (λ (r : Result TextLines ScriptFault). r >>= (λ l. at_line 1 (host_line l.first) >>= (λ c. accounts_from c [] 2 l.others))) (lines_too_long text long)

-- it is no script for its size
pub too_long : (text : List ℕ) → size_limit < length text → script_of text ≡ Err (record { line = 0; why = Size })
too_long text long = ap (λ (r : Result FirstLines ScriptFault). r >>= (λ f. script_after f.config f.next f.rest)) (first_too_long text long)

-- and no configuration
pub too_long_config : (text : List ℕ) → size_limit < length text → config_of text ≡ Err (record { line = 0; why = Size })
too_long_config text long = ap (λ (r : Result FirstLines ScriptFault). r >>= (λ f. config_after f.config f.next f.rest)) (first_too_long text long)

-- and no text of a bank
pub too_long_bank : (text : List ℕ) → size_limit < length text → bank_of text ≡ Err (record { line = 0; why = Size })
too_long_bank text long = ap (λ (r : Result TextLines ScriptFault). r >>= (λ l. at_line 1 (bank_line l.first) >>= (λ o. bank_after o l.others))) (lines_too_long text long)
