-- Which texts are scripts and which are configurations, and the first fault of any other (docs/FORMATS.md, "Scripts").
use Rattle.std.specs.Prelude.{ℕ, ◌+◌, ◌*◌, ◌==◌, ◌&&◌, ◌||◌, not, nat_le, Bool, List, [], ◌∷◌, ◌++◌, length, codes, bytes_eq, is_some, ok_or, Result, Ok, Err, if◌then◌else◌}
use Rattle.faim_base.specs.Ids.{◌>>=◌}
use Rattle.host_ledger.specs.declared.config.Account.{Account}
use Rattle.host_ledger.specs.declared.config.Config.{Config}
use Rattle.host_ledger.specs.Accounts.{account_in, has_endpoint, endpoints_of}
use Rattle.host_ledger.specs.Soundness.{account_limit, endpoint_limit, operator}
use Rattle.world_text.specs.declared.script.Script.{Script}
use Rattle.world_text.specs.declared.script.Event.{Event}
use Rattle.world_text.specs.declared.script.Act.TheVariants.{Clock, Submit, Retrieve}
use Rattle.world_text.specs.declared.script.Why.{Why}
use Rattle.world_text.specs.declared.script.Why.TheVariants.{Shape, Value, Twice, Place, Limit, Ended, Size}
use Rattle.world_text.specs.declared.script.ScriptFault.{ScriptFault}
use Rattle.world_text.specs.Lines.{lines_of, first_word, words_of}
use Rattle.world_text.specs.Fields.{env_word, date_word, time_word, cutoff_word, endpoint_word, aba_word, cents_word, seq_word}

-- what a text may have at most, in bytes
abbrev pub size_limit : ℕ
size_limit = 67_108_864

-- what a submitted text may have at most, in bytes
abbrev pub text_limit : ℕ
text_limit = 8_192

-- a line's reason becomes a fault at its number
abbrev pub at_line : {A : Type 0} → ℕ → Result A Why → Result A ScriptFault
at_line n (Ok x) = Ok x
at_line n (Err why) = Err (record { line = n; why = why })

-- the configuration that a `host` line begins, with no accounts yet
abbrev pub host_values : List ℕ → List ℕ → List ℕ → List ℕ → Result Config Why
host_values env date customer bank = do
  e ← ok_or (env_word env) Value
  d ← ok_or (date_word date) Value
  c ← ok_or (cutoff_word customer) Value
  b ← ok_or (cutoff_word bank) Value
  Ok (record { env = e; date = d; customer = c; bank = b; accounts = [] })

abbrev pub host_words : List (List ℕ) → Result Config Why
host_words (name ∷ env ∷ date ∷ customer ∷ bank ∷ []) = if bytes_eq name (codes "host") then host_values env date customer bank else Err Shape
host_words words = Err Shape

abbrev pub host_line : List ℕ → Result Config Why
host_line line = host_words (words_of 5 line)

abbrev pub account_values : List ℕ → List ℕ → List ℕ → List ℕ → Result Account Why
account_values aba endpoint opening floor = do
  a ← ok_or (aba_word aba) Value
  e ← ok_or (endpoint_word endpoint) Value
  o ← ok_or (cents_word opening) Value
  f ← ok_or (cents_word floor) Value
  Ok (record { aba = a; endpoint = e; opening = o; floor = f })

abbrev pub account_words : List (List ℕ) → Result Account Why
account_words (name ∷ aba ∷ endpoint ∷ opening ∷ floor ∷ []) = if bytes_eq name (codes "account") then account_values aba endpoint opening floor else Err Shape
account_words words = Err Shape

-- one account more than there may be, or one endpoint more
abbrev pub is_over_limit : List Account → Account → Bool
is_over_limit before a = nat_le account_limit (length before) || (not (has_endpoint before a.endpoint) && nat_le endpoint_limit (length (endpoints_of before)))

-- an account may stand after those before it
abbrev pub account_beside : List Account → Account → Result Account Why
account_beside before a =
    if is_some (account_in before a.aba) then Err Twice
    else if bytes_eq a.endpoint operator then Err Place
    else if is_over_limit before a then Err Limit
    else Ok a

abbrev pub account_line : List Account → List ℕ → Result Account Why
account_line before line = do
  a ← account_words (words_of 5 line)
  account_beside before a

-- the line `begin`, after at least one account
abbrev pub is_begin : List Account → List ℕ → Bool
is_begin before line = not (length before == 0) && bytes_eq line (codes "begin")

abbrev pub submit_values : List ℕ → List ℕ → Result Event Why
submit_values endpoint text = do
  e ← ok_or (endpoint_word endpoint) Value
  if nat_le (length text) text_limit then Ok (record { act = Submit e text }) else Err Value

abbrev pub submit_words : List (List ℕ) → Result Event Why
submit_words (name ∷ endpoint ∷ text ∷ []) = submit_values endpoint text
submit_words words = Err Shape

abbrev pub retrieve_values : List ℕ → List ℕ → List ℕ → Result Event Why
retrieve_values endpoint date seq = do
  e ← ok_or (endpoint_word endpoint) Value
  d ← ok_or (date_word date) Value
  n ← ok_or (seq_word seq) Value
  Ok (record { act = Retrieve e (record { date = d; seq = n }) })

abbrev pub retrieve_words : List (List ℕ) → Result Event Why
retrieve_words (name ∷ endpoint ∷ date ∷ seq ∷ []) = retrieve_values endpoint date seq
retrieve_words words = Err Shape

-- what a clock reads, as a moment
abbrev pub clock_values : List ℕ → List ℕ → Result Event Why
clock_values date time = do
  d ← ok_or (date_word date) Value
  m ← ok_or (time_word time) Value
  Ok (record { act = Clock (1440 * d + m) })

abbrev pub clock_words : List (List ℕ) → Result Event Why
clock_words (name ∷ date ∷ time ∷ []) = clock_values date time
clock_words words = Err Shape

-- an event, by its first word
abbrev pub event_named : List ℕ → List ℕ → Result Event Why
event_named name line =
    if bytes_eq name (codes "submit") then submit_words (words_of 2 line)
    else if bytes_eq name (codes "retrieve") then retrieve_words (words_of 4 line)
    else if bytes_eq name (codes "clock") then clock_words (words_of 3 line)
    else Err Shape

abbrev pub event_line : List ℕ → Result Event Why
event_line line = event_named (first_word line) line

-- the events after those before them, of which the first stands on line n
abbrev pub events_from : List Event → ℕ → List (List ℕ) → Result (List Event) ScriptFault
events_from before n [] = Ok before
events_from before n (line ∷ lines) = do
  event ← at_line n (event_line line)
  events_from (before ++ event ∷ []) (n + 1) lines

abbrev pub script_from : Config → ℕ → List (List ℕ) → Result Script ScriptFault
script_from c n lines = do
  events ← events_from [] n lines
  Ok (record { config = c; events = events })

-- the configuration that the first lines of a text give, the number of the line after them, and the lines that are left
pub record FirstLines : Type 0 where
  pub config : Config
  pub next : ℕ
  pub rest : List (List ℕ)

-- the accounts after those before them, up to `begin` or to the end
abbrev pub accounts_from : Config → List Account → ℕ → List (List ℕ) → Result FirstLines ScriptFault
accounts_from c before n [] = Ok (record { config = record c { accounts = before }; next = n; rest = [] })
accounts_from c before n (line ∷ lines) =
    if is_begin before line then Ok (record { config = record c { accounts = before }; next = n; rest = line ∷ lines })
    else do
      a ← at_line n (account_line before line)
      accounts_from c (before ++ a ∷ []) (n + 1) lines

-- the first line of a text, and the lines after it
pub record TextLines : Type 0 where
  pub first : List ℕ
  pub others : List (List ℕ)

-- every text has at least one line
abbrev pub some_lines : List (List ℕ) → Result TextLines ScriptFault
some_lines [] = Err (record { line = 1; why = Ended })
some_lines (line ∷ lines) = Ok (record { first = line; others = lines })

-- the lines of a text that has no more bytes than it may
abbrev pub text_lines : List ℕ → Result TextLines ScriptFault
text_lines text = if nat_le (length text) size_limit then some_lines (lines_of text) else Err (record { line = 0; why = Size })

-- one `host` line, and accounts
abbrev pub first_lines : List ℕ → Result FirstLines ScriptFault
first_lines text = do
  lines ← text_lines text
  c ← at_line 1 (host_line lines.first)
  accounts_from c [] 2 lines.others

-- a script goes on with `begin` and its events
abbrev pub script_after : Config → ℕ → List (List ℕ) → Result Script ScriptFault
script_after c n [] = Err (record { line = n; why = Ended })
script_after c n (begins ∷ lines) = script_from c (n + 1) lines

-- the script that a text is, or its first fault
abbrev pub script_of : List ℕ → Result Script ScriptFault
script_of text = do
  first ← first_lines text
  script_after first.config first.next first.rest

-- the text of a configuration ends after at least one account
abbrev pub config_after : Config → ℕ → List (List ℕ) → Result Config ScriptFault
config_after c n [] = if length c.accounts == 0 then Err (record { line = n; why = Ended }) else Ok c
config_after c n (more ∷ lines) = Err (record { line = n; why = Shape })

-- the configuration that a text is, or its first fault
abbrev pub config_of : List ℕ → Result Config ScriptFault
config_of text = do
  first ← first_lines text
  config_after first.config first.next first.rest
