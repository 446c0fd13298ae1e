-- Which words of a command line are a command.
use Rattle.std.specs.Prelude.{ℕ, List, [], ◌∷◌, map, codes, string_bytes, String, Option, Some, None, if◌then◌else◌, ◌&&◌, bytes_eq}
use Rattle.std.specs.declared.alloc.Global.{Global}
use Rattle.faim_top.specs.declared.command.Command.{Command}
use Rattle.faim_top.specs.declared.command.Command.TheVariants.{Answer, HostInit, Host, BankInit, Bank}
use Rattle.faim_top.specs.declared.query.Query.TheVariants.{Check, Table, Replay}

-- the words as lists of bytes
abbrev pub texts : List (String Global) → List (List ℕ)
texts = map string_bytes

-- a command of one word
abbrev pub named : List ℕ → Option Command
named word =
    if bytes_eq word (codes "check") then Some (Answer Check)
    else (if bytes_eq word (codes "replay") then Some (Answer Replay) else None)

-- a session with a path, which may be any word: of a host, or of a bank
abbrev pub served : List ℕ → Option Command
served word = if bytes_eq word (codes "host") then Some Host else (if bytes_eq word (codes "bank") then Some Bank else None)

-- two words: the edit table by its number, there is table 1 alone; or a session
abbrev pub numbered : List ℕ → List ℕ → Option Command
numbered word number = if bytes_eq word (codes "table") && bytes_eq number (codes "1") then Some (Answer Table) else served word

-- an init with a path: of a host, or of a bank
abbrev pub made_of : List ℕ → Option Command
made_of word = if bytes_eq word (codes "host") then Some HostInit else (if bytes_eq word (codes "bank") then Some BankInit else None)

abbrev pub begun : List ℕ → List ℕ → Option Command
begun word init = if bytes_eq init (codes "init") then made_of word else None

-- commands are told apart by the count of their words first
abbrev pub command_of : List (List ℕ) → Option Command
command_of (word ∷ []) = named word
command_of (word ∷ number ∷ []) = numbered word number
command_of (word ∷ init ∷ path ∷ []) = begun word init
command_of words = None

-- the path of a command that has one
abbrev pub path_after : Option Command → List ℕ → Option (List ℕ)
path_after (Some HostInit) path = Some path
path_after (Some Host) path = Some path
path_after (Some BankInit) path = Some path
path_after (Some Bank) path = Some path
path_after other path = None

abbrev pub path_of : List (List ℕ) → Option (List ℕ)
path_of (word ∷ path ∷ []) = path_after (numbered word path) path
path_of (word ∷ init ∷ path ∷ []) = path_after (begun word init) path
path_of words = None
