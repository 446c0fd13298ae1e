-- What each command says of a run, and which objects it uses.
use Rattle.std.specs.Prelude.{ℕ, ◌+◌, Bool, true, false, Option, Some, None, IfSome}
use Rattle.framed_input.specs.Limits.{greatest_input}
use Rattle.world_text.specs.BankText.{bank_of}
use Rattle.world_text.specs.Grammar.{config_of, size_limit}
use Rattle.bank_session.specs.BankKind.{bank_kind}
use Rattle.host_session.specs.HostKind.{host_kind}
use Rattle.faim_top.specs.declared.command.Command.{Command}
use Rattle.faim_top.specs.declared.command.Command.TheVariants.{Answer, HostInit, Host, BankInit, Bank}
use Rattle.faim_top.specs.declared.query.Query.TheVariants.{Table}
use Rattle.faim_top.specs.declared.status.Status.{Status}
use Rattle.faim_top.specs.Ends.{Ended, IsAnswered, input_of, most_read}
use Rattle.faim_top.specs.Inits.{InitAnswer, InitEnded, bank_made, host_made}
use Rattle.faim_top.specs.Sessions.{SessionAnswer, SessionEnded}
use Rattle.faim_top.specs.Views.{Views, streams_of}

-- what each status of a command says of what its objects tell
abbrev pub Carried : Command → Status → Views → Type 0
Carried (Answer query) status v = Ended query status (streams_of v)
Carried HostInit status v = InitEnded host_made status v
Carried BankInit status v = InitEnded bank_made status v
Carried Host status v = SessionEnded host_kind status v
Carried Bank status v = SessionEnded bank_kind status v

-- how many bytes of an input a command reads at most
abbrev pub most_taken : Command → ℕ
most_taken (Answer query) = most_read query
most_taken HostInit = size_limit + 1
most_taken BankInit = size_limit + 1
most_taken Host = greatest_input + 1
most_taken Bank = greatest_input + 1

-- what is answered where no call fails and memory is there
abbrev pub Completed : Command → Status → Views → Type 0
Completed (Answer query) status v = IfSome (input_of query v.left.before) (IsAnswered query status)
Completed HostInit status v = IfSome v.left.before (λ text. InitAnswer (config_of text) v.site.before status)
Completed BankInit status v = IfSome v.left.before (λ text. InitAnswer (bank_of text) v.site.before status)
Completed Host status v = SessionAnswer status
Completed Bank status v = SessionAnswer status

-- a command uses the input, the output, the site, the clock; words that are no command use none of them
abbrev pub uses_input : Option Command → Bool
uses_input (Some (Answer Table)) = false
uses_input (Some other) = true
uses_input None = false

abbrev pub uses_output : Option Command → Bool
uses_output (Some (Answer query)) = true
uses_output (Some HostInit) = true
uses_output (Some BankInit) = true
uses_output (Some Host) = false
uses_output (Some Bank) = false
uses_output None = false

abbrev pub uses_site : Option Command → Bool
uses_site (Some (Answer query)) = false
uses_site (Some HostInit) = true
uses_site (Some BankInit) = true
uses_site (Some Host) = true
uses_site (Some Bank) = true
uses_site None = false

abbrev pub uses_clock : Option Command → Bool
uses_clock (Some Host) = true
uses_clock other = false

-- a command makes a journal
abbrev pub makes_journal : Option Command → Bool
makes_journal (Some HostInit) = true
makes_journal (Some BankInit) = true
makes_journal other = false
