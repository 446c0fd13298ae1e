-- A node's journal is made of a text: a host's of a configuration, a bank's of its opening.
use Rattle.std.specs.Prelude.{◌≡◌, ◌≢◌, ℕ, List, [], Bool, true, false, Option, IfSome, Result, Ok, Err}
use Rattle.std.specs.Io.KnownBytes.{Appends, IsAtEnd, Keeps}
use Rattle.site_core.specs.Log.{reads, sent, NothingPending}
use Rattle.site_core.specs.Told.{Told, Goes, HasReason}
use Rattle.site_core.specs.Told.Part.{Disk}
use Rattle.bank_books.specs.declared.entries.BankEntry.{BankEntry}
use Rattle.bank_books.specs.declared.entries.BankOpening.{BankOpening}
use Rattle.bank_node.specs.BankRules.{bank_rules}
use Rattle.host_ledger.specs.declared.config.Config.{Config}
use Rattle.host_ledger.specs.declared.entries.Entry.{Entry}
use Rattle.host_node.specs.HostList.{host_rules}
use Rattle.journaled_list.specs.Payloads.{Stands}
use Rattle.journaled_list.specs.Rules.{Rules}
use Rattle.world_text.specs.declared.script.ScriptFault.{ScriptFault}
use Rattle.world_text.specs.BankText.{bank_of}
use Rattle.world_text.specs.Grammar.{config_of}
use Rattle.world_text.specs.Report.{fault_line}
use Rattle.faim_top.specs.declared.status.Status.{Status}
use Rattle.faim_top.specs.declared.status.Status.TheVariants.{Done, Refused, NoMemory, ReadFault, WriteFault, DiskFault, NoJournal}
use Rattle.faim_top.specs.declared.status.Reason.TheVariants.{Script}
use Rattle.faim_top.specs.Ends.{AppendsPart}
use Rattle.faim_top.specs.Seen.{Seen}
use Rattle.faim_top.specs.Views.{Views}

-- what an init makes: the opening that a text is, or its first fault, and the list that a journal keeps from that opening on
pub record Made (O E : Type 0) : Type 1 where
  pub opening_of : List ℕ → Result O ScriptFault
  pub rules : Rules O E

-- a host, of the text of a configuration
abbrev pub host_made : Made Config Entry
host_made = record { opening_of = config_of; rules = host_rules }

-- a bank, of its text
abbrev pub bank_made : Made BankOpening BankEntry
bank_made = record { opening_of = bank_of; rules = bank_rules }

-- the text of an input, where it is known, is this opening; or it is none, for this reason
abbrev pub IsTextOf : {O E : Type 0} → Made O E → Option (List ℕ) → O → Type 0
IsTextOf made left o = IfSome left (λ text. made.opening_of text ≡ Ok o)

abbrev pub IsTextWith : {O E : Type 0} → Made O E → Option (List ℕ) → ScriptFault → Type 0
IsTextWith made left fault = IfSome left (λ text. made.opening_of text ≡ Err fault)

-- the disk was empty, and its image stands for the opening without entries; nothing is pending, and nothing was sent
pub record IsMade {O E : Type 0} (made : Made O E) (o : O) (old new : Told) : Type 0 where
  pub empty : reads old.log ≡ []
  pub stands : Stands made.rules (reads new.log) (record { opening = o; entries = [] }) 0
  pub pending : NothingPending new.log
  pub unsent : sent new.log ≡ sent old.log

-- the disk wasn't empty, and it stays as it was; nothing was sent
pub record IsTaken (old new : Told) : Type 0 where
  pub some : reads old.log ≢ []
  pub image : reads new.log ≡ reads old.log
  pub unsent : sent new.log ≡ sent old.log

-- a call of the disk failed; nothing was sent
pub record IsBroken (old new : Told) : Type 0 where
  pub unsent : sent new.log ≡ sent old.log
  pub reason : HasReason Disk old new

-- what each status of an init says of what was read, of what was written, and of the site
abbrev pub InitEnded : {O E : Type 0} → Made O E → Status → Views → Type 0
InitEnded {O = O} made Done v = ((o : O) × IsTextOf made v.left.before o × Goes v.site.before v.site.after (IsMade made o)) × IsAtEnd v.left.after × Keeps v.written.before v.written.after
InitEnded made (Refused (Script fault)) v = IsTextWith made v.left.before fault × Appends v.written.before v.written.after (fault_line fault)
InitEnded made WriteFault v = (fault : ScriptFault) × IsTextWith made v.left.before fault × AppendsPart v.written (fault_line fault)
InitEnded made ReadFault v = Keeps v.written.before v.written.after
InitEnded made NoMemory v = Keeps v.written.before v.written.after
InitEnded {O = O} made NoJournal v = ((o : O) × IsTextOf made v.left.before o) × Goes v.site.before v.site.after IsTaken × Keeps v.written.before v.written.after
InitEnded {O = O} made DiskFault v = ((o : O) × IsTextOf made v.left.before o) × Goes v.site.before v.site.after IsBroken × Keeps v.written.before v.written.after
InitEnded made other v = ⊥

-- an init ends so before any device call
abbrev pub makes_no_call : Status → Bool
makes_no_call (Refused why) = true
makes_no_call WriteFault = true
makes_no_call ReadFault = true
makes_no_call NoMemory = true
makes_no_call other = false

-- the status of an init where no call fails and memory is there: by the text, and then by whether the disk is empty
abbrev pub InitAnswer : {O : Type 0} → Result O ScriptFault → Option Told → Status → Type 0
InitAnswer (Err fault) site status = status ≡ Refused (Script fault)
InitAnswer (Ok o) site status = IfSome site (λ told. (reads told.log ≡ [] → status ≡ Done) × (reads told.log ≢ [] → status ≡ NoJournal))

-- what making a node says of its site
abbrev pub MakesNode : {O E : Type 0} → Made O E → Status → O → Option Told → Option Told → Type 0
MakesNode made Done o old new = Goes old new (IsMade made o)
MakesNode made NoJournal o old new = Goes old new IsTaken
MakesNode made DiskFault o old new = Goes old new IsBroken
MakesNode made NoMemory o old new = new ≡ old
MakesNode made other o old new = ⊥

-- what is written of a text that is no opening
abbrev pub RefusesText : Status → ScriptFault → Seen (Option (List ℕ)) → Type 0
RefusesText (Refused (Script why)) fault written = (why ≡ fault) × Appends written.before written.after (fault_line fault)
RefusesText WriteFault fault written = AppendsPart written (fault_line fault)
RefusesText NoMemory fault written = Keeps written.before written.after
RefusesText other fault written = ⊥
