-- The statuses that an init has, and which it has where no call fails.
use Rattle.std.proofs.Common.{◌≡◌, ◌≢◌, ℕ, List, Option, Some, None, refl, sym, ap, subst}
use Rattle.std.specs.Prelude.{Result, Ok, Err, IfSome}
use Rattle.site_core.specs.Log.{reads}
use Rattle.site_core.specs.Told.{Told, Goes}
use Rattle.world_text.specs.declared.script.ScriptFault.{ScriptFault}
use Rattle.faim_top.specs.declared.status.Status.{Status}
use Rattle.faim_top.specs.declared.status.Status.TheVariants.{Done, Usage, Refused, NoMemory, ReadFault, WriteFault, DiskFault, LineFault, Damaged, JournalFull, NoJournal, ClockFault}
use Rattle.faim_top.specs.declared.status.Reason.TheVariants.{Script}
use Rattle.faim_top.specs.Inits.{InitAnswer, InitEnded, IsMade, IsTaken, IsTextOf, IsTextWith, Made, MakesNode, RefusesText}
use Rattle.faim_top.specs.Seen.{Seen}
use Rattle.faim_top.specs.Views.{Views}

-- the statuses that an init never has
pub never_usage : {O E : Type 0} (made : Made O E) (status : Status) (v : Views) → InitEnded made status v → status ≢ Usage
never_usage made Usage v ended is = ended
never_usage made Done v ended is = cc
never_usage made (Refused why) v ended is = cc
never_usage made NoMemory v ended is = cc
never_usage made ReadFault v ended is = cc
never_usage made WriteFault v ended is = cc
never_usage made DiskFault v ended is = cc
never_usage made LineFault v ended is = ended
never_usage made (Damaged place) v ended is = ended
never_usage made (JournalFull tail need) v ended is = ended
never_usage made NoJournal v ended is = cc
never_usage made ClockFault v ended is = ended

pub never_line : {O E : Type 0} (made : Made O E) (status : Status) (v : Views) → InitEnded made status v → status ≢ LineFault
never_line made status v ended is = subst (λ (s : Status). InitEnded made s v) is ended

pub never_clock : {O E : Type 0} (made : Made O E) (status : Status) (v : Views) → InitEnded made status v → status ≢ ClockFault
never_clock made status v ended is = subst (λ (s : Status). InitEnded made s v) is ended

-- an opening is made on an empty disk, and on no other
done_answer : {O E : Type 0} (made : Made O E) (o : O) (old new : Option Told) → Goes old new (IsMade made o) → InitAnswer (Ok o) old Done
done_answer made o None new goes = tt
done_answer made o (Some x) None goes = absurd goes
done_answer made o (Some x) (Some y) goes = (λ empty. refl, λ some. absurd (some goes.empty))

taken_answer : {O : Type 0} (o : O) (old new : Option Told) → Goes old new IsTaken → InitAnswer (Ok o) old NoJournal
taken_answer o None new goes = tt
taken_answer o (Some x) None goes = absurd goes
taken_answer o (Some x) (Some y) goes = (λ empty. absurd (goes.some empty), λ some. refl)

node_answer : {O E : Type 0} (made : Made O E) (status : Status) (o : O) (old new : Option Told) → MakesNode made status o old new → (status ≢ DiskFault) → (status ≢ NoMemory) → InitAnswer (Ok o) old status
node_answer made Done o old new makes disk memory = done_answer made o old new makes
node_answer made NoJournal o old new makes disk memory = taken_answer o old new makes
node_answer made DiskFault o old new makes disk memory = absurd (disk refl)
node_answer made NoMemory o old new makes disk memory = absurd (memory refl)
node_answer made Usage o old new makes disk memory = absurd makes
node_answer made (Refused why) o old new makes disk memory = absurd makes
node_answer made ReadFault o old new makes disk memory = absurd makes
node_answer made WriteFault o old new makes disk memory = absurd makes
node_answer made LineFault o old new makes disk memory = absurd makes
node_answer made (Damaged place) o old new makes disk memory = absurd makes
node_answer made (JournalFull tail need) o old new makes disk memory = absurd makes
node_answer made ClockFault o old new makes disk memory = absurd makes

-- a text that is an opening
pub made_known : {O E : Type 0} (made : Made O E) (left : Option (List ℕ)) (site new : Option Told) (o : O) (status : Status) → IsTextOf made left o → MakesNode made status o site new → (status ≢ DiskFault)
    → (status ≢ NoMemory) → IfSome left (λ text. InitAnswer (made.opening_of text) site status)
made_known made None site new o status is makes disk memory = tt
made_known {O = O} made (Some text) site new o status is makes disk memory =
    subst (λ (r : Result O ScriptFault). InitAnswer r site status) (sym is) (node_answer made status o site new makes disk memory)

refused_answer : (fault : ScriptFault) (written : Seen (Option (List ℕ))) (status : Status) → RefusesText status fault written → (status ≢ WriteFault) → (status ≢ NoMemory) → status ≡ Refused (Script fault)
refused_answer fault written (Refused (Script why)) told write memory = ap (λ (f : ScriptFault). Refused (Script f)) told.0
refused_answer fault written WriteFault told write memory = absurd (write refl)
refused_answer fault written NoMemory told write memory = absurd (memory refl)
refused_answer fault written (Refused why) told write memory = absurd told
refused_answer fault written Done told write memory = absurd told
refused_answer fault written Usage told write memory = absurd told
refused_answer fault written ReadFault told write memory = absurd told
refused_answer fault written DiskFault told write memory = absurd told
refused_answer fault written LineFault told write memory = absurd told
refused_answer fault written (Damaged place) told write memory = absurd told
refused_answer fault written (JournalFull tail need) told write memory = absurd told
refused_answer fault written NoJournal told write memory = absurd told
refused_answer fault written ClockFault told write memory = absurd told

-- a text that is none
pub refused_known : {O E : Type 0} (made : Made O E) (left : Option (List ℕ)) (site : Option Told) (fault : ScriptFault) (written : Seen (Option (List ℕ))) (status : Status) → IsTextWith made left fault
    → RefusesText status fault written → (status ≢ WriteFault) → (status ≢ NoMemory) → IfSome left (λ text. InitAnswer (made.opening_of text) site status)
refused_known made None site fault written status is told write memory = tt
refused_known {O = O} made (Some text) site fault written status is told write memory =
    subst (λ (r : Result O ScriptFault). InitAnswer r site status) (sym is) (refused_answer fault written status told write memory)
