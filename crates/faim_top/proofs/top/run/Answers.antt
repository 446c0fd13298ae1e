use Rattle.std.proofs.Common.{◌≡◌, List, ℕ, Option, Some, None, refl, sym, ◌∙◌, ap, subst, arith}
use Rattle.std.specs.Prelude.{Result, Ok, Err, IfSome, IfOk, IsNone}
use Rattle.host_ledger.specs.Soundness.{IsConfig}
use Rattle.world_text.specs.declared.script.Script.{Script}
use Rattle.world_text.specs.declared.script.ScriptFault.{ScriptFault}
use Rattle.world_text.specs.Grammar.{script_of}
use Rattle.faim_top.specs.Promises.{KeepsPromises}
use Rattle.faim_top.specs.declared.command.Command.{Command}
use Rattle.faim_top.specs.Commands.{Completed}
use Rattle.faim_top.specs.Inits.{bank_made, host_made}
use Rattle.faim_top.specs.Seen.{seen}
use Rattle.faim_top.specs.Views.{Views}
use Rattle.faim_top.proofs.InitAnswers as inits
use Rattle.faim_top.proofs.SessionStatuses as sessions
use Rattle.faim_top.proofs.top.run.Goals as goal

each_script : ((s : Script) → IsConfig s.config → KeepsPromises s) → (read : Result Script ScriptFault) → ((s : Script) → read ≡ Ok s → IsConfig s.config) → IfOk read KeepsPromises
each_script kept (Ok s) sound = kept s (sound s refl)
each_script kept (Err f) sound = tt

each_text : ((s : Script) → IsConfig s.config → KeepsPromises s) → ((text : List ℕ) (s : Script) → script_of text ≡ Ok s → IsConfig s.config) → (left : Option (List ℕ))
    → IfSome left (λ text. IfOk (script_of text) KeepsPromises)
each_text kept sound None = tt
each_text kept sound (Some text) = each_script kept (script_of text) (sound text)

-- words that are a command
named : {P : Type 0} (command : Option Command) (x : Command) → command ≡ Some x → IsNone command → P
named None x is none = absurd cc
named (Some y) x is none = absurd cc

pub returns-in-Some-Answer-clause-promises : goal.returns-in-Some-Answer-clause-promises
returns-in-Some-Answer-clause-promises g c = λ is done. each_text c.promises_kept.ensures c.scripts_are_sound.ensures (g.I.Source.left c.args.input.now)

pub returns-in-Some-HostInit-clause-usage : goal.returns-in-Some-HostInit-clause-usage
returns-in-Some-HostInit-clause-usage g c = (
  λ is. absurd (inits.never_usage host_made _ _ (c.init.ensures.ended (seen g.C.Clock.given c.args.clock.now c.args.clock.now)) is),
  λ none. named _ _ (sym c.read.ensures ∙ c.in-Some-HostInit.is) none,
)

pub returns-in-Some-HostInit-clause-line_faults : goal.returns-in-Some-HostInit-clause-line_faults
returns-in-Some-HostInit-clause-line_faults g c = record {
  later = omega (arith, c.init.ensures.line_faults);
  failed = λ is. absurd (inits.never_line host_made _ _ (c.init.ensures.ended (seen g.C.Clock.given c.args.clock.now c.args.clock.now)) is);
  kept = λ none. c.init.ensures.line_faults;
}

pub returns-in-Some-HostInit-clause-clock_faults : goal.returns-in-Some-HostInit-clause-clock_faults
returns-in-Some-HostInit-clause-clock_faults g c = record {
  later = omega arith;
  failed = λ is. absurd (inits.never_clock host_made _ _ (c.init.ensures.ended (seen g.C.Clock.given c.args.clock.now c.args.clock.now)) is);
  kept = λ none. refl;
}

pub returns-in-Some-BankInit-clause-usage : goal.returns-in-Some-BankInit-clause-usage
returns-in-Some-BankInit-clause-usage g c = (
  λ is. absurd (inits.never_usage bank_made _ _ (c.init-in-Some-BankInit.ensures.ended (seen g.C.Clock.given c.args.clock.now c.args.clock.now)) is),
  λ none. named _ _ (sym c.read.ensures ∙ c.in-Some-BankInit.is) none,
)

pub returns-in-Some-BankInit-clause-line_faults : goal.returns-in-Some-BankInit-clause-line_faults
returns-in-Some-BankInit-clause-line_faults g c = record {
  later = omega (arith, c.init-in-Some-BankInit.ensures.line_faults);
  failed = λ is. absurd (inits.never_line bank_made _ _ (c.init-in-Some-BankInit.ensures.ended (seen g.C.Clock.given c.args.clock.now c.args.clock.now)) is);
  kept = λ none. c.init-in-Some-BankInit.ensures.line_faults;
}

pub returns-in-Some-BankInit-clause-clock_faults : goal.returns-in-Some-BankInit-clause-clock_faults
returns-in-Some-BankInit-clause-clock_faults g c = record {
  later = omega arith;
  failed = λ is. absurd (inits.never_clock bank_made _ _ (c.init-in-Some-BankInit.ensures.ended (seen g.C.Clock.given c.args.clock.now c.args.clock.now)) is);
  kept = λ none. refl;
}

pub returns-in-Some-Host-clause-usage : goal.returns-in-Some-Host-clause-usage
returns-in-Some-Host-clause-usage g c =
    let ended = c.serve_host.ensures.ended (seen g.O.Sink.written c.args.out.now c.args.out.now) in
    (λ is. absurd (sessions.never_usage ended.end _ ended.told is), λ none. named _ _ (sym c.read.ensures ∙ c.in-Some-Host.is) none)

pub returns-in-Some-Host-clause-output_faults : goal.returns-in-Some-Host-clause-output_faults
returns-in-Some-Host-clause-output_faults g c =
    let ended = c.serve_host.ensures.ended (seen g.O.Sink.written c.args.out.now c.args.out.now) in
    record {
      later = omega arith;
      failed = λ is. absurd (sessions.never_write ended.end _ ended.told is);
      kept = λ none. refl;
    }

pub returns-in-Some-Host-clause-complete : goal.returns-in-Some-Host-clause-complete
returns-in-Some-Host-clause-complete g c = λ reads writes disk line clock memory.
    let ended = c.serve_host.ensures.ended (seen g.O.Sink.written c.args.out.now c.args.out.now) in
    let answer = sessions.session_answer ended.end _ ended.told
    (λ is. reads (c.serve_host.ensures.input_faults.failed is))
    (λ is. disk (c.serve_host.ensures.disk_faults.failed is))
    (λ is. line (c.serve_host.ensures.line_faults.failed is))
    (λ is. clock (c.serve_host.ensures.clock_faults.failed is))
    memory in
    let views : Views = record {
      left = seen g.I.Source.left c.args.input.now c.serve_host.new.input;
      written = seen g.O.Sink.written c.args.out.now c.args.out.now;
      site = seen g.S.Site.told c.args.site.now c.serve_host.new.site;
      given = seen g.C.Clock.given c.args.clock.now c.serve_host.new.clock;
    } in
    subst (λ (o : Option Command). IfSome o (λ command. Completed command c.serve_host.result views))
    (sym (ap (λ (x : Command). Some x) c.in-Some-Host.field-0-is) ∙ sym c.in-Some-Host.is ∙ c.read.ensures) answer

pub returns-in-Some-Bank-clause-usage : goal.returns-in-Some-Bank-clause-usage
returns-in-Some-Bank-clause-usage g c =
    let ended = c.serve_bank.ensures.ended (seen g.O.Sink.written c.args.out.now c.args.out.now) (g.C.Clock.given c.args.clock.now) in
    (λ is. absurd (sessions.never_usage ended.end _ ended.told is), λ none. named _ _ (sym c.read.ensures ∙ c.in-Some-Bank.is) none)

pub returns-in-Some-Bank-clause-output_faults : goal.returns-in-Some-Bank-clause-output_faults
returns-in-Some-Bank-clause-output_faults g c =
    let ended = c.serve_bank.ensures.ended (seen g.O.Sink.written c.args.out.now c.args.out.now) (g.C.Clock.given c.args.clock.now) in
    record {
      later = omega arith;
      failed = λ is. absurd (sessions.never_write ended.end _ ended.told is);
      kept = λ none. refl;
    }

pub returns-in-Some-Bank-clause-clock_faults : goal.returns-in-Some-Bank-clause-clock_faults
returns-in-Some-Bank-clause-clock_faults g c = record {
  later = omega arith;
  failed = λ is. absurd (c.serve_bank.ensures.timeless is);
  kept = λ none. refl;
}

pub returns-in-Some-Bank-clause-complete : goal.returns-in-Some-Bank-clause-complete
returns-in-Some-Bank-clause-complete g c = λ reads writes disk line clock memory.
    let ended = c.serve_bank.ensures.ended (seen g.O.Sink.written c.args.out.now c.args.out.now) (g.C.Clock.given c.args.clock.now) in
    let answer = sessions.session_answer ended.end _ ended.told
    (λ is. reads (c.serve_bank.ensures.input_faults.failed is))
    (λ is. disk (c.serve_bank.ensures.disk_faults.failed is))
    (λ is. line (c.serve_bank.ensures.line_faults.failed is))
    (λ is. absurd (c.serve_bank.ensures.timeless is))
    memory in
    let views : Views = record {
      left = seen g.I.Source.left c.args.input.now c.serve_bank.new.input;
      written = seen g.O.Sink.written c.args.out.now c.args.out.now;
      site = seen g.S.Site.told c.args.site.now c.serve_bank.new.site;
      given = seen g.C.Clock.given c.args.clock.now c.args.clock.now;
    } in
    subst (λ (o : Option Command). IfSome o (λ command. Completed command c.serve_bank.result views))
    (sym (ap (λ (x : Command). Some x) c.in-Some-Bank.field-0-is) ∙ sym c.in-Some-Bank.is ∙ c.read.ensures) answer
