use Rattle.std.proofs.Common.{◌≡◌, arith}
use Rattle.host_ledger.specs.Soundness.{IsConfig}
use Rattle.entry_codec.specs.declared.fault.CodecFault.TheVariants as faults
use Rattle.entry_codec.proofs.Configs.{found, only, not_damaged}
use Rattle.entry_codec.proofs.Wholes.{none_left_over, not_unsound}
use Rattle.entry_codec.proofs.config_reading.read_config.Goals as goal

pub returns-in-Err-clause-only : goal.returns-in-Err-clause-only
returns-in-Err-clause-only c = not_damaged c.in-Err.fault c.args.bytes.now c.in-Err.ensures

pub returns-in-Err-clause-damaged : goal.returns-in-Err-clause-damaged
returns-in-Err-clause-damaged c is config fit same =
    let spent : c.in-Err.fault ≡ faults.NoMemory = not_damaged c.in-Err.fault c.args.bytes.now c.in-Err.ensures config fit same in
    cc

pub returns-then-not-is_empty-clause-only : goal.returns-then-not-is_empty-clause-only
returns-then-not-is_empty-clause-only c config fit same = absurd (none_left_over c.config.new.self.rest.now (only c.args.bytes.now c.in-Ok.config c.config.new.self.rest.now c.in-Ok.ensures config fit same).1 c.if-not-is_empty.ensures)

pub returns-then-not-is_empty-clause-damaged : goal.returns-then-not-is_empty-clause-damaged
returns-then-not-is_empty-clause-damaged c is config fit same = none_left_over c.config.new.self.rest.now (only c.args.bytes.now c.in-Ok.config c.config.new.self.rest.now c.in-Ok.ensures config fit same).1 c.if-not-is_empty.ensures

pub returns-then-not-sound-clause-only : goal.returns-then-not-sound-clause-only
returns-then-not-sound-clause-only c config fit same = absurd (not_unsound IsConfig c.is_sound-sound.result c.in-Ok.config config (only c.args.bytes.now c.in-Ok.config c.config.new.self.rest.now c.in-Ok.ensures config fit same).0 fit c.is_sound-sound.ensures c.if-not-sound.true)

pub returns-then-not-sound-clause-damaged : goal.returns-then-not-sound-clause-damaged
returns-then-not-sound-clause-damaged c is config fit same = not_unsound IsConfig c.is_sound-sound.result c.in-Ok.config config (only c.args.bytes.now c.in-Ok.config c.config.new.self.rest.now c.in-Ok.ensures config fit same).0 fit c.is_sound-sound.ensures c.if-not-sound.true

pub returns-clause-found : goal.returns-clause-found
returns-clause-found c = (
  c.is_sound-sound.ensures.0 c.if-not-sound.false,
  found c.args.bytes.now c.in-Ok.config c.config.new.self.rest.now (λ i. omega (arith, c.type_inv.bytes i)) c.in-Ok.ensures (search arith),
)

pub returns-clause-only : goal.returns-clause-only
returns-clause-only c config fit same = (only c.args.bytes.now c.in-Ok.config c.config.new.self.rest.now c.in-Ok.ensures config fit same).0
