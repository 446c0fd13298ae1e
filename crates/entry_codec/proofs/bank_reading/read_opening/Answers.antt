use Rattle.std.proofs.Common.{◌≡◌, arith}
use Rattle.bank_books.specs.Openings.{IsBankOpening}
use Rattle.entry_codec.specs.declared.fault.CodecFault.{CodecFault}
use Rattle.entry_codec.specs.declared.fault.CodecFault.TheVariants as faults
use Rattle.entry_codec.proofs.BankOpenings.{found, only, not_damaged}
use Rattle.entry_codec.proofs.Wholes.{none_left_over, not_unsound}
use Rattle.entry_codec.proofs.bank_reading.read_opening.Goals as goal

not_both : (fault : CodecFault) → fault ≡ faults.Damaged → fault ≡ faults.NoMemory → ⊥
not_both fault damaged spent = cc

pub returns-in-Err-clause-only : goal.returns-in-Err-clause-only
returns-in-Err-clause-only c opening fit same = absurd (not_both c.in-Err.fault c.in-Err.ensures.only (not_damaged c.in-Err.fault c.args.bytes.now c.in-Err.ensures.gives opening fit same))

pub returns-then-not-is_empty-clause-only : goal.returns-then-not-is_empty-clause-only
returns-then-not-is_empty-clause-only c opening fit same = absurd (none_left_over c.bank_opening.new.self.rest.now (only c.args.bytes.now c.in-Ok.opening c.bank_opening.new.self.rest.now c.in-Ok.ensures.gives opening fit same).1 c.if-not-is_empty.ensures)

pub returns-then-not-sound-clause-only : goal.returns-then-not-sound-clause-only
returns-then-not-sound-clause-only c opening fit same = absurd (not_unsound IsBankOpening c.is_sound-sound.result c.in-Ok.opening opening (only c.args.bytes.now c.in-Ok.opening c.bank_opening.new.self.rest.now c.in-Ok.ensures.gives opening fit same).0 fit c.is_sound-sound.ensures c.if-not-sound.true)

pub returns-clause-found : goal.returns-clause-found
returns-clause-found c = (
  c.is_sound-sound.ensures.0 c.if-not-sound.false,
  found c.args.bytes.now c.in-Ok.opening c.bank_opening.new.self.rest.now (λ i. omega (arith, c.type_inv.bytes i)) c.in-Ok.ensures.gives (search arith),
)

pub returns-clause-only : goal.returns-clause-only
returns-clause-only c opening fit same =
    let read : c.in-Ok.opening ≡ opening = (only c.args.bytes.now c.in-Ok.opening c.bank_opening.new.self.rest.now c.in-Ok.ensures.gives opening fit same).0 in
    cc
