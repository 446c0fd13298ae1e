use Rattle.std.proofs.Common.{◌≡◌, ℕ, ◌+◌, ◌++◌, Bool, List, length, get_or, sym, subst, arith}
use Rattle.faim_message.specs.Refusal.{StopsAt}
use Rattle.faim_message.specs.Stages.{next}
use Rattle.faim_message.specs.Partial.{HasRead, Follows}
use Rattle.faim_message.proofs.PartialLemmas.{byte_read, byte_stops, one_byte}
use Rattle.faim_message.proofs.partial.MessagePart.read.Goals as goal

pub returns-then-read_byte-clause-read : goal.returns-then-read_byte-clause-read
returns-then-read_byte-clause-read c form bytes h whole =
    let new = c.read_byte.new.self in
    let b = get_or c.args.piece.now 0 0 in
    let P : List ℕ → Type 0 = λ l. HasRead new form (bytes ++ l) in
    subst P (one_byte c.args.piece.now (sym whole)) (byte_read c.args.self.now new form bytes b h (λ s stands.
    let Q : Bool → Type 0 = λ on. Follows new form on (next form s b) in
    subst Q c.if-read_byte.true (c.read_byte.ensures.goes form s stands)))

pub returns-else-read_byte-clause-stops : goal.returns-else-read_byte-clause-stops
returns-else-read_byte-clause-stops c form bytes h lt =
    let new = c.read_byte.new.self in
    let piece = c.args.piece.now in
    let b = get_or piece 0 0 in
    let one : length piece ≡ 1 = omega (arith, c.if-piece-ne1.false) in
    let P : List ℕ → Type 0 = λ l. StopsAt form (bytes ++ l) (length bytes + 0) in
    subst P (one_byte piece one) (byte_stops c.args.self.now new form bytes b h (λ s stands.
    let Q : Bool → Type 0 = λ on. Follows new form on (next form s b) in
    subst Q c.if-read_byte.false (c.read_byte.ensures.goes form s stands)))
