use Rattle.std.proofs.Common.{ℕ, length, Bool, List, drop, subst, ap, ◌∙◌, arith}
use Rattle.std.proofs.lemmas.List.{length-drop}
use Rattle.faim_message.specs.Partial.{Moves}
use Rattle.faim_message.proofs.PartialLemmas.{read_more, read_stops}
use Rattle.faim_message.proofs.partial.MessagePart.read_piece.Goals as goal

pub returns-then-not-on-clause-stops : goal.returns-then-not-on-clause-stops
returns-then-not-on-clause-stops c form bytes h lt =
    let piece = c.args.piece.now in
    let a = c.loop-count.count in
    let k = c.read_some-length.result.0 in
    (read_stops c.loop-count.self c.read_some-length.new.self form bytes piece a k (omega arith) (c.loop-count.invariant.read form bytes h) (λ s stands.
    let P : List ℕ → Type 0 = λ xs. Moves c.read_some-length.new.self form s xs k c.read_some-length.result.1 in
    let Q : Bool → Type 0 = λ on. Moves c.read_some-length.new.self form s (drop a piece) k on in
    subst Q c.if-not-on.true (subst P c.after.ensures (c.read_some-length.ensures.goes form s stands)))).1

pub loop-count-preserved : goal.loop-count-preserved
loop-count-preserved c = record {
  form_is = c.read_some-length.ensures.form ∙ c.loop-count.invariant.form_is;
  within = omega (arith, c.read_some-length.ensures.within, ap length c.after.ensures, length-drop c.loop-count.count c.args.piece.now);
  read = λ form bytes h.
      let piece = c.args.piece.now in
      let a = c.loop-count.count in
      let k = c.read_some-length.result.0 in
      read_more c.loop-count.self c.read_some-length.new.self form bytes piece a k (c.loop-count.invariant.read form bytes h) (λ s stands.
      let P : List ℕ → Type 0 = λ xs. Moves c.read_some-length.new.self form s xs k c.read_some-length.result.1 in
      let Q : Bool → Type 0 = λ on. Moves c.read_some-length.new.self form s (drop a piece) k on in
      subst Q c.if-not-on.false (subst P c.after.ensures (c.read_some-length.ensures.goes form s stands)));
}
