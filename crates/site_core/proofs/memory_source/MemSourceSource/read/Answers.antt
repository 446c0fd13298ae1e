use Rattle.std.proofs.Common.{◌≡◌, ◌-◌, ◌++◌, List, ℕ, length, take, drop, sym, ◌∙◌, ap, arith}
use Rattle.std.proofs.lemmas.List.{drop_all}
use Rattle.site_core.proofs.Pieces.{rest_by_piece}
use Rattle.site_core.proofs.memory_source.MemSourceSource.read.Goals as goal

pub returns-clause-bytes : goal.returns-clause-bytes
returns-clause-bytes c =
    let at = c.args.self.now.at in
    let end = c.read_end-end.result in
    let bytes = c.args.self.now.bytes in
    let piece : take (end - at) c.give.new.buf ≡ take (end - at) (drop at bytes) = c.give.ensures ∙ ap (λ (l : List ℕ). take (end - at) (drop at l)) c.as_slice-bytes.ensures in (
      rest_by_piece bytes at end c.read_end-end.ensures.onward ∙ ap (λ (l : List ℕ). l ++ drop end bytes) (sym piece),
      λ none room. drop_all end bytes (omega (arith, ap length c.as_slice-bytes.ensures, c.read_end-end.ensures.ends.some)),
    )
