use Rattle.std.proofs.Common.{◌∙◌, ◌+◌, ◌++◌, List, ℕ, length, take, drop, ap, arith}
use Rattle.site_core.proofs.Patches.{put_wide}
use Rattle.site_core.proofs.patch.put_in.Goals as goal

pub returns-clause-ok : goal.returns-clause-ok
returns-clause-ok c =
    let at = c.args.at in
    let bytes = c.args.bytes.now in
    c.over.ensures
    ∙ ap (λ (l : List ℕ). take at l ++ bytes ++ drop (at + length bytes) l) c.in_ok-widen.ensures.ok
    ∙ put_wide c.args.image.now.items at bytes (omega arith)
