use Rattle.std.proofs.Common.{◌≡◌, reverse}
use Rattle.site_core.specs.Memory.{undone, AllFit}
use Rattle.site_core.proofs.patch.undo.Given as goal

abbrev pub invariant-loop-patch : goal.invariant-loop-patch
invariant-loop-patch l =
    AllFit (reverse l.patches.items) l.image.items
    × (undone (reverse l.patches.items) l.image.items ≡ undone (reverse l.initial.patches.items) l.initial.image.items)

abbrev pub decreases-loop-patch : goal.decreases-loop-patch
decreases-loop-patch l = goal.left-loop-patch l
