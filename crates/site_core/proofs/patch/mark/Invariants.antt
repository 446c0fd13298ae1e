use Rattle.std.proofs.Common.{◌≡◌, length, reverse}
use Rattle.site_core.specs.Memory.{filled_all, AllWithin}
use Rattle.site_core.proofs.patch.mark.Given as goal

abbrev pub invariant-loop-patch : goal.invariant-loop-patch
invariant-loop-patch l =
    (length l.image.items ≡ length l.initial.image.items)
    × AllWithin (length l.initial.image.items) (reverse l.patches.items)
    × (filled_all l.byte (reverse l.patches.items) l.image.items ≡ filled_all l.byte (reverse l.initial.patches.items) l.initial.image.items)

abbrev pub decreases-loop-patch : goal.decreases-loop-patch
decreases-loop-patch l = goal.left-loop-patch l
