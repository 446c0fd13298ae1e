use Rattle.std.proofs.Common.{List, ℕ, sym, ◌∙◌, ap}
use Rattle.site_core.specs.Log.{reads}
use Rattle.site_core.specs.Memory.{patch_of}
use Rattle.site_core.proofs.Patches.{fits_after, restored_after}
use Rattle.site_core.proofs.disk.write.Goals as goal

pub restore-requires : goal.restore-requires
restore-requires c =
    fits_after c.args.image.now.items c.put_in.new.image.items c.args.at c.args.bytes.now c.in_ok-patch.patch
    (c.in_ok-patch.ensures ∙ ap (λ (l : List ℕ). patch_of l c.args.at c.args.bytes.now) c.deref.ensures.value)
    c.in_ok-put_in.ensures.ok

pub returns-in-Err-clause-same : goal.returns-in-Err-clause-same
returns-in-Err-clause-same c =
    c.restore.ensures
    ∙ restored_after c.args.image.now.items c.put_in.new.image.items c.args.at c.args.bytes.now c.in_ok-patch.patch
    (c.in_ok-patch.ensures ∙ ap (λ (l : List ℕ). patch_of l c.args.at c.args.bytes.now) c.deref.ensures.value)
    c.in_ok-put_in.ensures.ok
    ∙ c.requires.same
    ∙ sym (ap reads c.in-Err.ensures.err)
