use Rattle.std.proofs.Common.{◌≡◌, List, [], ℕ, length, reverse, sym, ◌∙◌, ap, subst, arith}
use Rattle.std.proofs.lemmas.Grind.{common_steps}
use Rattle.site_core.specs.declared.patch.Patch.{Patch}
use Rattle.site_core.specs.Log.{reads}
use Rattle.site_core.specs.Memory.{patches, AllFit, AllWithin}
use Rattle.site_core.proofs.Marks.{within_log}
use Rattle.site_core.proofs.Patches.{fit_log}
use Rattle.site_core.proofs.Torn.{after_none, after_tear}
use Rattle.site_core.proofs.disk.come_back.Goals as goal

pub tear_up-requires : goal.tear_up-requires
tear_up-requires c =
    let log = c.args.past.now in
    let fit = subst (λ (l : List ℕ). AllFit (reverse c.args.over.now.items) l) (sym c.requires.same) (subst (λ (l : List Patch). AllFit l (reads log)) (sym c.requires.covers) (fit_log log)) in
    let within = subst (λ (l : List ℕ). AllWithin (length l) (reverse c.args.over.now.items)) (sym c.requires.same) (subst (λ (l : List Patch). AllWithin (length (reads log)) l) (sym c.requires.covers) (within_log log)) in
    record { fit = fit; within = within }

pub returns-clause-same : goal.returns-clause-same
returns-clause-same c =
    c.tear_up.ensures.image
    ∙ after_tear c.args.tear c.args.past.now (reverse c.args.over.now.items) c.args.image.now.items c.requires.covers c.requires.same c.restarted.ensures.plain
    ∙ sym (ap reads c.restarted.ensures.trace)

pub returns-then-is_empty-clause-image : goal.returns-then-is_empty-clause-image
returns-then-is_empty-clause-image c =
    let log = c.args.past.now in
    let none : patches log ≡ [] = grind (arith, common_steps) in sym (after_none c.args.tear log none)
