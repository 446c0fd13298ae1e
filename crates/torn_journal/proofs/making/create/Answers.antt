use Rattle.std.proofs.Common.{◌≡◌, ◌∙◌, length, arith}
use Rattle.site_core.specs.Log.{reads}
use Rattle.site_core.specs.Told.{Told}
use Rattle.site_core.proofs.Runs.{goes_on, goes_knowing}
use Rattle.torn_journal.specs.declared.faults.CreateFault.TheVariants.{SiteFault}
use Rattle.torn_journal.proofs.FirstImage.{create_broken, created, handed_on}
use Rattle.torn_journal.proofs.making.create.Goals as goal

pub returns-in_err-secure-clause-told : goal.returns-in_err-secure-clause-told
returns-in_err-secure-clause-told g c =
    let fault = handed_on c.from_residual-in_err-secure.result SiteFault c.from_residual-in_err-secure.ensures.1 in
    goes_on _ _ _ _ _ _
    (λ x y z p q. create_broken c.args.opening.now c.deref.result.now (c.deref.ensures.value ∙ c.in_ok-image.ensures) c.in_ok-size.field-0 (omega arith) x y z p.0 p.1 c.in_err-secure.field-0.0 c.from_residual-in_err-secure.result fault q)
    (goes_knowing (λ (site : Told). c.in_ok-size.field-0 ≡ length (reads site.log)) _ _ _ c.in_ok-size.ensures.value c.in_ok-size.ensures.told) c.in_err-secure.ensures.told

pub returns-clause-told : goal.returns-clause-told
returns-clause-told g c =
    goes_on _ _ _ _ _ _
    (λ x y z p q. created c.args.opening.now c.deref.result.now (c.deref.ensures.value ∙ c.in_ok-image.ensures) c.in_ok-size.field-0 (omega arith) x y z p.0 p.1 c.requires c.in_ok-secure.field-0 q c.len.result (omega (arith, c.len.ensures, c.deref.ensures.len)))
    (goes_knowing (λ (site : Told). c.in_ok-size.field-0 ≡ length (reads site.log)) _ _ _ c.in_ok-size.ensures.value c.in_ok-size.ensures.told) c.in_ok-secure.ensures.told
