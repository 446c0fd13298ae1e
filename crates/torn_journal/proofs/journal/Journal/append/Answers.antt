use Rattle.std.proofs.Common.{◌+◌, length, refl, arith}
use Rattle.site_core.proofs.Runs.{goes_as}
use Rattle.torn_journal.specs.Journal.{payload_of}
use Rattle.torn_journal.proofs.BeforeOrAfter.{nothing_done, broken_off, went_through}
use Rattle.torn_journal.proofs.journal.Journal.append.Goals as goal

pub returns-then-need-self-clause-moments : goal.returns-then-need-self-clause-moments
returns-then-need-self-clause-moments g c = nothing_done _ c.args.self.now c.args.self.now (payload_of c.args.framed.now) (g.S.Site.told c.args.site.now)

pub returns-in_err-add-clause-moments : goal.returns-in_err-add-clause-moments
returns-in_err-add-clause-moments g c =
    goes_as _ _ (g.S.Site.told c.args.site.now) (g.S.Site.told c.add.new.site)
    (λ x y ran. broken_off c.in_err-add.field-0.0 c.from_residual.result c.from_residual.ensures.0 c.self.inside.tail c.args.self.now c.args.self.now c.self.view_is c.args.framed.now (payload_of c.args.framed.now) c.requires.is c.requires.payload (omega arith) x y ran)
    c.in_err-add.ensures.told

pub returns-clause-moments : goal.returns-clause-moments
returns-clause-moments g c =
    goes_as _ _ (g.S.Site.told c.args.site.now) (g.S.Site.told c.add.new.site)
    (λ x y ran. went_through c.in_ok-add.field-0 tt c.self.inside.tail c.args.self.now (c.self.inside.tail + length c.args.framed.now) c.self.view_is c.args.framed.now (payload_of c.args.framed.now) refl c.requires.is c.requires.payload (omega arith) x y ran)
    c.in_ok-add.ensures.told
