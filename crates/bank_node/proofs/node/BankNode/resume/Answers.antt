use Rattle.std.proofs.Common.{refl}
use Rattle.site_core.proofs.Runs.{goes_as, goes_nowhere}
use Rattle.journaled_list.specs.Loading.{found_in}
use Rattle.journaled_list.specs.Resuming.{none_again}
use Rattle.journaled_steps.specs.Node.{found_of}
use Rattle.journaled_steps.proofs.AsNodes.{resumed_as, untouched_moments}
use Rattle.bank_books.specs.State.{BankList}
use Rattle.bank_node.specs.BankRules.{bank_rules, listed}
use Rattle.bank_node.proofs.node.BankNode.resume.Goals as goal

pub returns-in-Err-clause-moments : goal.returns-in-Err-clause-moments
returns-in-Err-clause-moments g c = goes_nowhere _ (g.S.Site.told c.args.site.now) (λ x. untouched_moments bank_rules found_of none_again x)

pub returns-in-Ok-read-clause-moments : goal.returns-in-Ok-read-clause-moments
returns-in-Ok-read-clause-moments g c =
    goes_as _ _ (g.S.Site.told c.args.site.now) (g.S.Site.told c.read_back-read.new.site)
    (λ x y p. resumed_as bank_rules (found_in (λ (b : BankList). listed b)) found_of none_again x y c.in-Ok-read.kept _ refl p)
    c.in-Ok-read.ensures.moments
