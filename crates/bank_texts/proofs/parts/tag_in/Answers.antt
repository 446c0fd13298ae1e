use Rattle.std.proofs.Common.{◌≡◌, rules}
use Rattle.std.specs.Prelude.{◌==◌}
use Rattle.std.specs.List.{find}
use Rattle.std.specs.Option.{option_copied}
use Rattle.bank_texts.proofs.Founds.{numbered}
use Rattle.bank_texts.proofs.parts.tag_in.Goals as goal

pub returns-clause-number : goal.returns-clause-number
returns-clause-number c =
    let found : option_copied c.get.result ≡ find (λ v. v.no == c.args.number) c.args.m.now.tags = search rules in
    numbered c.args.number c.args.m.now.tags c.get.result found
