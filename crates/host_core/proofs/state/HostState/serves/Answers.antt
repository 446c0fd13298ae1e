use Rattle.std.proofs.Common.{◌∙◌, ap}
use Rattle.std.specs.Prelude.{bytes_eq}
use Rattle.std.specs.List.{list_any}
use Rattle.host_ledger.specs.Accounts.{has_endpoint}
use Rattle.host_core.specs.State.{State}
use Rattle.host_core.proofs.Endpoints.{among}
use Rattle.host_core.proofs.state.HostState.serves.Goals as goal

pub returns : goal.returns
returns c =
    c.is_among.ensures
    ∙ ap (list_any (λ f. bytes_eq f c.args.dest.now)) (c.as_slice.ensures ∙ c.self.invariant.2.banks)
    ∙ among c.self.inside.config.accounts c.args.dest.now
    ∙ ap (λ (s : State). has_endpoint s.config.accounts c.args.dest.now) c.self.view_is
