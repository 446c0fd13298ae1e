use Rattle.std.proofs.Common.{◌∙◌, sym, ap}
use Rattle.host_index.proofs.TakenBack.{dests}
use Rattle.host_index.proofs.Asked.{ends_in}
use Rattle.host_index.proofs.tests.+walk.Goals as goal

pub drop_roll-requires : goal.drop_roll-requires
drop_roll-requires t c =
    ends_in c.post.new.index c.walk.new.index c.as_slice-2.result.now _ c.as_slice-4.result.now
    (c.in_ok-walk.ensures ∙ c.in_ok-roll.ensures)
    (c.as_slice-4.ensures.value ∙ c.in_ok-dests.ensures ∙ ap dests (c.as_slice.ensures.value ∙ sym c.as_slice-2.ensures.value))
