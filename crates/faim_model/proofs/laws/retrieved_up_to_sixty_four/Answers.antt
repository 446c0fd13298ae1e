use Rattle.faim_model.proofs.Accepted.{retrieved_count}
use Rattle.faim_model.proofs.laws.retrieved_up_to_sixty_four.Goals as goal

pub returns : goal.returns
returns c = retrieved_count
