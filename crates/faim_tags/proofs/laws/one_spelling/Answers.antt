use Rattle.std.proofs.Common.{sym, ◌∙◌}
use Rattle.faim_tags.proofs.Meaning.{one_tag}
use Rattle.faim_tags.proofs.laws.one_spelling.Goals as goal

pub returns-clause-tag : goal.returns-clause-tag
returns-clause-tag c v w bytes h k = one_tag v w bytes h k

pub returns-clause-bytes : goal.returns-clause-bytes
returns-clause-bytes c v a b h k = h.spelled ∙ sym k.spelled
