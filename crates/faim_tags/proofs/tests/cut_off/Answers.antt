use Rattle.faim_base.specs.Tags.{tag_numbers}
use Rattle.faim_tags.proofs.tests.cut_off.Goals as goal

pub cut_tag-requires : goal.cut_tag-requires
cut_tag-requires c = record { numbers = tag_numbers; tag = c.in-Ok.found.0; size = c.in-Ok.found.1; found = c.in-Ok.ensures.found }
