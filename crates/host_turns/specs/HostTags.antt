-- The tags that begin what a host sends, as its code holds them.
use Rattle.std.specs.Prelude.{List, [], ◌∷◌}
use Rattle.faim_tags.specs.Spelling.{Tag}
use Rattle.faim_model.specs.ServiceTags.{moment_tag, output_tag, status_tag}
use Rattle.host_turns.specs.declared.service_tags.HostTags.{HostTags}

-- the status, the moment, and the output that is told
abbrev pub tags_of : HostTags → List Tag
tags_of t = status_tag t.env t.mark t.status ∷ moment_tag t.moment ∷ output_tag t.at t.dest t.moment ∷ []
