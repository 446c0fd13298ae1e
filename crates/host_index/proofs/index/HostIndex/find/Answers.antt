use Rattle.std.proofs.Common.{◌∙◌, ap, map}
use Rattle.faim_base.specs.declared.ids.Imad.{Imad}
use Rattle.host_index.specs.Index.{Index, place_of}
use Rattle.host_index.specs.Tables.{posted_of}
use Rattle.host_index.proofs.Found.{place_found}
use Rattle.host_index.proofs.index.HostIndex.find.Goals as goal

pub returns : goal.returns
returns c =
    c.copied.ensures ∙ c.get.ensures.value ∙ place_found c.imad_key.result c.self.inside.posted.entries
    ∙ ap (λ (i : Imad). place_of i (map posted_of c.self.inside.posted.entries)) c.imad_key.ensures
    ∙ ap (λ (x : Index). place_of c.args.imad.now x.posted) c.self.view_is
