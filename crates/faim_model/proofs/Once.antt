-- No identifier is posted twice.
use Rattle.std.proofs.Common.{◌≡◌, refl, subst, ◌+◌, ◌≤◌, Bool, true, false, List, [], ◌∷◌, None, if◌then◌else◌, arith}
use Rattle.faim_base.specs.declared.ids.Imad.{Imad}
use Rattle.host_ledger.specs.declared.config.Config.{Config}
use Rattle.host_ledger.specs.declared.entries.Entry.{Entry}
use Rattle.host_ledger.specs.declared.entries.Entry.TheVariants.{Posted, Roll}
use Rattle.faim_model.specs.Verdicts.{has_imad, place_of, same_imad}
use Rattle.faim_model.specs.Lawful.{Lawful, times_posted}
use Rattle.faim_model.proofs.Imads.{imads_equal, never_posted}
use Rattle.faim_model.proofs.Judgements.{posted_fresh}

once_more : (own imad : Imad) (es : List Entry) (same : Bool) → same_imad own imad ≡ same → place_of (has_imad own) es ≡ None
    → times_posted imad es ≤ 1 → times_posted imad es + (if same then 1 else 0) ≤ 1
once_more own imad es false test fresh once = omega arith
once_more own imad es true test fresh once =
    let other : place_of (has_imad imad) es ≡ None = subst (λ (i : Imad). place_of (has_imad i) es ≡ None) (imads_equal own imad test) fresh in
    omega (arith, never_posted imad es other)

-- each identifier is posted at most once
pub at_most_once : (c : Config) (es : List Entry) → Lawful c es → (imad : Imad) → times_posted imad es ≤ 1
at_most_once c [] lawful imad = omega arith
at_most_once c (Roll moment date ∷ es) lawful imad = omega (arith, at_most_once c es lawful.1 imad)
at_most_once c (Posted h body resent moment v ∷ es) lawful imad =
    once_more h.imad imad es (same_imad h.imad imad) refl (posted_fresh c es h body resent moment v lawful.0) (at_most_once c es lawful.1 imad)
