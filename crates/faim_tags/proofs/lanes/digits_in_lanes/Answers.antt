use Rattle.std.proofs.Common.{leb, cond, refl, arith}
use Rattle.std.proofs.lemmas.Simd.{zip2_splat, length-chunk}
use lib.Lanes.{chunk}
use Rattle.faim_tags.proofs.LaneLemmas.{joined, splat_is, itself, run_in}
use Rattle.faim_tags.proofs.lanes.digits_in_lanes.Goals as goal

pub returns : goal.returns
returns c =
    let v = chunk c.args.place 16 c.args.bytes.now in
    let long = length-chunk c.args.place 16 c.args.bytes.now c.requires in
    run_in 110 c.args.bytes.now c.args.place 16 _ _ c.requires (omega arith) c.type_inv.bytes c.first_set.ensures _
    (joined _ _ _ v (zip2_splat _ v 16 48 long) (joined (λ a b. cond (leb a b) 255 0) _ _ v (splat_is v 16 58 long) (itself v))) refl
