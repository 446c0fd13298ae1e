use Rattle.std.proofs.Common.{leb, cond, refl, arith}
use Rattle.std.proofs.lemmas.Simd.{zip2_splat, length-chunk}
use lib.Lanes.{chunk}
use Rattle.faim_tags.proofs.LaneLemmas.{joined, splat_is, itself, run_in}
use Rattle.faim_tags.proofs.lanes.text_in_lanes.Goals as goal

pub returns : goal.returns
returns c =
    let v = chunk c.args.place 16 c.args.bytes.now in
    let long = length-chunk c.args.place 16 c.args.bytes.now c.requires in
    run_in 116 c.args.bytes.now c.args.place 16 _ _ c.requires (omega arith) c.type_inv.bytes c.first_set.ensures _
    (joined _ _ _ v (joined _ _ _ v (joined _ _ _ v (zip2_splat _ v 16 32 long) (joined (λ a b. cond (leb a b) 255 0) _ _ v (splat_is v 16 127 long) (itself v))) (joined _ _ _ v (zip2_splat _ v 16 123 long) (zip2_splat _ v 16 125 long))) (zip2_splat _ v 16 42 long)) refl
