use Rattle.std.proofs.Common.{◌≡◌, ◌==◌, length, take, drop, sym, ◌∙◌, arith, ⊎_elim}
use Rattle.std.proofs.lemmas.Bool.{cases_lt}
use Rattle.std.proofs.lemmas.Option.{cond_some}
use Rattle.faim_base.specs.Text.{is_endpoint}
use Rattle.link_frames.specs.Splits.{size_at}
use Rattle.link_frames.proofs.Filled.{held_long}
use Rattle.link_frames.proofs.Fronts.{whole, sized}
use Rattle.link_frames.proofs.Shapes.{found}
use Rattle.link_frames.proofs.heads.frame_in.Goals as goal

pub returns-clause-frame : goal.returns-clause-frame
returns-clause-frame c =
    let w = whole c.args.bytes.now (sym c.is_whole.ensures ∙ c.if-not-is_whole.false) in
    let s = sized c.args.bytes.now w.four w.none in
    let exact : length c.args.bytes.now ≡ size_at c.args.bytes.now = ⊎_elim
    (λ long. omega (arith, w.fits, held_long c.args.bytes.now c.requires long))
    (λ few. omega (arith, w.fits, s.0, few))
    (cases_lt 13 (length c.args.bytes.now)) in
    let eight = (cond_some (length (take 8 (drop 5 c.args.bytes.now)) == 8) (take 8 (drop 5 c.args.bytes.now)) c.in_ok-array_of.field-0 (sym c.in_ok-array_of.ensures)).1 in
    let name = (cond_some (is_endpoint c.in_ok-array_of.field-0) c.in_ok-array_of.field-0 c.in_ok-endpoint.endpoint (sym c.in_ok-endpoint.ensures)).1 in
    found c.args.bytes.now c.in_ok-kind.kind c.bytes.result c.after.result.now
    (record { kind_is = c.in_ok-kind.ensures; endpoint_is = c.bytes.ensures.value ∙ (sym name ∙ sym eight); payload_is = c.after.ensures })
    w.four w.none exact (λ i. omega (arith, c.type_inv.bytes i))
