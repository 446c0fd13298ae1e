use Rattle.std.proofs.Common.{◌≡◌, ◌++◌, ◌∙◌, sym, ap, List, ℕ, subst}
use Rattle.std.specs.Prelude.{OnOk, IsSome}
use Rattle.faim_message.specs.declared.form.Form.TheVariants.{Input}
use Rattle.faim_message.specs.Decoded.{decoded}
use Rattle.host_turns.proofs.GivenItems.{one_of_some}
use Rattle.host_turns.proofs.ItemPayloads.{end_payload, message_payload}
use Rattle.host_turns.proofs.payloads.write_item.Goals as goal

pub write_message-requires : goal.write_message-requires
write_message-requires c = subst (λ (b : List ℕ). IsSome (decoded Input b)) (sym c.as_slice.ensures) (c.requires _ _ _ _ _ c.in-Posted.is)

pub returns-in-Posted-clause-ok : goal.returns-in-Posted-clause-ok
returns-in-Posted-clause-ok c i is_at entry =
    let p = c.in-Posted in
    let m = one_of_some (decoded Input p.body) (c.requires _ _ _ _ _ p.is) in
    let read = ap (λ (b : List ℕ). decoded Input b) c.as_slice.ensures ∙ m.1 in
    let handed = c.outputs_hand_on_texts.ensures c.args.env c.args.dest i c.args.mark _ p.body p.resent p.moment _ m.0 (entry ∙ p.is) m.1 in
    let whole = message_payload c.args.env c.args.dest i c.args.mark c.args.at.now p.head p.body p.resent p.moment _ m.0 c.message_status.result c.as_slice.result.now
    is_at (entry ∙ p.is) c.message_status.ensures c.as_slice.ensures handed in
    subst (λ (l : List ℕ). OnOk c.write_message.result (c.write_message.new.out.items ≡ c.args.out.now.items ++ l)) whole (c.write_message.ensures.ok m.0 read)

pub returns-in-Roll-clause-ok : goal.returns-in-Roll-clause-ok
returns-in-Roll-clause-ok c i is_at entry =
    let whole = end_payload c.args.env c.args.dest i c.args.mark c.args.at.now c.in-Roll.moment c.in-Roll.date is_at (entry ∙ c.in-Roll.is) in
    subst (λ (l : List ℕ). OnOk c.write_end.result (c.write_end.new.out.items ≡ c.args.out.now.items ++ l)) whole c.write_end.ensures.ok
