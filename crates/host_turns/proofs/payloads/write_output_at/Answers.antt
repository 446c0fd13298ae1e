use Rattle.std.proofs.Common.{◌≡◌, ◌++◌, ◌∙◌, sym, ap, subst, ℕ, List, Some}
use Rattle.std.specs.Prelude.{OnOk}
use Rattle.std.specs.Option.{option_copied}
use Rattle.faim_message.specs.declared.form.Form.TheVariants.{Input}
use Rattle.faim_message.specs.Decoded.{decoded}
use Rattle.faim_message.specs.Spelling.{message_spelling}
use Rattle.host_ledger.specs.declared.config.Config.{Config}
use Rattle.host_ledger.specs.declared.entries.Entry.{Entry}
use Rattle.host_ledger.specs.declared.entries.Entry.TheVariants.{Posted}
use Rattle.faim_model.specs.Deliveries.{output_message}
use Rattle.faim_model.specs.Payloads.{output_payload}
use Rattle.faim_model.specs.Turns.{entry_at}
use Rattle.host_turns.proofs.GivenItems.{entry_given, entry_there, gives, is_some_at, payload_is, position_is, same_in_some, some_copied}
use Rattle.host_turns.proofs.payloads.write_output_at.Goals as goal

pub unwrap-entry-requires : goal.unwrap-entry-requires
unwrap-entry-requires c =
    let s = c.args.state.now in
    let g = gives s.config s.entries c.args.dest c.args.place c.requires in
    let at = entry_given s.config s.entries c.args.dest c.args.place g (c.outputs_stand_at_their_places.ensures s.config s.entries c.args.dest g.item g.there) in
    some_copied c.entry.result g.item.entry (c.entry.ensures ∙ at)

pub write_item-requires : goal.write_item-requires
write_item-requires c h body resent moment v is =
    let s = c.args.state.now in
    let found : c.entry.result ≡ Some c.unwrap-entry.result = cc (c.unwrap-entry.ensures) in
    let at : entry_at s.entries c.args.place ≡ Some c.unwrap-entry.result.now = sym c.entry.ensures ∙ ap (λ o. option_copied o) found in
    let there = entry_there s.entries c.args.place (Posted h body resent moment v) (at ∙ ap (λ (x : Entry). Some x) is) in
    let kept = c.posted_messages_are_sound.ensures s.config s.entries h body resent moment v c.config.ensures.lawful there in
    is_some_at (decoded Input body) kept.0 ((c.decoded_is_spelled.ensures.found Input body kept.0).1 (kept.1, kept.2))

pub returns-clause-ok : goal.returns-clause-ok
returns-clause-ok c =
    let s = c.args.state.now in
    let g = gives s.config s.entries c.args.dest c.args.place c.requires in
    let given = entry_given s.config s.entries c.args.dest c.args.place g (c.outputs_stand_at_their_places.ensures s.config s.entries c.args.dest g.item g.there) in
    let found : c.entry.result ≡ Some c.unwrap-entry.result = cc (c.unwrap-entry.ensures) in
    let kept : entry_at s.entries c.args.place ≡ Some c.unwrap-entry.result.now = sym c.entry.ensures ∙ ap (λ o. option_copied o) found in
    let position : c.position.result ≡ Some c.unwrap-at.result = cc (c.unwrap-at.ensures) in
    let is_at : g.item.at ≡ c.unwrap-at.result =
    same_in_some g.item.at c.unwrap-at.result (sym (position_is s.config s.entries c.args.dest c.args.place g) ∙ sym c.position.ensures ∙ position) in
    let is_entry : g.item.entry ≡ c.unwrap-entry.result.now = same_in_some g.item.entry c.unwrap-entry.result.now (sym given ∙ kept) in
    let whole : message_spelling (output_message c.config.result.now.env c.args.dest g.item c.args.mark) ≡ output_payload s.config s.entries c.args.dest c.args.place c.args.mark =
    ap (λ (k : Config). message_spelling (output_message k.env c.args.dest g.item c.args.mark)) c.config.ensures.value
    ∙ sym (payload_is s.config s.entries c.args.dest c.args.place c.args.mark g) in
    subst (λ (l : List ℕ). OnOk c.write_item.result (c.write_item.new.out.items ≡ c.args.out.now.items ++ l)) whole (c.write_item.ensures.ok g.item is_at is_entry)
