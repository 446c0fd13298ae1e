use Rattle.std.proofs.Common.{◌≡◌, ◌<◌, ◌++◌, ◌∙◌, ap, length, List, ℕ, arith, append_assoc, cond, subst}
use Rattle.std.specs.Prelude.{OnOk}
use Rattle.faim_message.specs.Forms.{between}
use Rattle.faim_model.specs.Submissions.{text_with}
use Rattle.std.specs.List.{flat_map}
use Rattle.faim_message.specs.declared.form.Form.TheVariants.{Input}
use Rattle.faim_message.specs.Decoded.{decoded}
use Rattle.faim_tags.specs.Spelling.{spelling}
use Rattle.host_turns.specs.HostTags.{tags_of}
use Rattle.host_turns.proofs.BreakBytes.{goes_on}
use Rattle.host_turns.proofs.GivenItems.{one_of_some}
use Rattle.host_turns.proofs.payloads.write_message.Goals as goal

pub break_in-requires : goal.break_in-requires
break_in-requires c =
    let body = c.args.body.now in
    let m = one_of_some (decoded Input body) c.requires in
    let s = (c.decoded_is_spelled.ensures.found Input body m.0).0 m.1 in
    (goes_on m.0 body s.0 s.1).long

pub write_text-requires : goal.write_text-requires
write_text-requires c =
    let body = c.args.body.now in
    let m = one_of_some (decoded Input body) c.requires in
    let s = (c.decoded_is_spelled.ensures.found Input body m.0).0 m.1 in
    let long : 18 < length body = (goes_on m.0 body s.0 s.1).long in
    omega (arith, long)

pub returns-clause-ok : goal.returns-clause-ok
returns-clause-ok c m read =
    let body = c.args.body.now in
    let begun = c.args.out.now.items in
    let text = text_with (cond c.args.resent 80 32) body in
    let broken : List ℕ → List ℕ = λ sep. flat_map (λ t. spelling t ++ sep) (tags_of c.args.tags.now) in
    let whole : c.write_host_tags.new.out.items ++ text_with c.submitted_mark.result body ≡ begun ++ (broken (between m.breaks) ++ text) =
    ap (λ (k : ℕ). c.write_host_tags.new.out.items ++ text_with k body) c.submitted_mark.ensures
    ∙ ap (λ (l : List ℕ). l ++ text) c.in_ok-write_host_tags.ensures.ok
    ∙ append_assoc begun (broken c.break_in.result.now) text
    ∙ ap (λ (sep : List ℕ). begun ++ (broken sep ++ text)) (c.break_in.ensures m read) in
    subst (λ (l : List ℕ). OnOk c.write_text.result (c.write_text.new.out.items ≡ l)) whole c.write_text.ensures.ok
