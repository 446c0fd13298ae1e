use Rattle.std.proofs.Common.{◌≡◌, ◌++◌, ◌∷◌, [], List, ℕ, refl, subst}
use Rattle.std.specs.Prelude.{OnOk}
use Rattle.faim_tags.specs.Spelling.{spelling}
use Rattle.faim_message.specs.Spelling.{joined}
use Rattle.faim_model.specs.Deliveries.{next_tag}
use Rattle.faim_model.specs.ServiceTags.{moment_tag, output_tag, status_tag}
use Rattle.host_turns.specs.HostTags.{tags_of}
use Rattle.host_turns.proofs.Appended.{four_joined}
use Rattle.host_turns.proofs.payloads.write_end.Goals as goal

pub returns-clause-ok : goal.returns-clause-ok
returns-clause-ok c =
    let t = c.args.tags.now in
    let next = next_tag c.args.date in
    let begun = c.args.out.now.items in
    let host = c.write_host_tags.new.out.items in
    let whole : host ++ spelling next ≡ begun ++ joined [] [] (tags_of t ++ next ∷ []) =
    four_joined begun host (host ++ spelling next) (status_tag t.env t.mark t.status) (moment_tag t.moment) (output_tag t.at t.dest t.moment) next c.in_ok-write_host_tags.ensures.ok refl in
    subst (λ (l : List ℕ). OnOk c.write_next.result (c.write_next.new.out.items ≡ l)) whole c.write_next.ensures.ok
