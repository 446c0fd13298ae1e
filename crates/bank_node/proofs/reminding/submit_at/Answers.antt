use Rattle.std.proofs.Common.{◌≡◌, ◌++◌, ◌∷◌, [], ap, subst, ◌∙◌}
use Rattle.std.specs.Prelude.{OnOk}
use Rattle.link_frames.specs.Frames.{Content as Frame, frame_bytes}
use Rattle.bank_books.specs.State.{BankList}
use Rattle.bank_node.proofs.Reminded.{found_fits, none_unfound, submits, text_at}
use Rattle.bank_node.proofs.reminding.submit_at.Goals as goal

pub send_submission-requires : goal.send_submission-requires
send_submission-requires c =
    let list = c.args.list.now in
    let place = c.args.place in
    found_fits list.opening list.entries place c.books-books.ensures.kept c.requires c.in-Some.text.now
    (c.in-Some.ensures ∙ ap (λ (b : BankList). text_at b.entries place) c.books-books.ensures.value)

pub unreachable-requires : goal.unreachable-requires
unreachable-requires c =
    let place = c.args.place in
    none_unfound c.args.list.now.entries place c.requires
    (c.in-None.ensures ∙ ap (λ (b : BankList). text_at b.entries place) c.books-books.ensures.value)

pub returns : goal.returns
returns c d stands =
    let list = c.args.list.now in
    let place = c.args.place in
    subst (λ (f : Frame). OnOk c.send_submission.result (c.send_submission.new.outbox ≡ c.args.outbox.now ++ frame_bytes f ∷ []))
    (submits list.opening list.entries place c.books-books.ensures.kept d stands c.opening.result.now.endpoint c.in-Some.text.now
    (ap (λ o. o.endpoint) c.opening.ensures.value ∙ ap (λ (b : BankList). b.opening.endpoint) c.books-books.ensures.value)
    (c.in-Some.ensures ∙ ap (λ (b : BankList). text_at b.entries place) c.books-books.ensures.value))
    c.send_submission.ensures
