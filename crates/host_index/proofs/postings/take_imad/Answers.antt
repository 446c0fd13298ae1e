use Rattle.std.proofs.Common.{◌≡◌, ◌-◌, ℕ, map, length, take, ◌∙◌, ap, arith}
use Rattle.std.proofs.lemmas.List.{length-map}
use Rattle.host_index.specs.Tables.{posted_of}
use Rattle.host_index.proofs.Found.{first_imads}
use Rattle.host_index.proofs.postings.take_imad.Goals as goal

pub returns : goal.returns
returns c =
    let es = c.args.posted.now.entries in
    let same = length-map es posted_of in
    let left : c.saturating_sub-left.result ≡ length (map posted_of es) - 1 = omega (arith, same, c.saturating_sub-left.ensures, c.len.ensures.len) in
    ap (map posted_of) c.truncate.ensures.entries ∙ first_imads c.saturating_sub-left.result es ∙ ap (λ (n : ℕ). take n (map posted_of es)) left
