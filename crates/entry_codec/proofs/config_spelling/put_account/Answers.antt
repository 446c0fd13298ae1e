use Rattle.std.proofs.Common.{rules, ℕ, List, ◌++◌, SFits, w64, ◌∙◌, ap}
use Rattle.std.specs.Prelude.{ℤ}
use Rattle.std.proofs.lemmas.Int.{to_z-of_z}
use Rattle.entry_codec.specs.Config.{balance_bytes}
use Rattle.entry_codec.proofs.Appends.{onward}
use Rattle.entry_codec.proofs.config_spelling.put_account.Goals as goal

pub returns-clause-ok : goal.returns-clause-ok
returns-clause-ok c =
    let account = c.args.account.now in
    let opening : SFits w64 c.args.account.now.opening = search rules in
    let floor : SFits w64 c.args.account.now.floor = search rules in
    let start = c.args.out.now.items in
    let one = c.extend_from_slice.new.self.items in
    let two = c.extend_from_slice-2.new.self.items in
    let three = c.put_balance.new.out.items in
    let o = balance_bytes account.opening in
    let f = balance_bytes account.floor in
    (c.in_ok-put_balance-2.ensures.ok ∙ ap (λ (z : ℤ). three ++ balance_bytes z) (to_z-of_z w64 account.floor floor))
    ∙ onward two three o f (c.in_ok-put_balance.ensures.ok ∙ ap (λ (z : ℤ). two ++ balance_bytes z) (to_z-of_z w64 account.opening opening))
    ∙ onward one two account.endpoint (o ++ f) (c.in_ok-extend_from_slice-2.ensures.items ∙ ap (λ (t : List ℕ). one ++ t) c.bytes-2.ensures.value)
    ∙ onward start one account.aba (account.endpoint ++ (o ++ f)) (c.in_ok-extend_from_slice.ensures.items ∙ ap (λ (t : List ℕ). start ++ t) c.bytes.ensures.value)
