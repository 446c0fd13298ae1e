use Rattle.std.proofs.Common.{◌≡◌, ℕ, ◌+◌, ◌<◌, List, [], ◌∷◌, ◌++◌, length, take, get_or, sym, ◌∙◌, ap, append_assoc}
use Rattle.std.specs.List.{flat_map}
use Rattle.std.proofs.lemmas.List.{flat_map_more, take_more}
use Rattle.std.proofs.lemmas.Result.{err_from_is_err_and}
use Rattle.host_ledger.specs.declared.config.Account.{Account}
use Rattle.entry_codec.specs.Spelling.{Keeps}
use Rattle.entry_codec.specs.Config.{account_bytes}
use Rattle.entry_codec.proofs.config_spelling.put_each.Goals as goal

-- one account more
grown : (start before after : List ℕ) (accounts : List Account) (i : ℕ) (a : Account) → i < length accounts → a ≡ get_or accounts i a → before ≡ start ++ flat_map account_bytes (take i accounts) → after ≡ before ++ account_bytes a → after ≡ start ++ flat_map account_bytes (take (i + 1) accounts)
grown start before after accounts i a lt is so_far one =
    one
    ∙ ap (λ (t : List ℕ). t ++ account_bytes a) so_far
    ∙ flat_map_more account_bytes start (take i accounts) a
    ∙ ap (λ (l : List Account). start ++ flat_map account_bytes l) (ap (λ (x : Account). take i accounts ++ x ∷ []) is ∙ sym (take_more accounts i a lt))

keeps_on : (start before after piece : List ℕ) → before ≡ start ++ piece → Keeps before after → Keeps start after
keeps_on start before after piece so_far kept = (piece ++ kept.0, kept.1 ∙ ap (λ (t : List ℕ). t ++ kept.0) so_far ∙ append_assoc start piece kept.0)

pub returns-in_err-put_account-clause-err : goal.returns-in_err-put_account-clause-err
returns-in_err-put_account-clause-err c =
    let p = err_from_is_err_and c.from_residual.result c.from_residual.ensures.1 in
    rw (p.1) (keeps_on c.args.out.now.items c.loop-account.out.items c.put_account.new.out.items (flat_map account_bytes (take c.loop-account.account-index c.args.accounts.now)) c.loop-account.invariant c.in_err-put_account.ensures.err)

pub loop-account-preserved : goal.loop-account-preserved
loop-account-preserved c = grown c.args.out.now.items c.loop-account.out.items c.put_account.new.out.items c.args.accounts.now c.loop-account.account-index c.account-item.result c.loop-account-test.true c.account-item.is c.loop-account.invariant c.in_ok-put_account.ensures.ok
