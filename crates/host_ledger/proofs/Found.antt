-- What is kept of an account that is found.
use Rattle.std.proofs.Common.{◌≡◌, ℕ, Bool, true, false, cond, not, ◌&&◌, List, [], ◌∷◌, Option, Some, None, is_some, refl, sym, ◌∙◌, ap, pos, ◌-ℤ◌}
use Rattle.std.specs.Prelude.{bytes_eq, if◌then◌else◌, int_lt}
use Rattle.std.specs.Option.{option_map, option_map_or}
use Rattle.std.proofs.lemmas.Slice.Eq.{bytes_eq-Decides}
use Rattle.faim_base.specs.declared.judgement.Head.{Head}
use Rattle.host_ledger.specs.declared.config.Account.{Account}
use Rattle.host_ledger.specs.declared.config.Config.{Config}
use Rattle.host_ledger.specs.declared.entries.Entry.{Entry}
use Rattle.host_ledger.specs.declared.funds.Funds.{Funds}
use Rattle.host_ledger.specs.Accounts.{account_in, account_of, floor_of}
use Rattle.host_ledger.specs.Sums.{balance, is_below_floor, moves_money}
use Rattle.host_ledger.specs.Tables.{funds_after}

own_step : (x : Account) (rest : List Account) (aba : List ℕ) (a : Account) (same : Bool) → bytes_eq x.aba aba ≡ same
    → cond same (Some x) (account_in rest aba) ≡ Some a → (account_in rest aba ≡ Some a → a.aba ≡ aba) → a.aba ≡ aba
own_step x rest aba a true test is later =
    let own : x ≡ a = cc in sym (ap (λ (y : Account). y.aba) own) ∙ (bytes_eq-Decides x.aba aba).0 test
own_step x rest aba a false test is later = later is

own_number : (accounts : List Account) (aba : List ℕ) (a : Account) → account_in accounts aba ≡ Some a → a.aba ≡ aba
own_number [] aba a is = absurd cc
own_number (x ∷ rest) aba a is = own_step x rest aba a (bytes_eq x.aba aba) refl is (own_number rest aba a)

-- its balance is the one of its number
pub balance_found : (c : Config) (es : List Entry) (aba : List ℕ) (found : Option Account) → account_of c aba ≡ found
    → (f : Funds) → Some f ≡ option_map (funds_after c es) found → Some f.balance ≡ (if is_some found then Some (balance c es aba) else None)
balance_found c es aba None there f is = absurd cc
balance_found c es aba (Some a) there f is =
    let own : f ≡ funds_after c es a = cc in
    ap (λ (x : Funds). Some x.balance) own ∙ ap (λ (n : List ℕ). Some (balance c es n)) (own_number c.accounts aba a there)

-- and its floor too, so that it tells whether a message goes below it
pub floor_kept : (c : Config) (es : List Entry) (h : Head) (found : Option Account) → account_of c h.sender ≡ found
    → (f : Funds) (n : ℕ) (covers : Bool) → Some f ≡ option_map (funds_after c es) found → n ≡ h.amount → moves_money h ≡ true
    → covers ≡ not (int_lt (f.balance -ℤ pos n) f.floor) → covers ≡ not (is_below_floor c es h)
floor_kept c es h None there f n covers is same does_move tells = absurd cc
floor_kept c es h (Some a) there f n covers is same does_move tells =
    let own : f ≡ funds_after c es a = cc in
    tells
    ∙ ap (λ (x : Funds). not (int_lt (x.balance -ℤ pos n) x.floor)) own
    ∙ ap (λ (m : List ℕ). not (int_lt (balance c es m -ℤ pos n) a.floor)) (own_number c.accounts h.sender a there)
    ∙ ap (λ (o : Option Account). not (int_lt (balance c es h.sender -ℤ pos n) (option_map_or (λ (y : Account). y.floor) o (pos 0)))) (sym there)
    ∙ ap (λ (m : ℕ). not (int_lt (balance c es h.sender -ℤ pos m) (floor_of c h.sender))) same
    ∙ sym (ap (λ (b : Bool). not (b && int_lt (balance c es h.sender -ℤ pos h.amount) (floor_of c h.sender))) does_move)
