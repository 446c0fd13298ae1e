-- The rows of a ledger's table: what is found in them, and what a transfer makes of them.
use Rattle.std.proofs.Common.{◌≡◌, ◌≤◌, ◌<◌, ◌^◌, ℕ, Bool, true, false, cond, ◌&&◌, List, [], ◌∷◌, length, map, Some, refl, sym, ◌∙◌, ap, subst, arith, ℤ, pos, neg_ℤ, ◌+ℤ◌, ◌-ℤ◌}
use Rattle.std.specs.Prelude.{bytes_eq, if◌then◌else◌, unsigned_abs}
use Rattle.std.specs.Int.{int_wrapping_add, w128}
use Rattle.std.specs.List.{AllByRecursion, IsDistinct}
use Rattle.std.specs.Map.{lookup}
use Rattle.std.specs.Option.{option_map}
use Rattle.std.proofs.lemmas.Int.{ints}
use Rattle.std.proofs.lemmas.Map.Keys.{IsDistinct-head, IsDistinct-tail}
use Rattle.std.proofs.lemmas.Slice.Eq.{bytes_eq-Decides}
use Rattle.faim_base.specs.Numbers.{IsAmount, greatest_amount}
use Rattle.faim_base.specs.declared.judgement.Head.{Head}
use Rattle.faim_base.specs.declared.judgement.Verdict.{Verdict}
use Rattle.host_ledger.specs.declared.config.Account.{Account}
use Rattle.host_ledger.specs.declared.config.Config.{Config}
use Rattle.host_ledger.specs.declared.entries.Entry.{Entry}
use Rattle.host_ledger.specs.declared.entries.Entry.TheVariants.{Posted}
use Rattle.host_ledger.specs.declared.funds.Funds.{Funds}
use Rattle.host_ledger.specs.Accounts.{account_in}
use Rattle.host_ledger.specs.Soundness.{IsConfig, numbers_of}
use Rattle.host_ledger.specs.Sums.{balance, is_taken, moves_money}
use Rattle.host_ledger.specs.Ledgers.{Row, Stands, row_after}
use Rattle.host_ledger.specs.Tables.{added, funds_after, row_of, rows_in, with_cents}
use Rattle.host_ledger.proofs.Balances.{IsNear, balance_near, exact, moves_by_entry}
use Rattle.host_ledger.proofs.EndpointLists.{bytes_eq_sym}

funds_of_row : (e : List ℕ × Funds) (r : Row) → row_of e ≡ r → e.1 ≡ record { endpoint = r.endpoint; floor = r.floor; balance = r.balance }
funds_of_row e r same = λ i. record { endpoint = (same i).endpoint; floor = (same i).floor; balance = (same i).balance }

found_step : (c : Config) (es : List Entry) (aba : List ℕ) (a : Account) (rest : List Account) (e : List ℕ × Funds) (table : List (List ℕ × Funds))
    → row_of e ≡ row_after c es a → lookup (bytes_eq aba) table ≡ option_map (funds_after c es) (account_in rest aba)
    → (same : Bool) → bytes_eq aba e.0 ≡ same
    → cond same (Some e.1) (lookup (bytes_eq aba) table) ≡ option_map (funds_after c es) (account_in (a ∷ rest) aba)
found_step c es aba a rest e table is later true test =
    let own : bytes_eq a.aba aba ≡ true = bytes_eq_sym a.aba aba ∙ ap (λ (r : Row). bytes_eq aba r.aba) (sym is) ∙ test in
    ap (λ (f : Funds). Some f) (funds_of_row e (row_after c es a) is)
    ∙ sym (ap (λ (b : Bool). option_map (funds_after c es) (cond b (Some a) (account_in rest aba))) own)
found_step c es aba a rest e table is later false test =
    let other : bytes_eq a.aba aba ≡ false = bytes_eq_sym a.aba aba ∙ ap (λ (r : Row). bytes_eq aba r.aba) (sym is) ∙ test in
    later ∙ sym (ap (λ (b : Bool). option_map (funds_after c es) (cond b (Some a) (account_in rest aba))) other)

pub first_row : (r q : Row) (rs qs : List Row) → r ∷ rs ≡ q ∷ qs → r ≡ q
first_row r q rs qs same = cc

pub other_rows : (r q : Row) (rs qs : List Row) → r ∷ rs ≡ q ∷ qs → rs ≡ qs
other_rows r q rs qs same = cc

-- the table finds what is kept of an account
pub found_in : (c : Config) (es : List Entry) (aba : List ℕ) (accounts : List Account) (table : List (List ℕ × Funds))
    → rows_in table ≡ map (row_after c es) accounts → lookup (bytes_eq aba) table ≡ option_map (funds_after c es) (account_in accounts aba)
found_in c es aba [] [] same = refl
found_in c es aba [] (e ∷ table) same = absurd cc
found_in c es aba (a ∷ rest) [] same = absurd cc
found_in c es aba (a ∷ rest) (e ∷ table) same =
    found_step c es aba a rest e table (first_row (row_of e) (row_after c es a) (rows_in table) (map (row_after c es) rest) same)
    (found_in c es aba rest table (other_rows (row_of e) (row_after c es a) (rows_in table) (map (row_after c es) rest) same))
    (bytes_eq aba e.0) refl

-- an account with its balance
abbrev pub with_balance : (List ℕ → ℤ) → Account → Row
with_balance bal a = record { aba = a.aba; endpoint = a.endpoint; floor = a.floor; balance = bal a.aba }

-- balances with cents more at one number
abbrev pub moved : List ℕ → ℤ → (List ℕ → ℤ) → List ℕ → ℤ
moved aba cents bal n = if bytes_eq aba n then bal n +ℤ cents else bal n

-- the rows of accounts with other numbers
pub others_agree : (f g : Account → Row) (aba : List ℕ) (accounts : List Account) → AllByRecursion (λ y. bytes_eq aba y ≡ false) (numbers_of accounts)
    → ((a : Account) → bytes_eq aba a.aba ≡ false → f a ≡ g a) → map f accounts ≡ map g accounts
others_agree f g aba [] differ same = refl
others_agree f g aba (a ∷ rest) differ same =
    let here : f a ≡ g a = same a differ.0 in
    let later : map f rest ≡ map g rest = others_agree f g aba rest differ.1 same in
    λ i. here i ∷ later i

unmoved : (aba : List ℕ) (cents : ℤ) (bal : List ℕ → ℤ) (a : Account) → bytes_eq aba a.aba ≡ false → with_balance bal a ≡ with_balance (moved aba cents bal) a
unmoved aba cents bal a other =
    sym (ap (λ (b : Bool). record { aba = a.aba; endpoint = a.endpoint; floor = a.floor; balance = if b then bal a.aba +ℤ cents else bal a.aba }) other)

module _ (aba : List ℕ) (cents : ℤ) (bal : List ℕ → ℤ) (exactly : (n : List ℕ) → int_wrapping_add w128 (bal n) cents ≡ bal n +ℤ cents) where
  added_step : (a : Account) (rest : List Account) → AllByRecursion (λ y. bytes_eq a.aba y ≡ false) (numbers_of rest)
      → added aba cents (map (with_balance bal) rest) ≡ map (with_balance (moved aba cents bal)) rest
      → (same : Bool) → bytes_eq aba a.aba ≡ same
      → (if same then with_cents cents (with_balance bal a) ∷ map (with_balance bal) rest else with_balance bal a ∷ added aba cents (map (with_balance bal) rest))
      ≡ map (with_balance (moved aba cents bal)) (a ∷ rest)
  added_step a rest differ later true test =
      let own : aba ≡ a.aba = (bytes_eq-Decides aba a.aba).0 test in
      let apart : AllByRecursion (λ y. bytes_eq aba y ≡ false) (numbers_of rest) = subst (λ (n : List ℕ). AllByRecursion (λ y. bytes_eq n y ≡ false) (numbers_of rest)) (sym own) differ in
      let rows = others_agree (with_balance bal) (with_balance (moved aba cents bal)) aba rest apart (unmoved aba cents bal) in
      let here : int_wrapping_add w128 (bal a.aba) cents ≡ moved aba cents bal a.aba =
      exactly a.aba ∙ sym (ap (λ (b : Bool). if b then bal a.aba +ℤ cents else bal a.aba) test) in
      λ i. record { aba = a.aba; endpoint = a.endpoint; floor = a.floor; balance = here i } ∷ rows i
  added_step a rest differ later false test =
      let here = unmoved aba cents bal a test in
      λ i. here i ∷ later i

  -- cents added to the account that has a number
  pub added_to : (accounts : List Account) → IsDistinct bytes_eq (numbers_of accounts)
      → added aba cents (map (with_balance bal) accounts) ≡ map (with_balance (moved aba cents bal)) accounts
  added_to [] distinct = refl
  added_to (a ∷ rest) distinct =
      added_step a rest (IsDistinct-head bytes_eq a.aba (numbers_of rest) distinct)
      (added_to rest (IsDistinct-tail bytes_eq a.aba (numbers_of rest) distinct))
      (bytes_eq aba a.aba) refl

still_near : (b : ℤ) (amount : ℕ) (takes : Bool) → IsNear b → IsAmount amount → unsigned_abs (if takes then b +ℤ neg_ℤ (pos amount) else b) ≤ 2 ^ 106
still_near b amount true near small = omega (arith, ints)
still_near b amount false near small = omega arith

of_near : (b : ℤ) → IsNear b → unsigned_abs b ≤ 2 ^ 106
of_near b near = omega arith

minus_small : (amount : ℕ) → IsAmount amount → unsigned_abs (neg_ℤ (pos amount)) ≤ greatest_amount
minus_small amount small = omega (arith, ints)

-- what a transfer makes of balances, and of the rows with them
abbrev pub transferred : List ℕ → List ℕ → ℕ → (List ℕ → ℤ) → List ℕ → ℤ
transferred from to amount bal = moved to (pos amount) (moved from (neg_ℤ (pos amount)) bal)

transfer_rows : (from to : List ℕ) (amount : ℕ) (bal : List ℕ → ℤ) (accounts : List Account) → IsDistinct bytes_eq (numbers_of accounts)
    → ((n : List ℕ) → IsNear (bal n)) → IsAmount amount
    → added to (pos amount) (added from (neg_ℤ (pos amount)) (map (with_balance bal) accounts)) ≡ map (with_balance (transferred from to amount bal)) accounts
transfer_rows from to amount bal accounts distinct near small =
    ap (added to (pos amount))
    (added_to from (neg_ℤ (pos amount)) bal (λ n. exact (bal n) (neg_ℤ (pos amount)) (of_near (bal n) (near n)) (minus_small amount small)) accounts distinct)
    ∙ added_to to (pos amount) (moved from (neg_ℤ (pos amount)) bal)
    (λ n. exact (moved from (neg_ℤ (pos amount)) bal n) (pos amount) (still_near (bal n) amount (bytes_eq from n) (near n) small) small)
    accounts distinct

pub rows_agree : (f g : List ℕ → ℤ) → ((n : List ℕ) → f n ≡ g n) → (accounts : List Account) → map (with_balance f) accounts ≡ map (with_balance g) accounts
rows_agree f g same [] = refl
rows_agree f g same (a ∷ rest) =
    let here : f a.aba ≡ g a.aba = same a.aba in
    let later : map (with_balance f) rest ≡ map (with_balance g) rest = rows_agree f g same rest in
    λ i. record { aba = a.aba; endpoint = a.endpoint; floor = a.floor; balance = here i } ∷ later i

-- the cents that are moved, where the receiver and the sender are these or not
abbrev pub sum_moved : (taken moves give take : Bool) (b : ℤ) (n : ℕ) → ℤ
sum_moved taken moves give take b n = (b +ℤ pos (if taken && (moves && give) then n else 0)) -ℤ pos (if taken && (moves && take) then n else 0)

done : (taken moves give take : Bool) (b : ℤ) (n : ℕ) → taken && moves ≡ true
    → (if give then (if take then b +ℤ neg_ℤ (pos n) else b) +ℤ pos n else (if take then b +ℤ neg_ℤ (pos n) else b)) ≡ sum_moved taken moves give take b n
done true true true true b n does_move = omega (arith, ints)
done true true true false b n does_move = omega (arith, ints)
done true true false true b n does_move = omega (arith, ints)
done true true false false b n does_move = omega (arith, ints)
done true false give take b n does_move = absurd cc
done false moves give take b n does_move = absurd cc

undone : (taken moves give take : Bool) (b : ℤ) (n : ℕ) → taken && moves ≡ true
    → (if take then (if give then sum_moved taken moves give take b n +ℤ neg_ℤ (pos n) else sum_moved taken moves give take b n) +ℤ pos n
    else (if give then sum_moved taken moves give take b n +ℤ neg_ℤ (pos n) else sum_moved taken moves give take b n)) ≡ b
undone true true true true b n does_move = omega (arith, ints)
undone true true true false b n does_move = omega (arith, ints)
undone true true false true b n does_move = omega (arith, ints)
undone true true false false b n does_move = omega (arith, ints)
undone true false give take b n does_move = absurd cc
undone false moves give take b n does_move = absurd cc

unchanged : (taken moves give take : Bool) (b : ℤ) (n : ℕ) → taken && moves ≡ false → b ≡ sum_moved taken moves give take b n
unchanged true true give take b n stays = absurd cc
unchanged true false give take b n stays = omega (arith, ints)
unchanged false moves give take b n stays = omega (arith, ints)

module _ (c : Config) (es : List Entry) (h : Head) (body : List ℕ) (resent : Bool) (moment : ℕ) (v : Verdict) where
  abbrev posted : Entry
  posted = Posted h body resent moment v

  -- the ledger stands for one entry more where the amount went from the sender to the receiver
  pub applied : (before rows after : List Row) (n : ℕ) → IsConfig c → length es < 2 ^ 64 → IsAmount n → n ≡ h.amount → is_taken v && moves_money h ≡ true
      → before ≡ rows → after ≡ added h.receiver (pos n) (added h.sender (neg_ℤ (pos n)) before) → Stands rows c es → Stands after c (posted ∷ es)
  applied before rows after n sound few small same does_move is moves stands = record {
    accounts =
        moves ∙ ap (λ (l : List Row). added h.receiver (pos n) (added h.sender (neg_ℤ (pos n)) l)) (is ∙ stands.accounts)
        ∙ transfer_rows h.sender h.receiver n (balance c es) c.accounts sound.accounts.distinct
        (λ a. balance_near c es a sound stands.amounts (omega arith)) small
        ∙ rows_agree (transferred h.sender h.receiver n (balance c es)) (balance c (posted ∷ es))
        (λ a. done (is_taken v) (moves_money h) (bytes_eq h.receiver a) (bytes_eq h.sender a) (balance c es a) n does_move
        ∙ ap (λ (m : ℕ). sum_moved (is_taken v) (moves_money h) (bytes_eq h.receiver a) (bytes_eq h.sender a) (balance c es a) m) same
        ∙ sym (moves_by_entry c posted es a)) c.accounts;
    amounts = (subst IsAmount same small, stands.amounts);
  }

  moved_nothing : is_taken v && moves_money h ≡ false → (a : List ℕ) → balance c es a ≡ balance c (posted ∷ es) a
  moved_nothing stays a =
      unchanged (is_taken v) (moves_money h) (bytes_eq h.receiver a) (bytes_eq h.sender a) (balance c es a) h.amount stays
      ∙ sym (moves_by_entry c posted es a)

  -- and where nothing went, since the entry moves nothing
  pub kept : (rows : List Row) (n : ℕ) → IsAmount n → n ≡ h.amount → is_taken v && moves_money h ≡ false → Stands rows c es → Stands rows c (posted ∷ es)
  kept rows n small same stays stands = record {
    accounts = stands.accounts ∙ rows_agree (balance c es) (balance c (posted ∷ es)) (moved_nothing stays) c.accounts;
    amounts = (subst IsAmount same small, stands.amounts);
  }

  -- it stands for the entries before the last where the amount went back
  pub taken_back : (before rows after : List Row) (n : ℕ) → IsConfig c → length es < 2 ^ 64 → n ≡ h.amount → is_taken v && moves_money h ≡ true
      → before ≡ rows → after ≡ added h.sender (pos n) (added h.receiver (neg_ℤ (pos n)) before) → Stands rows c (posted ∷ es) → Stands after c es
  taken_back before rows after n sound few same does_move is moves stands = record {
    accounts =
        moves
        ∙ ap (λ (m : ℕ). added h.sender (pos m) (added h.receiver (neg_ℤ (pos m)) before)) same
        ∙ ap (λ (l : List Row). added h.sender (pos h.amount) (added h.receiver (neg_ℤ (pos h.amount)) l)) (is ∙ stands.accounts)
        ∙ transfer_rows h.receiver h.sender h.amount (balance c (posted ∷ es)) c.accounts sound.accounts.distinct
        (λ a. balance_near c (posted ∷ es) a sound stands.amounts (omega arith)) stands.amounts.0
        ∙ rows_agree (transferred h.receiver h.sender h.amount (balance c (posted ∷ es))) (balance c es)
        (λ a. ap (λ (b : ℤ). transferred h.receiver h.sender h.amount (λ (_ : List ℕ). b) a) (moves_by_entry c posted es a)
        ∙ undone (is_taken v) (moves_money h) (bytes_eq h.receiver a) (bytes_eq h.sender a) (balance c es a) h.amount does_move) c.accounts;
    amounts = stands.amounts.1;
  }

  pub left : (rows : List Row) → is_taken v && moves_money h ≡ false → Stands rows c (posted ∷ es) → Stands rows c es
  left rows stays stands = record {
    accounts = stands.accounts ∙ sym (rows_agree (balance c es) (balance c (posted ∷ es)) (moved_nothing stays) c.accounts);
    amounts = stands.amounts.1;
  }
