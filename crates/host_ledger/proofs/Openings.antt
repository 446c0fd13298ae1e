-- How a ledger's table begins, and how it changes.
use Rattle.std.proofs.Common.{◌≡◌, ◌<◌, ℕ, suc, zero, Bool, true, false, cond, List, [], ◌∷◌, ◌++◌, length, map, take, get_or, Some, None, refl, sym, ◌∙◌, ap, arith, ℤ, pos, ◌+ℤ◌, ◌-ℤ◌}
use Rattle.std.specs.Prelude.{bytes_eq, if◌then◌else◌}
use Rattle.std.specs.Int.{int_wrapping_add, w128}
use Rattle.std.specs.List.{AllByRecursion, IsDistinct}
use Rattle.std.specs.Map.{lookup, set_value}
use Rattle.std.specs.Option.{option_map_or}
use Rattle.std.proofs.lemmas.Int.{ints}
use Rattle.std.proofs.lemmas.List.{map-append}
use Rattle.std.proofs.lemmas.Map.Keys.{IsDistinct-head, IsDistinct-tail}
use Rattle.std.proofs.lemmas.Slice.Eq.{bytes_eq-Decides}
use Rattle.host_ledger.specs.declared.config.Account.{Account}
use Rattle.host_ledger.specs.declared.config.Config.{Config}
use Rattle.host_ledger.specs.declared.funds.Funds.{Funds}
use Rattle.host_ledger.specs.Accounts.{account_in, opening_of}
use Rattle.host_ledger.specs.Soundness.{IsConfig, numbers_of}
use Rattle.host_ledger.specs.Ledgers.{Row, Stands}
use Rattle.host_ledger.specs.Tables.{added, opened, row_of, rows_in, with_cents}
use Rattle.host_ledger.proofs.Rows.{first_row, other_rows, others_agree, rows_agree, with_balance}
use Rattle.host_ledger.proofs.EndpointLists.{bytes_eq_sym}

-- the openings of accounts, found by number
abbrev opening_in : List Account → List ℕ → ℤ
opening_in accounts aba = option_map_or (λ (a : Account). a.opening) (account_in accounts aba) (pos 0)

own_opening : (x : Account) (rest : List Account) → x.opening ≡ opening_in (x ∷ rest) x.aba
own_opening x rest =
    sym (ap (λ (b : Bool). option_map_or (λ (a : Account). a.opening) (cond b (Some x) (account_in rest x.aba)) (pos 0)) ((bytes_eq-Decides x.aba x.aba).1 refl))

later_opening : (x : Account) (rest : List Account) (a : Account) → bytes_eq x.aba a.aba ≡ false
    → with_balance (opening_in rest) a ≡ with_balance (opening_in (x ∷ rest)) a
later_opening x rest a other =
    let same : opening_in rest a.aba ≡ opening_in (x ∷ rest) a.aba =
    sym (ap (λ (b : Bool). option_map_or (λ (y : Account). y.opening) (cond b (Some x) (account_in rest a.aba)) (pos 0)) other) in
    λ i. record { aba = a.aba; endpoint = a.endpoint; floor = a.floor; balance = same i }

openings_found : (accounts : List Account) → IsDistinct bytes_eq (numbers_of accounts) → map opened accounts ≡ map (with_balance (opening_in accounts)) accounts
openings_found [] distinct = refl
openings_found (x ∷ rest) distinct =
    let here = own_opening x rest in
    let later : map opened rest ≡ map (with_balance (opening_in (x ∷ rest))) rest =
    openings_found rest (IsDistinct-tail bytes_eq x.aba (numbers_of rest) distinct)
    ∙ others_agree (with_balance (opening_in rest)) (with_balance (opening_in (x ∷ rest))) x.aba rest
    (IsDistinct-head bytes_eq x.aba (numbers_of rest) distinct) (later_opening x rest) in
    λ i. record { aba = x.aba; endpoint = x.endpoint; floor = x.floor; balance = here i } ∷ later i

nothing_moved : (z : ℤ) → z ≡ (z +ℤ pos 0) -ℤ pos 0
nothing_moved z = omega (arith, ints)

-- a table with the openings stands for no entries
pub stands_opened : (rows : List Row) (c : Config) → IsConfig c → rows ≡ map opened c.accounts → Stands rows c []
stands_opened rows c sound is = record {
  accounts = is ∙ openings_found c.accounts sound.accounts.distinct
      ∙ rows_agree (opening_of c) (λ n. (opening_of c n +ℤ pos 0) -ℤ pos 0) (λ n. nothing_moved (opening_of c n)) c.accounts;
  amounts = tt;
}

none_step : (aba : List ℕ) (x : Account) (e : List ℕ × Funds) (table : List (List ℕ × Funds)) → row_of e ≡ opened x → bytes_eq aba x.aba ≡ false
    → lookup (bytes_eq aba) table ≡ None → lookup (bytes_eq aba) (e ∷ table) ≡ None
none_step aba x e table is other none =
    ap (λ (b : Bool). cond b (Some e.1) (lookup (bytes_eq aba) table)) (ap (λ (r : Row). bytes_eq aba r.aba) is ∙ other) ∙ none

none_among : (aba : List ℕ) (accounts : List Account) (table : List (List ℕ × Funds)) → rows_in table ≡ map opened accounts
    → AllByRecursion (λ y. bytes_eq aba y ≡ false) (numbers_of accounts) → lookup (bytes_eq aba) table ≡ None
none_among aba [] [] same differ = refl
none_among aba [] (e ∷ table) same differ = absurd cc
none_among aba (x ∷ rest) [] same differ = absurd cc
none_among aba (x ∷ rest) (e ∷ table) same differ =
    none_step aba x e table (first_row (row_of e) (opened x) (rows_in table) (map opened rest) same) differ.0
    (none_among aba rest table (other_rows (row_of e) (opened x) (rows_in table) (map opened rest) same) differ.1)

number_at : (P : List ℕ → Type 0) (accounts : List Account) (i : ℕ) (a : Account) → AllByRecursion P (numbers_of accounts) → i < length accounts
    → P (get_or accounts i a).aba
number_at P [] i a all lt = absurd (omega arith)
number_at P (x ∷ rest) zero a all lt = all.0
number_at P (x ∷ rest) (suc i) a all lt = number_at P rest i a all.1 (omega arith)

differ_before : (accounts : List Account) (i : ℕ) (a : Account) → IsDistinct bytes_eq (numbers_of accounts) → i < length accounts
    → AllByRecursion (λ y. bytes_eq (get_or accounts i a).aba y ≡ false) (numbers_of (take i accounts))
differ_before [] i a distinct lt = absurd (omega arith)
differ_before (x ∷ rest) zero a distinct lt = tt
differ_before (x ∷ rest) (suc i) a distinct lt = (
  bytes_eq_sym (get_or rest i a).aba x.aba
      ∙ number_at (λ (y : List ℕ). bytes_eq x.aba y ≡ false) rest i a (IsDistinct-head bytes_eq x.aba (numbers_of rest) distinct) (omega arith),
  differ_before rest i a (IsDistinct-tail bytes_eq x.aba (numbers_of rest) distinct) (omega arith),
)

-- no account before another has its number
pub absent : (accounts : List Account) (i : ℕ) (a : Account) (table : List (List ℕ × Funds)) → IsDistinct bytes_eq (numbers_of accounts)
    → i < length accounts → a ≡ get_or accounts i a → rows_in table ≡ map opened (take i accounts) → lookup (bytes_eq a.aba) table ≡ None
absent accounts i a table distinct lt is same =
    ap (λ (x : Account). lookup (bytes_eq x.aba) table) is
    ∙ none_among (get_or accounts i a).aba (take i accounts) table same (differ_before accounts i a distinct lt)

-- what is kept of an account, with cents more
abbrev pub more : ℤ → Funds → Funds
more cents f = record { endpoint = f.endpoint; floor = f.floor; balance = int_wrapping_add w128 f.balance cents }

set_step : (aba : List ℕ) (cents : ℤ) (e : List ℕ × Funds) (table : List (List ℕ × Funds)) (f : Funds) (same : Bool) → bytes_eq aba e.0 ≡ same
    → Some f ≡ cond same (Some e.1) (lookup (bytes_eq aba) table)
    → (Some f ≡ lookup (bytes_eq aba) table → rows_in (set_value (bytes_eq aba) table (more cents f)) ≡ added aba cents (rows_in table))
    → rows_in (cond same ((e.0, more cents f) ∷ table) (e ∷ set_value (bytes_eq aba) table (more cents f)))
    ≡ (if same then with_cents cents (row_of e) ∷ rows_in table else row_of e ∷ added aba cents (rows_in table))
set_step aba cents e table f true test is later =
    let own : f ≡ e.1 = cc in ap (λ (x : Funds). row_of (e.0, more cents x) ∷ rows_in table) own
set_step aba cents e table f false test is later = ap (λ (l : List Row). row_of e ∷ l) (later is)

-- a table where cents were added to what is kept of an account
pub set_rows : (aba : List ℕ) (cents : ℤ) (table : List (List ℕ × Funds)) (f : Funds) → Some f ≡ lookup (bytes_eq aba) table
    → rows_in (set_value (bytes_eq aba) table (more cents f)) ≡ added aba cents (rows_in table)
set_rows aba cents [] f is = absurd cc
set_rows aba cents (e ∷ table) f is = set_step aba cents e table f (bytes_eq aba e.0) refl is (set_rows aba cents table f)

left_step : (aba : List ℕ) (cents : ℤ) (e : List ℕ × Funds) (table : List (List ℕ × Funds)) (same : Bool)
    → None ≡ cond same (Some e.1) (lookup (bytes_eq aba) table)
    → (None ≡ lookup (bytes_eq aba) table → rows_in table ≡ added aba cents (rows_in table))
    → rows_in (e ∷ table) ≡ (if same then with_cents cents (row_of e) ∷ rows_in table else row_of e ∷ added aba cents (rows_in table))
left_step aba cents e table true is later = absurd cc
left_step aba cents e table false is later = ap (λ (l : List Row). row_of e ∷ l) (later is)

-- a table without the account
pub left_rows : (aba : List ℕ) (cents : ℤ) (table : List (List ℕ × Funds)) → None ≡ lookup (bytes_eq aba) table → rows_in table ≡ added aba cents (rows_in table)
left_rows aba cents [] is = refl
left_rows aba cents (e ∷ table) is = left_step aba cents e table (bytes_eq aba e.0) is (left_rows aba cents table)

-- a table with an account more
pub opened_last : (old new : List (List ℕ × Funds)) (number : List ℕ) (f : Funds) (a : Account) → new ≡ old ++ (number, f) ∷ [] → number ≡ a.aba
    → f.floor ≡ a.floor → f.balance ≡ a.opening → f.endpoint ≡ a.endpoint → rows_in new ≡ rows_in old ++ opened a ∷ []
opened_last old new number f a is own floor balance endpoint =
    let one : row_of (number, f) ≡ opened a = λ i. record { aba = own i; endpoint = endpoint i; floor = floor i; balance = balance i } in
    ap rows_in is ∙ map-append row_of old ((number, f) ∷ []) ∙ ap (λ (r : Row). rows_in old ++ r ∷ []) one
