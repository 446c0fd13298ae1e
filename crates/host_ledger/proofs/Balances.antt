-- Balances with one entry more, and how large they grow.
use Rattle.std.proofs.Common.{◌≡◌, ◌≤◌, ◌<◌, ℕ, ◌+◌, ◌*◌, ◌^◌, Bool, true, false, cond, List, [], ◌∷◌, length, Option, Some, arith, ℤ, pos, ◌+ℤ◌, ◌-ℤ◌, ◌∙◌}
use Rattle.std.proofs.lemmas.Int.{ints, fits_signed_from_abs, int_wrap_fits, wrapping_add_is}
use Rattle.std.specs.Prelude.{if◌then◌else◌, bytes_eq, unsigned_abs}
use Rattle.std.specs.Int.{int_wrapping_add, w128}
use Rattle.std.specs.List.{AllByRecursion}
use Rattle.std.specs.Option.{option_map_or}
use Rattle.faim_base.specs.Numbers.{greatest_amount}
use Rattle.host_ledger.specs.declared.config.Account.{Account}
use Rattle.host_ledger.specs.declared.config.Config.{Config}
use Rattle.host_ledger.specs.declared.entries.Entry.{Entry}
use Rattle.host_ledger.specs.declared.entries.Entry.TheVariants.{Posted, Roll}
use Rattle.host_ledger.specs.Accounts.{account_in, opening_of}
use Rattle.host_ledger.specs.Soundness.{IsAccount, IsBalance, IsConfig}
use Rattle.host_ledger.specs.Sums.{balance, gives, takes, received, paid}
use Rattle.host_ledger.specs.Ledgers.{HasAmount}

one_more : (opening : ℤ) (r g p t : ℕ) → (opening +ℤ pos (r + g)) -ℤ pos (p + t) ≡ (((opening +ℤ pos r) -ℤ pos p) +ℤ pos g) -ℤ pos t
one_more opening r g p t = omega (arith, ints)

carried : (opening : ℤ) (r p : ℕ) → (opening +ℤ pos (r + 0)) -ℤ pos (p + 0) ≡ (opening +ℤ pos r) -ℤ pos p
carried opening r p = omega (arith, ints)

-- a Roll leaves every balance
pub roll_leaves : (c : Config) (older : List Entry) (moment date : ℕ) (aba : List ℕ) → balance c (Roll moment date ∷ older) aba ≡ balance c older aba
roll_leaves c older moment date aba = carried (opening_of c aba) (received older aba) (paid older aba)

-- an entry moves what it gives and what it takes
pub moves_by_entry : (c : Config) (x : Entry) (older : List Entry) (aba : List ℕ)
    → balance c (x ∷ older) aba ≡ (balance c older aba +ℤ pos (gives x aba)) -ℤ pos (takes x aba)
moves_by_entry c x older aba = one_more (opening_of c aba) (received older aba) (gives x aba) (paid older aba) (takes x aba)

chosen : (b : Bool) (n : ℕ) → n ≤ greatest_amount → (if b then n else 0) ≤ greatest_amount
chosen true n small = small
chosen false n small = omega arith

gives_small : (x : Entry) (aba : List ℕ) → HasAmount x → gives x aba ≤ greatest_amount
gives_small (Posted h body resent moment v) aba small = chosen _ h.amount small
gives_small (Roll moment date) aba small = omega arith

takes_small : (x : Entry) (aba : List ℕ) → HasAmount x → takes x aba ≤ greatest_amount
takes_small (Posted h body resent moment v) aba small = chosen _ h.amount small
takes_small (Roll moment date) aba small = omega arith

received_small : (es : List Entry) (aba : List ℕ) → AllByRecursion HasAmount es → received es aba ≤ greatest_amount * length es
received_small [] aba small = omega arith
received_small (x ∷ es) aba small =
    let before = received_small es aba small.1 in
    let here = gives_small x aba small.0 in
    omega arith

paid_small : (es : List Entry) (aba : List ℕ) → AllByRecursion HasAmount es → paid es aba ≤ greatest_amount * length es
paid_small [] aba small = omega arith
paid_small (x ∷ es) aba small =
    let before = paid_small es aba small.1 in
    let here = takes_small x aba small.0 in
    omega arith

first_or_rest : (b : Bool) (a : Account) (found : Option Account) → IsBalance a.opening → IsBalance (option_map_or (λ (x : Account). x.opening) found (pos 0))
    → IsBalance (option_map_or (λ (x : Account). x.opening) (cond b (Some a) found) (pos 0))
first_or_rest true a found here later = here
first_or_rest false a found here later = later

opening_small : (accounts : List Account) (aba : List ℕ) → AllByRecursion IsAccount accounts
    → IsBalance (option_map_or (λ (x : Account). x.opening) (account_in accounts aba) (pos 0))
opening_small [] aba each = omega arith
opening_small (a ∷ rest) aba each =
    first_or_rest (bytes_eq a.aba aba) a (account_in rest aba) each.0.opening (opening_small rest aba each.1)

-- far from the limits of an i128
abbrev pub IsNear : ℤ → Type 0
IsNear z = unsigned_abs z ≤ 2 ^ 105

near_sum : (opening : ℤ) (r p n : ℕ) → unsigned_abs opening ≤ greatest_amount → r ≤ greatest_amount * n → p ≤ greatest_amount * n → n ≤ 2 ^ 64
    → IsNear ((opening +ℤ pos r) -ℤ pos p)
near_sum opening r p n small received paid few = omega (arith, ints)

-- every balance of at most 2^64 entries is
pub balance_near : (c : Config) (es : List Entry) (aba : List ℕ) → IsConfig c → AllByRecursion HasAmount es → length es ≤ 2 ^ 64
    → IsNear (balance c es aba)
balance_near c es aba sound small few =
    near_sum (opening_of c aba) (received es aba) (paid es aba) (length es)
    (opening_small c.accounts aba sound.accounts.each) (received_small es aba small) (paid_small es aba small) few

sum_small : (b z : ℤ) → unsigned_abs b ≤ 2 ^ 106 → unsigned_abs z ≤ greatest_amount → unsigned_abs (b +ℤ z) < 2 ^ 127
sum_small b z near small = omega (arith, ints)

-- what the integers add up to is the sum
pub exact : (b z : ℤ) → unsigned_abs b ≤ 2 ^ 106 → unsigned_abs z ≤ greatest_amount → int_wrapping_add w128 b z ≡ b +ℤ z
exact b z near small =
    wrapping_add_is w128 b z (fits_signed_from_abs w128 b (omega arith)) (fits_signed_from_abs w128 z (omega arith))
    ∙ int_wrap_fits w128 (b +ℤ z) (fits_signed_from_abs w128 (b +ℤ z) (sum_small b z near small))
