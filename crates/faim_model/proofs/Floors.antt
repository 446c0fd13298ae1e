-- No balance is lower than its account's floor and opening.
use Rattle.std.proofs.Common.{◌≡◌, refl, ap, subst, ℕ, Bool, true, false, ◌&&◌, List, [], ◌∷◌, Option, cond, if◌then◌else◌, arith, ℤ, pos, ◌+ℤ◌, ◌-ℤ◌, ◌≤ℤ◌}
use Rattle.std.proofs.lemmas.Int.{ints}
use Rattle.std.specs.Int.{int_min}
use Rattle.std.specs.Prelude.{int_lt}
use Rattle.std.specs.List.{Contains}
use Rattle.std.specs.Option.{option_map_or}
use Rattle.std.specs.Str.{bytes_eq}
use Rattle.faim_base.specs.declared.judgement.Verdict.TheVariants.{Taken, Refused}
use Rattle.host_ledger.specs.declared.config.Account.{Account}
use Rattle.host_ledger.specs.declared.config.Config.{Config}
use Rattle.host_ledger.specs.declared.entries.Entry.{Entry}
use Rattle.host_ledger.specs.declared.entries.Entry.TheVariants.{Posted, Roll}
use Rattle.host_ledger.specs.Soundness.{IsConfig}
use Rattle.host_ledger.specs.Accounts.{floor_of, opening_of}
use Rattle.host_ledger.specs.Sums.{balance, gives, moves_money, takes}
use Rattle.faim_model.specs.Lawful.{Lawful}
use Rattle.host_ledger.proofs.Balances.{moves_by_entry}
use Rattle.faim_model.proofs.Balances.{leaves_floor}
use Rattle.faim_model.proofs.Imads.{bytes_equal}
use Rattle.faim_model.proofs.OwnAccounts.{found_by_number, sound_apart}

min_by : (x y : ℤ) (below : Bool) → int_lt y x ≡ below → (cond below y x ≤ℤ x) × (cond below y x ≤ℤ y)
min_by x y true test = (grind (arith, ints), omega (arith, ints))
min_by x y false test = (omega (arith, ints), grind (arith, ints))

min_is_least : (x y : ℤ) → (int_min x y ≤ℤ x) × (int_min x y ≤ℤ y)
min_is_least x y = min_by x y (int_lt y x) refl

-- a balance that moves stays at or above the lowest, where a payer's stays at or above the floor
stays_above : (lowest floor before : ℤ) (n : ℕ) (moves to_it from_it : Bool) → lowest ≤ℤ floor → lowest ≤ℤ before
    → (moves ≡ true → from_it ≡ true → floor ≤ℤ (before -ℤ pos n))
    → lowest ≤ℤ ((before +ℤ pos (if moves && to_it then n else 0)) -ℤ pos (if moves && from_it then n else 0))
stays_above lowest floor before n false to_it from_it under above pays = omega (arith, ints)
stays_above lowest floor before n true true false under above pays = omega (arith, ints)
stays_above lowest floor before n true false false under above pays = omega (arith, ints)
stays_above lowest floor before n true true true under above pays =
    let left : floor ≤ℤ (before -ℤ pos n) = pays refl refl in omega (arith, ints)
stays_above lowest floor before n true false true under above pays =
    let left : floor ≤ℤ (before -ℤ pos n) = pays refl refl in omega (arith, ints)

at_opening : (floor opening : ℤ) → int_min floor opening ≤ℤ ((opening +ℤ pos 0) -ℤ pos 0)
at_opening floor opening = let least : int_min floor opening ≤ℤ opening = (min_is_least floor opening).1 in omega (arith, ints)

above_by : (lowest before after : ℤ) (g t : ℕ) → after ≡ (before +ℤ pos g) -ℤ pos t → lowest ≤ℤ ((before +ℤ pos g) -ℤ pos t) → lowest ≤ℤ after
above_by lowest before after g t moved above = omega (arith, ints)

-- at each number
above_lowest : (c : Config) (es : List Entry) → Lawful c es → (aba : List ℕ) → int_min (floor_of c aba) (opening_of c aba) ≤ℤ balance c es aba
above_lowest c [] lawful aba = at_opening (floor_of c aba) (opening_of c aba)
above_lowest c (Roll moment date ∷ older) lawful aba =
    let x : Entry = Roll moment date in
    above_by (int_min (floor_of c aba) (opening_of c aba)) (balance c older aba) (balance c (x ∷ older) aba) 0 0 (moves_by_entry c x older aba)
    (let above : int_min (floor_of c aba) (opening_of c aba) ≤ℤ balance c older aba = above_lowest c older lawful.1 aba in omega (arith, ints))
above_lowest c (Posted h body resent moment (Refused why) ∷ older) lawful aba =
    let x : Entry = Posted h body resent moment (Refused why) in
    above_by (int_min (floor_of c aba) (opening_of c aba)) (balance c older aba) (balance c (x ∷ older) aba) 0 0 (moves_by_entry c x older aba)
    (let above : int_min (floor_of c aba) (opening_of c aba) ≤ℤ balance c older aba = above_lowest c older lawful.1 aba in omega (arith, ints))
above_lowest c (Posted h body resent moment (Taken dest seq) ∷ older) lawful aba =
    let x : Entry = Posted h body resent moment (Taken dest seq) in
    let lowest : ℤ = int_min (floor_of c aba) (opening_of c aba) in
    let pays : moves_money h ≡ true → bytes_eq h.sender aba ≡ true → floor_of c aba ≤ℤ (balance c older aba -ℤ pos h.amount) =
    λ moves same. subst (λ (y : List ℕ). floor_of c y ≤ℤ (balance c older y -ℤ pos h.amount)) (bytes_equal h.sender aba same)
    (leaves_floor c older h body resent moment dest seq lawful moves) in
    above_by lowest (balance c older aba) (balance c (x ∷ older) aba) (gives x aba) (takes x aba) (moves_by_entry c x older aba)
    (stays_above lowest (floor_of c aba) (balance c older aba) h.amount (moves_money h) (bytes_eq h.receiver aba) (bytes_eq h.sender aba)
    (min_is_least (floor_of c aba) (opening_of c aba)).0 (above_lowest c older lawful.1 aba) pays)

pub floors_kept : (c : Config) (es : List Entry) (a : Account) → IsConfig c → Lawful c es
    → Contains c.accounts a → int_min a.floor a.opening ≤ℤ balance c es a.aba
floors_kept c es a sound lawful there =
    let found = found_by_number c.accounts (sound_apart c sound) a there in
    let floor : floor_of c a.aba ≡ a.floor = ap (λ (o : Option Account). option_map_or (λ (b : Account). b.floor) o (pos 0)) found in
    let opening : opening_of c a.aba ≡ a.opening = ap (λ (o : Option Account). option_map_or (λ (b : Account). b.opening) o (pos 0)) found in
    let above : int_min (floor_of c a.aba) (opening_of c a.aba) ≤ℤ balance c es a.aba = above_lowest c es lawful a.aba in
    subst (λ (z : ℤ). int_min z a.opening ≤ℤ balance c es a.aba) floor (subst (λ (z : ℤ). int_min (floor_of c a.aba) z ≤ℤ balance c es a.aba) opening above)
