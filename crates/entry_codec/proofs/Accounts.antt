-- Accounts, read exactly, and read one after the other.
use Rattle.std.proofs.Common.{◌≡◌, ℕ, zero, suc, ◌^◌, ◌<◌, List, [], ◌∷◌, ◌++◌, length, Option, Some, None, refl, sym, ◌∙◌, ap, subst, append_assoc, arith}
use Rattle.std.specs.Prelude.{ℤ, pos, negsuc}
use Rattle.std.specs.Int.{w16, w64, to_be_bytes, cast_signed, cast_unsigned}
use Rattle.std.specs.List.{flat_map, AllByRecursion}
use Rattle.std.proofs.lemmas.Int.{of_z-to_z, to_z-of_z, fits_signed_from_abs}
use Rattle.std.proofs.lemmas.List.{append-nil}
use Rattle.faim_base.specs.Ranges.{IsEndpoint}
use Rattle.host_ledger.specs.declared.config.Account.{Account}
use Rattle.faim_base.specs.Ranges.{IsAba}
use Rattle.host_ledger.specs.Soundness.{IsBalance, IsAccount, AreAccounts}
use Rattle.entry_codec.specs.Reading.{◌>>=◌, number_at, endpoint_at, aba_at}
use Rattle.entry_codec.specs.Config.{balance_bytes, account_bytes, accounts_bytes, balance_at, account_at, some_accounts_at, accounts_at}
use Rattle.entry_codec.proofs.Codecs.{IsBytes, Takes, then_takes, Reads, some_is, step, step_again, reads16, reads64}
use Rattle.entry_codec.proofs.Pieces.{endpoint_reads, aba_reads}

abbrev piece : List ℕ → List ℕ
piece p = p

-- a number of eight bytes with a sign
abbrev IsSigned : ℤ → Type 0
IsSigned z = (cast_unsigned w64 z < 2 ^ 64) × (cast_signed w64 (cast_unsigned w64 z) ≡ z)

balance_reads : Reads balance_bytes IsSigned balance_at
balance_reads = record {
  takes = λ bytes x fits e.
      let s = step (to_be_bytes w64) (λ n. n < 2 ^ 64) (number_at w64) reads64 (λ (n : ℕ × List ℕ). Some (cast_signed w64 n.0, n.1)) bytes x fits e in
      let back = of_z-to_z w64 s.0.0 s.2 in
      subst (λ (y : ℤ × List ℕ). Takes bytes (balance_bytes y.0) y.1 × IsSigned y.0) (some_is (cast_signed w64 s.0.0, s.0.1) x s.3)
      (subst (λ n. Takes bytes (to_be_bytes w64 n) s.0.1) (sym back) s.1, (subst (λ n. n < 2 ^ 64) (sym back) s.2, ap (λ n. cast_signed w64 n) back));
  again = λ z rest fit.
      step_again (to_be_bytes w64) (λ n. n < 2 ^ 64) (number_at w64) reads64 (λ (n : ℕ × List ℕ). Some (cast_signed w64 n.0, n.1)) (cast_unsigned w64 z) rest fit.0
      ∙ ap (λ (y : ℤ). Some (y, rest)) fit.1;
}

-- an account that has a spelling, sound or not
pub record IsSpelled (a : Account) : Type 0 where
  pub aba : IsAba a.aba
  pub endpoint : IsEndpoint a.endpoint
  pub opening : IsSigned a.opening
  pub floor : IsSigned a.floor

balance_small : (z : ℤ) → IsBalance z → cast_unsigned w64 z < 2 ^ 64
balance_small (pos n) h = omega arith
balance_small (negsuc n) h = omega arith

balance_signed : (z : ℤ) → IsBalance z → IsSigned z
balance_signed z h = (balance_small z h, to_z-of_z w64 z (fits_signed_from_abs w64 z (omega (arith, h))))

-- a sound account has a spelling
sound_spelled : (a : Account) → IsAccount a → IsSpelled a
sound_spelled a sound = record { aba = sound.aba; endpoint = sound.endpoint; opening = balance_signed a.opening sound.opening; floor = balance_signed a.floor sound.floor }

each_spelled : (accounts : List Account) → AllByRecursion IsAccount accounts → AllByRecursion IsSpelled accounts
each_spelled [] sound = tt
each_spelled (a ∷ accounts) sound = (sound_spelled a sound.0, each_spelled accounts sound.1)

abbrev made : List ℕ → List ℕ → ℤ → ℤ → Account
made a e o f = record { aba = a; endpoint = e; opening = o; floor = f }

abbrev a3 : List ℕ → List ℕ → ℤ → ℤ × List ℕ → Option (Account × List ℕ)
a3 a e o f = Some (made a e o f.0, f.1)

abbrev a2 : List ℕ → List ℕ → ℤ × List ℕ → Option (Account × List ℕ)
a2 a e o = balance_at o.1 >>= a3 a e o.0

abbrev a1 : List ℕ → List ℕ × List ℕ → Option (Account × List ℕ)
a1 a e = balance_at e.1 >>= a2 a e.0

abbrev a0 : List ℕ × List ℕ → Option (Account × List ℕ)
a0 a = endpoint_at a.1 >>= a1 a.0

account_takes : (bytes : List ℕ) (x : Account × List ℕ) → IsBytes bytes → account_at bytes ≡ Some x → Takes bytes (account_bytes x.0) x.1 × IsSpelled x.0
unfolding account_at
account_takes bytes x fits e =
    let a = step piece IsAba aba_at aba_reads a0 bytes x fits e in
    let n = step piece IsEndpoint endpoint_at endpoint_reads (a1 a.0.0) a.0.1 x a.1.fits a.3 in
    let o = step balance_bytes IsSigned balance_at balance_reads (a2 a.0.0 n.0.0) n.0.1 x n.1.fits n.3 in
    let f = step balance_bytes IsSigned balance_at balance_reads (a3 a.0.0 n.0.0 o.0.0) o.0.1 x o.1.fits o.3 in
    let t2 = then_takes n.0.1 (balance_bytes o.0.0) o.0.1 (balance_bytes f.0.0) f.0.1 o.1 f.1 in
    let t1 = then_takes a.0.1 n.0.0 n.0.1 (balance_bytes o.0.0 ++ balance_bytes f.0.0) f.0.1 n.1 t2 in
    let t0 = then_takes bytes a.0.0 a.0.1 (n.0.0 ++ (balance_bytes o.0.0 ++ balance_bytes f.0.0)) f.0.1 a.1 t1 in
    subst (λ (y : Account × List ℕ). Takes bytes (account_bytes y.0) y.1 × IsSpelled y.0) (some_is (made a.0.0 n.0.0 o.0.0 f.0.0, f.0.1) x f.3)
    (t0, record { aba = a.2; endpoint = n.2; opening = o.2; floor = f.2 })

account_again : (a : Account) (rest : List ℕ) → IsSpelled a → account_at (account_bytes a ++ rest) ≡ Some (a, rest)
unfolding account_at
account_again a rest fit =
    let o = balance_bytes a.opening in
    let f = balance_bytes a.floor in
    let grouped : account_bytes a ++ rest ≡ a.aba ++ (a.endpoint ++ (balance_bytes a.opening ++ (balance_bytes a.floor ++ rest))) =
    append_assoc a.aba (a.endpoint ++ (o ++ f)) rest
    ∙ ap (λ (t : List ℕ). a.aba ++ t) (append_assoc a.endpoint (o ++ f) rest
    ∙ ap (λ (t : List ℕ). a.endpoint ++ t) (append_assoc o f rest)) in
    ap account_at grouped
    ∙ step_again piece IsAba aba_at aba_reads a0 a.aba (a.endpoint ++ (o ++ (f ++ rest))) fit.aba
    ∙ step_again piece IsEndpoint endpoint_at endpoint_reads (a1 a.aba) a.endpoint (o ++ (f ++ rest)) fit.endpoint
    ∙ step_again balance_bytes IsSigned balance_at balance_reads (a2 a.aba a.endpoint) a.opening (f ++ rest) fit.opening
    ∙ step_again balance_bytes IsSigned balance_at balance_reads (a3 a.aba a.endpoint a.opening) a.floor rest fit.floor

account_reads : Reads account_bytes IsSpelled account_at
account_reads = record { takes = account_takes; again = account_again }

-- so many accounts
abbrev IsMany : ℕ → List Account → Type 0
IsMany n accounts = (length accounts ≡ n) × AllByRecursion IsSpelled accounts

abbrev others : ℕ → Account × List ℕ → Option (List Account × List ℕ)
others n a = some_accounts_at n a.1 >>= λ more. Some (a.0 ∷ more.0, more.1)

abbrev after : Account → List Account × List ℕ → Option (List Account × List ℕ)
after a more = Some (a ∷ more.0, more.1)

none_takes : (bytes : List ℕ) (x : List Account × List ℕ) → IsBytes bytes → some_accounts_at 0 bytes ≡ Some x → Takes bytes (flat_map account_bytes x.0) x.1 × IsMany 0 x.0
unfolding some_accounts_at
none_takes bytes x fits e = subst (λ (y : List Account × List ℕ). Takes bytes (flat_map account_bytes y.0) y.1 × IsMany 0 y.0) (some_is ([], bytes) x e) (record { parts = refl; fits = fits }, (refl, tt))

none_again : (accounts : List Account) (rest : List ℕ) → IsMany 0 accounts → some_accounts_at 0 (flat_map account_bytes accounts ++ rest) ≡ Some (accounts, rest)
unfolding some_accounts_at
none_again [] rest fit = refl
none_again (a ∷ accounts) rest fit = absurd (omega (arith, fit.0))

some_takes : (n : ℕ) → Reads (flat_map account_bytes) (IsMany n) (some_accounts_at n) → (bytes : List ℕ) (x : List Account × List ℕ) → IsBytes bytes → some_accounts_at (suc n) bytes ≡ Some x → Takes bytes (flat_map account_bytes x.0) x.1 × IsMany (suc n) x.0
unfolding some_accounts_at
some_takes n reads bytes x fits e =
    let a = step account_bytes IsSpelled account_at account_reads (others n) bytes x fits e in
    let m = step (flat_map account_bytes) (IsMany n) (some_accounts_at n) reads (after a.0.0) a.0.1 x a.1.fits a.3 in
    subst (λ (y : List Account × List ℕ). Takes bytes (flat_map account_bytes y.0) y.1 × IsMany (suc n) y.0) (some_is (a.0.0 ∷ m.0.0, m.0.1) x m.3)
    (then_takes bytes (account_bytes a.0.0) a.0.1 (flat_map account_bytes m.0.0) m.0.1 a.1 m.1, (ap suc m.2.0, (a.2, m.2.1)))

some_again : (n : ℕ) → Reads (flat_map account_bytes) (IsMany n) (some_accounts_at n) → (accounts : List Account) (rest : List ℕ) → IsMany (suc n) accounts → some_accounts_at (suc n) (flat_map account_bytes accounts ++ rest) ≡ Some (accounts, rest)
unfolding some_accounts_at
some_again n reads [] rest fit = absurd (omega (arith, fit.0))
some_again n reads (a ∷ accounts) rest fit =
    ap (λ (bytes : List ℕ). account_at bytes >>= others n) (append_assoc (account_bytes a) (flat_map account_bytes accounts) rest)
    ∙ step_again account_bytes IsSpelled account_at account_reads (others n) a (flat_map account_bytes accounts ++ rest) fit.1.0
    ∙ step_again (flat_map account_bytes) (IsMany n) (some_accounts_at n) reads (after a) accounts rest (omega (arith, fit.0), fit.1.1)

some_reads : (n : ℕ) → Reads (flat_map account_bytes) (IsMany n) (some_accounts_at n)
some_reads zero = record { takes = none_takes; again = none_again }
some_reads (suc n) = record { takes = some_takes n (some_reads n); again = some_again n (some_reads n) }

-- accounts that have a spelling, sound or not
abbrev pub AreSpelled : List Account → Type 0
AreSpelled accounts = (length accounts < 2 ^ 16) × AllByRecursion IsSpelled accounts

pub are_spelled : (accounts : List Account) → AreAccounts accounts → AreSpelled accounts
are_spelled accounts are = (omega (arith, are.most), each_spelled accounts are.each)

abbrev listed : ℕ × List ℕ → Option (List Account × List ℕ)
listed n = some_accounts_at n.0 n.1

accounts_takes : (bytes : List ℕ) (x : List Account × List ℕ) → IsBytes bytes → accounts_at bytes ≡ Some x → Takes bytes (accounts_bytes x.0) x.1 × AreSpelled x.0
unfolding accounts_at
accounts_takes bytes x fits e =
    let n = step (to_be_bytes w16) (λ n. n < 2 ^ 16) (number_at w16) reads16 listed bytes x fits e in
    let p = (some_reads n.0.0).takes n.0.1 x n.1.fits n.3 in (
      then_takes bytes (to_be_bytes w16 (length x.0)) n.0.1 (flat_map account_bytes x.0) x.1 (subst (λ k. Takes bytes (to_be_bytes w16 k) n.0.1) (sym p.1.0) n.1) p.0,
      (omega (arith, n.2, p.1.0), p.1.1),
    )

accounts_again : (accounts : List Account) (rest : List ℕ) → AreSpelled accounts → accounts_at (accounts_bytes accounts ++ rest) ≡ Some (accounts, rest)
unfolding accounts_at
accounts_again accounts rest fit =
    ap (λ (bytes : List ℕ). number_at w16 bytes >>= listed) (append_assoc (to_be_bytes w16 (length accounts)) (flat_map account_bytes accounts) rest)
    ∙ step_again (to_be_bytes w16) (λ n. n < 2 ^ 16) (number_at w16) reads16 listed (length accounts) (flat_map account_bytes accounts ++ rest) fit.0
    ∙ (some_reads (length accounts)).again accounts rest (refl, fit.1)

pub accounts_reads : Reads accounts_bytes AreSpelled accounts_at
accounts_reads = record { takes = accounts_takes; again = accounts_again }

-- accounts in front of those that are read
abbrev pub joined : List Account → List Account × List ℕ → Option (List Account × List ℕ)
joined done more = Some (done ++ more.0, more.1)

join_twice : (done : List Account) (a : Account) (o : Option (List Account × List ℕ)) → ((o >>= after a) >>= joined done) ≡ (o >>= joined (done ++ a ∷ []))
join_twice done a (Some x) = ap (λ (l : List Account). Some (l, x.1)) (sym (append_assoc done (a ∷ []) x.0))
join_twice done a None = refl

pub join_one : (done : List Account) (a : Account) (n k : ℕ) (rest left : List ℕ) → n ≡ suc k → account_at rest ≡ Some (a, left) → (some_accounts_at n rest >>= joined done) ≡ (some_accounts_at k left >>= joined (done ++ a ∷ []))
unfolding some_accounts_at
join_one done a n k rest left is read =
    ap (λ m. some_accounts_at m rest >>= joined done) is
    ∙ ap (λ (o : Option (Account × List ℕ)). (o >>= others k) >>= joined done) read
    ∙ join_twice done a (some_accounts_at k left)

pub join_fails : (done : List Account) (n k : ℕ) (rest : List ℕ) → n ≡ suc k → account_at rest ≡ None → (some_accounts_at n rest >>= joined done) ≡ None
unfolding some_accounts_at
join_fails done n k rest is read =
    ap (λ m. some_accounts_at m rest >>= joined done) is
    ∙ ap (λ (o : Option (Account × List ℕ)). (o >>= others k) >>= joined done) read

pub join_end : (done : List Account) (n : ℕ) (rest : List ℕ) → n ≡ 0 → (some_accounts_at n rest >>= joined done) ≡ Some (done, rest)
unfolding some_accounts_at
join_end done n rest is =
    ap (λ m. some_accounts_at m rest >>= joined done) is
    ∙ ap (λ (l : List Account). Some (l, rest)) (append-nil done)
