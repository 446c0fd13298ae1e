-- Whole configurations, read exactly.
use Rattle.std.proofs.Common.{◌≡◌, ⊎_elim, ℕ, suc, ◌^◌, ◌<◌, ◌==◌, List, [], ◌∷◌, ◌++◌, length, Option, Some, ◌∙◌, ap, subst, append_assoc, arith}
use Rattle.std.specs.Int.{w16, w32, to_be_bytes}
use Rattle.faim_base.specs.Numbers.{IsDay}
use Rattle.host_ledger.specs.Soundness.{IsEnv, IsConfig}
use Rattle.host_ledger.specs.declared.config.Account.{Account}
use Rattle.host_ledger.specs.declared.config.Config.{Config}
use Rattle.entry_codec.specs.declared.fault.CodecFault.{CodecFault}
use Rattle.entry_codec.specs.declared.fault.CodecFault.TheVariants as faults
use Rattle.entry_codec.specs.Reading.{Fails, ◌>>=◌, number_at, byte_at, date_at}
use Rattle.entry_codec.specs.Config.{accounts_bytes, config_bytes, accounts_at, fields_at, config_at}
use Rattle.entry_codec.proofs.Codecs.{IsBytes, Takes, then_takes, lettered, Reads, some_is, chosen, step, step_again, byte_reads, reads16}
use Rattle.entry_codec.proofs.Fronts.{one_front}
use Rattle.entry_codec.proofs.Pieces.{date_reads}
use Rattle.entry_codec.proofs.Wholes.{found_whole, only_whole, not_damaged_whole}
use Rattle.entry_codec.proofs.Accounts.{AreSpelled, are_spelled, accounts_reads}

abbrev one : ℕ → List ℕ
one b = b ∷ []

abbrev short : ℕ → List ℕ
short n = to_be_bytes w16 n

abbrev number : ℕ → List ℕ
number n = to_be_bytes w32 n

-- a configuration that has a spelling, sound or not
record IsSpelled (c : Config) : Type 0 where
  env : c.env < 256
  date : IsDay c.date
  customer : c.customer < 2 ^ 16
  bank : c.bank < 2 ^ 16
  accounts : AreSpelled c.accounts

pub env_small : (env : ℕ) → IsEnv env → env < 256
env_small env is = ⊎_elim (λ e. omega (arith, e)) (λ e. omega (arith, e)) is

-- a sound configuration has a spelling
sound_spelled : (c : Config) → IsConfig c → IsSpelled c
sound_spelled c sound = record { env = env_small c.env sound.env; date = sound.date; customer = omega (arith, sound.customer); bank = omega (arith, sound.bank); accounts = are_spelled c.accounts sound.accounts }

abbrev made : ℕ → ℕ → ℕ → ℕ → List Account → Config
made e d c b a = record { env = e; date = d; customer = c; bank = b; accounts = a }

abbrev f4 : ℕ → ℕ → ℕ → ℕ → List Account × List ℕ → Option (Config × List ℕ)
f4 e d c b a = Some (made e d c b a.0, a.1)

abbrev f3 : ℕ → ℕ → ℕ → ℕ × List ℕ → Option (Config × List ℕ)
f3 e d c b = accounts_at b.1 >>= f4 e d c b.0

abbrev f2 : ℕ → ℕ → ℕ × List ℕ → Option (Config × List ℕ)
f2 e d c = number_at w16 c.1 >>= f3 e d c.0

abbrev f1 : ℕ → ℕ × List ℕ → Option (Config × List ℕ)
f1 e d = number_at w16 d.1 >>= f2 e d.0

abbrev f0 : ℕ × List ℕ → Option (Config × List ℕ)
f0 e = date_at e.1 >>= f1 e.0

-- what stands after the letter
abbrev fields_bytes : Config → List ℕ
fields_bytes c = one c.env ++ (number c.date ++ (short c.customer ++ (short c.bank ++ accounts_bytes c.accounts)))

fields_takes : (bytes : List ℕ) (x : Config × List ℕ) → IsBytes bytes → fields_at bytes ≡ Some x → Takes bytes (fields_bytes x.0) x.1 × IsSpelled x.0
unfolding fields_at
fields_takes bytes x fits same =
    let e = step one (λ n. n < 256) byte_at byte_reads f0 bytes x fits same in
    let d = step number IsDay date_at date_reads (f1 e.0.0) e.0.1 x e.1.fits e.3 in
    let c = step short (λ n. n < 2 ^ 16) (number_at w16) reads16 (f2 e.0.0 d.0.0) d.0.1 x d.1.fits d.3 in
    let b = step short (λ n. n < 2 ^ 16) (number_at w16) reads16 (f3 e.0.0 d.0.0 c.0.0) c.0.1 x c.1.fits c.3 in
    let a = step accounts_bytes AreSpelled accounts_at accounts_reads (f4 e.0.0 d.0.0 c.0.0 b.0.0) b.0.1 x b.1.fits b.3 in
    let t3 = then_takes c.0.1 (short b.0.0) b.0.1 (accounts_bytes a.0.0) a.0.1 b.1 a.1 in
    let t2 = then_takes d.0.1 (short c.0.0) c.0.1 (short b.0.0 ++ accounts_bytes a.0.0) a.0.1 c.1 t3 in
    let t1 = then_takes e.0.1 (number d.0.0) d.0.1 (short c.0.0 ++ (short b.0.0 ++ accounts_bytes a.0.0)) a.0.1 d.1 t2 in
    let t0 = then_takes bytes (one e.0.0) e.0.1 (number d.0.0 ++ (short c.0.0 ++ (short b.0.0 ++ accounts_bytes a.0.0))) a.0.1 e.1 t1 in
    subst (λ (y : Config × List ℕ). Takes bytes (fields_bytes y.0) y.1 × IsSpelled y.0) (some_is (made e.0.0 d.0.0 c.0.0 b.0.0 a.0.0, a.0.1) x a.3)
    (t0, record { env = e.2; date = d.2; customer = c.2; bank = b.2; accounts = a.2 })

fields_again : (c : Config) (rest : List ℕ) → IsSpelled c → fields_at (fields_bytes c ++ rest) ≡ Some (c, rest)
unfolding fields_at
fields_again c rest fit =
    let a = accounts_bytes c.accounts in
    let grouped : fields_bytes c ++ rest ≡ one c.env ++ (number c.date ++ (short c.customer ++ (short c.bank ++ (accounts_bytes c.accounts ++ rest)))) =
    append_assoc (one c.env) (number c.date ++ (short c.customer ++ (short c.bank ++ a))) rest
    ∙ ap (λ (t : List ℕ). one c.env ++ t) (append_assoc (number c.date) (short c.customer ++ (short c.bank ++ a)) rest
    ∙ ap (λ (t : List ℕ). number c.date ++ t) (append_assoc (short c.customer) (short c.bank ++ a) rest
    ∙ ap (λ (t : List ℕ). short c.customer ++ t) (append_assoc (short c.bank) a rest))) in
    ap fields_at grouped
    ∙ step_again one (λ n. n < 256) byte_at byte_reads f0 c.env (number c.date ++ (short c.customer ++ (short c.bank ++ (a ++ rest)))) fit.env
    ∙ step_again number IsDay date_at date_reads (f1 c.env) c.date (short c.customer ++ (short c.bank ++ (a ++ rest))) fit.date
    ∙ step_again short (λ n. n < 2 ^ 16) (number_at w16) reads16 (f2 c.env c.date) c.customer (short c.bank ++ (a ++ rest)) fit.customer
    ∙ step_again short (λ n. n < 2 ^ 16) (number_at w16) reads16 (f3 c.env c.date c.customer) c.bank (a ++ rest) fit.bank
    ∙ step_again accounts_bytes AreSpelled accounts_at accounts_reads (f4 c.env c.date c.customer c.bank) c.accounts rest fit.accounts

config_takes : (bytes : List ℕ) (x : Config × List ℕ) → IsBytes bytes → config_at bytes ≡ Some x → Takes bytes (config_bytes x.0) x.1 × IsSpelled x.0
unfolding config_at
config_takes [] x fits e = absurd cc
config_takes (b ∷ bytes) x fits e =
    let g = chosen (b == 67) (fields_at bytes) x e in
    let t = fields_takes bytes x (λ i. fits (suc i)) g.1 in
    (lettered 67 b bytes (fields_bytes x.0) x.1 g.0 t.0, t.1)

config_again : (c : Config) (rest : List ℕ) → IsSpelled c → config_at (config_bytes c ++ rest) ≡ Some (c, rest)
unfolding config_at
config_again c rest fit = fields_again c rest fit

-- each spelling and what follows it is read as its configuration
config_reads : Reads config_bytes IsSpelled config_at
config_reads = record { takes = config_takes; again = config_again }

-- no spelling begins another
pub one_config : (a b : Config) (x y : List ℕ) → IsConfig a → IsConfig b → config_bytes a ++ x ≡ config_bytes b ++ y → (a ≡ b) × (x ≡ y)
one_config a b x y fa fb same = one_front config_bytes IsSpelled config_at config_again a b x y (sound_spelled a fa) (sound_spelled b fb) same

pub found : (bytes : List ℕ) (c : Config) (rest : List ℕ) → IsBytes bytes → config_at bytes ≡ Some (c, rest) → length rest ≡ 0 → bytes ≡ config_bytes c
found = found_whole config_bytes IsSpelled config_at config_reads

pub only : (bytes : List ℕ) (c : Config) (rest : List ℕ) → config_at bytes ≡ Some (c, rest) → (a : Config) → IsConfig a → bytes ≡ config_bytes a → (c ≡ a) × (rest ≡ [])
only bytes c rest read a fit same = only_whole config_bytes IsSpelled config_at config_reads bytes c rest read a (sound_spelled a fit) same

pub not_damaged : (fault : CodecFault) (bytes : List ℕ) → Fails fault (config_at bytes) → (a : Config) → IsConfig a → bytes ≡ config_bytes a → fault ≡ faults.NoMemory
not_damaged fault bytes fails a fit same = not_damaged_whole config_bytes IsSpelled config_at config_reads fault bytes fails a (sound_spelled a fit) same
