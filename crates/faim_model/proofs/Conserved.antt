-- The balances of all accounts add up to the openings.
use Rattle.std.proofs.Common.{◌≡◌, refl, sym, ◌∙◌, ap, ℕ, ◌+◌, Bool, true, false, ◌&&◌, List, [], ◌∷◌, Option, Some, None, is_none, if◌then◌else◌, arith, ℤ, pos, ◌+ℤ◌, ◌-ℤ◌}
use Rattle.std.proofs.lemmas.Int.{ints}
use Rattle.std.specs.List.{Contains}
use Rattle.std.specs.Option.{option_map_or}
use Rattle.std.specs.Str.{bytes_eq}
use Rattle.faim_base.specs.declared.judgement.Verdict.TheVariants.{Taken, Refused}
use Rattle.host_ledger.specs.declared.config.Account.{Account}
use Rattle.host_ledger.specs.declared.config.Config.{Config}
use Rattle.host_ledger.specs.declared.entries.Entry.{Entry}
use Rattle.host_ledger.specs.declared.entries.Entry.TheVariants.{Posted, Roll}
use Rattle.host_ledger.specs.Soundness.{IsConfig}
use Rattle.host_ledger.specs.Accounts.{account_in, account_of, opening_of}
use Rattle.host_ledger.specs.Lists.{summed, total}
use Rattle.host_ledger.specs.Sums.{balance, gives, moves_money, takes}
use Rattle.faim_model.specs.Lawful.{Follows, Lawful}
use Rattle.host_ledger.proofs.Balances.{moves_by_entry}
use Rattle.faim_model.proofs.Judgements.{posted_taken}
use Rattle.faim_model.proofs.Members.{first_in, later_in}
use Rattle.faim_model.proofs.OwnAccounts.{Apart, found_by_number, sound_apart, sum_at_number}

-- what an entry gives to all these accounts, and what it takes from them
abbrev given_to : Entry → List Account → ℕ
given_to x accounts = summed (λ (a : Account). gives x a.aba) accounts

abbrev taken_from : Entry → List Account → ℕ
taken_from x accounts = summed (λ (a : Account). takes x a.aba) accounts

one_more : (rest here : ℤ) (g t gs ts : ℕ) → ((rest +ℤ pos gs) -ℤ pos ts) +ℤ ((here +ℤ pos g) -ℤ pos t) ≡ ((rest +ℤ here) +ℤ pos (gs + g)) -ℤ pos (ts + t)
one_more rest here g t gs ts = omega (arith, ints)

-- an entry moves the sum by what it gives and takes in all
moves_all : (c : Config) (x : Entry) (older : List Entry) (accounts : List Account)
    → total (λ (a : Account). balance c (x ∷ older) a.aba) accounts
    ≡ (total (λ (a : Account). balance c older a.aba) accounts +ℤ pos (given_to x accounts)) -ℤ pos (taken_from x accounts)
moves_all c x older [] = refl
moves_all c x older (a ∷ rest) =
    ap (λ (z : ℤ). z +ℤ balance c (x ∷ older) a.aba) (moves_all c x older rest)
    ∙ ap (λ (z : ℤ). ((total (λ (b : Account). balance c older b.aba) rest +ℤ pos (given_to x rest)) -ℤ pos (taken_from x rest)) +ℤ z) (moves_by_entry c x older a.aba)
    ∙ one_more (total (λ (b : Account). balance c older b.aba) rest) (balance c older a.aba) (gives x a.aba) (takes x a.aba) (given_to x rest) (taken_from x rest)

-- an accepted message gives its amount once and takes it once, where both of its accounts are there
even_by : (accounts : List Account) → Apart accounts → (moves : Bool) (sender receiver : List ℕ) (n : ℕ)
    → is_none (account_in accounts sender) ≡ false → is_none (account_in accounts receiver) ≡ false
    → summed (λ (a : Account). if moves && bytes_eq receiver a.aba then n else 0) accounts
    ≡ summed (λ (a : Account). if moves && bytes_eq sender a.aba then n else 0) accounts
even_by accounts apart false sender receiver n sends receives = refl
even_by accounts apart true sender receiver n sends receives =
    sum_at_number accounts apart receiver n receives ∙ sym (sum_at_number accounts apart sender n sends)

served_known : (o : Option Account) (e : List ℕ) → option_map_or (λ (a : Account). bytes_eq a.endpoint e) o false ≡ true → is_none o ≡ false
served_known None e served = absurd cc
served_known (Some a) e served = refl

-- an entry that follows gives as much as it takes
gives_as_takes : (c : Config) (older : List Entry) (x : Entry) → Apart c.accounts → Follows c older x → given_to x c.accounts ≡ taken_from x c.accounts
gives_as_takes c older (Roll moment date) apart follows = refl
gives_as_takes c older (Posted h body resent moment (Refused why)) apart follows = refl
gives_as_takes c older (Posted h body resent moment (Taken dest seq)) apart follows =
    let taken = posted_taken c older h body resent moment dest seq follows in
    even_by c.accounts apart (moves_money h) h.sender h.receiver h.amount
    (served_known (account_of c h.sender) h.imad.source taken.is_served) taken.receiver_known

-- with no entry each account has its opening
opening_is : (c : Config) → Apart c.accounts → (a : Account) → Contains c.accounts a → opening_of c a.aba ≡ a.opening
opening_is c apart a there = ap (λ (o : Option Account). option_map_or (λ (b : Account). b.opening) o (pos 0)) (found_by_number c.accounts apart a there)

at_first : (opening own : ℤ) → opening ≡ own → (opening +ℤ pos 0) -ℤ pos 0 ≡ own
at_first opening own same = omega (arith, ints)

openings : (c : Config) (accounts : List Account) → ((a : Account) → Contains accounts a → opening_of c a.aba ≡ a.opening)
    → total (λ (a : Account). balance c [] a.aba) accounts ≡ total (λ (a : Account). a.opening) accounts
openings c [] own = refl
openings c (a ∷ rest) own =
    ap (λ (z : ℤ). z +ℤ balance c [] a.aba) (openings c rest (λ b there. own b (later_in a b rest there)))
    ∙ ap (λ (z : ℤ). total (λ (b : Account). b.opening) rest +ℤ z) (at_first (opening_of c a.aba) a.opening (own a (first_in a rest)))

even_move : (before after : ℤ) (g t : ℕ) → after ≡ (before +ℤ pos g) -ℤ pos t → g ≡ t → after ≡ before
even_move before after g t moved even = omega (arith, ints)

-- by the entries, where no two accounts have one number
conserved_by : (c : Config) (es : List Entry) → Apart c.accounts → Lawful c es
    → total (λ (a : Account). balance c es a.aba) c.accounts ≡ total (λ (a : Account). a.opening) c.accounts
conserved_by c [] apart lawful = openings c c.accounts (opening_is c apart)
conserved_by c (x ∷ older) apart lawful =
    even_move (total (λ (a : Account). balance c older a.aba) c.accounts) (total (λ (a : Account). balance c (x ∷ older) a.aba) c.accounts)
    (given_to x c.accounts) (taken_from x c.accounts) (moves_all c x older c.accounts) (gives_as_takes c older x apart lawful.0)
    ∙ conserved_by c older apart lawful.1

pub conserved : (c : Config) (es : List Entry) → IsConfig c → Lawful c es
    → total (λ (a : Account). balance c es a.aba) c.accounts ≡ total (λ (a : Account). a.opening) c.accounts
conserved c es sound lawful = conserved_by c es (sound_apart c sound) lawful
