-- The cycle and the balances that a list of entries, the newest first, makes of a configuration.
use Rattle.std.specs.Prelude.{ℕ, ◌==◌, Bool, true, false, ◌&&◌, ◌||◌, List, [], ◌∷◌, bytes_eq, if◌then◌else◌, ℤ, pos, ◌+ℤ◌, ◌-ℤ◌, int_lt}
use Rattle.faim_base.specs.declared.judgement.Head.{Head}
use Rattle.faim_base.specs.declared.judgement.Verdict.{Verdict}
use Rattle.faim_base.specs.declared.judgement.Verdict.TheVariants.{Taken, Refused}
use Rattle.host_ledger.specs.declared.config.Config.{Config}
use Rattle.host_ledger.specs.declared.entries.Entry.{Entry}
use Rattle.host_ledger.specs.declared.entries.Entry.TheVariants.{Posted, Roll}
use Rattle.host_ledger.specs.Accounts.{floor_of, opening_of}
use Rattle.host_ledger.specs.Lists.{summed}

-- a message of these subtypes moves money from its sender to its receiver
abbrev pub moves_money : Head → Bool
moves_money h = (h.sub == 0) || ((h.sub == 2) || ((h.sub == 8) || (h.sub == 32)))

-- the message was accepted
abbrev pub is_taken : Verdict → Bool
is_taken (Taken dest seq) = true
is_taken (Refused why) = false

-- the cents that an entry gives an account, and those that it takes from it
abbrev pub gives : Entry → List ℕ → ℕ
gives (Posted h body resent moment v) aba = if is_taken v && (moves_money h && bytes_eq h.receiver aba) then h.amount else 0
gives (Roll moment date) aba = 0

abbrev pub takes : Entry → List ℕ → ℕ
takes (Posted h body resent moment v) aba = if is_taken v && (moves_money h && bytes_eq h.sender aba) then h.amount else 0
takes (Roll moment date) aba = 0

-- all that the entries gave an account, and all that they took from it
abbrev pub received : List Entry → List ℕ → ℕ
received es aba = summed (λ x. gives x aba) es

abbrev pub paid : List Entry → List ℕ → ℕ
paid es aba = summed (λ x. takes x aba) es

-- the opening balance, plus what accepted messages moved in, minus what they moved out
abbrev pub balance : Config → List Entry → List ℕ → ℤ
balance c es aba = (opening_of c aba +ℤ pos (received es aba)) -ℤ pos (paid es aba)

-- the sender's balance would go below its floor
abbrev pub is_below_floor : Config → List Entry → Head → Bool
is_below_floor c es h = moves_money h && int_lt (balance c es h.sender -ℤ pos h.amount) (floor_of c h.sender)

-- the date of the last Roll, or the opening date
abbrev pub cycle : Config → List Entry → ℕ
cycle c [] = c.date
cycle c (Roll moment date ∷ older) = date
cycle c (Posted h body resent moment v ∷ older) = cycle c older
