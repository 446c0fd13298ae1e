-- An accepted message keeps its sender's floor.
use Rattle.std.proofs.Common.{true, false, Bool, ◌&&◌, ◌≤ℤ◌, ◌≡◌, ℕ, List, ◌∷◌, arith, ℤ, pos, ◌-ℤ◌}
use Rattle.std.proofs.lemmas.Int.{ints}
use Rattle.std.specs.Prelude.{int_lt}
use Rattle.faim_base.specs.declared.judgement.Head.{Head}
use Rattle.faim_base.specs.declared.judgement.Verdict.TheVariants.{Taken}
use Rattle.host_ledger.specs.declared.config.Config.{Config}
use Rattle.host_ledger.specs.declared.entries.Entry.{Entry}
use Rattle.host_ledger.specs.declared.entries.Entry.TheVariants.{Posted}
use Rattle.host_ledger.specs.Accounts.{floor_of}
use Rattle.host_ledger.specs.Sums.{balance, moves_money}
use Rattle.faim_model.specs.Lawful.{Lawful}
use Rattle.faim_model.proofs.Judgements.{posted_taken}

not_below : (moves : Bool) (left floor : ℤ) → moves ≡ true → (moves && int_lt left floor) ≡ false → floor ≤ℤ left
not_below true left floor does_move passes = grind (arith, ints)
not_below false left floor does_move passes = absurd cc

-- an accepted message that moves money leaves its sender no less than the floor
pub leaves_floor : (c : Config) (older : List Entry) (h : Head) (body : List ℕ) (resent : Bool) (moment : ℕ) (dest : List ℕ) (seq : ℕ)
    → Lawful c (Posted h body resent moment (Taken dest seq) ∷ older) → moves_money h ≡ true
    → floor_of c h.sender ≤ℤ (balance c older h.sender -ℤ pos h.amount)
leaves_floor c older h body resent moment dest seq lawful moves =
    let taken = posted_taken c older h body resent moment dest seq lawful.0 in
    not_below (moves_money h) (balance c older h.sender -ℤ pos h.amount) (floor_of c h.sender) moves taken.not_low
