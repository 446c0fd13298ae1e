-- Which lists of entries, the newest first, the rules allow.
use Rattle.std.specs.Prelude.{◌≡◌, ◌≢◌, ◌⊎◌, ℕ, zero, suc, ◌+◌, ◌*◌, ◌<◌, ◌≤◌, pos, ◌-ℤ◌, ◌≤ℤ◌, Bool, true, false, List, [], ◌∷◌, ◌++◌, map, filter, codes, IsSome, IsTrue, Option}
use Rattle.faim_base.specs.declared.ids.Imad.{Imad}
use Rattle.faim_base.specs.declared.judgement.Head.{Head}
use Rattle.faim_base.specs.declared.judgement.Reject.{Reject}
use Rattle.faim_base.specs.declared.judgement.Verdict.{Verdict}
use Rattle.std.specs.List.{AllByRecursion, Contains}
use Rattle.faim_base.specs.Ids.{is_up_to}
use Rattle.faim_base.specs.Numbers.{IsDay}
use Rattle.host_ledger.specs.declared.config.Config.{Config}
use Rattle.host_ledger.specs.declared.entries.Entry.{Entry}
use Rattle.host_ledger.specs.declared.entries.Entry.TheVariants.{Posted, Roll}
use Rattle.host_ledger.specs.Accounts.{account_of, endpoint_of, floor_of, is_served_at}
use Rattle.host_ledger.specs.Lists.{counted}
use Rattle.host_ledger.specs.Sums.{balance, cycle, moves_money}
use Rattle.faim_model.specs.Outputs.{Item, is_under, sent_in_cycle}
use Rattle.faim_model.specs.Submissions.{Numbered, submission, text_with}
use Rattle.faim_model.specs.Verdicts.{Now, verdict, has_imad}

-- the effective moment that an entry keeps, in minutes
abbrev pub moment_of : Entry → ℕ
moment_of (Posted h body resent moment v) = moment
moment_of (Roll moment date) = moment

-- the moment of the newest entry, 0 where there is none
abbrev pub last_moment : List Entry → ℕ
last_moment [] = 0
last_moment (x ∷ older) = moment_of x

-- the mark that the entry's first submission had: P, or else a blank, or any other byte in whose place an X stands
abbrev pub IsMark : Bool → ℕ → Type 0
IsMark true mark = mark ≡ 80
IsMark false mark = (mark ≡ 32) ⊎ (mark ≡ 88)

-- a posted message may come after these entries
pub record PostFollows (c : Config) (older : List Entry) (h : Head) (body : List ℕ) (resent : Bool) (moment : ℕ) (v : Verdict) : Type 0 where
  -- not before the entry before it
  pub in_time : last_moment older ≤ moment
  -- its body is a message with this head and a blank mark
  pub failed : Option Reject
  pub spelled : submission c.env body ≡ Numbered h body 32 failed
  -- the verdict on it, submitted with a mark that its first submission may have had, is the one that it keeps
  pub mark : ℕ
  pub marked : IsMark resent mark
  pub judged : verdict c older h.imad.source moment (text_with mark body) ≡ Now v

-- a message may be accepted after these entries at this moment, with this output
pub record IsAccepted (c : Config) (older : List Entry) (h : Head) (moment : ℕ) (dest : List ℕ) (seq : ℕ) : Type 0 where
  -- it is of the present cycle date
  pub current : h.imad.date ≡ cycle c older
  -- its source serves the sender's account
  pub sender : IsTrue (is_served_at c h.sender h.imad.source)
  -- the receiver has an account, and the output goes to its endpoint
  pub receiver : IsSome (account_of c h.receiver)
  pub output : dest ≡ endpoint_of c h.receiver
  -- with the next number of the cycle, of which the last is kept for the end of the cycle
  pub number : seq ≡ sent_in_cycle c older dest + 1
  pub kept : seq ≤ 999_998
  -- it came before the cutoff, which customers' transfers have of their own
  pub customers : h.code ≡ codes "CTR" → moment < 1440 * cycle c older + c.customer
  pub banks : h.code ≢ codes "CTR" → moment < 1440 * cycle c older + c.bank
  -- what it moves leaves the sender's balance no lower than its floor
  pub floor : moves_money h ≡ true → floor_of c h.sender ≤ℤ (balance c older h.sender -ℤ pos h.amount)

-- a Roll may come after these entries: to a later date
pub record RollFollows (c : Config) (older : List Entry) (moment date : ℕ) : Type 0 where
  -- not before the entry before it
  pub in_time : last_moment older ≤ moment
  pub later : cycle c older < date
  pub day : IsDay date

-- an entry may come after these
abbrev pub Follows : Config → List Entry → Entry → Type 0
Follows c older (Posted h body resent moment v) = PostFollows c older h body resent moment v
Follows c older (Roll moment date) = RollFollows c older moment date

-- each entry may come after those before it
abbrev pub Lawful : Config → List Entry → Type 0
Lawful c [] = Unit {0}
Lawful c (x ∷ older) = Follows c older x × Lawful c older

-- how many entries post a message with this IMAD
abbrev pub times_posted : Imad → List Entry → ℕ
times_posted imad es = counted (has_imad imad) es

-- an entry of these posts another body under the identifier of this head
pub record HasOther (es : List Entry) (h : Head) (body : List ℕ) : Type 0 where
  pub head : Head
  pub other : List ℕ
  pub resent : Bool
  pub moment : ℕ
  pub verdict : Verdict
  pub there : Contains es (Posted head other resent moment verdict)
  pub same : head.imad ≡ h.imad
  pub apart : body ≢ other

-- each item stands at a position before those of all later ones
abbrev pub Rises : List Item → Type 0
Rises [] = Unit {0}
Rises (i ∷ later) = AllByRecursion (λ j. is_up_to j.at i.at ≡ false) later × Rises later

-- the output numbers under a date, in order
abbrev pub numbers_under : ℕ → List Item → List ℕ
numbers_under date items = map (λ i. i.at.seq) (filter (is_under date) items)

-- 1, 2, 3 and so on to n
abbrev pub one_to : ℕ → List ℕ
one_to zero = []
one_to (suc n) = one_to n ++ suc n ∷ []
