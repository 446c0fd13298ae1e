-- What a host's list keeps at every moment of a run.
use Rattle.std.specs.Prelude.{◌≡◌, ◌≢◌, ℕ, ◌≤◌, Bool, List, [], take, Option, ◌≤ℤ◌}
use Rattle.std.specs.Int.{int_min}
use Rattle.std.specs.List.{Contains}
use Rattle.faim_base.specs.declared.ids.Imad.{Imad}
use Rattle.faim_base.specs.declared.judgement.Head.{Head}
use Rattle.faim_base.specs.declared.judgement.Reject.{Reject}
use Rattle.faim_base.specs.declared.judgement.Verdict.{Verdict}
use Rattle.faim_base.specs.Refusals.{x201}
use Rattle.host_ledger.specs.declared.config.Account.{Account}
use Rattle.host_ledger.specs.declared.config.Config.{Config}
use Rattle.host_ledger.specs.declared.entries.Entry.{Entry}
use Rattle.host_ledger.specs.declared.entries.Entry.TheVariants.{Posted}
use Rattle.faim_model.specs.declared.decisions.HostOutcome.TheVariants.{Known, TurnedAway}
use Rattle.host_ledger.specs.Lists.{total}
use Rattle.host_ledger.specs.Sums.{balance}
use Rattle.faim_model.specs.Outputs.{outputs, count_under}
use Rattle.faim_model.specs.Submissions.{Numbered, submission}
use Rattle.faim_model.specs.Lawful.{Lawful, numbers_under, one_to, times_posted}
use Rattle.faim_model.specs.Turns.{stays, submitted}
use Rattle.world_text.specs.declared.script.Script.{Script}
use Rattle.faim_top.specs.Replay.{entries_after, entries_of, opening_moment}

-- a text is a message whose identifier an entry has
pub record Repeats (c : Config) (es : List Entry) (text : List ℕ) : Type 0 where
  -- the entry
  pub head : Head
  pub body : List ℕ
  pub resent : Bool
  pub moment : ℕ
  pub verdict : Verdict
  pub there : Contains es (Posted head body resent moment verdict)
  -- the text's own head, body and mark, and the edit that it fails first
  pub own : Head
  pub own_body : List ℕ
  pub mark : ℕ
  pub failed : Option Reject
  pub read : submission c.env text ≡ Numbered own own_body mark failed
  pub same : own.imad ≡ head.imad

pub record Promises (c : Config) (es : List Entry) : Type 0 where
  -- each entry may come after those before it
  pub lawful : Lawful c es
  -- no two entries share an identifier
  pub once : (imad : Imad) → times_posted imad es ≤ 1
  -- over all accounts the balances add up to the openings
  pub conserved : total (λ a. balance c es a.aba) c.accounts ≡ total (λ a. a.opening) c.accounts
  -- no account's balance is lower than its floor, or than its opening where that is lower
  pub within_floors : (a : Account) → Contains c.accounts a → int_min a.floor a.opening ≤ℤ balance c es a.aba
  -- the output numbers of each endpoint under each date are 1, 2, 3 and so on
  pub numbers : (e : List ℕ) (date : ℕ) → numbers_under date (outputs c es e) ≡ one_to (count_under date (outputs c es e))
  -- a message that is known is answered with the verdict that stands, a refusal too, whatever its mark
  pub again : (text : List ℕ) (reading : ℕ) (r : Repeats c es text) → r.own_body ≡ r.body
      → submitted c es r.head.imad.source reading text ≡ stays (Known r.head.imad r.verdict)
  -- another text under a known identifier is turned away and changes nothing
  pub other : (text : List ℕ) (reading : ℕ) (r : Repeats c es text) → r.own_body ≢ r.body
      → submitted c es r.head.imad.source reading text ≡ stays (TurnedAway x201)

-- a script's list keeps them after each of its events, and so does the list of which its report tells
pub record KeepsPromises (s : Script) : Type 0 where
  pub each : (n : ℕ) → Promises s.config (entries_after s.config [] (opening_moment s.config) (take n s.events))
  pub whole : Promises s.config (entries_of s)
