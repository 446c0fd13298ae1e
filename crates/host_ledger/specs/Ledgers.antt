-- A table of running balances, and the entries that it stands for.
use Rattle.std.specs.Prelude.{◌≡◌, ℕ, List, map, not, is_none, if◌then◌else◌, Option, None, Some, ℤ}
use Rattle.std.specs.List.{AllByRecursion}
use Rattle.faim_base.specs.Numbers.{IsAmount}
use Rattle.faim_base.specs.Refusals.{e161, e162}
use Rattle.faim_base.specs.declared.judgement.Head.{Head}
use Rattle.faim_base.specs.declared.judgement.Reject.{Reject}
use Rattle.host_ledger.specs.declared.config.Account.{Account}
use Rattle.host_ledger.specs.declared.config.Config.{Config}
use Rattle.host_ledger.specs.declared.entries.Entry.{Entry}
use Rattle.host_ledger.specs.declared.entries.Entry.TheVariants.{Posted, Roll}
use Rattle.host_ledger.specs.Accounts.{account_of, is_served_at}
use Rattle.host_ledger.specs.Sums.{balance}

-- an account's number, its endpoint, and its floor and running balance in cents
pub record Row : Type 0 where
  pub aba : List ℕ
  pub endpoint : List ℕ
  pub floor : ℤ
  pub balance : ℤ

-- the row of an account after these entries
abbrev pub row_after : Config → List Entry → Account → Row
row_after c es a = record { aba = a.aba; endpoint = a.endpoint; floor = a.floor; balance = balance c es a.aba }

-- what the entry posts, if anything, is of an amount that there is
abbrev pub HasAmount : Entry → Type 0
HasAmount (Posted h body resent moment v) = IsAmount h.amount
HasAmount (Roll moment date) = Unit {0}

-- the rows are those of the configuration's accounts, in order, each with its balance after the entries
pub record Stands (rows : List Row) (c : Config) (es : List Entry) : Type 0 where
  pub accounts : rows ≡ map (row_after c es) c.accounts
  pub amounts : AllByRecursion HasAmount es

-- E161 where no account of the sender is on the line, else E162 where the receiver has no account at all
abbrev pub account_refusal : Config → List ℕ → Head → Option Reject
account_refusal c line h =
    if not (is_served_at c h.sender line) then Some e161
    else if is_none (account_of c h.receiver) then Some e162
    else None
