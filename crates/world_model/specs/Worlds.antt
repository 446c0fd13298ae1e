-- A world: a host, the banks of some endpoints, and all frames that ever went from one end to the other.
use Rattle.std.specs.Prelude.{ℕ, ◌*◌, List, [], bytes_eq, if◌then◌else◌}
use Rattle.std.specs.List.{Contains}
use Rattle.link_frames.specs.Frames.{Content as Frame}
use Rattle.host_ledger.specs.declared.config.Config.{Config}
use Rattle.host_ledger.specs.declared.entries.Entry.{Entry}
use Rattle.bank_books.specs.declared.entries.BankEntry.{BankEntry}
use Rattle.bank_books.specs.declared.entries.BankOpening.{BankOpening}

pub record World : Type 0 where
  pub config : Config
  -- the endpoints that have a bank here, in their order
  pub banks : List (List ℕ)
  -- what the clock reads, in minutes
  pub moment : ℕ
  -- the host's entries, the newest first, and how many of them its last record has
  pub entries : List Entry
  pub recent : ℕ
  -- the entries of the bank of an endpoint, the newest first
  pub books : List ℕ → List BankEntry
  -- all frames that the banks sent, each with the endpoint of its bank, and all that the host sent, each with the endpoint that
  -- it went to; the oldest first
  pub to_host : List Frame
  pub from_host : List Frame

-- the endpoint has a bank here
abbrev pub HasBank : World → List ℕ → Type 0
HasBank w e = Contains w.banks e

-- what the bank of an endpoint opens with: the host's line and date
abbrev pub opening_at : Config → List ℕ → BankOpening
opening_at c e = record { endpoint = e; env = c.env; date = c.date }

-- a world in which nothing has happened: the clock reads the first minute of the opening date
abbrev pub started : Config → List (List ℕ) → World
started c banks = record {
  config = c;
  banks = banks;
  moment = 1440 * c.date;
  entries = [];
  recent = 0;
  books = λ e. [];
  to_host = [];
  from_host = [];
}

-- the books where the bank of one endpoint has these entries
abbrev pub books_with : List ℕ → List BankEntry → (List ℕ → List BankEntry) → List ℕ → List BankEntry
books_with e kept books other = if bytes_eq other e then kept else books other
