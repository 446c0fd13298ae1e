-- A payment on the day of two banks, as the first entry of its host.
use Rattle.std.proofs.Common.{◌≡◌, ℕ, List, [], ◌∷◌, refl, sym, subst, inl, lit≤}
use Rattle.std.specs.Prelude.{codes, pos, false, None}
use Rattle.faim_base.specs.declared.judgement.Head.{Head}
use Rattle.faim_base.specs.declared.judgement.Verdict.TheVariants.{Taken}
use Rattle.faim_base.specs.Calendar.{days_of_months, days_of_years}
use Rattle.faim_message.specs.Forms.{permitted}
use Rattle.faim_tags.specs.Layouts.{row_of}
use Rattle.host_ledger.specs.declared.config.Config.{Config}
use Rattle.host_ledger.specs.declared.entries.Entry.{Entry}
use Rattle.host_ledger.specs.declared.entries.Entry.TheVariants.{Posted}
use Rattle.faim_model.specs.Lawful.{Follows, PostFollows}
use Rattle.host_core.specs.State.{State}

abbrev pub day : Config
day = record {
  env = 84;
  date = 8767;
  customer = 1080;
  bank = 1110;
  accounts = record { aba = codes "021000021"; endpoint = codes "BANKA001"; opening = pos 1000000; floor = pos 850000 }
      ∷ record { aba = codes "121042882"; endpoint = codes "BANKB001"; opening = pos 0; floor = pos 0 } ∷ [];
}

abbrev pub paid : Head
paid = record {
  imad = record { date = 8767; source = codes "BANKA001"; seq = 1 };
  sender = codes "021000021";
  receiver = codes "121042882";
  code = codes "BTR";
  kind = 10;
  sub = 0;
  amount = 150000;
}

abbrev pub text : List ℕ
text = codes "{1500}30USERREQ1T {1510}1000{1520}20240102BANKA001000001{2000}000000150000{3100}021000021ALPHA BANK*{3400}121042882BETA BANK*{3600}BTR"

abbrev pub first : Entry
first = Posted paid text false 12624480 (Taken (codes "BANKB001") 1)

first_follows : PostFollows day [] paid text false 12624480 (Taken (codes "BANKB001") 1)
unfolding days_of_months days_of_years row_of permitted
first_follows = record { in_time = lit≤ tt; failed = None; spelled = refl; mark = 32; marked = inl refl; judged = refl }

pub follows_as : (s : State) (x : Entry) → s ≡ record { config = day; entries = [] } → x ≡ first → Follows s.config s.entries x
follows_as s x es ex =
    let Q : Entry → Type 0 = λ y. Follows day [] y in
    let P : State → Type 0 = λ t. Follows t.config t.entries x in
    subst P (sym es) (subst Q (sym ex) first_follows)
