-- What a journal keeps of a draft of BANKA001 on 2024-01-02.
use Rattle.std.specs.Prelude.{refl, ℕ, List, codes}
use Rattle.faim_base.specs.declared.ids.Imad.{Imad}
use Rattle.faim_base.specs.Calendar.{date_from, date_in_year, date_text, days_of_months, days_of_years}
use Rattle.faim_base.specs.Digits.{padded}
use Rattle.faim_message.specs.Forms.{permitted}
use Rattle.faim_tags.specs.Layouts.{row_of}
use Rattle.bank_turns.specs.KeptTexts.{KeepsDraft}

abbrev imad : Imad
imad = record { date = 8767; source = codes "BANKA001"; seq = 1 }

abbrev text : List ℕ
text = codes "{1500}30USERREQ1T {1510}1000{1520}20240102BANKA001000001{2000}000000150000{3100}021000021*{3400}121042882*{3600}BTR"

is_kept : KeepsDraft imad text
unfolding date_from date_in_year date_text padded days_of_months days_of_years row_of permitted
is_kept = record { message = _; read = refl; named = refl; blank = refl }
