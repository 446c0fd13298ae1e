-- The edit table on whole submissions: which pass, and what is told first of those that don't.
use Rattle.std.proofs.Common.{◌≡◌, ℕ, false, true, List, [], ◌∷◌, ◌++◌, refl}
use Rattle.std.specs.Prelude.{codes, None, Some}
use Rattle.faim_tags.specs.Spelling.{Tag}
use Rattle.faim_message.specs.declared.form.Form.TheVariants.{Input}
use Rattle.faim_message.specs.declared.form.Breaks.TheVariants.{Joined}
use Rattle.faim_message.specs.Spelling.{Content}
use Rattle.faim_message.specs.Edits.{first_failed}

-- a tag of fixed elements, and one with a star element
abbrev fixed : ℕ → List ℕ → Tag
fixed n bytes = record { no = n; fixed = bytes; stars = []; closed = false }

abbrev remark : ℕ → List ℕ → Tag
remark n star = record { no = n; fixed = []; stars = star ∷ []; closed = true }

-- a submission to a test line with this mark, type and subtype, amount, receiver and code, and with more tags
abbrev submission : ℕ → List ℕ → List ℕ → List ℕ → List ℕ → List Tag → Content
submission mark kind amount receiver code more = record {
  form = Input;
  breaks = Joined;
  tags = fixed 1500 (codes "30USERREQ1T" ++ mark ∷ []) ∷ fixed 1510 kind ∷ fixed 1520 (codes "20240102BANKA001000001") ∷ fixed 2000 amount
      ∷ fixed 3100 (codes "021000021") ∷ fixed 3400 receiver ∷ fixed 3600 code ∷ more;
}

cents : List ℕ
cents = codes "000000150000"

nothing : List ℕ
nothing = codes "000000000000"

beta : List ℕ
beta = codes "121042882"

-- between banks, and sent again
between_banks : first_failed 84 (submission 80 (codes "1000") cents beta (codes "BTR") []) ≡ None
unfolding cents beta
between_banks = refl

-- marked as the service marks what is asked for again
marked_r : first_failed 84 (submission 82 (codes "1000") cents beta (codes "BTR") []) ≡ Some 103
unfolding cents beta
marked_r = refl

-- to a production line
to_production : first_failed 80 (submission 32 (codes "1000") cents beta (codes "BTR") []) ≡ Some 102
unfolding cents beta
to_production = refl

-- a wrong check digit and no amount: the first of the two
two_fail : first_failed 84 (submission 32 (codes "1000") nothing (codes "021000022") (codes "BTR") []) ≡ Some 107
unfolding nothing
two_fail = refl

-- a service message pays nothing, a transfer pays
service : first_failed 84 (submission 32 (codes "1090") nothing beta (codes "SVC") (remark 9000 (codes "PLEASE CALL") ∷ [])) ≡ None
unfolding nothing beta
service = refl

pays_nothing : first_failed 84 (submission 32 (codes "1000") nothing beta (codes "BTR") []) ≡ Some 108
unfolding nothing beta
pays_nothing = refl

-- a customer transfer, whole, without its originator, and with an identification code that isn't listed
customer : first_failed 84 (submission 32 (codes "1000") cents beta (codes "CTR") (fixed 4200 (codes "D") ∷ fixed 5000 (codes " ") ∷ [])) ≡ None
unfolding cents beta
customer = refl

no_originator : first_failed 84 (submission 32 (codes "1000") cents beta (codes "CTR") (fixed 4200 (codes "D") ∷ [])) ≡ Some 110
unfolding cents beta
no_originator = refl

strange_code : first_failed 84 (submission 32 (codes "1000") cents beta (codes "CTR") (fixed 4200 (codes "D") ∷ fixed 5000 (codes "A") ∷ [])) ≡ Some 117
unfolding cents beta
strange_code = refl

-- drawdown parts in a drawdown, and in a transfer
drawdown : first_failed 84 (submission 32 (codes "1031") cents beta (codes "DRB") (fixed 4400 (codes "D") ∷ fixed 5400 beta ∷ [])) ≡ None
unfolding cents beta
drawdown = refl

no_drawdown : first_failed 84 (submission 32 (codes "1600") cents beta (codes "FFS") (fixed 5400 beta ∷ [])) ≡ Some 115
unfolding cents beta
no_drawdown = refl

-- a subtype about an earlier message: not permitted, without that message, and with it
not_permitted : first_failed 84 (submission 32 (codes "1508") cents beta (codes "CKS") []) ≡ Some 105
unfolding cents beta
not_permitted = refl

names_none : first_failed 84 (submission 32 (codes "1608") cents beta (codes "CKS") []) ≡ Some 112
unfolding cents beta
names_none = refl

names_one : first_failed 84 (submission 32 (codes "1608") cents beta (codes "CKS") (remark 3500 (codes "20240102BANKA001000001") ∷ [])) ≡ None
unfolding cents beta
names_one = refl

-- a code that isn't one of the ten
unknown : first_failed 84 (submission 32 (codes "1000") cents beta (codes "CTP") []) ≡ Some 104
unfolding cents beta
unknown = refl
