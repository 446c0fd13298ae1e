-- The refusals that a host gives (docs/FORMATS.md, "Refusals").
use Rattle.std.specs.Prelude.{ℕ, ◌==◌, ◌&&◌, ◌||◌, nat_le, Bool}
use Rattle.faim_base.specs.declared.judgement.Reject.{Reject}

abbrev pub refusal : ℕ → ℕ → Reject
refusal letter number = record { category = letter; code = number }

-- the text is no message; its identifier is none
abbrev pub e001 : Reject
e001 = refusal 69 1

abbrev pub e002 : Reject
e002 = refusal 69 2

-- an edit of the table failed
abbrev pub edit : ℕ → Reject
edit number = refusal 69 number

-- the sender has no account on the line; the receiver has none at all
abbrev pub e161 : Reject
e161 = refusal 69 161

abbrev pub e162 : Reject
e162 = refusal 69 162

-- the balance would go below its floor
abbrev pub f401 : Reject
f401 = refusal 70 401

-- another cycle date; another line
abbrev pub h101 : Reject
h101 = refusal 72 101

abbrev pub h102 : Reject
h102 = refusal 72 102

-- the output numbers of the cycle are used up
abbrev pub i501 : Reject
i501 = refusal 73 501

-- the customers' cutoff is past; the banks' is
abbrev pub w301 : Reject
w301 = refusal 87 301

abbrev pub w302 : Reject
w302 = refusal 87 302

-- the identifier is known with another text
abbrev pub x201 : Reject
x201 = refusal 88 201

abbrev pub is_edit_number : ℕ → Bool
is_edit_number n = (nat_le 101 n && nat_le n 117) || ((n == 161) || (n == 162))

-- the refusals that are kept as an entry: all but E001, E002, H102 and X201
abbrev pub is_recorded : Reject → Bool
is_recorded r =
    ((r.category == 69) && is_edit_number r.code)
    || (((r.category == 70) && (r.code == 401))
    || (((r.category == 72) && (r.code == 101))
    || (((r.category == 73) && (r.code == 501))
    || ((r.category == 87) && ((r.code == 301) || (r.code == 302))))))
