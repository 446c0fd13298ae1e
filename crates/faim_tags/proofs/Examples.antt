-- The definitions on small examples.
use Rattle.std.proofs.Common.{◌≡◌, true, false, [], ◌∷◌, refl}
use Rattle.std.specs.Prelude.{codes, Some, None, map}
use Rattle.faim_base.specs.Tags.{tag_numbers}
use Rattle.faim_tags.specs.Layouts.{row_of, rows}
use Rattle.faim_tags.specs.Spelling.{Tag, IsTag, spelling}
use Rattle.faim_tags.specs.Steps.{InNumber, Inside, steps}

bank : Tag
bank = record { no = 3100; fixed = codes "021000021"; stars = codes "ALPHA BANK" ∷ []; closed = true }

bank_spelled : spelling bank ≡ codes "{3100}021000021ALPHA BANK*"
unfolding bank
bank_spelled = refl

bank_sound : IsTag bank
unfolding bank row_of
bank_sound = record { listed = refl; filled = refl; fitting = refl; something = refl }

function : Tag
function = record { no = 3600; fixed = codes "BTR"; stars = codes "   " ∷ []; closed = false }

function_sound : IsTag function
unfolding function row_of
function_sound = record { listed = refl; filled = refl; fitting = refl; something = refl }

function_spelled : spelling function ≡ codes "{3600}BTR   "
unfolding function
function_spelled = refl

numbers_agree : map (λ r. r.number) rows ≡ tag_numbers
numbers_agree = refl

bank_read : steps tag_numbers (InNumber []) (codes "{3100}021000021ALPHA BANK*") ≡ Some (Inside 3100 (codes "021000021") (codes "ALPHA BANK" ∷ []) [])
unfolding row_of
bank_read = refl

wrong_digit : steps tag_numbers (InNumber []) (codes "{61005") ≡ None
unfolding row_of
wrong_digit = refl

half : steps tag_numbers (InNumber []) (codes "{61") ≡ Some (InNumber (codes "{61"))
unfolding row_of
half = refl
