-- The edit table in print (docs/FORMATS.md, "Table").
use Rattle.std.specs.Prelude.{ℕ, List, [], ◌∷◌, ◌++◌, if◌then◌else◌}
use Rattle.std.specs.List.{flat_map}
use Rattle.std.specs.Option.{unwrap_or}
use Rattle.faim_base.specs.declared.judgement.Reject.{Reject}
use Rattle.faim_base.specs.Digits.{padded}
use Rattle.faim_message.specs.Edits.{Permitted, permitted_kinds}
use Rattle.faim_edits.specs.Texts.{Listed, listed, text_of, is_edit}

-- a refusal as its letter and three digits
abbrev pub refusal_code : Reject → List ℕ
refusal_code r = r.category ∷ padded 3 r.code

-- a refusal's letter and digits, a blank, its text
abbrev pub refusal_with_text : Reject → List ℕ
refusal_with_text r = refusal_code r ++ 32 ∷ unwrap_or (text_of r) []

-- a code and after it, each after a blank, the types and subtypes that it permits
abbrev pub kinds_line : Permitted → List ℕ
kinds_line p = p.code ++ flat_map (λ k. 32 ∷ padded 4 k) p.kinds ++ 10 ∷ []

-- the line of a listed refusal; only edits have one
abbrev pub edit_line : Listed → List ℕ
edit_line l = if is_edit l.refusal then refusal_with_text l.refusal ++ 10 ∷ [] else []

-- the permitted types and subtypes, then the edits
abbrev pub table_text : List ℕ
table_text = flat_map kinds_line permitted_kinds ++ flat_map edit_line listed
