-- What a host judges a submission by (docs/FORMATS.md, "Messages").
use Rattle.std.specs.Prelude.{ℕ, ◌==◌, List, [], take, drop, Option, Some, None, Result, Ok}
use Rattle.std.specs.List.{find}
use Rattle.faim_base.specs.Digits.{number_of}
use Rattle.faim_base.specs.Ids.{◌>>=◌, read_imad}
use Rattle.faim_base.specs.declared.judgement.Head.{Head}
use Rattle.faim_base.specs.declared.ids.IdFault.{IdFault}
use Rattle.faim_tags.specs.Spelling.{Tag}
use Rattle.faim_message.specs.Spelling.{Content}

-- a tag's fixed elements, none where there is no tag
abbrev pub fixed_of : Option Tag → List ℕ
fixed_of None = []
fixed_of (Some v) = v.fixed

-- the fixed elements of the tag with this number
abbrev pub fixed_in : List Tag → ℕ → List ℕ
fixed_in tags n = fixed_of (find (λ v. v.no == n) tags)

-- the head that tags give, or the fault of their identifier
abbrev pub head_in : List Tag → Result Head IdFault
head_in tags = do
  imad ← read_imad (fixed_in tags 1520)
  Ok (record {
    imad = imad;
    sender = fixed_in tags 3100;
    receiver = fixed_in tags 3400;
    code = fixed_in tags 3600;
    kind = number_of (take 2 (fixed_in tags 1510));
    sub = number_of (drop 2 (fixed_in tags 1510));
    amount = number_of (fixed_in tags 2000);
  })

-- the head of a submission
abbrev pub head_of : Content → Result Head IdFault
head_of m = head_in m.tags
