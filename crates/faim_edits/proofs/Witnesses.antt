-- Submissions that fail one edit each.
use Rattle.std.proofs.Common.{◌≡◌, ℕ, Bool, true, false, ◌&&◌, not, List, [], ◌∷◌, ◌++◌, refl}
use Rattle.std.specs.Prelude.{codes, if◌then◌else◌, ◌==◌}
use Rattle.std.specs.List.{list_all}
use Rattle.faim_base.specs.Tags.{is_tag_number}
use Rattle.faim_tags.specs.Layouts.{classes, maxima, row_of}
use Rattle.faim_tags.specs.Spelling.{Tag, IsTag, fill, all_fit, is_empty}
use Rattle.faim_tags.specs.Reading.{is_among}
use Rattle.faim_message.specs.declared.form.Form.TheVariants.{Input}
use Rattle.faim_message.specs.declared.form.Breaks.TheVariants.{Joined}
use Rattle.faim_message.specs.Forms.{permitted, first_of}
use Rattle.faim_message.specs.Spelling.{Content, IsMessage, EachTag, numbers, distinct, leads, is_complete}
use Rattle.faim_edits.specs.Failures.{Fails, failed_edits}

-- what a sound tag and a sound message are, as tests
is_tag : Tag → Bool
is_tag v = is_tag_number v.no && (fill (classes v.no) v.fixed && (all_fit (maxima v.no) v.stars v.closed && not (is_empty (classes v.no) && is_empty v.stars)))

is_sound : Content → Bool
is_sound m =
    list_all is_tag m.tags
    && (distinct (numbers m.tags) && (list_all (is_among (permitted m.form)) (numbers m.tags)
    && (leads (first_of m.form) m.tags && is_complete m.form m.tags)))

both : (a b : Bool) → a && b ≡ true → (a ≡ true) × (b ≡ true)
both true b e = (refl, e)
both false b e = absurd (let wrong : false ≡ true = e in cc)

denied : (b : Bool) → not b ≡ true → b ≡ false
denied true e = absurd (let wrong : false ≡ true = e in cc)
denied false e = refl

tag_sound : (v : Tag) → is_tag v ≡ true → IsTag v
unfolding is_tag
tag_sound v e =
    let a = both (is_tag_number v.no) _ e in
    let b = both (fill (classes v.no) v.fixed) _ a.1 in
    let d = both (all_fit (maxima v.no) v.stars v.closed) _ b.1 in
    record { listed = a.0; filled = b.0; fitting = d.0; something = denied _ d.1 }

each_sound : (tags : List Tag) → list_all is_tag tags ≡ true → EachTag tags
each_sound [] e = tt
each_sound (v ∷ tags) e = let a = both (is_tag v) (list_all is_tag tags) e in (tag_sound v a.0, each_sound tags a.1)

sound_by : (m : Content) → is_sound m ≡ true → IsMessage m
unfolding is_sound
sound_by m e =
    let a = both (list_all is_tag m.tags) _ e in
    let b = both (distinct (numbers m.tags)) _ a.1 in
    let d = both (list_all (is_among (permitted m.form)) (numbers m.tags)) _ b.1 in
    let f = both (leads (first_of m.form) m.tags) _ d.1 in
    record { tags_sound = record { each = each_sound m.tags a.0; apart = b.0; allowed = d.0; led = f.0 }; complete = f.1 }

-- a tag of fixed elements, and one with a star element
abbrev tag : ℕ → List ℕ → Tag
tag n bytes = record { no = n; fixed = bytes; stars = []; closed = false }

abbrev starred : ℕ → List ℕ → Tag
starred n star = record { no = n; fixed = []; stars = star ∷ []; closed = true }

-- a submission of these parts, with more tags
record Parts : Type 0 where
  supplied : List ℕ
  kind : List ℕ
  amount : List ℕ
  sender : List ℕ
  receiver : List ℕ
  code : List ℕ
  more : List Tag

abbrev submission : Parts → Content
submission p = record {
  form = Input;
  breaks = Joined;
  tags = tag 1500 p.supplied ∷ tag 1510 p.kind ∷ tag 1520 (codes "20240102BANKA001000001") ∷ tag 2000 p.amount
      ∷ tag 3100 p.sender ∷ tag 3400 p.receiver ∷ tag 3600 p.code ∷ p.more;
}

-- a transfer between banks that fails no edit
abbrev transfer : ℕ → Parts
transfer env = record {
  supplied = codes "30USERREQ1" ++ env ∷ 32 ∷ [];
  kind = codes "1000";
  amount = codes "000000150000";
  sender = codes "021000021";
  receiver = codes "121042882";
  code = codes "BTR";
  more = [];
}

-- the same, but for what makes it fail this edit
abbrev failing : ℕ → ℕ → Parts
failing env n =
    let t = transfer env in
    if n == 101 then record t { supplied = codes "31USERREQ1" ++ env ∷ 32 ∷ [] }
    else if n == 102 then record t { supplied = codes "30USERREQ1X " }
    else if n == 103 then record t { supplied = codes "30USERREQ1" ++ env ∷ 82 ∷ [] }
    else if n == 104 then record t { code = codes "CTP" }
    else if n == 105 then record t { kind = codes "1031" }
    else if n == 106 then record t { sender = codes "021000022" }
    else if n == 107 then record t { receiver = codes "021000022" }
    else if n == 108 then record t { amount = codes "000000000000" }
    else if n == 109 then record t { code = codes "CTR"; more = tag 5000 (codes "D") ∷ [] }
    else if n == 110 then record t { code = codes "CTR"; more = tag 4200 (codes "D") ∷ [] }
    else if n == 111 then record t { code = codes "DRB"; kind = codes "1031" }
    else if n == 112 then record t { kind = codes "1002" }
    else if n == 113 then record t { more = starred 9000 (codes "PLEASE CALL") ∷ [] }
    else if n == 114 then record t { more = tag 4400 (codes "D") ∷ [] }
    else if n == 115 then record t { more = tag 5400 (codes "021000021") ∷ [] }
    else if n == 116 then record t { more = tag 6110 (codes "ADV") ∷ [] }
    else if n == 117 then record t { more = tag 4100 (codes "X") ∷ [] }
    else t

abbrev pub wanted : ℕ → List ℕ
wanted n = if n == 104 then 104 ∷ 105 ∷ [] else n ∷ []

fails : (env : ℕ) (p : Parts) (ns : List ℕ) → is_sound (submission p) ≡ true → failed_edits env (submission p) ≡ ns → Fails env ns
fails env p ns sound failed = record { message = submission p; sound = sound_by (submission p) sound; form = refl; failed = failed }

pub none_fails_test : Fails 84 []
unfolding is_sound is_tag row_of permitted
none_fails_test = fails 84 (transfer 84) [] refl refl

pub none_fails_production : Fails 80 []
unfolding is_sound is_tag row_of permitted
none_fails_production = fails 80 (transfer 80) [] refl refl

-- one for each number
abbrev pub EachFails : ℕ → List ℕ → Type 0
EachFails env [] = Unit {0}
EachFails env (n ∷ ns) = Fails env (wanted n) × EachFails env ns

abbrev pub rows : List ℕ
rows = 101 ∷ 102 ∷ 103 ∷ 104 ∷ 105 ∷ 106 ∷ 107 ∷ 108 ∷ 109 ∷ 110 ∷ 111 ∷ 112 ∷ 113 ∷ 114 ∷ 115 ∷ 116 ∷ 117 ∷ []

one : (env n : ℕ) → is_sound (submission (failing env n)) ≡ true → failed_edits env (submission (failing env n)) ≡ wanted n → Fails env (wanted n)
one env n sound failed = fails env (failing env n) (wanted n) sound failed

pub each_test : EachFails 84 rows
unfolding is_sound is_tag row_of permitted
each_test = (
  one 84 101 refl refl,
  (
    one 84 102 refl refl,
    (
      one 84 103 refl refl,
      (
        one 84 104 refl refl,
        (
          one 84 105 refl refl,
          (
            one 84 106 refl refl,
            (
              one 84 107 refl refl,
              (
                one 84 108 refl refl,
                (
                  one 84 109 refl refl,
                  (
                    one 84 110 refl refl,
                    (
                      one 84 111 refl refl,
                      (
                        one 84 112 refl refl,
                        (one 84 113 refl refl, (one 84 114 refl refl, (one 84 115 refl refl, (one 84 116 refl refl, (one 84 117 refl refl, tt))))),
                      ),
                    ),
                  ),
                ),
              ),
            ),
          ),
        ),
      ),
    ),
  ),
)

pub each_production : EachFails 80 rows
unfolding is_sound is_tag row_of permitted
each_production = (
  one 80 101 refl refl,
  (
    one 80 102 refl refl,
    (
      one 80 103 refl refl,
      (
        one 80 104 refl refl,
        (
          one 80 105 refl refl,
          (
            one 80 106 refl refl,
            (
              one 80 107 refl refl,
              (
                one 80 108 refl refl,
                (
                  one 80 109 refl refl,
                  (
                    one 80 110 refl refl,
                    (
                      one 80 111 refl refl,
                      (
                        one 80 112 refl refl,
                        (one 80 113 refl refl, (one 80 114 refl refl, (one 80 115 refl refl, (one 80 116 refl refl, (one 80 117 refl refl, tt))))),
                      ),
                    ),
                  ),
                ),
              ),
            ),
          ),
        ),
      ),
    ),
  ),
)
