-- Where the entries of a lawful list stand.
use Rattle.std.proofs.Common.{◌≡◌, refl, sym, ◌∙◌, ap, subst, ℕ, ◌+◌, ◌<◌, Bool, true, false, List, [], ◌∷◌, length, Option, Some, None, if◌then◌else◌, ⊎_elim, arith}
use Rattle.std.proofs.lemmas.Bool.{and_left, and_right, and_from, eq-eqb, false_from_ne_true, ne_eqb}
use Rattle.std.specs.List.{Contains}
use Rattle.std.specs.Str.{bytes_eq}
use Rattle.faim_base.specs.declared.ids.Imad.{Imad}
use Rattle.faim_base.specs.declared.judgement.Head.{Head}
use Rattle.faim_base.specs.declared.judgement.Verdict.{Verdict}
use Rattle.host_ledger.specs.declared.config.Config.{Config}
use Rattle.host_ledger.specs.declared.entries.Entry.{Entry}
use Rattle.host_ledger.specs.declared.entries.Entry.TheVariants.{Posted, Roll}
use Rattle.faim_model.specs.Verdicts.{has_body, has_imad, place_of, same_imad}
use Rattle.faim_model.specs.Lawful.{Follows, Lawful}
use Rattle.faim_model.specs.Turns.{entry_at}
use Rattle.faim_model.proofs.Imads.{bytes_equal, bytes_pass, imads_equal, imads_pass, none_there}
use Rattle.faim_model.proofs.Members.{first_or_later, none_in}
use Rattle.faim_model.proofs.Judgements.{posted_fresh}

-- an entry that passes is found, and one that doesn't is passed over
finds : (p : Entry → Bool) (x : Entry) (es : List Entry) → p x ≡ true → place_of p (x ∷ es) ≡ Some (length es)
finds p x es passes = rw passes refl

passes_over : (p : Entry → Bool) (x : Entry) (es : List Entry) → p x ≡ false → place_of p (x ∷ es) ≡ place_of p es
passes_over p x es fails = rw fails refl

below_step : (passes : Bool) (n place : ℕ) (rest : Option ℕ) → (if passes then Some n else rest) ≡ Some place
    → (rest ≡ Some place → place < n) → place < n + 1
below_step true n place rest found below = let here : n ≡ place = cc in omega arith
below_step false n place rest found below = let there : place < n = below found in omega arith

-- a place that is found is one of the list
pub found_below : (p : Entry → Bool) (es : List Entry) (place : ℕ) → place_of p es ≡ Some place → place < length es
found_below p [] place found = absurd cc
found_below p (x ∷ es) place found =
    let below : place < length es + 1 = below_step (p x) (length es) place (place_of p es) found (found_below p es place) in
    omega arith

-- what stands at the place of the newest entry, and at a place before it
pub at_newest : (x : Entry) (es : List Entry) → entry_at (x ∷ es) (length es) ≡ Some x
at_newest x es = rw (eq-eqb (length es) (length es) refl) refl

pub at_older : (x : Entry) (es : List Entry) (place : ℕ) → place < length es → entry_at (x ∷ es) place ≡ entry_at es place
at_older x es place below = rw (ne_eqb (length es) place (λ same. absurd (omega arith))) refl

-- an entry more keeps a place found, or has one itself
here_or_there : (p : Entry → Bool) (x : Entry) (es : List Entry) (passes : Bool) → p x ≡ passes
    → (place : ℕ) × (place_of p es ≡ Some place) → (place : ℕ) × (place_of p (x ∷ es) ≡ Some place)
here_or_there p x es true test there = (length es, finds p x es test)
here_or_there p x es false test there = (there.0, passes_over p x es test ∙ there.1)

-- an entry that hasn't the identifier hasn't it with a body either
no_imad_no_body : (imad : Imad) (body : List ℕ) (x : Entry) → has_imad imad x ≡ false → has_body imad body x ≡ false
no_imad_no_body imad body (Roll moment date) other = refl
no_imad_no_body imad body (Posted h b resent moment v) other = and_left (same_imad h.imad imad) (bytes_eq b body) other

pub none_with_body : (imad : Imad) (body : List ℕ) (es : List Entry) → place_of (has_imad imad) es ≡ None → place_of (has_body imad body) es ≡ None
none_with_body imad body [] none = refl
none_with_body imad body (x ∷ es) none =
    let apart = none_there (has_imad imad) x es none in
    passes_over (has_body imad body) x es (no_imad_no_body imad body x apart.0) ∙ none_with_body imad body es apart.1

-- the place at which an entry is found by a test
pub record IsFound (es : List Entry) (p : Entry → Bool) (x : Entry) : Type 0 where
  pub place : ℕ
  pub found : place_of p es ≡ Some place
  pub stands : entry_at es place ≡ Some x

found_older : (p : Entry → Bool) (x y : Entry) (es : List Entry) → p x ≡ false → IsFound es p y → IsFound (x ∷ es) p y
found_older p x y es fails f = record {
  place = f.place;
  found = passes_over p x es fails ∙ f.found;
  stands = at_older x es f.place (found_below p es f.place f.found) ∙ f.stands;
}

-- of one posted entry
module _ (c : Config) (h : Head) (body : List ℕ) (resent : Bool) (moment : ℕ) (v : Verdict) where
  abbrev post : Entry
  post = Posted h body resent moment v

  -- it is found by its identifier
  pub imad_found : (imad : Imad) (es : List Entry) → Contains es post → h.imad ≡ imad → (place : ℕ) × (place_of (has_imad imad) es ≡ Some place)
  imad_found imad [] there same = absurd (none_in post there)
  imad_found imad (x ∷ es) there same =
      ⊎_elim (λ (here : post ≡ x). (length es, finds (has_imad imad) x es (subst (λ (y : Entry). has_imad imad y ≡ true) here (imads_pass h.imad imad same))))
      (λ (older : Contains es post). here_or_there (has_imad imad) x es (has_imad imad x) refl (imad_found imad es older same)) (first_or_later x post es there)

  -- what follows it has another identifier
  later_has_other : (x : Entry) (es : List Entry) → Follows c es x → Contains es post → has_imad h.imad x ≡ false
  later_has_other (Roll at date) es follows there = refl
  later_has_other (Posted h' body' resent' moment' v') es follows there =
      false_from_ne_true (same_imad h'.imad h.imad)
      (λ same. let found = imad_found h'.imad es there (sym (imads_equal h'.imad h.imad same)) in
      let both : None ≡ Some found.0 = sym (posted_fresh c es h' body' resent' moment' v' follows) ∙ found.1 in absurd cc)

  found_newest : (x : Entry) (es : List Entry) → post ≡ x → IsFound (x ∷ es) (has_body h.imad body) post
  found_newest x es here =
      let own : has_body h.imad body post ≡ true = and_from _ _ (imads_pass h.imad h.imad refl) (bytes_pass body body refl) in
      record {
        place = length es;
        found = finds (has_body h.imad body) x es (subst (λ (y : Entry). has_body h.imad body y ≡ true) here own);
        stands = at_newest x es ∙ ap (λ (y : Entry). Some y) (sym here);
      }

  -- it is the entry that is found by its identifier and its body
  pub post_found : (es : List Entry) → Lawful c es → Contains es post → IsFound es (has_body h.imad body) post
  post_found [] lawful there = absurd (none_in post there)
  post_found (x ∷ es) lawful there =
      ⊎_elim (λ (here : post ≡ x). found_newest x es here)
      (λ older. found_older (has_body h.imad body) x post es (no_imad_no_body h.imad body x (later_has_other x es lawful.0 older)) (post_found es lawful.1 older))
      (first_or_later x post es there)

  other_body : (other : List ℕ) → (other ≡ body → ⊥) → has_body h.imad other post ≡ false
  other_body other apart =
      and_right (same_imad h.imad h.imad) (bytes_eq body other) (false_from_ne_true (bytes_eq body other) (λ same. apart (sym (bytes_equal body other same))))

  none_after : (other : List ℕ) (x : Entry) (es : List Entry) → Follows c es x → post ≡ x → place_of (has_body h.imad other) es ≡ None
  none_after other x es follows here =
      let own : Follows c es post = subst (λ (y : Entry). Follows c es y) (sym here) follows in
      none_with_body h.imad other es (posted_fresh c es h body resent moment v own)

  -- no entry has its identifier and another body
  pub no_other_body : (other : List ℕ) (es : List Entry) → Lawful c es → Contains es post → (other ≡ body → ⊥) → place_of (has_body h.imad other) es ≡ None
  no_other_body other [] lawful there apart = absurd (none_in post there)
  no_other_body other (x ∷ es) lawful there apart =
      ⊎_elim
      (λ here. passes_over (has_body h.imad other) x es (subst (λ (y : Entry). has_body h.imad other y ≡ false) here (other_body other apart))
      ∙ none_after other x es lawful.0 here)
      (λ older. passes_over (has_body h.imad other) x es (no_imad_no_body h.imad other x (later_has_other x es lawful.0 older))
      ∙ no_other_body other es lawful.1 older apart)
      (first_or_later x post es there)
