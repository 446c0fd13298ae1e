-- What the index knows of identifiers is what the entries post.
use Rattle.std.proofs.Common.{◌≡◌, ◌≢◌, refl, sym, ◌∙◌, ap, subst, ℕ, Bool, true, false, List, [], ◌∷◌, ◌++◌, length, if◌then◌else◌, Option, Some, None, ◌<◌, get_or, reverse, arith, not}
use Rattle.std.proofs.lemmas.Bool.{and_left}
use Rattle.std.specs.Option.{option_map_or}
use Rattle.std.specs.Str.{bytes_eq}
use Rattle.faim_base.specs.declared.ids.Imad.{Imad}
use Rattle.faim_base.specs.declared.judgement.Head.{Head}
use Rattle.faim_base.specs.declared.judgement.Verdict.{Verdict}
use Rattle.host_ledger.specs.declared.config.Config.{Config}
use Rattle.host_ledger.specs.declared.entries.Entry.{Entry}
use Rattle.host_ledger.specs.declared.entries.Entry.TheVariants.{Posted, Roll}
use Rattle.host_index.specs.Index as indexed
use Rattle.host_index.proofs.Answering.{other_place, own_place}
use Rattle.faim_model.specs.declared.decisions.Decision.{Decision}
use Rattle.faim_model.specs.declared.decisions.Decision.TheVariants as decision
use Rattle.faim_model.specs.Lawful.{Follows, Lawful}
use Rattle.faim_model.specs.Turns.{entry_at}
use Rattle.faim_model.specs.Verdicts.{has_body, has_imad, place_of, same_imad}
use Rattle.faim_model.proofs.Imads.{imads_equal, imads_pass}
use Rattle.faim_model.proofs.Judgements.{posted_fresh}
use Rattle.host_core.proofs.Places.{entry_found}
use Rattle.std.proofs.lemmas.List.{length-reverse}
use Rattle.faim_model.proofs.Places.{at_newest, at_older, found_below, none_with_body}
use Rattle.host_core.specs.Kept.{posted_in}

-- identifiers that don't pass the test differ, in either order
imads_apart : (a b : Imad) → same_imad a b ≡ false → b ≢ a
imads_apart a b apart same = let both : true ≡ false = sym (imads_pass a b (sym same)) ∙ apart in absurd cc

-- one identifier more, which is new: it is found at its own place, and another where it was
found_more : (posted : List indexed.Posted) (older : List Entry) (own imad : Imad) (here : Bool) → same_imad own imad ≡ here
    → place_of (has_imad own) older ≡ None → indexed.place_of imad posted ≡ place_of (has_imad imad) older
    → indexed.place_of imad (posted ++ record { imad = own; place = length older } ∷ []) ≡ (if here then Some (length older) else place_of (has_imad imad) older)
found_more posted older own imad true test fresh rest =
    let same : own ≡ imad = imads_equal own imad test in
    let none : indexed.place_of imad posted ≡ None = rest ∙ subst (λ (i : Imad). place_of (has_imad i) older ≡ None) same fresh in
    subst (λ (i : Imad). indexed.place_of imad (posted ++ record { imad = i; place = length older } ∷ []) ≡ Some (length older)) (sym same)
    (own_place imad posted (length older) none)
found_more posted older own imad false test fresh rest = other_place imad own posted (length older) (imads_apart own imad test) ∙ rest

-- the index finds an identifier where the entry stands that posts it
pub found_in : (c : Config) (es : List Entry) (imad : Imad) → Lawful c es → indexed.place_of imad (posted_in es) ≡ place_of (has_imad imad) es
found_in c [] imad lawful = refl
found_in c (Roll moment date ∷ older) imad lawful = found_in c older imad lawful.1
found_in c (Posted h body resent moment v ∷ older) imad lawful =
    found_more (posted_in older) older h.imad imad (same_imad h.imad imad) refl (posted_fresh c older h body resent moment v lawful.0) (found_in c older imad lawful.1)

-- an identifier that may be posted next isn't in the index
pub is_new : (c : Config) (h : Head) (body : List ℕ) (resent : Bool) (moment : ℕ) (v : Verdict) (older : List Entry)
    → Lawful c (Posted h body resent moment v ∷ older) → indexed.place_of h.imad (posted_in older) ≡ None
is_new c h body resent moment v older lawful = found_in c older h.imad lawful.1 ∙ posted_fresh c older h body resent moment v lawful.0

-- what an entry posts isn't among those before it
new_after : (c : Config) (imad : Imad) (y : Entry) (older : List Entry) → Follows c older y → has_imad imad y ≡ true → place_of (has_imad imad) older ≡ None
new_after c imad (Roll moment date) older follows has = absurd cc
new_after c imad (Posted h body resent moment v) older follows has =
    subst (λ (i : Imad). place_of (has_imad i) older ≡ None) (imads_equal h.imad imad has) (posted_fresh c older h body resent moment v follows)

-- an entry that doesn't post an identifier doesn't post it with a body
other_imad : (imad : Imad) (body : List ℕ) (x : Entry) → has_imad imad x ≡ false → has_body imad body x ≡ false
other_imad imad body (Roll moment date) other = refl
other_imad imad body (Posted h text resent moment v) other = and_left (same_imad h.imad imad) (bytes_eq text body) other

known_by : (c : Config) (y : Entry) (older : List Entry) (imad : Imad) (body : List ℕ) (place : ℕ) (x : Entry) (passes : Bool)
    → has_imad imad y ≡ passes → Follows c older y
    → (if passes then Some (length older) else place_of (has_imad imad) older) ≡ Some place → entry_at (y ∷ older) place ≡ Some x
    → (place_of (has_imad imad) older ≡ Some place → entry_at older place ≡ Some x
    → place_of (has_body imad body) older ≡ (if has_body imad body x then Some place else None))
    → place_of (has_body imad body) (y ∷ older) ≡ (if has_body imad body x then Some place else None)
known_by c y older imad body place x true test follows found at rest =
    let here : length older ≡ place = cc in
    let own : Some y ≡ Some x = sym (at_newest y older) ∙ ap (entry_at (y ∷ older)) here ∙ at in
    let same : y ≡ x = cc in
    ap (λ (o : Option ℕ). if has_body imad body y then Some (length older) else o) (none_with_body imad body older (new_after c imad y older follows test))
    ∙ ap (λ (n : ℕ). if has_body imad body y then Some n else None) here
    ∙ ap (λ (z : Entry). if has_body imad body z then Some place else None) same
known_by c y older imad body place x false test follows found at rest =
    ap (λ (b : Bool). if b then Some (length older) else place_of (has_body imad body) older) (other_imad imad body y test)
    ∙ rest found (sym (at_older y older place (found_below (has_imad imad) older place found)) ∙ at)

-- an identifier's place is that of its body exactly where the entry there has the body
pub known_at : (c : Config) (es : List Entry) (imad : Imad) (body : List ℕ) (place : ℕ) (x : Entry) → Lawful c es
    → place_of (has_imad imad) es ≡ Some place → entry_at es place ≡ Some x
    → place_of (has_body imad body) es ≡ (if has_body imad body x then Some place else None)
known_at c [] imad body place x lawful found at = absurd cc
known_at c (y ∷ older) imad body place x lawful found at =
    known_by c y older imad body place x (has_imad imad y) refl lawful.0 found at (known_at c older imad body place x lawful.1)

-- the same of the entries as they are kept, the oldest first
pub found_inside : (entries : List Entry) (imad : Imad) (place : ℕ) → place_of (has_imad imad) (reverse entries) ≡ Some place → place < length entries
found_inside entries imad place found = omega (arith, found_below (has_imad imad) (reverse entries) place found, length-reverse entries)

pub known_in : (c : Config) (entries : List Entry) (imad : Imad) (body : List ℕ) (place : ℕ) (x : Entry) → Lawful c (reverse entries)
    → place_of (has_imad imad) (reverse entries) ≡ Some place → x ≡ get_or entries place x
    → place_of (has_body imad body) (reverse entries) ≡ (if has_body imad body x then Some place else None)
known_in c entries imad body place x lawful found at =
    known_at c (reverse entries) imad body place x lawful found (entry_found entries place x (found_inside entries imad place found) ∙ ap Some (sym at))

-- the decision on what is known, by whether its body is the same
pub told : (same : Bool) (place : ℕ) (found : Option ℕ) → found ≡ (if same then Some place else None)
    → (if same then decision.Known place else decision.Differs place) ≡ option_map_or decision.Known found (decision.Differs place)
told true place found is = ap (λ (o : Option ℕ). option_map_or decision.Known o (decision.Differs place)) (sym is)
told false place found is = ap (λ (o : Option ℕ). option_map_or decision.Known o (decision.Differs place)) (sym is)

-- the decision on what is new
pub new_decided : (own : Bool) (known differs : Option ℕ) (rest : Decision) → false ≡ not own → known ≡ None → differs ≡ None
    → rest ≡ (if not own then decision.WrongSource else option_map_or decision.Known known (option_map_or decision.Differs differs rest))
new_decided true known differs rest own none other =
    ap (λ (o : Option ℕ). option_map_or decision.Differs o rest) (sym other)
    ∙ ap (λ (o : Option ℕ). option_map_or decision.Known o (option_map_or decision.Differs differs rest)) (sym none)
new_decided false known differs rest own none other = absurd cc
