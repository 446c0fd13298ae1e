-- The entry that is found by its identifier and its body.
use Rattle.std.proofs.Common.{◌≡◌, refl, sym, ◌∙◌, ap, subst, ℕ, ◌==◌, Bool, true, false, List, [], ◌∷◌, length, Some, if◌then◌else◌}
use Rattle.std.specs.List.{Contains}
use Rattle.std.specs.Str.{bytes_eq}
use Rattle.std.proofs.lemmas.Bool.{and_parts}
use Rattle.faim_base.specs.declared.ids.Imad.{Imad}
use Rattle.faim_base.specs.declared.judgement.Head.{Head}
use Rattle.faim_base.specs.declared.judgement.Verdict.{Verdict}
use Rattle.host_ledger.specs.declared.entries.Entry.{Entry}
use Rattle.host_ledger.specs.declared.entries.Entry.TheVariants.{Posted, Roll}
use Rattle.faim_model.specs.Verdicts.{has_body, place_of, same_imad}
use Rattle.faim_model.specs.Turns.{entry_at}
use Rattle.faim_model.proofs.Imads.{bytes_equal, imads_equal}
use Rattle.faim_model.proofs.Members.{first_in, later_in}
use Rattle.faim_model.proofs.Places.{at_newest, at_older, found_below}

found_step : (p : Entry → Bool) (x : Entry) (es : List Entry) (place : ℕ) (passes : Bool) → p x ≡ passes
    → (if passes then Some (length es) else place_of p es) ≡ Some place
    → (place_of p es ≡ Some place → (y : Entry) × (entry_at es place ≡ Some y) × (p y ≡ true))
    → (y : Entry) × (entry_at (x ∷ es) place ≡ Some y) × (p y ≡ true)
found_step p x es place true test found older =
    let here : length es ≡ place = cc in
    (x, ap (λ (n : ℕ). entry_at (x ∷ es) n) (sym here) ∙ at_newest x es, test)
found_step p x es place false test found older =
    let y = older found in
    (y.0, at_older x es place (found_below p es place found) ∙ y.1, y.2)

-- an entry that is found passes
pub found_passes : (p : Entry → Bool) (es : List Entry) (place : ℕ) → place_of p es ≡ Some place
    → (y : Entry) × (entry_at es place ≡ Some y) × (p y ≡ true)
found_passes p [] place found = absurd cc
found_passes p (x ∷ es) place found = found_step p x es place (p x) refl found (found_passes p es place)

member_step : (x y : Entry) (es : List Entry) (place : ℕ) (here : Bool) → (if here then Some x else entry_at es place) ≡ Some y
    → (entry_at es place ≡ Some y → Contains es y) → Contains (x ∷ es) y
member_step x y es place true stands older = let same : x ≡ y = cc in subst (λ (z : Entry). Contains (x ∷ es) z) same (first_in x es)
member_step x y es place false stands older = later_in x y es (older stands)

-- what stands at a place is an entry of the list
pub is_member : (es : List Entry) (place : ℕ) (y : Entry) → entry_at es place ≡ Some y → Contains es y
is_member [] place y stands = absurd cc
is_member (x ∷ es) place y stands = member_step x y es place (length es == place) stands (is_member es place y)

-- the entry at a place posts a message with this identifier and this body
pub record IsKept (es : List Entry) (place : ℕ) (imad : Imad) (body : List ℕ) : Type 0 where
  pub head : Head
  pub resent : Bool
  pub moment : ℕ
  pub verdict : Verdict
  pub stands : entry_at es place ≡ Some (Posted head body resent moment verdict)
  pub own : head.imad ≡ imad

kept_case : (es : List Entry) (place : ℕ) (imad : Imad) (body : List ℕ) (y : Entry) → entry_at es place ≡ Some y → has_body imad body y ≡ true
    → IsKept es place imad body
kept_case es place imad body (Roll moment date) stands passes = absurd cc
kept_case es place imad body (Posted h text resent moment v) stands passes =
    let both = and_parts (same_imad h.imad imad) (bytes_eq text body) passes in
    let same : text ≡ body = bytes_equal text body both.1 in
    record {
      head = h;
      resent = resent;
      moment = moment;
      verdict = v;
      stands = stands ∙ ap (λ (b : List ℕ). Some (Posted h b resent moment v)) same;
      own = imads_equal h.imad imad both.0;
    }

pub kept_at : (es : List Entry) (place : ℕ) (imad : Imad) (body : List ℕ) → place_of (has_body imad body) es ≡ Some place → IsKept es place imad body
kept_at es place imad body found =
    let entry = found_passes (has_body imad body) es place found in kept_case es place imad body entry.0 entry.1 entry.2
