-- The log that stored calls and frames make.
use Rattle.std.proofs.Common.{◌≡◌, List, [], ◌∷◌, ◌++◌, ℕ, reverse, sym, ◌∙◌, ap}
use Rattle.site_core.specs.declared.past.Call.{Call}
use Rattle.site_core.specs.declared.past.Call.TheVariants as stored
use Rattle.site_core.specs.Log.{sent}
use Rattle.site_core.specs.Memory.{acts_of}

module _ (calls now : List Call) (frames old new : List (List ℕ)) (frame : List ℕ) (same : old ≡ frames) (newest : reverse new ≡ frame ∷ reverse old) (items : new ≡ old ++ frame ∷ []) (kept : sent (acts_of calls (reverse frames)) ≡ frames) where
  grown : reverse new ≡ frame ∷ reverse frames
  grown = newest ∙ ap (λ (l : List (List ℕ)). frame ∷ reverse l) same

  all : sent (acts_of calls (reverse frames)) ++ frame ∷ [] ≡ new
  all = ap (λ (l : List (List ℕ)). l ++ frame ∷ []) (kept ∙ sym same) ∙ sym items

  pub sent_one : now ≡ stored.Sent ∷ calls → sent (acts_of now (reverse new)) ≡ new
  sent_one is = ap (λ (l : List Call). sent (acts_of l (reverse new))) is ∙ ap (λ (l : List (List ℕ)). sent (acts_of (stored.Sent ∷ calls) l)) grown ∙ all

  pub kept_one : now ≡ stored.Kept ∷ calls → sent (acts_of now (reverse new)) ≡ new
  kept_one is = ap (λ (l : List Call). sent (acts_of l (reverse new))) is ∙ ap (λ (l : List (List ℕ)). sent (acts_of (stored.Kept ∷ calls) l)) grown ∙ all
