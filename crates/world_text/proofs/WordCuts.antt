-- The words of a line, when the first of them is cut off.
use Rattle.std.proofs.Common.{◌≡◌, ◌⊎◌, ⊎_elim, ℕ, zero, suc, ◌-◌, ◌<◌, ◌≤◌, List, [], ◌∷◌, length, get_or, map, Bor, Option, Some, None, refl, sym, ◌∙◌, ap, arith}
use Rattle.std.specs.Prelude.{Err}
use Rattle.world_text.specs.declared.script.Why.TheVariants.{Shape}
use Rattle.world_text.specs.BankText.{bank_words}
use Rattle.world_text.specs.Grammar.{host_words, account_words, submit_words, retrieve_words, clock_words, clock_values}
use Rattle.world_text.specs.Lines.{is_blank, first_word, after, words_after, words_of}

pub words_cut : (most : ℕ) (line : List ℕ) → 0 < most → words_of most line ≡ first_word line ∷ words_after (words_of (most - 1)) (after is_blank line)
unfolding words_of
words_cut zero line some = absurd (omega (arith, some))
words_cut (suc more) line some = let less : suc more - 1 ≡ more = omega arith in rw less refl

pub words_last : (most : ℕ) (line : List ℕ) → most ≤ 0 → words_of most line ≡ line ∷ []
unfolding words_of
words_last zero line none = refl
words_last (suc more) line none = absurd (omega (arith, none))

-- the last word, and a word with others after it
pub one_word : (most : ℕ) (line word : List ℕ) → 0 < most → word ≡ first_word line → after is_blank line ≡ None → word ∷ [] ≡ words_of most line
one_word most line word some first none =
    ap (λ (w : List ℕ). w ∷ []) first ∙ ap (λ (o : Option (List ℕ)). first_word line ∷ words_after (words_of (most - 1)) o) (sym none) ∙ sym (words_cut most line some)

pub next_word : (most : ℕ) (line word rest : List ℕ) → 0 < most → word ≡ first_word line → after is_blank line ≡ Some rest → word ∷ words_of (most - 1) rest ≡ words_of most line
next_word most line word rest some first there =
    ap (λ (w : List ℕ). w ∷ words_of (most - 1) rest) first ∙ ap (λ (o : Option (List ℕ)). first_word line ∷ words_after (words_of (most - 1)) o) (sym there) ∙ sym (words_cut most line some)

-- another count of words than a line of its kind has
pub host_count : (ws : List (List ℕ)) → (length ws < 5) ⊎ (6 ≤ length ws) → host_words ws ≡ Err Shape
host_count [] other = refl
host_count (a ∷ []) other = refl
host_count (a ∷ b ∷ []) other = refl
host_count (a ∷ b ∷ c ∷ []) other = refl
host_count (a ∷ b ∷ c ∷ d ∷ []) other = refl
host_count (a ∷ b ∷ c ∷ d ∷ e ∷ []) other = ⊎_elim (λ less. absurd (omega (arith, less))) (λ more. absurd (omega (arith, more))) other
host_count (a ∷ b ∷ c ∷ d ∷ e ∷ f ∷ ws) other = refl

pub bank_count : (ws : List (List ℕ)) → (length ws < 4) ⊎ (5 ≤ length ws) → bank_words ws ≡ Err Shape
bank_count [] other = refl
bank_count (a ∷ []) other = refl
bank_count (a ∷ b ∷ []) other = refl
bank_count (a ∷ b ∷ c ∷ []) other = refl
bank_count (a ∷ b ∷ c ∷ d ∷ []) other = ⊎_elim (λ less. absurd (omega (arith, less))) (λ more. absurd (omega (arith, more))) other
bank_count (a ∷ b ∷ c ∷ d ∷ e ∷ ws) other = refl

pub submit_count : (ws : List (List ℕ)) → (length ws < 3) ⊎ (4 ≤ length ws) → submit_words ws ≡ Err Shape
submit_count [] other = refl
submit_count (a ∷ []) other = refl
submit_count (a ∷ b ∷ []) other = refl
submit_count (a ∷ b ∷ c ∷ []) other = ⊎_elim (λ less. absurd (omega (arith, less))) (λ more. absurd (omega (arith, more))) other
submit_count (a ∷ b ∷ c ∷ d ∷ ws) other = refl

pub retrieve_count : (ws : List (List ℕ)) → (length ws < 4) ⊎ (5 ≤ length ws) → retrieve_words ws ≡ Err Shape
retrieve_count [] other = refl
retrieve_count (a ∷ []) other = refl
retrieve_count (a ∷ b ∷ []) other = refl
retrieve_count (a ∷ b ∷ c ∷ []) other = refl
retrieve_count (a ∷ b ∷ c ∷ d ∷ []) other = ⊎_elim (λ less. absurd (omega (arith, less))) (λ more. absurd (omega (arith, more))) other
retrieve_count (a ∷ b ∷ c ∷ d ∷ e ∷ ws) other = refl

pub account_count : (ws : List (Bor (List ℕ))) → (length ws ≡ 5 → ⊥) → account_words (map (λ w. w.now) ws) ≡ Err Shape
account_count [] other = refl
account_count (a ∷ []) other = refl
account_count (a ∷ b ∷ []) other = refl
account_count (a ∷ b ∷ c ∷ []) other = refl
account_count (a ∷ b ∷ c ∷ d ∷ []) other = refl
account_count (a ∷ b ∷ c ∷ d ∷ e ∷ []) other = absurd (other refl)
account_count (a ∷ b ∷ c ∷ d ∷ e ∷ f ∷ ws) other = refl

-- five words, each at its place
pub account_five : (ws : List (Bor (List ℕ))) (a b c d e : Bor (List ℕ)) → length ws ≡ 5 → a ≡ get_or ws 0 a → b ≡ get_or ws 1 b → c ≡ get_or ws 2 c → d ≡ get_or ws 3 d → e ≡ get_or ws 4 e
    → account_words (map (λ w. w.now) ws) ≡ account_words (a.now ∷ b.now ∷ c.now ∷ d.now ∷ e.now ∷ [])
account_five (v ∷ w ∷ x ∷ y ∷ z ∷ []) a b c d e five p q r s t = rw (p, q, r, s, t) refl
account_five ws a b c d e five p q r s t = absurd (omega (arith, five))

pub clock_count : (ws : List (Bor (List ℕ))) → (length ws ≡ 3 → ⊥) → clock_words (map (λ w. w.now) ws) ≡ Err Shape
clock_count [] other = refl
clock_count (a ∷ []) other = refl
clock_count (a ∷ b ∷ []) other = refl
clock_count (a ∷ b ∷ c ∷ []) other = absurd (other refl)
clock_count (a ∷ b ∷ c ∷ d ∷ ws) other = refl

-- three words, of which the second and the third are values
pub clock_three : (ws : List (Bor (List ℕ))) (b c : Bor (List ℕ)) → length ws ≡ 3 → b ≡ get_or ws 1 b → c ≡ get_or ws 2 c
    → clock_words (map (λ w. w.now) ws) ≡ clock_values b.now c.now
clock_three (x ∷ y ∷ z ∷ []) b c three p q = rw (p, q) refl
clock_three ws b c three p q = absurd (omega (arith, three))
