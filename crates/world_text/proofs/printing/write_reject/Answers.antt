use Rattle.std.proofs.Common.{◌≡◌, ℕ, ◌/◌, ◌%◌, List, [], ◌∷◌, ◌++◌, refl, ◌∙◌, ap, arith, append_assoc}
use Rattle.faim_base.specs.Digits.{padded}
use Rattle.world_text.proofs.printing.write_reject.Goals as goal

-- three digits tell only what a number is after its thousands
last_three : (n : ℕ) → padded 3 (n % 1_000) ≡ padded 3 n
unfolding padded
last_three n =
    let ones : n % 1_000 % 10 ≡ n % 10 = omega arith in
    let tens : n % 1_000 / 10 % 10 ≡ n / 10 % 10 = omega arith in
    let hundreds : n % 1_000 / 10 / 10 % 10 ≡ n / 10 / 10 % 10 = omega arith in
    rw (ones, tens, hundreds) refl

pub returns : goal.returns
returns c =
    let out = c.args.out.now.items in
    let letter = c.args.why.now.category in
    let digits : c.padded.new.text ≡ padded 3 c.args.why.now.code = c.padded.ensures ∙ ap (padded 3) c.from.ensures ∙ last_three c.args.why.now.code in
    c.in_ok-extend_from_slice.ensures.items ∙ ap (λ (l : List ℕ). l ++ c.padded.new.text) c.in_ok-push.ensures.items
    ∙ append_assoc out (letter ∷ []) c.padded.new.text ∙ ap (λ (l : List ℕ). out ++ (letter ∷ l)) digits
