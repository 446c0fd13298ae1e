-- Parts that are appended one after the other.
use Rattle.std.proofs.Common.{◌≡◌, ℕ, List, ◌++◌, ◌∙◌, ap, append_assoc}

-- what is after a part that was appended stands after that part
pub onward : (before after x y : List ℕ) → after ≡ before ++ x → after ++ y ≡ before ++ (x ++ y)
onward before after x y e = ap (λ (t : List ℕ). t ++ y) e ∙ append_assoc before x y
