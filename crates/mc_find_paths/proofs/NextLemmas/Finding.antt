-- Items that are found from a place on.
use Rattle.std.proofs.Common.{◌≡◌, ◌∙◌, ◌<◌, ℕ, zero, suc, Bool, true, List, [], ◌∷◌, Some, ap, sym, drop, get_or, length, arith}
use Rattle.std.specs.Prelude.{cond}
use Rattle.std.specs.List.{find}

-- an item that passes is the first from its place on
pub found_from : {A : Type 0} (test : A → Bool) (xs : List A) (place : ℕ) (x : A) → place < length xs → x ≡ get_or xs place x → test x ≡ true → find test (drop place xs) ≡ Some x
found_from test [] place x less is passes = absurd (omega arith)
found_from {A} test (y ∷ xs) zero x less is passes =
    ap (λ (z : Bool). cond z (Some y) (find test xs)) (ap test (sym is) ∙ passes) ∙ ap (λ (z : A). Some z) (sym is)
found_from test (y ∷ xs) (suc place) x less is passes = found_from test xs place x (omega arith) is passes
