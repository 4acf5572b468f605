-- The choices determine what expressions of resolved programs evaluate to.
use Rattle.std.proofs.Common.{List, [], ◌∷◌, sym, subst}
use Rattle.mc_flow.specs.Heap.Heap.{Heap}
use Rattle.mc_flow.specs.Heap.Choices.{Choice}
use Rattle.mc_semantics.specs.Steps.{AfterFirst}
use Rattle.mc_semantics.specs.Resolved.Programs.{Expr, number, input, value, minus, times, plus, difference}
use Rattle.mc_semantics.specs.Resolved.Configs.{Values}
use Rattle.mc_semantics.specs.Resolved.Steps.{EvaluateAll, Here}
use Rattle.mc_semantics.specs.Resolved.Values.{Evaluates}
use Rattle.mc_semantics.proofs.Determined.{IsDetermined, joined, one_input, operated_once, negated_once, after_first}

pub one_value : (values : Values) (heap : Heap) (e : Expr) (choices : List Choice) → IsDetermined (Evaluates values heap e choices)
one_value values heap (number n) choices = λ r s i j. joined i j
one_value values heap input choices = λ r s i j. one_input choices i j
one_value values heap (value l) choices = λ r s i j. joined i j
one_value values heap (minus e) choices = negated_once (Evaluates values heap e) choices (one_value values heap e choices)
one_value values heap (times a b) choices = operated_once _ (Evaluates values heap a) (Evaluates values heap b) choices (one_value values heap a choices) (λ left. one_value values heap b left)
one_value values heap (plus a b) choices = operated_once _ (Evaluates values heap a) (Evaluates values heap b) choices (one_value values heap a choices) (λ left. one_value values heap b left)
one_value values heap (difference a b) choices = operated_once _ (Evaluates values heap a) (Evaluates values heap b) choices (one_value values heap a choices) (λ left. one_value values heap b left)

pub all_values : (h : Here) (es : List Expr) (choices : List Choice) → IsDetermined (EvaluateAll h es choices)
all_values h [] choices r s i j = joined i j
all_values h (e ∷ es) choices r s (x, is, rest) (y, is', rest') =
    after_first x _ (λ left. all_values h es left) r s rest (subst (λ z. AfterFirst (λ left others. EvaluateAll h es left others) z s) (sym (one_value h.values h.heap e choices x y is is')) rest')
