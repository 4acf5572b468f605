-- What has come to a value waits for no input.
use Rattle.std.proofs.Common.{◌≡◌, ◌⊎◌, ℤ, List, [], ◌∷◌, Option, inl, inr, subst}
use Rattle.mc_flow.specs.Heap.Choices.{Choice}
use Rattle.mc_semantics.specs.Values.{Evaluated, value_of, AfterLeft}
use Rattle.mc_semantics.specs.Steps.{Arguments, AfterFirst}
use Rattle.mc_semantics.specs.Resolved.Programs.{Expr, number, input, value, minus, times, plus, difference}
use Rattle.mc_semantics.specs.Resolved.Steps.{EvaluateAll, Here}
use Rattle.mc_semantics.specs.Resolved.Values.{Evaluates}
use Rattle.mc_semantics.specs.Waiting.Requests.{an_input, IsUnanswered}
use Rattle.mc_run_values.specs.Values.Asking.{ArgumentsAsk, AsksBehind, ValueAsks}
use Rattle.mc_semantics.proofs.ResolvedLemmas.Values.{one_value}
use Rattle.mc_semantics.proofs.WaitingLemmas.Values.{no_input}

not_behind : (h : Here) (operation : ℤ → ℤ → ℤ) (b : Expr) (v : Option ℤ) (rest left : List Choice) (one r : Evaluated) → one ≡ value_of v rest
    → ((two : Evaluated) → Evaluates h.values h.heap b rest two → ⊥) → AfterLeft operation (λ l two. Evaluates h.values h.heap b l two) one r → ⊥
not_behind h operation b v rest left one r e never is =
    let P : Evaluated → Type 0 = λ x. AfterLeft operation (λ l two. Evaluates h.values h.heap b l two) x r in
    let there : AfterLeft operation (λ l two. Evaluates h.values h.heap b l two) (value_of v rest) r = subst P e is in
    never there.0 there.1

not_both : (h : Here) (operation : ℤ → ℤ → ℤ) (a b : Expr) (choices left : List Choice) (r : Evaluated)
    → ((one : Evaluated) → Evaluates h.values h.heap a choices one → ValueAsks h.values h.heap a choices left → ⊥)
    → ((rest : List Choice) (two : Evaluated) → Evaluates h.values h.heap b rest two → ValueAsks h.values h.heap b rest left → ⊥)
    → ((one : Evaluated) × Evaluates h.values h.heap a choices one × AfterLeft operation (λ rest two. Evaluates h.values h.heap b rest two) one r)
    → ValueAsks h.values h.heap a choices left ⊎ AsksBehind h.values h.heap a choices (λ rest. ValueAsks h.values h.heap b rest left) → ⊥
not_both h operation a b choices left r first second is (inl asks) = first is.0 is.1 asks
not_both h operation a b choices left r first second is (inr asks) =
    not_behind h operation b asks.0 asks.1 left is.0 r (one_value h.values h.heap a choices is.0 (value_of asks.0 asks.1) is.1 asks.2) (λ two comes. second asks.1 two comes asks.3) is.2

pub value_alone : (h : Here) (e : Expr) (choices left : List Choice) (one : Evaluated) → IsUnanswered an_input left → Evaluates h.values h.heap e choices one → ValueAsks h.values h.heap e choices left → ⊥
value_alone h (number n) choices left one w is asks = asks
value_alone h input choices left one w is asks = no_input choices left one is asks w
value_alone h (value l) choices left one w is asks = asks
value_alone h (minus e) choices left one w is asks = value_alone h e choices left is.0 w is.1 asks
value_alone h (times a b) choices left one w is asks = not_both h _ a b choices left one (λ x i. value_alone h a choices left x w i) (λ rest x i. value_alone h b rest left x w i) is asks
value_alone h (plus a b) choices left one w is asks = not_both h _ a b choices left one (λ x i. value_alone h a choices left x w i) (λ rest x i. value_alone h b rest left x w i) is asks
value_alone h (difference a b) choices left one w is asks = not_both h _ a b choices left one (λ x i. value_alone h a choices left x w i) (λ rest x i. value_alone h b rest left x w i) is asks

pub arguments_alone : (h : Here) (es : List Expr) (choices left : List Choice) (all : Arguments) → IsUnanswered an_input left → EvaluateAll h es choices all → ArgumentsAsk h.values h.heap es choices left → ⊥
arguments_alone h [] choices left all w is asks = asks
arguments_alone h (e ∷ es) choices left all w is (inl asks) = value_alone h e choices left is.0 w is.1 asks
arguments_alone h (e ∷ es) choices left all w is (inr asks) =
    let P : Evaluated → Type 0 = λ x. AfterFirst (λ rest others. EvaluateAll h es rest others) x all in
    let there : AfterFirst (λ rest others. EvaluateAll h es rest others) (value_of asks.0 asks.1) all = subst P (one_value h.values h.heap e choices is.0 (value_of asks.0 asks.1) is.1 asks.2) is.2 in
    arguments_alone h es asks.1 left there.0 w there.1 asks.3
