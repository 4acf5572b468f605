-- What expressions ask for.
use Rattle.std.specs.Prelude.{◌≡◌, ◌⊎◌, ℤ, List, [], ◌∷◌, Option}
use Rattle.mc_flow.specs.Heap.Choices.{Choice}
use Rattle.mc_flow.specs.Heap.Heap.{Heap}
use Rattle.mc_semantics.specs.Values.{value_of}
use Rattle.mc_semantics.specs.Resolved.Programs.{Expr, number, input, value, minus, times, plus, difference}
use Rattle.mc_semantics.specs.Resolved.Configs.{Values}
use Rattle.mc_semantics.specs.Resolved.Values.{Evaluates}

-- the expression has a value, and then this asks with the choices that are left
abbrev pub AsksBehind : Values → Heap → Expr → List Choice → (List Choice → Type 0) → Type 0
AsksBehind values heap e choices Asks =
    (v : Option ℤ) × (rest : List Choice) × Evaluates values heap e choices (value_of v rest) × Asks rest

-- the expression comes to an `input()` when these choices are left
abbrev pub ValueAsks : Values → Heap → Expr → List Choice → List Choice → Type 0
ValueAsks values heap (number n) choices left = ⊥
ValueAsks values heap input choices left = left ≡ choices
ValueAsks values heap (value l) choices left = ⊥
ValueAsks values heap (minus e) choices left = ValueAsks values heap e choices left
ValueAsks values heap (times a b) choices left =
    ValueAsks values heap a choices left ⊎ AsksBehind values heap a choices (λ rest. ValueAsks values heap b rest left)
ValueAsks values heap (plus a b) choices left =
    ValueAsks values heap a choices left ⊎ AsksBehind values heap a choices (λ rest. ValueAsks values heap b rest left)
ValueAsks values heap (difference a b) choices left =
    ValueAsks values heap a choices left ⊎ AsksBehind values heap a choices (λ rest. ValueAsks values heap b rest left)

-- the same for arguments one after the other
abbrev pub ArgumentsAsk : Values → Heap → List Expr → List Choice → List Choice → Type 0
ArgumentsAsk values heap [] choices left = ⊥
ArgumentsAsk values heap (e ∷ es) choices left =
    ValueAsks values heap e choices left ⊎ AsksBehind values heap e choices (λ rest. ArgumentsAsk values heap es rest left)
