-- What is left of an expression while a part of it is evaluated.
use Rattle.std.specs.Prelude.{◌≡◌, ◌++◌, ◌⊎◌, ◌<◌, ℕ, ◌+◌, List, [], ◌∷◌}
use Rattle.mc_flow.specs.Heap.Choices.{Choice}
use Rattle.mc_flow.specs.Heap.Heap.{Heap}
use Rattle.mc_flow.specs.declared.defs.shapes.StructInfo.{StructInfo}
use Rattle.mc_semantics.specs.Values.{Evaluated, fault_of, value_of, right_operand, AfterLeft}
use Rattle.mc_semantics.specs.Resolved.Programs.{Expr, number, input, value, minus, times, plus, difference}
use Rattle.mc_semantics.specs.Resolved.Configs.{Values}
use Rattle.mc_semantics.specs.Resolved.Values.{Evaluates}
use Rattle.mc_semantics.specs.Resolved.Views.{expression_of}
use Rattle.mc_run_values.specs.declared.values.refusal.Evaluated as code
use Rattle.mc_run_values.specs.declared.values.refusal.Evaluated.TheVariants as answers
use Rattle.mc_run_values.specs.declared.values.turns.Pending.{Pending}
use Rattle.mc_run_values.specs.declared.values.turns.Hand.{Hand}
use Rattle.mc_run_values.specs.declared.values.turns.Turn.{Turn}
use Rattle.mc_run_values.specs.Values.Asking.{ValueAsks}
use Rattle.mc_run_values.specs.Values.Models.{operation_of, IsAnswered}
use Rattle.mc_run_values.specs.Values.Taking.{Takes}

-- ---- what comes of it
-- what is at hand comes to this with these choices
abbrev pub Gives : Values → Heap → Hand → List Choice → Evaluated → Type 0
Gives values heap (Hand.Expression e) choices r = Evaluates values heap (expression_of e.now) choices r
Gives values heap (Hand.Value v) choices r = r ≡ value_of v choices

-- the operation that waits comes to this, where what it waits for has come to that
abbrev pub After : Values → Heap → Pending → Evaluated → Evaluated → Type 0
After values heap (Pending.Right o e) one r =
    AfterLeft (operation_of o) (λ rest two. Evaluates values heap (expression_of e.now) rest two) one r
After values heap (Pending.Apply o a) one r = r ≡ right_operand (operation_of o) a one

-- the same of all that waits
abbrev pub AfterAll : Values → Heap → List Pending → Evaluated → Evaluated → Type 0
AfterAll values heap [] one r = r ≡ one
AfterAll values heap (p ∷ ps) one r = (two : Evaluated) × After values heap p one two × AfterAll values heap ps two r

abbrev pub Comes : Values → Heap → Hand → List Pending → List Choice → Evaluated → Type 0
Comes values heap hand ps choices r = (one : Evaluated) × Gives values heap hand choices one × AfterAll values heap ps one r

-- ---- what it asks for
abbrev pub HandAsks : Values → Heap → Hand → List Choice → List Choice → Type 0
HandAsks values heap (Hand.Expression e) choices left = ValueAsks values heap (expression_of e.now) choices left
HandAsks values heap (Hand.Value v) choices left = ⊥

abbrev pub PendingAsks : Values → Heap → Pending → Evaluated → List Choice → Type 0
PendingAsks values heap (Pending.Right o e) (fault_of kind) left = ⊥
PendingAsks values heap (Pending.Right o e) (value_of v rest) left = ValueAsks values heap (expression_of e.now) rest left
PendingAsks values heap (Pending.Apply o a) one left = ⊥

abbrev pub AllAsk : Values → Heap → List Pending → Evaluated → List Choice → Type 0
AllAsk values heap [] one left = ⊥
AllAsk values heap (p ∷ ps) one left =
    PendingAsks values heap p one left ⊎ ((two : Evaluated) × After values heap p one two × AllAsk values heap ps two left)

abbrev pub Asks : Values → Heap → Hand → List Pending → List Choice → List Choice → Type 0
Asks values heap hand ps choices left =
    HandAsks values heap hand choices left ⊎ ((one : Evaluated) × Gives values heap hand choices one × AllAsk values heap ps one left)

-- ---- a turn
-- from one thing to another, with the choices of some lines
abbrev pub Leads : List StructInfo → (Comes From : List Choice → Evaluated → Type 0)
    → (Asks AskedFrom : List Choice → List Choice → Type 0) → (old new : List (List ℕ)) → Type 0
Leads structs Comes From Asks AskedFrom old new =
    (used : List Choice) × Takes structs old used new
    × ((rest : List Choice) (r : Evaluated) → From rest r → Comes (used ++ rest) r)
    × ((rest left : List Choice) → AskedFrom rest left → Asks (used ++ rest) left)

abbrev pub IsTurn : List StructInfo → Values → Heap → Hand → List Pending → List (List ℕ) → Turn → List Pending → List (List ℕ) → Type 0
IsTurn structs values heap hand ps old (Turn.Goes next) qs new =
    Leads structs (Comes values heap hand ps) (Comes values heap next qs) (Asks values heap hand ps) (Asks values heap next qs) old new
IsTurn structs values heap hand ps old (Turn.Ends answer) qs new = IsAnswered structs (Comes values heap hand ps)
    (Asks values heap hand ps) old answer new

-- the turn that an answer leads to
abbrev pub Gets : code.Evaluated → Turn → Type 0
Gets (answers.Value v) turn = turn ≡ Turn.Goes (Hand.Value v)
Gets (answers.Fault kind) turn = turn ≡ Turn.Ends (answers.Fault kind)
Gets (answers.Unanswered why) turn = turn ≡ Turn.Ends (answers.Unanswered why)

-- ---- what falls with each turn
abbrev pub weight : Expr → ℕ
weight (number n) = 1
weight input = 1
weight (value l) = 1
weight (minus e) = weight e + 2
weight (times a b) = weight a + weight b + 3
weight (plus a b) = weight a + weight b + 3
weight (difference a b) = weight a + weight b + 3

abbrev pub pending_weight : Pending → ℕ
pending_weight (Pending.Right o e) = weight (expression_of e.now) + 2
pending_weight (Pending.Apply o a) = 1

abbrev pub stack_weight : List Pending → ℕ
stack_weight [] = 0
stack_weight (p ∷ ps) = pending_weight p + stack_weight ps

abbrev pub hand_weight : Hand → ℕ
hand_weight (Hand.Expression e) = weight (expression_of e.now)
hand_weight (Hand.Value v) = 0

-- less is left after a turn
abbrev pub Falls : Hand → List Pending → Turn → List Pending → Type 0
Falls hand ps (Turn.Goes next) qs = hand_weight next + stack_weight qs < hand_weight hand + stack_weight ps
Falls hand ps (Turn.Ends answer) qs = Unit {0}
