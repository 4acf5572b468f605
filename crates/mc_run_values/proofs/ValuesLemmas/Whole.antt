-- A whole expression, turn by turn.
use Rattle.std.proofs.Common.{◌≡◌, ◌+◌, ◌<◌, ℕ, List, subst}
use Rattle.mc_flow.specs.Heap.Choices.{Choice}
use Rattle.mc_flow.specs.Heap.Heap.{Heap}
use Rattle.mc_flow.specs.declared.defs.shapes.StructInfo.{StructInfo}
use Rattle.mc_semantics.specs.Values.{Evaluated}
use Rattle.mc_semantics.specs.Resolved.Configs.{Values}
use Rattle.mc_semantics.specs.Resolved.Programs.{Expr}
use Rattle.mc_semantics.specs.Resolved.Values.{Evaluates}
use Rattle.mc_run_values.specs.declared.values.refusal.Evaluated as code
use Rattle.mc_run_values.specs.declared.values.turns.Pending.{Pending}
use Rattle.mc_run_values.specs.declared.values.turns.Hand.{Hand}
use Rattle.mc_run_values.specs.declared.values.turns.Turn.{Turn}
use Rattle.mc_run_values.specs.Values.Asking.{ValueAsks}
use Rattle.mc_run_values.specs.Values.Models.{IsEvaluated}
use Rattle.mc_run_values.specs.Values.Turns.{Asks, Comes, Falls, IsTurn, Leads, hand_weight, stack_weight}
use Rattle.mc_run_values.proofs.ValuesLemmas.Taking.{leads_on, leads_to}

-- from the expression one has come to this
abbrev pub Stands : List StructInfo → Values → Heap → Expr → Hand → List Pending → (old now : List (List ℕ)) → Type 0
Stands structs values heap x hand ps old now =
    Leads structs (λ choices r. Evaluates values heap x choices r) (Comes values heap hand ps) (λ choices left. ValueAsks values heap x choices left) (Asks values heap hand ps) old now

pub turn_goes : (structs : List StructInfo) (values : Values) (heap : Heap) (x : Expr) (hand next : Hand) (ps qs : List Pending) (turn : Turn) (old middle new : List (List ℕ)) → turn ≡ Turn.Goes next
    → Stands structs values heap x hand ps old middle → IsTurn structs values heap hand ps middle turn qs new → Stands structs values heap x next qs old new
turn_goes structs values heap x hand next ps qs turn old middle new is h i =
    leads_on structs (λ (choices : List Choice) (r : Evaluated). Evaluates values heap x choices r) (Comes values heap hand ps) (Comes values heap next qs) (λ (choices left : List Choice). ValueAsks values heap x choices left) (Asks values heap hand ps) (Asks values heap next qs) old middle new h (subst (λ (t : Turn). IsTurn structs values heap hand ps middle t qs new) is i)

pub turn_ends : (structs : List StructInfo) (values : Values) (heap : Heap) (x : Expr) (hand : Hand) (answer : code.Evaluated) (ps qs : List Pending) (turn : Turn) (old middle new : List (List ℕ)) → turn ≡ Turn.Ends answer
    → Stands structs values heap x hand ps old middle → IsTurn structs values heap hand ps middle turn qs new → IsEvaluated structs values heap x old answer new
turn_ends structs values heap x hand answer ps qs turn old middle new is h i =
    leads_to structs (λ (choices : List Choice) (r : Evaluated). Evaluates values heap x choices r) (Comes values heap hand ps) (λ (choices left : List Choice). ValueAsks values heap x choices left) (Asks values heap hand ps) old middle new answer h (subst (λ (t : Turn). IsTurn structs values heap hand ps middle t qs new) is i)

pub turn_falls : (hand next : Hand) (ps qs : List Pending) (turn : Turn) → turn ≡ Turn.Goes next → Falls hand ps turn qs → hand_weight next + stack_weight qs < hand_weight hand + stack_weight ps
turn_falls hand next ps qs turn is h = subst (λ (t : Turn). Falls hand ps t qs) is h
