-- What the types of the code mean.
use Rattle.std.specs.Prelude.{◌≡◌, ℕ, ℤ, ◌+ℤ◌, ◌-ℤ◌, ◌*ℤ◌, List, Option, Result, Ok, Err}
use Rattle.mc_base.specs.declared.plain.FaultKind.{FaultKind}
use Rattle.mc_flow.specs.Heap.Choices.{Choice}
use Rattle.mc_flow.specs.Heap.Heap.{Heap}
use Rattle.mc_flow.specs.declared.defs.shapes.StructInfo.{StructInfo}
use Rattle.mc_semantics.specs.Values.{Found, faulty, found, Evaluated, fault_of, value_of}
use Rattle.mc_semantics.specs.Steps.{no_arguments, arguments}
use Rattle.mc_semantics.specs.Waiting.Requests.{an_input}
use Rattle.mc_semantics.specs.Resolved.Programs.{Expr, Left}
use Rattle.mc_semantics.specs.Resolved.Configs.{Values}
use Rattle.mc_semantics.specs.Resolved.Steps.{EvaluateAll}
use Rattle.mc_semantics.specs.Resolved.Values.{Changed, fault_in, changed, assigned, combined, Evaluates}
use Rattle.mc_run_values.specs.declared.values.numbers.Operation.{Operation}
use Rattle.mc_run_values.specs.declared.values.numbers.Operation.TheVariants.{Times, Plus, Difference}
use Rattle.mc_run_values.specs.declared.values.refusal.Evaluated as code
use Rattle.mc_run_values.specs.declared.values.refusal.Evaluated.TheVariants.{Value, Fault, Unanswered}
use Rattle.mc_run_values.specs.declared.values.refusal.Arguments as code_all
use Rattle.mc_run_values.specs.declared.values.refusal.Arguments.TheVariants as all
use Rattle.mc_run_values.specs.Values.Asking.{ArgumentsAsk, ValueAsks}
use Rattle.mc_run_values.specs.Values.Taking.{WithTaken, IsRefusedBehind}

abbrev pub operation_of : Operation → ℤ → ℤ → ℤ
operation_of Times a b = a *ℤ b
operation_of Plus a b = a +ℤ b
operation_of Difference a b = a -ℤ b

-- what was found, or a fault
abbrev pub found_of : Result (Option ℤ) FaultKind → Found
found_of (Ok v) = found v
found_of (Err kind) = faulty kind

-- the value of an operation, or its fault
abbrev pub applied_of : Result (Option ℤ) FaultKind → List Choice → Evaluated
applied_of (Ok v) choices = value_of v choices
applied_of (Err kind) choices = fault_of kind

-- what the variables hold and the heap after a change, or its fault
abbrev pub change_of : Result Unit FaultKind → Values → Heap → Changed
change_of (Ok done) values heap = changed values heap
change_of (Err kind) values heap = fault_in kind

-- on the way from these lines to those, something comes to this, or asks for an input without success
abbrev pub IsAnswered : List StructInfo → (List Choice → Evaluated → Type 0) → (List Choice → List Choice → Type 0)
    → List (List ℕ) → code.Evaluated → List (List ℕ) → Type 0
IsAnswered structs Comes Asks old (Value v) new = WithTaken structs old new (λ choices rest. Comes choices (value_of v rest))
IsAnswered structs Comes Asks old (Fault kind) new = WithTaken structs old new (λ choices rest. Comes choices (fault_of kind))
IsAnswered structs Comes Asks old (Unanswered why) new = IsRefusedBehind structs an_input old why new Asks

-- the same of an expression
abbrev pub IsEvaluated : List StructInfo → Values → Heap → Expr → List (List ℕ) → code.Evaluated → List (List ℕ) → Type 0
IsEvaluated structs values heap e old answer new =
    IsAnswered structs (λ choices r. Evaluates values heap e choices r)
    (λ choices left. ValueAsks values heap e choices left) old answer new

-- the same of arguments, one after the other
abbrev pub AreEvaluated : List StructInfo → Values → Heap → List Expr → List (List ℕ) → code_all.Arguments → List (List ℕ) → Type 0
AreEvaluated structs values heap es old (all.Values vs) new =
    WithTaken structs old new (λ choices rest. EvaluateAll (record { values = values; heap = heap }) es choices (arguments vs.items rest))
AreEvaluated structs values heap es old (all.Fault kind) new =
    WithTaken structs old new (λ choices rest. EvaluateAll (record { values = values; heap = heap }) es choices (no_arguments kind))
AreEvaluated structs values heap es old (all.Unanswered why) new =
    IsRefusedBehind structs an_input old why new (λ choices left. ArgumentsAsk values heap es choices left)

-- to combine is to assign this value, or a fault
abbrev pub IsComputed : (ℤ → ℤ → ℤ) → Values → Heap → Left → Option ℤ → Result (Option ℤ) FaultKind → Type 0
IsComputed operation values heap l v (Ok w) = combined operation values heap l v ≡ assigned values heap l w
IsComputed operation values heap l v (Err kind) = combined operation values heap l v ≡ fault_in kind
