-- What holds of judged rules of instructions.
use Rattle.std.specs.Prelude.{◌≡◌, ◌⊎◌, ◌<◌, ℕ, ℤ, ◌≤ℤ◌, List, Option, Some, None, Err, length}
use Rattle.std.specs.List.{AllByRecursion}
use Rattle.mc_base.specs.declared.ids.NodeId.{NodeId}
use Rattle.mc_base.specs.declared.ids.PointId.{PointId}
use Rattle.mc_base.specs.declared.ids.StructId.{StructId}
use Rattle.mc_base.specs.declared.plain.Kind.{Kind}
use Rattle.mc_base.specs.declared.plain.Kind.TheVariants.{Int, Ptr}
use Rattle.mc_base.specs.declared.plain.Atom.{Atom}
use Rattle.mc_base.specs.declared.plain.VarInfo.{VarInfo}
use Rattle.mc_base.specs.Atoms.{nodes_of_atom}
use Rattle.mc_flow.specs.declared.defs.rules.Def.{Def}
use Rattle.mc_flow.specs.declared.graph.Flow.{Flow}
use Rattle.mc_flow.specs.declared.instr.Operand.{Operand}
use Rattle.mc_flow.specs.Valid.{IsValid, IsField, ArgsFit as OperandsFit}
use Rattle.mc_state.specs.Known.{Test, Tells}
use Rattle.mc_state.specs.Premises.{IsJudged}
use Rattle.mc_pure.specs.Derived.{HasRange}
use Rattle.mc_pure.specs.Pure.{Pure, HasKind}
use Rattle.mc_state.specs.declared.goal.Goal.{Goal}
use Rattle.mc_state.specs.declared.line.InstrRule.{InstrRule}
use Rattle.mc_state.specs.State.{State}
use Rattle.mc_state.specs.Facts.{IsFalse, Derives}
use Rattle.mc_state.specs.Fits.{AreNodes, ArgsFit, IsBounded, FitsProgram, IsWellMade}
use Rattle.mc_rules_steps.specs.Next.{Next}
use Rattle.mc_rules_steps.specs.declared.gap.Gap.{Gap}
use Rattle.mc_rules_steps.specs.Judges.{stepping}
use Rattle.mc_rules_steps.specs.Laws.{IsStep}
use Rattle.mc_rules_steps.specs.Operands.{with_operands, HasBlock}
use Rattle.mc_rules_steps.specs.Steps.{StepIs}
use Rattle.mc_rules_steps.specs.Sums.{Ends, Ranges, AreInts, HaveRanges, TellLeast}
use Rattle.mc_rules_steps.specs.Unmet.{IsUnmet}

-- what a law of judged rules takes: a test that tells what is entailed, right ranges, a valid flow graph and a well-made state
pub record AreGiven (know : Test) (range : Ranges) (flow : Flow) (defs : List Def) (p : PointId) (s : State) : Type 0 where
  pub valid : IsValid flow defs
  pub made : IsWellMade defs flow.vars flow.structs.list s
  pub tells : Tells know s
  pub ranges : HaveRanges range flow p s

-- each rule is judged by its instances
abbrev pub StepsAreJudged : Type 0
StepsAreJudged =
    (know : Test) (range : Ranges) (flow : Flow) (defs : List Def) (rule : InstrRule) (p : PointId) (s : State)
    → AreGiven know range flow defs p s → IsJudged (stepping know range flow rule p s) (StepIs rule flow p s)

-- a rule has one list of successors
abbrev pub StepsAreOne : Type 0
StepsAreOne =
    (flow : Flow) (defs : List Def) (rule : InstrRule) (p : PointId) (s : State) (next other : List Next)
    → IsValid flow defs → StepIs rule flow p s next → StepIs rule flow p s other → next ≡ other

-- either it has an instance, or a premise is the first unmet one and it has none
abbrev pub StepsAreDecided : Type 0
StepsAreDecided =
    (know : Test) (range : Ranges) (flow : Flow) (defs : List Def) (rule : InstrRule) (p : PointId) (s : State)
    → AreGiven know range flow defs p s
    → ((next : List Next) × StepIs rule flow p s next)
    ⊎ ((k : ℕ) × (stepping know range flow rule p s ≡ Err k) × ((next : List Next) → StepIs rule flow p s next → ⊥))

-- in a state that fits, a block of a struct has each field of the struct
abbrev pub FieldsAreThere : Type 0
FieldsAreThere =
    (flow : Flow) (s : State) (n : NodeId) (shape : StructId) (f : ℕ) (kind : Kind) (block : HasBlock s n shape)
    → FitsProgram flow.vars flow.structs.list s → IsField flow.structs shape f kind → f < length block.fields

-- an instruction is unmet for one cause
abbrev pub CausesAreOne : Type 0
CausesAreOne =
    (flow : Flow) (defs : List Def) (p : PointId) (s : State) (gap other : Gap)
    → IsUnmet flow defs p s gap → IsUnmet flow defs p s other → gap ≡ other

-- ---- least ranges

-- two least ranges of a node are one
abbrev pub LeastRangeIsOne : Type 0
LeastRangeIsOne = (p : Pure) (n : NodeId) (lo hi m k : ℤ) → HasRange p n lo hi → HasRange p n m k → (lo ≡ m) × (hi ≡ k)

-- a least range has a number
abbrev pub LeastRangeHasNumber : Type 0
LeastRangeHasNumber = (p : Pure) (n : NodeId) (lo hi : ℤ) → HasRange p n lo hi → lo ≤ℤ hi

-- a least range of a node of kind Int is one of ints
abbrev pub LeastRangeIsOfInts : Type 0
LeastRangeIsOfInts = (p : Pure) (n : NodeId) (r : Ends) → HasKind p.kinds Int n → HasRange p n r.lo r.hi → AreInts r

-- ---- states with the nodes of operands

-- the state with the nodes of operands is false only where the state was
abbrev pub OperandsKeepSound : Type 0
OperandsKeepSound =
    (vars : List VarInfo) (os : List Operand) (kinds : List Kind) (s : State)
    → IsBounded s → OperandsFit vars os kinds → IsFalse (with_operands s os) → IsFalse s

-- and of the nodes before nothing more is entailed in it
abbrev pub OperandsTellNothing : Type 0
OperandsTellNothing =
    (vars : List VarInfo) (os : List Operand) (kinds : List Kind) (s : State) (f : Atom)
    → IsBounded s → OperandsFit vars os kinds → AreNodes s.kinds (nodes_of_atom f) → Derives (with_operands s os) f → Derives s f

-- so ranges that are the least at states that are not false are the ones that instructions ask for
abbrev pub RangesSuffice : Type 0
RangesSuffice =
    (range : Ranges) (flow : Flow) (defs : List Def) (p : PointId) (s : State)
    → IsValid flow defs → IsWellMade defs flow.vars flow.structs.list s → TellLeast range → HaveRanges range flow p s

-- ---- well-made states

-- a side branch's goal fits the definitions: it is at a pointer, and the arguments fit the predicate
abbrev pub GoalFits : List Def → State → Option Goal → Type 0
GoalFits defs s None = Unit {0}
GoalFits defs s (Some goal) = HasKind s.kinds Ptr goal.at × ArgsFit defs s.kinds goal.pred goal.args

-- a successor's state is well made, and its goal fits
abbrev pub IsMadeFor : Flow → List Def → Next → Type 0
IsMadeFor flow defs n = IsWellMade defs flow.vars flow.structs.list n.state × GoalFits defs n.state n.goal

-- what a rule makes of a well-made state is well made
abbrev pub StepsAreWellMade : Type 0
StepsAreWellMade =
    (flow : Flow) (defs : List Def) (p : PointId) (s : State) (next : List Next)
    → IsValid flow defs → IsWellMade defs flow.vars flow.structs.list s → IsStep flow p s next → AllByRecursion (IsMadeFor flow defs) next
