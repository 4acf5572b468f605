-- What is still to be evaluated and tested, and what it comes to in the finished flow graph.
use Rattle.std.specs.Prelude.{◌≡◌, ℕ, pos, List, [], ◌∷◌, Option, map, length}
use Rattle.mc_base.specs.declared.ids.VarId.{VarId}
use Rattle.mc_base.specs.declared.plain.Kind.TheVariants.{Int}
use Rattle.mc_base.specs.declared.text.place.Place.{Place}
use Rattle.mc_flow.specs.declared.instr.Operand.{Operand}
use Rattle.mc_flow.specs.declared.instr.Operand.TheVariants.{Var, Const}
use Rattle.mc_flow.specs.declared.instr.Instr.TheVariants.{Free}
use Rattle.mc_semantics.specs.Resolved.Programs.{Left, Expr, Cond}
use Rattle.mc_semantics.specs.Resolved.Views.{field_of, expression_of, condition_of}
use Rattle.mc_lower_spec.specs.Graphs.{Graph, plain, Stage, stage, Appends, Undefines}
use Rattle.mc_lower_spec.specs.Values.{Operation, an_input, a_field, a_sum, a_difference, a_product, Takes, Evaluates}
use Rattle.mc_lower_spec.specs.Values.{Computes, Tests, TestsPerhaps, Puts}
use Rattle.mc_lower.specs.declared.builder.Builder.{Builder}
use Rattle.mc_lower.specs.declared.conditions.Ways.{Ways}
use Rattle.mc_lower.specs.declared.conditions.Work.{Work as Tested}
use Rattle.mc_lower.specs.declared.lines.Awaited.{Awaited}
use Rattle.mc_lower.specs.declared.values.How.{How}
use Rattle.mc_lower.specs.declared.values.Operation.{Operation as OperationCode}
use Rattle.mc_lower.specs.declared.values.Target.{Target}
use Rattle.mc_lower.specs.declared.values.Value.{Value}
use Rattle.mc_lower.specs.declared.values.Work.{Work}
use Rattle.mc_lower.specs.Worlds.{World, stage_of}

-- ---- the data that the code's types stand for
abbrev pub target_of : Target → Left
target_of t = record { variable = t.variable; fields = map field_of t.fields.now }

abbrev pub operation_of : OperationCode → Operation
operation_of OperationCode.Input = an_input
operation_of (OperationCode.Field x f) = a_field x (field_of f)
operation_of (OperationCode.Sum a b) = a_sum a b
operation_of (OperationCode.Difference a b) = a_difference a b
operation_of (OperationCode.Product a b) = a_product a b

abbrev pub joined : How → Operand → Operand → Operation
joined How.Times = a_product
joined How.Plus = a_sum
joined How.Difference = a_difference

-- ---- expressions
-- the value of an expression: an operand without any point, or what one instruction more comes to
abbrev pub IsValue : Graph → (out : ℕ) → Place → Expr → List VarId → Stage → Value → List VarId → Stage → Type 0
IsValue g out place e ts s (Value.Ready o) us u = Evaluates g out place e ts s o ts s × (us ≡ ts) × (u ≡ s)
IsValue g out place e ts s (Value.Computed kind operation) us u =
    Computes g out place e ts s kind (operation_of operation) us u

-- the operand that a value is, for which what is computed gets a temporary
abbrev pub IsOperand : Graph → Place → Value → List VarId → Stage → Operand → List VarId → Stage → Type 0
IsOperand g place (Value.Ready p) ts s o us u = (o ≡ p) × (us ≡ ts) × (u ≡ s)
IsOperand g place (Value.Computed kind operation) ts s o us u =
    (t : VarId) × Takes g place kind (operation_of operation) ts s t us u × (o ≡ Var t)

-- what an operation comes to is in a temporary, which is on top of the operands made so far
pub record Made (g : Graph) (place : Place) (operation : Operation) (ts : List VarId) (s : Stage) (made : List Operand)
    (us : List VarId) (u : Stage) (more : List Operand) : Type 0 where
  pub variable : VarId
  pub taken : Takes g place Int operation ts s variable us u
  pub kept : more ≡ Var variable ∷ made

-- the value of two expressions that are joined
abbrev pub JoinsParts : Graph → (out : ℕ) → Place → How → Expr → Expr → List VarId → Stage → Value → List VarId → Stage
    → Type 0
JoinsParts g out place how a b ts s v us u =
    (o : Operand) × (p : Operand) × (vs : List VarId) × (m : Stage) × Evaluates g out place a ts s o vs m
    × Evaluates g out place b vs m p us u × ((operation : OperationCode) × (v ≡ Value.Computed Int operation)
    × (operation_of operation ≡ joined how o p))

-- what is still to be evaluated, with the operands that were made, the last one first, comes to the last operand
abbrev pub Finishes : Graph → (out : ℕ) → Place → List Work → List Operand → List VarId → Stage → Operand → List VarId
    → Stage → Type 0
Finishes g out place [] made ts s o us u = ((rest : List Operand) × (made ≡ o ∷ rest)) × (ts ≡ us) × (s ≡ u)
Finishes g out place (Work.Whole e ∷ more) made ts s o us u =
    (p : Operand) × (vs : List VarId) × (m : Stage) × Evaluates g out place (expression_of e.now) ts s p vs m
    × Finishes g out place more (p ∷ made) vs m o us u
Finishes g out place (Work.Minus ∷ more) [] ts s o us u = ⊥
Finishes g out place (Work.Minus ∷ more) (p ∷ made) ts s o us u =
    (t : VarId) × (vs : List VarId) × (m : Stage) × Takes g place Int (a_difference (Const (pos 0)) p) ts s t vs m
    × Finishes g out place more (Var t ∷ made) vs m o us u
Finishes g out place (Work.Join how ∷ more) [] ts s o us u = ⊥
Finishes g out place (Work.Join how ∷ more) (q ∷ []) ts s o us u = ⊥
Finishes g out place (Work.Join how ∷ more) (q ∷ p ∷ made) ts s o us u =
    (t : VarId) × (vs : List VarId) × (m : Stage) × Takes g place Int (joined how p q) ts s t vs m
    × Finishes g out place more (Var t ∷ made) vs m o us u

-- an expression is evaluated, the block that it points to is freed, and the temporaries become undefined
pub record Frees (g : Graph) (out : ℕ) (place : Place) (e : Expr) (s u : Stage) : Type 0 where
  pub operand : Operand
  pub temporaries : List VarId
  pub evaluated : Stage
  pub freed : Stage
  pub evaluates : Evaluates g out place e [] s operand temporaries evaluated
  pub appends : Appends g plain place (λ q. Free operand q) evaluated freed
  pub undefines : Undefines g place temporaries freed u

-- an operand is put into a field
pub record PutsField (g : Graph) (out : ℕ) (place : Place) (l : Left) (o : Operand) (ts : List VarId) (s u : Stage) : Type 0 where
  pub some : l.fields ≡ [] → ⊥
  pub puts : Puts g out place l o ts s u

-- ---- conditions
-- from what is there now to what is there then, a condition goes two ways
abbrev pub TestsTo : World → ℕ → Cond → Ways → Builder → Builder → Type 0
TestsTo w i d ways old new =
    Tests w.graph (w.out i) d (stage_of w old) (w.at ways.yes.0) (w.at ways.no.0) (length new.lines.points.items)
    (length new.variables.list.items)

-- what is still to be tested leads from so many points and variables to so many
abbrev pub Testing : World → ℕ → List Tested → (points variables more_points more_variables : ℕ) → Type 0
Testing w i [] n k m j = (n ≡ m) × (k ≡ j)
Testing w i (t ∷ more) n k m j =
    (p : ℕ) × (q : ℕ)
    × Tests w.graph (w.out i) (condition_of t.condition.now) (stage (w.at t.from.0) n k) (w.at t.ways.yes.0)
    (w.at t.ways.no.0) p q
    × Testing w i more p q m j

-- the labels from which conditions are still to be tested, which wait in that order
abbrev pub froms : List Tested → List Awaited
froms work = map (λ t. Awaited.Goal t.from) work

-- a condition goes on where it is true, and else to a point
pub data TestsOn (g : Graph) (out : ℕ) (d : Cond) (f : ℕ) : Stage → Stage → Type 0 where
  tests_on : {s : Stage} {t n k : ℕ} → Tests g out d s t f n k → TestsOn g out d f s (stage t n k)

pub data TestsPerhapsOn (g : Graph) (out : ℕ) (d : Option Cond) (f : ℕ) : Stage → Stage → Type 0 where
  tests_perhaps_on : {s : Stage} {t n k : ℕ} → TestsPerhaps g out d s t f n k
      → TestsPerhapsOn g out d f s (stage t n k)
