-- A flow graph while it is made, seen from the finished one.
use Rattle.std.specs.Prelude.{◌≡◌, ℕ, suc, List, [], map, Option, Some, None, length, slice_get}
use Rattle.mc_base.specs.declared.ids.PointId.{PointId}
use Rattle.mc_base.specs.declared.text.place.Place.{Place}
use Rattle.mc_flow.specs.declared.graph.Point.{Point}
use Rattle.mc_flow.specs.declared.instr.Instr.{Instr}
use Rattle.mc_flow.specs.declared.instr.Instr.TheVariants.{Skip, Copy, Undef, Input, Add, Sub, Mul, Load, Store}
use Rattle.mc_flow.specs.declared.instr.Instr.TheVariants.{Malloc, Free, TestEq, TestLe, AssumeShape, AssertShape}
use Rattle.mc_flow.specs.declared.instr.Instr.TheVariants.{AssertEmpty, End, Fail}
use Rattle.mc_semantics.specs.Resolved.Views.{function_of}
use Rattle.mc_lower_spec.specs.Graphs.{Graph, Owner, local, result, temporary, Role, plain, head, merge, stop}
use Rattle.mc_lower_spec.specs.Graphs.{Stage, stage, point, IsPoint}
use Rattle.mc_lower.specs.declared.builder.Builder.{Builder}
use Rattle.mc_lower.specs.declared.builder.Draft.{Draft}
use Rattle.mc_lower.specs.declared.builder.Label.{Label}
use Rattle.mc_lower.specs.declared.builder.Mark.{Mark}
use Rattle.mc_lower.specs.declared.variables.Owner.{Owner as OwnerCode}
use Rattle.mc_lower.specs.declared.builder.Role.{Role as RoleCode}

-- the finished flow graph, with the point of each label, the point that the `return` of each occurrence of a function
-- goes to, and the variables of each block and of those around it in the same loop; occurrences are known apart by their
-- points
pub record World : Type 0 where
  pub graph : Graph
  pub at : ℕ → ℕ
  pub out : ℕ → ℕ
  pub blocks : ℕ → List ℕ
  pub apart : (i j : ℕ) → out i ≡ out j → i ≡ j

abbrev pub owner_of : (ℕ → ℕ) → OwnerCode → Owner
owner_of out (OwnerCode.Local i x) = local (out i) x
owner_of out (OwnerCode.Result i) = result (out i)
owner_of out (OwnerCode.Temporary j kind) = temporary j kind

abbrev pub role_of : RoleCode → Role
role_of RoleCode.Plain = plain
role_of RoleCode.Head = head
role_of RoleCode.Merge = merge
role_of RoleCode.Stop = stop

-- the point of a target
abbrev pub target : (ℕ → ℕ) → PointId → PointId
target at q = point (at q.0)

-- an instruction with points in place of labels
abbrev pub settled : (ℕ → ℕ) → Instr → Instr
settled at (Skip q) = Skip (target at q)
settled at (Copy x o q) = Copy x o (target at q)
settled at (Undef xs q) = Undef xs (target at q)
settled at (Input x q) = Input x (target at q)
settled at (Add x a b q) = Add x a b (target at q)
settled at (Sub x a b q) = Sub x a b (target at q)
settled at (Mul x a b q) = Mul x a b (target at q)
settled at (Load x y s f q) = Load x y s f (target at q)
settled at (Store y s f o q) = Store y s f o (target at q)
settled at (Malloc x s q) = Malloc x s (target at q)
settled at (Free o q) = Free o (target at q)
settled at (TestEq a b t f) = TestEq a b (target at t) (target at f)
settled at (TestLe a b t f) = TestLe a b (target at t) (target at f)
settled at (AssumeShape p x os q) = AssumeShape p x os (target at q)
settled at (AssertShape p o os q) = AssertShape p o os (target at q)
settled at (AssertEmpty q) = AssertEmpty (target at q)
settled at End = End
settled at Fail = Fail

abbrev pub point_in : (ℕ → ℕ) → Draft → Point
point_in at d = record { code = settled at d.code; place = d.place }

-- what is known of a label is true
abbrev pub IsMarked : (ℕ → ℕ) → Mark → Type 0
IsMarked at (Mark.At l n) = at l.0 ≡ n
IsMarked at (Mark.Same l m) = at l.0 ≡ at m.0

-- the variables of a block and of those around it
abbrev pub blocks_in : World → Option ℕ → List ℕ
blocks_in w None = []
blocks_in w (Some i) = w.blocks i

-- each item of a list, at its number
abbrev pub AllAt : {A : Type 0} → (ℕ → A → Type 0) → List A → Type 0
AllAt {A} P xs = (i : ℕ) (x : A) → slice_get xs i ≡ Some x → P i x

-- the finished flow graph has what is there so far
pub record Agrees (w : World) (b : Builder) : Type 0 where
  pub functions : w.graph.program.functions ≡ map function_of b.program.now.functions.items
  pub structs : w.graph.flow.structs ≡ b.structs.now
  pub points : AllAt (λ i d. slice_get w.graph.flow.points i ≡ Some (point_in w.at d)) b.lines.points.items
  pub roles : AllAt (λ i d. slice_get w.graph.roles i ≡ Some (role_of d.role)) b.lines.points.items
  pub owners : AllAt (λ i v. slice_get w.graph.owners i ≡ Some (owner_of w.out v.owner)) b.variables.list.items
  pub infos : AllAt (λ i v. slice_get w.graph.flow.vars i ≡ Some v.info) b.variables.list.items
  pub marks : AllAt (λ i m. IsMarked w.at m) b.lines.marks.items
  pub outs : AllAt (λ i l. w.at l.0 ≡ w.out i) b.lines.outs.items
  pub blocks : AllAt (λ i xs. w.blocks i ≡ xs.items) b.blocks.items

-- how far it is made
abbrev pub stage_of : World → Builder → Stage
stage_of w b = stage (w.at b.lines.goal.0) (length b.lines.points.items) (length b.variables.list.items)

-- whatever finished flow graph agrees with what is there now agrees with what was there before, and this leads from
-- the one stage to the other in it
abbrev pub Leads : (World → Stage → Stage → Type 0) → Builder → Builder → Type 0
Leads R old new = (w : World) → Agrees w new → Agrees w old × R w (stage_of w old) (stage_of w new)

-- what was made goes on to a point, and what is made next is reached from elsewhere alone
pub data GoesTo (q : ℕ) : Stage → Stage → Type 0 where
  goes_to : {a n k : ℕ} → GoesTo q (stage q n k) (stage a n k)

-- a point at the goal
pub record IsPut (w : World) (role : RoleCode) (place : Place) (code : Instr) (old new : Builder) : Type 0 where
  pub at : w.at old.lines.goal.0 ≡ length old.lines.points.items
  pub there : IsPoint w.graph (length old.lines.points.items) (role_of role) place (settled w.at code)
  pub points : length new.lines.points.items ≡ suc (length old.lines.points.items)
  pub variables : new.variables ≡ old.variables

-- a point at the goal, which goes on to a label
pub data Lays (w : World) (role : RoleCode) (place : Place) (code : Instr) (next : Label) : Stage → Stage
    → Type 0 where
  lays : {n k : ℕ} → IsPoint w.graph n (role_of role) place (settled w.at code)
      → Lays w role place code next (stage n n k) (stage (w.at next.0) (suc n) k)

-- the same, where a label is that point
pub data Lands (w : World) (at : ℕ) (role : RoleCode) (place : Place) (code : Instr) (next : Label) : Stage → Stage
    → Type 0 where
  lands : {k : ℕ} → IsPoint w.graph at (role_of role) place (settled w.at code)
      → Lands w at role place code next (stage at at k) (stage (w.at next.0) (suc at) k)
