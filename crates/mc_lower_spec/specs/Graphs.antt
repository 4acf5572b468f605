-- Flow graphs with what each of their variables and points is for, and the steps in which they are made.
use Rattle.std.specs.Prelude.{◌≡◌, ◌<◌, ℕ, suc, List, [], ◌∷◌, Some, Contains, All, AllPairs, slice_get}
use Rattle.mc_base.specs.declared.ids.PointId.{PointId}
use Rattle.mc_base.specs.declared.ids.VarId.{VarId}
use Rattle.mc_base.specs.declared.plain.Kind.{Kind}
use Rattle.mc_base.specs.declared.plain.VarInfo.{VarInfo}
use Rattle.mc_base.specs.declared.text.place.Place.{Place}
use Rattle.mc_flow.specs.declared.instr.Instr.{Instr}
use Rattle.mc_flow.specs.declared.instr.Instr.TheVariants.{Undef}
use Rattle.mc_flow.specs.declared.graph.Flow.{Flow}
use Rattle.mc_semantics.specs.Resolved.Programs.{Program}

-- whose a variable of the flow graph is: a variable of a function, its result, or a temporary by its number and kind;
-- an occurrence of a function is known by the point that its `return` goes to
pub data Owner : Type 0 where
  local : (out x : ℕ) → Owner
  result : (out : ℕ) → Owner
  temporary : (j : ℕ) → Kind → Owner

-- what a point is: a loop's head, where the ways of an `if` meet, an End that counts as a stop, or none of these
pub data Role : Type 0 where
  plain : Role
  head : Role
  merge : Role
  stop : Role

-- a program and a flow graph, with the owner of each of its variables, the role of each of its points, and the points
-- whose End counts
-- as a stop
pub record Graph : Type 0 where
  pub program : Program
  pub flow : Flow
  pub owners : List Owner
  pub roles : List Role
  pub stops : List PointId

-- how far a flow graph is made: the point that what was made goes on to, and how many points and variables there are
pub data Stage : Type 0 where
  stage : (goal points variables : ℕ) → Stage

abbrev pub point : ℕ → PointId
point n = record { 0 = n }

abbrev pub var : ℕ → VarId
var v = record { 0 = v }

-- the place of a point that has none of its own
abbrev pub nowhere : Place
nowhere = record { line = 1; column = 1 }

-- ---- points
-- the point of this number has this role, place and instruction
pub record IsPoint (g : Graph) (n : ℕ) (role : Role) (place : Place) (code : Instr) : Type 0 where
  pub there : slice_get g.flow.points n ≡ Some (record { code = code; place = place })
  pub is : slice_get g.roles n ≡ Some role

-- a point is appended, and goes on to what is made next
pub data Appends (g : Graph) (role : Role) (place : Place) (code : PointId → Instr) : Stage → Stage → Type 0 where
  appends : {n k b : ℕ} → IsPoint g n role place (code (point b))
      → Appends g role place code (stage n n k) (stage b (suc n) k)

-- variables become undefined by one point, where there are any
pub data Undefines (g : Graph) (place : Place) : List VarId → Stage → Stage → Type 0 where
  undefines_none : {s : Stage} → Undefines g place [] s s
  undefines : {v : VarId} {vs : List VarId} {s u : Stage}
      → Appends g plain place (λ q. Undef (v ∷ vs) q) s u → Undefines g place (v ∷ vs) s u

-- ---- variables
-- the next variable is made for this owner
pub data Creates (g : Graph) (owner : Owner) (info : VarInfo) : Stage → VarId → Stage → Type 0 where
  creates : {a n k : ℕ} → slice_get g.owners k ≡ Some owner → slice_get g.flow.vars k ≡ Some info
      → Creates g owner info (stage a n k) (var k) (stage a n (suc k))

-- the variable of this owner, which was made by then
pub data IsMade (g : Graph) (owner : Owner) : VarId → Stage → Type 0 where
  is_made : {v : VarId} {a n k : ℕ} → slice_get g.owners v.0 ≡ Some owner → v.0 < k → IsMade g owner v (stage a n k)

-- a temporary is used, and is made at its first use; it has no name
pub data Uses (g : Graph) (j : ℕ) (kind : Kind) : Stage → VarId → Stage → Type 0 where
  uses_first : {s u : Stage} {v : VarId} → Creates g (temporary j kind) (record { name = []; kind = kind }) s v u
      → Uses g j kind s v u
  uses_again : {s : Stage} {v : VarId} → IsMade g (temporary j kind) v s → Uses g j kind s v s

-- these are the variables made by then of an occurrence of a function, of those that are meant, ascending
pub record AreMade (g : Graph) (out : ℕ) (Meant : ℕ → Type 0) (s : Stage) (vs : List VarId) : Type 0 where
  pub ascending : AllPairs (λ v w. v.0 < w.0) vs
  pub all : (x : ℕ) (v : VarId) → Meant x → IsMade g (local out x) v s → Contains vs v
  pub only : All (λ v. (x : ℕ) × Meant x × IsMade g (local out x) v s) vs

-- variables of an occurrence are left: those made by then become undefined
pub data Leaves (g : Graph) (out : ℕ) (place : Place) (xs : List ℕ) : Stage → Stage → Type 0 where
  leaves : {s u : Stage} {vs : List VarId} → AreMade g out (λ x. Contains xs x) s vs → Undefines g place vs s u
      → Leaves g out place xs s u
