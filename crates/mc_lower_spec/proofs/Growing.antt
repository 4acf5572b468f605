-- What is made has no fewer points and variables than what was there before.
use Rattle.std.proofs.Common.{◌≤◌, ℕ, List, Option, arith}
use Rattle.mc_base.specs.declared.ids.VarId.{VarId}
use Rattle.mc_base.specs.declared.plain.Kind.{Kind}
use Rattle.mc_base.specs.declared.text.place.Place.{Place}
use Rattle.mc_base.specs.declared.ids.PointId.{PointId}
use Rattle.mc_flow.specs.declared.instr.Instr.{Instr}
use Rattle.mc_flow.specs.declared.instr.Operand.{Operand}
use Rattle.mc_semantics.specs.Resolved.Programs.{Left, Expr, Cond, Call, Action, Simple, Initial, Start, Stmt, Stmts, Function}
use Rattle.mc_lower_spec.proofs.Owning as owning
use Rattle.mc_lower_spec.proofs.Owning.{IsOwned, occurrence}
use Rattle.mc_lower_spec.proofs.Stages.{points_of, variables_of}
use Rattle.mc_lower_spec.specs.Graphs.{Graph, Role, Stage, Appends, Undefines, Leaves}
use Rattle.mc_lower_spec.specs.Values.{EvaluatesAll, Tests, TestsPerhaps, Puts}
use Rattle.mc_lower_spec.specs.Lowering.{Around}
use Rattle.mc_lower_spec.specs.Lowering.{Receives, Passes, Awaits, Calls, Performs}
use Rattle.mc_lower_spec.specs.Lowering.{Declares, Starts, Finishes}
use Rattle.mc_lower_spec.specs.Lowering.{Lowers, LowersAll}

pub record IsGrown (p v n k : ℕ) : Type 0 where
  pub points : p ≤ n
  pub variables : v ≤ k

abbrev pub Grows : Stage → Stage → Type 0
Grows s u = IsGrown (points_of s) (variables_of s) (points_of u) (variables_of u)

abbrev pub GrowsTo : Stage → (n k : ℕ) → Type 0
GrowsTo s n k = IsGrown (points_of s) (variables_of s) n k

pub on : {p v m l n k : ℕ} → IsGrown p v m l → IsGrown m l n k → IsGrown p v n k
on first second = record { points = omega (arith, first.points, second.points); variables = omega (arith, first.variables, second.variables) }

grown : {g : Graph} {out p v n k : ℕ} → IsOwned occurrence g out p v n k → IsGrown p v n k
grown owns = record { points = owns.points; variables = owns.variables }

pub appended : {g : Graph} {role : Role} {place : Place} {code : PointId → Instr} {s u : Stage} → Appends g role place code s u → Grows s u
appended is = grown (owning.appended {out = 0} is)

pub undefined : {g : Graph} {place : Place} {vs : List VarId} {s u : Stage} → Undefines g place vs s u → Grows s u
undefined is = grown (owning.undefined {out = 0} is)

pub left : {g : Graph} {out : ℕ} {place : Place} {xs : List ℕ} {s u : Stage} → Leaves g out place xs s u → Grows s u
left is = grown (owning.left {out = 0} is)

pub all_evaluated : {g : Graph} {out : ℕ} {place : Place} {es : List Expr} {ts us : List VarId} {s u : Stage} {os : List Operand} → EvaluatesAll g out place es ts s os us u → Grows s u
all_evaluated is = grown (owning.all_evaluated {out = 0} is)

pub tested : {g : Graph} {out : ℕ} {c : Cond} {s : Stage} {t f n k : ℕ} → Tests g out c s t f n k → GrowsTo s n k
tested is = grown (owning.tested {out = 0} is)

pub tested_perhaps : {g : Graph} {out : ℕ} {c : Option Cond} {s : Stage} {t f n k : ℕ} → TestsPerhaps g out c s t f n k → GrowsTo s n k
tested_perhaps is = grown (owning.tested_perhaps {out = 0} is)

pub put : {g : Graph} {out : ℕ} {place : Place} {l : Left} {o : Operand} {ts : List VarId} {s u : Stage} → Puts g out place l o ts s u → Grows s u
put is = grown (owning.put {out = 0} is)

pub received : {g : Graph} {f : Function} {out x parameters : ℕ} {s u : Stage} {vs : List VarId} → Receives g f out x parameters s vs u → Grows s u
received is = grown (owning.received is)

pub passed : {g : Graph} {place : Place} {vs : List VarId} {os : List Operand} {s u : Stage} → Passes g place vs os s u → Grows s u
passed is = grown (owning.passed {out = 0} is)

pub awaited : {g : Graph} {out : ℕ} {place : Place} {kind : Option Kind} {s u : Stage} {v : Option VarId} → Awaits g out place kind s v u → Grows s u
awaited is = grown (owning.awaited is)

pub called : {g : Graph} {out : ℕ} {place : Place} {c : Call} {s u : Stage} {ret : Option VarId} → Calls g out place c s ret u → Grows s u
called is = grown (owning.called {out = 0} is)

pub performed : {g : Graph} {out : ℕ} {place : Place} {action : Action} {s u : Stage} → Performs g out place action s u → Grows s u
performed is = grown (owning.performed {out = 0} is)

pub declared : {g : Graph} {f : Function} {out : ℕ} {place : Place} {items : List Initial} {s u : Stage} → Declares g f out place items s u → Grows s u
declared is = grown (owning.declared is)

pub started : {g : Graph} {f : Function} {out : ℕ} {start : Start} {s u : Stage} → Starts g f out start s u → Grows s u
started is = grown (owning.started is)

pub finished : {g : Graph} {out : ℕ} {last : Option Simple} {s u : Stage} → Finishes g out last s u → Grows s u
finished is = grown (owning.finished {out = 0} is)

pub lowered : {g : Graph} {c : Around} {a : Stmt} {s u : Stage} → Lowers g c a s u → Grows s u
lowered is = grown (owning.lowered is)

pub all_lowered : {g : Graph} {c : Around} {ss : Stmts} {s u : Stage} → LowersAll g c ss s u → Grows s u
all_lowered is = grown (owning.all_lowered is)
