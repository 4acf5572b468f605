-- What is still to be lowered, and what it comes to in the finished flow graph.
use Rattle.std.specs.Prelude.{◌≡◌, ℕ, suc, List, [], ◌∷◌, Option, Some, ⊤, map, option_map, length}
use Rattle.mc_base.specs.declared.ids.VarId.{VarId}
use Rattle.mc_base.specs.declared.text.place.Place.{Place}
use Rattle.mc_flow.specs.declared.instr.Operand.{Operand}
use Rattle.mc_flow.specs.declared.instr.Operand.TheVariants.{Var}
use Rattle.mc_flow.specs.declared.instr.Instr.{Instr}
use Rattle.mc_flow.specs.declared.instr.Instr.TheVariants.{Skip, Copy}
use Rattle.mc_semantics.specs.Resolved.Programs.{Expr, Cond, Call, Initial, Head, Stmt, declaration, block, empty}
use Rattle.mc_semantics.specs.Resolved.Programs.{simple, free, assert, assume, assume_shape, assert_shape, assert_empty}
use Rattle.mc_semantics.specs.Resolved.Programs.{if_only, if_else, while_loop, do_loop, for_loop, break_loop, continue_loop}
use Rattle.mc_semantics.specs.Resolved.Programs.{returns}
use Rattle.mc_semantics.specs.Resolved.Views.{action_of, condition_of, function_of, head_of, initial_of, statement_of}
use Rattle.mc_semantics.specs.Resolved.Views.{stmts_of}
use Rattle.mc_lower_spec.specs.Graphs.{Graph, Role, plain, merge, nowhere, Stage, stage, IsPoint, Appends}
use Rattle.mc_lower_spec.specs.Graphs.{Undefines, Leaves}
use Rattle.mc_lower_spec.specs.Values.{EvaluatesAll, Tests, Puts}
use Rattle.mc_lower_spec.specs.Lowering.{Around, in_body, Starts, Finishes, Calls, Performs, Declares, Lowers, LowersAll}
use Rattle.mc_lower_spec.specs.Lowering.{Passes}
use Rattle.mc_lower.specs.declared.builder.Builder.{Builder}
use Rattle.mc_lower.specs.declared.calls.Entered.{Entered}
use Rattle.mc_lower.specs.declared.tasks.Context.{Context}
use Rattle.mc_lower.specs.declared.tasks.Task.{Task}
use Rattle.mc_lower.specs.declared.tasks.Turns.{Turns}
use Rattle.mc_lower.specs.declared.values.Target.{Target}
use Rattle.mc_lower.specs.Worlds.{World, Agrees, blocks_in, stage_of, GoesTo}
use Rattle.mc_lower.specs.Owned.{Forgets}
use Rattle.mc_lower.specs.Valued.{target_of}

-- where a statement stands in the finished flow graph
abbrev pub turns_in : World → Turns → Rattle.mc_lower_spec.specs.Lowering.Loop
turns_in w t = record { exit = w.at t.exit.0; turn = w.at t.turn.0 }

abbrev pub around_of : World → Context → Around
around_of w c =
    record {
      function = function_of c.function.now;
      out = w.out c.occurrence;
      blocks = blocks_in w c.block;
      loop = option_map (λ t. turns_in w t) c.turns;
    }

-- ---- kinds of statements and tasks
-- a statement that is lowered at once: it has no statements inside, and nothing of it may be a call
abbrev pub IsCommand : Stmt → Type 0
IsCommand (declaration place items) = ⊥
IsCommand (block xs ss) = ⊥
IsCommand empty = ⊥
IsCommand (simple x) = ⊥
IsCommand (free place e) = ⊤
IsCommand (assert place d) = ⊤
IsCommand (assume place d) = ⊤
IsCommand (assume_shape place predicate x os) = ⊤
IsCommand (assert_shape place predicate a os) = ⊤
IsCommand (assert_empty place) = ⊤
IsCommand (if_only place d a) = ⊥
IsCommand (if_else place d a b) = ⊥
IsCommand (while_loop place d a) = ⊥
IsCommand (do_loop place a d) = ⊥
IsCommand (for_loop h a) = ⊥
IsCommand (break_loop place) = ⊤
IsCommand (continue_loop place) = ⊤
IsCommand (returns place right) = ⊥

-- what stands after the parts of a statement or of a call
abbrev pub IsBehind : Task → Type 0
IsBehind (Task.Statements ss c) = ⊥
IsBehind (Task.Statement a c) = ⊥
IsBehind (Task.Simple x c) = ⊥
IsBehind (Task.Declare place items c) = ⊥
IsBehind (Task.EndBlock xs i) = ⊤
IsBehind (Task.Otherwise l m) = ⊤
IsBehind (Task.Merge place l) = ⊤
IsBehind (Task.EndWhile place begin exit) = ⊤
IsBehind (Task.EndDo place d begin turns i) = ⊤
IsBehind (Task.For h a c) = ⊥
IsBehind (Task.ForTurn h begin turns c) = ⊥
IsBehind (Task.EndFor h begin exit i) = ⊤
IsBehind (Task.EndCall place c) = ⊤
IsBehind (Task.Take place target answer i) = ⊤
IsBehind (Task.Answer place own answer i) = ⊤

-- ---- parts
-- after the body of a call its variables become undefined
pub data EndsCall (g : Graph) (out : ℕ) (place : Place) (count : ℕ) : Stage → Stage → Type 0 where
  ends_call : {k : ℕ} {u : Stage} → Forgets g out place count (stage out out k) u
      → EndsCall g out place count (stage out out k) u

-- the arguments of a call are evaluated, and copied to these parameters
pub record PassesAll (g : Graph) (out : ℕ) (place : Place) (es : List Expr) (vs : List VarId) (s u : Stage)
    : Type 0 where
  pub operands : List Operand
  pub temporaries : List VarId
  pub evaluated : Stage
  pub copied : Stage
  pub evaluates : EvaluatesAll g out place es [] s operands temporaries evaluated
  pub passes : Passes g place vs operands evaluated copied
  pub undefines : Undefines g place temporaries copied u

-- the result of a call is put into a variable or a field, and then undefined
pub record TakesResult (g : Graph) (out : ℕ) (place : Place) (target : Target) (answer : Option VarId) (s u : Stage)
    : Type 0 where
  pub returned : VarId
  pub there : answer ≡ Some returned
  pub taken : Stage
  pub puts : Puts g out place (target_of target) (Var returned) [] s taken
  pub undefines : Undefines g place (returned ∷ []) taken u

-- the result of a call becomes that of an occurrence, and is then undefined
pub record AnswersResult (g : Graph) (out : ℕ) (place : Place) (own : VarId) (answer : Option VarId) (s u : Stage)
    : Type 0 where
  pub returned : VarId
  pub there : answer ≡ Some returned
  pub copied : Stage
  pub undefined : Stage
  pub appends : Appends g plain place (λ q. Copy own (Var returned) q) s copied
  pub undefines : Undefines g place (returned ∷ []) copied undefined
  pub goes : GoesTo out undefined u

-- where a condition is false, there is a point of this role that nothing follows
pub data Checks (g : Graph) (out : ℕ) (role : Role) (place : Place) (code : Instr) (d : Cond) : Stage → Stage
    → Type 0 where
  checks : {s : Stage} {b n k : ℕ} → Tests g out d s b n n k → IsPoint g n role place code
      → Checks g out role place code d s (stage b (suc n) k)

-- ---- what follows the parts of statements
-- the ways of an `if` meet
pub data Merges (g : Graph) (place : Place) (n : ℕ) : Stage → Stage → Type 0 where
  merges : {k : ℕ} {u : Stage} → Appends g merge place (λ q. Skip q) (stage n n k) u
      → Merges g place n (stage n n k) u

-- the second part of an `if` begins at a point
pub data Otherwise (other join : ℕ) : Stage → Stage → Type 0 where
  otherwise : {n k : ℕ} → Otherwise other join (stage join n k) (stage other n k)

-- the body of a loop goes to its head, and its exit follows
pub data ExitsTo (g : Graph) (place : Place) (begin exit : ℕ) : Stage → Stage → Type 0 where
  exits : {k : ℕ} {u : Stage} → Appends g plain place (λ q. Skip q) (stage exit exit k) u
      → ExitsTo g place begin exit (stage begin exit k) u

-- after the body of a `do`
pub data EndsDo (g : Graph) (out : ℕ) (place : Place) (d : Cond) (begin turn exit : ℕ) : Stage → Stage → Type 0 where
  ends_do : {j l : ℕ} {m u : Stage} → Appends g plain place (λ q. Skip q) (stage turn turn j) m
      → Tests g out d m begin exit exit l → Appends g plain place (λ q. Skip q) (stage exit exit l) u
      → EndsDo g out place d begin turn exit (stage turn turn j) u

-- after the last part of a `for`
pub data EndsFor (g : Graph) (out : ℕ) (h : Head) (begin exit : ℕ) : Stage → Stage → Type 0 where
  ends_for : {s m u : Stage} → ExitsTo g h.place begin exit s m → Leaves g out nowhere h.variables m u
      → EndsFor g out h begin exit s u

-- after the body of a `for`
pub data TurnsFor (g : Graph) (out : ℕ) (h : Head) (begin turn exit : ℕ) : Stage → Stage → Type 0 where
  turns_for : {j : ℕ} {m n u : Stage} → Appends g plain h.place (λ q. Skip q) (stage turn turn j) m
      → Finishes g out h.last m n → EndsFor g out h begin exit n u
      → TurnsFor g out h begin turn exit (stage turn turn j) u

-- after the first part of a `for`: with that it is the whole
abbrev pub EntersFor : Graph → Around → Head → Stmt → Stage → Stage → Type 0
EntersFor g c h a s u =
    (r : Stage) → Starts g c.function c.out h.start r s → Lowers g c (for_loop h a) r u

-- ---- tasks
-- what is left of a task leads from one stage to another
abbrev pub Met : World → Task → Stage → Stage → Type 0
Met w (Task.Statements ss c) s u = LowersAll w.graph (around_of w c) (stmts_of (map statement_of ss.now)) s u
Met w (Task.Statement a c) s u = Lowers w.graph (around_of w c) (statement_of a.now) s u
Met w (Task.Simple x c) s u = Performs w.graph (w.out c.occurrence) x.now.place (action_of x.now.action) s u
Met w (Task.Declare place items c) s u =
    Declares w.graph (function_of c.function.now) (w.out c.occurrence) place (map initial_of items.now) s u
Met w (Task.EndBlock xs i) s u = Leaves w.graph (w.out i) nowhere xs.now s u
Met w (Task.Otherwise l m) s u = Otherwise (w.at l.0) (w.at m.0) s u
Met w (Task.Merge place l) s u = Merges w.graph place (w.at l.0) s u
Met w (Task.EndWhile place begin exit) s u = ExitsTo w.graph place (w.at begin.0) (w.at exit.0) s u
Met w (Task.EndDo place d begin turns i) s u =
    EndsDo w.graph (w.out i) place (condition_of d.now) (w.at begin.0) (w.at turns.turn.0) (w.at turns.exit.0) s u
Met w (Task.For h a c) s u = EntersFor w.graph (around_of w c) (head_of h.now) (statement_of a.now) s u
Met w (Task.ForTurn h begin turns c) s u =
    TurnsFor w.graph (w.out c.occurrence) (head_of h.now) (w.at begin.0) (w.at turns.turn.0) (w.at turns.exit.0) s u
Met w (Task.EndFor h begin exit i) s u =
    EndsFor w.graph (w.out i) (head_of h.now) (w.at begin.0) (w.at exit.0) s u
Met w (Task.EndCall place c) s u =
    EndsCall w.graph (w.out c.occurrence) place (length (function_of c.function.now).locals) s u
Met w (Task.Take place target answer i) s u = TakesResult w.graph (w.out i) place target answer s u
Met w (Task.Answer place own answer i) s u = AnswersResult w.graph (w.out i) place own answer s u

-- what is left leads from one stage to another
abbrev pub Rest : World → List Task → Stage → Stage → Type 0
Rest w [] s u = s ≡ u
Rest w (t ∷ ts) s u = (m : Stage) × Met w t s m × Rest w ts m u

-- whatever finished flow graph agrees with what is there now, where what is left is met, agrees with what was there
-- before, where this is met and then what was left
abbrev pub Begins : (World → Stage → Stage → Type 0) → Builder → List Task → Builder → List Task → Type 0
Begins R old before new after =
    (w : World) (u : Stage) → Agrees w new → Rest w after (stage_of w new) u
    → Agrees w old × ((m : Stage) × R w (stage_of w old) m × Rest w before m u)

-- with its body, and the end of that, this is a call
abbrev pub IsEntered : World → Place → Call → Context → Entered → Stage → Stage → Type 0
IsEntered w place c context entered s r =
    (m u : Stage) → LowersAll w.graph (around_of w entered.callee) (function_of entered.callee.function.now).body r m
    → EndsCall w.graph (w.out entered.callee.occurrence) place (length (function_of entered.callee.function.now).locals)
    m u
    → Calls w.graph (w.out context.occurrence) place c s entered.answer u

-- the first declarator: with the others these are all
abbrev pub DeclaresFirst : World → Context → Place → Initial → Stage → Stage → Type 0
DeclaresFirst w c place item s m =
    (items : List Initial) (u : Stage)
    → Declares w.graph (function_of c.function.now) (w.out c.occurrence) place items m u
    → Declares w.graph (function_of c.function.now) (w.out c.occurrence) place (item ∷ items) s u
