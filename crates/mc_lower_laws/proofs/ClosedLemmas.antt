-- Flow graphs of programs without loops, inputs and shape commands have no loop heads, and ask for answers of malloc alone.
use Rattle.std.proofs.Common.{◌≡◌, ◌<◌, ◌≤◌, ℕ, suc, List, [], ◌∷◌, Option, Some, refl, sym, ap, ◌∙◌, subst, get_or, arith, inl, inr}
use Rattle.std.proofs.lemmas.Bool.{cases_lt}
use Rattle.std.proofs.lemmas.Option.{same_Some, slice_get-get_or, slice_get_within}
use Rattle.std.specs.List.{AllByRecursion}
use Rattle.std.specs.Prelude.{All, slice_get}
use Rattle.mc_base.specs.declared.ids.PointId.{PointId}
use Rattle.mc_base.specs.declared.ids.VarId.{VarId}
use Rattle.mc_base.specs.declared.plain.Kind.{Kind}
use Rattle.mc_base.specs.declared.plain.VarInfo.{VarInfo}
use Rattle.mc_c_syntax.specs.declared.ast.trees.Comparison.{Comparison}
use Rattle.mc_c_syntax.specs.declared.ast.trees.Comparison.TheVariants.{Equal, Unequal, Below, AtMost, Above, AtLeast}
use Rattle.mc_base.specs.declared.text.place.Place.{Place}
use Rattle.mc_flow.specs.declared.graph.Point.{Point}
use Rattle.mc_flow.specs.declared.instr.Instr.{Instr}
use Rattle.mc_flow.specs.declared.instr.Operand.{Operand}
use Rattle.mc_semantics.specs.Resolved.Programs.{FieldAt, Left, Expr, Cond, Call, Right, Action, Initial, Stmt, Stmts, Function}
use Rattle.mc_lower_laws.specs.Closed.{IsClosedExpr, IsClosedCond, IsClosedRight, IsClosedAction, AreClosedItems, IsClosedStmt, AreClosedStmts, IsClosed, IsClosedCode, IsClosedFlow}
use Rattle.mc_lower_spec.proofs.Stages.{points_of}
use Rattle.mc_lower_spec.specs.Graphs.{Graph, Owner, Role, plain, head, merge, stop, Stage, point, IsPoint, Appends, appends, Undefines, undefines_none, undefines, Creates, creates, Uses, uses_first, uses_again, Leaves, leaves}
use Rattle.mc_lower_spec.specs.Values.{Operation, an_input, a_field, a_sum, a_difference, a_product, sets, decides, Takes, takes, Walks, walks_none, walks, Evaluates, of_number, of_variable, of_operation, Computes, of_input, of_field, of_minus, of_times, of_plus, of_difference, EvaluatesAll, evaluates_none, evaluates_next, Compares, compares, Tests, tests_plain, tests_compare, tests_negation, tests_both, tests_either, Puts, puts_variable, puts_field}
use Rattle.mc_lower_spec.specs.Lowering.{Around, SetsTo, sets_operand, sets_computed, sets_allocated, Assigns, assigns_variable, assigns_field, assigns_allocated, Changes, changes_variable, changes_field}
use Rattle.mc_lower_spec.specs.Lowering.{Receives, receives_none, receives, Passes, passes_none, passes, Awaits, awaits_none, awaits, Calls, calls, Performs, performs_assign, performs_result, performs_add, performs_subtract, performs_call}
use Rattle.mc_lower_spec.specs.Lowering.{Declares, declares_none, declares_undefined, declares_value}
use Rattle.mc_lower_spec.specs.Lowering.{Lowers, declarations, blocks, empties, simples, frees, asserts, assumes, shapes_assumed, shapes_asserted, emptiness_asserted, ifs, ifs_else, whiles, dos, fors, breaks, continues, returns_nothing, returns_value, returns_result, LowersAll, lowers_none, lowers_next}
use Rattle.mc_lower_spec.specs.Lowering.{Answers, answers_none, answers, Falls, falls_in_main, falls, Makes, makes, IsLowering}

-- ---- points
-- no loop head
abbrev IsNoHead : Role → Type 0
IsNoHead plain = Unit {0}
IsNoHead head = ⊥
IsNoHead merge = Unit {0}
IsNoHead stop = Unit {0}

record QuietAt (g : Graph) (n : ℕ) : Type 0 where
  role : Role
  place : Place
  code : Instr
  is : IsPoint g n role place code
  no_head : IsNoHead role
  quiet : IsClosedCode code

record Between (g : Graph) (n m : ℕ) : Type 0 where
  at : (p : ℕ) → n ≤ p → p < m → QuietAt g p

abbrev Quietly : Graph → Stage → Stage → Type 0
Quietly g s u = Between g (points_of s) (points_of u)

on : {g : Graph} {n m l : ℕ} → Between g n m → Between g m l → Between g n l
on {m = m} first second =
    record {
      at = λ p le lt. elim (cases_lt p m) [
        | inl low ↦ first.at p le low
        | inr high ↦ second.at p (omega arith) lt
      ];
    }

none : {g : Graph} {n : ℕ} → Between g n n
none = record { at = λ p le lt. absurd (omega arith) }

one : {g : Graph} {n : ℕ} {role : Role} {place : Place} {code : Instr} → IsNoHead role → IsClosedCode code → IsPoint g n role place code → Between g n (suc n)
one {g = g} {n = n} {role = role} {place = place} {code = code} no_head quiet is =
    record {
      at = λ p le lt.
          let same : n ≡ p = omega arith in
          subst (λ i. QuietAt g i) same (record { role = role; place = place; code = code; is = is; no_head = no_head; quiet = quiet });
    }

appended : {g : Graph} {role : Role} {place : Place} {code : PointId → Instr} {s u : Stage} → IsNoHead role → ((q : PointId) → IsClosedCode (code q)) → Appends g role place code s u → Quietly g s u
appended no_head quiet (appends {b = b} is) = one no_head (quiet (point b)) is

undefined : {g : Graph} {place : Place} {vs : List VarId} {s u : Stage} → Undefines g place vs s u → Quietly g s u
undefined undefines_none = none
undefined (undefines is) = appended tt (λ q. tt) is

left : {g : Graph} {out : ℕ} {place : Place} {xs : List ℕ} {s u : Stage} → Leaves g out place xs s u → Quietly g s u
left (leaves made undone) = undefined undone

-- ---- variables alone
created : {g : Graph} {owner : Owner} {info : VarInfo} {s u : Stage} {v : VarId} {l : ℕ} → Creates g owner info s v u → Between g (points_of u) l → Between g (points_of s) l
created (creates owned info) rest = rest

used : {g : Graph} {j : ℕ} {kind : Kind} {s u : Stage} {v : VarId} {l : ℕ} → Uses g j kind s v u → Between g (points_of u) l → Between g (points_of s) l
used (uses_first is) rest = created is rest
used (uses_again is) rest = rest

received : {g : Graph} {f : Function} {out x parameters : ℕ} {s u : Stage} {vs : List VarId} {l : ℕ} → Receives g f out x parameters s vs u → Between g (points_of u) l → Between g (points_of s) l
received receives_none rest = rest
received (receives is creating more) rest = created creating (received more rest)

-- ---- expressions
abbrev IsNoInput : Operation → Type 0
IsNoInput an_input = ⊥
IsNoInput (a_field y f) = Unit {0}
IsNoInput (a_sum a b) = Unit {0}
IsNoInput (a_difference a b) = Unit {0}
IsNoInput (a_product a b) = Unit {0}

sets_quietly : (operation : Operation) → IsNoInput operation → (x : VarId) (q : PointId) → IsClosedCode (sets operation x q)
sets_quietly an_input quiet x q = absurd quiet
sets_quietly (a_field y f) quiet x q = tt
sets_quietly (a_sum a b) quiet x q = tt
sets_quietly (a_difference a b) quiet x q = tt
sets_quietly (a_product a b) quiet x q = tt

taken : {g : Graph} {place : Place} {kind : Kind} {operation : Operation} {ts us : List VarId} {s u : Stage} {t : VarId} → IsNoInput operation → Takes g place kind operation ts s t us u → Quietly g s u
taken {operation = operation} {t = t} quiet (takes uses is) = used uses (appended tt (sets_quietly operation quiet t) is)

walked : {g : Graph} {place : Place} {y z : VarId} {fs : List FieldAt} {ts us : List VarId} {s u : Stage} {last : FieldAt} → Walks g place y fs ts s z last us u → Quietly g s u
walked walks_none = none
walked (walks kind first rest) = on (taken tt first) (walked rest)

mutual
  evaluated : {g : Graph} {out : ℕ} {place : Place} {e : Expr} {ts us : List VarId} {s u : Stage} {o : Operand} → IsClosedExpr e → Evaluates g out place e ts s o us u → Quietly g s u
  evaluated closed of_number = none
  evaluated closed (of_variable made) = none
  evaluated closed (of_operation first rest) = let c = computed closed first in on c.0 (taken c.1 rest)

  computed : {g : Graph} {out : ℕ} {place : Place} {e : Expr} {ts us : List VarId} {s u : Stage} {kind : Kind} {operation : Operation} → IsClosedExpr e → Computes g out place e ts s kind operation us u → Quietly g s u × IsNoInput operation
  computed closed of_input = absurd closed
  computed closed (of_field made walk kind) = (walked walk, tt)
  computed closed (of_minus first) = (evaluated closed first, tt)
  computed closed (of_times first second) = (on (evaluated closed.0 first) (evaluated closed.1 second), tt)
  computed closed (of_plus first second) = (on (evaluated closed.0 first) (evaluated closed.1 second), tt)
  computed closed (of_difference first second) = (on (evaluated closed.0 first) (evaluated closed.1 second), tt)

all_evaluated : {g : Graph} {out : ℕ} {place : Place} {es : List Expr} {ts us : List VarId} {s u : Stage} {os : List Operand} → AllByRecursion IsClosedExpr es → EvaluatesAll g out place es ts s os us u → Quietly g s u
all_evaluated closed evaluates_none = none
all_evaluated closed (evaluates_next first rest) = on (evaluated closed.0 first) (all_evaluated closed.1 rest)

-- ---- conditions
decides_quietly : (c : Comparison) (a b : Operand) (t f : PointId) → IsClosedCode (decides c a b t f)
decides_quietly Equal a b t f = tt
decides_quietly Unequal a b t f = tt
decides_quietly Below a b t f = tt
decides_quietly AtMost a b t f = tt
decides_quietly Above a b t f = tt
decides_quietly AtLeast a b t f = tt

compared : {g : Graph} {place : Place} {c : Comparison} {a b : Operand} {ts : List VarId} {s : Stage} {t f n k : ℕ} → Compares g place c a b ts s t f n k → Between g (points_of s) n
compared {c = c} {a = a} {b = b} (compares {y = y} {z = z} is first second) =
    on (one tt (decides_quietly c a b (point y) (point z)) is) (on (undefined first) (undefined second))

tested : {g : Graph} {out : ℕ} {c : Cond} {s : Stage} {t f n k : ℕ} → IsClosedCond c → Tests g out c s t f n k → Between g (points_of s) n
tested closed (tests_plain first test) = on (evaluated closed first) (compared test)
tested closed (tests_compare first second test) = on (on (evaluated closed.0 first) (evaluated closed.1 second)) (compared test)
tested closed (tests_negation test) = tested closed test
tested closed (tests_both first second) = on (tested closed.0 first) (tested closed.1 second)
tested closed (tests_either first second) = on (tested closed.0 first) (tested closed.1 second)

-- ---- assignments
put : {g : Graph} {out : ℕ} {place : Place} {l : Left} {o : Operand} {ts : List VarId} {s u : Stage} → Puts g out place l o ts s u → Quietly g s u
put (puts_variable made is undone) = on (appended tt (λ q. tt) is) (undefined undone)
put (puts_field made walk is undone) = on (on (walked walk) (appended tt (λ q. tt) is)) (undefined undone)

set : {g : Graph} {out : ℕ} {place : Place} {v : VarId} {right : Right} {s u : Stage} → IsClosedRight right → SetsTo g out place v right s u → Quietly g s u
set closed (sets_operand value is) = appended tt (λ q. tt) is
set {v = v} closed (sets_computed {operation = operation} value is undone) =
    let c = computed closed value in on (on c.0 (appended tt (sets_quietly operation c.1 v) is)) (undefined undone)
set closed (sets_allocated count is) = appended tt (λ q. tt) is

assigned : {g : Graph} {out : ℕ} {place : Place} {l : Left} {right : Right} {s u : Stage} → IsClosedRight right → Assigns g out place l right s u → Quietly g s u
assigned closed (assigns_variable made sets) = set closed sets
assigned closed (assigns_field value puts) = on (evaluated closed value) (put puts)
assigned closed (assigns_allocated count uses is puts) = used uses (on (appended tt (λ q. tt) is) (put puts))

changed : {g : Graph} {out : ℕ} {place : Place} {operation : Operand → Operand → Operation} {l : Left} {e : Expr} {s u : Stage} → ((a b : Operand) → IsNoInput (operation a b)) → IsClosedExpr e
    → Changes g out place operation l e s u → Quietly g s u
changed {operation = operation} quiet closed (changes_variable {v = v} {o = o} value made is undone) =
    on (on (evaluated closed value) (appended tt (sets_quietly (operation _ o) (quiet _ o) v) is)) (undefined undone)
changed quiet closed (changes_field value made walk kind loads computes is undone) =
    on (on (on (on (on (evaluated closed value) (walked walk)) (taken tt loads)) (taken (quiet _ _) computes)) (appended tt (λ q. tt) is)) (undefined undone)

-- ---- calls
passed : {g : Graph} {place : Place} {vs : List VarId} {os : List Operand} {s u : Stage} → Passes g place vs os s u → Quietly g s u
passed passes_none = none
passed (passes is rest) = on (appended tt (λ q. tt) is) (passed rest)

awaited : {g : Graph} {out : ℕ} {place : Place} {kind : Option Kind} {s u : Stage} {v : Option VarId} → Awaits g out place kind s v u → Quietly g s u
awaited awaits_none = none
awaited (awaits creating is) = created creating (appended tt (λ q. tt) is)

mutual
  called : {g : Graph} {out : ℕ} {place : Place} {c : Call} {s u : Stage} {ret : Option VarId} → IsClosed g.program → AllByRecursion IsClosedExpr c.arguments → Calls g out place c s ret u → Quietly g s u
  called {c = c} all closed (calls {f = f} is parameters values copies undone waiting body made ends) =
      received parameters
      (on (on (on (on (on (all_evaluated closed values) (passed copies)) (undefined undone)) (awaited waiting)) (all_lowered all (all c.function f is) body)) (appended tt (λ q. tt) ends))

  performed : {g : Graph} {out : ℕ} {place : Place} {action : Action} {s u : Stage} → IsClosed g.program → IsClosedAction action → Performs g out place action s u → Quietly g s u
  performed all closed (performs_assign assigns) = assigned closed assigns
  performed all closed (performs_result inner puts undone) = on (on (called all closed inner) (put puts)) (undefined undone)
  performed all closed (performs_add changes) = changed (λ a b. tt) closed changes
  performed all closed (performs_subtract changes) = changed (λ a b. tt) closed changes
  performed all closed (performs_call inner) = called all closed inner

  declared : {g : Graph} {f : Function} {out : ℕ} {place : Place} {items : List Initial} {s u : Stage} → IsClosed g.program → AreClosedItems items → Declares g f out place items s u → Quietly g s u
  declared all closed declares_none = none
  declared all closed (declares_undefined is creating undone rest) = created creating (on (appended tt (λ q. tt) undone) (declared all closed.1 rest))
  declared all closed (declares_value is creating performs rest) = created creating (on (performed all closed.0 performs) (declared all closed.1 rest))

  lowered : {g : Graph} {c : Around} {a : Stmt} {s u : Stage} → IsClosed g.program → IsClosedStmt a → Lowers g c a s u → Quietly g s u
  lowered all closed (declarations declares) = declared all closed declares
  lowered all closed (blocks body leave) = on (all_lowered all closed body) (left leave)
  lowered all closed empties = none
  lowered all closed (simples performs) = performed all closed performs
  lowered all closed (frees value is undone) = on (on (evaluated closed value) (appended tt (λ q. tt) is)) (undefined undone)
  lowered all closed (asserts test is) = on (tested closed test) (one tt tt is)
  lowered all closed (assumes test is) = on (tested closed test) (one tt tt is)
  lowered all closed (shapes_assumed made args is) = absurd closed
  lowered all closed (shapes_asserted value args is) = absurd closed
  lowered all closed (emptiness_asserted is) = appended tt (λ q. tt) is
  lowered all closed (ifs test body is) = on (on (tested closed.0 test) (lowered all closed.1 body)) (appended tt (λ q. tt) is)
  lowered all closed (ifs_else test first second is) = on (on (on (tested closed.0 test) (lowered all closed.1 first)) (lowered all closed.2 second)) (appended tt (λ q. tt) is)
  lowered all closed (whiles is test body ends) = absurd closed
  lowered all closed (dos is body turn test ends) = absurd closed
  lowered all closed (fors start is test body turn last ends leave) = absurd closed
  lowered all closed (breaks is leave) = left leave
  lowered all closed (continues is leave) = left leave
  lowered all closed returns_nothing = none
  lowered all closed (returns_value made sets) = set closed sets
  lowered all closed (returns_result made inner is undone) = on (on (called all closed inner) (appended tt (λ q. tt) is)) (undefined undone)

  all_lowered : {g : Graph} {c : Around} {ss : Stmts} {s u : Stage} → IsClosed g.program → AreClosedStmts ss → LowersAll g c ss s u → Quietly g s u
  all_lowered all closed lowers_none = none
  all_lowered all closed (lowers_next first rest) = on (lowered all closed.0 first) (all_lowered all closed.1 rest)

-- ---- the whole
answered : {g : Graph} {out : ℕ} {kind : Option Kind} {s u : Stage} {l : ℕ} → Answers g out kind s u → Between g (points_of u) l → Between g (points_of s) l
answered answers_none rest = rest
answered (answers creating) rest = created creating rest

fallen : {g : Graph} {f : Function} {out : ℕ} {s u : Stage} → Falls g f out s u → Quietly g s u
fallen (falls_in_main is made copies) = appended tt (λ q. tt) copies
fallen (falls other) = none

made : {g : Graph} {f : Function} {out count : ℕ} → IsClosed g.program → AreClosedStmts f.body → Makes g f out count → Between g 0 (suc out)
made all closed (makes begins result body falling is) =
    on (appended tt (λ q. tt) begins) (answered result (on (on (all_lowered all closed body) (fallen falling)) (one tt tt is)))

-- ---- from the points to the flow graph
module _ (g : Graph) (entry : Function) (out count : ℕ) (all : IsClosed g.program) (lowering : IsLowering g entry out count) where
  between : Between g 0 (suc out)
  between = made all (all g.program.entry entry lowering.there) lowering.made

  no_heads : (ps : List PointId) → All (λ p. slice_get g.roles p.0 ≡ Some head) ps → ps ≡ []
  no_heads [] only = refl
  no_heads (p ∷ ps) only =
      let role : slice_get g.roles p.0 ≡ Some head = only 0 p (omega arith) in
      let roles = lowering.roles in
      let inside = slice_get_within g.roles p.0 head role in
      let here = between.at p.0 (omega arith) (omega arith) in
      absurd (subst IsNoHead (same_Some _ _ (sym here.is.is ∙ role)) here.no_head)

  quiet_at : (n : ℕ) (x : Point) → slice_get g.flow.points n ≡ Some x → IsClosedCode x.code
  quiet_at n x there =
      let points = lowering.points in
      let inside = slice_get_within g.flow.points n x there in
      let here = between.at n (omega arith) (omega arith) in
      subst IsClosedCode (ap (λ (y : Point). y.code) (same_Some _ _ (sym here.is.there ∙ there))) here.quiet

  pub closed_flow : IsClosedFlow g.flow
  closed_flow = record {
    no_loops = no_heads g.flow.heads lowering.heads.only;
    points = λ n d lt. quiet_at n (get_or g.flow.points n d) (slice_get-get_or g.flow.points n d lt);
  }
