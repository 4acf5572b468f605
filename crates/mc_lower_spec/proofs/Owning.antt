-- Whose the variables are that are made.
use Rattle.std.proofs.Common.{◌≡◌, ◌≤◌, ◌<◌, ◌⊎◌, ℕ, suc, List, Option, Some, None, refl, sym, ap, ◌∙◌, inl, inr, arith}
use Rattle.std.proofs.lemmas.Bool.{cases_lt}
use Rattle.std.proofs.lemmas.Option.{same_Some}
use Rattle.std.specs.Prelude.{slice_get}
use Rattle.mc_base.specs.declared.ids.VarId.{VarId}
use Rattle.mc_base.specs.declared.plain.Kind.{Kind}
use Rattle.mc_base.specs.declared.plain.VarInfo.{VarInfo}
use Rattle.mc_c_syntax.specs.declared.ast.trees.Comparison.{Comparison}
use Rattle.mc_base.specs.declared.text.place.Place.{Place}
use Rattle.mc_base.specs.declared.ids.PointId.{PointId}
use Rattle.mc_flow.specs.declared.instr.Instr.{Instr}
use Rattle.mc_flow.specs.declared.instr.Operand.{Operand}
use Rattle.mc_semantics.specs.Resolved.Programs.{FieldAt, Left, Expr, Cond, Call, Right, Action, Simple, Initial, Start, Stmt, Stmts, Function}
use Rattle.mc_lower_spec.specs.Graphs.{Graph, Owner, local, result, temporary, Role, Stage, Appends, appends, Undefines, undefines_none, undefines, Creates, creates, Uses, uses_first, uses_again, Leaves, leaves}
use Rattle.mc_lower_spec.specs.Values.{Operation, Takes, takes, Walks, walks_none, walks, Evaluates, of_number, of_variable, of_operation, Computes, of_input, of_field, of_minus, of_times, of_plus, of_difference, EvaluatesAll, evaluates_none, evaluates_next, Compares, compares, Tests, tests_plain, tests_compare, tests_negation, tests_both, tests_either, TestsPerhaps, tests_always, tests_once, Puts, puts_variable, puts_field}
use Rattle.mc_lower_spec.specs.Lowering.{Around, SetsTo, sets_operand, sets_computed, sets_allocated, Assigns, assigns_variable, assigns_field, assigns_allocated, Changes, changes_variable, changes_field}
use Rattle.mc_lower_spec.specs.Lowering.{Receives, receives_none, receives, Passes, passes_none, passes, Awaits, awaits_none, awaits, Calls, calls, Performs, performs_assign, performs_result, performs_add, performs_subtract, performs_call}
use Rattle.mc_lower_spec.specs.Lowering.{Declares, declares_none, declares_undefined, declares_value, Starts, starts_nothing, starts_declaring, starts_performing, Finishes, finishes_none, finishes}
use Rattle.mc_lower_spec.specs.Lowering.{Lowers, declarations, blocks, empties, simples, frees, asserts, assumes, shapes_assumed, shapes_asserted, emptiness_asserted, ifs, ifs_else, whiles, dos, fors, breaks, continues, returns_nothing, returns_value, returns_result, LowersAll, lowers_none, lowers_next}
use Rattle.mc_lower_spec.proofs.Stages.{points_of, variables_of}

-- the occurrence that a variable is of
abbrev pub occurrence : Owner → Option ℕ
occurrence (local out x) = Some out
occurrence (result out) = Some out
occurrence (temporary j kind) = None

-- and of a variable of the function alone
abbrev pub of_local : Owner → Option ℕ
of_local (local out x) = Some out
of_local (result out) = None
of_local (temporary j kind) = None

-- from p points and v variables no fewer, and what is made for occurrences belongs to this occurrence, or to one whose `return` goes to a point
-- made here
pub record IsOwned (of : Owner → Option ℕ) (g : Graph) (out p v n k : ℕ) : Type 0 where
  pub points : p ≤ n
  pub variables : v ≤ k
  pub owned : (i o : ℕ) (x : Owner) → slice_get g.owners i ≡ Some x → of x ≡ Some o → v ≤ i → i < k → (o ≡ out) ⊎ ((p ≤ o) × (o < n))

abbrev pub Owns : Graph → ℕ → Stage → Stage → Type 0
Owns g out s u = IsOwned occurrence g out (points_of s) (variables_of s) (points_of u) (variables_of u)

abbrev pub OwnsTo : Graph → ℕ → Stage → (n k : ℕ) → Type 0
OwnsTo g out s n k = IsOwned occurrence g out (points_of s) (variables_of s) n k

-- no variable is made
pub none : {of : Owner → Option ℕ} {g : Graph} {out p v n : ℕ} → p ≤ n → IsOwned of g out p v n v
none more = record { points = more; variables = omega arith; owned = λ i o x is by low high. absurd (omega (arith, low, high)) }

pub same : {of : Owner → Option ℕ} {g : Graph} {out : ℕ} (s : Stage) → IsOwned of g out (points_of s) (variables_of s) (points_of s) (variables_of s)
same s = none (omega arith)

pub on : {of : Owner → Option ℕ} {g : Graph} {out p v m l n k : ℕ} → IsOwned of g out p v m l → IsOwned of g out m l n k → IsOwned of g out p v n k
on {l = l} first second =
    record {
      points = omega (arith, first.points, second.points);
      variables = omega (arith, first.variables, second.variables);
      owned = λ i o x is by low high. elim (cases_lt i l) [
        | inl early ↦ elim (first.owned i o x is by low early) [
          | inl own ↦ inl own
          | inr inner ↦ inr (inner.0, omega (arith, inner.1, second.points))
        ]
        | inr late ↦ elim (second.owned i o x is by (omega (arith, late)) high) [
          | inl own ↦ inl own
          | inr inner ↦ inr (omega (arith, inner.0, first.points), inner.1)
        ]
      ];
    }

-- what holds of all that is made holds of the variables of functions
locally : (x : Owner) (o : ℕ) → of_local x ≡ Some o → occurrence x ≡ Some o
locally (local out x) o e = e
locally (result out) o e = absurd (cc e)
locally (temporary j kind) o e = absurd (cc e)

pub locals : {g : Graph} {out p v n k : ℕ} → IsOwned occurrence g out p v n k → IsOwned of_local g out p v n k
locals all = record { points = all.points; variables = all.variables; owned = λ i o x is by low high. all.owned i o x is (locally x o by) low high }

-- a variable of an occurrence is made, or a temporary
pub made : {of : Owner → Option ℕ} {g : Graph} {out : ℕ} {owner : Owner} {info : VarInfo} {s u : Stage} {v : VarId} → ((o : ℕ) → of owner ≡ Some o → o ≡ out) → Creates g owner info s v u
    → IsOwned of g out (points_of s) (variables_of s) (points_of u) (variables_of u)
made {of = of} {g = g} {owner = owner} only (creates {k = k} owned info) =
    record {
      points = omega arith;
      variables = omega arith;
      owned = λ i o x is by low high.
          let here : i ≡ k = omega (arith, low, high) in
          let there : slice_get g.owners i ≡ Some owner = ap (λ z. slice_get g.owners z) here ∙ owned in
          let same : x ≡ owner = same_Some x owner (sym is ∙ there) in
          inl (only o (sym (ap of same) ∙ by));
    }

pub made_local : {g : Graph} {out y : ℕ} {info : VarInfo} {s u : Stage} {v : VarId} → Creates g (local out y) info s v u → Owns g out s u
made_local {out = out} makes = made (λ o e. same_Some o out (sym e)) makes

pub made_result : {g : Graph} {out : ℕ} {info : VarInfo} {s u : Stage} {v : VarId} → Creates g (result out) info s v u → Owns g out s u
made_result {out = out} makes = made (λ o e. same_Some o out (sym e)) makes

pub appended : {g : Graph} {out : ℕ} {role : Role} {place : Place} {code : PointId → Instr} {s u : Stage} → Appends g role place code s u → Owns g out s u
appended (appends is) = none (omega arith)

pub undefined : {g : Graph} {out : ℕ} {place : Place} {vs : List VarId} {s u : Stage} → Undefines g place vs s u → Owns g out s u
undefined {s = s} undefines_none = same s
undefined (undefines is) = appended is

pub left : {g : Graph} {out at : ℕ} {place : Place} {xs : List ℕ} {s u : Stage} → Leaves g at place xs s u → Owns g out s u
left (leaves made undone) = undefined undone

pub used : {g : Graph} {out j : ℕ} {kind : Kind} {s u : Stage} {v : VarId} → Uses g j kind s v u → Owns g out s u
used (uses_first is) = made (λ o never. absurd (cc never)) is
used {s = s} (uses_again is) = same s

taken : {g : Graph} {out : ℕ} {place : Place} {kind : Kind} {operation : Operation} {ts us : List VarId} {s u : Stage} {t : VarId} → Takes g place kind operation ts s t us u → Owns g out s u
taken (takes uses is) = on (used uses) (appended is)

walked : {g : Graph} {out : ℕ} {place : Place} {y z : VarId} {fs : List FieldAt} {ts us : List VarId} {s u : Stage} {last : FieldAt} → Walks g place y fs ts s z last us u → Owns g out s u
walked {s = s} walks_none = same s
walked (walks kind first rest) = on (taken first) (walked rest)

mutual
  pub evaluated : {g : Graph} {out at : ℕ} {place : Place} {e : Expr} {ts us : List VarId} {s u : Stage} {o : Operand} → Evaluates g at place e ts s o us u → Owns g out s u
  evaluated {s = s} of_number = same s
  evaluated {s = s} (of_variable made) = same s
  evaluated (of_operation first rest) = on (computed first) (taken rest)

  computed : {g : Graph} {out at : ℕ} {place : Place} {e : Expr} {ts us : List VarId} {s u : Stage} {kind : Kind} {operation : Operation} → Computes g at place e ts s kind operation us u → Owns g out s u
  computed {s = s} of_input = same s
  computed (of_field made walk kind) = walked walk
  computed (of_minus first) = evaluated first
  computed (of_times first second) = on (evaluated first) (evaluated second)
  computed (of_plus first second) = on (evaluated first) (evaluated second)
  computed (of_difference first second) = on (evaluated first) (evaluated second)

pub all_evaluated : {g : Graph} {out at : ℕ} {place : Place} {es : List Expr} {ts us : List VarId} {s u : Stage} {os : List Operand} → EvaluatesAll g at place es ts s os us u → Owns g out s u
all_evaluated {s = s} evaluates_none = same s
all_evaluated (evaluates_next first rest) = on (evaluated first) (all_evaluated rest)

compared : {g : Graph} {out : ℕ} {place : Place} {c : Comparison} {a b : Operand} {ts : List VarId} {s : Stage} {t f n k : ℕ} → Compares g place c a b ts s t f n k → OwnsTo g out s n k
compared (compares is first second) =
    on (none (omega arith)) (on (undefined first) (undefined second))

pub tested : {g : Graph} {out at : ℕ} {c : Cond} {s : Stage} {t f n k : ℕ} → Tests g at c s t f n k → OwnsTo g out s n k
tested (tests_plain first test) = on (evaluated first) (compared test)
tested (tests_compare first second test) = on (evaluated first) (on (evaluated second) (compared test))
tested (tests_negation test) = tested test
tested (tests_both {a = a} {m = m} {j = j} first second) = on (tested first) (tested second)
tested (tests_either {a = a} {m = m} {j = j} first second) = on (tested first) (tested second)

pub tested_perhaps : {g : Graph} {out at : ℕ} {c : Option Cond} {s : Stage} {t f n k : ℕ} → TestsPerhaps g at c s t f n k → OwnsTo g out s n k
tested_perhaps tests_always = none (omega arith)
tested_perhaps (tests_once test) = tested test

pub put : {g : Graph} {out at : ℕ} {place : Place} {l : Left} {o : Operand} {ts : List VarId} {s u : Stage} → Puts g at place l o ts s u → Owns g out s u
put (puts_variable made is undone) = on (appended is) (undefined undone)
put (puts_field made walk is undone) = on (walked walk) (on (appended is) (undefined undone))

pub set : {g : Graph} {out at : ℕ} {place : Place} {v : VarId} {right : Right} {s u : Stage} → SetsTo g at place v right s u → Owns g out s u
set (sets_operand value is) = appended is
set (sets_computed value is undone) = on (computed value) (on (appended is) (undefined undone))
set (sets_allocated count is) = appended is

assigned : {g : Graph} {out at : ℕ} {place : Place} {l : Left} {right : Right} {s u : Stage} → Assigns g at place l right s u → Owns g out s u
assigned (assigns_variable made sets) = set sets
assigned (assigns_field value puts) = on (evaluated value) (put puts)
assigned (assigns_allocated count uses is puts) = on (used uses) (on (appended is) (put puts))

changed : {g : Graph} {out at : ℕ} {place : Place} {operation : Operand → Operand → Operation} {l : Left} {e : Expr} {s u : Stage} → Changes g at place operation l e s u → Owns g out s u
changed (changes_variable value made is undone) = on (evaluated value) (on (appended is) (undefined undone))
changed (changes_field value made walk kind loads computes is undone) =
    on (evaluated value) (on (walked walk) (on (taken loads) (on (taken computes) (on (appended is) (undefined undone)))))

pub received : {g : Graph} {f : Function} {out x parameters : ℕ} {s u : Stage} {vs : List VarId} → Receives g f out x parameters s vs u → Owns g out s u
received {s = s} receives_none = same s
received (receives is makes rest) = on (made_local makes) (received rest)

pub passed : {g : Graph} {out : ℕ} {place : Place} {vs : List VarId} {os : List Operand} {s u : Stage} → Passes g place vs os s u → Owns g out s u
passed {s = s} passes_none = same s
passed (passes is rest) = on (appended is) (passed rest)

pub awaited : {g : Graph} {out : ℕ} {place : Place} {kind : Option Kind} {s u : Stage} {v : Option VarId} → Awaits g out place kind s v u → Owns g out s u
awaited {s = s} awaits_none = same s
awaited (awaits makes is) = on (made_result makes) (appended is)

-- a call's body ends where its `return` goes
inside : {g : Graph} {out inner p v k n j : ℕ} → IsOwned occurrence g inner p v inner k → (n ≡ suc inner) × (j ≡ k) → IsOwned occurrence g out p v n j
inside {inner = inner} before end =
    record {
      points = omega (arith, before.points, end.0);
      variables = omega (arith, before.variables, end.1);
      owned = λ i o x is of low high. elim (before.owned i o x is of low (omega (arith, high, end.1))) [
        | inl own ↦ inr (omega (arith, own, before.points), omega (arith, own, end.0))
        | inr within ↦ inr (within.0, omega (arith, within.1, end.0))
      ];
    }

pub ended : {g : Graph} {role : Role} {place : Place} {code : PointId → Instr} {s u : Stage} → Appends g role place code s u → (points_of u ≡ suc (points_of s)) × (variables_of u ≡ variables_of s)
ended (appends is) = (refl, refl)

mutual
  pub called : {g : Graph} {out at : ℕ} {place : Place} {c : Call} {s u : Stage} {ret : Option VarId} → Calls g at place c s ret u → Owns g out s u
  called (calls {inner = inner} {k = k} is parameters values copies undone waiting body made ends) =
      let before = on (received parameters) (on (all_evaluated values) (on (passed copies) (on (undefined undone) (on (awaited waiting) (all_lowered body))))) in
      inside before (ended ends)

  pub performed : {g : Graph} {out at : ℕ} {place : Place} {action : Action} {s u : Stage} → Performs g at place action s u → Owns g out s u
  performed (performs_assign assigns) = assigned assigns
  performed (performs_result inner puts undone) = on (called inner) (on (put puts) (undefined undone))
  performed (performs_add changes) = changed changes
  performed (performs_subtract changes) = changed changes
  performed (performs_call inner) = called inner

  pub declared : {g : Graph} {f : Function} {out : ℕ} {place : Place} {items : List Initial} {s u : Stage} → Declares g f out place items s u → Owns g out s u
  declared {s = s} declares_none = same s
  declared (declares_undefined is makes undone rest) = on (made_local makes) (on (appended undone) (declared rest))
  declared (declares_value is makes performs rest) = on (made_local makes) (on (performed performs) (declared rest))

  pub started : {g : Graph} {f : Function} {out : ℕ} {start : Start} {s u : Stage} → Starts g f out start s u → Owns g out s u
  started {s = s} starts_nothing = same s
  started (starts_declaring declares) = declared declares
  started (starts_performing performs) = performed performs

  pub finished : {g : Graph} {out at : ℕ} {last : Option Simple} {s u : Stage} → Finishes g at last s u → Owns g out s u
  finished {s = s} finishes_none = same s
  finished (finishes performs) = performed performs

  pub lowered : {g : Graph} {c : Around} {a : Stmt} {s u : Stage} → Lowers g c a s u → Owns g c.out s u
  lowered (declarations declares) = declared declares
  lowered (blocks body leave) = on (all_lowered body) (left leave)
  lowered {s = s} empties = same s
  lowered (simples performs) = performed performs
  lowered (frees value is undone) = on (evaluated value) (on (appended is) (undefined undone))
  lowered (asserts test is) = on (tested test) (none (omega arith))
  lowered (assumes test is) = on (tested test) (none (omega arith))
  lowered (shapes_assumed made args is) = appended is
  lowered (shapes_asserted value args is) = appended is
  lowered (emptiness_asserted is) = appended is
  lowered (ifs {t = t} {m = m} {k = k} test body is) = on (tested test) (on (lowered body) (appended is))
  lowered (ifs_else {t = t} {f = f} {m = m} {k = k} {i = i} {j = j} test first second is) =
      on (on (tested test) (lowered first)) (on (lowered second) (appended is))
  lowered (whiles {t = t} {m = m} {i = i} is test body ends) = on (appended is) (on (tested test) (on (lowered body) (appended ends)))
  lowered (dos {e = e} {l = l} is body turn test ends) =
      on (appended is) (on (lowered body) (on (appended turn) (on (tested test) (appended ends))))
  lowered (fors {t = t} {p = p} {y = y} start is test body turn last ends leave) =
      on (started start) (on (appended is) (on (tested_perhaps test) (on (lowered body) (on (appended turn) (on (finished last) (on (appended ends) (left leave)))))))
  lowered (breaks is leave) = left leave
  lowered (continues is leave) = left leave
  lowered returns_nothing = none (omega arith)
  lowered (returns_value made sets) = set sets
  lowered (returns_result made inner is undone) = on (called inner) (on (appended is) (undefined undone))

  pub all_lowered : {g : Graph} {c : Around} {ss : Stmts} {s u : Stage} → LowersAll g c ss s u → Owns g c.out s u
  all_lowered {s = s} lowers_none = same s
  all_lowered (lowers_next first rest) = on (lowered first) (all_lowered rest)
