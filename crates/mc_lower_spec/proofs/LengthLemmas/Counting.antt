-- So many points the parts of statements come to.
use Rattle.std.proofs.Common.{◌≡◌, ◌≤◌, ◌+◌, ◌++◌, ℕ, suc, List, [], ◌∷◌, Option, length, refl, ap, arith}
use Rattle.mc_base.specs.declared.ids.VarId.{VarId}
use Rattle.mc_base.specs.declared.plain.Kind.{Kind}
use Rattle.mc_base.specs.declared.plain.VarInfo.{VarInfo}
use Rattle.mc_c_syntax.specs.declared.ast.trees.Comparison.{Comparison}
use Rattle.mc_base.specs.declared.text.place.Place.{Place}
use Rattle.mc_base.specs.declared.ids.PointId.{PointId}
use Rattle.mc_flow.specs.declared.instr.Instr.{Instr}
use Rattle.mc_flow.specs.declared.instr.Operand.{Operand}
use Rattle.mc_semantics.specs.Resolved.Programs.{FieldAt, Left, Expr, Cond, Right, Function}
use Rattle.mc_lower_spec.proofs.Stages.{points_of, variables_of}
use Rattle.mc_lower_spec.specs.Graphs.{Graph, Owner, Role, Stage, Appends, appends, Undefines, undefines_none, undefines, Creates, creates, Uses, uses_first, uses_again}
use Rattle.mc_lower_spec.specs.Values.{Operation, Takes, takes, Walks, walks_none, walks, Evaluates, of_number, of_variable, of_operation, Computes, of_input, of_field, of_minus, of_times, of_plus, of_difference, EvaluatesAll, evaluates_none, evaluates_next}
use Rattle.mc_lower_spec.specs.Values.{Compares, compares, Tests, tests_plain, tests_compare, tests_negation, tests_both, tests_either, TestsPerhaps, tests_always, tests_once, Puts, puts_variable, puts_field}
use Rattle.mc_lower_spec.specs.Lowering.{SetsTo, sets_operand, sets_computed, sets_allocated, Assigns, assigns_variable, assigns_field, assigns_allocated, Changes, changes_variable, changes_field}
use Rattle.mc_lower_spec.specs.Lowering.{Receives, receives_none, receives, Passes, passes_none, passes, Awaits, awaits_none, awaits}
use Rattle.mc_lower_spec.specs.Length.Lengths.{clearing, operations, all_operations, testing, testing_perhaps, loading, putting, setting, changing, assigning, awaiting}

-- from p points and v variables, c points more, and no fewer variables
pub record IsCounted (c p v n k : ℕ) : Type 0 where
  pub points : n ≡ p + c
  pub variables : v ≤ k

abbrev pub Counts : ℕ → Stage → Stage → Type 0
Counts c s u = IsCounted c (points_of s) (variables_of s) (points_of u) (variables_of u)

-- so many points, each with a temporary
pub record IsEvaluated (d : ℕ) (ts us : List VarId) (s u : Stage) : Type 0 where
  pub points : points_of u ≡ points_of s + d
  pub variables : variables_of s ≤ variables_of u
  pub temporaries : length us ≡ length ts + d

-- as many but one
pub record IsComputed (d : ℕ) (ts us : List VarId) (s u : Stage) : Type 0 where
  pub points : suc (points_of u) ≡ points_of s + d
  pub variables : variables_of s ≤ variables_of u
  pub temporaries : suc (length us) ≡ length ts + d

one_more : {A : Type 0} (xs : List A) (x : A) → length (xs ++ x ∷ []) ≡ suc (length xs)
one_more [] x = refl
one_more (h ∷ xs) x = ap suc (one_more xs x)

pub appended : {g : Graph} {role : Role} {place : Place} {code : PointId → Instr} {s u : Stage} → Appends g role place code s u → Counts 1 s u
appended (appends is) = record { points = omega arith; variables = omega arith }

pub undefined : {g : Graph} {place : Place} {vs : List VarId} {s u : Stage} → Undefines g place vs s u → Counts (clearing (length vs)) s u
undefined undefines_none = record { points = omega arith; variables = omega arith }
undefined (undefines is) = appended is

pub created : {g : Graph} {owner : Owner} {info : VarInfo} {s u : Stage} {v : VarId} → Creates g owner info s v u → Counts 0 s u
created (creates owned info) = record { points = omega arith; variables = omega arith }

pub used : {g : Graph} {j : ℕ} {kind : Kind} {s u : Stage} {v : VarId} → Uses g j kind s v u → Counts 0 s u
used (uses_first is) = created is
used (uses_again is) = record { points = omega arith; variables = omega arith }

taken : {g : Graph} {place : Place} {kind : Kind} {operation : Operation} {ts us : List VarId} {s u : Stage} {t : VarId} → Takes g place kind operation ts s t us u → IsEvaluated 1 ts us s u
taken (takes {ts = ts} {t = t} uses is) =
    let a = used uses in
    let b = appended is in
    record { points = omega (arith, a.points, b.points); variables = omega (arith, a.variables, b.variables); temporaries = omega (arith, one_more ts t) }

pub walked : {g : Graph} {place : Place} {y z : VarId} {fs : List FieldAt} {ts us : List VarId} {s u : Stage} {last : FieldAt} → Walks g place y fs ts s z last us u → IsEvaluated (loading (length fs)) ts us s u
walked walks_none = record { points = omega arith; variables = omega arith; temporaries = omega arith }
walked (walks kind first rest) =
    let a = taken first in
    let b = walked rest in
    record { points = omega (arith, a.points, b.points); variables = omega (arith, a.variables, b.variables); temporaries = omega (arith, a.temporaries, b.temporaries) }

both : {c d : ℕ} {ts us ws : List VarId} {s m u : Stage} → IsEvaluated c ts us s m → IsEvaluated d us ws m u → IsComputed (suc (c + d)) ts ws s u
both a b = record { points = omega (arith, a.points, b.points); variables = omega (arith, a.variables, b.variables); temporaries = omega (arith, a.temporaries, b.temporaries) }

mutual
  pub evaluated : {g : Graph} {out : ℕ} {place : Place} {e : Expr} {ts us : List VarId} {s u : Stage} {o : Operand} → Evaluates g out place e ts s o us u → IsEvaluated (operations e) ts us s u
  evaluated of_number = record { points = omega arith; variables = omega arith; temporaries = omega arith }
  evaluated (of_variable made) = record { points = omega arith; variables = omega arith; temporaries = omega arith }
  evaluated (of_operation first rest) =
      let a = computed first in
      let b = taken rest in
      record { points = omega (arith, a.points, b.points); variables = omega (arith, a.variables, b.variables); temporaries = omega (arith, a.temporaries, b.temporaries) }

  pub computed : {g : Graph} {out : ℕ} {place : Place} {e : Expr} {ts us : List VarId} {s u : Stage} {kind : Kind} {operation : Operation} → Computes g out place e ts s kind operation us u
      → IsComputed (operations e) ts us s u
  computed of_input = record { points = omega arith; variables = omega arith; temporaries = omega arith }
  computed (of_field made walk kind) =
      let a = walked walk in
      record { points = omega (arith, a.points); variables = a.variables; temporaries = omega (arith, a.temporaries) }
  computed (of_minus first) =
      let a = evaluated first in
      record { points = omega (arith, a.points); variables = a.variables; temporaries = omega (arith, a.temporaries) }
  computed (of_times first second) = both (evaluated first) (evaluated second)
  computed (of_plus first second) = both (evaluated first) (evaluated second)
  computed (of_difference first second) = both (evaluated first) (evaluated second)

-- operands and temporaries of several expressions
pub record AreEvaluated (es : List Expr) (ts us : List VarId) (os : List Operand) (s u : Stage) : Type 0 where
  pub evaluated : IsEvaluated (all_operations es) ts us s u
  pub operands : length os ≡ length es

pub all_evaluated : {g : Graph} {out : ℕ} {place : Place} {es : List Expr} {ts us : List VarId} {s u : Stage} {os : List Operand} → EvaluatesAll g out place es ts s os us u → AreEvaluated es ts us os s u
all_evaluated evaluates_none = record { evaluated = record { points = omega arith; variables = omega arith; temporaries = omega arith }; operands = refl }
all_evaluated (evaluates_next first rest) =
    let a = evaluated first in
    let more = all_evaluated rest in
    let b = more.evaluated in
    record {
      evaluated = record { points = omega (arith, a.points, b.points); variables = omega (arith, a.variables, b.variables); temporaries = omega (arith, a.temporaries, b.temporaries) };
      operands = ap suc more.operands;
    }

-- ---- conditions
pub compared : {g : Graph} {place : Place} {c : Comparison} {a b : Operand} {ts : List VarId} {s : Stage} {t f n k : ℕ} → Compares g place c a b ts s t f n k
    → IsCounted (suc (clearing (length ts) + clearing (length ts))) (points_of s) (variables_of s) n k
compared (compares is first second) =
    let one = undefined first in
    let two = undefined second in
    record { points = omega (arith, one.points, two.points); variables = omega (arith, one.variables, two.variables) }

pub tested : {g : Graph} {out : ℕ} {c : Cond} {s : Stage} {t f n k : ℕ} → Tests g out c s t f n k → IsCounted (testing c) (points_of s) (variables_of s) n k
tested (tests_plain {e = e} {ts = ts} first test) =
    let a = evaluated first in
    let b = compared test in
    let same : length ts ≡ operations e = omega (arith, a.temporaries) in
    let clear : clearing (length ts) ≡ clearing (operations e) = ap clearing same in
    record { points = omega (arith, a.points, b.points, clear); variables = omega (arith, a.variables, b.variables) }
tested (tests_compare {a = x} {b = y} {us = us} first second test) =
    let a = evaluated first in
    let b = evaluated second in
    let d = compared test in
    let same : length us ≡ operations x + operations y = omega (arith, a.temporaries, b.temporaries) in
    let clear : clearing (length us) ≡ clearing (operations x + operations y) = ap clearing same in
    record { points = omega (arith, a.points, b.points, d.points, clear); variables = omega (arith, a.variables, b.variables, d.variables) }
tested (tests_negation test) = tested test
tested (tests_both {a = a} {m = m} {j = j} first second) =
    let x = tested first in
    let y = tested second in
    record { points = omega (arith, x.points, y.points); variables = omega (arith, x.variables, y.variables) }
tested (tests_either {a = a} {m = m} {j = j} first second) =
    let x = tested first in
    let y = tested second in
    record { points = omega (arith, x.points, y.points); variables = omega (arith, x.variables, y.variables) }

pub tested_perhaps : {g : Graph} {out : ℕ} {c : Option Cond} {s : Stage} {t f n k : ℕ} → TestsPerhaps g out c s t f n k → IsCounted (testing_perhaps c) (points_of s) (variables_of s) n k
tested_perhaps tests_always = record { points = omega arith; variables = omega arith }
tested_perhaps (tests_once test) = tested test

-- ---- assignments
pub put : {g : Graph} {out : ℕ} {place : Place} {l : Left} {o : Operand} {ts : List VarId} {s u : Stage} → Puts g out place l o ts s u → Counts (putting (length l.fields) (length ts)) s u
put (puts_variable {ts = ts} made is undone) =
    let a = appended is in
    let b = undefined undone in
    let none : length ts ≡ length ts + 0 = omega arith in
    let clear : clearing (length ts) ≡ clearing (length ts + 0) = ap clearing none in
    record { points = omega (arith, a.points, b.points, clear); variables = omega (arith, a.variables, b.variables) }
put (puts_field {ts = ts} {us = us} made walk is undone) =
    let w = walked walk in
    let a = appended is in
    let b = undefined undone in
    let clear = ap clearing w.temporaries in
    record { points = omega (arith, w.points, a.points, b.points, clear); variables = omega (arith, w.variables, a.variables, b.variables) }

pub set : {g : Graph} {out : ℕ} {place : Place} {v : VarId} {right : Right} {s u : Stage} → (table : List ℕ) → SetsTo g out place v right s u → Counts (assigning table right 0) s u
set table (sets_operand {e = e} value is) =
    let x = evaluated value in
    let a = appended is in
    let none : operations e ≡ 0 = omega (arith, x.temporaries) in
    let one : setting (operations e) ≡ 1 = ap setting none in
    record { points = omega (arith, a.points, one); variables = a.variables }
set table (sets_computed {e = e} {ts = ts} value is undone) =
    let x = computed value in
    let a = appended is in
    let b = undefined undone in
    let some : operations e ≡ suc (length ts) = omega (arith, x.temporaries) in
    let more : setting (operations e) ≡ suc (length ts + clearing (length ts)) = ap setting some in
    record { points = omega (arith, x.points, a.points, b.points, some, more); variables = omega (arith, x.variables, a.variables, b.variables) }
set table (sets_allocated count is) = appended is

pub assigned : {g : Graph} {out : ℕ} {place : Place} {l : Left} {right : Right} {s u : Stage} → (table : List ℕ) → Assigns g out place l right s u → Counts (assigning table right (length l.fields)) s u
assigned table (assigns_variable made sets) = set table sets
assigned table (assigns_field {f = f} {fs = fs} {e = e} {ts = ts} value puts) =
    let x = evaluated value in
    let y = put puts in
    let same : length ts ≡ operations e = omega (arith, x.temporaries) in
    let as_many : putting (suc (length fs)) (length ts) ≡ putting (suc (length fs)) (operations e) = ap (putting (suc (length fs))) same in
    record { points = omega (arith, x.points, y.points, as_many); variables = omega (arith, x.variables, y.variables) }
assigned table (assigns_allocated count uses is puts) =
    let x = used uses in
    let a = appended is in
    let y = put puts in
    record { points = omega (arith, x.points, a.points, y.points); variables = omega (arith, x.variables, a.variables, y.variables) }

pub changed : {g : Graph} {out : ℕ} {place : Place} {operation : Operand → Operand → Operation} {l : Left} {e : Expr} {s u : Stage} → Changes g out place operation l e s u
    → Counts (changing (length l.fields) (operations e)) s u
changed (changes_variable {e = e} {ts = ts} value made is undone) =
    let x = evaluated value in
    let a = appended is in
    let b = undefined undone in
    let same : length ts ≡ operations e = omega (arith, x.temporaries) in
    let clear : clearing (length ts) ≡ clearing (operations e) = ap clearing same in
    record { points = omega (arith, x.points, a.points, b.points, clear); variables = omega (arith, x.variables, a.variables, b.variables) }
changed (changes_field {fs = fs} {e = e} {rs = rs} value made walk kind loads computes is undone) =
    let x = evaluated value in
    let w = walked walk in
    let y = taken loads in
    let z = taken computes in
    let a = appended is in
    let b = undefined undone in
    let same : length rs ≡ operations e + length fs + 2 = omega (arith, x.temporaries, w.temporaries, y.temporaries, z.temporaries) in
    let clear : clearing (length rs) ≡ clearing (operations e + length fs + 2) = ap clearing same in
    record {
      points = omega (arith, x.points, w.points, y.points, z.points, a.points, b.points, clear);
      variables = omega (arith, x.variables, w.variables, y.variables, z.variables, a.variables, b.variables);
    }

-- ---- parts of calls
pub received : {g : Graph} {f : Function} {out x parameters : ℕ} {s u : Stage} {vs : List VarId} → Receives g f out x parameters s vs u → Counts 0 s u
received receives_none = record { points = omega arith; variables = omega arith }
received (receives is makes rest) =
    let a = created makes in
    let b = received rest in
    record { points = omega (arith, a.points, b.points); variables = omega (arith, a.variables, b.variables) }

pub passed : {g : Graph} {place : Place} {vs : List VarId} {os : List Operand} {s u : Stage} → Passes g place vs os s u → Counts (length os) s u
passed passes_none = record { points = omega arith; variables = omega arith }
passed (passes is rest) =
    let a = appended is in
    let b = passed rest in
    record { points = omega (arith, a.points, b.points); variables = omega (arith, a.variables, b.variables) }

pub awaited : {g : Graph} {out : ℕ} {place : Place} {kind : Option Kind} {s u : Stage} {v : Option VarId} → Awaits g out place kind s v u → Counts (awaiting kind) s u
awaited awaits_none = record { points = omega arith; variables = omega arith }
awaited (awaits makes is) =
    let a = created makes in
    let b = appended is in
    record { points = omega (arith, a.points, b.points); variables = omega (arith, a.variables, b.variables) }
