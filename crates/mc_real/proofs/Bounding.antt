-- In a program whose flow graph has no loops, what is left to do takes two steps at most for each of its points.
use Rattle.std.proofs.Common.{◌<◌, ◌≤◌, ◌+◌, ◌*◌, ◌≡◌, ℕ, suc, List, [], Option, Some, None, length, refl, sym, ap, ◌∙◌, arith}
use Rattle.std.specs.Prelude.{Contains, slice_get}
use Rattle.std.proofs.lemmas.Option.{none-some}
use Rattle.mc_base.specs.declared.ids.PointId.{PointId}
use Rattle.mc_base.specs.declared.ids.VarId.{VarId}
use Rattle.mc_base.specs.declared.plain.Kind.{Kind}
use Rattle.mc_base.specs.declared.text.place.Place.{Place}
use Rattle.mc_c_syntax.specs.declared.ast.trees.Comparison.{Comparison}
use Rattle.mc_flow.specs.declared.instr.Instr.{Instr}
use Rattle.mc_flow.specs.declared.instr.Operand.{Operand}
use Rattle.mc_semantics.specs.Resolved.Programs.{Left, Expr, Cond, Call, Right, Action, assign, Initial, Stmt, Stmts, Function}
use Rattle.mc_semantics.specs.Resolved.Steps.{start as begin}
use Rattle.mc_lower_spec.specs.Graphs.{Graph, Role, head, Stage, point, Appends, appends, creates}
use Rattle.mc_lower_spec.specs.Values.{Operation, Takes, takes, Tests, tests_plain, tests_compare, tests_negation, tests_both}
use Rattle.mc_lower_spec.specs.Values.{tests_either, Compares, Puts, puts_variable, puts_field}
use Rattle.mc_lower_spec.specs.Lowering.{Around, Loop, SetsTo, sets_operand, sets_computed, sets_allocated, Assigns}
use Rattle.mc_lower_spec.specs.Lowering.{assigns_variable, assigns_field, assigns_allocated, Changes, changes_variable}
use Rattle.mc_lower_spec.specs.Lowering.{changes_field}
use Rattle.mc_lower_spec.specs.Lowering.{Calls, calls, Performs, performs_assign, performs_result, performs_add}
use Rattle.mc_lower_spec.specs.Lowering.{performs_subtract, performs_call, Declares, declares_none, declares_undefined}
use Rattle.mc_lower_spec.specs.Lowering.{declares_value}
use Rattle.mc_lower_spec.specs.Lowering.{Lowers, declarations, blocks, empties, simples, frees, asserts, assumes, shapes_assumed}
use Rattle.mc_lower_spec.specs.Lowering.{shapes_asserted, emptiness_asserted, ifs, ifs_else, whiles, dos, fors, breaks, continues}
use Rattle.mc_lower_spec.specs.Lowering.{returns_nothing, returns_value, returns_result, LowersAll, lowers_none, lowers_next}
use Rattle.mc_lower_spec.specs.Lowering.{Answers, answers_none, answers, Falls, falls_in_main, falls, Makes, makes, IsLowering}
use Rattle.mc_lower_spec.specs.Lowering.{AreOfRole}
use Rattle.mc_real.specs.Near.{RunsAreShort}
use Rattle.mc_lower_spec.proofs.Stages.{points_of}
use Rattle.mc_lower_spec.proofs.Growing as grown
use Rattle.mc_lower_spec.proofs.LengthLemmas.Counting as counted
use Rattle.mc_real.proofs.Lasting as lasting
use Rattle.mc_real.proofs.Lasting.{atoms, CallLasts, RightLasts, ActionLasts, ItemsLast, Lasts, AllLast, expressions, allocations}
use Rattle.mc_real.proofs.Lasting.{results, entry_lasts, runs_last}

-- ---- parts of statements have points
appended : {g : Graph} {role : Role} {place : Place} {code : PointId → Instr} {s u : Stage} → Appends g role place code s u
    → points_of u ≡ suc (points_of s)
appended (appends is) = refl

compared : {g : Graph} {place : Place} {c : Comparison} {a b : Operand} {ts : List VarId} {s : Stage} {t f n k : ℕ}
    → Compares g place c a b ts s t f n k → points_of s < n
compared is = omega (arith, (counted.compared is).points)

-- each atomic condition has a point
tested : {g : Graph} {out : ℕ} {c : Cond} {s : Stage} {t f n k : ℕ} → Tests g out c s t f n k → atoms c + points_of s ≤ n
tested (tests_plain value test) = omega (arith, (counted.evaluated value).points, compared test)
tested (tests_compare first second test) =
    omega (arith, (counted.evaluated first).points, (counted.evaluated second).points, compared test)
tested (tests_negation test) = tested test
tested (tests_both first second) = omega (arith, tested first, tested second)
tested (tests_either first second) = omega (arith, tested first, tested second)

put : {g : Graph} {out : ℕ} {place : Place} {l : Left} {o : Operand} {ts : List VarId} {s u : Stage}
    → Puts g out place l o ts s u → points_of s < points_of u
put (puts_variable made is undone) = omega (arith, appended is, (counted.undefined undone).points)
put (puts_field made walk is undone) = omega (arith, (counted.walked walk).points, appended is, (counted.undefined undone).points)

taken : {g : Graph} {place : Place} {kind : Kind} {operation : Operation} {ts us : List VarId} {s u : Stage} {t : VarId}
    → Takes g place kind operation ts s t us u → points_of s ≤ points_of u
taken (takes uses is) = omega (arith, (counted.used uses).points, appended is)

changed : {g : Graph} {out : ℕ} {place : Place} {operation : Operand → Operand → Operation} {l : Left} {e : Expr} {s u : Stage}
    → Changes g out place operation l e s u → points_of s < points_of u
changed (changes_variable value made is undone) =
    omega (arith, (counted.evaluated value).points, appended is, (counted.undefined undone).points)
changed (changes_field value made walk kind loads computes is undone) =
    omega (
      arith,
      (counted.evaluated value).points,
      (counted.walked walk).points,
      taken loads,
      taken computes,
      appended is,
      (counted.undefined undone).points,
    )

-- ---- what a part of a program takes, between two stages
-- so many steps, of which there are two at most for each point
abbrev Within : (ℕ → Type 0) → (p n : ℕ) → Type 0
Within Takes p n = (k : ℕ) × (k + 2 * p ≤ 2 * n) × Takes k

set : {g : Graph} {fs : List Function} {out : ℕ} {place : Place} {v : VarId} {right : Right} {s u : Stage}
    → SetsTo g out place v right s u → Within (RightLasts fs right) (points_of s) (points_of u)
set (sets_operand value is) = (1, omega (arith, (counted.evaluated value).points, appended is), expressions (omega arith))
set (sets_computed {e = e} value is undone) =
    let some = (counted.computed value).points in
    let many = (counted.computed value).temporaries in
    (1, omega (arith, some, many, appended is, (counted.undefined undone).points), expressions (omega arith))
set (sets_allocated count is) = (1, omega (arith, appended is), allocations (omega arith))

assigned : {g : Graph} {fs : List Function} {out : ℕ} {place : Place} {l : Left} {right : Right} {s u : Stage}
    → Assigns g out place l right s u → Within (RightLasts fs right) (points_of s) (points_of u)
assigned (assigns_variable made sets) = set sets
assigned (assigns_field value puts) = (1, omega (arith, (counted.evaluated value).points, put puts), expressions (omega arith))
assigned (assigns_allocated count uses is puts) =
    (1, omega (arith, (counted.used uses).points, appended is, put puts), allocations (omega arith))

-- ---- statements
-- no point is the head of a loop
abbrev HasNoHeads : Graph → Type 0
HasNoHeads g = (n : ℕ) → slice_get g.roles n ≡ Some head → ⊥

no_head : {g : Graph} {place : Place} {code : PointId → Instr} {s u : Stage} → HasNoHeads g → Appends g head place code s u → ⊥
no_head none (appends {n = n} is) = none n is.is

no_loop : (o : Option Loop) (l : Loop) → o ≡ None → o ≡ Some l → ⊥
no_loop o l none some = none-some l (sym none ∙ some)

its_right : {fs : List Function} {l : Left} {right : Right} {n : ℕ} → ActionLasts fs (assign l right) n → RightLasts fs right n
its_right (lasting.assigns right) = right

mutual
  called : {g : Graph} {out : ℕ} {place : Place} {c : Call} {s u : Stage} {ret : Option VarId} → HasNoHeads g
      → Calls g out place c s ret u
      → Within (CallLasts g.program.functions c) (points_of s) (points_of u)
  called none (calls {f = f} is parameters arguments copies undone result body made ends) =
      let b = all_lowered none refl body in
      let start = (grown.received parameters).points in
      let values = (grown.all_evaluated arguments).points in
      let passed = (grown.passed copies).points in
      let gone = (grown.undefined undone).points in
      let wanted = (grown.awaited result).points in
      (2 + b.0, omega (arith, start, values, passed, gone, wanted, b.1, appended ends), lasting.calls is b.2 (omega arith))

  performed : {g : Graph} {out : ℕ} {place : Place} {action : Action} {s u : Stage} → HasNoHeads g
      → Performs g out place action s u
      → Within (ActionLasts g.program.functions action) (points_of s) (points_of u)
  performed none (performs_assign assigns) = let a = assigned assigns in (a.0, a.1, lasting.assigns a.2)
  performed none (performs_result inner puts undone) =
      let a = called none inner in
      (suc a.0, omega (arith, a.1, put puts, (grown.undefined undone).points), lasting.assigns (results a.2 (omega arith)))
  performed none (performs_add changes) = (1, omega (arith, changed changes), lasting.adds (omega arith))
  performed none (performs_subtract changes) = (1, omega (arith, changed changes), lasting.subtracts (omega arith))
  performed none (performs_call inner) = let a = called none inner in (a.0, a.1, lasting.calls_alone a.2)

  declared : {g : Graph} {f : Function} {out : ℕ} {place : Place} {items : List Initial} {s u : Stage} → HasNoHeads g
      → Declares g f out place items s u
      → Within (ItemsLast g.program.functions items) (points_of s) (points_of u)
  declared none declares_none = (0, omega arith, lasting.no_items)
  declared none (declares_undefined is own undone items) =
      let more = declared none items in (
        suc more.0,
        omega (arith, (counted.created own).points, appended undone, more.1),
        lasting.undefined_item more.2 (omega arith),
      )
  declared none (declares_value is own sets items) =
      let first = performed none sets in
      let more = declared none items in (
        first.0 + more.0,
        omega (arith, (counted.created own).points, first.1, more.1),
        lasting.item_with_value (its_right first.2) more.2 (omega arith),
      )

  lowered : {g : Graph} {c : Around} {a : Stmt} {s u : Stage} → HasNoHeads g → c.loop ≡ None → Lowers g c a s u
      → Within (Lasts g.program.functions a) (points_of s) (points_of u)
  lowered none outside (declarations items) = let x = declared none items in (x.0, x.1, lasting.declarations x.2)
  lowered none outside (blocks body leave) =
      let x = all_lowered none outside body in (x.0, omega (arith, x.1, (grown.left leave).points), lasting.blocks x.2)
  lowered none outside empties = (0, omega arith, lasting.empties)
  lowered none outside (simples performs) = let x = performed none performs in (x.0, x.1, lasting.simples x.2)
  lowered none outside (frees value is undone) = (
    1,
    omega (arith, (counted.evaluated value).points, appended is, (grown.undefined undone).points),
    lasting.frees (omega arith),
  )
  lowered none outside (asserts {d = d} truth fails) = (atoms d, omega (arith, tested truth), lasting.asserts (omega arith))
  lowered none outside (assumes {d = d} truth stops) = (atoms d, omega (arith, tested truth), lasting.assumes (omega arith))
  lowered none outside (shapes_assumed made arguments is) = (1, omega (arith, appended is), lasting.shapes_assumed (omega arith))
  lowered none outside (shapes_asserted first arguments is) =
      (1, omega (arith, appended is), lasting.shapes_asserted (omega arith))
  lowered none outside (emptiness_asserted is) = (1, omega (arith, appended is), lasting.emptiness_asserted (omega arith))
  lowered none outside (ifs {d = d} truth body joins) =
      let x = lowered none outside body in
      (atoms d + x.0, omega (arith, tested truth, x.1, appended joins), lasting.ifs x.2 (omega arith))
  lowered none outside (ifs_else {d = d} truth body other joins) =
      let x = lowered none outside body in
      let y = lowered none outside other in (
        atoms d + (x.0 + y.0),
        omega (arith, tested truth, x.1, y.1, appended joins),
        lasting.ifs_else x.2 y.2 (omega arith) (omega arith),
      )
  lowered none outside (whiles begins truth body ends) = absurd (no_head none begins)
  lowered none outside (dos begins body turns truth ends) = absurd (no_head none begins)
  lowered none outside (fors starts begins truth body turns last ends leave) = absurd (no_head none begins)
  lowered {c = c} none outside (breaks {l = l} is leave) = absurd (no_loop c.loop l outside is)
  lowered {c = c} none outside (continues {l = l} is leave) = absurd (no_loop c.loop l outside is)
  lowered none outside returns_nothing = (0, omega arith, lasting.returns_nothing)
  lowered none outside (returns_value made sets) = let x = set sets in (x.0, x.1, lasting.returns_value x.2)
  lowered none outside (returns_result made inner is undone) =
      let x = called none inner in (
        suc x.0,
        omega (arith, x.1, appended is, (grown.undefined undone).points),
        lasting.returns_value (results x.2 (omega arith)),
      )

  all_lowered : {g : Graph} {c : Around} {ss : Stmts} {s u : Stage} → HasNoHeads g → c.loop ≡ None → LowersAll g c ss s u
      → Within (AllLast g.program.functions ss) (points_of s) (points_of u)
  all_lowered none outside lowers_none = (0, omega arith, lasting.none_last)
  all_lowered none outside (lowers_next first rest) =
      let x = lowered none outside first in
      let y = all_lowered none outside rest in
      (x.0 + y.0, omega (arith, x.1, y.1), lasting.next_lasts x.2 y.2 (omega arith))

-- ---- programs
falls_grown : {g : Graph} {f : Function} {out : ℕ} {s u : Stage} → Falls g f out s u → points_of s ≤ points_of u
falls_grown (falls_in_main main made is) = omega (arith, appended is)
falls_grown (falls no_main) = omega arith

answered : {g : Graph} {out : ℕ} {kind : Option Kind} {s u : Stage} → Answers g out kind s u → points_of u ≡ points_of s
answered answers_none = refl
answered (answers (creates owned info)) = refl

made_lasts : {g : Graph} {f : Function} {out count : ℕ} → HasNoHeads g → Makes g f out count
    → Within (AllLast g.program.functions f.body) 1 out
made_lasts none (makes begins result body fall ends) =
    let x = all_lowered none refl body in (x.0, omega (arith, x.1, appended begins, answered result, falls_grown fall), x.2)

no_heads : (g : Graph) → AreOfRole g head g.flow.heads → g.flow.heads ≡ [] → HasNoHeads g
no_heads g heads none n is =
    let there : Contains g.flow.heads (point n) = heads.all n is in
    let less : there.0 < length g.flow.heads = there.1 in
    let empty : length g.flow.heads ≡ 0 = ap length none in
    omega (arith, less, empty)

pub runs_are_short : (g : Graph) (entry : Function) (out count : ℕ) → IsLowering g entry out count → g.flow.heads ≡ []
    → RunsAreShort g entry
runs_are_short g entry out count l none n choices final run =
    let x = made_lasts (no_heads g l.heads none) l.made in
    let bound : 2 + x.0 ≤ 2 * length g.flow.points = omega (arith, x.1, l.points) in
    runs_last g.program n (2 * length g.flow.points) (begin entry) choices final
    (entry_lasts entry (2 * length g.flow.points) x.2 bound) run
