-- The faults of a body are those of its parts.
use Rattle.std.proofs.Common.{◌≡◌, Bool, true, false, List, [], ◌∷◌, ◌++◌, flat_map, refl, Option, Some, None}
use Rattle.mc_c_syntax.specs.declared.ast.trees.Base.{Base}
use Rattle.mc_c_syntax.specs.Ast.Trees.{Cond, InitialTree, SimpleTree, Start, nothing, declares, performs, Stmt, declaration, block, empty, simple, free, assert, assume, assume_shape, assert_shape, assert_empty, if_only, if_else, while_loop, do_loop, for_loop, break_loop, continue_loop, returns, Stmts, no_more, then, stmts_of, BodyTree, FunctionTree}
use Rattle.mc_c_types.specs.Faults.{body_faults, head_faults, items_faults, maybe_condition_faults, maybe_simple_faults, start_faults, statement_faults, statements_faults}
use Rattle.mc_c_types.specs.Scopes.{Scope, inside, declare, behind, behind_start, visible}
use Rattle.mc_c_types.specs.Tables.{Tables, returned_type, variable_of}
use Rattle.mc_c_types.specs.declared.types.VariableType.{VariableType}
use Rattle.mc_c_walk.specs.Visits.{declared, valued, performed, freed, tested, assumed, asserted, loop_exit, returning, visit, items_visits, start_visits, maybe_tested, maybe_performed, statement_visits, statements_visits, start_scope, body_visits}
use Rattle.mc_c_walk.specs.Gives.{visit_faults, GivesFaults}
use Rattle.mc_c_walk.proofs.Lists.{alone, behind_one, behind_two, before_one, joined, one_and_two}

items_given : (t : Tables) (r : Option VariableType) (base : Base) (s : Scope) (items : List InitialTree)
    → items_faults t base s items ≡ flat_map (visit_faults t r) (items_visits t base s items)
items_given t r base s [] = refl
items_given t r base s (item ∷ items) =
    behind_two (visit_faults t r) (visit s (declared base item.declarator)) (visit (declare s (variable_of t base item.declarator)) (valued base item.declarator item.value)) (items_visits t base (declare s (variable_of t base item.declarator)) items) (items_faults t base (declare s (variable_of t base item.declarator)) items) (items_given t r base (declare s (variable_of t base item.declarator)) items)

start_given : (t : Tables) (r : Option VariableType) (s : Scope) (start : Start) → start_faults t s start ≡ flat_map (visit_faults t r) (start_visits t s start)
start_given t r s nothing = refl
start_given t r s (declares d) = items_given t r d.base (inside s) d.items
start_given t r s (performs x) = alone (visit_faults t r) (visit s (performed x))

condition_given : (t : Tables) (r : Option VariableType) (s : Scope) (c : Option Cond) → maybe_condition_faults t (visible s) c ≡ flat_map (visit_faults t r) (maybe_tested s c)
condition_given t r s None = refl
condition_given t r s (Some c) = alone (visit_faults t r) (visit s (tested c))

last_given : (t : Tables) (r : Option VariableType) (s : Scope) (x : Option SimpleTree) → maybe_simple_faults t (visible s) x ≡ flat_map (visit_faults t r) (maybe_performed s x)
last_given t r s None = refl
last_given t r s (Some x) = alone (visit_faults t r) (visit s (performed x))

mutual
  statement_given : (t : Tables) (r : Option VariableType) (l : Bool) (s : Scope) (a : Stmt)
      → statement_faults (record { tables = t; result = r; in_loop = l }) s a ≡ flat_map (visit_faults t r) (statement_visits t l s a)
  statement_given t r l s (declaration d) = items_given t r d.base s d.items
  statement_given t r l s (block p ss) = statements_given t r l (inside s) ss
  statement_given t r l s (empty p) = refl
  statement_given t r l s (simple x) = alone (visit_faults t r) (visit s (performed x))
  statement_given t r l s (free p e) = alone (visit_faults t r) (visit s (freed e))
  statement_given t r l s (assert p c) = alone (visit_faults t r) (visit s (tested c))
  statement_given t r l s (assume p c) = alone (visit_faults t r) (visit s (tested c))
  statement_given t r l s (assume_shape p predicate x args) = alone (visit_faults t r) (visit s (assumed p predicate x args))
  statement_given t r l s (assert_shape p predicate a args) = alone (visit_faults t r) (visit s (asserted p predicate a args))
  statement_given t r l s (assert_empty p) = refl
  statement_given t r l s (if_only p c a) =
      behind_one (visit_faults t r) (visit s (tested c)) (statement_visits t l s a) (statement_faults (record { tables = t; result = r; in_loop = l }) s a) (statement_given t r l s a)
  statement_given t r l s (if_else p c a b) =
      one_and_two (visit_faults t r) (visit s (tested c)) (statement_visits t l s a) (statement_visits t l (behind t s a) b) (statement_faults (record { tables = t; result = r; in_loop = l }) s a) (statement_faults (record { tables = t; result = r; in_loop = l }) (behind t s a) b) (statement_given t r l s a) (statement_given t r l (behind t s a) b)
  statement_given t r l s (while_loop p c a) =
      behind_one (visit_faults t r) (visit s (tested c)) (statement_visits t true s a) (statement_faults (record { tables = t; result = r; in_loop = true }) s a) (statement_given t r true s a)
  statement_given t r l s (do_loop p a c) =
      before_one (visit_faults t r) (visit (behind t s a) (tested c)) (statement_visits t true s a) (statement_faults (record { tables = t; result = r; in_loop = true }) s a) (statement_given t r true s a)
  statement_given t r l s (for_loop h a) =
      joined (visit_faults t r) (start_visits t s h.start ++ maybe_tested (behind_start t s h.start) h.condition ++ maybe_performed (behind_start t s h.start) h.last) (statement_visits t true (behind_start t s h.start) a) (head_faults t s h) (statement_faults (record { tables = t; result = r; in_loop = true }) (behind_start t s h.start) a) (joined (visit_faults t r) (start_visits t s h.start ++ maybe_tested (behind_start t s h.start) h.condition) (maybe_performed (behind_start t s h.start) h.last) (start_faults t s h.start ++ maybe_condition_faults t (visible (behind_start t s h.start)) h.condition) (maybe_simple_faults t (visible (behind_start t s h.start)) h.last) (joined (visit_faults t r) (start_visits t s h.start) (maybe_tested (behind_start t s h.start) h.condition) (start_faults t s h.start) (maybe_condition_faults t (visible (behind_start t s h.start)) h.condition) (start_given t r s h.start) (condition_given t r (behind_start t s h.start) h.condition)) (last_given t r (behind_start t s h.start) h.last)) (statement_given t r true (behind_start t s h.start) a)
  statement_given t r l s (break_loop p) = alone (visit_faults t r) (visit s (loop_exit p l))
  statement_given t r l s (continue_loop p) = alone (visit_faults t r) (visit s (loop_exit p l))
  statement_given t r l s (returns p value) = alone (visit_faults t r) (visit s (returning p value))

  statements_given : (t : Tables) (r : Option VariableType) (l : Bool) (s : Scope) (ss : Stmts)
      → statements_faults (record { tables = t; result = r; in_loop = l }) s ss ≡ flat_map (visit_faults t r) (statements_visits t l s ss)
  statements_given t r l s no_more = refl
  statements_given t r l s (then a rest) =
      joined (visit_faults t r) (statement_visits t l s a) (statements_visits t l (behind t s a) rest) (statement_faults (record { tables = t; result = r; in_loop = l }) s a) (statements_faults (record { tables = t; result = r; in_loop = l }) (behind t s a) rest) (statement_given t r l s a) (statements_given t r l (behind t s a) rest)

body_given : (t : Tables) (f : FunctionTree) (body : Option BodyTree) → body_faults t f body ≡ flat_map (visit_faults t (returned_type t f.returned)) (body_visits t f body)
body_given t f None = refl
body_given t f (Some body) = statements_given t (returned_type t f.returned) false (start_scope t f) (stmts_of body.statements)

pub faults_given : (t : Tables) (f : FunctionTree) → GivesFaults t f
faults_given t f = body_given t f f.body
