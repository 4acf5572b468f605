-- The calls of a body are those of its parts.
use Rattle.std.proofs.Common.{◌≡◌, ℕ, Bool, true, false, List, [], ◌∷◌, ◌++◌, map, flat_map, refl, ap, sym, ◌∙◌, Option, Some, None}
use Rattle.std.proofs.lemmas.List.{append-nil}
use Rattle.mc_c_syntax.specs.declared.ast.trees.Name.{Name}
use Rattle.mc_c_syntax.specs.declared.ast.trees.Base.{Base}
use Rattle.mc_c_syntax.specs.Ast.Trees.{Cond, Head, InitialTree, SimpleTree, Start, nothing, declares, performs, Stmt, declaration, block, empty, simple, free, assert, assume, assume_shape, assert_shape, assert_empty, if_only, if_else, while_loop, do_loop, for_loop, break_loop, continue_loop, returns, Stmts, no_more, then, stmts_of, BodyTree, FunctionTree}
use Rattle.mc_c_types.specs.Calls.{body_sites, maybe_right_calls, maybe_simple_calls, start_calls, statement_calls, statements_calls}
use Rattle.mc_c_types.specs.Scopes.{Scope, inside, declare, behind, behind_start}
use Rattle.mc_c_types.specs.Tables.{Tables, variable_of}
use Rattle.mc_c_walk.specs.Visits.{performed, tested, returning, visit, items_visits, start_visits, maybe_tested, maybe_performed, head_visits, statement_visits, statements_visits, start_scope, body_visits}
use Rattle.mc_c_walk.specs.Gives.{visit_calls, site_in, GivesCalls}
use Rattle.mc_c_walk.proofs.Lists.{alone, before_one, joined}

items_given : (t : Tables) (base : Base) (s : Scope) (items : List InitialTree) → flat_map (λ item. maybe_right_calls item.value) items ≡ flat_map visit_calls (items_visits t base s items)
items_given t base s [] = refl
items_given t base s (item ∷ items) = ap (λ names. maybe_right_calls item.value ++ names) (items_given t base (declare s (variable_of t base item.declarator)) items)

start_given : (t : Tables) (s : Scope) (start : Start) → start_calls start ≡ flat_map visit_calls (start_visits t s start)
start_given t s nothing = refl
start_given t s (declares d) = items_given t d.base (inside s) d.items
start_given t s (performs x) = alone visit_calls (visit s (performed x))

condition_calls : (s : Scope) (c : Option Cond) → [] ≡ flat_map visit_calls (maybe_tested s c)
condition_calls s None = refl
condition_calls s (Some c) = refl

last_given : (s : Scope) (x : Option SimpleTree) → maybe_simple_calls x ≡ flat_map visit_calls (maybe_performed s x)
last_given s None = refl
last_given s (Some x) = alone visit_calls (visit s (performed x))

head_given : (t : Tables) (s : Scope) (h : Head) → start_calls h.start ++ maybe_simple_calls h.last ≡ flat_map visit_calls (head_visits t s h)
head_given t s h =
    joined visit_calls (start_visits t s h.start ++ maybe_tested (behind_start t s h.start) h.condition) (maybe_performed (behind_start t s h.start) h.last) (start_calls h.start) (maybe_simple_calls h.last) (sym (append-nil (start_calls h.start)) ∙ joined visit_calls (start_visits t s h.start) (maybe_tested (behind_start t s h.start) h.condition) (start_calls h.start) [] (start_given t s h.start) (condition_calls (behind_start t s h.start) h.condition)) (last_given (behind_start t s h.start) h.last)

mutual
  statement_given : (t : Tables) (l : Bool) (s : Scope) (a : Stmt) → statement_calls a ≡ flat_map visit_calls (statement_visits t l s a)
  statement_given t l s (declaration d) = items_given t d.base s d.items
  statement_given t l s (block p ss) = statements_given t l (inside s) ss
  statement_given t l s (empty p) = refl
  statement_given t l s (simple x) = alone visit_calls (visit s (performed x))
  statement_given t l s (free p e) = refl
  statement_given t l s (assert p c) = refl
  statement_given t l s (assume p c) = refl
  statement_given t l s (assume_shape p predicate x args) = refl
  statement_given t l s (assert_shape p predicate a args) = refl
  statement_given t l s (assert_empty p) = refl
  statement_given t l s (if_only p c a) = statement_given t l s a
  statement_given t l s (if_else p c a b) =
      joined visit_calls (statement_visits t l s a) (statement_visits t l (behind t s a) b) (statement_calls a) (statement_calls b) (statement_given t l s a) (statement_given t l (behind t s a) b)
  statement_given t l s (while_loop p c a) = statement_given t true s a
  statement_given t l s (do_loop p a c) =
      sym (append-nil (statement_calls a)) ∙ before_one visit_calls (visit (behind t s a) (tested c)) (statement_visits t true s a) (statement_calls a) (statement_given t true s a)
  statement_given t l s (for_loop h a) =
      joined visit_calls (head_visits t s h) (statement_visits t true (behind_start t s h.start) a) (start_calls h.start ++ maybe_simple_calls h.last) (statement_calls a) (head_given t s h) (statement_given t true (behind_start t s h.start) a)
  statement_given t l s (break_loop p) = refl
  statement_given t l s (continue_loop p) = refl
  statement_given t l s (returns p value) = alone visit_calls (visit s (returning p value))

  statements_given : (t : Tables) (l : Bool) (s : Scope) (ss : Stmts) → statements_calls ss ≡ flat_map visit_calls (statements_visits t l s ss)
  statements_given t l s no_more = refl
  statements_given t l s (then a rest) =
      joined visit_calls (statement_visits t l s a) (statements_visits t l (behind t s a) rest) (statement_calls a) (statements_calls rest) (statement_given t l s a) (statements_given t l (behind t s a) rest)

body_given : (t : Tables) (f : FunctionTree) (caller : List ℕ) (body : Option BodyTree) → body_sites caller body ≡ map (site_in caller) (flat_map visit_calls (body_visits t f body))
body_given t f caller None = refl
body_given t f caller (Some body) = ap (λ (names : List Name). map (site_in caller) names) (statements_given t false (start_scope t f) (stmts_of body.statements))

pub calls_given : (t : Tables) (f : FunctionTree) → GivesCalls t f
calls_given t f = body_given t f f.name.text f.body
