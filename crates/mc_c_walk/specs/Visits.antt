-- The parts of a function's body in the order of its text, each with what is visible there.
use Rattle.std.specs.Prelude.{Bool, true, false, List, [], ◌∷◌, ◌++◌, Option, Some, None, reverse}
use Rattle.mc_base.specs.declared.text.place.Place.{Place}
use Rattle.mc_c_syntax.specs.declared.ast.trees.Name.{Name}
use Rattle.mc_c_syntax.specs.declared.ast.trees.Base.{Base}
use Rattle.mc_c_syntax.specs.declared.ast.trees.Declarator.{Declarator}
use Rattle.mc_c_syntax.specs.declared.ast.trees.Argument.{Argument}
use Rattle.mc_c_syntax.specs.Ast.Trees.{Expr, Cond, Right, InitialTree, SimpleTree, Start, nothing, declares, performs, Head}
use Rattle.mc_c_syntax.specs.Ast.Trees.{Stmt, declaration, block, empty, simple, free, assert, assume, assume_shape}
use Rattle.mc_c_syntax.specs.Ast.Trees.{assert_shape, assert_empty, if_only, if_else, while_loop, do_loop, for_loop}
use Rattle.mc_c_syntax.specs.Ast.Trees.{break_loop, continue_loop, returns, Stmts, no_more, then, stmts_of, BodyTree}
use Rattle.mc_c_syntax.specs.Ast.Trees.{FunctionTree}
use Rattle.mc_c_types.specs.Scopes.{Scope, inside, declare, behind, behind_start}
use Rattle.mc_c_types.specs.Tables.{Tables, parameters_of, variable_of}

-- a part of a statement
pub data PartTree : Type 0 where
  -- a declarator, seen before its variable is there; and its value, if it has one, seen after it
  declared : Base → Declarator → PartTree
  valued : Base → Declarator → Option Right → PartTree
  performed : SimpleTree → PartTree
  freed : Expr → PartTree
  -- the condition of an `assert`, an `assume`, an `if` or a loop
  tested : Cond → PartTree
  assumed : Place → (predicate variable : Name) → List Argument → PartTree
  asserted : Place → (predicate : Name) → Argument → List Argument → PartTree
  -- a `break` or a `continue`, and whether a loop is around it
  loop_exit : Place → Bool → PartTree
  returning : Place → Option Right → PartTree

-- a part where it stands
pub record Visit : Type 0 where
  pub scope : Scope
  pub part : PartTree

abbrev pub visit : Scope → PartTree → Visit
visit s part = record { scope = s; part = part }

-- a declarator is seen before its variable is there, its value after that
abbrev pub items_visits : Tables → Base → Scope → List InitialTree → List Visit
items_visits t base s [] = []
items_visits t base s (item ∷ items) =
    visit s (declared base item.declarator)
    ∷ visit (declare s (variable_of t base item.declarator)) (valued base item.declarator item.value)
    ∷ items_visits t base (declare s (variable_of t base item.declarator)) items

-- what a `for` begins with; its condition and its last part
abbrev pub start_visits : Tables → Scope → Start → List Visit
start_visits t s nothing = []
start_visits t s (declares d) = items_visits t d.base (inside s) d.items
start_visits t s (performs x) = visit s (performed x) ∷ []

abbrev pub maybe_tested : Scope → Option Cond → List Visit
maybe_tested s None = []
maybe_tested s (Some c) = visit s (tested c) ∷ []

abbrev pub maybe_performed : Scope → Option SimpleTree → List Visit
maybe_performed s None = []
maybe_performed s (Some x) = visit s (performed x) ∷ []

abbrev pub head_visits : Tables → Scope → Head → List Visit
head_visits t s h =
    start_visits t s h.start ++ maybe_tested (behind_start t s h.start) h.condition ++ maybe_performed (behind_start t s h.start) h.last

abbrev mutual
  -- the parts of a statement in a scope, perhaps in a loop
  pub statement_visits : Tables → Bool → Scope → Stmt → List Visit
  statement_visits t in_loop s (declaration d) = items_visits t d.base s d.items
  statement_visits t in_loop s (block p ss) = statements_visits t in_loop (inside s) ss
  statement_visits t in_loop s (empty p) = []
  statement_visits t in_loop s (simple x) = visit s (performed x) ∷ []
  statement_visits t in_loop s (free p e) = visit s (freed e) ∷ []
  statement_visits t in_loop s (assert p c) = visit s (tested c) ∷ []
  statement_visits t in_loop s (assume p c) = visit s (tested c) ∷ []
  statement_visits t in_loop s (assume_shape p predicate x args) = visit s (assumed p predicate x args) ∷ []
  statement_visits t in_loop s (assert_shape p predicate a args) = visit s (asserted p predicate a args) ∷ []
  statement_visits t in_loop s (assert_empty p) = []
  statement_visits t in_loop s (if_only p c a) = visit s (tested c) ∷ statement_visits t in_loop s a
  statement_visits t in_loop s (if_else p c a b) =
      visit s (tested c) ∷ (statement_visits t in_loop s a ++ statement_visits t in_loop (behind t s a) b)
  statement_visits t in_loop s (while_loop p c a) = visit s (tested c) ∷ statement_visits t true s a
  statement_visits t in_loop s (do_loop p a c) = statement_visits t true s a ++ visit (behind t s a) (tested c) ∷ []
  statement_visits t in_loop s (for_loop h a) = head_visits t s h ++ statement_visits t true (behind_start t s h.start) a
  statement_visits t in_loop s (break_loop p) = visit s (loop_exit p in_loop) ∷ []
  statement_visits t in_loop s (continue_loop p) = visit s (loop_exit p in_loop) ∷ []
  statement_visits t in_loop s (returns p value) = visit s (returning p value) ∷ []

  pub statements_visits : Tables → Bool → Scope → Stmts → List Visit
  statements_visits t in_loop s no_more = []
  statements_visits t in_loop s (then a rest) = statement_visits t in_loop s a ++ statements_visits t in_loop (behind t s a) rest

-- the parameters are in the block of the body
abbrev pub start_scope : Tables → FunctionTree → Scope
start_scope t f = record { heads = []; own = reverse (parameters_of t f); outer = [] }

abbrev pub body_visits : Tables → FunctionTree → Option BodyTree → List Visit
body_visits t f None = []
body_visits t f (Some body) = statements_visits t false (start_scope t f) (stmts_of body.statements)
