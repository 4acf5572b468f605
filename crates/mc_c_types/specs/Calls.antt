-- Which functions call which.
use Rattle.std.specs.Prelude.{ℕ, List, [], ◌∷◌, ◌++◌, Option, Some, None, Contains, map, flat_map}
use Rattle.mc_c_syntax.specs.declared.ast.trees.Name.{Name}
use Rattle.mc_c_syntax.specs.Ast.Trees.{CallTree, Right, expression, result_of, allocation, InitialTree, DeclarationTree}
use Rattle.mc_c_syntax.specs.Ast.Trees.{SimpleTree, assign, add, subtract, increment, decrement, increment_first}
use Rattle.mc_c_syntax.specs.Ast.Trees.{decrement_first, call, Start, nothing, declares, performs, Head, Stmt, declaration}
use Rattle.mc_c_syntax.specs.Ast.Trees.{block, empty, simple, free, assert, assume, assume_shape, assert_shape, assert_empty}
use Rattle.mc_c_syntax.specs.Ast.Trees.{if_only, if_else, while_loop, do_loop, for_loop, break_loop, continue_loop, returns}
use Rattle.mc_c_syntax.specs.Ast.Trees.{Stmts, no_more, then, stmts_of, BodyTree, FunctionTree, ItemTree, structure, typedef}
use Rattle.mc_c_syntax.specs.Ast.Trees.{function, UnitTree}

-- the names that are called
abbrev pub right_calls : Right → List Name
right_calls (expression e) = []
right_calls (result_of c) = c.function ∷ []
right_calls (allocation m) = []

abbrev pub maybe_right_calls : Option Right → List Name
maybe_right_calls None = []
maybe_right_calls (Some r) = right_calls r

abbrev pub declaration_calls : DeclarationTree → List Name
declaration_calls d = flat_map (λ item. maybe_right_calls item.value) d.items

abbrev pub simple_calls : SimpleTree → List Name
simple_calls (assign l r) = right_calls r
simple_calls (add l e) = []
simple_calls (subtract l e) = []
simple_calls (increment l) = []
simple_calls (decrement l) = []
simple_calls (increment_first p l) = []
simple_calls (decrement_first p l) = []
simple_calls (call c) = c.function ∷ []

abbrev pub start_calls : Start → List Name
start_calls nothing = []
start_calls (declares d) = declaration_calls d
start_calls (performs x) = simple_calls x

abbrev pub maybe_simple_calls : Option SimpleTree → List Name
maybe_simple_calls None = []
maybe_simple_calls (Some x) = simple_calls x

abbrev mutual
  pub statement_calls : Stmt → List Name
  statement_calls (declaration d) = declaration_calls d
  statement_calls (block p ss) = statements_calls ss
  statement_calls (empty p) = []
  statement_calls (simple x) = simple_calls x
  statement_calls (free p e) = []
  statement_calls (assert p d) = []
  statement_calls (assume p d) = []
  statement_calls (assume_shape p predicate x args) = []
  statement_calls (assert_shape p predicate a args) = []
  statement_calls (assert_empty p) = []
  statement_calls (if_only p d a) = statement_calls a
  statement_calls (if_else p d a b) = statement_calls a ++ statement_calls b
  statement_calls (while_loop p d a) = statement_calls a
  statement_calls (do_loop p a d) = statement_calls a
  statement_calls (for_loop h a) = start_calls h.start ++ maybe_simple_calls h.last ++ statement_calls a
  statement_calls (break_loop p) = []
  statement_calls (continue_loop p) = []
  statement_calls (returns p r) = maybe_right_calls r

  pub statements_calls : Stmts → List Name
  statements_calls no_more = []
  statements_calls (then a rest) = statement_calls a ++ statements_calls rest

-- a call of a function that stands in another, or in the same
pub record CallSite : Type 0 where
  pub caller : List ℕ
  pub callee : Name

abbrev pub body_sites : List ℕ → Option BodyTree → List CallSite
body_sites caller None = []
body_sites caller (Some body) = map (λ name. record { caller = caller; callee = name }) (statements_calls (stmts_of body.statements))

abbrev pub item_sites : ItemTree → List CallSite
item_sites (structure s) = []
item_sites (typedef t) = []
item_sites (function f) = body_sites f.name.text f.body

-- all calls of a program
abbrev pub call_sites : UnitTree → List CallSite
call_sites unit = flat_map item_sites unit

-- a function reaches itself, and what a function reaches that it calls
pub data Reaches (sites : List CallSite) : List ℕ → List ℕ → Type 0 where
  itself : {f : List ℕ} → Reaches sites f f
  through : {f : List ℕ} (site : CallSite) → Contains sites site → Reaches sites site.callee.text f → Reaches sites site.caller f
