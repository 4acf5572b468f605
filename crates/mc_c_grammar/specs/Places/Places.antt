-- Where a program declares its variables.
use Rattle.std.specs.Prelude.{◌≡◌, ◌<◌, ◌⊎◌, ℕ, List, length, slice_index_or, [], ◌++◌, Option, Some, None, map, flat_map, AllPairs}
use Rattle.mc_base.specs.declared.text.place.Place.{Place}
use Rattle.mc_c_syntax.specs.declared.ast.trees.Declarator.{Declarator}
use Rattle.mc_c_syntax.specs.Ast.Trees.{DeclarationTree, Start, nothing, declares, performs, Stmt, declaration, block, empty}
use Rattle.mc_c_syntax.specs.Ast.Trees.{simple, free, assert, assume, assume_shape, assert_shape, assert_empty, if_only}
use Rattle.mc_c_syntax.specs.Ast.Trees.{if_else, while_loop, do_loop, for_loop, break_loop, continue_loop, returns, Stmts}
use Rattle.mc_c_syntax.specs.Ast.Trees.{no_more, then, stmts_of, ParametersTree, unnamed, void, listed, BodyTree}
use Rattle.mc_c_syntax.specs.Ast.Trees.{FunctionTree, ItemTree, structure, typedef, function, UnitTree}

-- one place stands before another: in an earlier line, or in an earlier column of the same line
abbrev pub IsBefore : Place → Place → Type 0
IsBefore p q = (p.line < q.line) ⊎ ((p.line ≡ q.line) × (p.column < q.column))

-- of any two places of the list, the one that comes first stands before the other
abbrev pub AreAscending : List Place → Type 0
AreAscending places = AllPairs IsBefore places

-- equal places of the list stand at one position of it: at different positions they differ
abbrev pub AreDistinct : List Place → Type 0
AreDistinct places = (i j : ℕ) (d : Place) → i < length places → j < length places → slice_index_or places i d
    ≡ slice_index_or places j d → i ≡ j

-- the places of the names of the variables that are declared in a declaration, a statement, and so on up to a program, in the order of the text
abbrev pub declarator_place : Declarator → Place
declarator_place d = d.name.place

abbrev pub declaration_places : DeclarationTree → List Place
declaration_places d = map (λ item. declarator_place item.declarator) d.items

abbrev pub start_places : Start → List Place
start_places nothing = []
start_places (declares d) = declaration_places d
start_places (performs s) = []

abbrev mutual
  pub statement_places : Stmt → List Place
  statement_places (declaration d) = declaration_places d
  statement_places (block p ss) = statements_places ss
  statement_places (empty p) = []
  statement_places (simple s) = []
  statement_places (free p e) = []
  statement_places (assert p c) = []
  statement_places (assume p c) = []
  statement_places (assume_shape p predicate variable args) = []
  statement_places (assert_shape p predicate start args) = []
  statement_places (assert_empty p) = []
  statement_places (if_only p c s) = statement_places s
  statement_places (if_else p c s t) = statement_places s ++ statement_places t
  statement_places (while_loop p c s) = statement_places s
  statement_places (do_loop p s c) = statement_places s
  statement_places (for_loop h s) = start_places h.start ++ statement_places s
  statement_places (break_loop p) = []
  statement_places (continue_loop p) = []
  statement_places (returns p r) = []

  pub statements_places : Stmts → List Place
  statements_places no_more = []
  statements_places (then s ss) = statement_places s ++ statements_places ss

abbrev pub parameters_places : ParametersTree → List Place
parameters_places unnamed = []
parameters_places (void p) = []
parameters_places (listed ps) = map (λ p. declarator_place p.declarator) ps

abbrev pub body_places : Option BodyTree → List Place
body_places None = []
body_places (Some body) = statements_places (stmts_of body.statements)

abbrev pub function_places : FunctionTree → List Place
function_places f = parameters_places f.parameters ++ body_places f.body

abbrev pub item_places : ItemTree → List Place
item_places (structure s) = []
item_places (typedef t) = []
item_places (function f) = function_places f

abbrev pub declared_places : UnitTree → List Place
declared_places unit = flat_map item_places unit

-- the variables of a program are declared at different places, in the order of the text
abbrev pub HasDistinctPlaces : UnitTree → Type 0
HasDistinctPlaces unit = AreAscending (declared_places unit)
