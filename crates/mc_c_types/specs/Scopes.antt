-- Which variables are visible where.
use Rattle.std.specs.Prelude.{ℕ, List, [], ◌∷◌, ◌++◌}
use Rattle.mc_c_syntax.specs.declared.ast.trees.Base.{Base}
use Rattle.mc_c_syntax.specs.Ast.Trees.{InitialTree, DeclarationTree, SimpleTree, Start, nothing, declares, performs, Head}
use Rattle.mc_c_syntax.specs.Ast.Trees.{Stmt, declaration, block, empty, simple, free, assert, assume, assume_shape}
use Rattle.mc_c_syntax.specs.Ast.Trees.{assert_shape, assert_empty, if_only, if_else, while_loop, do_loop, for_loop}
use Rattle.mc_c_syntax.specs.Ast.Trees.{break_loop, continue_loop, returns}
use Rattle.mc_c_types.specs.Tables.{Tables, Variable, variable_of}

-- the variables of the heads of `for` around, of this block so far, and of what is around the block; inner and later ones first
pub record Scope : Type 0 where
  pub heads : List Variable
  pub own : List Variable
  pub outer : List Variable

-- all that are visible; the first of a name hides the others
abbrev pub visible : Scope → List Variable
visible s = s.heads ++ s.own ++ s.outer

-- a new block, or the head of a `for`
abbrev pub inside : Scope → Scope
inside s = record { heads = []; own = []; outer = visible s }

-- after a declarator
abbrev pub declare : Scope → Variable → Scope
declare s v = record { heads = s.heads; own = v ∷ s.own; outer = s.outer }

-- after a declaration
abbrev pub behind_items : Tables → Base → Scope → List InitialTree → Scope
behind_items t base s [] = s
behind_items t base s (item ∷ items) = behind_items t base (declare s (variable_of t base item.declarator)) items

abbrev pub behind_declaration : Tables → Scope → DeclarationTree → Scope
behind_declaration t s d = behind_items t d.base s d.items

-- what a `for` begins with is visible up to its end, and its variables belong to no block
abbrev pub behind_start : Tables → Scope → Start → Scope
behind_start t s nothing = s
behind_start t s (declares d) = record { heads = (behind_declaration t (inside s) d).own ++ s.heads; own = s.own; outer = s.outer }
behind_start t s (performs x) = s

-- after a statement: a declaration that stands without braces belongs to the block around
abbrev pub behind : Tables → Scope → Stmt → Scope
behind t s (declaration d) = behind_declaration t s d
behind t s (block p ss) = s
behind t s (empty p) = s
behind t s (simple x) = s
behind t s (free p e) = s
behind t s (assert p c) = s
behind t s (assume p c) = s
behind t s (assume_shape p predicate x args) = s
behind t s (assert_shape p predicate a args) = s
behind t s (assert_empty p) = s
behind t s (if_only p c a) = behind t s a
behind t s (if_else p c a b) = behind t (behind t s a) b
behind t s (while_loop p c a) = behind t s a
behind t s (do_loop p a c) = behind t s a
behind t s (for_loop h a) = record { heads = s.heads; own = (behind t (behind_start t s h.start) a).own; outer = s.outer }
behind t s (break_loop p) = s
behind t s (continue_loop p) = s
behind t s (returns p r) = s
