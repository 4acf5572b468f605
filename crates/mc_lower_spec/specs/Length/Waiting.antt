-- What is still to be counted.
use Rattle.std.specs.Prelude.{◌+◌, ◌++◌, ℕ, List, [], ◌∷◌, map, ⊤}
use Rattle.mc_semantics.specs.Resolved.Programs.{Stmt, declaration, block, empty, simple, free, assert, assume, assume_shape, assert_shape, assert_empty, if_only, if_else, while_loop, do_loop, for_loop, break_loop, continue_loop, returns}
use Rattle.mc_semantics.specs.Resolved.Views.{condition_of, expression_of, statement_of, stmts_of}
use Rattle.mc_lower_spec.specs.declared.length.statements.Counter.{Counter}
use Rattle.mc_lower_spec.specs.declared.length.statements.Waiting.{Waiting}
use Rattle.mc_lower_spec.specs.declared.length.values.Part.{Part}
use Rattle.mc_lower_spec.specs.declared.length.values.Tested.{Tested}
use Rattle.mc_lower_spec.specs.Length.Lengths.{operations, testing, leaving, declared, all_declared, stretch, stretch_all}

abbrev pub parts_left : List Part → ℕ
parts_left [] = 0
parts_left (p ∷ more) = operations (expression_of p.whole.now) + parts_left more

abbrev pub tests_left : List Tested → ℕ
tests_left [] = 0
tests_left (t ∷ more) = testing (condition_of t.whole.now) + tests_left more

-- what is left, where these variables are made by now, inside blocks with these variables
abbrev pub left : (table made blocks : List ℕ) → List Waiting → ℕ
left table made blocks [] = 0
left table made blocks (Waiting.Statements ss ∷ more) =
    stretch_all table made blocks (stmts_of (map statement_of ss.now))
    + left table (made ++ all_declared (stmts_of (map statement_of ss.now))) blocks more
left table made blocks (Waiting.Statement a ∷ more) =
    stretch table made blocks (statement_of a.now) + left table (made ++ declared (statement_of a.now)) blocks more
left table made blocks (Waiting.Loop xs a ∷ more) =
    stretch table made [] (statement_of a.now) + leaving xs.now (made ++ declared (statement_of a.now))
    + left table (made ++ declared (statement_of a.now)) blocks more
left table made blocks (Waiting.End xs outer ∷ more) = leaving xs.now made + left table made outer.items more

-- what has been counted, and what is left
abbrev pub total : Counter → List Waiting → ℕ
total c tasks = c.points + left c.table.now c.made.items c.blocks.items tasks

-- a statement that declares nothing and has none inside
abbrev pub IsSingle : Stmt → Type 0
IsSingle (declaration place items) = ⊥
IsSingle (block xs ss) = ⊥
IsSingle empty = ⊥
IsSingle (simple x) = ⊤
IsSingle (free place e) = ⊤
IsSingle (assert place c) = ⊤
IsSingle (assume place c) = ⊤
IsSingle (assume_shape place predicate x args) = ⊤
IsSingle (assert_shape place predicate a args) = ⊤
IsSingle (assert_empty place) = ⊤
IsSingle (if_only place c a) = ⊥
IsSingle (if_else place c a b) = ⊥
IsSingle (while_loop place c a) = ⊥
IsSingle (do_loop place a c) = ⊥
IsSingle (for_loop h a) = ⊥
IsSingle (break_loop place) = ⊤
IsSingle (continue_loop place) = ⊤
IsSingle (returns place right) = ⊤

-- a statement with others inside
abbrev pub IsOuter : Stmt → Type 0
IsOuter (declaration place items) = ⊥
IsOuter (block xs ss) = ⊤
IsOuter empty = ⊥
IsOuter (simple x) = ⊥
IsOuter (free place e) = ⊥
IsOuter (assert place c) = ⊥
IsOuter (assume place c) = ⊥
IsOuter (assume_shape place predicate x args) = ⊥
IsOuter (assert_shape place predicate a args) = ⊥
IsOuter (assert_empty place) = ⊥
IsOuter (if_only place c a) = ⊤
IsOuter (if_else place c a b) = ⊤
IsOuter (while_loop place c a) = ⊤
IsOuter (do_loop place a c) = ⊤
IsOuter (for_loop h a) = ⊤
IsOuter (break_loop place) = ⊥
IsOuter (continue_loop place) = ⊥
IsOuter (returns place right) = ⊥
