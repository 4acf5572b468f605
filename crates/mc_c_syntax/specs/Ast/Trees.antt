-- The trees of programs as plain data.
use Rattle.std.specs.Prelude.{ℕ, List, [], ◌∷◌, Option}
use Rattle.mc_base.specs.declared.text.place.Place.{Place}
use Rattle.mc_c_syntax.specs.declared.ast.trees.Name.{Name}
use Rattle.mc_c_syntax.specs.declared.ast.trees.Comparison.{Comparison}
use Rattle.mc_c_syntax.specs.declared.ast.trees.Base.{Base}
use Rattle.mc_c_syntax.specs.declared.ast.trees.Declarator.{Declarator}
use Rattle.mc_c_syntax.specs.declared.ast.trees.Malloc.{Malloc}
use Rattle.mc_c_syntax.specs.declared.ast.trees.Argument.{Argument}
use Rattle.mc_c_syntax.specs.declared.ast.trees.Returned.{Returned}
use Rattle.mc_c_syntax.specs.declared.ast.trees.Parameter.{Parameter}

-- a variable, and the fields after it
pub record Left : Type 0 where
  pub name : Name
  pub fields : List Name

-- an expression
pub data Expr : Type 0 where
  number : ℕ → Place → Expr
  null : Place → Expr
  input : Place → Expr
  value : Left → Expr
  minus : Place → Expr → Expr
  parens : Place → Expr → Expr
  times : Expr → Expr → Expr
  plus : Expr → Expr → Expr
  difference : Expr → Expr → Expr

-- a condition
pub data Cond : Type 0 where
  plain : Expr → Cond
  compare : Comparison → Expr → Expr → Cond
  negation : Place → Cond → Cond
  enclosed : Place → Cond → Cond
  both : Cond → Cond → Cond
  either : Cond → Cond → Cond

-- a call
pub record CallTree : Type 0 where
  pub function : Name
  pub arguments : List Expr

-- the right side of an assignment
pub data Right : Type 0 where
  expression : Expr → Right
  result_of : CallTree → Right
  allocation : Malloc → Right

-- a declarator, perhaps with its value
pub record InitialTree : Type 0 where
  pub declarator : Declarator
  pub value : Option Right

-- a declaration
pub record DeclarationTree : Type 0 where
  pub base : Base
  pub items : List InitialTree

-- a simple statement
pub data SimpleTree : Type 0 where
  assign : Left → Right → SimpleTree
  add : Left → Expr → SimpleTree
  subtract : Left → Expr → SimpleTree
  increment : Left → SimpleTree
  decrement : Left → SimpleTree
  increment_first : Place → Left → SimpleTree
  decrement_first : Place → Left → SimpleTree
  call : CallTree → SimpleTree

-- what a `for` begins with
pub data Start : Type 0 where
  nothing : Start
  declares : DeclarationTree → Start
  performs : SimpleTree → Start

-- what stands in the parentheses of a `for`
pub record Head : Type 0 where
  pub place : Place
  pub start : Start
  pub condition : Option Cond
  pub last : Option SimpleTree

mutual
  -- a statement
  pub data Stmt : Type 0 where
    declaration : DeclarationTree → Stmt
    block : Place → Stmts → Stmt
    empty : Place → Stmt
    simple : SimpleTree → Stmt
    free : Place → Expr → Stmt
    assert : Place → Cond → Stmt
    assume : Place → Cond → Stmt
    assume_shape : Place → (predicate variable : Name) → List Argument → Stmt
    assert_shape : Place → (predicate : Name) → Argument → List Argument → Stmt
    assert_empty : Place → Stmt
    if_only : Place → Cond → Stmt → Stmt
    if_else : Place → Cond → Stmt → Stmt → Stmt
    while_loop : Place → Cond → Stmt → Stmt
    do_loop : Place → Stmt → Cond → Stmt
    for_loop : Head → Stmt → Stmt
    break_loop : Place → Stmt
    continue_loop : Place → Stmt
    returns : Place → Option Right → Stmt

  -- statements in a row
  pub data Stmts : Type 0 where
    no_more : Stmts
    then : Stmt → Stmts → Stmts

-- the same as a list
abbrev pub stmts_of : List Stmt → Stmts
stmts_of [] = no_more
stmts_of (s ∷ ss) = then s (stmts_of ss)

-- fields of one base
pub record FieldTree : Type 0 where
  pub base : Base
  pub declarators : List Declarator

-- a struct
pub record StructTree : Type 0 where
  pub place : Place
  pub name : Name
  pub fields : List FieldTree

-- what a typedef gives names to
pub data AliasedTree : Type 0 where
  of_base : Base → AliasedTree
  of_struct : StructTree → AliasedTree

-- a typedef
pub record TypedefTree : Type 0 where
  pub place : Place
  pub aliased : AliasedTree
  pub declarators : List Declarator

-- the parameters of a function
pub data ParametersTree : Type 0 where
  unnamed : ParametersTree
  void : Place → ParametersTree
  listed : List Parameter → ParametersTree

-- the block of a function
pub record BodyTree : Type 0 where
  pub place : Place
  pub statements : List Stmt

-- a function, or its prototype
pub record FunctionTree : Type 0 where
  pub static_place : Option Place
  pub returned : Returned
  pub name : Name
  pub parameters : ParametersTree
  pub body : Option BodyTree

-- a struct, a typedef or a function
pub data ItemTree : Type 0 where
  structure : StructTree → ItemTree
  typedef : TypedefTree → ItemTree
  function : FunctionTree → ItemTree

-- a whole program
abbrev pub UnitTree : Type 0
UnitTree = List ItemTree
