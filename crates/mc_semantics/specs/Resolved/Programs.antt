-- Programs whose variables, fields, structs, functions and predicates are numbers.
use Rattle.std.specs.Prelude.{ℕ, ℤ, List, Option}
use Rattle.mc_base.specs.declared.ids.PredId.{PredId}
use Rattle.mc_base.specs.declared.plain.Kind.{Kind}
use Rattle.mc_base.specs.declared.text.place.Place.{Place}
use Rattle.mc_c_syntax.specs.declared.ast.trees.Comparison.{Comparison}
use Rattle.mc_flow.specs.declared.defs.rules.Def.{Def}

-- a field by its number, and the struct that it belongs to
pub record FieldAt : Type 0 where
  pub shape : ℕ
  pub field : ℕ

-- a variable by its number among those of its function, and the fields after it
pub record Left : Type 0 where
  pub variable : ℕ
  pub fields : List FieldAt

-- an expression; null is 0
pub data Expr : Type 0 where
  number : ℕ → Expr
  input : Expr
  value : Left → Expr
  minus : Expr → Expr
  times : Expr → Expr → Expr
  plus : Expr → Expr → Expr
  difference : Expr → Expr → Expr

-- a condition; an atomic one has the place of its first token
pub data Cond : Type 0 where
  plain : Place → Expr → Cond
  compare : Place → Comparison → Expr → Expr → Cond
  negation : Cond → Cond
  both : Cond → Cond → Cond
  either : Cond → Cond → Cond

-- a call, of a function by its number among the defined ones
pub record Call : Type 0 where
  pub function : ℕ
  pub arguments : List Expr

-- a right side; what is allocated is a struct with so many fields
pub data Right : Type 0 where
  expression : Expr → Right
  result_of : Call → Right
  allocation : (shape fields : ℕ) → Right

-- what a simple statement does
pub data Action : Type 0 where
  assign : Left → Right → Action
  add : Left → Expr → Action
  subtract : Left → Expr → Action
  call : Call → Action

pub record Simple : Type 0 where
  pub place : Place
  pub action : Action

-- a declarator, perhaps with a value
pub record Initial : Type 0 where
  pub variable : ℕ
  pub value : Option Right

-- an argument of a shape command
pub data Argument : Type 0 where
  variable : ℕ → Argument
  constant : ℤ → Argument

-- what a `for` begins with
pub data Start : Type 0 where
  nothing : Start
  declares : Place → List Initial → Start
  performs : Simple → Start

-- what stands in the parentheses of a `for`, and the variables that it declares, which are undefined after it
pub record Head : Type 0 where
  pub place : Place
  pub start : Start
  pub condition : Option Cond
  pub last : Option Simple
  pub variables : List ℕ

mutual
  -- a statement; at the end of a block these variables are undefined;
  -- `assert` and `assume` are at the first token of their condition
  pub data Stmt : Type 0 where
    declaration : Place → List Initial → Stmt
    block : List ℕ → Stmts → Stmt
    empty : Stmt
    simple : Simple → Stmt
    free : Place → Expr → Stmt
    assert : Place → Cond → Stmt
    assume : Place → Cond → Stmt
    assume_shape : Place → PredId → (variable : ℕ) → List Argument → Stmt
    assert_shape : Place → PredId → Argument → List Argument → Stmt
    assert_empty : Place → Stmt
    if_only : Place → Cond → Stmt → Stmt
    if_else : Place → Cond → Stmt → Stmt → Stmt
    while_loop : Place → Cond → Stmt → Stmt
    do_loop : Place → Stmt → Cond → Stmt
    for_loop : Head → Stmt → Stmt
    break_loop : Place → Stmt
    continue_loop : Place → Stmt
    returns : Place → Option Right → Stmt

  -- statements in a row
  pub data Stmts : Type 0 where
    no_more : Stmts
    then : Stmt → Stmts → Stmts

-- a variable of a function
pub record Local : Type 0 where
  pub name : List ℕ
  pub place : Place
  pub kind : Kind

-- a function: its variables in the order of the text, of which the first ones are its parameters, and the kind of its result
pub record Function : Type 0 where
  pub name : List ℕ
  pub locals : List Local
  pub parameters : ℕ
  pub result : Option Kind
  pub body : Stmts

-- a program: its defined functions in the order of the text, the number of its entry, and the definitions of its shapes
pub record Program : Type 0 where
  pub functions : List Function
  pub entry : ℕ
  pub defs : List Def
