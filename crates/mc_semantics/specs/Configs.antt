-- What is left to do of a program, what its variables hold, and what is allocated.
use Rattle.std.specs.Prelude.{ℤ, ◌==◌, ◌&&◌, Bool, List, Option, None, if◌then◌else◌}
use Rattle.std.specs.List.{list_any}
use Rattle.mc_base.specs.declared.text.place.Place.{Place}
use Rattle.mc_flow.specs.Runs.{Outcome}
use Rattle.mc_flow.specs.Heap.Heap.{Heap}
use Rattle.mc_flow.specs.Heap.Choices.{Choice}
use Rattle.mc_flow.specs.declared.defs.rules.Def.{Def}
use Rattle.mc_c_syntax.specs.declared.ast.trees.Base.{Base}
use Rattle.mc_c_syntax.specs.Ast.Trees.{Left, Cond, InitialTree, SimpleTree, Stmt}
use Rattle.mc_c_types.specs.Tables.{Tables, Variable}
use Rattle.mc_c_types.specs.Scopes.{Scope}

-- what a program's names mean, and the definitions of its shapes
pub record Program : Type 0 where
  pub tables : Tables
  pub defs : List Def

-- what each variable holds; a variable is known by the place of its declarator
abbrev pub Values : Type 0
Values = Place → Option ℤ

abbrev pub no_values : Values
no_values place = None

abbrev pub is_place : Place → Place → Bool
is_place p q = p.line == q.line && p.column == q.column

-- one variable holds this, and the others what they held
abbrev pub with_variable : Values → Place → Option ℤ → Values
with_variable values place value other = if is_place other place then value else values other

-- these variables are undefined, and the others hold what they held
abbrev pub without : List Variable → Values → Values
without variables values place = if list_any (λ v. is_place v.place place) variables then None else values place

-- where the result of a call goes: nowhere, to one of these variables or a field after it at the place of its statement,
-- or back as a result
pub data Target : Type 0 where
  nowhere : Target
  stored : List Variable → Left → Place → Target
  returned : Place → Target

mutual
  -- what is left to do, one thing after the other
  pub data Task : Type 0 where
    -- a statement in its scope; the declarators of a declaration; a simple statement at the end of a `for`
    perform : Scope → Stmt → Task
    declare_all : Scope → Place → Base → List InitialTree → Task
    finish_turn : List Variable → SimpleTree → Task
    -- the condition of a loop again
    again : Scope → Stmt → Task
    -- a condition in its scope, and what is left to do where it is true and where it is false
    test : List Variable → Cond → Branch → Branch → Task
    -- a condition of a `for` that is missing
    always : Tasks → Task
    -- the end of a block, and the end of a loop, after which `break` goes: the block's variables, and those of the
    -- loop's head, are undefined from there on; the end of a turn, to which `continue` goes
    end_block : List Variable → Task
    end_loop : List Variable → Task
    end_turn : Task
    -- the end of a function, with what the caller's variables hold
    end_call : Values → Target → Task
    -- the result of a call is taken
    take_result : Target → Option ℤ → Task

  -- tasks in a row
  pub data Tasks : Type 0 where
    done : Tasks
    task : Task → Tasks → Tasks

  -- where a condition leads: to tasks, to a fault of an assertion at a place, or to the end of the run
  pub data Branch : Type 0 where
    go_on : Tasks → Branch
    fails : Place → Branch
    stops : Branch

pub record Config : Type 0 where
  pub tasks : Tasks
  pub values : Values
  pub heap : Heap

-- what a step comes to
abbrev pub Result : Type 0
Result = Outcome Config Choice
