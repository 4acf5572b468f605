-- What is left to do of a resolved program, what its variables hold, and what is allocated.
use Rattle.std.specs.Prelude.{ℕ, ℤ, List, [], ◌∷◌, Option, None, slice_index_or, slice_set}
use Rattle.mc_base.specs.declared.text.place.Place.{Place}
use Rattle.mc_flow.specs.Runs.{Outcome}
use Rattle.mc_flow.specs.Heap.Heap.{Heap}
use Rattle.mc_flow.specs.Heap.Choices.{Choice}
use Rattle.mc_semantics.specs.Resolved.Programs.{Left, Cond, Simple, Stmt}

-- what the variables of a function hold, by their numbers
abbrev pub Values : Type 0
Values = List (Option ℤ)

abbrev pub held : Values → ℕ → Option ℤ
held values x = slice_index_or values x None

abbrev pub with_variable : Values → ℕ → Option ℤ → Values
with_variable values x value = slice_set values x value

-- these variables are undefined, and the others hold what they held
abbrev pub without : List ℕ → Values → Values
without [] values = values
without (x ∷ xs) values = with_variable (without xs values) x None

-- where the result of a call goes
pub data Target : Type 0 where
  nowhere : Target
  stored : Left → Place → Target
  returned : Place → Target

mutual
  -- what is left to do, one thing after the other
  pub data Task : Type 0 where
    perform : Stmt → Task
    -- the condition of a loop, if it has one, its body, and what ends a turn of a `for`
    again : Option Cond → Stmt → Option Simple → Task
    test : Cond → Branch → Branch → Task
    -- a condition that is missing
    always : Tasks → Task
    end_block : List ℕ → Task
    end_loop : List ℕ → Task
    end_turn : Task
    -- the end of a function, with what the caller's variables hold
    end_call : Values → Target → Task
    take_result : Target → Option ℤ → Task

  pub data Tasks : Type 0 where
    done : Tasks
    task : Task → Tasks → Tasks

  -- where a condition leads: to tasks, to a fault of an assertion, or to the end of the run
  pub data Branch : Type 0 where
    go_on : Tasks → Branch
    fails : Place → Branch
    stops : Branch

pub record Config : Type 0 where
  pub tasks : Tasks
  pub values : Values
  pub heap : Heap

abbrev pub Result : Type 0
Result = Outcome Config Choice
