-- Resolved programs without recursion.
use Rattle.std.specs.Prelude.{◌≡◌, ◌<◌, ◌++◌, ℕ, List, [], ◌∷◌, Option, Some, None, Contains, slice_get}
use Rattle.mc_semantics.specs.Resolved.Programs.{Right, expression, result_of, allocation, Action, assign, add, subtract, call, Simple}
use Rattle.mc_semantics.specs.Resolved.Programs.{Initial}
use Rattle.mc_semantics.specs.Resolved.Programs.{Start, nothing, declares, performs, Stmt, declaration, block, empty, simple, free, assert}
use Rattle.mc_semantics.specs.Resolved.Programs.{assume, assume_shape, assert_shape, assert_empty, if_only, if_else, while_loop, do_loop}
use Rattle.mc_semantics.specs.Resolved.Programs.{for_loop, break_loop, continue_loop, returns, Stmts, no_more, then, Function, Program}

-- the numbers of the functions that are called
abbrev pub right_calls : Right → List ℕ
right_calls (expression e) = []
right_calls (result_of c) = c.function ∷ []
right_calls (allocation shape fields) = []

abbrev pub value_calls : Option Right → List ℕ
value_calls None = []
value_calls (Some right) = right_calls right

abbrev pub action_calls : Action → List ℕ
action_calls (assign l right) = right_calls right
action_calls (add l e) = []
action_calls (subtract l e) = []
action_calls (call c) = c.function ∷ []

abbrev pub items_calls : List Initial → List ℕ
items_calls [] = []
items_calls (item ∷ items) = value_calls item.value ++ items_calls items

abbrev pub start_calls : Start → List ℕ
start_calls nothing = []
start_calls (declares place items) = items_calls items
start_calls (performs x) = action_calls x.action

abbrev pub last_calls : Option Simple → List ℕ
last_calls None = []
last_calls (Some x) = action_calls x.action

abbrev mutual
  pub calls_in : Stmt → List ℕ
  calls_in (declaration place items) = items_calls items
  calls_in (block xs ss) = all_calls_in ss
  calls_in empty = []
  calls_in (simple x) = action_calls x.action
  calls_in (free place e) = []
  calls_in (assert place c) = []
  calls_in (assume place c) = []
  calls_in (assume_shape place predicate x args) = []
  calls_in (assert_shape place predicate a args) = []
  calls_in (assert_empty place) = []
  calls_in (if_only place c a) = calls_in a
  calls_in (if_else place c a b) = calls_in a ++ calls_in b
  calls_in (while_loop place c a) = calls_in a
  calls_in (do_loop place a c) = calls_in a
  calls_in (for_loop h a) = start_calls h.start ++ last_calls h.last ++ calls_in a
  calls_in (break_loop place) = []
  calls_in (continue_loop place) = []
  calls_in (returns place right) = value_calls right

  pub all_calls_in : Stmts → List ℕ
  all_calls_in no_more = []
  all_calls_in (then a more) = calls_in a ++ all_calls_in more

-- each function has a rank above those of the functions that it calls: there is no recursion
pub record HasRanks (p : Program) : Type 0 where
  pub rank : ℕ → ℕ
  pub falls : (n m : ℕ) (f : Function) → slice_get p.functions n ≡ Some f → Contains (all_calls_in f.body) m → rank m < rank n
