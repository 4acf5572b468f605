-- What belongs to the next step: blocks and loops are entered and left, and conditions are taken apart.
use Rattle.std.specs.Prelude.{◌≡◌, ℤ, List, [], ◌∷◌, Option, Some, None}
use Rattle.mc_semantics.specs.Resolved.Programs.{Cond, plain, compare, negation, both, either, Simple, Initial, Start}
use Rattle.mc_semantics.specs.Resolved.Programs.{nothing, declares, performs, Stmt, declaration, block, empty, simple, free}
use Rattle.mc_semantics.specs.Resolved.Programs.{assert, assume, assume_shape, assert_shape, assert_empty, if_only, if_else}
use Rattle.mc_semantics.specs.Resolved.Programs.{while_loop, do_loop, for_loop, break_loop, continue_loop, returns, Stmts}
use Rattle.mc_semantics.specs.Resolved.Programs.{no_more, then}
use Rattle.mc_semantics.specs.Resolved.Configs.{Values, without, Target, nowhere, stored, returned, perform, again, test}
use Rattle.mc_semantics.specs.Resolved.Configs.{always, end_block, end_loop, end_turn, end_call, take_result, Tasks, done}
use Rattle.mc_semantics.specs.Resolved.Configs.{task, Branch, go_on, fails, stops}

-- statements in a row, and what may be missing
abbrev pub in_a_row : Stmts → Tasks → Tasks
in_a_row no_more rest = rest
in_a_row (then a more) rest = task (perform a) (in_a_row more rest)

abbrev pub started : Start → Tasks → Tasks
started nothing rest = rest
started (declares p items) rest = task (perform (declaration p items)) rest
started (performs x) rest = task (perform (simple x)) rest

abbrev pub finished : Option Simple → Tasks → Tasks
finished None rest = rest
finished (Some x) rest = task (perform (simple x)) rest

-- one turn of a loop, and the loop again
abbrev pub turn : Option Cond → Stmt → Option Simple → Tasks → Tasks
turn c a last rest = task (perform a) (task end_turn (finished last (task (again c a last) rest)))

abbrev pub tested : Option Cond → Tasks → Tasks → Tasks
tested None go rest = task (always go) done
tested (Some c) go rest = task (test c (go_on go) (go_on rest)) done

-- after the end of the innermost loop, or at the end of its turn: the variables of the blocks that are left are undefined
abbrev pub behind_loop : Values → Tasks → Option (Values × Tasks)
behind_loop values done = None
behind_loop values (task (end_loop xs) rest) = Some (without xs values, rest)
behind_loop values (task (end_block xs) rest) = behind_loop (without xs values) rest
behind_loop values (task (perform a) rest) = behind_loop values rest
behind_loop values (task (again c a last) rest) = behind_loop values rest
behind_loop values (task (test c a b) rest) = behind_loop values rest
behind_loop values (task (always go) rest) = behind_loop values rest
behind_loop values (task end_turn rest) = behind_loop values rest
behind_loop values (task (end_call saved target) rest) = None
behind_loop values (task (take_result target v) rest) = behind_loop values rest

abbrev pub at_turn : Values → Tasks → Option (Values × Tasks)
at_turn values done = None
at_turn values (task end_turn rest) = Some (values, rest)
at_turn values (task (end_block xs) rest) = at_turn (without xs values) rest
at_turn values (task (perform a) rest) = at_turn values rest
at_turn values (task (again c a last) rest) = at_turn values rest
at_turn values (task (test c a b) rest) = at_turn values rest
at_turn values (task (always go) rest) = at_turn values rest
at_turn values (task (end_loop xs) rest) = at_turn values rest
at_turn values (task (end_call saved target) rest) = None
at_turn values (task (take_result target v) rest) = at_turn values rest

-- a result goes where it is wanted
abbrev pub given : Target → Option ℤ → Tasks → Tasks
given nowhere v rest = rest
given (stored l p) v rest = task (take_result (stored l p) v) rest
given (returned p) v rest = task (take_result (returned p) v) rest

-- a declaration without a declarator more is at its end
abbrev pub declared_all : Values → List Initial → Tasks → Option (Values × Tasks)
declared_all values [] rest = Some (values, rest)
declared_all values (item ∷ items) rest = None

-- a statement is entered
abbrev pub entered : Values → Stmt → Tasks → Option (Values × Tasks)
entered values (declaration p items) rest = declared_all values items rest
entered values (block xs ss) rest = Some (values, in_a_row ss (task (end_block xs) rest))
entered values empty rest = Some (values, rest)
entered values (simple x) rest = None
entered values (free p e) rest = None
entered values (assert p c) rest = Some (values, task (test c (go_on rest) (fails p)) done)
entered values (assume p c) rest = Some (values, task (test c (go_on rest) stops) done)
entered values (assume_shape p predicate x args) rest = None
entered values (assert_shape p predicate a args) rest = None
entered values (assert_empty p) rest = None
entered values (if_only p c a) rest = Some (values, task (test c (go_on (task (perform a) rest)) (go_on rest)) done)
entered values (if_else p c a b) rest =
    Some (values, task (test c (go_on (task (perform a) rest)) (go_on (task (perform b) rest))) done)
entered values (while_loop p c a) rest = Some (values, task (again (Some c) a None) (task (end_loop []) rest))
entered values (do_loop p a c) rest = Some (values, turn (Some c) a None (task (end_loop []) rest))
entered values (for_loop h a) rest =
    Some (values, started h.start (task (again h.condition a h.last) (task (end_loop h.variables) rest)))
entered values (break_loop p) rest = behind_loop values rest
entered values (continue_loop p) rest = at_turn values rest
entered values (returns p r) rest = None

-- a condition is taken apart; `&&` and `||` come to their right side only where the left one leaves it open
abbrev pub taken_apart : Values → Cond → Branch → Branch → Option (Values × Tasks)
taken_apart values (plain p e) a b = None
taken_apart values (compare p c x y) a b = None
taken_apart values (negation c) a b = Some (values, task (test c b a) done)
taken_apart values (both c d) a b = Some (values, task (test c (go_on (task (test d a b) done)) b) done)
taken_apart values (either c d) a b = Some (values, task (test c a (go_on (task (test d a b) done))) done)

-- what is done before the next step, if there is anything
abbrev pub moved : Values → Tasks → Option (Values × Tasks)
moved values done = None
moved values (task (perform a) rest) = entered values a rest
moved values (task (again c a last) rest) = Some (values, tested c (turn c a last rest) rest)
moved values (task (test c a b) rest) = taken_apart values c a b
moved values (task (always go) rest) = None
moved values (task (end_block xs) rest) = Some (without xs values, rest)
moved values (task (end_loop xs) rest) = Some (without xs values, rest)
moved values (task end_turn rest) = Some (values, rest)
moved values (task (end_call saved target) rest) = Some (saved, given target None rest)
moved values (task (take_result target v) rest) = None

-- from these tasks one comes to those, at which the next step is
pub data Arrives : Values → Tasks → Values → Tasks → Type 0 where
  here : {values : Values} {tasks : Tasks} → moved values tasks ≡ None → Arrives values tasks values tasks
  there : {values later final : Values} {tasks next ready : Tasks} → moved values tasks ≡ Some (later, next)
      → Arrives later next final ready → Arrives values tasks final ready
