-- What belongs to the next step: blocks and loops are entered and left, and conditions are taken apart.
use Rattle.std.specs.Prelude.{◌≡◌, ℤ, List, [], ◌∷◌, Option, Some, None}
use Rattle.mc_base.specs.declared.text.place.Place.{Place}
use Rattle.mc_c_syntax.specs.declared.ast.trees.Base.{Base}
use Rattle.mc_c_syntax.specs.Ast.Trees.{Cond, plain, compare, negation, enclosed, both, either, InitialTree, SimpleTree}
use Rattle.mc_c_syntax.specs.Ast.Trees.{Start, nothing, declares, performs, Head, Stmt, declaration, block, empty, simple}
use Rattle.mc_c_syntax.specs.Ast.Trees.{free, assert, assume, assume_shape, assert_shape, assert_empty, if_only, if_else}
use Rattle.mc_c_syntax.specs.Ast.Trees.{while_loop, do_loop, for_loop, break_loop, continue_loop, returns, Stmts, no_more}
use Rattle.mc_c_syntax.specs.Ast.Trees.{then}
use Rattle.mc_c_types.specs.Tables.{Tables, Variable}
use Rattle.mc_c_types.specs.Scopes.{Scope, visible, inside, behind, behind_declaration, behind_start}
use Rattle.mc_c_types.specs.Faults.{first_place}
use Rattle.mc_semantics.specs.Configs.{Values, without, Target, nowhere, stored, returned, perform, declare_all}
use Rattle.mc_semantics.specs.Configs.{finish_turn, again, test, always, end_block, end_loop, end_turn, end_call}
use Rattle.mc_semantics.specs.Configs.{take_result, Tasks, done, task, Branch, go_on, fails, stops}

-- the first token of a base, and of a condition
abbrev pub base_place : Base → Place
base_place (Base.Int p) = p
base_place (Base.Struct p name) = p
base_place (Base.Alias name) = name.place

abbrev pub condition_place : Cond → Place
condition_place (plain e) = first_place e
condition_place (compare c a b) = first_place a
condition_place (negation p c) = p
condition_place (enclosed p c) = p
condition_place (both c d) = condition_place c
condition_place (either c d) = condition_place c

-- statements in a row, each in the scope after those before it
abbrev pub in_a_row : Tables → Scope → Stmts → Tasks → Tasks
in_a_row t s no_more rest = rest
in_a_row t s (then a more) rest = task (perform s a) (in_a_row t (behind t s a) more rest)

-- the variables of a block after these statements of it: those of its inner blocks and of the heads of loops are none
abbrev pub block_variables : Tables → Scope → Stmts → List Variable
block_variables t s no_more = s.own
block_variables t s (then a more) = block_variables t (behind t s a) more

-- the variables that the head of a `for` declares
abbrev pub head_variables : Tables → Scope → Start → List Variable
head_variables t s nothing = []
head_variables t s (declares d) = (behind_declaration t (inside s) d).own
head_variables t s (performs x) = []

-- what a `for` begins with
abbrev pub started : Scope → Start → Tasks → Tasks
started s nothing rest = rest
started s (declares d) rest = task (declare_all (inside s) (base_place d.base) d.base d.items) rest
started s (performs x) rest = task (finish_turn (visible s) x) rest

-- one turn of a loop, and the loop again
abbrev pub turn : Scope → Stmt → Stmt → Tasks → Tasks
turn s body loop rest = task (perform s body) (task end_turn (task (again s loop) rest))

-- one turn of a `for`, with its last part, if there is one
abbrev pub finished : List Variable → Option SimpleTree → Tasks → Tasks
finished variables None rest = rest
finished variables (Some x) rest = task (finish_turn variables x) rest

abbrev pub for_turn : Tables → Scope → Head → Stmt → Tasks → Tasks
for_turn t s h a rest =
    task (perform (behind_start t s h.start) a)
    (task end_turn (finished (visible (behind_start t s h.start)) h.last (task (again s (for_loop h a)) rest)))

-- a condition that may be missing
abbrev pub tested : List Variable → Option Cond → Tasks → Tasks → Tasks
tested variables None go rest = task (always go) done
tested variables (Some c) go rest = task (test variables c (go_on go) (go_on rest)) done

-- after the end of the innermost loop, or at the end of its turn: the variables of the blocks that are left are undefined
abbrev pub behind_loop : Values → Tasks → Option (Values × Tasks)
behind_loop values done = None
behind_loop values (task (end_loop vs) rest) = Some (without vs values, rest)
behind_loop values (task (perform s a) rest) = behind_loop values rest
behind_loop values (task (declare_all s p b items) rest) = behind_loop values rest
behind_loop values (task (finish_turn vs x) rest) = behind_loop values rest
behind_loop values (task (again s a) rest) = behind_loop values rest
behind_loop values (task (test vs c a b) rest) = behind_loop values rest
behind_loop values (task (always a) rest) = behind_loop values rest
behind_loop values (task (end_block vs) rest) = behind_loop (without vs values) rest
behind_loop values (task end_turn rest) = behind_loop values rest
behind_loop values (task (end_call v target) rest) = None
behind_loop values (task (take_result target v) rest) = behind_loop values rest

abbrev pub at_turn : Values → Tasks → Option (Values × Tasks)
at_turn values done = None
at_turn values (task end_turn rest) = Some (values, rest)
at_turn values (task (perform s a) rest) = at_turn values rest
at_turn values (task (declare_all s p b items) rest) = at_turn values rest
at_turn values (task (finish_turn vs x) rest) = at_turn values rest
at_turn values (task (again s a) rest) = at_turn values rest
at_turn values (task (test vs c a b) rest) = at_turn values rest
at_turn values (task (always a) rest) = at_turn values rest
at_turn values (task (end_block vs) rest) = at_turn (without vs values) rest
at_turn values (task (end_loop vs) rest) = at_turn values rest
at_turn values (task (end_call v target) rest) = None
at_turn values (task (take_result target v) rest) = at_turn values rest

-- a result goes where it is wanted
abbrev pub given : Target → Option ℤ → Tasks → Tasks
given nowhere v rest = rest
given (stored vs l p) v rest = task (take_result (stored vs l p) v) rest
given (returned p) v rest = task (take_result (returned p) v) rest

-- a statement is entered
abbrev pub entered : Tables → Values → Scope → Stmt → Tasks → Option (Values × Tasks)
entered t values s (declaration d) rest = Some (values, task (declare_all s (base_place d.base) d.base d.items) rest)
entered t values s (block p ss) rest = Some (values, in_a_row t (inside s) ss (task (end_block (block_variables t (inside s) ss)) rest))
entered t values s (empty p) rest = Some (values, rest)
entered t values s (simple x) rest = None
entered t values s (free p e) rest = None
entered t values s (assert p c) rest = Some (values, task (test (visible s) c (go_on rest) (fails (condition_place c))) done)
entered t values s (assume p c) rest = Some (values, task (test (visible s) c (go_on rest) stops) done)
entered t values s (assume_shape p predicate x args) rest = None
entered t values s (assert_shape p predicate a args) rest = None
entered t values s (assert_empty p) rest = None
entered t values s (if_only p c a) rest = Some (values, task (test (visible s) c (go_on (task (perform s a) rest)) (go_on rest)) done)
entered t values s (if_else p c a b) rest =
    Some (values, task (test (visible s) c (go_on (task (perform s a) rest)) (go_on (task (perform (behind t s a) b) rest))) done)
entered t values s (while_loop p c a) rest = Some (values, task (again s (while_loop p c a)) (task (end_loop []) rest))
entered t values s (do_loop p a c) rest = Some (values, turn s a (do_loop p a c) (task (end_loop []) rest))
entered t values s (for_loop h a) rest =
    Some (values, started s h.start (task (again s (for_loop h a)) (task (end_loop (head_variables t s h.start)) rest)))
entered t values s (break_loop p) rest = behind_loop values rest
entered t values s (continue_loop p) rest = at_turn values rest
entered t values s (returns p r) rest = None

-- a loop comes to its condition; no other statement is a loop
abbrev pub at_condition : Tables → Values → Scope → Stmt → Tasks → Option (Values × Tasks)
at_condition t values s (while_loop p c a) rest = Some (values, tested (visible s) (Some c) (turn s a (while_loop p c a) rest) rest)
at_condition t values s (do_loop p a c) rest = Some (values, tested (visible (behind t s a)) (Some c) (turn s a (do_loop p a c) rest) rest)
at_condition t values s (for_loop h a) rest =
    Some (values, tested (visible (behind_start t s h.start)) h.condition (for_turn t s h a rest) rest)
at_condition t values s (declaration d) rest = None
at_condition t values s (block p ss) rest = None
at_condition t values s (empty p) rest = None
at_condition t values s (simple x) rest = None
at_condition t values s (free p e) rest = None
at_condition t values s (assert p c) rest = None
at_condition t values s (assume p c) rest = None
at_condition t values s (assume_shape p predicate x args) rest = None
at_condition t values s (assert_shape p predicate a args) rest = None
at_condition t values s (assert_empty p) rest = None
at_condition t values s (if_only p c a) rest = None
at_condition t values s (if_else p c a b) rest = None
at_condition t values s (break_loop p) rest = None
at_condition t values s (continue_loop p) rest = None
at_condition t values s (returns p r) rest = None

-- a condition is taken apart; `&&` and `||` come to their right side only where the left one leaves it open
abbrev pub taken_apart : Values → List Variable → Cond → Branch → Branch → Option (Values × Tasks)
taken_apart values vs (plain e) a b = None
taken_apart values vs (compare c x y) a b = None
taken_apart values vs (negation p c) a b = Some (values, task (test vs c b a) done)
taken_apart values vs (enclosed p c) a b = Some (values, task (test vs c a b) done)
taken_apart values vs (both c d) a b = Some (values, task (test vs c (go_on (task (test vs d a b) done)) b) done)
taken_apart values vs (either c d) a b = Some (values, task (test vs c a (go_on (task (test vs d a b) done))) done)

-- a declaration without a declarator more is at its end
abbrev pub declared_all : Values → List InitialTree → Tasks → Option (Values × Tasks)
declared_all values [] rest = Some (values, rest)
declared_all values (item ∷ items) rest = None

-- what is done before the next step, if there is anything
abbrev pub moved : Tables → Values → Tasks → Option (Values × Tasks)
moved t values done = None
moved t values (task (perform s a) rest) = entered t values s a rest
moved t values (task (declare_all s p base items) rest) = declared_all values items rest
moved t values (task (finish_turn vs x) rest) = None
moved t values (task (again s a) rest) = at_condition t values s a rest
moved t values (task (test vs c a b) rest) = taken_apart values vs c a b
moved t values (task (always go) rest) = None
moved t values (task (end_block vs) rest) = Some (without vs values, rest)
moved t values (task (end_loop vs) rest) = Some (without vs values, rest)
moved t values (task end_turn rest) = Some (values, rest)
moved t values (task (end_call saved target) rest) = Some (saved, given target None rest)
moved t values (task (take_result target v) rest) = None

-- from these tasks one comes to those, at which the next step is
pub data Arrives (t : Tables) : Values → Tasks → Values → Tasks → Type 0 where
  here : {values : Values} {tasks : Tasks} → moved t values tasks ≡ None → Arrives t values tasks values tasks
  there : {values later final : Values} {tasks next ready : Tasks} → moved t values tasks ≡ Some (later, next)
      → Arrives t later next final ready → Arrives t values tasks final ready
