-- From within a loop to the end of its turn, and from within a function to its end.
use Rattle.std.proofs.Common.{◌<◌, ◌≤◌, ◌≡◌, ◌++◌, ℕ, ℤ, List, [], ◌∷◌, Option, Some, None, length, refl, ◌∙◌, arith}
use Rattle.std.specs.Prelude.{Contains}
use Rattle.mc_flow.specs.declared.instr.Instr.TheVariants.{Undef, End}
use Rattle.mc_semantics.specs.Resolved.Programs.{Cond, Simple, Stmt, Function}
use Rattle.mc_base.specs.declared.ids.VarId.{VarId}
use Rattle.mc_base.specs.declared.text.place.Place.{Place}
use Rattle.mc_lower_spec.proofs.Stages.{goal_of, variables_of}
use Rattle.mc_semantics.specs.Resolved.Configs.{Values, Target, held, without, perform, end_block, end_loop, end_turn, Tasks, done, task}
use Rattle.mc_semantics.specs.Resolved.Moves.{finished, behind_loop, at_turn, given}
use Rattle.mc_semantics.specs.Resolved.Steps.{returning}
use Rattle.mc_lower_spec.specs.Graphs.{Graph, plain, nowhere, Stage, stage, point, IsPoint, AreMade}
use Rattle.mc_lower_spec.specs.Lowering.{Loop, Around}
use Rattle.mc_lower_spec.proofs.Stepping.{Vars}
use Rattle.mc_lower_spec.proofs.Holding.{Limit, limit, IsLate, AreLate, Frame, Held, AreUndone, both_undone, without_undone, in_left, in_right}
use Rattle.mc_lower_spec.proofs.Growing.{lowered}
use Rattle.mc_lower_spec.proofs.Following.{IsLoop, Exits, IsWithin, frame_of, around_loop, outer_limits, loop_tasks, Follows, over, performs, skips, raises, ends_block, agains, ends_turn, ends_loop, ends_call, below, IsResult, Wants, weight, limited, no_late, held_raised}
use Rattle.mc_lower_spec.proofs.Entering.{block_left}

-- ---- the end of the turn
pub record ToTurn (g : Graph) (c : Around) (scope : List ℕ) (late : List Limit) (callers : List Frame) (k : ℕ) (tasks : Tasks) : Type 0 where
  pub outside : Around
  pub outer : List ℕ
  pub outer_late : List Limit
  pub own : List ℕ
  pub condition : Option Cond
  pub body : Stmt
  pub last : Option Simple
  pub rest : Tasks
  pub begin : ℕ
  pub exit : ℕ
  pub turn : ℕ
  pub behind : ℕ
  pub first : ℕ
  pub loop_is : c.loop ≡ Some (record { exit = exit; turn = turn })
  pub loops : IsLoop g outside (own ++ outer) condition body last begin exit turn first
  pub exits : Exits g outside own exit behind first
  pub within : IsWithin first outer_late
  pub follows : Follows g outside outer outer_late callers first rest behind
  pub later : Values → Values
  pub undone : (values : Values) → AreUndone c.blocks values (later values)
  pub turns : (values : Values) → at_turn values tasks ≡ Some (later values, finished last (loop_tasks condition body last own rest))
  pub leaves : (values : Values) → behind_loop values tasks ≡ Some (without own (later values), rest)
  pub lands : (values : Values) (vars : Vars) → ((x : ℕ) → Contains c.blocks x → held values x ≡ None) → Held g (frame_of c scope late k values ∷ callers) vars
      → Held g (frame_of (around_loop outside) (own ++ outer) (outer_limits outside own first outer_late) 0 values ∷ callers) vars
  pub less : weight g (finished last (loop_tasks condition body last own rest)) < weight g tasks
  pub less_rest : weight g rest < weight g tasks

-- the same from a task before it that declares nothing to undo
turn_before : {g : Graph} {c : Around} {scope : List ℕ} {late : List Limit} {callers : List Frame} {k j : ℕ} {tasks : Tasks} (more : Tasks) → k ≤ j
    → ((values : Values) → at_turn values more ≡ at_turn values tasks) → ((values : Values) → behind_loop values more ≡ behind_loop values tasks) → weight g tasks ≤ weight g more
    → ToTurn g c scope late callers j tasks → ToTurn g c scope late callers k more
turn_before {g} {c} {scope} {late} {callers} {k} {j} {tasks} more low turns leaves heavy t = record {
  outside = t.outside;
  outer = t.outer;
  outer_late = t.outer_late;
  own = t.own;
  condition = t.condition;
  body = t.body;
  last = t.last;
  rest = t.rest;
  begin = t.begin;
  exit = t.exit;
  turn = t.turn;
  behind = t.behind;
  first = t.first;
  loop_is = t.loop_is;
  loops = t.loops;
  exits = t.exits;
  within = t.within;
  follows = t.follows;
  later = t.later;
  undone = t.undone;
  turns = λ values. turns values ∙ t.turns values;
  leaves = λ values. leaves values ∙ t.leaves values;
  lands = λ values vars none h. t.lands values vars none (held_raised g c scope late callers k j values vars low h);
  less = omega (arith, t.less, heavy);
  less_rest = omega (arith, t.less_rest, heavy);
}

passes_last : (last : Option Simple) (condition : Option Cond) (a : Stmt) (xs : List ℕ) (rest : Tasks) (values : Values)
    → behind_loop values (finished last (loop_tasks condition a last xs rest)) ≡ Some (without xs values, rest)
passes_last None condition a xs rest values = refl
passes_last (Some x) condition a xs rest values = refl

lighter_rest : (g : Graph) (last : Option Simple) (condition : Option Cond) (a : Stmt) (xs : List ℕ) (rest : Tasks) → weight g rest ≤ weight g (finished last (loop_tasks condition a last xs rest))
lighter_rest g None condition a xs rest = omega arith
lighter_rest g (Some x) condition a xs rest = omega arith

none_undone : (values : Values) → AreUndone [] values values
none_undone values = record { none = λ x there. absurd (omega (arith, there.1)); same = λ x absent. refl; long = refl }

pub to_turn : {g : Graph} {c : Around} {scope : List ℕ} {late : List Limit} {callers : List Frame} {k a : ℕ} {tasks : Tasks} (l : Loop) → c.loop ≡ Some l
    → Follows g c scope late callers k tasks a → ToTurn g c scope late callers k tasks
to_turn l e (over fall same is) = absurd (cc)
to_turn l e (performs {a = a} {rest = rest} {s = s} {u = u} is scoped bound within low more) =
    let grown = lowered is in
    turn_before (task (perform a) rest) (omega (arith, low, grown.variables)) (λ values. refl) (λ values. refl) (omega arith) (to_turn l e more)
to_turn l e (skips {tasks = tasks} is more) = to_turn l e more
to_turn l e (raises {tasks = tasks} low more) = turn_before tasks low (λ values. refl) (λ values. refl) (omega arith) (to_turn l e more)
to_turn {g} {k = k} l e (ends_block {c = c} {scope = scope} {xs = xs} {late = late} {callers = callers} {rest = rest} {s = s} leave low more) =
    let t = to_turn l e more in
    record {
      outside = t.outside;
      outer = t.outer;
      outer_late = t.outer_late;
      own = t.own;
      condition = t.condition;
      body = t.body;
      last = t.last;
      rest = t.rest;
      begin = t.begin;
      exit = t.exit;
      turn = t.turn;
      behind = t.behind;
      first = t.first;
      loop_is = t.loop_is;
      loops = t.loops;
      exits = t.exits;
      within = t.within;
      follows = t.follows;
      later = λ values. t.later (without xs values);
      undone = λ values. both_undone xs c.blocks values (without xs values) (t.later (without xs values)) (without_undone xs values) (t.undone (without xs values));
      turns = λ values. t.turns (without xs values);
      leaves = λ values. t.leaves (without xs values);
      lands = λ values vars none h. t.lands values vars (λ x there. none x (in_right xs c.blocks x there))
          (block_left g c scope xs late callers k (variables_of s) values vars low (λ x there. none x (in_left xs c.blocks x there)) h);
      less = omega (arith, t.less);
      less_rest = omega (arith, t.less_rest);
    }
to_turn l e (agains loops way_out within more) = absurd (cc)
to_turn {g} {k = k} l e (ends_turn {c = c} {scope = scope} {xs = xs} {late = late} {callers = callers} {condition = condition} {a = a} {last = last} {rest = rest} {h = h} {e = exit} {turn = turn} {r = r} {first = first} loops way_out within more) =
    record {
      outside = c;
      outer = scope;
      outer_late = late;
      own = xs;
      condition = condition;
      body = a;
      last = last;
      rest = rest;
      begin = h;
      exit = exit;
      turn = turn;
      behind = r;
      first = first;
      loop_is = refl;
      loops = loops;
      exits = way_out;
      within = within;
      follows = more;
      later = λ values. values;
      undone = λ values. none_undone values;
      turns = λ values. refl;
      leaves = λ values. passes_last last condition a xs rest values;
      lands = λ values vars none held_there.
          limited g (Rattle.mc_lower_spec.specs.Lowering.in_loop c exit turn) (around_loop c) (xs ++ scope) (outer_limits c xs first late) callers k 0 values vars refl refl
          (λ ls. no_late g c.out values 0) held_there;
      less = omega arith;
      less_rest = omega (arith, lighter_rest g last condition a xs rest);
    }
to_turn l e (ends_loop way_out more) = absurd (cc)
to_turn l e (ends_call is made res inside wanted low within more) = absurd (cc)

-- ---- the end of the function
-- where the run ends, or the caller goes on
pub data ToOut (g : Graph) (f : Function) (out : ℕ) (late : List Limit) : List Frame → Tasks → Type 0 where
  out_of_run : {callers : List Frame} {tasks : Tasks} → ((v : Option ℤ) → returning tasks v ≡ ([], done)) → IsPoint g out plain nowhere End → ToOut g f out late callers tasks
  out_of_call : {tasks rest : Tasks} {d : Around} {scope : List ℕ} {outer_late : List Limit} {callers : List Frame} {k j b m : ℕ} {place : Place} {us : List VarId} {saved : Values} {target : Target} {ret : Option VarId} {s : Stage}
      → ((v : Option ℤ) → returning tasks v ≡ (saved, given target v rest))
      → ((values : Values) → AreLate g out values late → IsLate g out values (limit m (below (length f.locals))))
      → IsPoint g out plain place (Undef us (point (goal_of s))) → AreMade g out (λ x. x < length f.locals) (stage out out m) us → IsResult g f out ret → out < d.out
      → Wants g d scope target ret s j b → k ≤ j → IsWithin j outer_late → Follows g d scope outer_late callers j rest b
      → ToOut g f out late (frame_of d scope outer_late k saved ∷ callers) tasks

out_before : {g : Graph} {f : Function} {out : ℕ} {late : List Limit} {callers : List Frame} {tasks : Tasks} (wider : List Limit) (more : Tasks) → ((v : Option ℤ) → returning more v ≡ returning tasks v)
    → ((values : Values) → AreLate g out values wider → AreLate g out values late) → ToOut g f out late callers tasks → ToOut g f out wider callers more
out_before wider more same less (out_of_run ends is) = out_of_run (λ v. same v ∙ ends v) is
out_before wider more same less (out_of_call ends late is made res inside wanted low within follows) =
    out_of_call (λ v. same v ∙ ends v) (λ values there. late values (less values there)) is made res inside wanted low within follows

pub to_out : {g : Graph} {c : Around} {scope : List ℕ} {late : List Limit} {callers : List Frame} {k a : ℕ} {tasks : Tasks} → Follows g c scope late callers k tasks a → ToOut g c.function c.out late callers tasks
to_out (over fall same is) = out_of_run (λ v. refl) is
to_out (performs {late = late} {a = a} {rest = rest} is scoped bound within low more) = out_before late (task (perform a) rest) (λ v. refl) (λ values there. there) (to_out more)
to_out (skips is more) = to_out more
to_out (raises low more) = to_out more
to_out (ends_block {xs = xs} {late = late} {rest = rest} leave low more) = out_before late (task (end_block xs) rest) (λ v. refl) (λ values there. there) (to_out more)
to_out (agains {c = c} {xs = xs} {late = late} {condition = condition} {a = a} {last = last} {rest = rest} {first = first} loops way_out within more) =
    out_before (outer_limits c xs first late) (loop_tasks condition a last xs rest) (λ v. refl) (λ values there. there.1) (to_out more)
to_out (ends_turn {c = c} {xs = xs} {late = late} {condition = condition} {a = a} {last = last} {rest = rest} {first = first} loops way_out within more) =
    out_before (outer_limits c xs first late) (task end_turn (finished last (loop_tasks condition a last xs rest))) (λ v. passes_turn last v) (λ values there. there.1) (to_out more)
  where
    passes_turn : (end : Option Simple) (v : Option ℤ) → returning (finished end (loop_tasks condition a last xs rest)) v ≡ returning rest v
    passes_turn None v = refl
    passes_turn (Some x) v = refl
to_out (ends_loop {c = c} {xs = xs} {late = late} {rest = rest} {first = first} way_out more) = out_before (outer_limits c xs first late) (task (end_loop xs) rest) (λ v. refl) (λ values there. there.1) (to_out more)
to_out (ends_call is made res inside wanted low within more) = out_of_call (λ v. refl) (λ values there. there.0) is made res inside wanted low within more
