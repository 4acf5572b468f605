-- What belongs to the next step is the same for a program and its resolved program.
use Rattle.std.proofs.Common.{◌≡◌, ◌<◌, ℕ, zero, suc, ℤ, ◌+◌, List, [], ◌∷◌, Option, Some, None, refl, sym, ap, subst, ◌∙◌, arith}
use Rattle.std.specs.Prelude.{option_map}
use Rattle.mc_base.specs.declared.text.place.Place.{Place}
use Rattle.mc_flow.specs.declared.defs.rules.Def.{Def}
use Rattle.mc_c_syntax.specs.declared.ast.trees.Base.{Base}
use Rattle.mc_c_syntax.specs.Ast.Trees as tree
use Rattle.mc_c_types.specs.Tables.{Tables, Variable}
use Rattle.mc_c_types.specs.Scopes.{Scope, visible, inside, behind, behind_start}
use Rattle.mc_semantics.specs.Configs as named
use Rattle.mc_semantics.specs.Moves as named_moves
use Rattle.mc_semantics.specs.Moves.{block_variables, head_variables, condition_place}
use Rattle.mc_semantics.specs.Resolved.Configs.{Values, Target, perform, again, test, Tasks, done, task, Branch}
use Rattle.mc_semantics.specs.Resolved.Moves.{in_a_row, started, tested, behind_loop, at_turn, given, declared_all, moved, Arrives, here, there}
use Rattle.mc_semantics.specs.Resolved.Resolving.{start_variables, statement_variables, statements_variables, resolved_condition, resolved_simple, resolved_items, resolved_start, resolved_statement, resolved_statements}
use Rattle.mc_semantics.specs.Resolved.Running.{AreKnown, Agree, naming, SameTarget, same_nowhere, same_stored, same_returned, SameTasks, same_done, same_task, ends_call, performs, declares, finishes, again_while, again_do, again_for, tests, goes, ends_block, ends_loop, ends_turn, takes, SameBranch, same_tasks, same_fault, same_stop, AtStep}
use Rattle.mc_semantics.proofs.ResolvedLemmas.Holding.{without_agree}
use Rattle.mc_semantics.proofs.ResolvedLemmas.Knowing.{known_left, known_right, start_known, head_known, behind_known, block_known}

-- both go on, or both come to a step
pub data SameMove (t : Tables) (defs : List Def) : Option (named.Values × named.Tasks) → Option (Values × Tasks) → Type 0 where
  both_stay : SameMove t defs None None
  both_move : {locals : List Variable} {values : named.Values} {numbered : Values} {ts : named.Tasks} {us : Tasks} → Agree locals values numbered → SameTasks t defs locals ts us
      → SameMove t defs (Some (values, ts)) (Some (numbered, us))

-- how many moves may come that the resolved program has not: those into a declaration, and into parentheses
abbrev pub enclosures : tree.Cond → ℕ
enclosures (tree.plain e) = 0
enclosures (tree.compare c a b) = 0
enclosures (tree.negation p c) = 0
enclosures (tree.enclosed p c) = 1 + enclosures c
enclosures (tree.both c d) = 0
enclosures (tree.either c d) = 0

abbrev pub silent : named.Tasks → ℕ
silent named.done = 0
silent (named.task (named.perform s a) rest) = 1
silent (named.task (named.declare_all s p base items) rest) = 0
silent (named.task (named.finish_turn vs x) rest) = 0
silent (named.task (named.again s a) rest) = 0
silent (named.task (named.test vs c a b) rest) = enclosures c
silent (named.task (named.always go) rest) = 0
silent (named.task (named.end_block vs) rest) = 0
silent (named.task (named.end_loop vs) rest) = 0
silent (named.task named.end_turn rest) = 0
silent (named.task (named.end_call saved target) rest) = 0
silent (named.task (named.take_result target v) rest) = 0

-- both move, or the program alone
pub data Moves (t : Tables) (defs : List Def) (values : named.Values) (numbered : Values) (ts : named.Tasks) (us : Tasks) : Type 0 where
  together : SameMove t defs (named_moves.moved t values ts) (moved numbered us) → Moves t defs values numbered ts us
  alone : {locals : List Variable} {next : named.Tasks} → named_moves.moved t values ts ≡ Some (values, next) → Agree locals values numbered → SameTasks t defs locals next us
      → silent next < silent ts → Moves t defs values numbered ts us

-- ---- parts of tasks
pub row_same : (t : Tables) (defs : List Def) (locals : List Variable) (s : Scope) (ss : tree.Stmts) {rest : named.Tasks} {more : Tasks} → AreKnown locals (visible s) → AreKnown locals (statements_variables t ss)
    → SameTasks t defs locals rest more → SameTasks t defs locals (named_moves.in_a_row t s ss rest) (in_a_row (resolved_statements (naming t defs locals) s ss) more)
row_same t defs locals s tree.no_more known new same = same
row_same t defs locals s (tree.then a ss) known new same =
    let left : AreKnown locals (statement_variables t a) = known_left locals (statement_variables t a) (statements_variables t ss) new in
    same_task (performs known left)
    (row_same t defs locals (behind t s a) ss (behind_known locals t s a known left) (known_right locals (statement_variables t a) (statements_variables t ss) new) same)

started_same : (t : Tables) (defs : List Def) (locals : List Variable) (s : Scope) (start : tree.Start) {rest : named.Tasks} {more : Tasks} → AreKnown locals (visible s) → AreKnown locals (start_variables t start)
    → SameTasks t defs locals rest more → SameTasks t defs locals (named_moves.started s start rest) (started (resolved_start (naming t defs locals) s start) more)
started_same t defs locals s tree.nothing known new same = same
started_same t defs locals s (tree.declares d) known new same = same_task (declares known new) same
started_same t defs locals s (tree.performs x) known new same = same_task (finishes known) same

tested_same : (t : Tables) (defs : List Def) (locals vs : List Variable) (c : Option tree.Cond) {go rest : named.Tasks} {on more : Tasks} → AreKnown locals vs → SameTasks t defs locals go on → SameTasks t defs locals rest more
    → SameTasks t defs locals (named_moves.tested vs c go rest) (tested (option_map (resolved_condition (naming t defs locals) vs) c) on more)
tested_same t defs locals vs None known go rest = same_task (goes go) same_done
tested_same t defs locals vs (Some c) known go rest = tests known (same_tasks go) (same_tasks rest)

pub given_same : (t : Tables) (defs : List Def) (locals : List Variable) (v : Option ℤ) {target : named.Target} {goal : Target} {rest : named.Tasks} {more : Tasks} → SameTarget t defs locals target goal → SameTasks t defs locals rest more
    → SameTasks t defs locals (named_moves.given target v rest) (given goal v more)
given_same t defs locals v same_nowhere same = same
given_same t defs locals v (same_stored known) same = same_task (takes (same_stored known)) same
given_same t defs locals v same_returned same = same_task (takes same_returned) same

-- ---- loops are left, and their turns
leaves : (t : Tables) (defs : List Def) {locals : List Variable} {ts : named.Tasks} {us : Tasks} → SameTasks t defs locals ts us → (values : named.Values) (numbered : Values) → Agree locals values numbered
    → SameMove t defs (named_moves.behind_loop values ts) (behind_loop numbered us)
leaves t defs same_done values numbered agree = both_stay
leaves t defs (ends_call before target rest) values numbered agree = both_stay
leaves t defs (same_task (performs known new) rest) values numbered agree = leaves t defs rest values numbered agree
leaves t defs (same_task (declares known new) rest) values numbered agree = leaves t defs rest values numbered agree
leaves t defs (same_task (finishes known) rest) values numbered agree = leaves t defs rest values numbered agree
leaves t defs (same_task (again_while known new) rest) values numbered agree = leaves t defs rest values numbered agree
leaves t defs (same_task (again_do known new) rest) values numbered agree = leaves t defs rest values numbered agree
leaves t defs (same_task (again_for known new) rest) values numbered agree = leaves t defs rest values numbered agree
leaves t defs (tests known a b) values numbered agree = both_stay
leaves t defs (same_task (goes go) rest) values numbered agree = leaves t defs rest values numbered agree
leaves t defs {locals} (same_task (ends_block {vs = vs} known) rest) values numbered agree = leaves t defs rest _ _ (without_agree locals values numbered vs agree known)
leaves t defs {locals} (same_task (ends_loop {vs = vs} known) rest) values numbered agree = both_move (without_agree locals values numbered vs agree known) rest
leaves t defs (same_task ends_turn rest) values numbered agree = leaves t defs rest values numbered agree
leaves t defs (same_task (takes target) rest) values numbered agree = leaves t defs rest values numbered agree

turns : (t : Tables) (defs : List Def) {locals : List Variable} {ts : named.Tasks} {us : Tasks} → SameTasks t defs locals ts us → (values : named.Values) (numbered : Values) → Agree locals values numbered
    → SameMove t defs (named_moves.at_turn values ts) (at_turn numbered us)
turns t defs same_done values numbered agree = both_stay
turns t defs (ends_call before target rest) values numbered agree = both_stay
turns t defs (same_task (performs known new) rest) values numbered agree = turns t defs rest values numbered agree
turns t defs (same_task (declares known new) rest) values numbered agree = turns t defs rest values numbered agree
turns t defs (same_task (finishes known) rest) values numbered agree = turns t defs rest values numbered agree
turns t defs (same_task (again_while known new) rest) values numbered agree = turns t defs rest values numbered agree
turns t defs (same_task (again_do known new) rest) values numbered agree = turns t defs rest values numbered agree
turns t defs (same_task (again_for known new) rest) values numbered agree = turns t defs rest values numbered agree
turns t defs (tests known a b) values numbered agree = both_stay
turns t defs (same_task (goes go) rest) values numbered agree = turns t defs rest values numbered agree
turns t defs {locals} (same_task (ends_block {vs = vs} known) rest) values numbered agree = turns t defs rest _ _ (without_agree locals values numbered vs agree known)
turns t defs (same_task (ends_loop known) rest) values numbered agree = turns t defs rest values numbered agree
turns t defs (same_task ends_turn rest) values numbered agree = both_move agree rest
turns t defs (same_task (takes target) rest) values numbered agree = turns t defs rest values numbered agree

-- ---- one move
enters : (t : Tables) (defs : List Def) (locals : List Variable) (values : named.Values) (numbered : Values) (s : Scope) (a : tree.Stmt) {rest : named.Tasks} {more : Tasks} → Agree locals values numbered
    → AreKnown locals (visible s) → AreKnown locals (statement_variables t a) → SameTasks t defs locals rest more
    → Moves t defs values numbered (named.task (named.perform s a) rest) (task (perform (resolved_statement (naming t defs locals) s a)) more)
enters t defs locals values numbered s (tree.declaration d) agree known new rest = alone refl agree (same_task (declares known new) rest) (omega arith)
enters t defs locals values numbered s (tree.block p ss) agree known new rest =
    together (both_move agree (row_same t defs locals (inside s) ss known new (same_task (ends_block (block_known locals t (inside s) ss known new)) rest)))
enters t defs locals values numbered s (tree.empty p) agree known new rest = together (both_move agree rest)
enters t defs locals values numbered s (tree.simple x) agree known new rest = together both_stay
enters t defs locals values numbered s (tree.free p e) agree known new rest = together both_stay
enters t defs locals values numbered s (tree.assert p c) agree known new rest = together (both_move agree (tests known (same_tasks rest) same_fault))
enters t defs locals values numbered s (tree.assume p c) agree known new rest = together (both_move agree (tests known (same_tasks rest) same_stop))
enters t defs locals values numbered s (tree.assume_shape p predicate x args) agree known new rest = together both_stay
enters t defs locals values numbered s (tree.assert_shape p predicate a args) agree known new rest = together both_stay
enters t defs locals values numbered s (tree.assert_empty p) agree known new rest = together both_stay
enters t defs locals values numbered s (tree.if_only p c a) agree known new rest =
    together (both_move agree (tests known (same_tasks (same_task (performs known new) rest)) (same_tasks rest)))
enters t defs locals values numbered s (tree.if_else p c a b) agree known new rest =
    let first : AreKnown locals (statement_variables t a) = known_left locals (statement_variables t a) (statement_variables t b) new in
    let second : AreKnown locals (statement_variables t b) = known_right locals (statement_variables t a) (statement_variables t b) new in
    together (both_move agree (tests known (same_tasks (same_task (performs known first) rest)) (same_tasks (same_task (performs (behind_known locals t s a known first) second) rest))))
enters t defs locals values numbered s (tree.while_loop p c a) agree known new rest =
    together (both_move agree (same_task (again_while known new) (same_task (ends_loop {vs = []} tt) rest)))
enters t defs locals values numbered s (tree.do_loop p a c) agree known new rest =
    together (both_move agree (same_task (performs known new) (same_task ends_turn (same_task (again_do known new) (same_task (ends_loop {vs = []} tt) rest)))))
enters t defs locals values numbered s (tree.for_loop h a) agree known new rest =
    let first : AreKnown locals (start_variables t h.start) = known_left locals (start_variables t h.start) (statement_variables t a) new in
    together (both_move agree
    (started_same t defs locals s h.start known first (same_task (again_for known new) (same_task (ends_loop (head_known locals t s h.start known first)) rest))))
enters t defs locals values numbered s (tree.break_loop p) agree known new rest = together (leaves t defs rest values numbered agree)
enters t defs locals values numbered s (tree.continue_loop p) agree known new rest = together (turns t defs rest values numbered agree)
enters t defs locals values numbered s (tree.returns p r) agree known new rest = together both_stay

-- a `for` comes to its condition
for_again : (t : Tables) (defs : List Def) (locals : List Variable) (values : named.Values) (numbered : Values) (s : Scope) (p : Place) (start : tree.Start) (condition : Option tree.Cond) (ends : Option tree.SimpleTree) (a : tree.Stmt) {rest : named.Tasks} {more : Tasks}
    → Agree locals values numbered → AreKnown locals (visible s) → AreKnown locals (statement_variables t (tree.for_loop (record { place = p; start = start; condition = condition; last = ends }) a)) → SameTasks t defs locals rest more
    → SameTasks t defs locals (named.task (named.again s (tree.for_loop (record { place = p; start = start; condition = condition; last = ends }) a)) rest)
    (task (again (option_map (resolved_condition (naming t defs locals) (visible (behind_start t s start))) condition) (resolved_statement (naming t defs locals) (behind_start t s start) a) (option_map (resolved_simple (naming t defs locals) (visible (behind_start t s start))) ends)) more)
    → SameMove t defs (named_moves.at_condition t values s (tree.for_loop (record { place = p; start = start; condition = condition; last = ends }) a) rest)
    (moved numbered (task (again (option_map (resolved_condition (naming t defs locals) (visible (behind_start t s start))) condition) (resolved_statement (naming t defs locals) (behind_start t s start) a) (option_map (resolved_simple (naming t defs locals) (visible (behind_start t s start))) ends)) more))
for_again t defs locals values numbered s p start condition None a agree known new rest once_more =
    let first : AreKnown locals (start_variables t start) = known_left locals (start_variables t start) (statement_variables t a) new in
    let later : AreKnown locals (visible (behind_start t s start)) = start_known locals t s start known first in
    let second : AreKnown locals (statement_variables t a) = known_right locals (start_variables t start) (statement_variables t a) new in
    both_move agree (tested_same t defs locals (visible (behind_start t s start)) condition later (same_task (performs later second) (same_task ends_turn once_more)) rest)
for_again t defs locals values numbered s p start condition (Some x) a agree known new rest once_more =
    let first : AreKnown locals (start_variables t start) = known_left locals (start_variables t start) (statement_variables t a) new in
    let later : AreKnown locals (visible (behind_start t s start)) = start_known locals t s start known first in
    let second : AreKnown locals (statement_variables t a) = known_right locals (start_variables t start) (statement_variables t a) new in
    both_move agree (tested_same t defs locals (visible (behind_start t s start)) condition later (same_task (performs later second) (same_task ends_turn (same_task (finishes later) once_more))) rest)

apart : (t : Tables) (defs : List Def) (locals vs : List Variable) (values : named.Values) (numbered : Values) (c : tree.Cond) {a b : named.Branch} {x y : Branch} → Agree locals values numbered → AreKnown locals vs
    → SameBranch t defs locals a x → SameBranch t defs locals b y
    → Moves t defs values numbered (named.task (named.test vs c a b) named.done) (task (test (resolved_condition (naming t defs locals) vs c) x y) done)
apart t defs locals vs values numbered (tree.plain e) agree known a b = together both_stay
apart t defs locals vs values numbered (tree.compare c d e) agree known a b = together both_stay
apart t defs locals vs values numbered (tree.negation p c) agree known a b = together (both_move agree (tests known b a))
apart t defs locals vs values numbered (tree.enclosed p c) agree known a b = alone refl agree (tests {vs = vs} {c = c} known a b) (omega arith)
apart t defs locals vs values numbered (tree.both c d) agree known a b = together (both_move agree (tests known (same_tasks (tests known a b)) b))
apart t defs locals vs values numbered (tree.either c d) agree known a b = together (both_move agree (tests known a (same_tasks (tests known a b))))

declaring : (t : Tables) (defs : List Def) (locals : List Variable) (values : named.Values) (numbered : Values) (s : Scope) (p : Place) (base : Base) (items : List tree.InitialTree) {rest : named.Tasks} {more : Tasks} → Agree locals values numbered → SameTasks t defs locals rest more
    → SameMove t defs (named_moves.declared_all values items rest) (declared_all numbered (resolved_items (naming t defs locals) s base items) more)
declaring t defs locals values numbered s p base [] agree rest = both_move agree rest
declaring t defs locals values numbered s p base (item ∷ items) agree rest = both_stay

pub moves : (t : Tables) (defs : List Def) (locals : List Variable) (values : named.Values) (numbered : Values) {ts : named.Tasks} {us : Tasks} → Agree locals values numbered → SameTasks t defs locals ts us → Moves t defs values numbered ts us
moves t defs locals values numbered agree same_done = together both_stay
moves t defs locals values numbered agree (ends_call before target rest) = together (both_move before (given_same t defs _ None target rest))
moves t defs locals values numbered agree (tests {vs = vs} {c = c} known a b) = apart t defs locals vs values numbered c agree known a b
moves t defs locals values numbered agree (same_task (performs {s = s} {a = a} known new) rest) = enters t defs locals values numbered s a agree known new rest
moves t defs locals values numbered agree (same_task (declares {s = s} {p = p} {base = base} {items = items} known new) rest) = together (declaring t defs locals values numbered s p base items agree rest)
moves t defs locals values numbered agree (same_task (finishes known) rest) = together both_stay
moves t defs locals values numbered agree (same_task (again_while {s = s} known new) rest) =
    together (both_move agree (tests known (same_tasks (same_task (performs known new) (same_task ends_turn (same_task (again_while known new) rest)))) (same_tasks rest)))
moves t defs locals values numbered agree (same_task (again_do {s = s} {a = a} known new) rest) =
    together (both_move agree (tests (behind_known locals t s a known new) (same_tasks (same_task (performs known new) (same_task ends_turn (same_task (again_do known new) rest)))) (same_tasks rest)))
moves t defs locals values numbered agree (same_task (again_for {s = s} {h = h} {a = a} known new) rest) =
    together (for_again t defs locals values numbered s h.place h.start h.condition h.last a agree known new rest (same_task (again_for {h = h} known new) rest))
moves t defs locals values numbered agree (same_task (goes go) rest) = together both_stay
moves t defs locals values numbered agree (same_task (ends_block {vs = vs} known) rest) = together (both_move (without_agree locals values numbered vs agree known) rest)
moves t defs locals values numbered agree (same_task (ends_loop {vs = vs} known) rest) = together (both_move (without_agree locals values numbered vs agree known) rest)
moves t defs locals values numbered agree (same_task ends_turn rest) = together (both_move agree rest)
moves t defs locals values numbered agree (same_task (takes target) rest) = together both_stay

-- ---- arriving
-- the parts of a move
abbrev first_of : named.Values → Option (named.Values × named.Tasks) → named.Values
first_of values None = values
first_of values (Some p) = p.0

abbrev second_of : named.Tasks → Option (named.Values × named.Tasks) → named.Tasks
second_of ts None = ts
second_of ts (Some p) = p.1

-- what both move to
abbrev Both : (t : Tables) (defs : List Def) → named.Values → named.Tasks → Option (Values × Tasks) → Type 0
Both t defs values ts q = (numbered : Values) × (us : Tasks) × (locals : List Variable) × (q ≡ Some (numbered, us)) × Agree locals values numbered × SameTasks t defs locals ts us

moved_on : (t : Tables) (defs : List Def) {o : Option (named.Values × named.Tasks)} {q : Option (Values × Tasks)} (values : named.Values) (ts : named.Tasks) → SameMove t defs o q → o ≡ Some (values, ts) → Both t defs values ts q
moved_on t defs values ts both_stay e = absurd (grind (arith, e))
moved_on t defs values ts (both_move {locals = locals} {values = v} {numbered = w} {ts = us} {us = ws} agree same) e =
    let first : v ≡ values = ap (first_of v) e in
    let second : us ≡ ts = ap (second_of us) e in
    (w, ws, locals, refl, subst (λ z. Agree locals z w) first agree, subst (λ z. SameTasks t defs locals z ws) second same)

-- what the program moves to, from where the resolved one moves to
abbrev Back : (t : Tables) (defs : List Def) → Option (named.Values × named.Tasks) → Values → Tasks → Type 0
Back t defs o numbered us = (values : named.Values) × (ts : named.Tasks) × (locals : List Variable) × (o ≡ Some (values, ts)) × Agree locals values numbered × SameTasks t defs locals ts us

abbrev first_in : Values → Option (Values × Tasks) → Values
first_in values None = values
first_in values (Some p) = p.0

abbrev second_in : Tasks → Option (Values × Tasks) → Tasks
second_in ts None = ts
second_in ts (Some p) = p.1

moved_back : (t : Tables) (defs : List Def) {o : Option (named.Values × named.Tasks)} {q : Option (Values × Tasks)} (numbered : Values) (us : Tasks) → SameMove t defs o q → q ≡ Some (numbered, us) → Back t defs o numbered us
moved_back t defs numbered us both_stay e = absurd (grind (arith, e))
moved_back t defs numbered us (both_move {locals = locals} {values = v} {numbered = w} {ts = ts} {us = ws} agree same) e =
    let first : w ≡ numbered = ap (first_in w) e in
    let second : ws ≡ us = ap (second_in ws) e in
    (v, ts, locals, refl, subst (λ z. Agree locals v z) first agree, subst (λ z. SameTasks t defs locals ts z) second same)

stay_on : (t : Tables) (defs : List Def) {o : Option (named.Values × named.Tasks)} {q : Option (Values × Tasks)} → SameMove t defs o q → o ≡ None → q ≡ None
stay_on t defs both_stay e = refl
stay_on t defs (both_move agree same) e = absurd (grind (arith, e))

stay_back : (t : Tables) (defs : List Def) {o : Option (named.Values × named.Tasks)} {q : Option (Values × Tasks)} → SameMove t defs o q → q ≡ None → o ≡ None
stay_back t defs both_stay e = refl
stay_back t defs (both_move agree same) e = absurd (grind (arith, e))

-- ---- to the next step
pub arrive_forth : (t : Tables) (defs : List Def) {values final : named.Values} {ts ready : named.Tasks} → named_moves.Arrives t values ts final ready
    → (locals : List Variable) (numbered : Values) (us : Tasks) → Agree locals values numbered → SameTasks t defs locals ts us
    → (n : Values) × (vs : Tasks) × Arrives numbered us n vs × AtStep t defs final ready n vs
arrive_forth t defs (named_moves.here {values = values} {tasks = ts} stays) locals numbered us agree same = go (moves t defs locals values numbered agree same)
  where
    go : Moves t defs values numbered ts us → (n : Values) × (vs : Tasks) × Arrives numbered us n vs × AtStep t defs values ts n vs
    go (together move) = (numbered, us, here (stay_on t defs move stays), record { locals = locals; agree = agree; same = same; stays = stays })
    go (alone e agree_later same_later less) = absurd (let bad = sym e ∙ stays in grind (arith, bad))
arrive_forth t defs (named_moves.there {values = values} {later = later} {final = final} {tasks = ts} {next = next} {ready = ready} some path) locals numbered us agree same =
    go (moves t defs locals values numbered agree same) (λ locals numbered us agree same. arrive_forth t defs path locals numbered us agree same)
  where
    go : Moves t defs values numbered ts us
        → ((locals : List Variable) (numbered : Values) (us : Tasks) → Agree locals later numbered → SameTasks t defs locals next us → (n : Values) × (vs : Tasks) × Arrives numbered us n vs × AtStep t defs final ready n vs)
        → (n : Values) × (vs : Tasks) × Arrives numbered us n vs × AtStep t defs final ready n vs
    go (together move) more =
        let on = moved_on t defs later next move some in
        let there_on = more on.2 on.0 on.1 on.4 on.5 in
        (there_on.0, there_on.1, there on.3 there_on.2, there_on.3)
    go (alone {locals = others} {next = alone_next} e agree_later same_later less) more =
        let both : Some (values, alone_next) ≡ Some (later, next) = sym e ∙ some in
        more others numbered us (subst (λ z. Agree others z numbered) (ap (first_of values) both) agree_later) (subst (λ z. SameTasks t defs others z us) (ap (second_of alone_next) both) same_later)

-- the program moves on alone until it moves with the resolved one
record Settled (t : Tables) (defs : List Def) (values : named.Values) (ts : named.Tasks) (numbered : Values) (us : Tasks) : Type 0 where
  locals : List Variable
  next : named.Tasks
  agree : Agree locals values numbered
  same : SameTasks t defs locals next us
  move : SameMove t defs (named_moves.moved t values next) (moved numbered us)
  before : (final : named.Values) (ready : named.Tasks) → named_moves.Arrives t values next final ready → named_moves.Arrives t values ts final ready

settle : (k : ℕ) (t : Tables) (defs : List Def) (locals : List Variable) (values : named.Values) (numbered : Values) (ts : named.Tasks) (us : Tasks) → silent ts < k → Agree locals values numbered → SameTasks t defs locals ts us
    → Settled t defs values ts numbered us
settle zero t defs locals values numbered ts us less agree same = absurd (omega (arith, less))
settle (suc k) t defs locals values numbered ts us less agree same = go (moves t defs locals values numbered agree same) (λ others next low a s. settle k t defs others values numbered next us low a s)
  where
    go : Moves t defs values numbered ts us
        → ((others : List Variable) (next : named.Tasks) → silent next < k → Agree others values numbered → SameTasks t defs others next us → Settled t defs values next numbered us)
        → Settled t defs values ts numbered us
    go (together move) more = record { locals = locals; next = ts; agree = agree; same = same; move = move; before = λ final ready path. path }
    go (alone {locals = others} {next = next} e agree_later same_later fewer) more =
        let low : silent next < k = omega (arith, fewer, less) in
        let later : Settled t defs values next numbered us = more others next low agree_later same_later in
        record { locals = later.locals; next = later.next; agree = later.agree; same = later.same; move = later.move; before = λ final ready path. named_moves.there e (later.before final ready path) }

pub arrive_back : (t : Tables) (defs : List Def) {numbered final : Values} {us ready : Tasks} → Arrives numbered us final ready
    → (locals : List Variable) (values : named.Values) (ts : named.Tasks) → Agree locals values numbered → SameTasks t defs locals ts us
    → (v : named.Values) × (vs : named.Tasks) × named_moves.Arrives t values ts v vs × AtStep t defs v vs final ready
arrive_back t defs (here {values = numbered} {tasks = us} stays) locals values ts agree same =
    let settled : Settled t defs values ts numbered us = settle (suc (silent ts)) t defs locals values numbered ts us (omega arith) agree same in
    let none : named_moves.moved t values settled.next ≡ None = stay_back t defs settled.move stays in
    (values, settled.next, settled.before values settled.next (named_moves.here none), record { locals = settled.locals; agree = settled.agree; same = settled.same; stays = none })
arrive_back t defs (there {values = numbered} {later = later} {tasks = us} {next = next} some path) locals values ts agree same =
    let settled : Settled t defs values ts numbered us = settle (suc (silent ts)) t defs locals values numbered ts us (omega arith) agree same in
    let on = moved_back t defs later next settled.move some in
    let there_on = arrive_back t defs path on.2 on.0 on.1 on.4 on.5 in
    (there_on.0, there_on.1, settled.before there_on.0 there_on.1 (named_moves.there on.3 there_on.2), there_on.3)
