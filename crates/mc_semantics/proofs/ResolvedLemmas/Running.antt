-- A program and its resolved program run alike.
use Rattle.std.proofs.Common.{◌≡◌, ℕ, zero, suc, ℤ, pos, Bool, true, false, cond, List, [], ◌∷◌, Option, Some, None, map, refl, sym, ap, ap₂, subst, ◌∙◌, arith, inl, inr, eq-eqb, length}
use Rattle.std.specs.Prelude.{option_map}
use Rattle.std.specs.Option.{option_map_or}
use Rattle.mc_base.specs.declared.plain.FaultKind.{FaultKind}
use Rattle.mc_base.specs.declared.plain.FaultKind.TheVariants.{Shape, NotEmpty}
use Rattle.mc_base.specs.declared.text.place.Place.{Place}
use Rattle.mc_flow.specs.Runs.{Final, next, last, fault, Reaches}
use Rattle.mc_flow.specs.Heap.Heap.{Heap, region_of}
use Rattle.mc_flow.specs.Heap.Adding.{with_blocks}
use Rattle.mc_flow.specs.Heap.Choices.{Choice, input as choose_input, malloc as choose_malloc, shape as choose_shape}
use Rattle.mc_flow.specs.Heap.Parts.{IsEmpty}
use Rattle.mc_flow.specs.declared.defs.rules.Def.{Def}
use Rattle.mc_flow.specs.Defs.Meaning.{HoldsSomewhere}
use Rattle.mc_flow.specs.Values.{all_there}
use Rattle.mc_c_syntax.specs.declared.ast.trees.Argument.{Argument as ArgumentTree}
use Rattle.mc_c_syntax.specs.declared.ast.trees.Argument.TheVariants as Argument
use Rattle.mc_c_syntax.specs.declared.ast.trees.Base.{Base}
use Rattle.mc_c_syntax.specs.declared.ast.trees.Comparison.{Comparison}
use Rattle.mc_c_syntax.specs.declared.ast.trees.Comparison.TheVariants.{Unequal}
use Rattle.mc_c_syntax.specs.declared.ast.trees.Name.{Name}
use Rattle.mc_c_syntax.specs.Ast.Names.{is_same}
use Rattle.mc_c_syntax.specs.Ast.Trees as tree
use Rattle.mc_c_types.specs.Tables.{Tables, Variable, variable_of as declared_variable, called_function}
use Rattle.mc_c_types.specs.Scopes.{Scope, visible, declare}
use Rattle.mc_c_types.specs.Faults.{first_place}
use Rattle.mc_semantics.specs.Configs as named
use Rattle.mc_semantics.specs.Moves as named_moves
use Rattle.mc_semantics.specs.Steps as named_steps
use Rattle.mc_semantics.specs.Steps.{simple_place, predicate_of, compares}
use Rattle.mc_semantics.specs.Resolved.Programs.{Left, Initial}
use Rattle.mc_semantics.specs.Resolved.Configs.{Values, with_variable, Target, Tasks, Branch, Config, Result}
use Rattle.mc_semantics.specs.Resolved.Steps as steps
use Rattle.mc_semantics.specs.Resolved.Resolving.{number_in, function_variables, resolved_variable, resolved_left, resolved_condition, resolved_right, resolved_initial, resolved_items, resolved_argument, resolved_statement, resolved_function, resolved_program}
use Rattle.mc_semantics.specs.Resolved.Running.{IsKnown, AreKnown, Agree, naming, SameTarget, same_nowhere, same_stored, same_returned, SameTasks, same_done, same_task, ends_call, tests, performs, declares, finishes, again_while, again_do, again_for, goes, ends_block, ends_loop, ends_turn, takes, SameBranch, same_tasks, same_fault as same_failing, same_stop, Match, SameResult, both_go, both_end, program, StepAlike, RunAlike}
use Rattle.mc_semantics.proofs.ResolvedLemmas.Holding.{set_agree}
use Rattle.mc_semantics.proofs.ResolvedLemmas.Knowing.{declared_known}
use Rattle.mc_semantics.proofs.ResolvedLemmas.Computing.{held_alike, set_alike, assigned_alike}
use Rattle.mc_semantics.proofs.ResolvedLemmas.Moving.{arrive_forth, arrive_back}
use Rattle.mc_semantics.proofs.ResolvedLemmas.Passing.{started_agree, function_same, called_same}
use Rattle.mc_semantics.proofs.ResolvedLemmas.Stepping.{BothWays, equal_both, never_both, Around, naming_in, there, here, Both, Same, going, after_same, with_value, returned_same, gone_back_same, allocates_both, freed_same, passes_both, assigns_both, performs_both}

-- ---- declarators
same_self : (w : List ℕ) → is_same w w ≡ true
same_self [] = refl
same_self (b ∷ w) = rw (eq-eqb b b refl) (same_self w)

own_left : (a : Around) (x : Variable) → resolved_left (naming_in a) (x ∷ []) (record { name = record { text = x.name; place = x.place }; fields = [] }) ≡ record { variable = number_in a.locals x.place; fields = [] }
own_left a x =
    let P : Bool → Type 0 = λ b. option_map_or (λ v. number_in a.locals v.place) (cond b (Some x) None) (length a.locals) ≡ number_in a.locals x.place in
    ap (λ (k : ℕ). let r : Left = record { variable = k; fields = [] } in r) (subst P (sym (same_self x.name)) refl)

declares_both : (a : Around) (entry : List ℕ) (x : Variable) (item : Initial) (right : Option tree.Right) (place : Place) (choices : List Choice) {rest : named.Tasks} {more : Tasks} → item.variable ≡ number_in a.locals x.place
    → IsKnown a.locals x.place → Same a rest more
    → Both a (named_steps.Declares (there a) x right place rest choices)
    (steps.Declares (resolved_program a.t a.defs entry) (here a) item place more choices (option_map (resolved_right (naming_in a) a.vs) right))
declares_both a entry x item None place choices {rest} {more} number known same =
    let P : ℕ → Type 0 = λ k. Both a (named_steps.Declares (there a) x None place rest choices) (λ r. r ≡ next (record { tasks = more; values = with_variable a.numbered k None; heap = a.heap }) choices) in
    subst P (sym number) (equal_both a.t a.defs (going a.t a.defs a.locals a.heap choices (set_agree a.locals a.values a.numbered x.place None a.agree known) same))
declares_both a entry x item (Some right) place choices {rest} {more} number known same =
    let l : tree.Left = record { name = record { text = x.name; place = x.place }; fields = [] } in
    let P : Left → Type 0 = λ m. Both a (named_steps.Assigns (there a) (x ∷ []) l right place rest choices)
    (steps.Assigns (resolved_program a.t a.defs entry) (here a) m (resolved_right (naming_in a) a.vs right) place more choices) in
    let e : resolved_left (naming_in a) (x ∷ []) l ≡ record { variable = item.variable; fields = [] } =
    own_left a x ∙ ap (λ (k : ℕ). let r : Left = record { variable = k; fields = [] } in r) (sym number) in
    subst P e (assigns_both a entry (x ∷ []) l right place choices (known, tt) same)

-- ---- shapes
argument_same : (a : Around) (arg : ArgumentTree) → steps.argument_value a.numbered (resolved_argument (naming_in a) a.vs arg) ≡ named_steps.argument_value (there a) arg
argument_same a (Argument.Name name) = held_alike a.t a.defs a.locals a.vs a.values a.numbered a.heap name a.agree a.known
argument_same a (Argument.Null p) = refl
argument_same a (Argument.Number n p) = refl
argument_same a (Argument.Negative n p) = refl

arguments_same : (a : Around) (args : List ArgumentTree) → map (steps.argument_value a.numbered) (map (resolved_argument (naming_in a) a.vs) args) ≡ map (named_steps.argument_value (there a)) args
arguments_same a [] = refl
arguments_same a (arg ∷ args) = ap₂ (λ v vs. v ∷ vs) (argument_same a arg) (arguments_same a args)

adds_both : (a : Around) (predicate x : Name) (args : List ℤ) (place : Place) (choices : List Choice) {rest : named.Tasks} {more : Tasks} → Same a rest more
    → Both a (named_steps.AddsShape a.defs predicate args (there a) x rest place choices) (steps.AddsShape a.defs (predicate_of a.defs predicate) args (here a) (resolved_variable (naming_in a) a.vs x) more place choices)
adds_both a predicate x args place [] same = never_both a.t a.defs
adds_both a predicate x args place (choose_input v ∷ choices) same = never_both a.t a.defs
adds_both a predicate x args place (choose_malloc n ∷ choices) same = never_both a.t a.defs
adds_both a predicate x args place (choose_shape v blocks ∷ choices) same =
    let both = equal_both a.t a.defs (after_same a.t a.defs a.locals place choices same (set_alike a.t a.defs a.locals a.vs a.values a.numbered (with_blocks a.heap blocks) x (Some v) a.agree a.known)) in
    (λ r is. (let k = both.0 r is.2 in (k.0, (is.0, is.1, k.1), k.2)), λ s is. (let k = both.1 s is.2 in (k.0, (is.0, is.1, k.1), k.2)))

assumes_both : (a : Around) (predicate x : Name) (place : Place) (choices : List Choice) (args : Option (List ℤ)) {rest : named.Tasks} {more : Tasks} → Same a rest more
    → Both a (named_steps.Assumes a.defs predicate (there a) x rest place choices args) (steps.Assumes a.defs (predicate_of a.defs predicate) (here a) (resolved_variable (naming_in a) a.vs x) more place choices args)
assumes_both a predicate x place choices None same = equal_both a.t a.defs both_end
assumes_both a predicate x place choices (Some args) same = adds_both a predicate x args place choices same

demands_both : (a : Around) (P : Type 0) (kind : FaultKind) (place : Place) (choices : List Choice) {rest : named.Tasks} {more : Tasks} → Same a rest more
    → Both a (named_steps.Demands P kind (there a) rest place choices) (steps.Demands P kind (here a) more place choices)
demands_both a P kind place choices {rest} {more} same = (forth, back)
  where
    on : BothWays a.t a.defs (λ r. r ≡ next (record { tasks = rest; values = a.values; heap = a.heap }) choices) (λ s. s ≡ next (record { tasks = more; values = a.numbered; heap = a.heap }) choices)
    on = equal_both a.t a.defs (going a.t a.defs a.locals a.heap choices a.agree same)

    bad : BothWays a.t a.defs (λ r. r ≡ last (fault kind place)) (λ s. s ≡ last (fault kind place))
    bad = equal_both a.t a.defs both_end

    forth : (r : named.Result) → named_steps.Demands P kind (there a) rest place choices r → (s : Result) × steps.Demands P kind (here a) more place choices s × SameResult a.t a.defs r s
    forth r (inl is) = let k = on.0 r is.1 in (k.0, inl (is.0, k.1), k.2)
    forth r (inr is) = let k = bad.0 r is.1 in (k.0, inr (is.0, k.1), k.2)

    back : (s : Result) → steps.Demands P kind (here a) more place choices s → (r : named.Result) × named_steps.Demands P kind (there a) rest place choices r × SameResult a.t a.defs r s
    back s (inl is) = let k = on.1 s is.1 in (k.0, inl (is.0, k.1), k.2)
    back s (inr is) = let k = bad.1 s is.1 in (k.0, inr (is.0, k.1), k.2)

asserts_both : (a : Around) (predicate : Name) (place : Place) (choices : List Choice) (v : Option ℤ) (args : Option (List ℤ)) {rest : named.Tasks} {more : Tasks} → Same a rest more
    → Both a (named_steps.Asserts a.defs predicate (there a) rest place choices v args) (steps.Asserts a.defs (predicate_of a.defs predicate) (here a) more place choices v args)
asserts_both a predicate place choices None args same = equal_both a.t a.defs both_end
asserts_both a predicate place choices (Some v) None same = equal_both a.t a.defs both_end
asserts_both a predicate place choices (Some v) (Some args) same = demands_both a (HoldsSomewhere a.defs (predicate_of a.defs predicate) v args (region_of a.heap)) Shape place choices same

-- ---- returns, results and conditions
returns_both : (a : Around) (entry : List ℕ) (right : Option tree.Right) (place : Place) (choices : List Choice) {rest : named.Tasks} {more : Tasks} → Same a rest more
    → Both a (named_steps.Returns (there a) right rest place choices) (steps.Returns (resolved_program a.t a.defs entry) (here a) (option_map (resolved_right (naming_in a) a.vs) right) more place choices)
returns_both a entry None place choices same = equal_both a.t a.defs (gone_back_same a.t a.defs a.heap choices None same)
returns_both a entry (Some (tree.expression e)) place choices same =
    with_value a e place choices _ _ (λ v left. equal_both a.t a.defs (returned_same a.t a.defs a.heap place left v same))
returns_both a entry (Some (tree.result_of c)) place choices same = passes_both a entry c place choices same_returned same
returns_both a entry (Some (tree.allocation m)) place choices same =
    allocates_both a m choices _ _ (λ v heap left. equal_both a.t a.defs (gone_back_same a.t a.defs heap left (Some v) same))

led_same : (a : Around) (choices : List Choice) {x : named.Branch} {y : Branch} → SameBranch a.t a.defs a.locals x y → SameResult a.t a.defs (named_steps.led (there a) x choices) (steps.led (here a) y choices)
led_same a choices (same_tasks same) = going a.t a.defs a.locals a.heap choices a.agree same
led_same a choices same_failing = both_end
led_same a choices same_stop = both_end

decided_same : (a : Around) (choices : List Choice) (b : Bool) {x y : named.Branch} {z w : Branch} → SameBranch a.t a.defs a.locals x z → SameBranch a.t a.defs a.locals y w
    → SameResult a.t a.defs (named_steps.decided (there a) x y choices b) (steps.decided (here a) z w choices b)
decided_same a choices true first second = led_same a choices first
decided_same a choices false first second = led_same a choices second

compared_same : (a : Around) (c : Comparison) (place : Place) (v u : Option ℤ) (choices : List Choice) {x y : named.Branch} {z w : Branch} → SameBranch a.t a.defs a.locals x z → SameBranch a.t a.defs a.locals y w
    → SameResult a.t a.defs (named_steps.compared (there a) c x y place v u choices) (steps.compared (here a) c z w place v u choices)
compared_same a c place None u choices first second = both_end
compared_same a c place (Some m) None choices first second = both_end
compared_same a c place (Some m) (Some n) choices first second = decided_same a choices (compares c m n) first second

some_is_none : {X : Type 0} {x : X} → Some x ≡ None → ⊥
some_is_none e = absurd (grind (arith, e))

tests_both : (a : Around) (c : tree.Cond) (choices : List Choice) {x y : named.Branch} {z w : Branch} → SameBranch a.t a.defs a.locals x z → SameBranch a.t a.defs a.locals y w → named_moves.taken_apart a.values a.vs c x y ≡ None
    → Both a (named_steps.Tests (there a) c x y choices) (steps.Tests (here a) (resolved_condition (naming_in a) a.vs c) z w choices)
tests_both a (tree.plain e) choices first second stays =
    with_value a e (first_place e) choices _ _ (λ v left. equal_both a.t a.defs (compared_same a Unequal (first_place e) v (Some (pos 0)) left first second))
tests_both a (tree.compare c d e) choices first second stays =
    with_value a d (first_place d) choices _ _ (λ v left. with_value a e (first_place d) left _ _ (λ u more. equal_both a.t a.defs (compared_same a c (first_place d) v u more first second)))
tests_both a (tree.negation p c) choices first second stays = absurd (some_is_none stays)
tests_both a (tree.enclosed p c) choices first second stays = absurd (some_is_none stays)
tests_both a (tree.both c d) choices first second stays = absurd (some_is_none stays)
tests_both a (tree.either c d) choices first second stays = absurd (some_is_none stays)

-- ---- statements and tasks
executes_both : (a : Around) (entry : List ℕ) (s : Scope) (x : tree.Stmt) (choices : List Choice) {rest : named.Tasks} {more : Tasks} → a.vs ≡ visible s → Same a rest more → named_moves.entered a.t a.values s x rest ≡ None
    → Both a (named_steps.Executes a.defs (there a) x rest choices) (steps.Executes (resolved_program a.t a.defs entry) (here a) (resolved_statement (naming_in a) s x) more choices)
executes_both a entry s (tree.declaration d) choices seen same stays = absurd (some_is_none stays)
executes_both a entry s (tree.block p ss) choices seen same stays = never_both a.t a.defs
executes_both a entry s (tree.empty p) choices seen same stays = never_both a.t a.defs
executes_both a entry s (tree.simple x) choices seen same stays = rw (sym seen) (performs_both a entry x (simple_place x) choices same)
executes_both a entry s (tree.free p e) choices seen same stays =
    rw (sym seen) (with_value a e p choices _ _ (λ v left. equal_both a.t a.defs (after_same a.t a.defs a.locals p left same (freed_same a v))))
executes_both a entry s (tree.assert p c) choices seen same stays = never_both a.t a.defs
executes_both a entry s (tree.assume p c) choices seen same stays = never_both a.t a.defs
executes_both a entry s (tree.assume_shape p predicate x args) choices seen same stays =
    rw (sym seen, arguments_same a args) (assumes_both a predicate x p choices (all_there (map (named_steps.argument_value (there a)) args)) same)
executes_both a entry s (tree.assert_shape p predicate arg args) choices seen same stays =
    rw (sym seen, argument_same a arg, arguments_same a args) (asserts_both a predicate p choices (named_steps.argument_value (there a) arg) (all_there (map (named_steps.argument_value (there a)) args)) same)
executes_both a entry s (tree.assert_empty p) choices seen same stays = demands_both a (IsEmpty (region_of a.heap)) NotEmpty p choices same
executes_both a entry s (tree.if_only p c x) choices seen same stays = never_both a.t a.defs
executes_both a entry s (tree.if_else p c x y) choices seen same stays = never_both a.t a.defs
executes_both a entry s (tree.while_loop p c x) choices seen same stays = never_both a.t a.defs
executes_both a entry s (tree.do_loop p x c) choices seen same stays = never_both a.t a.defs
executes_both a entry s (tree.for_loop h x) choices seen same stays = never_both a.t a.defs
executes_both a entry s (tree.break_loop p) choices seen same stays = never_both a.t a.defs
executes_both a entry s (tree.continue_loop p) choices seen same stays = never_both a.t a.defs
executes_both a entry s (tree.returns p right) choices seen same stays = rw (sym seen) (returns_both a entry right p choices same)

items_both : (t : Tables) (defs : List Def) (entry : List ℕ) (locals : List Variable) (values : named.Values) (numbered : Values) (heap : Heap) (s : Scope) (p : Place) (base : Base) (items : List tree.InitialTree) (choices : List Choice) {rest : named.Tasks} {more : Tasks}
    → Agree locals values numbered → AreKnown locals (visible s) → AreKnown locals (map (λ item. declared_variable t base item.declarator) items) → SameTasks t defs locals rest more → named_moves.declared_all values items rest ≡ None
    → BothWays t defs (named_steps.DeclaresFirst t s p base items values heap rest choices)
    (steps.DeclaresFirst (resolved_program t defs entry) (record { values = numbered; heap = heap }) (resolved_items (naming t defs locals) s base items) p more choices)
items_both t defs entry locals values numbered heap s p base [] choices agree known new same stays = absurd (some_is_none stays)
items_both t defs entry locals values numbered heap s p base (item ∷ items) choices agree known new same stays =
    let x : Variable = declared_variable t base item.declarator in
    let later : AreKnown locals (visible (declare s x)) = declared_known locals s x known new.0 in
    let a : Around = record { t = t; defs = defs; locals = locals; vs = visible (declare s x); values = values; numbered = numbered; heap = heap; agree = agree; known = later } in
    declares_both a entry x (resolved_initial (naming t defs locals) (declare s x) base item) item.value p choices refl new.0 (same_task (declares later new.1) same)

taken_both : (t : Tables) (defs : List Def) (locals : List Variable) (values : named.Values) (numbered : Values) (heap : Heap) (v : Option ℤ) (choices : List Choice) {target : named.Target} {goal : Target} {rest : named.Tasks} {more : Tasks}
    → Agree locals values numbered → SameTarget t defs locals target goal → SameTasks t defs locals rest more
    → SameResult t defs (named_steps.taken (named_steps.where_is t [] values heap) target v rest choices) (steps.taken (record { values = numbered; heap = heap }) goal v more choices)
taken_both t defs locals values numbered heap v choices agree same_nowhere same = going t defs locals heap choices agree same
taken_both t defs locals values numbered heap v choices agree (same_stored {vs = vs} {l = l} {p = p} known) same =
    after_same t defs locals p choices same (assigned_alike t defs locals vs values numbered heap l v agree known)
taken_both t defs locals values numbered heap v choices agree (same_returned {p = p}) same = returned_same t defs heap p choices v same

does_both : (t : Tables) (defs : List Def) (entry : List ℕ) (locals : List Variable) (values : named.Values) (numbered : Values) (heap : Heap) (choices : List Choice) {ts : named.Tasks} {us : Tasks}
    → Agree locals values numbered → SameTasks t defs locals ts us → named_moves.moved t values ts ≡ None
    → BothWays t defs (named_steps.Does (program t defs) values heap ts choices) (steps.Does (resolved_program t defs entry) (record { values = numbered; heap = heap }) us choices)
does_both t defs entry locals values numbered heap choices agree same_done stays = equal_both t defs both_end
does_both t defs entry locals values numbered heap choices agree (ends_call before target rest) stays = absurd (some_is_none stays)
does_both t defs entry locals values numbered heap choices agree (tests {vs = vs} {c = c} known x y) stays =
    let a : Around = record { t = t; defs = defs; locals = locals; vs = vs; values = values; numbered = numbered; heap = heap; agree = agree; known = known } in
    tests_both a c choices x y stays
does_both t defs entry locals values numbered heap choices agree (same_task (performs {s = s} {a = x} known new) rest) stays =
    let a : Around = record { t = t; defs = defs; locals = locals; vs = visible s; values = values; numbered = numbered; heap = heap; agree = agree; known = known } in
    executes_both a entry s x choices refl rest stays
does_both t defs entry locals values numbered heap choices agree (same_task (declares {s = s} {p = p} {base = base} {items = items} known new) rest) stays =
    items_both t defs entry locals values numbered heap s p base items choices agree known new rest stays
does_both t defs entry locals values numbered heap choices agree (same_task (finishes {vs = vs} {x = x} known) rest) stays =
    let a : Around = record { t = t; defs = defs; locals = locals; vs = vs; values = values; numbered = numbered; heap = heap; agree = agree; known = known } in
    performs_both a entry x (simple_place x) choices rest
does_both t defs entry locals values numbered heap choices agree (same_task (again_while known new) rest) stays = never_both t defs
does_both t defs entry locals values numbered heap choices agree (same_task (again_do known new) rest) stays = never_both t defs
does_both t defs entry locals values numbered heap choices agree (same_task (again_for known new) rest) stays = never_both t defs
does_both t defs entry locals values numbered heap choices agree (same_task (goes go) rest) stays = equal_both t defs (going t defs locals heap choices agree go)
does_both t defs entry locals values numbered heap choices agree (same_task (ends_block known) rest) stays = never_both t defs
does_both t defs entry locals values numbered heap choices agree (same_task (ends_loop known) rest) stays = never_both t defs
does_both t defs entry locals values numbered heap choices agree (same_task ends_turn rest) stays = never_both t defs
does_both t defs entry locals values numbered heap choices agree (same_task (takes {v = v} target) rest) stays = equal_both t defs (taken_both t defs locals values numbered heap v choices agree target rest)

-- ---- steps and runs
steps_both : (t : Tables) (defs : List Def) (entry : List ℕ) (c : named.Config) (d : Config) (choices : List Choice) → Match t defs c d
    → BothWays t defs (named_steps.Step (program t defs) c choices) (steps.Step (resolved_program t defs entry) d choices)
steps_both t defs entry c d choices m = (forth, back)
  where
    forth : (r : named.Result) → named_steps.Step (program t defs) c choices r → (s : Result) × steps.Step (resolved_program t defs entry) d choices s × SameResult t defs r s
    forth r (values, ts, path, does) =
        let at = arrive_forth t defs path m.locals d.values d.tasks m.values m.tasks in
        let k = (does_both t defs entry at.3.locals values at.0 c.heap choices at.3.agree at.3.same at.3.stays).0 r does in
        (k.0, (at.0, at.1, at.2, subst (λ h. steps.Does (resolved_program t defs entry) (record { values = at.0; heap = h }) at.1 choices k.0) (sym m.heap) k.1), k.2)

    back : (s : Result) → steps.Step (resolved_program t defs entry) d choices s → (r : named.Result) × named_steps.Step (program t defs) c choices r × SameResult t defs r s
    back s (numbered, us, path, does) =
        let at = arrive_back t defs path m.locals c.values c.tasks m.values m.tasks in
        let here : steps.Does (resolved_program t defs entry) (record { values = numbered; heap = c.heap }) us choices s =
        subst (λ h. steps.Does (resolved_program t defs entry) (record { values = numbered; heap = h }) us choices s) m.heap does in
        let k = (does_both t defs entry at.3.locals at.0 numbered c.heap choices at.3.agree at.3.same at.3.stays).1 s here in
        (k.0, (at.0, at.1, at.2, k.1), k.2)

pub step_alike : (t : Tables) (defs : List Def) (entry : List ℕ) (c : named.Config) (d : Config) (choices : List Choice) → Match t defs c d → StepAlike t defs entry c d choices
step_alike t defs entry c d choices m = let both = steps_both t defs entry c d choices m in record { forth = both.0; back = both.1 }

-- what is the same as an end is that end, and what is the same as going on goes on
pub end_of : (t : Tables) (defs : List Def) {f : Final} {s : Result} → SameResult t defs (last f) s → s ≡ last f
end_of t defs both_end = refl

pub end_from : (t : Tables) (defs : List Def) {f : Final} {r : named.Result} → SameResult t defs r (last f) → r ≡ last f
end_from t defs both_end = refl

abbrev Goes : Tables → List Def → named.Config → List Choice → Result → Type 0
Goes t defs c left s = (d : Config) × (s ≡ next d left) × Match t defs c d

on_of : (t : Tables) (defs : List Def) {c : named.Config} {left : List Choice} {s : Result} → SameResult t defs (next c left) s → Goes t defs c left s
on_of t defs (both_go {d = d} m) = (d, refl, m)

abbrev pub Went : Tables → List Def → Config → List Choice → named.Result → Type 0
Went t defs d left r = (c : named.Config) × (r ≡ next c left) × Match t defs c d

pub on_from : (t : Tables) (defs : List Def) {d : Config} {left : List Choice} {r : named.Result} → SameResult t defs r (next d left) → Went t defs d left r
on_from t defs (both_go {c = c} m) = (c, refl, m)

runs_forth : (t : Tables) (defs : List Def) (entry : List ℕ) (n : ℕ) (c : named.Config) (d : Config) (choices : List Choice) (final : Final) → Match t defs c d
    → Reaches (named_steps.Step (program t defs)) n c choices final → Reaches (steps.Step (resolved_program t defs entry)) n d choices final
runs_forth t defs entry zero c d choices final m run = run
runs_forth t defs entry (suc n) c d choices final m (inl is) =
    let k = (steps_both t defs entry c d choices m).0 (last final) is in
    inl (subst (λ s. steps.Step (resolved_program t defs entry) d choices s) (end_of t defs k.2) k.1)
runs_forth t defs entry (suc n) c d choices final m (inr run) =
    let k = (steps_both t defs entry c d choices m).0 (next run.0 run.1) run.2 in
    let on = on_of t defs k.2 in
    inr (on.0, run.1, subst (λ s. steps.Step (resolved_program t defs entry) d choices s) on.1 k.1, runs_forth t defs entry n run.0 on.0 run.1 final on.2 run.3)

runs_back : (t : Tables) (defs : List Def) (entry : List ℕ) (n : ℕ) (c : named.Config) (d : Config) (choices : List Choice) (final : Final) → Match t defs c d
    → Reaches (steps.Step (resolved_program t defs entry)) n d choices final → Reaches (named_steps.Step (program t defs)) n c choices final
runs_back t defs entry zero c d choices final m run = run
runs_back t defs entry (suc n) c d choices final m (inl is) =
    let k = (steps_both t defs entry c d choices m).1 (last final) is in
    inl (subst (λ r. named_steps.Step (program t defs) c choices r) (end_from t defs k.2) k.1)
runs_back t defs entry (suc n) c d choices final m (inr run) =
    let k = (steps_both t defs entry c d choices m).1 (next run.0 run.1) run.2 in
    let on = on_from t defs k.2 in
    inr (on.0, run.1, subst (λ r. named_steps.Step (program t defs) c choices r) on.1 k.1, runs_back t defs entry n on.0 run.0 run.1 final on.2 run.3)

pub run_alike : (t : Tables) (defs : List Def) (entry : List ℕ) (f : tree.FunctionTree) → called_function t entry ≡ Some f → RunAlike t defs entry f
run_alike t defs entry f e =
    let begin : Match t defs (named_steps.start (program t defs) f) (steps.start (resolved_function t defs f)) =
    record { locals = function_variables t f; tasks = function_same t defs f same_done; values = started_agree (function_variables t f); heap = refl } in
    record {
      function = resolved_function t defs f;
      there = called_same t defs entry entry ∙ ap (option_map (resolved_function t defs)) e;
      begin = begin;
      ends = λ n choices final. (
        (λ run. runs_forth t defs entry n (named_steps.start (program t defs) f) (steps.start (resolved_function t defs f)) choices final begin run),
        (λ run. runs_back t defs entry n (named_steps.start (program t defs) f) (steps.start (resolved_function t defs f)) choices final begin run),
      );
    }
