-- A resolved program asks for what its program asks for.
use Rattle.std.proofs.Common.{◌≡◌, ◌++◌, ℕ, ℤ, List, [], ◌∷◌, Option, Some, None, map, refl, sym, ap, ap₂, subst, ◌∙◌, arith, inl, inr}
use Rattle.std.specs.Prelude.{option_map}
use Rattle.mc_base.specs.declared.ids.PredId.{PredId}
use Rattle.mc_base.specs.declared.text.place.Place.{Place}
use Rattle.mc_flow.specs.Heap.Heap.{Heap}
use Rattle.mc_flow.specs.Heap.Choices.{Choice}
use Rattle.mc_flow.specs.declared.defs.rules.Def.{Def}
use Rattle.mc_flow.specs.Values.{all_there}
use Rattle.mc_c_syntax.specs.declared.ast.trees.Argument.{Argument as ArgumentTree}
use Rattle.mc_c_syntax.specs.declared.ast.trees.Argument.TheVariants as Argument
use Rattle.mc_c_syntax.specs.declared.ast.trees.Base.{Base}
use Rattle.mc_c_syntax.specs.Ast.Trees as tree
use Rattle.mc_c_types.specs.Tables.{Tables, Variable, variable_of as declared_variable}
use Rattle.mc_c_types.specs.Scopes.{Scope, visible, declare}
use Rattle.mc_semantics.specs.Configs as named
use Rattle.mc_semantics.specs.Moves as named_moves
use Rattle.mc_semantics.specs.Steps as named_steps
use Rattle.mc_semantics.specs.Steps.{predicate_of, where_is}
use Rattle.mc_semantics.specs.Values.{Here, value_of}
use Rattle.mc_semantics.specs.Waiting.Requests.{Request, an_input, a_shape}
use Rattle.mc_semantics.specs.Waiting.Trees as trees
use Rattle.mc_semantics.specs.Resolved.Configs.{Values, Tasks, Config}
use Rattle.mc_semantics.specs.Resolved.Steps as steps
use Rattle.mc_semantics.specs.Resolved.Resolving.{Naming, resolved_expression, resolved_right, resolved_action, resolved_condition, resolved_items, resolved_argument, resolved_statement, resolved_program}
use Rattle.mc_semantics.specs.Resolved.Running.{AreKnown, Agree, IsKnown, ArriveAlike, ValuesAlike, naming, SameTasks, same_done, same_task, ends_call, tests, performs, declares, finishes, again_while, again_do, again_for, goes, ends_block, ends_loop, ends_turn, takes, Match, program}
use Rattle.mc_run_values.specs.Values.Asking.{ArgumentsAsk, ValueAsks}
use Rattle.mc_run.specs.Asking.{ActionAsks, Asks, ConditionAsks, DeclaratorAsks, MaybeRightAsks, RightAsks, StatementAsks, TaskAsks}

-- both ask for the same when the same choices are left
abbrev pub AskAlike : (List Choice → Request → List Choice → Type 0) → (List Choice → Request → List Choice → Type 0) → Type 0
AskAlike P Q =
    ((choices left : List Choice) (request : Request) → P choices request left → Q choices request left)
    × ((choices left : List Choice) (request : Request) → Q choices request left → P choices request left)

neither : AskAlike (λ choices request left. ⊥) (λ choices request left. ⊥)
neither = (λ choices left request bad. bad, λ choices left request bad. bad)

-- what is around a step, where names and expressions have the same values in both programs
record Around : Type 0 where
  t : Tables
  defs : List Def
  locals : List Variable
  vs : List Variable
  values : named.Values
  numbered : Values
  heap : Heap
  alike : ValuesAlike t defs locals vs values numbered heap

abbrev around : (t : Tables) (defs : List Def) (locals vs : List Variable) (values : named.Values) (numbered : Values) (heap : Heap) → ValuesAlike t defs locals vs values numbered heap → Around
around t defs locals vs values numbered heap alike =
    record { t = t; defs = defs; locals = locals; vs = vs; values = values; numbered = numbered; heap = heap; alike = alike }

abbrev naming_in : Around → Naming
naming_in a = naming a.t a.defs a.locals

abbrev there : Around → Here
there a = where_is a.t a.vs a.values a.heap

-- ---- expressions
value_asks : (a : Around) (e : tree.Expr) (choices left : List Choice) → trees.ValueAsks (there a) e choices left → ValueAsks a.numbered a.heap (resolved_expression (naming_in a) a.vs e) choices left
value_asks a (tree.number n p) choices left is = is
value_asks a (tree.null p) choices left is = is
value_asks a (tree.input p) choices left is = is
value_asks a (tree.value l) choices left is = is
value_asks a (tree.minus p e) choices left is = value_asks a e choices left is
value_asks a (tree.parens p e) choices left is = value_asks a e choices left is
value_asks a (tree.times x y) choices left (inl is) = inl (value_asks a x choices left is)
value_asks a (tree.times x y) choices left (inr (v, rest, comes, is)) =
    inr (v, rest, (a.alike.expressions x choices (value_of v rest)).0 comes, value_asks a y rest left is)
value_asks a (tree.plus x y) choices left (inl is) = inl (value_asks a x choices left is)
value_asks a (tree.plus x y) choices left (inr (v, rest, comes, is)) =
    inr (v, rest, (a.alike.expressions x choices (value_of v rest)).0 comes, value_asks a y rest left is)
value_asks a (tree.difference x y) choices left (inl is) = inl (value_asks a x choices left is)
value_asks a (tree.difference x y) choices left (inr (v, rest, comes, is)) =
    inr (v, rest, (a.alike.expressions x choices (value_of v rest)).0 comes, value_asks a y rest left is)

value_asked : (a : Around) (e : tree.Expr) (choices left : List Choice) → ValueAsks a.numbered a.heap (resolved_expression (naming_in a) a.vs e) choices left → trees.ValueAsks (there a) e choices left
value_asked a (tree.number n p) choices left is = is
value_asked a (tree.null p) choices left is = is
value_asked a (tree.input p) choices left is = is
value_asked a (tree.value l) choices left is = is
value_asked a (tree.minus p e) choices left is = value_asked a e choices left is
value_asked a (tree.parens p e) choices left is = value_asked a e choices left is
value_asked a (tree.times x y) choices left (inl is) = inl (value_asked a x choices left is)
value_asked a (tree.times x y) choices left (inr (v, rest, comes, is)) =
    inr (v, rest, (a.alike.expressions x choices (value_of v rest)).1 comes, value_asked a y rest left is)
value_asked a (tree.plus x y) choices left (inl is) = inl (value_asked a x choices left is)
value_asked a (tree.plus x y) choices left (inr (v, rest, comes, is)) =
    inr (v, rest, (a.alike.expressions x choices (value_of v rest)).1 comes, value_asked a y rest left is)
value_asked a (tree.difference x y) choices left (inl is) = inl (value_asked a x choices left is)
value_asked a (tree.difference x y) choices left (inr (v, rest, comes, is)) =
    inr (v, rest, (a.alike.expressions x choices (value_of v rest)).1 comes, value_asked a y rest left is)

arguments_ask : (a : Around) (es : List tree.Expr) (choices left : List Choice) → trees.ArgumentsAsk (there a) es choices left → ArgumentsAsk a.numbered a.heap (map (resolved_expression (naming_in a) a.vs) es) choices left
arguments_ask a [] choices left is = is
arguments_ask a (e ∷ es) choices left (inl is) = inl (value_asks a e choices left is)
arguments_ask a (e ∷ es) choices left (inr (v, rest, comes, is)) =
    inr (v, rest, (a.alike.expressions e choices (value_of v rest)).0 comes, arguments_ask a es rest left is)

arguments_asked : (a : Around) (es : List tree.Expr) (choices left : List Choice) → ArgumentsAsk a.numbered a.heap (map (resolved_expression (naming_in a) a.vs) es) choices left → trees.ArgumentsAsk (there a) es choices left
arguments_asked a [] choices left is = is
arguments_asked a (e ∷ es) choices left (inl is) = inl (value_asked a e choices left is)
arguments_asked a (e ∷ es) choices left (inr (v, rest, comes, is)) =
    inr (v, rest, (a.alike.expressions e choices (value_of v rest)).1 comes, arguments_asked a es rest left is)

-- an input of an expression
input_alike : (a : Around) (e : tree.Expr)
    → AskAlike (λ choices request left. (request ≡ an_input) × trees.ValueAsks (there a) e choices left) (λ choices request left. (request ≡ an_input) × ValueAsks a.numbered a.heap (resolved_expression (naming_in a) a.vs e) choices left)
input_alike a e = (λ choices left request is. (is.0, value_asks a e choices left is.1), λ choices left request is. (is.0, value_asked a e choices left is.1))

arguments_alike : (a : Around) (es : List tree.Expr)
    → AskAlike (λ choices request left. (request ≡ an_input) × trees.ArgumentsAsk (there a) es choices left)
    (λ choices request left. (request ≡ an_input) × ArgumentsAsk a.numbered a.heap (map (resolved_expression (naming_in a) a.vs) es) choices left)
arguments_alike a es = (λ choices left request is. (is.0, arguments_ask a es choices left is.1), λ choices left request is. (is.0, arguments_asked a es choices left is.1))

-- ---- statements
right_alike : (a : Around) (right : tree.Right) → AskAlike (trees.RightAsks (there a) right) (RightAsks a.numbered a.heap (resolved_right (naming_in a) a.vs right))
right_alike a (tree.expression e) = input_alike a e
right_alike a (tree.result_of c) = arguments_alike a c.arguments
right_alike a (tree.allocation m) = (λ choices left request is. is, λ choices left request is. is)

maybe_alike : (a : Around) (right : Option tree.Right) → AskAlike (trees.MaybeRightAsks (there a) right) (MaybeRightAsks a.numbered a.heap (option_map (resolved_right (naming_in a) a.vs) right))
maybe_alike a None = neither
maybe_alike a (Some right) = right_alike a right

simple_alike : (a : Around) (x : tree.SimpleTree) → AskAlike (trees.SimpleAsks (there a) x) (ActionAsks a.numbered a.heap (resolved_action (naming_in a) a.vs x))
simple_alike a (tree.assign l right) = right_alike a right
simple_alike a (tree.add l e) = input_alike a e
simple_alike a (tree.subtract l e) = input_alike a e
simple_alike a (tree.increment l) = (λ choices left request bad. absurd bad, λ choices left request bad. absurd bad.1)
simple_alike a (tree.decrement l) = (λ choices left request bad. absurd bad, λ choices left request bad. absurd bad.1)
simple_alike a (tree.increment_first p l) = (λ choices left request bad. absurd bad, λ choices left request bad. absurd bad.1)
simple_alike a (tree.decrement_first p l) = (λ choices left request bad. absurd bad, λ choices left request bad. absurd bad.1)
simple_alike a (tree.call c) = arguments_alike a c.arguments

argument_same : (a : Around) (arg : ArgumentTree) → steps.argument_value a.numbered (resolved_argument (naming_in a) a.vs arg) ≡ named_steps.argument_value (there a) arg
argument_same a (Argument.Name name) = a.alike.names name
argument_same a (Argument.Null p) = refl
argument_same a (Argument.Number n p) = refl
argument_same a (Argument.Negative n p) = refl

arguments_same : (a : Around) (args : List ArgumentTree) → map (steps.argument_value a.numbered) (map (resolved_argument (naming_in a) a.vs) args) ≡ map (named_steps.argument_value (there a)) args
arguments_same a [] = refl
arguments_same a (arg ∷ args) = ap₂ (λ v vs. v ∷ vs) (argument_same a arg) (arguments_same a args)

some_is_none : {X : Type 0} {x : X} → Some x ≡ None → ⊥
some_is_none e = absurd (grind (arith, e))

shape_alike : (defs : List Def) (predicate : PredId) (heap : Heap) (one other : List (Option ℤ)) → other ≡ one
    → AskAlike (λ choices request left. (vs : List ℤ) × (all_there one ≡ Some vs) × (request ≡ a_shape defs predicate vs heap) × (left ≡ choices))
    (λ choices request left. (vs : List ℤ) × (all_there other ≡ Some vs) × (request ≡ a_shape defs predicate vs heap) × (left ≡ choices))
shape_alike defs predicate heap one other same = (
  λ choices left request is. (is.0, ap (λ (values : List (Option ℤ)). all_there values) same ∙ is.1, is.2, is.3),
  λ choices left request is. (is.0, ap (λ (values : List (Option ℤ)). all_there values) (sym same) ∙ is.1, is.2, is.3),
)

module _ (t : Tables) (defs : List Def) (locals : List Variable) (values : named.Values) (numbered : Values) (heap : Heap) where
  statement_alike : (s : Scope) (x : tree.Stmt) (rest : named.Tasks) → ValuesAlike t defs locals (visible s) values numbered heap → named_moves.entered t values s x rest ≡ None
      → AskAlike (trees.StatementAsks defs (where_is t (visible s) values heap) x) (StatementAsks defs numbered heap (resolved_statement (naming t defs locals) s x))
  statement_alike s (tree.declaration d) rest alike stays = absurd (some_is_none stays)
  statement_alike s (tree.block p ss) rest alike stays = neither
  statement_alike s (tree.empty p) rest alike stays = neither
  statement_alike s (tree.simple x) rest alike stays = simple_alike (around t defs locals (visible s) values numbered heap alike) x
  statement_alike s (tree.free p e) rest alike stays = input_alike (around t defs locals (visible s) values numbered heap alike) e
  statement_alike s (tree.assert p c) rest alike stays = neither
  statement_alike s (tree.assume p c) rest alike stays = neither
  statement_alike s (tree.assume_shape p predicate x args) rest alike stays =
      shape_alike defs (predicate_of defs predicate) heap
      (map (named_steps.argument_value (where_is t (visible s) values heap)) args)
      (map (steps.argument_value numbered) (map (resolved_argument (naming t defs locals) (visible s)) args))
      (arguments_same (around t defs locals (visible s) values numbered heap alike) args)
  statement_alike s (tree.assert_shape p predicate arg args) rest alike stays = neither
  statement_alike s (tree.assert_empty p) rest alike stays = neither
  statement_alike s (tree.if_only p c x) rest alike stays = neither
  statement_alike s (tree.if_else p c x y) rest alike stays = neither
  statement_alike s (tree.while_loop p c x) rest alike stays = neither
  statement_alike s (tree.do_loop p x c) rest alike stays = neither
  statement_alike s (tree.for_loop h x) rest alike stays = neither
  statement_alike s (tree.break_loop p) rest alike stays = neither
  statement_alike s (tree.continue_loop p) rest alike stays = neither
  statement_alike s (tree.returns p right) rest alike stays = maybe_alike (around t defs locals (visible s) values numbered heap alike) right

-- ---- conditions
condition_alike : (a : Around) (c : tree.Cond) (x y : named.Branch) → named_moves.taken_apart a.values a.vs c x y ≡ None
    → AskAlike (trees.ConditionAsks (there a) c) (ConditionAsks a.numbered a.heap (resolved_condition (naming_in a) a.vs c))
condition_alike a (tree.plain e) one other stays = input_alike a e
condition_alike a (tree.compare c x y) one other stays = (
  λ choices left request is. (is.0, value_asks a (tree.plus x y) choices left is.1),
  λ choices left request is. (is.0, value_asked a (tree.plus x y) choices left is.1),
)
condition_alike a (tree.negation p c) one other stays = absurd (some_is_none stays)
condition_alike a (tree.enclosed p c) one other stays = absurd (some_is_none stays)
condition_alike a (tree.both c d) one other stays = absurd (some_is_none stays)
condition_alike a (tree.either c d) one other stays = absurd (some_is_none stays)

-- ---- variables
known_before : (locals before behind : List Variable) → AreKnown locals (before ++ behind) → AreKnown locals before
known_before locals [] behind known = tt
known_before locals (v ∷ before) behind known = (known.0, known_before locals before behind known.1)

known_behind : (locals before behind : List Variable) → AreKnown locals (before ++ behind) → AreKnown locals behind
known_behind locals [] behind known = known
known_behind locals (v ∷ before) behind known = known_behind locals before behind known.1

known_both : (locals before behind : List Variable) → AreKnown locals before → AreKnown locals behind → AreKnown locals (before ++ behind)
known_both locals [] behind one other = other
known_both locals (v ∷ before) behind one other = (one.0, known_both locals before behind one.1 other)

-- a variable that is declared is visible after it
declared_known : (locals : List Variable) (s : Scope) (v : Variable) → AreKnown locals (visible s) → IsKnown locals v.place → AreKnown locals (visible (declare s v))
declared_known locals s v known new =
    let front : AreKnown locals (s.heads ++ s.own) = known_before locals (s.heads ++ s.own) s.outer known in
    let outer : AreKnown locals s.outer = known_behind locals (s.heads ++ s.own) s.outer known in
    let heads : AreKnown locals s.heads = known_before locals s.heads s.own front in
    let own : AreKnown locals s.own = known_behind locals s.heads s.own front in
    known_both locals (s.heads ++ (v ∷ s.own)) s.outer (known_both locals s.heads (v ∷ s.own) heads (new, own)) outer

-- what is said of names and expressions wherever variables hold the same, and of arrivals wherever configurations match
abbrev pub EachAlike : Type 0
EachAlike =
    (t : Tables) (defs : List Def) (locals : List Variable) (vs : List Variable) (values : named.Values) (numbered : Values) (heap : Heap)
    → Agree locals values numbered → AreKnown locals vs → ValuesAlike t defs locals vs values numbered heap

abbrev pub EachArrives : Type 0
EachArrives = (t : Tables) (defs : List Def) (c : named.Config) (d : Config) → Match t defs c d → ArriveAlike t defs c d

-- ---- tasks
items_alike : EachAlike → (t : Tables) (defs : List Def) (locals : List Variable) (values : named.Values) (numbered : Values) (heap : Heap) (s : Scope) (p : Place) (base : Base) (items : List tree.InitialTree)
    → Agree locals values numbered → AreKnown locals (visible s) → AreKnown locals (map (λ item. declared_variable t base item.declarator) items)
    → AskAlike (trees.DeclaratorAsks t s base items values heap) (DeclaratorAsks numbered heap (resolved_items (naming t defs locals) s base items))
items_alike each t defs locals values numbered heap s p base [] agree known new = neither
items_alike each t defs locals values numbered heap s p base (item ∷ items) agree known new =
    let x : Variable = declared_variable t base item.declarator in
    let later : AreKnown locals (visible (declare s x)) = declared_known locals s x known new.0 in
    let a : Around = around t defs locals (visible (declare s x)) values numbered heap (each t defs locals (visible (declare s x)) values numbered heap agree later) in
    maybe_alike a item.value

tasks_alike : EachAlike → (t : Tables) (defs : List Def) (locals : List Variable) (values : named.Values) (numbered : Values) (heap : Heap) {ts : named.Tasks} {us : Tasks}
    → Agree locals values numbered → SameTasks t defs locals ts us → named_moves.moved t values ts ≡ None
    → AskAlike (trees.TaskAsks (program t defs) values heap ts) (TaskAsks defs numbered heap us)
tasks_alike each t defs locals values numbered heap agree same_done stays = neither
tasks_alike each t defs locals values numbered heap agree (ends_call before target rest) stays = neither
tasks_alike each t defs locals values numbered heap agree (tests {vs = vs} {c = c} known x y) stays =
    let a : Around = around t defs locals vs values numbered heap (each t defs locals vs values numbered heap agree known) in
    condition_alike a c _ _ stays
tasks_alike each t defs locals values numbered heap agree (same_task (performs {s = s} {a = x} known new) rest) stays =
    statement_alike t defs locals values numbered heap s x _ (each t defs locals (visible s) values numbered heap agree known) stays
tasks_alike each t defs locals values numbered heap agree (same_task (declares {s = s} {p = p} {base = base} {items = items} known new) rest) stays =
    items_alike each t defs locals values numbered heap s p base items agree known new
tasks_alike each t defs locals values numbered heap agree (same_task (finishes {vs = vs} {x = x} known) rest) stays =
    let a : Around = around t defs locals vs values numbered heap (each t defs locals vs values numbered heap agree known) in
    simple_alike a x
tasks_alike each t defs locals values numbered heap agree (same_task (again_while known new) rest) stays = neither
tasks_alike each t defs locals values numbered heap agree (same_task (again_do known new) rest) stays = neither
tasks_alike each t defs locals values numbered heap agree (same_task (again_for known new) rest) stays = neither
tasks_alike each t defs locals values numbered heap agree (same_task (goes go) rest) stays = neither
tasks_alike each t defs locals values numbered heap agree (same_task (ends_block known) rest) stays = neither
tasks_alike each t defs locals values numbered heap agree (same_task (ends_loop known) rest) stays = neither
tasks_alike each t defs locals values numbered heap agree (same_task ends_turn rest) stays = neither
tasks_alike each t defs locals values numbered heap agree (same_task (takes target) rest) stays = neither

-- ---- configurations
pub asks_alike : EachAlike → EachArrives → (t : Tables) (defs : List Def) (entry : List ℕ) (c : named.Config) (d : Config) → Match t defs c d → AskAlike (trees.Asks (program t defs) c) (Asks (resolved_program t defs entry) d)
asks_alike each arrives t defs entry c d m = (forth, back)
  where
    forth : (choices left : List Choice) (request : Request) → trees.Asks (program t defs) c choices request left → Asks (resolved_program t defs entry) d choices request left
    forth choices left request (values, ts, path, asks) =
        let at = (arrives t defs c d m).forth values ts path in
        let k : TaskAsks defs at.0 c.heap at.1 choices request left = (tasks_alike each t defs at.3.locals values at.0 c.heap at.3.agree at.3.same at.3.stays).0 choices left request asks in
        (at.0, at.1, at.2, subst (λ h. TaskAsks defs at.0 h at.1 choices request left) (sym m.heap) k)

    back : (choices left : List Choice) (request : Request) → Asks (resolved_program t defs entry) d choices request left → trees.Asks (program t defs) c choices request left
    back choices left request (numbered, us, path, asks) =
        let at = (arrives t defs c d m).back numbered us path in
        let here : TaskAsks defs numbered c.heap us choices request left = subst (λ h. TaskAsks defs numbered h us choices request left) m.heap asks in
        (at.0, at.1, at.2, (tasks_alike each t defs at.3.locals at.0 numbered c.heap at.3.agree at.3.same at.3.stays).1 choices left request here)
