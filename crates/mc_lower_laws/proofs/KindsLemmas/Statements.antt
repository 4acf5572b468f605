-- Statements without faults are of the kinds that are wanted.
use Rattle.std.proofs.Common.{◌≡◌, ◌<◌, ◌≤◌, ◌+◌, ℕ, zero, suc, Bool, true, false, cond, not, ◌==◌, List, [], ◌∷◌, ◌++◌, map, flat_map, length, Option, Some, None, option_map, find, is_none, pos, refl, sym, ap, subst, ◌∙◌, arith, eqb-true}
use Rattle.std.specs.Prelude.{slice_get, unwrap_or, ◌-ℤ◌}
use Rattle.std.specs.List.{AllZip, position_or_len}
use Rattle.std.proofs.lemmas.Bool.{lt-ltb}
use Rattle.std.proofs.lemmas.Int.{ints}
use Rattle.mc_base.specs.declared.ids.PredId.{PredId}
use Rattle.mc_base.specs.declared.plain.Kind.{Kind}
use Rattle.mc_base.specs.declared.plain.Kind.TheVariants.{Int as int_kind, Ptr}
use Rattle.mc_base.specs.Kinds.{InKind}
use Rattle.mc_base.specs.Text.Numbers.{max_number}
use Rattle.mc_base.specs.declared.text.place.Place.{Place}
use Rattle.mc_c_syntax.specs.declared.ast.trees.Base.{Base}
use Rattle.mc_c_syntax.specs.declared.ast.trees.Name.{Name}
use Rattle.mc_c_syntax.specs.declared.ast.trees.Argument.{Argument as ArgumentTree}
use Rattle.mc_c_syntax.specs.declared.ast.trees.Argument.TheVariants as Argument
use Rattle.mc_c_syntax.specs.Ast.Names.{is_same}
use Rattle.mc_c_syntax.specs.Ast.Trees as tree
use Rattle.mc_flow.specs.declared.defs.rules.Def.{Def}
use Rattle.mc_semantics.specs.Steps.{predicate_of}
use Rattle.mc_c_grammar.specs.Numbers.Numbers.{maybe_numbers, condition_numbers, right_numbers, initial_numbers, simple_numbers, start_numbers, argument_numbers, statement_numbers, statements_numbers}
use Rattle.mc_c_types.specs.Types.{is_pointer}
use Rattle.mc_c_types.specs.Tables.{Variable, type_in, kind_of, variable_of}
use Rattle.mc_c_types.specs.Scopes.{Scope, visible, inside, declare, behind, behind_items, behind_start}
use Rattle.mc_c_types.specs.Shapes.{Given, ShapeUse, argument_given, variable_given, statement_uses, statements_uses, kind_fits, given_faults, predicate_faults, use_faults}
use Rattle.mc_c_types.specs.Faults.{Context, unless, variable_type, variable_faults, expression_faults, no_pointer, condition_faults, value_faults, declarator_faults, item_faults, items_faults, start_faults, maybe_condition_faults, maybe_simple_faults, head_faults, return_faults, shape_argument_faults, statement_faults, statements_faults}
use Rattle.mc_c_types.specs.declared.faults.Fault.{Fault}
use Rattle.mc_c_types.specs.declared.faults.FaultName.TheVariants.{Mismatch, Twice, Arity}
use Rattle.mc_c_types.specs.declared.types.VariableType.{VariableType}
use Rattle.mc_c_types.specs.declared.types.VariableType.TheVariants.{Int, Pointer, Anything}
use Rattle.mc_c_types.specs.declared.types.ValueType.TheVariants.{Typed}
use Rattle.mc_semantics.specs.Resolved.Resolving.{Naming, number_in, start_variables, statement_variables, statements_variables, resolved_variable, resolved_condition, resolved_simple, resolved_right, resolved_items, resolved_argument, resolved_start, resolved_statement, resolved_statements}
use Rattle.mc_lower_laws.specs.Valid.Kinds.{Here, IsVariable, AreDeclared, IsDeclared, IsArgument, AreArguments, IsStart, IsLast, IsConditionPerhaps, IsReturned, IsOfKinds, AreOfKinds}
use Rattle.mc_lower_laws.proofs.ScopedLemmas.Faultless.{none_left, none_right}
use Rattle.mc_lower_laws.proofs.KindsLemmas.Types.{Each, each_left, each_right, each_both, IsProper, IsDefinite, definite, agreed, false_true, kept}
use Rattle.mc_lower_laws.proofs.KindsLemmas.Known.{AreSeen, named}
use Rattle.mc_lower_laws.proofs.KindsLemmas.Expressions.{AreSmall, Sees, in_int, small_left, small_right, a_pointer, condition_is}
use Rattle.mc_lower_laws.proofs.KindsLemmas.Meanings.{declarator_proper}
use Rattle.mc_lower_laws.proofs.KindsLemmas.Rights.{IsProperResult, IsKnownProgram, Stands, right_is, action_is}

-- ---- scopes
-- these variables are the function's, of their kinds
abbrev pub AreOwn : Naming → Here → List Variable → Type 0
AreOwn n h vs = Each (λ v. IsVariable h (kind_of v.type) (number_in n.locals v.place)) vs

own_left : (n : Naming) (h : Here) (xs ys : List Variable) → AreOwn n h (xs ++ ys) → AreOwn n h xs
own_left n h xs ys own = each_left (λ v. IsVariable h (kind_of v.type) (number_in n.locals v.place)) xs ys own

own_right : (n : Naming) (h : Here) (xs ys : List Variable) → AreOwn n h (xs ++ ys) → AreOwn n h ys
own_right n h xs ys own = each_right (λ v. IsVariable h (kind_of v.type) (number_in n.locals v.place)) xs ys own

seen_both : (n : Naming) (h : Here) (xs ys : List Variable) → AreSeen n h xs → AreSeen n h ys → AreSeen n h (xs ++ ys)
seen_both n h xs ys first second = each_both (λ v. IsProper (length n.tables.structs) v.type × IsVariable h (kind_of v.type) (number_in n.locals v.place)) xs ys first second

-- what is visible is known
pub record IsSeenScope (n : Naming) (h : Here) (s : Scope) : Type 0 where
  pub known : IsKnownProgram n h
  pub heads : AreSeen n h s.heads
  pub own : AreSeen n h s.own
  pub outer : AreSeen n h s.outer

stands : {n : Naming} {h : Here} (s : Scope) → IsSeenScope n h s → Stands n h (visible s)
stands {n} {h} s seen = record { known = seen.known; seen = seen_both n h (s.heads ++ s.own) s.outer (seen_both n h s.heads s.own seen.heads seen.own) seen.outer }

within : {n : Naming} {h : Here} (s : Scope) → IsSeenScope n h s → IsSeenScope n h (inside s)
within s seen = record { known = seen.known; heads = tt; own = tt; outer = (stands s seen).seen }

-- ---- declarations
item_parts : (n : Naming) (base : Base) (s : Scope) (item : tree.InitialTree) → item_faults n.tables base s item ≡ []
    → (declarator_faults n.tables base item.declarator ≡ [])
    × (value_faults n.tables (visible (declare s (variable_of n.tables base item.declarator))) (variable_of n.tables base item.declarator).type item.value ≡ [])
item_parts n base s item none =
    let x : List Fault = declarator_faults n.tables base item.declarator in
    let y : List Fault = unless (is_none (type_in s.own item.declarator.name.text)) Twice item.declarator.name.place in
    let z : List Fault = value_faults n.tables (visible (declare s (variable_of n.tables base item.declarator))) (variable_of n.tables base item.declarator).type item.value in
    (none_left x y (none_left (x ++ y) z none), none_right (x ++ y) z none)

abbrev item_variables : Naming → Base → List tree.InitialTree → List Variable
item_variables n base items = map (λ item. variable_of n.tables base item.declarator) items

declared : (n : Naming) (h : Here) (base : Base) (s : Scope) (item : tree.InitialTree) → IsSeenScope n h s
    → IsVariable h (kind_of (variable_of n.tables base item.declarator).type) (number_in n.locals item.declarator.name.place) → item_faults n.tables base s item ≡ []
    → IsSeenScope n h (declare s (variable_of n.tables base item.declarator))
declared n h base s item seen own none = record {
  known = seen.known;
  heads = seen.heads;
  own = ((declarator_proper n.tables seen.known.meant base item.declarator (item_parts n base s item none).0, own), seen.own);
  outer = seen.outer;
}

value_is : (n : Naming) (h : Here) (vs : List Variable) → Stands n h vs → (x : ℕ) (wanted : VariableType) (value : Option tree.Right) → IsDefinite wanted → IsVariable h (kind_of wanted) x
    → AreSmall (maybe_numbers right_numbers value) → value_faults n.tables vs wanted value ≡ [] → IsDeclared h x (option_map (resolved_right n vs) value)
value_is n h vs st x wanted None known is small none = tt
value_is n h vs st x wanted (Some right) known is small none = (kind_of wanted, is, right_is n h vs st wanted right known small none)

items_are : (n : Naming) (h : Here) (base : Base) (s : Scope) (items : List tree.InitialTree) → IsSeenScope n h s → AreOwn n h (item_variables n base items)
    → AreSmall (flat_map initial_numbers items) → items_faults n.tables base s items ≡ [] → AreDeclared h (resolved_items n s base items)
items_are n h base s [] seen own small none = tt
items_are n h base s (item ∷ items) seen own small none =
    let v : Variable = variable_of n.tables base item.declarator in
    let x : List Fault = item_faults n.tables base s item in
    let y : List Fault = items_faults n.tables base (declare s v) items in
    let first : x ≡ [] = none_left x y none in
    let later = declared n h base s item seen own.0 first in (
      value_is n h (visible (declare s v)) (stands (declare s v) later) (number_in n.locals item.declarator.name.place) v.type item.value
          (definite (length n.tables.structs) v.type later.own.0.0) own.0 (small_left (initial_numbers item) (flat_map initial_numbers items) small) (item_parts n base s item first).1,
      items_are n h base (declare s v) items later own.1 (small_right (initial_numbers item) (flat_map initial_numbers items) small) (none_right x y none),
    )

items_behind : (n : Naming) (h : Here) (base : Base) (s : Scope) (items : List tree.InitialTree) → IsSeenScope n h s → AreOwn n h (item_variables n base items)
    → items_faults n.tables base s items ≡ [] → IsSeenScope n h (behind_items n.tables base s items)
items_behind n h base s [] seen own none = seen
items_behind n h base s (item ∷ items) seen own none =
    let v : Variable = variable_of n.tables base item.declarator in
    let x : List Fault = item_faults n.tables base s item in
    let y : List Fault = items_faults n.tables base (declare s v) items in
    items_behind n h base (declare s v) items (declared n h base s item seen own.0 (none_left x y none)) own.1 (none_right x y none)

start_behind : (n : Naming) (h : Here) (s : Scope) (start : tree.Start) → IsSeenScope n h s → AreOwn n h (start_variables n.tables start) → start_faults n.tables s start ≡ []
    → IsSeenScope n h (behind_start n.tables s start)
start_behind n h s tree.nothing seen own none = seen
start_behind n h s (tree.declares d) seen own none =
    let later = items_behind n h d.base (inside s) d.items (within s seen) own none in
    record { known = seen.known; heads = seen_both n h (behind_items n.tables d.base (inside s) d.items).own s.heads later.own seen.heads; own = seen.own; outer = seen.outer }
start_behind n h s (tree.performs x) seen own none = seen

-- ---- what is visible after a statement
abbrev pub context : Naming → Option VariableType → Bool → Context
context n result loop = record { tables = n.tables; result = result; in_loop = loop }

head_parts : (n : Naming) (s : Scope) (head : tree.Head) → head_faults n.tables s head ≡ []
    → (start_faults n.tables s head.start ≡ []) × (maybe_condition_faults n.tables (visible (behind_start n.tables s head.start)) head.condition ≡ [])
    × (maybe_simple_faults n.tables (visible (behind_start n.tables s head.start)) head.last ≡ [])
head_parts n s head none =
    let x : List Fault = start_faults n.tables s head.start in
    let y : List Fault = maybe_condition_faults n.tables (visible (behind_start n.tables s head.start)) head.condition in
    let z : List Fault = maybe_simple_faults n.tables (visible (behind_start n.tables s head.start)) head.last in
    let both : (x ++ y) ≡ [] = none_left (x ++ y) z none in
    (none_left x y both, none_right x y both, none_right (x ++ y) z none)

pub seen_behind : (n : Naming) (h : Here) (result : Option VariableType) (loop : Bool) (s : Scope) (a : tree.Stmt) → IsSeenScope n h s → AreOwn n h (statement_variables n.tables a)
    → statement_faults (context n result loop) s a ≡ [] → IsSeenScope n h (behind n.tables s a)
seen_behind n h result loop s (tree.declaration d) seen own none = items_behind n h d.base s d.items seen own none
seen_behind n h result loop s (tree.block p ss) seen own none = seen
seen_behind n h result loop s (tree.empty p) seen own none = seen
seen_behind n h result loop s (tree.simple x) seen own none = seen
seen_behind n h result loop s (tree.free p e) seen own none = seen
seen_behind n h result loop s (tree.assert p c) seen own none = seen
seen_behind n h result loop s (tree.assume p c) seen own none = seen
seen_behind n h result loop s (tree.assume_shape p predicate x args) seen own none = seen
seen_behind n h result loop s (tree.assert_shape p predicate a args) seen own none = seen
seen_behind n h result loop s (tree.assert_empty p) seen own none = seen
seen_behind n h result loop s (tree.if_only p c a) seen own none =
    seen_behind n h result loop s a seen own (none_right (condition_faults n.tables (visible s) c) (statement_faults (context n result loop) s a) none)
seen_behind n h result loop s (tree.if_else p c a b) seen own none =
    let x : List Fault = condition_faults n.tables (visible s) c in
    let y : List Fault = statement_faults (context n result loop) s a in
    let z : List Fault = statement_faults (context n result loop) (behind n.tables s a) b in
    let middle = seen_behind n h result loop s a seen (own_left n h (statement_variables n.tables a) (statement_variables n.tables b) own) (none_right x y (none_left (x ++ y) z none)) in
    seen_behind n h result loop (behind n.tables s a) b middle (own_right n h (statement_variables n.tables a) (statement_variables n.tables b) own) (none_right (x ++ y) z none)
seen_behind n h result loop s (tree.while_loop p c a) seen own none =
    seen_behind n h result true s a seen own (none_right (condition_faults n.tables (visible s) c) (statement_faults (context n result true) s a) none)
seen_behind n h result loop s (tree.do_loop p a c) seen own none =
    seen_behind n h result true s a seen own (none_left (statement_faults (context n result true) s a) (condition_faults n.tables (visible (behind n.tables s a)) c) none)
seen_behind n h result loop s (tree.for_loop head a) seen own none =
    let x : List Fault = head_faults n.tables s head in
    let y : List Fault = statement_faults (context n result true) (behind_start n.tables s head.start) a in
    let started = start_behind n h s head.start seen (own_left n h (start_variables n.tables head.start) (statement_variables n.tables a) own) (head_parts n s head (none_left x y none)).0 in
    let done = seen_behind n h result true (behind_start n.tables s head.start) a started (own_right n h (start_variables n.tables head.start) (statement_variables n.tables a) own) (none_right x y none) in
    record { known = seen.known; heads = seen.heads; own = done.own; outer = seen.outer }
seen_behind n h result loop s (tree.break_loop p) seen own none = seen
seen_behind n h result loop s (tree.continue_loop p) seen own none = seen
seen_behind n h result loop s (tree.returns p r) seen own none = seen

-- ---- shape commands
definition_at : (defs : List Def) (name : List ℕ) (def : Def) → find (λ d. is_same d.name name) defs ≡ Some def
    → (position_or_len (λ d. is_same d.name name) defs < length defs) × (slice_get defs (position_or_len (λ d. is_same d.name name) defs) ≡ Some def)
definition_at [] name def e = absurd (cc)
definition_at (d ∷ defs) name def e =
    at (is_same d.name name) (find (λ other. is_same other.name name) defs) (position_or_len (λ other. is_same other.name name) defs) (λ more. definition_at defs name def more) e
  where
    at : (b : Bool) (rest : Option Def) (k : ℕ) → (rest ≡ Some def → (k < length defs) × (slice_get defs k ≡ Some def)) → cond b (Some d) rest ≡ Some def
        → (cond (not b) (1 + k) 0 < length (d ∷ defs)) × (slice_get (d ∷ defs) (cond (not b) (1 + k) 0) ≡ Some def)
    at true rest k later f = (omega arith, f)
    at false rest k later f =
        let r = later f in
        let next : 1 + k ≡ suc k = omega arith in
        (omega (arith, r.0), ap (λ i. slice_get (d ∷ defs) i) next ∙ r.1)

predicate_is : (defs : List Def) (name : Name) (def : Def) → find (λ d. is_same d.name name.text) defs ≡ Some def → slice_get defs (predicate_of defs name).0 ≡ Some def
predicate_is defs name def e =
    let r = definition_at defs name.text def e in
    let k : ℕ = position_or_len (λ d. is_same d.name name.text) defs in
    ap (λ b. slice_get defs (unwrap_or (option_map (λ i. let p : PredId = record { 0 = i } in p) (cond b (Some k) None)) (record { 0 = 0 })).0) (lt-ltb k (length defs) r.0) ∙ r.1

same_kind : (count : ℕ) (kind : Kind) (type : VariableType) → IsProper count type → kind_fits kind (Typed type) ≡ true → kind_of type ≡ kind
same_kind count int_kind type proper e = sym (agreed Int type tt (definite count type proper) e)
same_kind count Ptr Int proper e = absurd (false_true e)
same_kind count Ptr (Pointer s) proper e = refl
same_kind count Ptr Anything proper e = absurd proper

variable_is : (n : Naming) (h : Here) (vs : List Variable) → Stands n h vs → (kind : Kind) (name : Name) → variable_faults vs name ≡ [] → kind_fits kind (Typed (variable_type vs name)) ≡ true
    → IsVariable h kind (resolved_variable n vs name)
variable_is n h vs st kind name none fit =
    let r = named n h vs name st.seen none in
    subst (λ k. IsVariable h k (resolved_variable n vs name)) (same_kind (length n.tables.structs) kind (variable_type vs name) r.proper fit) r.is

below_zero : (k : ℕ) → k ≤ max_number → InKind int_kind (pos 0 -ℤ pos k)
below_zero k small = omega (arith, ints, small)

argument_is : (n : Naming) (h : Here) (vs : List Variable) → Stands n h vs → (kind : Kind) (a : ArgumentTree) → AreSmall (argument_numbers a) → shape_argument_faults vs a ≡ []
    → kind_fits kind (argument_given vs a).type ≡ true → IsArgument h kind (resolved_argument n vs a)
argument_is n h vs st kind (Argument.Name name) small none fit = variable_is n h vs st kind name none fit
argument_is n h vs st int_kind (Argument.Null p) small none fit = absurd (false_true fit)
argument_is n h vs st Ptr (Argument.Null p) small none fit = refl
argument_is n h vs st int_kind (Argument.Number k p) small none fit = in_int k small.0
argument_is n h vs st Ptr (Argument.Number zero p) small none fit = refl
argument_is n h vs st Ptr (Argument.Number (suc k) p) small none fit = absurd (false_true fit)
argument_is n h vs st int_kind (Argument.Negative k p) small none fit = below_zero k small.0
argument_is n h vs st Ptr (Argument.Negative k p) small none fit = absurd (false_true fit)

arguments_are : (n : Naming) (h : Here) (vs : List Variable) → Stands n h vs → (kinds : List Kind) (args : List ArgumentTree) → AreSmall (flat_map argument_numbers args)
    → flat_map (shape_argument_faults vs) args ≡ [] → given_faults kinds (map (argument_given vs) args) ≡ [] → length (map (argument_given vs) args) ≡ length kinds
    → AllZip (λ a kind. IsArgument h kind a) (map (resolved_argument n vs) args) kinds
arguments_are n h vs st [] [] small none fit same = tt
arguments_are n h vs st [] (a ∷ args) small none fit same = absurd (omega (arith, same))
arguments_are n h vs st (kind ∷ kinds) [] small none fit same = absurd (omega (arith, same))
arguments_are n h vs st (kind ∷ kinds) (a ∷ args) small none fit same =
    let u : List Fault = shape_argument_faults vs a in
    let v : List Fault = flat_map (shape_argument_faults vs) args in
    let x : List Fault = unless (kind_fits kind (argument_given vs a).type) Mismatch (argument_given vs a).place in
    let y : List Fault = given_faults kinds (map (argument_given vs) args) in (
      argument_is n h vs st kind a (small_left (argument_numbers a) (flat_map argument_numbers args) small) (none_left u v none)
          (kept (kind_fits kind (argument_given vs a).type) Mismatch (argument_given vs a).place (none_left x y fit)),
      arguments_are n h vs st kinds args (small_right (argument_numbers a) (flat_map argument_numbers args) small) (none_right u v none) (none_right x y fit) (omega (arith, same)),
    )

record Commands (n : Naming) (h : Here) (vs : List Variable) (predicate : Name) (start : Given) (args : List ArgumentTree) : Type 0 where
  pointer : is_pointer start.type ≡ true
  arguments : AreArguments h (predicate_of n.defs predicate) (map (resolved_argument n vs) args)

commands : (n : Naming) (h : Here) (vs : List Variable) → Stands n h vs → (predicate : Name) (start : Given) (args : List ArgumentTree) → AreSmall (flat_map argument_numbers args)
    → flat_map (shape_argument_faults vs) args ≡ [] → use_faults n.defs (record { predicate = predicate; start = start; arguments = map (argument_given vs) args }) ≡ []
    → Commands n h vs predicate start args
commands n h vs st predicate start args small none fit = at (find (λ d. is_same d.name predicate.text) n.defs) refl fit
  where
    command : ShapeUse
    command = record { predicate = predicate; start = start; arguments = map (argument_given vs) args }

    at : (o : Option Def) → find (λ d. is_same d.name predicate.text) n.defs ≡ o → predicate_faults command o ≡ [] → Commands n h vs predicate start args
    at None same e = absurd (cc)
    at (Some def) same e =
        let x : List Fault = unless (length (map (argument_given vs) args) == length def.params) Arity predicate.place in
        let y : List Fault = unless (is_pointer start.type) Mismatch start.place in
        let z : List Fault = given_faults def.params (map (argument_given vs) args) in
        let both : (x ++ y) ≡ [] = none_left (x ++ y) z e in
        record {
          pointer = kept (is_pointer start.type) Mismatch start.place (none_right x y both);
          arguments = record {
            def = def;
            defined = subst (λ defs. slice_get defs (predicate_of n.defs predicate).0 ≡ Some def) (sym st.known.defs) (predicate_is n.defs predicate def same);
            fit = arguments_are n h vs st def.params args small none (none_right (x ++ y) z e)
                (eqb-true (length (map (argument_given vs) args)) (length def.params)
                (kept (length (map (argument_given vs) args) == length def.params) Arity predicate.place (none_left x y both)));
          };
        }

-- ---- parts of statements
start_is : (n : Naming) (h : Here) (s : Scope) (start : tree.Start) → IsSeenScope n h s → AreOwn n h (start_variables n.tables start) → AreSmall (start_numbers start)
    → start_faults n.tables s start ≡ [] → IsStart h (resolved_start n s start)
start_is n h s tree.nothing seen own small none = tt
start_is n h s (tree.declares d) seen own small none = items_are n h d.base (inside s) d.items (within s seen) own small none
start_is n h s (tree.performs x) seen own small none = action_is n h (visible s) (stands s seen) x small none

perhaps_is : (n : Naming) (h : Here) (vs : List Variable) → Stands n h vs → (c : Option tree.Cond) → AreSmall (maybe_numbers condition_numbers c) → maybe_condition_faults n.tables vs c ≡ []
    → IsConditionPerhaps h (option_map (resolved_condition n vs) c)
perhaps_is n h vs st None small none = tt
perhaps_is n h vs st (Some c) small none = condition_is n h vs (record { shaped = st.known.shaped; seen = st.seen }) c small none

last_is : (n : Naming) (h : Here) (vs : List Variable) → Stands n h vs → (x : Option tree.SimpleTree) → AreSmall (maybe_numbers simple_numbers x) → maybe_simple_faults n.tables vs x ≡ []
    → IsLast h (option_map (resolved_simple n vs) x)
last_is n h vs st None small none = tt
last_is n h vs st (Some x) small none = action_is n h vs st x small none

-- the result of the function around
pub record IsFrame (n : Naming) (h : Here) (result : Option VariableType) : Type 0 where
  pub proper : IsProperResult (length n.tables.structs) result
  pub is : h.function.result ≡ option_map kind_of result

returned_is : (n : Naming) (h : Here) (vs : List Variable) → Stands n h vs → (result : Option VariableType) → IsFrame n h result → (p : Place) (right : Option tree.Right)
    → AreSmall (maybe_numbers right_numbers right) → return_faults n.tables vs result p right ≡ [] → IsReturned h (option_map (resolved_right n vs) right)
returned_is n h vs st None frame p None small none = tt
returned_is n h vs st None frame p (Some right) small none = absurd (cc)
returned_is n h vs st (Some wanted) frame p None small none = absurd (cc)
returned_is n h vs st (Some wanted) frame p (Some right) small none =
    (kind_of wanted, frame.is, right_is n h vs st wanted right (definite (length n.tables.structs) wanted frame.proper) small none)

conditioned : {n : Naming} {h : Here} (s : Scope) → IsSeenScope n h s → Sees n h (visible s)
conditioned s seen = let st = stands s seen in record { shaped = st.known.shaped; seen = st.seen }

-- ---- statements
abbrev pub AreFit : Naming → List ShapeUse → Type 0
AreFit n uses = Each (λ u. use_faults n.defs u ≡ []) uses

fit_left : (n : Naming) (us ws : List ShapeUse) → AreFit n (us ++ ws) → AreFit n us
fit_left n us ws fit = each_left (λ u. use_faults n.defs u ≡ []) us ws fit

fit_right : (n : Naming) (us ws : List ShapeUse) → AreFit n (us ++ ws) → AreFit n ws
fit_right n us ws fit = each_right (λ u. use_faults n.defs u ≡ []) us ws fit

-- a statement in its scope has no faults, small numbers, variables of its function and shape commands that fit
pub record IsGood (n : Naming) (h : Here) (result : Option VariableType) (loop : Bool) (s : Scope) (a : tree.Stmt) : Type 0 where
  pub seen : IsSeenScope n h s
  pub own : AreOwn n h (statement_variables n.tables a)
  pub small : AreSmall (statement_numbers a)
  pub none : statement_faults (context n result loop) s a ≡ []
  pub fit : AreFit n (statement_uses n.tables s a)

pub record AreGood (n : Naming) (h : Here) (result : Option VariableType) (loop : Bool) (s : Scope) (ss : tree.Stmts) : Type 0 where
  pub seen : IsSeenScope n h s
  pub own : AreOwn n h (statements_variables n.tables ss)
  pub small : AreSmall (statements_numbers ss)
  pub none : statements_faults (context n result loop) s ss ≡ []
  pub fit : AreFit n (statements_uses n.tables s ss)

mutual
  pub statement_is : (n : Naming) (h : Here) (result : Option VariableType) → IsFrame n h result → (loop : Bool) (s : Scope) (a : tree.Stmt) → IsGood n h result loop s a
      → IsOfKinds h (resolved_statement n s a)
  statement_is n h result frame loop s (tree.declaration d) g = items_are n h d.base s d.items g.seen g.own g.small g.none
  statement_is n h result frame loop s (tree.block p ss) g =
      statements_is n h result frame loop (inside s) ss (record { seen = within s g.seen; own = g.own; small = g.small; none = g.none; fit = g.fit })
  statement_is n h result frame loop s (tree.empty p) g = tt
  statement_is n h result frame loop s (tree.simple x) g = action_is n h (visible s) (stands s g.seen) x g.small g.none
  statement_is n h result frame loop s (tree.free p e) g =
      let x : List Fault = expression_faults n.tables (visible s) e in
      let y : List Fault = no_pointer n.tables (visible s) e in
      a_pointer n h (visible s) (conditioned s g.seen) e g.small (none_left x y g.none) (none_right x y g.none)
  statement_is n h result frame loop s (tree.assert p c) g = condition_is n h (visible s) (conditioned s g.seen) c g.small g.none
  statement_is n h result frame loop s (tree.assume p c) g = condition_is n h (visible s) (conditioned s g.seen) c g.small g.none
  statement_is n h result frame loop s (tree.assume_shape p predicate x args) g =
      let u : List Fault = variable_faults (visible s) x in
      let v : List Fault = flat_map (shape_argument_faults (visible s)) args in
      let r = commands n h (visible s) (stands s g.seen) predicate (variable_given (visible s) x) args g.small (none_right u v g.none) g.fit.0 in
      (variable_is n h (visible s) (stands s g.seen) Ptr x (none_left u v g.none) r.pointer, r.arguments)
  statement_is n h result frame loop s (tree.assert_shape p predicate a args) g =
      let u : List Fault = shape_argument_faults (visible s) a in
      let v : List Fault = flat_map (shape_argument_faults (visible s)) args in
      let r = commands n h (visible s) (stands s g.seen) predicate (argument_given (visible s) a) args
      (small_right (argument_numbers a) (flat_map argument_numbers args) g.small) (none_right u v g.none) g.fit.0 in
      (argument_is n h (visible s) (stands s g.seen) Ptr a (small_left (argument_numbers a) (flat_map argument_numbers args) g.small) (none_left u v g.none) r.pointer, r.arguments)
  statement_is n h result frame loop s (tree.assert_empty p) g = tt
  statement_is n h result frame loop s (tree.if_only p c a) g =
      let x : List Fault = condition_faults n.tables (visible s) c in
      let y : List Fault = statement_faults (context n result loop) s a in (
        condition_is n h (visible s) (conditioned s g.seen) c (small_left (condition_numbers c) (statement_numbers a) g.small) (none_left x y g.none),
        statement_is n h result frame loop s a
            (record { seen = g.seen; own = g.own; small = small_right (condition_numbers c) (statement_numbers a) g.small; none = none_right x y g.none; fit = g.fit }),
      )
  statement_is n h result frame loop s (tree.if_else p c a b) g =
      let x : List Fault = condition_faults n.tables (visible s) c in
      let y : List Fault = statement_faults (context n result loop) s a in
      let z : List Fault = statement_faults (context n result loop) (behind n.tables s a) b in
      let both : (x ++ y) ≡ [] = none_left (x ++ y) z g.none in
      let numbers = small_right (condition_numbers c) (statement_numbers a ++ statement_numbers b) g.small in
      let first = own_left n h (statement_variables n.tables a) (statement_variables n.tables b) g.own in (
        condition_is n h (visible s) (conditioned s g.seen) c (small_left (condition_numbers c) (statement_numbers a ++ statement_numbers b) g.small) (none_left x y both),
        statement_is n h result frame loop s a (record {
          seen = g.seen;
          own = first;
          small = small_left (statement_numbers a) (statement_numbers b) numbers;
          none = none_right x y both;
          fit = fit_left n (statement_uses n.tables s a) (statement_uses n.tables (behind n.tables s a) b) g.fit;
        }),
        statement_is n h result frame loop (behind n.tables s a) b (record {
          seen = seen_behind n h result loop s a g.seen first (none_right x y both);
          own = own_right n h (statement_variables n.tables a) (statement_variables n.tables b) g.own;
          small = small_right (statement_numbers a) (statement_numbers b) numbers;
          none = none_right (x ++ y) z g.none;
          fit = fit_right n (statement_uses n.tables s a) (statement_uses n.tables (behind n.tables s a) b) g.fit;
        }),
      )
  statement_is n h result frame loop s (tree.while_loop p c a) g =
      let x : List Fault = condition_faults n.tables (visible s) c in
      let y : List Fault = statement_faults (context n result true) s a in (
        condition_is n h (visible s) (conditioned s g.seen) c (small_left (condition_numbers c) (statement_numbers a) g.small) (none_left x y g.none),
        statement_is n h result frame true s a
            (record { seen = g.seen; own = g.own; small = small_right (condition_numbers c) (statement_numbers a) g.small; none = none_right x y g.none; fit = g.fit }),
      )
  statement_is n h result frame loop s (tree.do_loop p a c) g =
      let x : List Fault = statement_faults (context n result true) s a in
      let y : List Fault = condition_faults n.tables (visible (behind n.tables s a)) c in
      let later = seen_behind n h result true s a g.seen g.own (none_left x y g.none) in (
        statement_is n h result frame true s a
            (record { seen = g.seen; own = g.own; small = small_left (statement_numbers a) (condition_numbers c) g.small; none = none_left x y g.none; fit = g.fit }),
        condition_is n h (visible (behind n.tables s a)) (conditioned (behind n.tables s a) later) c (small_right (statement_numbers a) (condition_numbers c) g.small) (none_right x y g.none),
      )
  statement_is n h result frame loop s (tree.for_loop head a) g =
      let x : List Fault = head_faults n.tables s head in
      let y : List Fault = statement_faults (context n result true) (behind_start n.tables s head.start) a in
      let parts = head_parts n s head (none_left x y g.none) in
      let first = own_left n h (start_variables n.tables head.start) (statement_variables n.tables a) g.own in
      let later = start_behind n h s head.start g.seen first parts.0 in
      let testing : List ℕ = maybe_numbers condition_numbers head.condition in
      let ending : List ℕ = maybe_numbers simple_numbers head.last in
      let heading = small_left (start_numbers head.start ++ (testing ++ ending)) (statement_numbers a) g.small in
      let rest = small_right (start_numbers head.start) (testing ++ ending) heading in
      let st = stands (behind_start n.tables s head.start) later in (
        start_is n h s head.start g.seen first (small_left (start_numbers head.start) (testing ++ ending) heading) parts.0,
        perhaps_is n h (visible (behind_start n.tables s head.start)) st head.condition (small_left testing ending rest) parts.1,
        last_is n h (visible (behind_start n.tables s head.start)) st head.last (small_right testing ending rest) parts.2,
        statement_is n h result frame true (behind_start n.tables s head.start) a (record {
          seen = later;
          own = own_right n h (start_variables n.tables head.start) (statement_variables n.tables a) g.own;
          small = small_right (start_numbers head.start ++ (testing ++ ending)) (statement_numbers a) g.small;
          none = none_right x y g.none;
          fit = g.fit;
        }),
      )
  statement_is n h result frame loop s (tree.break_loop p) g = tt
  statement_is n h result frame loop s (tree.continue_loop p) g = tt
  statement_is n h result frame loop s (tree.returns p right) g = returned_is n h (visible s) (stands s g.seen) result frame p right g.small g.none

  pub statements_is : (n : Naming) (h : Here) (result : Option VariableType) → IsFrame n h result → (loop : Bool) (s : Scope) (ss : tree.Stmts) → AreGood n h result loop s ss
      → AreOfKinds h (resolved_statements n s ss)
  statements_is n h result frame loop s tree.no_more g = tt
  statements_is n h result frame loop s (tree.then a more) g =
      let x : List Fault = statement_faults (context n result loop) s a in
      let y : List Fault = statements_faults (context n result loop) (behind n.tables s a) more in
      let first = own_left n h (statement_variables n.tables a) (statements_variables n.tables more) g.own in (
        statement_is n h result frame loop s a (record {
          seen = g.seen;
          own = first;
          small = small_left (statement_numbers a) (statements_numbers more) g.small;
          none = none_left x y g.none;
          fit = fit_left n (statement_uses n.tables s a) (statements_uses n.tables (behind n.tables s a) more) g.fit;
        }),
        statements_is n h result frame loop (behind n.tables s a) more (record {
          seen = seen_behind n h result loop s a g.seen first (none_left x y g.none);
          own = own_right n h (statement_variables n.tables a) (statements_variables n.tables more) g.own;
          small = small_right (statement_numbers a) (statements_numbers more) g.small;
          none = none_right x y g.none;
          fit = fit_right n (statement_uses n.tables s a) (statements_uses n.tables (behind n.tables s a) more) g.fit;
        }),
      )
