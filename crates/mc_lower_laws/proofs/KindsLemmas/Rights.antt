-- Calls, right sides and simple statements without faults are of the kinds that are wanted.
use Rattle.std.proofs.Common.{◌≡◌, ◌<◌, ◌≤◌, ℕ, Bool, true, ◌==◌, List, [], ◌∷◌, ◌++◌, map, flat_map, length, Option, Some, None, option_map, refl, sym, ap, subst, arith, eqb-true}
use Rattle.std.specs.Prelude.{slice_get, take}
use Rattle.std.specs.List.{AllZip}
use Rattle.mc_base.specs.declared.plain.Kind.TheVariants.{Int as int_kind, Ptr}
use Rattle.mc_base.specs.Text.Numbers.{max_number}
use Rattle.mc_base.specs.declared.text.place.Place.{Place}
use Rattle.mc_c_syntax.specs.declared.ast.trees.Parameter.{Parameter}
use Rattle.mc_c_syntax.specs.declared.ast.trees.Size.{Size}
use Rattle.mc_c_syntax.specs.Ast.Trees as tree
use Rattle.mc_flow.specs.declared.defs.rules.Def.{Def}
use Rattle.mc_flow.specs.Valid.{IsStruct}
use Rattle.mc_lower_spec.specs.Values.{struct_at}
use Rattle.mc_c_grammar.specs.Numbers.Numbers.{expression_numbers, call_numbers, right_numbers, simple_numbers}
use Rattle.mc_c_types.specs.Types.{fits, is_int, is_pointer, result_fits, allocates}
use Rattle.mc_c_types.specs.Tables.{Tables, Variable, kind_of, variable_of, parameters_of, listed_parameters, returned_type, called_function}
use Rattle.mc_c_types.specs.Faults.{variable_faults, variable_type, value_type, expression_faults, no_fit, no_int, left_type, left_faults, first_place, unless, argument_faults, callee_faults, call_faults, call_fits, pointed_meaning, size_meaning, size_faults, size_place, cast_faults, right_faults, changed_faults, simple_faults}
use Rattle.mc_c_types.specs.declared.faults.Fault.{Fault}
use Rattle.mc_c_types.specs.declared.faults.FaultName.TheVariants.{Mismatch, Arity, BadSizeof}
use Rattle.mc_c_types.specs.declared.types.VariableType.{VariableType}
use Rattle.mc_c_types.specs.declared.types.VariableType.TheVariants.{Int, Pointer, Anything}
use Rattle.mc_c_types.specs.declared.types.ValueType.TheVariants.{Typed}
use Rattle.mc_c_types.specs.declared.types.BaseType.{BaseType}
use Rattle.mc_semantics.specs.Steps.{struct_of}
use Rattle.mc_semantics.specs.Resolved.Programs.{Function}
use Rattle.mc_semantics.specs.Resolved.Resolving.{Naming, function_number, local_of, resolved_function, resolved_expression, resolved_call, resolved_right, resolved_left, resolved_action}
use Rattle.mc_lower_laws.specs.Valid.Kinds.{Here, IsOf, IsLeft, IsCall, IsRight, IsAction}
use Rattle.mc_lower_laws.proofs.ScopedLemmas.Faultless.{none_left, none_right}
use Rattle.mc_lower_laws.proofs.KindsLemmas.Types.{Each, each_left, each_right, IsProper, IsDefinite, definite, agreed, false_true, kept}
use Rattle.mc_lower_laws.proofs.KindsLemmas.Known.{AreShaped, AreSeen, named, placed}
use Rattle.mc_lower_laws.proofs.KindsLemmas.Expressions.{AreSmall, Sees, in_int, of_kind, an_int}
use Rattle.mc_lower_laws.proofs.KindsLemmas.Meanings.{IsMeant, AreMeant, base_meant}

-- ---- what is known of a program
abbrev pub IsProperResult : ℕ → Option VariableType → Type 0
IsProperResult count None = Unit {0}
IsProperResult count (Some type) = IsProper count type

-- a function that is called, with its number
pub record IsCallee (t : Tables) (defs : List Def) (functions : List Function) (name : List ℕ) (f : tree.FunctionTree) : Type 0 where
  pub there : slice_get functions (function_number t name) ≡ Some (resolved_function t defs f)
  pub parameters : Each (λ v. IsProper (length t.structs) v.type) (parameters_of t f)
  pub returned : IsProperResult (length t.structs) (returned_type t f.returned)

pub record IsKnownProgram (n : Naming) (h : Here) : Type 0 where
  pub shaped : AreShaped n.tables h
  pub many : (s : ℕ) → s < length n.tables.structs → s < length h.structs.list
  pub meant : AreMeant (length n.tables.structs) n.tables.aliases
  pub callees : (name : List ℕ) (f : tree.FunctionTree) → called_function n.tables name ≡ Some f → IsCallee n.tables n.defs h.program.functions name f
  pub defs : h.program.defs ≡ n.defs

-- where a part of a function stands
pub record Stands (n : Naming) (h : Here) (vs : List Variable) : Type 0 where
  pub known : IsKnownProgram n h
  pub seen : AreSeen n h vs

sees : {n : Naming} {h : Here} {vs : List Variable} → Stands n h vs → Sees n h vs
sees st = record { shaped = st.known.shaped; seen = st.seen }

-- ---- calls
arguments_fit : (n : Naming) (h : Here) (vs : List Variable) → Stands n h vs → (ps : List Parameter) (ws : List Variable) (es : List tree.Expr)
    → Each (λ v. IsProper (length n.tables.structs) v.type) (map (λ p. variable_of n.tables p.base p.declarator) ps) → AreSmall (flat_map expression_numbers es)
    → flat_map (expression_faults n.tables vs) es ≡ [] → argument_faults n.tables vs ps es ≡ [] → length es ≡ length ps
    → AllZip (λ e l. IsOf h l.kind e) (map (resolved_expression n vs) es)
    (take (length (map (λ p. variable_of n.tables p.base p.declarator) ps)) (map local_of (map (λ p. variable_of n.tables p.base p.declarator) ps ++ ws)))
arguments_fit n h vs st [] ws [] proper small none fit same = tt
arguments_fit n h vs st [] ws (e ∷ es) proper small none fit same = absurd (omega (arith, same))
arguments_fit n h vs st (p ∷ ps) ws [] proper small none fit same = absurd (omega (arith, same))
arguments_fit n h vs st (p ∷ ps) ws (e ∷ es) proper small none fit same =
    let w : VariableType = (variable_of n.tables p.base p.declarator).type in
    let u : List Fault = expression_faults n.tables vs e in
    let v : List Fault = flat_map (expression_faults n.tables vs) es in
    let x : List Fault = no_fit n.tables vs w e in
    let y : List Fault = argument_faults n.tables vs ps es in (
      of_kind n h vs (sees st) w e (definite (length n.tables.structs) w proper.0)
          (each_left (λ k. k ≤ max_number) (expression_numbers e) (flat_map expression_numbers es) small) (none_left u v none)
          (kept (fits w (value_type n.tables vs e)) Mismatch (first_place e) (none_left x y fit)),
      arguments_fit n h vs st ps ws es proper.1 (each_right (λ k. k ≤ max_number) (expression_numbers e) (flat_map expression_numbers es) small)
          (none_right u v none) (none_right x y fit) (omega (arith, same)),
    )

pub record Calls (n : Naming) (h : Here) (vs : List Variable) (c : tree.CallTree) : Type 0 where
  pub callee : tree.FunctionTree
  pub is : called_function n.tables c.function.text ≡ Some callee
  pub returned : IsProperResult (length n.tables.structs) (returned_type n.tables callee.returned)
  pub call : IsCall h (option_map kind_of (returned_type n.tables callee.returned)) (resolved_call n vs c)

pub calls : (n : Naming) (h : Here) (vs : List Variable) → Stands n h vs → (c : tree.CallTree) → AreSmall (call_numbers c) → call_faults n.tables vs c ≡ [] → Calls n h vs c
calls n h vs st c small none = at (called_function n.tables c.function.text) refl none
  where
    v : List Fault
    v = flat_map (expression_faults n.tables vs) c.arguments

    at : (o : Option tree.FunctionTree) → called_function n.tables c.function.text ≡ o → callee_faults n.tables vs c o ++ v ≡ [] → Calls n h vs c
    at None same e = absurd (cc)
    at (Some f) same e =
        let arity : List Fault = unless (length c.arguments == length (listed_parameters f.parameters)) Arity c.function.place in
        let given : List Fault = argument_faults n.tables vs (listed_parameters f.parameters) c.arguments in
        let both : (arity ++ given) ≡ [] = none_left (arity ++ given) v e in
        let callee = st.known.callees c.function.text f same in
        record {
          callee = f;
          is = same;
          returned = callee.returned;
          call = record {
            callee = resolved_function n.tables n.defs f;
            there = callee.there;
            arguments = arguments_fit n h vs st (listed_parameters f.parameters) _ c.arguments callee.parameters small (none_right (arity ++ given) v e) (none_right arity given both)
                (eqb-true (length c.arguments) (length (listed_parameters f.parameters))
                (kept (length c.arguments == length (listed_parameters f.parameters)) Arity c.function.place (none_left arity given both)));
            answers = refl;
          };
        }

-- ---- right sides
result_kind : (count : ℕ) (wanted : VariableType) (result : Option VariableType) → IsDefinite wanted → IsProperResult count result → result_fits wanted result ≡ true
    → option_map kind_of result ≡ Some (kind_of wanted)
result_kind count wanted None known proper e = absurd (false_true e)
result_kind count wanted (Some given) known proper e = ap Some (sym (agreed wanted given known (definite count given proper) e))

-- what is allocated
pointed_allocated : (count : ℕ) (type : VariableType) (p : Place) → IsProper count type → IsMeant count (Some p) (pointed_meaning type)
pointed_allocated count Int p proper = tt
pointed_allocated count (Pointer s) p proper = proper
pointed_allocated count Anything p proper = proper

size_meant : (n : Naming) (h : Here) (vs : List Variable) → Stands n h vs → (size : Size) → size_faults n.tables vs size ≡ []
    → IsMeant (length n.tables.structs) (Some (size_place size)) (size_meaning n.tables vs size)
size_meant n h vs st (Size.OfType p base) e = base_meant n.tables st.known.meant base (Some p) e
size_meant n h vs st (Size.OfParens p name) e =
    pointed_allocated (length n.tables.structs) (variable_type vs name) p
    (named n h vs name st.seen (none_left (variable_faults vs name) (unless (is_pointer (Typed (variable_type vs name))) Mismatch name.place) e)).proper
size_meant n h vs st (Size.OfValue p name) e =
    pointed_allocated (length n.tables.structs) (variable_type vs name) p
    (named n h vs name st.seen (none_left (variable_faults vs name) (unless (is_pointer (Typed (variable_type vs name))) Mismatch name.place) e)).proper

allocation_is : (n : Naming) (h : Here) (vs : List Variable) → Stands n h vs → (p : Place) (wanted : VariableType) (b : BaseType) → IsDefinite wanted → IsMeant (length n.tables.structs) (Some p) b
    → allocates wanted b ≡ true → (kind_of wanted ≡ Ptr) × IsStruct h.structs (struct_at (struct_of b))
allocation_is n h vs st p wanted (BaseType.Typed Int) known meant e = absurd (false_true e)
allocation_is n h vs st p wanted (BaseType.Typed (Pointer s)) known meant e = absurd (false_true e)
allocation_is n h vs st p wanted (BaseType.Typed Anything) known meant e = absurd meant
allocation_is n h vs st p Int (BaseType.Struct s) known meant e = absurd (false_true e)
allocation_is n h vs st p (Pointer r) (BaseType.Struct s) known meant e = (refl, st.known.many s.0 meant)
allocation_is n h vs st p Anything (BaseType.Struct s) known meant e = absurd known
allocation_is n h vs st p wanted BaseType.Undefined known meant e = absurd meant

pub right_is : (n : Naming) (h : Here) (vs : List Variable) → Stands n h vs → (wanted : VariableType) (right : tree.Right) → IsDefinite wanted → AreSmall (right_numbers right)
    → right_faults n.tables vs wanted right ≡ [] → IsRight h (kind_of wanted) (resolved_right n vs right)
right_is n h vs st wanted (tree.expression e) known small none =
    of_kind n h vs (sees st) wanted e known small (none_left (expression_faults n.tables vs e) (no_fit n.tables vs wanted e) none)
    (kept (fits wanted (value_type n.tables vs e)) Mismatch (first_place e) (none_right (expression_faults n.tables vs e) (no_fit n.tables vs wanted e) none))
right_is n h vs st wanted (tree.result_of c) known small none =
    let fitting : Bool = call_fits n.tables wanted (called_function n.tables c.function.text) in
    let r = calls n h vs st c small (none_left (call_faults n.tables vs c) (unless fitting Mismatch c.function.place) none) in
    let fit : fitting ≡ true = kept fitting Mismatch c.function.place (none_right (call_faults n.tables vs c) (unless fitting Mismatch c.function.place) none) in
    let fit_callee : result_fits wanted (returned_type n.tables r.callee.returned) ≡ true = subst (λ o. call_fits n.tables wanted o ≡ true) r.is fit in
    subst (λ k. IsCall h k (resolved_call n vs c)) (result_kind (length n.tables.structs) wanted (returned_type n.tables r.callee.returned) known r.returned fit_callee) r.call
right_is n h vs st wanted (tree.allocation m) known small none =
    let x : List Fault = cast_faults n.tables wanted m.cast in
    let y : List Fault = size_faults n.tables vs m.size in
    let z : List Fault = unless (allocates wanted (size_meaning n.tables vs m.size)) BadSizeof (size_place m.size) in
    allocation_is n h vs st (size_place m.size) wanted (size_meaning n.tables vs m.size) known
    (size_meant n h vs st m.size (none_right x y (none_left (x ++ y) z none)))
    (kept (allocates wanted (size_meaning n.tables vs m.size)) BadSizeof (size_place m.size) (none_right (x ++ y) z none))

-- ---- simple statements
changed : (n : Naming) (h : Here) (vs : List Variable) → Stands n h vs → (l : tree.Left) → changed_faults n.tables vs l ≡ [] → IsLeft h int_kind (resolved_left n vs l)
changed n h vs st l none =
    let x : List Fault = unless (is_int (Typed (left_type n.tables vs l))) Mismatch l.name.place in
    let at = placed n h vs l st.known.shaped st.seen (none_left (left_faults n.tables vs l) x none) in
    let e : int_kind ≡ kind_of (left_type n.tables vs l) = agreed Int (left_type n.tables vs l) tt (definite (length n.tables.structs) (left_type n.tables vs l) at.proper)
    (kept (is_int (Typed (left_type n.tables vs l))) Mismatch l.name.place (none_right (left_faults n.tables vs l) x none)) in
    subst (λ k. IsLeft h k (resolved_left n vs l)) (sym e) at.is

changed_by : (n : Naming) (h : Here) (vs : List Variable) → Stands n h vs → (l : tree.Left) (e : tree.Expr) → AreSmall (expression_numbers e)
    → changed_faults n.tables vs l ++ expression_faults n.tables vs e ++ no_int n.tables vs e ≡ [] → IsLeft h int_kind (resolved_left n vs l) × IsOf h int_kind (resolved_expression n vs e)
changed_by n h vs st l e small none =
    let x : List Fault = changed_faults n.tables vs l in
    let y : List Fault = expression_faults n.tables vs e in
    let z : List Fault = no_int n.tables vs e in
    let both : (x ++ y) ≡ [] = none_left (x ++ y) z none in
    (changed n h vs st l (none_left x y both), an_int n h vs (sees st) e small (none_right (x ++ y) z none) (none_right x y both))

pub action_is : (n : Naming) (h : Here) (vs : List Variable) → Stands n h vs → (x : tree.SimpleTree) → AreSmall (simple_numbers x) → simple_faults n.tables vs x ≡ []
    → IsAction h (resolved_action n vs x)
action_is n h vs st (tree.assign l right) small none =
    let x : List Fault = left_faults n.tables vs l in
    let y : List Fault = right_faults n.tables vs (left_type n.tables vs l) right in
    let at = placed n h vs l st.known.shaped st.seen (none_left x y none) in
    (kind_of (left_type n.tables vs l), at.is, right_is n h vs st (left_type n.tables vs l) right (definite (length n.tables.structs) (left_type n.tables vs l) at.proper) small (none_right x y none))
action_is n h vs st (tree.add l e) small none = changed_by n h vs st l e small none
action_is n h vs st (tree.subtract l e) small none = changed_by n h vs st l e small none
action_is n h vs st (tree.increment l) small none = (changed n h vs st l none, in_int 1 (omega arith))
action_is n h vs st (tree.decrement l) small none = (changed n h vs st l none, in_int 1 (omega arith))
action_is n h vs st (tree.increment_first p l) small none = (changed n h vs st l none, in_int 1 (omega arith))
action_is n h vs st (tree.decrement_first p l) small none = (changed n h vs st l none, in_int 1 (omega arith))
action_is n h vs st (tree.call c) small none =
    let r = calls n h vs st c small none in (option_map kind_of (returned_type n.tables r.callee.returned), r.call)
