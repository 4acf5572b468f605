-- What is named without a fault is one of the variables that are visible.
use Rattle.std.proofs.Common.{◌≡◌, ℕ, List, [], ◌∷◌, ◌++◌, Option, Some, None, map, flat_map, length, option_map, refl, ap, ◌∙◌, Contains}
use Rattle.std.specs.Option.{option_map_or}
use Rattle.std.specs.Prelude.{slice_get}
use Rattle.std.proofs.lemmas.List.{length-map}
use Rattle.std.proofs.lemmas.Option.{slice_get-map}
use Rattle.mc_c_syntax.specs.declared.ast.trees.Argument.{Argument as ArgumentTree}
use Rattle.mc_c_syntax.specs.declared.ast.trees.Argument.TheVariants as Argument
use Rattle.mc_c_syntax.specs.declared.ast.trees.Name.{Name}
use Rattle.mc_c_syntax.specs.Ast.Trees as tree
use Rattle.mc_flow.specs.declared.defs.shapes.StructInfo.{StructInfo}
use Rattle.mc_flow.specs.declared.defs.shapes.Structs.{Structs}
use Rattle.mc_flow.specs.Steps.{field_count as count_in_flow}
use Rattle.mc_lower_spec.specs.Values.{struct_at}
use Rattle.mc_semantics.specs.Steps.{field_count}
use Rattle.mc_c_types.specs.Tables.{Tables, Variable, kind_of, fields_of, unit_structs, struct_infos, tables_of, called_function}
use Rattle.mc_c_types.specs.Faults.{unless, variable_faults, left_faults, changed_faults, field_faults, callee_faults, call_faults, call_fits, right_faults, simple_faults, value_faults, variable_type, left_type, no_int, no_fit, expression_faults, comparison_faults, condition_faults, maybe_condition_faults, maybe_simple_faults, shape_argument_faults, return_faults}
use Rattle.mc_c_types.specs.declared.faults.Fault.{Fault}
use Rattle.mc_c_types.specs.declared.faults.FaultName.TheVariants.{Mismatch}
use Rattle.mc_c_types.specs.declared.types.VariableType.{VariableType}
use Rattle.mc_c_types.specs.declared.types.ValueType.TheVariants.{Typed}
use Rattle.mc_c_types.specs.Types.{is_int}
use Rattle.mc_base.specs.declared.text.place.Place.{Place}
use Rattle.mc_semantics.specs.Resolved.Resolving.{Naming, allocated_struct, resolved_variable, resolved_expression, resolved_condition, resolved_right, resolved_action, resolved_simple, resolved_argument}
use Rattle.mc_lower_laws.proofs.ScopedLemmas.Faultless.{none_left, none_right, AreIn, variable_in}
use Rattle.mc_lower_laws.specs.Lowerable.Lowerable.{NamesOnly, AllNameOnly, TestsOnly, TestsOnlyPerhaps, IsMadeArgument, AreMadeArguments, IsLowerableRight, IsLowerableValue, IsLowerableAction, IsLowerableLast}

-- ---- fields of structs
-- structs have as many fields as the tables say
abbrev pub AreCounted : Structs → Tables → Type 0
AreCounted structs t = (k : ℕ) → count_in_flow structs (struct_at k) ≡ field_count t k

abbrev info_of : Tables → tree.StructTree → StructInfo
info_of t s = record { name = s.name.text; fields = map (λ v. record { name = v.name; kind = kind_of v.type }) (fields_of t s) }

pub counted : (unit : tree.UnitTree) → AreCounted (record { list = struct_infos unit }) (tables_of unit)
counted unit k =
    ap (λ o. option_map_or (λ (info : StructInfo). length info.fields) o 0) (slice_get-map (info_of (tables_of unit)) (unit_structs unit) k)
    ∙ same (slice_get (unit_structs unit) k)
  where
    same : (o : Option tree.StructTree)
        → option_map_or (λ (info : StructInfo). length info.fields) (option_map (info_of (tables_of unit)) o) 0 ≡ option_map_or (λ s. length (fields_of (tables_of unit) s)) o 0
    same None = refl
    same (Some s) = length-map (fields_of (tables_of unit) s) _

-- ---- expressions
variable_made : (n : Naming) (made : List ℕ) (vs : List Variable) (name : Name) → AreIn n.locals made vs → variable_faults vs name ≡ []
    → Contains made (resolved_variable n vs name)
variable_made n made vs name are e = (variable_in n made vs name are e).1

left_made : (n : Naming) (made : List ℕ) (vs : List Variable) (l : tree.Left) → AreIn n.locals made vs → left_faults n.tables vs l ≡ []
    → Contains made (resolved_variable n vs l.name)
left_made n made vs l are e = variable_made n made vs l.name are (none_left (variable_faults vs l.name) (field_faults n.tables (variable_type vs l.name) l.fields) e)

changed_made : (n : Naming) (made : List ℕ) (vs : List Variable) (l : tree.Left) → AreIn n.locals made vs → changed_faults n.tables vs l ≡ []
    → Contains made (resolved_variable n vs l.name)
changed_made n made vs l are e =
    left_made n made vs l are (none_left (left_faults n.tables vs l) (unless (is_int (Typed (left_type n.tables vs l))) Mismatch l.name.place) e)

sides_made : (n : Naming) (vs : List Variable) (a b : tree.Expr)
    → no_int n.tables vs a ++ no_int n.tables vs b ++ expression_faults n.tables vs a ++ expression_faults n.tables vs b ≡ []
    → (expression_faults n.tables vs a ≡ []) × (expression_faults n.tables vs b ≡ [])
sides_made n vs a b e =
    let first : List Fault = no_int n.tables vs a ++ no_int n.tables vs b in
    let x : List Fault = expression_faults n.tables vs a in
    let y : List Fault = expression_faults n.tables vs b in
    (none_right first x (none_left (first ++ x) y e), none_right (first ++ x) y e)

pub expression_made : (n : Naming) (made : List ℕ) (vs : List Variable) (x : tree.Expr) → AreIn n.locals made vs → expression_faults n.tables vs x ≡ []
    → NamesOnly made (resolved_expression n vs x)
expression_made n made vs (tree.number k p) are e = tt
expression_made n made vs (tree.null p) are e = tt
expression_made n made vs (tree.input p) are e = tt
expression_made n made vs (tree.value l) are e = left_made n made vs l are e
expression_made n made vs (tree.minus p x) are e = expression_made n made vs x are (none_right (no_int n.tables vs x) (expression_faults n.tables vs x) e)
expression_made n made vs (tree.parens p x) are e = expression_made n made vs x are e
expression_made n made vs (tree.times a b) are e =
    let sides = sides_made n vs a b e in (expression_made n made vs a are sides.0, expression_made n made vs b are sides.1)
expression_made n made vs (tree.plus a b) are e =
    let sides = sides_made n vs a b e in (expression_made n made vs a are sides.0, expression_made n made vs b are sides.1)
expression_made n made vs (tree.difference a b) are e =
    let sides = sides_made n vs a b e in (expression_made n made vs a are sides.0, expression_made n made vs b are sides.1)

expressions_made : (n : Naming) (made : List ℕ) (vs : List Variable) (xs : List tree.Expr) → AreIn n.locals made vs → flat_map (expression_faults n.tables vs) xs ≡ []
    → AllNameOnly made (map (resolved_expression n vs) xs)
expressions_made n made vs [] are e = tt
expressions_made n made vs (x ∷ xs) are e =
    let first : List Fault = expression_faults n.tables vs x in
    let more : List Fault = flat_map (expression_faults n.tables vs) xs in
    (expression_made n made vs x are (none_left first more e), expressions_made n made vs xs are (none_right first more e))

-- ---- conditions
pub condition_made : (n : Naming) (made : List ℕ) (vs : List Variable) (c : tree.Cond) → AreIn n.locals made vs → condition_faults n.tables vs c ≡ []
    → TestsOnly made (resolved_condition n vs c)
condition_made n made vs (tree.plain x) are e = expression_made n made vs x are e
condition_made n made vs (tree.compare c a b) are e =
    let x : List Fault = expression_faults n.tables vs a in
    let y : List Fault = expression_faults n.tables vs b in
    let both : (x ++ y) ≡ [] = none_left (x ++ y) (comparison_faults n.tables vs c a b) e in
    (expression_made n made vs a are (none_left x y both), expression_made n made vs b are (none_right x y both))
condition_made n made vs (tree.negation p c) are e = condition_made n made vs c are e
condition_made n made vs (tree.enclosed p c) are e = condition_made n made vs c are e
condition_made n made vs (tree.both c d) are e =
    let x : List Fault = condition_faults n.tables vs c in
    let y : List Fault = condition_faults n.tables vs d in
    (condition_made n made vs c are (none_left x y e), condition_made n made vs d are (none_right x y e))
condition_made n made vs (tree.either c d) are e =
    let x : List Fault = condition_faults n.tables vs c in
    let y : List Fault = condition_faults n.tables vs d in
    (condition_made n made vs c are (none_left x y e), condition_made n made vs d are (none_right x y e))

pub condition_made_perhaps : (n : Naming) (made : List ℕ) (vs : List Variable) (c : Option tree.Cond) → AreIn n.locals made vs → maybe_condition_faults n.tables vs c ≡ []
    → TestsOnlyPerhaps made (option_map (resolved_condition n vs) c)
condition_made_perhaps n made vs None are e = tt
condition_made_perhaps n made vs (Some c) are e = condition_made n made vs c are e

-- ---- right sides and simple statements
call_made : (n : Naming) (made : List ℕ) (vs : List Variable) (c : tree.CallTree) → AreIn n.locals made vs → call_faults n.tables vs c ≡ []
    → AllNameOnly made (map (resolved_expression n vs) c.arguments)
call_made n made vs c are e =
    expressions_made n made vs c.arguments are
    (none_right (callee_faults n.tables vs c (called_function n.tables c.function.text)) (flat_map (expression_faults n.tables vs) c.arguments) e)

pub right_lowerable : (n : Naming) (structs : Structs) (made : List ℕ) (vs : List Variable) (wanted : VariableType) (right : tree.Right) → AreCounted structs n.tables
    → AreIn n.locals made vs → right_faults n.tables vs wanted right ≡ [] → IsLowerableRight structs made (resolved_right n vs right)
right_lowerable n structs made vs wanted (tree.expression x) counts are e =
    expression_made n made vs x are (none_left (expression_faults n.tables vs x) (no_fit n.tables vs wanted x) e)
right_lowerable n structs made vs wanted (tree.result_of c) counts are e =
    call_made n made vs c are (none_left (call_faults n.tables vs c) (unless (call_fits n.tables wanted (called_function n.tables c.function.text)) Mismatch c.function.place) e)
right_lowerable n structs made vs wanted (tree.allocation m) counts are e = counts (allocated_struct n.tables vs m)

pub value_lowerable : (n : Naming) (structs : Structs) (made : List ℕ) (vs : List Variable) (wanted : VariableType) (value : Option tree.Right) → AreCounted structs n.tables
    → AreIn n.locals made vs → value_faults n.tables vs wanted value ≡ [] → IsLowerableValue structs made (option_map (resolved_right n vs) value)
value_lowerable n structs made vs wanted None counts are e = tt
value_lowerable n structs made vs wanted (Some right) counts are e = right_lowerable n structs made vs wanted right counts are e

pub returned_lowerable : (n : Naming) (structs : Structs) (made : List ℕ) (vs : List Variable) (result : Option VariableType) (p : Place) (value : Option tree.Right)
    → AreCounted structs n.tables → AreIn n.locals made vs → return_faults n.tables vs result p value ≡ []
    → IsLowerableValue structs made (option_map (resolved_right n vs) value)
returned_lowerable n structs made vs result p None counts are e = tt
returned_lowerable n structs made vs None p (Some right) counts are e = absurd (cc)
returned_lowerable n structs made vs (Some wanted) p (Some right) counts are e = right_lowerable n structs made vs wanted right counts are e

added_lowerable : (n : Naming) (made : List ℕ) (vs : List Variable) (l : tree.Left) (x : tree.Expr) → AreIn n.locals made vs
    → changed_faults n.tables vs l ++ expression_faults n.tables vs x ++ no_int n.tables vs x ≡ []
    → Contains made (resolved_variable n vs l.name) × NamesOnly made (resolved_expression n vs x)
added_lowerable n made vs l x are e =
    let first : List Fault = changed_faults n.tables vs l in
    let second : List Fault = expression_faults n.tables vs x in
    let both : (first ++ second) ≡ [] = none_left (first ++ second) (no_int n.tables vs x) e in
    (changed_made n made vs l are (none_left first second both), expression_made n made vs x are (none_right first second both))

pub action_lowerable : (n : Naming) (structs : Structs) (made : List ℕ) (vs : List Variable) (x : tree.SimpleTree) → AreCounted structs n.tables
    → AreIn n.locals made vs → simple_faults n.tables vs x ≡ [] → IsLowerableAction structs made (resolved_action n vs x)
action_lowerable n structs made vs (tree.assign l right) counts are e =
    let first : List Fault = left_faults n.tables vs l in
    let second : List Fault = right_faults n.tables vs (left_type n.tables vs l) right in
    (left_made n made vs l are (none_left first second e), right_lowerable n structs made vs (left_type n.tables vs l) right counts are (none_right first second e))
action_lowerable n structs made vs (tree.add l x) counts are e = added_lowerable n made vs l x are e
action_lowerable n structs made vs (tree.subtract l x) counts are e = added_lowerable n made vs l x are e
action_lowerable n structs made vs (tree.increment l) counts are e = (changed_made n made vs l are e, tt)
action_lowerable n structs made vs (tree.decrement l) counts are e = (changed_made n made vs l are e, tt)
action_lowerable n structs made vs (tree.increment_first p l) counts are e = (changed_made n made vs l are e, tt)
action_lowerable n structs made vs (tree.decrement_first p l) counts are e = (changed_made n made vs l are e, tt)
action_lowerable n structs made vs (tree.call c) counts are e = call_made n made vs c are e

pub last_lowerable : (n : Naming) (structs : Structs) (made : List ℕ) (vs : List Variable) (x : Option tree.SimpleTree) → AreCounted structs n.tables
    → AreIn n.locals made vs → maybe_simple_faults n.tables vs x ≡ [] → IsLowerableLast structs made (option_map (resolved_simple n vs) x)
last_lowerable n structs made vs None counts are e = tt
last_lowerable n structs made vs (Some x) counts are e = action_lowerable n structs made vs x counts are e

-- ---- shape commands
pub named_made : (n : Naming) (made : List ℕ) (vs : List Variable) (name : Name) → AreIn n.locals made vs → variable_faults vs name ≡ [] → Contains made (resolved_variable n vs name)
named_made = variable_made

pub argument_made : (n : Naming) (made : List ℕ) (vs : List Variable) (a : ArgumentTree) → AreIn n.locals made vs → shape_argument_faults vs a ≡ []
    → IsMadeArgument made (resolved_argument n vs a)
argument_made n made vs (Argument.Name name) are e = variable_made n made vs name are e
argument_made n made vs (Argument.Null p) are e = tt
argument_made n made vs (Argument.Number k p) are e = tt
argument_made n made vs (Argument.Negative k p) are e = tt

pub arguments_made : (n : Naming) (made : List ℕ) (vs : List Variable) (args : List ArgumentTree) → AreIn n.locals made vs → flat_map (shape_argument_faults vs) args ≡ []
    → AreMadeArguments made (map (resolved_argument n vs) args)
arguments_made n made vs [] are e = tt
arguments_made n made vs (a ∷ args) are e =
    let first : List Fault = shape_argument_faults vs a in
    let more : List Fault = flat_map (shape_argument_faults vs) args in
    (argument_made n made vs a are (none_left first more e), arguments_made n made vs args are (none_right first more e))
