-- What a program without faults has: what is written is visible.
use Rattle.std.proofs.Common.{◌≡◌, ℕ, Bool, true, false, cond, List, [], ◌∷◌, ◌++◌, Option, Some, length, is_some, option_map, find, refl, arith, Contains}
use Rattle.std.specs.Option.{option_map_or}
use Rattle.mc_base.specs.declared.text.place.Place.{Place}
use Rattle.mc_c_syntax.specs.declared.ast.trees.Name.{Name}
use Rattle.mc_c_syntax.specs.Ast.Names.{is_same}
use Rattle.mc_c_syntax.specs.Ast.Trees as tree
use Rattle.mc_c_types.specs.Tables.{Tables, Variable}
use Rattle.mc_c_types.specs.Faults.{unless, variable_faults, left_faults, changed_faults, field_faults, right_faults, simple_faults, variable_type, left_type, no_int, expression_faults}
use Rattle.mc_c_types.specs.declared.faults.Fault.{Fault}
use Rattle.mc_c_types.specs.declared.faults.FaultName.{FaultName}
use Rattle.mc_c_types.specs.declared.types.ValueType.TheVariants.{Typed}
use Rattle.mc_c_types.specs.Types.{is_int}
use Rattle.mc_c_types.specs.declared.faults.FaultName.TheVariants.{Unknown, Mismatch}
use Rattle.mc_lower_spec.specs.Scopes.{IsIn, WritesIn}
use Rattle.mc_semantics.specs.Resolved.Resolving.{Naming, number_in, numbers_in, resolved_variable, resolved_action}
use Rattle.mc_lower_laws.proofs.ScopedLemmas.Lists.{contains_head, contains_tail}

-- ---- no fault in both parts
pub none_left : (xs ys : List Fault) → xs ++ ys ≡ [] → xs ≡ []
none_left [] ys e = refl
none_left (x ∷ xs) ys e = absurd (cc)

pub none_right : (xs ys : List Fault) → xs ++ ys ≡ [] → ys ≡ []
none_right [] ys e = e
none_right (x ∷ xs) ys e = absurd (cc)

kept : (b : Bool) (name : FaultName) (place : Place) → unless b name place ≡ [] → b ≡ true
kept true name place e = refl
kept false name place e = absurd (cc)

-- ---- the numbers of these variables are in scope
abbrev pub AreIn : List Variable → List ℕ → List Variable → Type 0
AreIn locals scope vs = (x : ℕ) → Contains (numbers_in locals vs) x → IsIn (length locals) scope x

found_in : (locals : List Variable) (scope : List ℕ) (b : Bool) (v : Variable) (rest : Option Variable) → IsIn (length locals) scope (number_in locals v.place)
    → (is_some (option_map (λ w. w.type) rest) ≡ true → IsIn (length locals) scope (option_map_or (λ w. number_in locals w.place) rest (length locals)))
    → is_some (option_map (λ w. w.type) (cond b (Some v) rest)) ≡ true
    → IsIn (length locals) scope (option_map_or (λ w. number_in locals w.place) (cond b (Some v) rest) (length locals))
found_in locals scope true v rest now later e = now
found_in locals scope false v rest now later e = later e

named_in : (locals : List Variable) (scope : List ℕ) (vs : List Variable) (name : List ℕ) → AreIn locals scope vs
    → is_some (option_map (λ w. w.type) (find (λ w. is_same w.name name) vs)) ≡ true
    → IsIn (length locals) scope (option_map_or (λ w. number_in locals w.place) (find (λ w. is_same w.name name) vs) (length locals))
named_in locals scope [] name are e = absurd (grind (arith, e))
named_in locals scope (v ∷ vs) name are e =
    found_in locals scope (is_same v.name name) v (find (λ w. is_same w.name name) vs)
    (are (number_in locals v.place) (contains_head (number_in locals v.place) (numbers_in locals vs)))
    (λ more. named_in locals scope vs name (λ x there. are x (contains_tail (number_in locals v.place) (numbers_in locals vs) x there)) more)
    e

pub variable_in : (n : Naming) (scope : List ℕ) (vs : List Variable) (name : Name) → AreIn n.locals scope vs → variable_faults vs name ≡ []
    → IsIn (length n.locals) scope (resolved_variable n vs name)
variable_in n scope vs name are e = named_in n.locals scope vs name.text are (kept _ Unknown name.place e)

left_in : (n : Naming) (t : Tables) (scope : List ℕ) (vs : List Variable) (l : tree.Left) → AreIn n.locals scope vs → left_faults t vs l ≡ []
    → IsIn (length n.locals) scope (resolved_variable n vs l.name)
left_in n t scope vs l are e =
    variable_in n scope vs l.name are (none_left (variable_faults vs l.name) (field_faults t (variable_type vs l.name) l.fields) e)

changed_in : (n : Naming) (t : Tables) (scope : List ℕ) (vs : List Variable) (l : tree.Left) → AreIn n.locals scope vs → changed_faults t vs l ≡ []
    → IsIn (length n.locals) scope (resolved_variable n vs l.name)
changed_in n t scope vs l are e =
    left_in n t scope vs l are (none_left (left_faults t vs l) (unless (is_int (Typed (left_type t vs l))) Mismatch l.name.place) e)

pub action_in : (n : Naming) (t : Tables) (scope : List ℕ) (vs : List Variable) (x : tree.SimpleTree) → AreIn n.locals scope vs → simple_faults t vs x ≡ []
    → WritesIn (length n.locals) scope (resolved_action n vs x)
action_in n t scope vs (tree.assign l r) are e = left_in n t scope vs l are (none_left (left_faults t vs l) (right_faults t vs (left_type t vs l) r) e)
action_in n t scope vs (tree.add l x) are e =
    changed_in n t scope vs l are (none_left (changed_faults t vs l) (expression_faults t vs x) (none_left (changed_faults t vs l ++ expression_faults t vs x) (no_int t vs x) e))
action_in n t scope vs (tree.subtract l x) are e =
    changed_in n t scope vs l are (none_left (changed_faults t vs l) (expression_faults t vs x) (none_left (changed_faults t vs l ++ expression_faults t vs x) (no_int t vs x) e))
action_in n t scope vs (tree.increment l) are e = changed_in n t scope vs l are e
action_in n t scope vs (tree.decrement l) are e = changed_in n t scope vs l are e
action_in n t scope vs (tree.increment_first p l) are e = changed_in n t scope vs l are e
action_in n t scope vs (tree.decrement_first p l) are e = changed_in n t scope vs l are e
action_in n t scope vs (tree.call c) are e = tt
