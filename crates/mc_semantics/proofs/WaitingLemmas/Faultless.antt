-- What is known of statements without faults: each function that is called is there.
use Rattle.std.proofs.Common.{◌≡◌, ◌++◌, List, [], ◌∷◌, Option, Some, None, Bool, true, false, cond, ℕ, refl, subst}
use Rattle.std.specs.Prelude.{find, flat_map, is_none, map}
use Rattle.mc_base.specs.declared.text.place.Place.{Place}
use Rattle.mc_c_syntax.specs.declared.ast.trees.Base.{Base}
use Rattle.mc_c_syntax.specs.Ast.Trees.{CallTree, Right, expression, result_of, allocation, InitialTree, SimpleTree, assign, add, subtract, increment, decrement, increment_first, decrement_first, call, FunctionTree, ItemTree, structure, typedef, function, UnitTree}
use Rattle.mc_c_types.specs.declared.faults.Fault.{Fault}
use Rattle.mc_c_types.specs.declared.faults.FaultName.{FaultName}
use Rattle.mc_c_types.specs.declared.faults.FaultName.TheVariants.{Twice}
use Rattle.mc_c_types.specs.declared.types.VariableType.{VariableType}
use Rattle.mc_c_types.specs.Faults.{unless, call_faults, callee_faults, right_faults, simple_faults, value_faults, item_faults, items_faults, declarator_faults, repeated, returned_faults, return_faults, left_faults, left_type, item_tree_faults, body_faults}
use Rattle.mc_c_types.specs.Scopes.{Scope, visible, declare}
use Rattle.mc_c_types.specs.Tables.{Tables, Variable, type_in, variable_of, listed_parameters, called_function, item_functions}

pub none_left : {X : Type 0} (xs ys : List X) → xs ++ ys ≡ [] → xs ≡ []
none_left [] ys e = refl
none_left (x ∷ xs) ys e = cc

pub none_right : {X : Type 0} (xs ys : List X) → xs ++ ys ≡ [] → ys ≡ []
none_right [] ys e = e
none_right (x ∷ xs) ys e = cc

pub kept : (b : Bool) (name : FaultName) (place : Place) → unless b name place ≡ [] → b ≡ true
kept true name place e = refl
kept false name place e = cc

-- ---- calls
abbrev pub IsCalled : Tables → CallTree → Type 0
IsCalled t c = (f : FunctionTree) × (called_function t c.function.text ≡ Some f)

callee_is : (t : Tables) (vs : List Variable) (c : CallTree) (o : Option FunctionTree) → callee_faults t vs c o ≡ [] → (f : FunctionTree) × (o ≡ Some f)
callee_is t vs c None e = cc
callee_is t vs c (Some f) e = (f, refl)

pub call_is : (t : Tables) (vs : List Variable) (c : CallTree) → call_faults t vs c ≡ [] → IsCalled t c
call_is t vs c e = callee_is t vs c (called_function t c.function.text) (none_left (callee_faults t vs c (called_function t c.function.text)) _ e)

abbrev pub RightIsCalled : Tables → Right → Type 0
RightIsCalled t (expression e) = Unit {0}
RightIsCalled t (result_of c) = IsCalled t c
RightIsCalled t (allocation m) = Unit {0}

pub right_is : (t : Tables) (vs : List Variable) (wanted : VariableType) (right : Right) → right_faults t vs wanted right ≡ [] → RightIsCalled t right
right_is t vs wanted (expression e) none = tt
right_is t vs wanted (result_of c) none = call_is t vs c (none_left (call_faults t vs c) _ none)
right_is t vs wanted (allocation m) none = tt

abbrev pub MaybeIsCalled : Tables → Option Right → Type 0
MaybeIsCalled t None = Unit {0}
MaybeIsCalled t (Some right) = RightIsCalled t right

abbrev pub SimpleIsCalled : Tables → SimpleTree → Type 0
SimpleIsCalled t (assign l right) = RightIsCalled t right
SimpleIsCalled t (add l e) = Unit {0}
SimpleIsCalled t (subtract l e) = Unit {0}
SimpleIsCalled t (increment l) = Unit {0}
SimpleIsCalled t (decrement l) = Unit {0}
SimpleIsCalled t (increment_first p l) = Unit {0}
SimpleIsCalled t (decrement_first p l) = Unit {0}
SimpleIsCalled t (call c) = IsCalled t c

pub simple_is : (t : Tables) (vs : List Variable) (x : SimpleTree) → simple_faults t vs x ≡ [] → SimpleIsCalled t x
simple_is t vs (assign l right) e = right_is t vs (left_type t vs l) right (none_right (left_faults t vs l) (right_faults t vs (left_type t vs l) right) e)
simple_is t vs (add l x) e = tt
simple_is t vs (subtract l x) e = tt
simple_is t vs (increment l) e = tt
simple_is t vs (decrement l) e = tt
simple_is t vs (increment_first p l) e = tt
simple_is t vs (decrement_first p l) e = tt
simple_is t vs (call c) e = call_is t vs c e

value_is : (t : Tables) (vs : List Variable) (wanted : VariableType) (value : Option Right) → value_faults t vs wanted value ≡ [] → MaybeIsCalled t value
value_is t vs wanted None e = tt
value_is t vs wanted (Some right) e = right_is t vs wanted right e

pub item_is : (t : Tables) (base : Base) (s : Scope) (item : InitialTree) (items : List InitialTree) → items_faults t base s (item ∷ items) ≡ [] → MaybeIsCalled t item.value
item_is t base s item items e =
    let x : Variable = variable_of t base item.declarator in
    let of_value : List Fault = value_faults t (visible (declare s x)) x.type item.value in
    let of_name : List Fault = unless (is_none (type_in s.own item.declarator.name.text)) Twice item.declarator.name.place in
    let one : item_faults t base s item ≡ [] = none_left (item_faults t base s item) (items_faults t base (declare s x) items) e in
    value_is t (visible (declare s x)) x.type item.value (none_right (declarator_faults t base item.declarator ++ of_name) of_value one)

pub return_is : (t : Tables) (vs : List Variable) (result : Option VariableType) (p : Place) (right : Option Right) → return_faults t vs result p right ≡ [] → MaybeIsCalled t right
return_is t vs None p None e = tt
return_is t vs None p (Some right) e = cc
return_is t vs (Some wanted) p None e = tt
return_is t vs (Some wanted) p (Some right) e = right_is t vs wanted right e

-- ---- functions
-- the bodies of the functions that are called have no faults
abbrev pub AreFaultless : Tables → Type 0
AreFaultless t = (name : List ℕ) (f : FunctionTree) → called_function t name ≡ Some f → body_faults t f f.body ≡ []

-- each of these functions has a body without faults
abbrev All : Tables → List FunctionTree → Type 0
All t [] = Unit {0}
All t (f ∷ fs) = (body_faults t f f.body ≡ []) × All t fs

all_both : (t : Tables) (fs gs : List FunctionTree) → All t fs → All t gs → All t (fs ++ gs)
all_both t [] gs h i = i
all_both t (f ∷ fs) gs h i = (h.0, all_both t fs gs h.1 i)

item_all : (t : Tables) (item : ItemTree) → item_tree_faults t item ≡ [] → All t (item_functions item)
item_all t (structure s) e = tt
item_all t (typedef d) e = tt
item_all t (function f) e =
    let of_parameters : List Fault = flat_map (λ p. declarator_faults t p.base p.declarator) (listed_parameters f.parameters) in
    let of_names : List Fault = repeated [] (map (λ p. p.declarator.name) (listed_parameters f.parameters)) in
    let of_body : List Fault = body_faults t f f.body in
    (none_right ((returned_faults t f f.returned ++ of_parameters) ++ of_names) of_body e, tt)

pub items_all : (t : Tables) (unit : UnitTree) → flat_map (item_tree_faults t) unit ≡ [] → All t (flat_map item_functions unit)
items_all t [] e = tt
items_all t (item ∷ unit) e =
    all_both t (item_functions item) (flat_map item_functions unit) (item_all t item (none_left (item_tree_faults t item) _ e)) (items_all t unit (none_right (item_tree_faults t item) _ e))

one_or_other : (t : Tables) (g : FunctionTree) (fs : List FunctionTree) (f : FunctionTree) (b : Bool) (o : Option FunctionTree) → body_faults t g g.body ≡ [] → cond b (Some g) o ≡ Some f → (o ≡ Some f → body_faults t f f.body ≡ []) → body_faults t f f.body ≡ []
one_or_other t g fs f true o h e later = (let P : FunctionTree → Type 0 = λ x. body_faults t x x.body ≡ [] in let same : g ≡ f = cc in subst P same h)
one_or_other t g fs f false o h e later = later e

pub found_one : (t : Tables) (test : FunctionTree → Bool) (fs : List FunctionTree) (f : FunctionTree) → All t fs → find test fs ≡ Some f → body_faults t f f.body ≡ []
found_one t test [] f all e = cc
found_one t test (g ∷ fs) f all e = one_or_other t g fs f (test g) (find test fs) all.0 e (λ later. found_one t test fs f all.1 later)
