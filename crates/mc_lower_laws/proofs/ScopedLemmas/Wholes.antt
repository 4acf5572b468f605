-- Programs without faults are scoped.
use Rattle.std.proofs.Common.{◌≡◌, ◌≤◌, ⊎_elim, ℕ, zero, suc, Bool, true, false, cond, List, [], ◌∷◌, ◌++◌, Option, Some, None, map, reverse, flat_map, filter, length, slice_get, slice_index_or, refl, sym, ap, subst, arith, Contains, append-nil}
use Rattle.std.specs.Option.{option_map_or}
use Rattle.std.proofs.lemmas.List.Elements.{Contains-append_right, Contains-append_cases}
use Rattle.std.proofs.lemmas.Option.{same_Some}
use Rattle.mc_base.specs.declared.text.place.Place.{Place}
use Rattle.mc_c_syntax.specs.Ast.Trees as tree
use Rattle.mc_flow.specs.declared.defs.rules.Def.{Def}
use Rattle.mc_c_types.specs.Tables.{Tables, tables_of, Variable, parameters_of, listed_parameters, returned_type, is_defined, item_functions}
use Rattle.mc_c_types.specs.Scopes.{visible}
use Rattle.mc_c_types.specs.Faults.{Context, statements_faults, body_faults, function_faults, item_tree_faults, table_faults, returned_faults, declarator_faults, repeated}
use Rattle.mc_c_types.specs.declared.faults.Fault.{Fault}
use Rattle.mc_c_types.specs.Typing.{IsWellTyped}
use Rattle.mc_c_grammar.specs.Places.Places.{AreDistinct, start_places, statement_places, statements_places, parameters_places, body_places, function_places, item_places, declared_places}
use Rattle.mc_lower_spec.specs.Scopes.{AreScopedIn, IsScoped, AreScoped}
use Rattle.mc_semantics.specs.Resolved.Programs.{Function}
use Rattle.mc_semantics.specs.Resolved.Running.{naming}
use Rattle.mc_semantics.specs.Resolved.Resolving.{start_variables, statement_variables, statements_variables, body_statements, function_variables, defined_functions, numbers_in, number_in, local_of, parameter_scope, resolved_statements, resolved_function, resolved_program}
use Rattle.mc_lower_laws.proofs.ScopedLemmas.Lists.{Apart, apart_left, apart_right, in_reverse, mapped, unmapped}
use Rattle.mc_lower_laws.proofs.ScopedLemmas.Places.{numbers_known, numbers_apart, first_numbers}
use Rattle.mc_lower_laws.proofs.ScopedLemmas.Loose.{loose_row, row_among}
use Rattle.mc_lower_laws.proofs.ScopedLemmas.Faultless.{none_left, none_right, AreIn}
use Rattle.mc_lower_laws.proofs.ScopedLemmas.Scoping.{AreDeclared, AreFresh, Stands, first_declared, second_declared, not_both, own_in, statements_in}
use Rattle.mc_lower_laws.proofs.KindsLemmas.Spots.{item_places_are, joined, parameter_places_are, start_places_are}

-- ---- places differ
first_again : (p : Place) (places : List Place) (there : Contains places p) → slice_index_or (p ∷ places) 0 p ≡ slice_index_or (p ∷ places) (suc there.0) p
first_again p places there = sym there.2

suc_same : (i j : ℕ) → suc i ≡ suc j → i ≡ j
suc_same i j e = omega (arith, e)

pub apart_from_distinct : (places : List Place) → AreDistinct places → Apart places
apart_from_distinct [] distinct = tt
apart_from_distinct (p ∷ places) distinct = (
  λ there. absurd (omega (arith, distinct 0 (suc there.0) p (omega arith) (omega (arith, there.1)) (first_again p places there))),
  apart_from_distinct places (λ i j d less other e. suc_same i j (distinct (suc i) (suc j) d (omega (arith, less)) (omega (arith, other)) e)),
)

-- ---- the places of the variables are those of the program
mutual
  statement_places_are : (t : Tables) (a : tree.Stmt) → map (λ v. v.place) (statement_variables t a) ≡ statement_places a
  statement_places_are t (tree.declaration d) = item_places_are t d
  statement_places_are t (tree.block p ss) = row_places_are t ss
  statement_places_are t (tree.empty p) = refl
  statement_places_are t (tree.simple x) = refl
  statement_places_are t (tree.free p e) = refl
  statement_places_are t (tree.assert p c) = refl
  statement_places_are t (tree.assume p c) = refl
  statement_places_are t (tree.assume_shape p predicate x args) = refl
  statement_places_are t (tree.assert_shape p predicate a args) = refl
  statement_places_are t (tree.assert_empty p) = refl
  statement_places_are t (tree.if_only p c a) = statement_places_are t a
  statement_places_are t (tree.if_else p c a b) =
      joined (statement_variables t a) (statement_variables t b) (statement_places a) (statement_places b) (statement_places_are t a) (statement_places_are t b)
  statement_places_are t (tree.while_loop p c a) = statement_places_are t a
  statement_places_are t (tree.do_loop p a c) = statement_places_are t a
  statement_places_are t (tree.for_loop h a) =
      joined (start_variables t h.start) (statement_variables t a) (start_places h.start) (statement_places a) (start_places_are t h.start) (statement_places_are t a)
  statement_places_are t (tree.break_loop p) = refl
  statement_places_are t (tree.continue_loop p) = refl
  statement_places_are t (tree.returns p r) = refl

  row_places_are : (t : Tables) (ss : tree.Stmts) → map (λ v. v.place) (statements_variables t ss) ≡ statements_places ss
  row_places_are t tree.no_more = refl
  row_places_are t (tree.then a more) =
      joined (statement_variables t a) (statements_variables t more) (statement_places a) (statements_places more) (statement_places_are t a) (row_places_are t more)

body_places_are : (t : Tables) (body : Option tree.BodyTree) → map (λ v. v.place) (statements_variables t (option_map_or (λ b. tree.stmts_of b.statements) body tree.no_more)) ≡ body_places body
body_places_are t None = refl
body_places_are t (Some body) = row_places_are t (tree.stmts_of body.statements)

function_places_are : (t : Tables) (f : tree.FunctionTree) → map (λ v. v.place) (function_variables t f) ≡ function_places f
function_places_are t f =
    joined (parameters_of t f) (statements_variables t (body_statements f)) (parameters_places f.parameters) (body_places f.body)
    (parameter_places_are t f.parameters) (body_places_are t f.body)

-- ---- a function
abbrev context_of : Tables → tree.FunctionTree → Context
context_of t f = record { tables = t; result = returned_type t f.returned; in_loop = false }

body_faultless : (t : Tables) (f : tree.FunctionTree) (body : Option tree.BodyTree) → body_faults t f body ≡ []
    → statements_faults (record { tables = t; result = returned_type t f.returned; in_loop = false }) (parameter_scope t f) (option_map_or (λ b. tree.stmts_of b.statements) body tree.no_more) ≡ []
body_faultless t f None e = refl
body_faultless t f (Some body) e = e

-- a function whose variables are declared at different places, and without faults
pub record IsFaultless (t : Tables) (f : tree.FunctionTree) : Type 0 where
  pub apart : Apart (function_places f)
  pub faultless : function_faults t f ≡ []

-- what is in scope everywhere in a function: its parameters, and the variables that its body declares in no inner block
abbrev own_numbers : Tables → tree.FunctionTree → List ℕ
own_numbers t f = numbers_in (function_variables t f) (loose_row t (body_statements f)) ++ numbers_in (function_variables t f) (parameters_of t f)

all_apart : (t : Tables) (f : tree.FunctionTree) → Apart (function_places f) → Apart (map (λ v. v.place) (function_variables t f))
all_apart t f apart = subst Apart (sym (function_places_are t f)) apart

all_declared : (t : Tables) (f : tree.FunctionTree) → Apart (function_places f) → AreDeclared (function_variables t f) (function_variables t f)
all_declared t f apart = record {
  apart = numbers_apart (function_variables t f) (function_variables t f) (λ v there. there) (all_apart t f apart);
  known = numbers_known (function_variables t f) (function_variables t f) (λ v there. there);
}

body_declared : (t : Tables) (f : tree.FunctionTree) → Apart (function_places f) → AreDeclared (function_variables t f) (statements_variables t (body_statements f))
body_declared t f apart = second_declared (function_variables t f) (parameters_of t f) (statements_variables t (body_statements f)) (all_declared t f apart)

parameters_declared : (t : Tables) (f : tree.FunctionTree) → Apart (function_places f) → AreDeclared (function_variables t f) (parameters_of t f)
parameters_declared t f apart = first_declared (function_variables t f) (parameters_of t f) (statements_variables t (body_statements f)) (all_declared t f apart)

reversed_in : (locals : List Variable) (scope : List ℕ) (vs : List Variable) → AreIn locals scope vs → AreIn locals scope (reverse vs)
reversed_in locals scope vs are x there =
    let found = unmapped (λ v. number_in locals v.place) (reverse vs) x there in
    are x (subst (λ z. Contains (numbers_in locals vs) z) found.2 (mapped (λ v. number_in locals v.place) vs found.0 (in_reverse vs found.0 found.1)))

parameters_seen : (t : Tables) (f : tree.FunctionTree) → Apart (function_places f) → AreIn (function_variables t f) (own_numbers t f) (visible (parameter_scope t f))
parameters_seen t f apart =
    let P : List Variable → Type 0 = λ vs. AreIn (function_variables t f) (own_numbers t f) vs in
    subst P (sym (append-nil (reverse (parameters_of t f))))
    (reversed_in (function_variables t f) (own_numbers t f) (parameters_of t f)
    (λ x there. (
      (parameters_declared t f apart).known x there,
      Contains-append_right (numbers_in (function_variables t f) (loose_row t (body_statements f))) (numbers_in (function_variables t f) (parameters_of t f)) x there,
    )))

body_fresh : (t : Tables) (f : tree.FunctionTree) → Apart (function_places f)
    → AreFresh (function_variables t f) (own_numbers t f) (statements_variables t (body_statements f)) (loose_row t (body_statements f))
body_fresh t f apart x declared there =
    ⊎_elim (λ own. own)
    (λ parameter. absurd (not_both (function_variables t f) (parameters_of t f) (statements_variables t (body_statements f)) x (all_declared t f apart) parameter declared))
    (Contains-append_cases (numbers_in (function_variables t f) (loose_row t (body_statements f))) (numbers_in (function_variables t f) (parameters_of t f)) x there)

body_stands : (t : Tables) (defs : List Def) (f : tree.FunctionTree) → Apart (function_places f)
    → Stands (naming t defs (function_variables t f)) (own_numbers t f) (parameter_scope t f) (statements_variables t (body_statements f)) (loose_row t (body_statements f))
body_stands t defs f apart = record {
  seen = parameters_seen t f apart;
  made = own_in (function_variables t f) (numbers_in (function_variables t f) (parameters_of t f)) (loose_row t (body_statements f)) (statements_variables t (body_statements f))
      (row_among (function_variables t f) t (body_statements f)) (body_declared t f apart);
  differ = body_declared t f apart;
  fresh = body_fresh t f apart;
}

length_locals : (vs : List Variable) → length (map local_of vs) ≡ length vs
length_locals [] = refl
length_locals (v ∷ vs) = ap suc (length_locals vs)

not_longer : (xs ys : List Variable) → length xs ≤ length (xs ++ ys)
not_longer [] ys = omega arith
not_longer (x ∷ xs) ys = omega (arith, not_longer xs ys)

function_scoped : (t : Tables) (defs : List Def) (f : tree.FunctionTree) → IsFaultless t f → IsScoped (resolved_function t defs f)
function_scoped t defs f good =
    let body : List Fault = body_faults t f f.body in
    let before : List Fault =
    returned_faults t f f.returned ++ flat_map (λ p. declarator_faults t p.base p.declarator) (listed_parameters f.parameters)
    ++ repeated [] (map (λ p. p.declarator.name) (listed_parameters f.parameters)) in
    let e = length_locals (function_variables t f) in
    record {
      own = own_numbers t f;
      parameters = λ x less. Contains-append_right (numbers_in (function_variables t f) (loose_row t (body_statements f))) (numbers_in (function_variables t f) (parameters_of t f)) x
          (first_numbers (parameters_of t f) (statements_variables t (body_statements f)) (all_apart t f good.apart) x less);
      counted = subst (λ n. length (parameters_of t f) ≤ n) (sym e) (not_longer (parameters_of t f) (statements_variables t (body_statements f)));
      body = subst (λ n. AreScopedIn n (own_numbers t f) (resolved_statements (naming t defs (function_variables t f)) (parameter_scope t f) (body_statements f))) (sym e)
          (statements_in (context_of t f) defs (function_variables t f) (own_numbers t f) (parameter_scope t f) (body_statements f)
          (body_stands t defs f good.apart)
          (body_faultless t f f.body (none_right before body good.faultless)));
    }

-- ---- all functions of a program
abbrev AreFaultless : Tables → List tree.FunctionTree → Type 0
AreFaultless t [] = Unit {0}
AreFaultless t (f ∷ fs) = IsFaultless t f × AreFaultless t fs

both_faultless : (t : Tables) (fs gs : List tree.FunctionTree) → AreFaultless t fs → AreFaultless t gs → AreFaultless t (fs ++ gs)
both_faultless t [] gs first second = second
both_faultless t (f ∷ fs) gs first second = (first.0, both_faultless t fs gs first.1 second)

item_faultless : (t : Tables) (item : tree.ItemTree) → Apart (item_places item) → item_tree_faults t item ≡ [] → AreFaultless t (item_functions item)
item_faultless t (tree.structure s) apart e = tt
item_faultless t (tree.typedef d) apart e = tt
item_faultless t (tree.function f) apart e = (record { apart = apart; faultless = e }, tt)

unit_faultless : (t : Tables) (unit : List tree.ItemTree) → Apart (flat_map item_places unit) → flat_map (item_tree_faults t) unit ≡ [] → AreFaultless t (flat_map item_functions unit)
unit_faultless t [] apart e = tt
unit_faultless t (item ∷ unit) apart e =
    both_faultless t (item_functions item) (flat_map item_functions unit)
    (item_faultless t item (apart_left (item_places item) (flat_map item_places unit) apart) (none_left (item_tree_faults t item) (flat_map (item_tree_faults t) unit) e))
    (unit_faultless t unit (apart_right (item_places item) (flat_map item_places unit) apart) (none_right (item_tree_faults t item) (flat_map (item_tree_faults t) unit) e))

kept_faultless : (t : Tables) (b : Bool) (f : tree.FunctionTree) (fs : List tree.FunctionTree) → IsFaultless t f → AreFaultless t fs → AreFaultless t (cond b (f ∷ fs) fs)
kept_faultless t true f fs one more = (one, more)
kept_faultless t false f fs one more = more

defined_faultless : (t : Tables) (fs : List tree.FunctionTree) → AreFaultless t fs → AreFaultless t (filter is_defined fs)
defined_faultless t [] are = tt
defined_faultless t (f ∷ fs) are = kept_faultless t (is_defined f) f (filter is_defined fs) are.0 (defined_faultless t fs are.1)

no_function : (n : ℕ) (f : Function) → slice_get {X = Function} [] n ≡ Some f → ⊥
no_function n f e = absurd (cc)

functions_scoped : (t : Tables) (defs : List Def) (fs : List tree.FunctionTree) → AreFaultless t fs → (n : ℕ) (f : Function)
    → slice_get (map (resolved_function t defs) fs) n ≡ Some f → IsScoped f
functions_scoped t defs [] are n f e = absurd (no_function n f e)
functions_scoped t defs (g ∷ fs) are zero f e = subst IsScoped (same_Some (resolved_function t defs g) f e) (function_scoped t defs g are.0)
functions_scoped t defs (g ∷ fs) are (suc n) f e = functions_scoped t defs fs are.1 n f e

pub program_scoped : (unit : tree.UnitTree) (defs : List Def) (entry : List ℕ) → IsWellTyped unit entry → AreDistinct (declared_places unit)
    → AreScoped (resolved_program (tables_of unit) defs entry)
program_scoped unit defs entry typed distinct =
    functions_scoped (tables_of unit) defs (defined_functions (tables_of unit))
    (defined_faultless (tables_of unit) (tables_of unit).functions
    (unit_faultless (tables_of unit) unit (apart_from_distinct (declared_places unit) distinct)
    (none_right (table_faults unit (tables_of unit)) (flat_map (item_tree_faults (tables_of unit)) unit) typed.plain)))
