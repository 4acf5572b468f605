-- Well-typed programs, resolved, can be lowered.
use Rattle.std.proofs.Common.{◌≡◌, ◌<◌, ◌≤◌, ◌+◌, ◌⊎◌, inl, inr, ⊎_elim, ℕ, zero, suc, Bool, true, false, cond, not, List, [], ◌∷◌, ◌++◌, Option, Some, None, map, reverse, flat_map, filter, length, slice_get, option_map, refl, sym, ap, subst, ◌∙◌, arith, Contains, append-nil, eq-eqb}
use Rattle.std.specs.Option.{option_map_or}
use Rattle.std.specs.List.{list_any, position_or_len}
use Rattle.std.proofs.lemmas.List.Elements.{Contains-append_left, Contains-append_right}
use Rattle.std.proofs.lemmas.Option.{same_Some, slice_get-map}
use Rattle.mc_c_syntax.specs.declared.ast.trees.Parameter.{Parameter}
use Rattle.mc_c_syntax.specs.Ast.Names.{is_same}
use Rattle.mc_c_syntax.specs.Ast.Trees as tree
use Rattle.mc_base.specs.declared.text.place.Place.{Place}
use Rattle.mc_flow.specs.declared.defs.rules.Def.{Def}
use Rattle.mc_flow.specs.declared.defs.shapes.Structs.{Structs}
use Rattle.mc_c_grammar.specs.Places.Places.{AreDistinct, declared_places, item_places}
use Rattle.mc_lower_spec.specs.Length.Lengths.{all_declared, below}
use Rattle.mc_semantics.specs.Configs.{is_place}
use Rattle.mc_c_types.specs.Tables.{Tables, Variable, parameters_of, listed_parameters, returned_type, is_defined, item_functions, tables_of, struct_infos, variable_of as declared_variable}
use Rattle.mc_c_types.specs.Scopes.{visible}
use Rattle.mc_c_types.specs.Faults.{statements_faults, body_faults, function_faults, item_tree_faults, table_faults, returned_faults, declarator_faults, repeated, prototype_faults, typedef_names}
use Rattle.mc_c_types.specs.declared.faults.Fault.{Fault}
use Rattle.mc_c_types.specs.Typing.{IsWellTyped, is_entry}
use Rattle.mc_semantics.specs.Resolved.Programs.{Function}
use Rattle.mc_semantics.specs.Resolved.Resolving.{Naming, statements_variables, body_statements, function_variables, defined_functions, numbers_in, number_in, naming_of, parameter_scope, resolved_statements, resolved_function, resolved_program}
use Rattle.mc_lower_laws.proofs.ScopedLemmas.Lists.{Apart, apart_left, apart_right, apart_both, in_reverse, mapped, unmapped, contains_none, contains_head, contains_cases, number_left, numbers_append}
use Rattle.mc_lower_laws.proofs.ScopedLemmas.Places.{numbers_known, numbers_apart, first_numbers}
use Rattle.mc_lower_laws.proofs.ScopedLemmas.Faultless.{none_left, none_right, AreIn}
use Rattle.mc_lower_laws.proofs.ScopedLemmas.Wholes.{apart_from_distinct}
use Rattle.mc_lower_laws.proofs.KindsLemmas.Spots.{function_places_are}
use Rattle.mc_lower_laws.specs.Lowerable.Lowerable.{IsOnce, IsLowerableFunction, IsLowerableProgram}
use Rattle.mc_lower_laws.proofs.LowerableLemmas.Named.{AreCounted, counted}
use Rattle.mc_lower_laws.proofs.LowerableLemmas.Scoping.{known_right, row_is}
use Rattle.mc_lower_laws.proofs.LowerableLemmas.Statements.{statements_lowerable}
use Rattle.mc_lower_laws.proofs.LowerableLemmas.Entry.{kept_entry, entry_first, none_listed}

-- ---- lists of numbers
once : (xs : List ℕ) → Apart xs → IsOnce xs
once [] apart = tt
once (x ∷ xs) apart = (apart.0, once xs apart.1)

less_or : (x n : ℕ) → (x < n) ⊎ (n ≤ x)
less_or x zero = inr (omega arith)
less_or zero (suc n) = inl (omega arith)
less_or (suc x) (suc n) = ⊎_elim (λ l. inl (omega (arith, l))) (λ m. inr (omega (arith, m))) (less_or x n)

less_or_same : (x n : ℕ) → x < suc n → (x < n) ⊎ (n ≡ x)
less_or_same zero zero less = inr refl
less_or_same zero (suc n) less = inl (omega arith)
less_or_same (suc x) zero less = absurd (omega (arith, less))
less_or_same (suc x) (suc n) less = ⊎_elim (λ l. inl (omega (arith, l))) (λ e. inr (ap suc e)) (less_or_same x n (omega (arith, less)))

pub in_below : (n x : ℕ) → x < n → Contains (below n) x
in_below zero x less = absurd (omega (arith, less))
in_below (suc n) x less =
    let P : ℕ → Type 0 = λ z. Contains (below n ++ n ∷ []) z in
    ⊎_elim (λ l. Contains-append_left (below n) (n ∷ []) x (in_below n x l))
    (λ e. subst P e (Contains-append_right (below n) (n ∷ []) n (contains_head n [])))
    (less_or_same x n less)

-- ---- the parameters of a function have the first numbers
place_self : (p : Place) → is_place p p ≡ true
place_self p = rw (eq-eqb p.line p.line refl) (eq-eqb p.column p.column refl)

true_false : {X : Type 0} → true ≡ false → X
true_false e = absurd (cc)

first_known : (vs ws : List Variable) (p : Place) → Contains (map (λ v. v.place) vs) p → number_in (vs ++ ws) p < length vs
first_known [] ws p there = absurd (contains_none p there)
first_known (v ∷ vs) ws p there = at (is_place v.place p) (number_in (vs ++ ws) p) refl (λ more. first_known vs ws p more)
  where
    rest : is_place v.place p ≡ false → Contains (map (λ w. w.place) vs) p
    rest miss =
        ⊎_elim (λ e. true_false (sym (subst (λ z. is_place v.place z ≡ true) e (place_self v.place)) ∙ miss)) (λ later. later)
        (contains_cases v.place (map (λ w. w.place) vs) p there)

    at : (b : Bool) (k : ℕ) → is_place v.place p ≡ b → (Contains (map (λ w. w.place) vs) p → k < length vs) → cond (not b) (1 + k) 0 < suc (length vs)
    at true k same later = omega arith
    at false k same later = let low = later (rest same) in omega (arith, low)

parameters_low : (vs ws : List Variable) (x : ℕ) → Contains (numbers_in (vs ++ ws) vs) x → x < length vs
parameters_low vs ws x there =
    let found = unmapped (λ v. number_in (vs ++ ws) v.place) vs x there in
    subst (λ z. z < length vs) found.2 (first_known vs ws found.0.place (mapped (λ v. v.place) vs found.0 found.1))

-- ---- a function
body_faultless : (t : Tables) (f : tree.FunctionTree) (body : Option tree.BodyTree) → body_faults t f body ≡ []
    → statements_faults (record { tables = t; result = returned_type t f.returned; in_loop = false }) (parameter_scope t f) (option_map_or (λ b. tree.stmts_of b.statements) body tree.no_more) ≡ []
body_faultless t f None e = refl
body_faultless t f (Some body) e = e

-- a function whose variables are declared at different places, and without faults
pub record IsGood (t : Tables) (f : tree.FunctionTree) : Type 0 where
  pub apart : Apart (map (λ v. v.place) (function_variables t f))
  pub faultless : function_faults t f ≡ []

parameters_in : (t : Tables) (f : tree.FunctionTree) → AreIn (function_variables t f) (below (length (parameters_of t f))) (visible (parameter_scope t f))
parameters_in t f =
    let locals : List Variable = function_variables t f in
    let ps : List Variable = parameters_of t f in
    let body : List Variable = statements_variables t (body_statements f) in
    let P : List Variable → Type 0 = λ vs. AreIn locals (below (length ps)) vs in
    subst P (sym (append-nil (reverse ps)))
    (λ x there.
    let found = unmapped (λ v. number_in locals v.place) (reverse ps) x there in
    let own : Contains (numbers_in locals ps) x =
    subst (λ z. Contains (numbers_in locals ps) z) found.2 (mapped (λ v. number_in locals v.place) ps found.0 (in_reverse ps found.0 found.1)) in
    (numbers_known locals locals (λ v here. here) x (number_left locals ps body x own), in_below (length ps) x (parameters_low ps body x own)))

function_lowerable : (t : Tables) (structs : Structs) (defs : List Def) (f : tree.FunctionTree) → AreCounted structs t → IsGood t f
    → IsLowerableFunction structs (resolved_function t defs f)
function_lowerable t structs defs f counts good =
    let n : Naming = naming_of t defs f in
    let locals : List Variable = function_variables t f in
    let ps : List Variable = parameters_of t f in
    let body : List Variable = statements_variables t (body_statements f) in
    let split : Apart (numbers_in locals ps ++ numbers_in locals body) =
    subst Apart (numbers_append locals ps body) (numbers_apart locals locals (λ v there. there) good.apart) in
    let row : all_declared (resolved_statements n (parameter_scope t f) (body_statements f)) ≡ numbers_in locals body = row_is n (parameter_scope t f) (body_statements f) in
    let before : List Fault =
    returned_faults t f f.returned ++ flat_map (λ p. declarator_faults t p.base p.declarator) (listed_parameters f.parameters)
    ++ repeated [] (map (λ p. p.declarator.name) (listed_parameters f.parameters)) in
    record {
      body = statements_lowerable n structs (returned_type t f.returned) false (below (length ps)) (parameter_scope t f) (body_statements f) counts
          (known_right locals ps body (numbers_known locals locals (λ v there. there)))
          (parameters_in t f)
          (body_faultless t f f.body (none_right before (body_faults t f f.body) good.faultless));
      once = subst IsOnce (sym row) (once (numbers_in locals body) (apart_right (numbers_in locals ps) (numbers_in locals body) split));
      behind = λ x there.
          ⊎_elim
          (λ less. absurd (apart_both (numbers_in locals ps) (numbers_in locals body) x split (first_numbers ps body good.apart x less) (subst (λ xs. Contains xs x) row there)))
          (λ more. more)
          (less_or x (length ps));
    }

-- ---- all functions of a program
abbrev AreGood : Tables → List tree.FunctionTree → Type 0
AreGood t [] = Unit {0}
AreGood t (f ∷ fs) = IsGood t f × AreGood t fs

both_good : (t : Tables) (fs gs : List tree.FunctionTree) → AreGood t fs → AreGood t gs → AreGood t (fs ++ gs)
both_good t [] gs first second = second
both_good t (f ∷ fs) gs first second = (first.0, both_good t fs gs first.1 second)

item_good : (t : Tables) (item : tree.ItemTree) → Apart (item_places item) → item_tree_faults t item ≡ [] → AreGood t (item_functions item)
item_good t (tree.structure s) apart e = tt
item_good t (tree.typedef d) apart e = tt
item_good t (tree.function f) apart e = (record { apart = subst Apart (sym (function_places_are t f)) apart; faultless = e }, tt)

unit_good : (t : Tables) (unit : List tree.ItemTree) → Apart (flat_map item_places unit) → flat_map (item_tree_faults t) unit ≡ [] → AreGood t (flat_map item_functions unit)
unit_good t [] apart e = tt
unit_good t (item ∷ unit) apart e =
    both_good t (item_functions item) (flat_map item_functions unit)
    (item_good t item (apart_left (item_places item) (flat_map item_places unit) apart) (none_left (item_tree_faults t item) (flat_map (item_tree_faults t) unit) e))
    (unit_good t unit (apart_right (item_places item) (flat_map item_places unit) apart) (none_right (item_tree_faults t item) (flat_map (item_tree_faults t) unit) e))

kept_good : (t : Tables) (b : Bool) (f : tree.FunctionTree) (fs : List tree.FunctionTree) → IsGood t f → AreGood t fs → AreGood t (cond b (f ∷ fs) fs)
kept_good t true f fs one more = (one, more)
kept_good t false f fs one more = more

defined_good : (t : Tables) (fs : List tree.FunctionTree) → AreGood t fs → AreGood t (filter is_defined fs)
defined_good t [] are = tt
defined_good t (f ∷ fs) are = kept_good t (is_defined f) f (filter is_defined fs) are.0 (defined_good t fs are.1)

functions_lowerable : (t : Tables) (structs : Structs) (defs : List Def) (fs : List tree.FunctionTree) → AreCounted structs t → AreGood t fs → (n : ℕ) (f : Function)
    → slice_get (map (resolved_function t defs) fs) n ≡ Some f → IsLowerableFunction structs f
functions_lowerable t structs defs [] counts are n f e = absurd (cc)
functions_lowerable t structs defs (g ∷ fs) counts are zero f e =
    subst (IsLowerableFunction structs) (same_Some (resolved_function t defs g) f e) (function_lowerable t structs defs g counts are.0)
functions_lowerable t structs defs (g ∷ fs) counts are (suc n) f e = functions_lowerable t structs defs fs counts are.1 n f e

-- ---- the entry
entry_is : (t : Tables) (defs : List Def) (entry : List ℕ) → repeated [] (map (λ f. f.name) (defined_functions t)) ≡ [] → list_any (is_entry entry) t.functions ≡ true
    → (f : Function) × (slice_get (map (resolved_function t defs) (defined_functions t)) (position_or_len (λ g. is_same g.name.text entry) (defined_functions t)) ≡ Some f) × (f.parameters ≡ 0)
entry_is t defs entry none there =
    let found = entry_first entry [] (defined_functions t) none (kept_entry entry t.functions there) in
    let number : ℕ = position_or_len (λ g. is_same g.name.text entry) (defined_functions t) in (
      resolved_function t defs found.0,
      slice_get-map (resolved_function t defs) (defined_functions t) number ∙ ap (option_map (resolved_function t defs)) found.1,
      ap (λ (ps : List Parameter). length (map (λ p. declared_variable t p.base p.declarator) ps)) (none_listed (listed_parameters found.0.parameters) found.2),
    )

pub program_lowerable : (unit : tree.UnitTree) (defs : List Def) (entry : List ℕ) → IsWellTyped unit entry → AreDistinct (declared_places unit)
    → IsLowerableProgram (record { list = struct_infos unit }) (resolved_program (tables_of unit) defs entry)
program_lowerable unit defs entry typed distinct =
    let t : Tables = tables_of unit in
    let structs : Structs = record { list = struct_infos unit } in
    let items : List Fault = flat_map (item_tree_faults t) unit in
    let tables : List Fault = table_faults unit t in
    let names : List Fault = repeated [] (map (λ f. f.name) (defined_functions t)) in
    let before : List Fault = repeated [] (map (λ s. s.name) t.structs) ++ repeated [] (flat_map typedef_names unit) in
    let twice : names ≡ [] = none_right before names (none_left (before ++ names) (prototype_faults t [] t.functions) (none_left tables items typed.plain)) in
    record {
      functions = functions_lowerable t structs defs (defined_functions t) (counted unit)
          (defined_good t t.functions (unit_good t unit (apart_from_distinct (declared_places unit) distinct) (none_right tables items typed.plain)));
      entry = entry_is t defs entry twice typed.entered;
    }
