-- Well-typed programs, resolved, are of their kinds.
use Rattle.std.proofs.Common.{◌≡◌, ◌<◌, ◌≤◌, ◌+◌, ℕ, zero, suc, Bool, true, false, cond, not, ◌&&◌, List, [], ◌∷◌, ◌++◌, map, reverse, flat_map, filter, length, get_or, Option, Some, None, option_map, find, refl, sym, ap, subst, ◌∙◌, arith}
use Rattle.std.specs.Option.{option_map_or}
use Rattle.std.specs.Prelude.{All, slice_get}
use Rattle.std.specs.List.{position_or_len}
use Rattle.std.proofs.lemmas.Grind.{reverse_onto}
use Rattle.std.proofs.lemmas.List.{length-map}
use Rattle.std.proofs.lemmas.List.Elements.{All-head, All-tail}
use Rattle.std.proofs.lemmas.Option.{same_Some, slice_get-map}
use Rattle.mc_base.specs.Text.Numbers.{max_number}
use Rattle.mc_c_syntax.specs.declared.ast.trees.Parameter.{Parameter}
use Rattle.mc_c_syntax.specs.declared.ast.trees.Returned.{Returned}
use Rattle.mc_c_syntax.specs.declared.ast.trees.Declarator.{Declarator}
use Rattle.mc_c_syntax.specs.declared.ast.trees.Base.{Base}
use Rattle.mc_c_syntax.specs.Ast.Names.{is_same}
use Rattle.mc_c_syntax.specs.Ast.Trees as tree
use Rattle.mc_flow.specs.declared.defs.rules.Def.{Def}
use Rattle.mc_flow.specs.declared.defs.shapes.Structs.{Structs}
use Rattle.mc_flow.specs.Defs.Conditions.{DefsFit}
use Rattle.mc_c_grammar.specs.Numbers.Numbers.{maybe_numbers, body_numbers, statements_numbers, item_numbers, unit_numbers, HasSmallNumbers}
use Rattle.mc_c_grammar.specs.Places.Places.{AreDistinct, function_places, item_places, declared_places}
use Rattle.mc_c_types.specs.Tables.{Tables, Variable, kind_of, variable_of, variables_of, fields_of, parameters_of, listed_parameters, returned_type, is_defined, called_function, item_structs, unit_structs, item_functions, aliased_structs, tables_of, struct_infos}
use Rattle.mc_c_types.specs.Shapes.{use_faults, statements_uses, body_uses, item_uses, unit_uses, IsBound}
use Rattle.mc_c_types.specs.Faults.{repeated, declarator_faults, statements_faults, struct_faults, aliased_faults, alias_faults, aliased_base, returned_faults, body_faults, function_faults, item_tree_faults, table_faults}
use Rattle.mc_c_types.specs.Typing.{IsWellTyped}
use Rattle.mc_c_types.specs.declared.faults.Fault.{Fault}
use Rattle.mc_semantics.specs.Resolved.Programs.{Function, Program}
use Rattle.mc_semantics.specs.Resolved.Resolving.{Naming, number_in, statements_variables, body_statements, function_variables, defined_functions, local_of, naming_of, parameter_scope, resolved_function, resolved_program}
use Rattle.mc_lower_laws.specs.Valid.Kinds.{Here, IsVariable, AreOfKinds, IsWellMade}
use Rattle.mc_lower_laws.proofs.ScopedLemmas.Lists.{Apart, apart_left, apart_right}
use Rattle.mc_lower_laws.proofs.ScopedLemmas.Places.{number_at}
use Rattle.mc_lower_laws.proofs.ScopedLemmas.Faultless.{none_left, none_right}
use Rattle.mc_lower_laws.proofs.ScopedLemmas.Wholes.{apart_from_distinct}
use Rattle.mc_lower_laws.specs.Kinds.Typedefs.{HasKnownTypedefs}
use Rattle.mc_lower_laws.proofs.KindsLemmas.Types.{Each, each_left, each_right, each_both, IsProper}
use Rattle.mc_lower_laws.proofs.KindsLemmas.Known.{info_of}
use Rattle.mc_lower_laws.proofs.KindsLemmas.Expressions.{AreSmall}
use Rattle.mc_lower_laws.proofs.KindsLemmas.Meanings.{AreMeant, type_proper, declarator_proper}
use Rattle.mc_lower_laws.proofs.KindsLemmas.Rights.{IsProperResult, IsCallee, IsKnownProgram}
use Rattle.mc_lower_laws.proofs.KindsLemmas.Statements.{AreOwn, statements_is}
use Rattle.mc_lower_laws.proofs.KindsLemmas.Typedefs.{all_meant, none_covered}
use Rattle.mc_lower_laws.proofs.KindsLemmas.Spots.{function_places_are}

-- ---- lists
each_from : {X : Type 0} (P : X → Type 0) (xs : List X) → All P xs → Each P xs
each_from P [] all = tt
each_from P (x ∷ xs) all = (All-head P x xs all, each_from P xs (All-tail P x xs all))

each_reverse : {X : Type 0} (P : X → Type 0) (xs : List X) → Each P xs → Each P (reverse xs)
each_reverse P [] all = tt
each_reverse P (x ∷ xs) all = subst (Each P) (sym (reverse_onto xs x [])) (each_both P (reverse xs) (x ∷ []) (each_reverse P xs all.1) (all.0, tt))

none_in_each : {X : Type 0} (f : X → List Fault) (xs : List X) → flat_map f xs ≡ [] → Each (λ x. f x ≡ []) xs
none_in_each f [] e = tt
none_in_each f (x ∷ xs) e = (none_left (f x) (flat_map f xs) e, none_in_each f xs (none_right (f x) (flat_map f xs) e))

each_there : {X : Type 0} (P : X → Type 0) (xs : List X) (k : ℕ) (x : X) → Each P xs → slice_get xs k ≡ Some x → P x
each_there P [] k x all e = absurd (cc)
each_there P (y ∷ xs) zero x all e = subst P (same_Some y x e) all.0
each_there P (y ∷ xs) (suc k) x all e = each_there P xs k x all.1 e

-- ---- the variables of a function
kind_there : (vs : List Variable) (i : ℕ) (d : Variable) → i < length vs → option_map (λ l. l.kind) (slice_get (map local_of vs) i) ≡ Some (kind_of (get_or vs i d).type)
kind_there [] i d less = absurd (omega (arith, less))
kind_there (v ∷ vs) zero d less = refl
kind_there (v ∷ vs) (suc i) d less = kind_there vs i d (omega (arith, less))

abbrev HasKind : List Variable → Variable → Type 0
HasKind locals v = option_map (λ l. l.kind) (slice_get (map local_of locals) (number_in locals v.place)) ≡ Some (kind_of v.type)

have_kinds : (locals : List Variable) → Apart (map (λ v. v.place) locals) → Each (HasKind locals) locals
have_kinds locals apart =
    each_from (HasKind locals) locals
    (λ i d less. ap (λ k. option_map (λ l. l.kind) (slice_get (map local_of locals) k)) (number_at locals i d apart less) ∙ kind_there locals i d less)

-- ---- a function
-- a function of a program without faults
record IsGoodFunction (t : Tables) (defs : List Def) (f : tree.FunctionTree) : Type 0 where
  apart : Apart (map (λ v. v.place) (function_variables t f))
  faultless : function_faults t f ≡ []
  small : AreSmall (maybe_numbers body_numbers f.body)
  fit : Each (λ u. use_faults defs u ≡ []) (body_uses t f f.body)

abbrev parameter_faults : Tables → tree.FunctionTree → List Fault
parameter_faults t f = flat_map (λ p. declarator_faults t p.base p.declarator) (listed_parameters f.parameters)

abbrev name_faults : tree.FunctionTree → List Fault
name_faults f = repeated [] (map (λ p. p.declarator.name) (listed_parameters f.parameters))

parameters_faultless : (t : Tables) (f : tree.FunctionTree) → function_faults t f ≡ [] → parameter_faults t f ≡ []
parameters_faultless t f e =
    none_right (returned_faults t f f.returned) (parameter_faults t f)
    (none_left (returned_faults t f f.returned ++ parameter_faults t f) (name_faults f)
    (none_left (returned_faults t f f.returned ++ parameter_faults t f ++ name_faults f) (body_faults t f f.body) e))

returned_faultless : (t : Tables) (f : tree.FunctionTree) → function_faults t f ≡ [] → returned_faults t f f.returned ≡ []
returned_faultless t f e =
    none_left (returned_faults t f f.returned) (parameter_faults t f)
    (none_left (returned_faults t f f.returned ++ parameter_faults t f) (name_faults f)
    (none_left (returned_faults t f f.returned ++ parameter_faults t f ++ name_faults f) (body_faults t f f.body) e))

listed_proper : (t : Tables) → AreMeant (length t.structs) t.aliases → (ps : List Parameter) → flat_map (λ p. declarator_faults t p.base p.declarator) ps ≡ []
    → Each (λ v. IsProper (length t.structs) v.type) (map (λ p. variable_of t p.base p.declarator) ps)
listed_proper t meant [] e = tt
listed_proper t meant (p ∷ ps) e =
    let x : List Fault = declarator_faults t p.base p.declarator in
    let y : List Fault = flat_map (λ q. declarator_faults t q.base q.declarator) ps in
    (declarator_proper t meant p.base p.declarator (none_left x y e), listed_proper t meant ps (none_right x y e))

result_proper : (t : Tables) → AreMeant (length t.structs) t.aliases → (f : tree.FunctionTree) (r : Returned) → returned_faults t f r ≡ [] → IsProperResult (length t.structs) (returned_type t r)
result_proper t meant f (Returned.Void p) e = tt
result_proper t meant f (Returned.Value base star) e = type_proper t meant base star f.name.place e

-- types and numbers together
both_known : (n : Naming) (h : Here) (vs : List Variable) → Each (λ v. IsProper (length n.tables.structs) v.type) vs → AreOwn n h vs
    → Each (λ v. IsProper (length n.tables.structs) v.type × IsVariable h (kind_of v.type) (number_in n.locals v.place)) vs
both_known n h [] proper own = tt
both_known n h (v ∷ vs) proper own = ((proper.0, own.0), both_known n h vs proper.1 own.1)

abbrev at_function : Structs → Program → Tables → List Def → tree.FunctionTree → Here
at_function structs p t defs f = record { structs = structs; program = p; function = resolved_function t defs f }

body_none : (t : Tables) (f : tree.FunctionTree) (body : Option tree.BodyTree) → body_faults t f body ≡ []
    → statements_faults (record { tables = t; result = returned_type t f.returned; in_loop = false }) (parameter_scope t f) (option_map_or (λ b. tree.stmts_of b.statements) body tree.no_more) ≡ []
body_none t f None e = refl
body_none t f (Some body) e = e

body_small : (body : Option tree.BodyTree) → AreSmall (maybe_numbers body_numbers body) → AreSmall (statements_numbers (option_map_or (λ b. tree.stmts_of b.statements) body tree.no_more))
body_small None small = tt
body_small (Some body) small = small

body_fit : (t : Tables) (defs : List Def) (f : tree.FunctionTree) (body : Option tree.BodyTree) → Each (λ u. use_faults defs u ≡ []) (body_uses t f body)
    → Each (λ u. use_faults defs u ≡ []) (statements_uses t (parameter_scope t f) (option_map_or (λ b. tree.stmts_of b.statements) body tree.no_more))
body_fit t defs f None fit = tt
body_fit t defs f (Some body) fit = fit

function_is : (structs : Structs) (p : Program) (t : Tables) (defs : List Def) (f : tree.FunctionTree) → IsKnownProgram (naming_of t defs f) (at_function structs p t defs f)
    → IsGoodFunction t defs f → AreOfKinds (at_function structs p t defs f) (resolved_function t defs f).body
function_is structs p t defs f known good =
    let n : Naming = naming_of t defs f in
    let h : Here = at_function structs p t defs f in
    let all : AreOwn n h (function_variables t f) = have_kinds (function_variables t f) good.apart in
    let first : AreOwn n h (parameters_of t f) = each_left (λ v. IsVariable h (kind_of v.type) (number_in n.locals v.place)) (parameters_of t f) (statements_variables t (body_statements f)) all in
    let proper = listed_proper t known.meant (listed_parameters f.parameters) (parameters_faultless t f good.faultless) in
    statements_is n h (returned_type t f.returned) (record { proper = result_proper t known.meant f f.returned (returned_faultless t f good.faultless); is = refl }) false (parameter_scope t f) (body_statements f)
    (record {
      seen = record {
        known = known;
        heads = tt;
        own = each_reverse (λ v. IsProper (length n.tables.structs) v.type × IsVariable h (kind_of v.type) (number_in n.locals v.place)) (parameters_of t f) (both_known n h (parameters_of t f) proper first);
        outer = tt;
      };
      own = each_right (λ v. IsVariable h (kind_of v.type) (number_in n.locals v.place)) (parameters_of t f) (statements_variables t (body_statements f)) all;
      small = body_small f.body good.small;
      none = body_none t f f.body (none_right (returned_faults t f f.returned ++ parameter_faults t f ++ name_faults f) (body_faults t f f.body) good.faultless);
      fit = body_fit t defs f f.body good.fit;
    })

-- ---- all functions
function_good : (t : Tables) (defs : List Def) (f : tree.FunctionTree) → Apart (function_places f) → function_faults t f ≡ [] → AreSmall (maybe_numbers body_numbers f.body)
    → Each (λ u. use_faults defs u ≡ []) (body_uses t f f.body) → IsGoodFunction t defs f
function_good t defs f apart faultless small fit = record { apart = subst Apart (sym (function_places_are t f)) apart; faultless = faultless; small = small; fit = fit }

item_good : (t : Tables) (defs : List Def) (item : tree.ItemTree) → Apart (item_places item) → item_tree_faults t item ≡ [] → AreSmall (item_numbers item)
    → Each (λ u. use_faults defs u ≡ []) (item_uses t item) → Each (IsGoodFunction t defs) (item_functions item)
item_good t defs (tree.structure s) apart e small fit = tt
item_good t defs (tree.typedef d) apart e small fit = tt
item_good t defs (tree.function f) apart e small fit = (function_good t defs f apart e small fit, tt)

all_good : (t : Tables) (defs : List Def) (items : List tree.ItemTree) → Apart (flat_map item_places items) → flat_map (item_tree_faults t) items ≡ [] → AreSmall (flat_map item_numbers items)
    → Each (λ u. use_faults defs u ≡ []) (flat_map (item_uses t) items) → Each (IsGoodFunction t defs) (flat_map item_functions items)
all_good t defs [] apart e small fit = tt
all_good t defs (item ∷ items) apart e small fit =
    each_both (IsGoodFunction t defs) (item_functions item) (flat_map item_functions items)
    (item_good t defs item (apart_left (item_places item) (flat_map item_places items) apart) (none_left (item_tree_faults t item) (flat_map (item_tree_faults t) items) e)
    (each_left (λ k. k ≤ max_number) (item_numbers item) (flat_map item_numbers items) small) (each_left (λ u. use_faults defs u ≡ []) (item_uses t item) (flat_map (item_uses t) items) fit))
    (all_good t defs items (apart_right (item_places item) (flat_map item_places items) apart) (none_right (item_tree_faults t item) (flat_map (item_tree_faults t) items) e)
    (each_right (λ k. k ≤ max_number) (item_numbers item) (flat_map item_numbers items) small) (each_right (λ u. use_faults defs u ≡ []) (item_uses t item) (flat_map (item_uses t) items) fit))

each_kept : {X : Type 0} (P : X → Type 0) (test : X → Bool) (xs : List X) → Each P xs → Each P (filter test xs)
each_kept P test [] all = tt
each_kept {X} P test (x ∷ xs) all = at (test x) (filter test xs) (each_kept P test xs all.1)
  where
    at : (b : Bool) (rest : List X) → Each P rest → Each P (cond b (x ∷ rest) rest)
    at true rest more = (all.0, more)
    at false rest more = more

-- the function that is called, with its number among the defined ones
called_at : {Y : Type 0} (R : tree.FunctionTree → Y) (P : tree.FunctionTree → Type 0) (name : List ℕ) (fs : List tree.FunctionTree) (f : tree.FunctionTree) → Each P fs
    → find (λ g. is_defined g && is_same g.name.text name) fs ≡ Some f
    → P f × (slice_get (map R (filter is_defined fs)) (position_or_len (λ g. is_same g.name.text name) (filter is_defined fs)) ≡ Some (R f))
called_at R P name [] f all e = absurd (cc)
called_at {Y} R P name (g ∷ fs) f all e =
    at (is_defined g) (find (λ k. is_defined k && is_same k.name.text name) fs) (filter is_defined fs) (λ more. called_at R P name fs f all.1 more) e
  where
    numbered : (c : Bool) (rest : Option tree.FunctionTree) (others : List tree.FunctionTree) (k : ℕ) → (rest ≡ Some f → P f × (slice_get (map R others) k ≡ Some (R f)))
        → cond c (Some g) rest ≡ Some f → P f × (slice_get (map R (g ∷ others)) (cond (not c) (1 + k) 0) ≡ Some (R f))
    numbered true rest others k later h = let same = same_Some g f h in (subst P same all.0, ap (λ x. Some (R x)) same)
    numbered false rest others k later h =
        let r = later h in
        let next : 1 + k ≡ suc k = omega arith in
        (r.0, ap (λ i. slice_get (map R (g ∷ others)) i) next ∙ r.1)

    at : (b : Bool) (rest : Option tree.FunctionTree) (others : List tree.FunctionTree)
        → (rest ≡ Some f → P f × (slice_get (map R others) (position_or_len (λ k. is_same k.name.text name) others) ≡ Some (R f)))
        → cond (b && is_same g.name.text name) (Some g) rest ≡ Some f
        → P f × (slice_get (map R (cond b (g ∷ others) others)) (position_or_len (λ k. is_same k.name.text name) (cond b (g ∷ others) others)) ≡ Some (R f))
    at true rest others later h = numbered (is_same g.name.text name) rest others (position_or_len (λ k. is_same k.name.text name) others) later h
    at false rest others later h = later h

callee_is : (t : Tables) (defs : List Def) → AreMeant (length t.structs) t.aliases → Each (IsGoodFunction t defs) t.functions → (name : List ℕ) (f : tree.FunctionTree)
    → called_function t name ≡ Some f → IsCallee t defs (map (resolved_function t defs) (defined_functions t)) name f
callee_is t defs meant good name f e =
    let r = called_at (resolved_function t defs) (IsGoodFunction t defs) name t.functions f good e in
    record {
      there = r.1;
      parameters = listed_proper t meant (listed_parameters f.parameters) (parameters_faultless t f r.0.faultless);
      returned = result_proper t meant f f.returned (returned_faultless t f r.0.faultless);
    }

-- ---- structs
declarators_proper : (t : Tables) → AreMeant (length t.structs) t.aliases → (base : Base) (ds : List Declarator) → flat_map (declarator_faults t base) ds ≡ []
    → Each (λ v. IsProper (length t.structs) v.type) (map (variable_of t base) ds)
declarators_proper t meant base [] e = tt
declarators_proper t meant base (d ∷ ds) e =
    let x : List Fault = declarator_faults t base d in
    let y : List Fault = flat_map (declarator_faults t base) ds in
    (declarator_proper t meant base d (none_left x y e), declarators_proper t meant base ds (none_right x y e))

fields_proper : (t : Tables) → AreMeant (length t.structs) t.aliases → (fields : List tree.FieldTree) → flat_map (λ field. flat_map (declarator_faults t field.base) field.declarators) fields ≡ []
    → Each (λ v. IsProper (length t.structs) v.type) (flat_map (variables_of t) fields)
fields_proper t meant [] e = tt
fields_proper t meant (field ∷ fields) e =
    let x : List Fault = flat_map (declarator_faults t field.base) field.declarators in
    let y : List Fault = flat_map (λ other. flat_map (declarator_faults t other.base) other.declarators) fields in
    each_both (λ v. IsProper (length t.structs) v.type) (variables_of t field) (flat_map (variables_of t) fields)
    (declarators_proper t meant field.base field.declarators (none_left x y e)) (fields_proper t meant fields (none_right x y e))

struct_proper : (t : Tables) → AreMeant (length t.structs) t.aliases → (s : tree.StructTree) → struct_faults t s ≡ [] → Each (λ v. IsProper (length t.structs) v.type) (fields_of t s)
struct_proper t meant s e =
    fields_proper t meant s.fields
    (none_left (flat_map (λ field. flat_map (declarator_faults t field.base) field.declarators) s.fields) (repeated [] (flat_map (λ field. map (λ d. d.name) field.declarators) s.fields)) e)

aliased_faultless : (t : Tables) (a : tree.AliasedTree) → aliased_faults t a ≡ [] → Each (λ s. struct_faults t s ≡ []) (aliased_structs a)
aliased_faultless t (tree.of_base base) e = tt
aliased_faultless t (tree.of_struct s) e = (e, tt)

item_structs_faultless : (t : Tables) (item : tree.ItemTree) → item_tree_faults t item ≡ [] → Each (λ s. struct_faults t s ≡ []) (item_structs item)
item_structs_faultless t (tree.structure s) e = (e, tt)
item_structs_faultless t (tree.typedef d) e = aliased_faultless t d.aliased (none_left (aliased_faults t d.aliased) (flat_map (alias_faults t (aliased_base d.aliased)) d.declarators) e)
item_structs_faultless t (tree.function f) e = tt

structs_faultless : (t : Tables) (items : List tree.ItemTree) → flat_map (item_tree_faults t) items ≡ [] → Each (λ s. struct_faults t s ≡ []) (flat_map item_structs items)
structs_faultless t [] e = tt
structs_faultless t (item ∷ items) e =
    each_both (λ s. struct_faults t s ≡ []) (item_structs item) (flat_map item_structs items)
    (item_structs_faultless t item (none_left (item_tree_faults t item) (flat_map (item_tree_faults t) items) e))
    (structs_faultless t items (none_right (item_tree_faults t item) (flat_map (item_tree_faults t) items) e))

-- ---- a program
abbrev here_in : tree.UnitTree → List Def → List ℕ → tree.FunctionTree → Here
here_in unit defs entry f = at_function (record { list = struct_infos unit }) (resolved_program (tables_of unit) defs entry) (tables_of unit) defs f

infos_there : (unit : tree.UnitTree) (s : ℕ) (shape : tree.StructTree) → slice_get (unit_structs unit) s ≡ Some shape → slice_get (struct_infos unit) s ≡ Some (info_of (tables_of unit) shape)
infos_there unit s shape e = slice_get-map (info_of (tables_of unit)) (unit_structs unit) s ∙ ap (option_map (info_of (tables_of unit))) e

program_known : (unit : tree.UnitTree) (defs : List Def) (entry : List ℕ) (f : tree.FunctionTree) → AreMeant (length (unit_structs unit)) (tables_of unit).aliases
    → Each (λ s. struct_faults (tables_of unit) s ≡ []) (unit_structs unit) → Each (IsGoodFunction (tables_of unit) defs) (tables_of unit).functions
    → IsKnownProgram (naming_of (tables_of unit) defs f) (here_in unit defs entry f)
program_known unit defs entry f meant faultless good = record {
  shaped = record {
    each = λ s shape e. record {
      proper = struct_proper (tables_of unit) meant shape (each_there (λ r. struct_faults (tables_of unit) r ≡ []) (unit_structs unit) s shape faultless e);
      there = infos_there unit s shape e;
    };
  };
  many = λ s less. subst (λ k. s < k) (sym (length-map (unit_structs unit) (info_of (tables_of unit)))) less;
  meant = meant;
  callees = λ name g e. callee_is (tables_of unit) defs meant good name g e;
  defs = refl;
}

functions_are : (unit : tree.UnitTree) (defs : List Def) (entry : List ℕ) → ((f : tree.FunctionTree) → IsKnownProgram (naming_of (tables_of unit) defs f) (here_in unit defs entry f))
    → (fs : List tree.FunctionTree) → Each (IsGoodFunction (tables_of unit) defs) fs → (n : ℕ) (f : Function) → slice_get (map (resolved_function (tables_of unit) defs) fs) n ≡ Some f
    → AreOfKinds (record { structs = record { list = struct_infos unit }; program = resolved_program (tables_of unit) defs entry; function = f }) f.body
functions_are unit defs entry known [] good n f e = absurd (cc)
functions_are unit defs entry known (g ∷ fs) good zero f e =
    subst (λ (r : Function). AreOfKinds (record { structs = record { list = struct_infos unit }; program = resolved_program (tables_of unit) defs entry; function = r }) r.body)
    (same_Some (resolved_function (tables_of unit) defs g) f e)
    (function_is (record { list = struct_infos unit }) (resolved_program (tables_of unit) defs entry) (tables_of unit) defs g (known g) good.0)
functions_are unit defs entry known (g ∷ fs) good (suc n) f e = functions_are unit defs entry known fs good.1 n f e

pub well_made : (unit : tree.UnitTree) (defs : List Def) (entry : List ℕ) → IsWellTyped unit entry → HasKnownTypedefs unit → HasSmallNumbers unit → AreDistinct (declared_places unit)
    → DefsFit (struct_infos unit) defs → IsBound unit defs → IsWellMade (record { list = struct_infos unit }) (resolved_program (tables_of unit) defs entry)
well_made unit defs entry typed typedefs small distinct fit bound =
    let t : Tables = tables_of unit in
    let none : flat_map (item_tree_faults t) unit ≡ [] = none_right (table_faults unit t) (flat_map (item_tree_faults t) unit) typed.plain in
    let meant = all_meant t [] [] unit refl none_covered typedefs tt none in
    let good = all_good t defs unit (apart_from_distinct (declared_places unit) distinct) none (each_from (λ k. k ≤ max_number) (unit_numbers unit) small)
    (none_in_each (use_faults defs) (unit_uses unit) bound) in
    record {
      functions = functions_are unit defs entry (λ f. program_known unit defs entry f meant (structs_faultless t unit none) good) (defined_functions t)
          (each_kept (IsGoodFunction t defs) is_defined t.functions good);
      definitions = fit;
    }
