-- The places that a program gives are those of its tokens.
use Rattle.std.proofs.Common.{ℕ, List, [], ◌∷◌, ◌++◌, Option, sym, subst, map}
use Rattle.std.proofs.lemmas.List.{append-nil}
use Rattle.mc_base.specs.declared.text.place.Place.{Place}
use Rattle.mc_c_syntax.specs.declared.ast.trees.Declarator.{Declarator}
use Rattle.mc_c_syntax.specs.declared.ast.trees.Returned.{Returned}
use Rattle.mc_c_syntax.specs.declared.ast.trees.Parameter.{Parameter}
use Rattle.mc_c_syntax.specs.Ast.Trees.{FieldTree, StructTree, AliasedTree, TypedefTree, ParametersTree, BodyTree, FunctionTree, ItemTree, UnitTree}
use Rattle.mc_c_syntax.specs.Ast.Names.{Tokens}
use Rattle.mc_c_syntax.specs.Ast.Grammar.{MoreDeclarators, last_declarator, next_declarator, IsDeclarators, declarators, IsField, field, MoreFields, no_field, next_field, IsStruct, struct, IsAliased, base_aliased, struct_aliased, IsTypedef, introduces, IsReturned, gives_nothing, gives_value, IsParameter, parameter, MoreParameters, last_parameter, next_parameter, IsParameters, no_parameters, void_parameters, some_parameters, IsStatic, static_place, not_static, IsBody, prototype, body, IsFunction, defined, IsItem, struct_item, typedef_item, function_item, MoreItems, no_item, next_item, IsUnit}
use Rattle.mc_c_grammar.specs.Places.Places.{declarator_place, parameters_places, body_places, function_places, item_places, declared_places}
use Rattle.mc_c_grammar.proofs.PlacesLemmas.Within.{Places, AreWithin, nowhere, past, Grown, grown, grown_by, from_one, from_none, in_turn}
use Rattle.mc_c_grammar.proofs.PlacesLemmas.WithinSimples.{base_past, star_past, declarator_past, declarator_within}
use Rattle.mc_c_grammar.proofs.PlacesLemmas.WithinStatements.{statements_within}

more_declarators_past : {es all : List Declarator} {ts rest : Tokens} {places : Places} → MoreDeclarators es ts all rest → AreWithin places rest → AreWithin places ts
more_declarators_past last_declarator w = w
more_declarators_past (next_declarator is one path) w = past (declarator_past one (more_declarators_past path w))

declarators_past : {x : List Declarator} {ts rest : Tokens} {places : Places} → IsDeclarators x ts rest → AreWithin places rest → AreWithin places ts
declarators_past (declarators one path) w = declarator_past one (more_declarators_past path w)

field_past : {aliases : List (List ℕ)} {x : FieldTree} {ts rest : Tokens} {places : Places} → IsField aliases x ts rest → AreWithin places rest → AreWithin places ts
field_past (field base ds is) w = base_past base (declarators_past ds (past w))

fields_past : {aliases : List (List ℕ)} {es all : List FieldTree} {ts rest : Tokens} {places : Places} → MoreFields aliases es ts all rest → AreWithin places rest → AreWithin places ts
fields_past no_field w = w
fields_past (next_field one path) w = field_past one (fields_past path w)

struct_past : {aliases : List (List ℕ)} {x : StructTree} {ts rest : Tokens} {places : Places} → IsStruct aliases x ts rest → AreWithin places rest → AreWithin places ts
struct_past (struct is name before one path after) w = past (past (past (field_past one (fields_past path (past w)))))

aliased_past : {aliases : List (List ℕ)} {x : AliasedTree} {ts rest : Tokens} {places : Places} → IsAliased aliases x ts rest → AreWithin places rest → AreWithin places ts
aliased_past (base_aliased inner) w = base_past inner w
aliased_past (struct_aliased inner) w = struct_past inner w

typedef_past : {aliases : List (List ℕ)} {x : TypedefTree} {ts rest : Tokens} {places : Places} → IsTypedef aliases x ts rest → AreWithin places rest → AreWithin places ts
typedef_past (introduces is inner ds semicolon) w = past (aliased_past inner (declarators_past ds (past w)))

returned_past : {aliases : List (List ℕ)} {x : Returned} {ts rest : Tokens} {places : Places} → IsReturned aliases x ts rest → AreWithin places rest → AreWithin places ts
returned_past (gives_nothing is) w = past w
returned_past (gives_value base pointer) w = base_past base (star_past pointer w)

parameter_within : {aliases : List (List ℕ)} {x : Parameter} {ts rest : Tokens} {places : Places} → IsParameter aliases x ts rest → AreWithin places rest → AreWithin (declarator_place x.declarator ∷ places) ts
parameter_within (parameter base inner) w = base_past base (declarator_within inner w)

abbrev list_places : List Parameter → Places
list_places ps = map (λ p. declarator_place p.declarator) ps

more_parameters_within : {aliases : List (List ℕ)} {es all : List Parameter} {ts rest : Tokens} {places : Places} → MoreParameters aliases es ts all rest → AreWithin places rest → Grown list_places es all ts places
more_parameters_within {es = es} last_parameter w = grown [] (sym (append-nil es)) w
more_parameters_within (next_parameter {p = x} is one path) w = grown_by x (more_parameters_within path w) λ new n. past (parameter_within one n)

parameters_within : {aliases : List (List ℕ)} {x : ParametersTree} {ts rest : Tokens} {places : Places} → IsParameters aliases x ts rest → AreWithin places rest → AreWithin (parameters_places x ++ places) ts
parameters_within no_parameters w = w
parameters_within (void_parameters is) w = past w
parameters_within (some_parameters one path) w = from_one (more_parameters_within path w) λ new n. parameter_within one n

static_past : {x : Option Place} {ts rest : Tokens} {places : Places} → IsStatic x ts rest → AreWithin places rest → AreWithin places ts
static_past (static_place is) w = past w
static_past not_static w = w

body_within : {aliases : List (List ℕ)} {x : Option BodyTree} {ts rest : Tokens} {places : Places} → IsBody aliases x ts rest → AreWithin places rest → AreWithin (body_places x ++ places) ts
body_within (prototype is) w = past w
body_within (body before inner after) w = past (from_none (statements_within inner (past w)))

function_within : {aliases : List (List ℕ)} {x : FunctionTree} {ts rest : Tokens} {places : Places} → IsFunction aliases x ts rest → AreWithin places rest → AreWithin (function_places x ++ places) ts
function_within {places = places} (defined {parameters = parameters} {body = block} static result name before ps after inner) w =
    in_turn (parameters_places parameters) (body_places block) places (static_past static (returned_past result (past (past (parameters_within ps (past (body_within inner w)))))))

item_within : {aliases : List (List ℕ)} {x : ItemTree} {ts rest : Tokens} {places : Places} → IsItem aliases x ts rest → AreWithin places rest → AreWithin (item_places x ++ places) ts
item_within (struct_item inner is) w = struct_past inner (past w)
item_within (typedef_item inner) w = typedef_past inner w
item_within (function_item inner) w = function_within inner w

items_within : {aliases : List (List ℕ)} {es all : List ItemTree} {ts : Tokens} → MoreItems aliases es ts all → Grown declared_places es all ts []
items_within {es = es} (no_item is) = grown [] (sym (append-nil es)) (past nowhere)
items_within (next_item {i = x} one path) = grown_by x (items_within path) λ new n. in_turn (item_places x) (declared_places new) [] (item_within one n)

pub unit_within : {unit : UnitTree} {tokens : Tokens} → IsUnit unit tokens → AreWithin (declared_places unit) tokens
unit_within {unit = unit} {tokens = tokens} is = subst (λ places. AreWithin places tokens) (append-nil (declared_places unit)) (from_none (items_within is))
