-- Programs that alike tokens spell.
use Rattle.std.proofs.Common.{◌≡◌, ℕ, List, [], ◌∷◌, ◌++◌, Option, Some, refl, ap, sym, ◌∙◌, subst, map}
use Rattle.std.specs.Option.{option_map}
use Rattle.mc_base.specs.declared.text.place.Place.{Place}
use Rattle.mc_c_syntax.specs.declared.ast.trees.Name.{Name}
use Rattle.mc_c_syntax.specs.declared.ast.trees.Declarator.{Declarator}
use Rattle.mc_c_syntax.specs.declared.ast.trees.Returned.{Returned}
use Rattle.mc_c_syntax.specs.declared.ast.trees.Parameter.{Parameter}
use Rattle.mc_c_syntax.specs.Ast.Trees.{FieldTree, StructTree, AliasedTree, of_base, of_struct, TypedefTree, ParametersTree, listed, BodyTree, FunctionTree, ItemTree, structure, typedef, function}
use Rattle.mc_c_syntax.specs.Ast.Names.{Tokens}
use Rattle.mc_c_syntax.specs.Ast.Grammar.{MoreDeclarators, last_declarator, next_declarator, IsDeclarators, declarators, IsField, field, MoreFields, no_field, next_field, IsStruct, struct, IsAliased, base_aliased, struct_aliased, IsTypedef, introduces, IsReturned, gives_nothing, gives_value, IsParameter, parameter, MoreParameters, last_parameter, next_parameter, IsParameters, no_parameters, void_parameters, some_parameters, IsStatic, static_place, not_static, IsBody, prototype, body, IsFunction, defined, IsItem, struct_item, typedef_item, function_item, introduced, MoreItems, no_item, next_item}
use Rattle.mc_c_grammar.specs.Printed.Aside.{nowhere, star_aside, declarator_aside, field_aside, struct_aside, aliased_aside, typedef_aside, returned_aside, parameter_aside, parameters_aside, body_aside, function_aside, item_aside}
use Rattle.mc_c_grammar.proofs.PrintedLemmas.Alike.{Alike, none_alike, alike, Again, again, and_then, and_close, and_end, mark_again, word_again, name_again, named_again, end_again, ap_two, ap_three, one_more}
use Rattle.mc_c_grammar.proofs.PrintedLemmas.AlikeSimples.{base_again, star_again, declarator_again}
use Rattle.mc_c_grammar.proofs.PrintedLemmas.AlikeStatements.{statements_again}

more_declarators_again : {es fs all : List Declarator} {ts rest us : Tokens} → MoreDeclarators es ts all rest → Alike ts us → map declarator_aside es ≡ map declarator_aside fs → Again (λ y vs left. MoreDeclarators fs vs y left) (map declarator_aside) all rest us
more_declarators_again last_declarator r e = again last_declarator r e
more_declarators_again {es = es} {fs = fs} (next_declarator {d = x} is one path) (alike s r) e =
    and_then (declarator_again one r) λ y mid d q f. and_then (more_declarators_again {fs = fs ++ y ∷ []} path q (one_more declarator_aside x y es fs e f)) λ z left d' q' g. again (next_declarator (mark_again s is) d d') q' g

declarators_again : {x : List Declarator} {ts rest us : Tokens} → IsDeclarators x ts rest → Alike ts us → Again IsDeclarators (map declarator_aside) x rest us
declarators_again (declarators one path) r =
    and_then (declarator_again one r) λ y mid d q e. and_then (more_declarators_again {fs = y ∷ []} path q (ap (λ x. x ∷ []) e)) λ z left d' q' f. again (declarators d d') q' f

field_again : {aliases : List (List ℕ)} {x : FieldTree} {ts rest us : Tokens} → IsField aliases x ts rest → Alike ts us → Again (IsField aliases) field_aside x rest us
field_again (field base ds is) r =
    and_then (base_again base r) λ y mid d q e. and_close (declarators_again ds q) λ z b left d' s q' f.
    again (field d d' (mark_again s is)) q' (ap_two {C = FieldTree} (λ base ds. record { base = base; declarators = ds }) e f)

fields_again : {aliases : List (List ℕ)} {es fs all : List FieldTree} {ts rest us : Tokens} → MoreFields aliases es ts all rest → Alike ts us → map field_aside es ≡ map field_aside fs → Again (λ y vs left. MoreFields aliases fs vs y left) (map field_aside) all rest us
fields_again no_field r e = again no_field r e
fields_again {es = es} {fs = fs} (next_field {f = x} one path) r e =
    and_then (field_again one r) λ y mid d q f. and_then (fields_again {fs = fs ++ y ∷ []} path q (one_more field_aside x y es fs e f)) λ z left d' q' g. again (next_field d d') q' g

struct_again : {aliases : List (List ℕ)} {x : StructTree} {ts rest us : Tokens} → IsStruct aliases x ts rest → Alike ts us → Again (IsStruct aliases) struct_aside x rest us
struct_again (struct is name before one path after) (alike s (alike t (alike u r))) =
    and_then (field_again one r) λ y mid d q e. and_close (fields_again {fs = y ∷ []} path q (ap (λ x. x ∷ []) e)) λ z b left d' v q' f.
    again (struct (word_again s is) (name_again t name) (mark_again u before) d d' (mark_again v after)) q' (ap_two {C = StructTree} (λ n fs. record { place = nowhere; name = n; fields = fs }) (named_again t name) f)

aliased_again : {aliases : List (List ℕ)} {x : AliasedTree} {ts rest us : Tokens} → IsAliased aliases x ts rest → Alike ts us → Again (IsAliased aliases) aliased_aside x rest us
aliased_again (base_aliased inner) r = and_then (base_again inner r) λ y left d q e. again (base_aliased d) q (ap of_base e)
aliased_again (struct_aliased inner) r = and_then (struct_again inner r) λ y left d q e. again (struct_aliased d) q (ap of_struct e)

typedef_again : {aliases : List (List ℕ)} {x : TypedefTree} {ts rest us : Tokens} → IsTypedef aliases x ts rest → Alike ts us → Again (IsTypedef aliases) typedef_aside x rest us
typedef_again (introduces is inner ds semicolon) (alike s r) =
    and_then (aliased_again inner r) λ y mid d q e. and_close (declarators_again ds q) λ z b left d' t q' f.
    again (introduces (word_again s is) d d' (mark_again t semicolon)) q' (ap_two {C = TypedefTree} (λ a ds. record { place = nowhere; aliased = a; declarators = ds }) e f)

returned_again : {aliases : List (List ℕ)} {x : Returned} {ts rest us : Tokens} → IsReturned aliases x ts rest → Alike ts us → Again (IsReturned aliases) returned_aside x rest us
returned_again (gives_nothing is) (alike s r) = again (gives_nothing (word_again s is)) r refl
returned_again (gives_value base pointer) r =
    and_then (base_again base r) λ y mid d q e. and_then (star_again pointer q) λ z left d' q' f. again (gives_value d d') q' (ap_two Returned.Value e f)

parameter_again : {aliases : List (List ℕ)} {x : Parameter} {ts rest us : Tokens} → IsParameter aliases x ts rest → Alike ts us → Again (IsParameter aliases) parameter_aside x rest us
parameter_again (parameter base inner) r =
    and_then (base_again base r) λ y mid d q e. and_then (declarator_again inner q) λ z left d' q' f. again (parameter d d') q' (ap_two {C = Parameter} (λ base d. record { base = base; declarator = d }) e f)

more_parameters_again : {aliases : List (List ℕ)} {es fs all : List Parameter} {ts rest us : Tokens} → MoreParameters aliases es ts all rest → Alike ts us → map parameter_aside es ≡ map parameter_aside fs → Again (λ y vs left. MoreParameters aliases fs vs y left) (map parameter_aside) all rest us
more_parameters_again last_parameter r e = again last_parameter r e
more_parameters_again {es = es} {fs = fs} (next_parameter {p = x} is one path) (alike s r) e =
    and_then (parameter_again one r) λ y mid d q f. and_then (more_parameters_again {fs = fs ++ y ∷ []} path q (one_more parameter_aside x y es fs e f)) λ z left d' q' g. again (next_parameter (mark_again s is) d d') q' g

parameters_again : {aliases : List (List ℕ)} {x : ParametersTree} {ts rest us : Tokens} → IsParameters aliases x ts rest → Alike ts us → Again (IsParameters aliases) parameters_aside x rest us
parameters_again no_parameters r = again no_parameters r refl
parameters_again (void_parameters is) (alike s r) = again (void_parameters (word_again s is)) r refl
parameters_again (some_parameters one path) r =
    and_then (parameter_again one r) λ y mid d q e. and_then (more_parameters_again {fs = y ∷ []} path q (ap (λ x. x ∷ []) e)) λ z left d' q' f. again (some_parameters d d') q' (ap listed f)

static_again : {x : Option Place} {ts rest us : Tokens} → IsStatic x ts rest → Alike ts us → Again IsStatic star_aside x rest us
static_again (static_place is) (alike s r) = again (static_place (word_again s is)) r refl
static_again not_static r = again not_static r refl

body_again : {aliases : List (List ℕ)} {x : Option BodyTree} {ts rest us : Tokens} → IsBody aliases x ts rest → Alike ts us → Again (IsBody aliases) (option_map body_aside) x rest us
body_again (prototype is) (alike s r) = again (prototype (mark_again s is)) r refl
body_again (body before inner after) (alike s r) =
    and_close (statements_again {fs = []} inner r refl) λ y b left d t q e. again (body (mark_again s before) d (mark_again t after)) q (ap {B = Option BodyTree} (λ ss. Some (record { place = nowhere; statements = ss })) e)

abbrev function_made : Option Place → Returned → Name → ParametersTree → Option BodyTree → FunctionTree
function_made f r n p b = record { static_place = f; returned = r; name = n; parameters = p; body = b }

same_function : {f g : Option Place} {r s : Returned} {m n : Name} {p q : ParametersTree} {b c : Option BodyTree} → f ≡ g → r ≡ s → m ≡ n → p ≡ q → b ≡ c → function_made f r m p b ≡ function_made g s n q c
same_function {g = g} {s = s} {m = m} {p = p} {b = b} d e h i j =
    ap_two (λ f r. function_made f r m p b) d e ∙ ap_three (function_made g s) h i j

function_again : {aliases : List (List ℕ)} {x : FunctionTree} {ts rest us : Tokens} → IsFunction aliases x ts rest → Alike ts us → Again (IsFunction aliases) function_aside x rest us
function_again (defined static result name before ps after block) r =
    and_then (static_again static r) λ f mid d q e. and_end (returned_again result q) λ v n b more d' s t q' g. and_close (parameters_again ps q') λ z c behind d'' u q'' h. and_then (body_again block q'') λ w left d''' q''' i.
    again (defined d d' (name_again s name) (mark_again t before) d'' (mark_again u after) d''') q''' (same_function e g (named_again s name) h i)

item_again : {aliases : List (List ℕ)} {x : ItemTree} {ts rest us : Tokens} → IsItem aliases x ts rest → Alike ts us → Again (IsItem aliases) item_aside x rest us
item_again (struct_item inner is) r = and_close (struct_again inner r) λ y b left d s q e. again (struct_item d (mark_again s is)) q (ap structure e)
item_again (typedef_item inner) r = and_then (typedef_again inner r) λ y left d q e. again (typedef_item d) q (ap typedef e)
item_again (function_item inner) r = and_then (function_again inner r) λ y left d q e. again (function_item d) q (ap function e)

-- the names that an item introduces do not rest on places
declared_names : (ds : List Declarator) → map (λ d. d.name.text) (map declarator_aside ds) ≡ map (λ d. d.name.text) ds
declared_names [] = refl
declared_names (d ∷ ds) = ap (λ names. d.name.text ∷ names) (declared_names ds)

introduced_aside : (i : ItemTree) → introduced (item_aside i) ≡ introduced i
introduced_aside (structure s) = refl
introduced_aside (typedef t) = declared_names t.declarators
introduced_aside (function f) = refl

introduced_again : (i j : ItemTree) → item_aside i ≡ item_aside j → introduced i ≡ introduced j
introduced_again i j e = sym (introduced_aside i) ∙ ap introduced e ∙ introduced_aside j

-- the tokens spell a whole program, the same but for its places
pub data UnitAgain (aliases : List (List ℕ)) (before : List ItemTree) (all : List ItemTree) (us : Tokens) : Type 0 where
  unit_again : {other : List ItemTree} → MoreItems aliases before us other → map item_aside all ≡ map item_aside other → UnitAgain aliases before all us

pub items_then : {R : Type 0} {aliases : List (List ℕ)} {before all : List ItemTree} {us : Tokens} → UnitAgain aliases before all us → ((other : List ItemTree) → MoreItems aliases before us other → map item_aside all ≡ map item_aside other → R) → R
items_then (unit_again {other = other} d e) go = go other d e

pub items_again : {aliases : List (List ℕ)} {es fs all : List ItemTree} {ts us : Tokens} → MoreItems aliases es ts all → Alike ts us → map item_aside es ≡ map item_aside fs → UnitAgain aliases fs all us
items_again (no_item is) (alike s none_alike) e = unit_again (no_item (end_again s is)) e
items_again {aliases = aliases} {es = es} {fs = fs} {us = us} (next_item {i = x} one path) r e =
    and_then (item_again one r) λ y mid d q f. items_then (items_again {fs = fs ++ y ∷ []} path q (one_more item_aside x y es fs e f)) λ z d' g.
    unit_again (next_item d (subst (λ names. MoreItems (names ++ aliases) (fs ++ y ∷ []) mid z) (introduced_again x y f) d')) g
