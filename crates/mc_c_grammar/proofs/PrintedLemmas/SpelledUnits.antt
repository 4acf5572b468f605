-- The words of a program are those of its tokens.
use Rattle.std.proofs.Common.{ℕ, List, [], ◌∷◌, Option, refl, sym}
use Rattle.std.specs.Prelude.{codes}
use Rattle.std.proofs.lemmas.List.{append-nil}
use Rattle.mc_base.specs.declared.text.place.Place.{Place}
use Rattle.mc_c_syntax.specs.declared.ast.trees.Declarator.{Declarator}
use Rattle.mc_c_syntax.specs.declared.ast.trees.Returned.{Returned}
use Rattle.mc_c_syntax.specs.declared.ast.trees.Parameter.{Parameter}
use Rattle.mc_c_syntax.specs.Ast.Trees.{FieldTree, StructTree, AliasedTree, TypedefTree, ParametersTree, BodyTree, FunctionTree, ItemTree, UnitTree, stmts_of}
use Rattle.mc_c_syntax.specs.Ast.Names.{Tokens}
use Rattle.mc_c_grammar.specs.Spelling.Words.{Words, more_words, listed_words, all_words, declarator_words, statements_words, field_list_words, struct_words, aliased_words, typedef_words, static_words, returned_words, parameter_words, parameters_words, body_words, function_words, item_words, unit_words}
use Rattle.mc_c_syntax.specs.Ast.Grammar.{MoreDeclarators, last_declarator, next_declarator, IsDeclarators, declarators, IsField, field, MoreFields, no_field, next_field, IsStruct, struct, IsAliased, base_aliased, struct_aliased, IsTypedef, introduces, IsReturned, gives_nothing, gives_value, IsParameter, parameter, MoreParameters, last_parameter, next_parameter, IsParameters, no_parameters, void_parameters, some_parameters, IsStatic, static_place, not_static, IsBody, prototype, body, IsFunction, defined, IsItem, struct_item, typedef_item, function_item, MoreItems, no_item, next_item, IsUnit}
use Rattle.mc_c_grammar.proofs.PrintedLemmas.Spelled.{AreWordsOf, no_words, marked, worded, named, Grown, grown, grown_by, from_one, from_none}
use Rattle.mc_c_grammar.proofs.PrintedLemmas.SpelledSimples.{base_spelled, star_spelled, declarator_spelled}
use Rattle.mc_c_grammar.proofs.PrintedLemmas.SpelledStatements.{statements_spelled}

more_declarators_spelled : {es all : List Declarator} {ts rest : Tokens} {words : Words} → MoreDeclarators es ts all rest → AreWordsOf rest words → Grown (more_words declarator_words) es all ts words
more_declarators_spelled {es = es} last_declarator w = grown [] (sym (append-nil es)) w
more_declarators_spelled (next_declarator {d = x} is one path) w = grown_by x (more_declarators_spelled path w) λ new n. marked is refl (declarator_spelled one n)

declarators_spelled : {x : List Declarator} {ts rest : Tokens} {words : Words} → IsDeclarators x ts rest → AreWordsOf rest words → AreWordsOf ts (listed_words declarator_words x words)
declarators_spelled {words = words} (declarators one path) w = from_one (λ ds. listed_words declarator_words ds words) (more_declarators_spelled path w) λ new n. declarator_spelled one n

field_spelled : {aliases : List (List ℕ)} {x : FieldTree} {ts rest : Tokens} {words : Words} → IsField aliases x ts rest → AreWordsOf rest words → AreWordsOf ts (field_list_words x words)
field_spelled (field base ds is) w = base_spelled base (declarators_spelled ds (marked is refl w))

fields_spelled : {aliases : List (List ℕ)} {es all : List FieldTree} {ts rest : Tokens} {words : Words} → MoreFields aliases es ts all rest → AreWordsOf rest words → Grown (all_words field_list_words) es all ts words
fields_spelled {es = es} no_field w = grown [] (sym (append-nil es)) w
fields_spelled (next_field {f = x} one path) w = grown_by x (fields_spelled path w) λ new n. field_spelled one n

struct_spelled : {aliases : List (List ℕ)} {x : StructTree} {ts rest : Tokens} {words : Words} → IsStruct aliases x ts rest → AreWordsOf rest words → AreWordsOf ts (struct_words x words)
struct_spelled {words = words} (struct {name = name} is name_is before one path after) w =
    from_one (λ fs. codes "struct" ∷ name.text ∷ codes "{" ∷ all_words field_list_words fs (codes "}" ∷ words)) (fields_spelled path (marked after refl w)) λ new n. worded is (named name_is (marked before refl (field_spelled one n)))

aliased_spelled : {aliases : List (List ℕ)} {x : AliasedTree} {ts rest : Tokens} {words : Words} → IsAliased aliases x ts rest → AreWordsOf rest words → AreWordsOf ts (aliased_words x words)
aliased_spelled (base_aliased inner) w = base_spelled inner w
aliased_spelled (struct_aliased inner) w = struct_spelled inner w

typedef_spelled : {aliases : List (List ℕ)} {x : TypedefTree} {ts rest : Tokens} {words : Words} → IsTypedef aliases x ts rest → AreWordsOf rest words → AreWordsOf ts (typedef_words x words)
typedef_spelled (introduces is inner ds semicolon) w = worded is (aliased_spelled inner (declarators_spelled ds (marked semicolon refl w)))

returned_spelled : {aliases : List (List ℕ)} {x : Returned} {ts rest : Tokens} {words : Words} → IsReturned aliases x ts rest → AreWordsOf rest words → AreWordsOf ts (returned_words x words)
returned_spelled (gives_nothing is) w = worded is w
returned_spelled (gives_value base pointer) w = base_spelled base (star_spelled pointer w)

parameter_spelled : {aliases : List (List ℕ)} {x : Parameter} {ts rest : Tokens} {words : Words} → IsParameter aliases x ts rest → AreWordsOf rest words → AreWordsOf ts (parameter_words x words)
parameter_spelled (parameter base inner) w = base_spelled base (declarator_spelled inner w)

more_parameters_spelled : {aliases : List (List ℕ)} {es all : List Parameter} {ts rest : Tokens} {words : Words} → MoreParameters aliases es ts all rest → AreWordsOf rest words → Grown (more_words parameter_words) es all ts words
more_parameters_spelled {es = es} last_parameter w = grown [] (sym (append-nil es)) w
more_parameters_spelled (next_parameter {p = x} is one path) w = grown_by x (more_parameters_spelled path w) λ new n. marked is refl (parameter_spelled one n)

parameters_spelled : {aliases : List (List ℕ)} {x : ParametersTree} {ts rest : Tokens} {words : Words} → IsParameters aliases x ts rest → AreWordsOf rest words → AreWordsOf ts (parameters_words x words)
parameters_spelled no_parameters w = w
parameters_spelled (void_parameters is) w = worded is w
parameters_spelled {words = words} (some_parameters one path) w = from_one (λ ps. listed_words parameter_words ps words) (more_parameters_spelled path w) λ new n. parameter_spelled one n

static_spelled : {x : Option Place} {ts rest : Tokens} {words : Words} → IsStatic x ts rest → AreWordsOf rest words → AreWordsOf ts (static_words x words)
static_spelled (static_place is) w = worded is w
static_spelled not_static w = w

body_spelled : {aliases : List (List ℕ)} {x : Option BodyTree} {ts rest : Tokens} {words : Words} → IsBody aliases x ts rest → AreWordsOf rest words → AreWordsOf ts (body_words x words)
body_spelled (prototype is) w = marked is refl w
body_spelled {words = words} (body before inner after) w =
    from_none (λ ss. codes "{" ∷ statements_words (stmts_of ss) (codes "}" ∷ words)) (statements_spelled inner (marked after refl w)) λ new n. marked before refl n

function_spelled : {aliases : List (List ℕ)} {x : FunctionTree} {ts rest : Tokens} {words : Words} → IsFunction aliases x ts rest → AreWordsOf rest words → AreWordsOf ts (function_words x words)
function_spelled (defined static result name before ps after block) w =
    static_spelled static (returned_spelled result (named name (marked before refl (parameters_spelled ps (marked after refl (body_spelled block w))))))

item_spelled : {aliases : List (List ℕ)} {x : ItemTree} {ts rest : Tokens} {words : Words} → IsItem aliases x ts rest → AreWordsOf rest words → AreWordsOf ts (item_words x words)
item_spelled (struct_item inner is) w = struct_spelled inner (marked is refl w)
item_spelled (typedef_item inner) w = typedef_spelled inner w
item_spelled (function_item inner) w = function_spelled inner w

items_spelled : {aliases : List (List ℕ)} {es all : List ItemTree} {ts : Tokens} → MoreItems aliases es ts all → Grown (all_words item_words) es all ts []
items_spelled {es = es} (no_item is) = grown [] (sym (append-nil es)) (no_words is)
items_spelled (next_item {i = x} one path) = grown_by x (items_spelled path) λ new n. item_spelled one n

pub unit_spelled : {unit : UnitTree} {tokens : Tokens} → IsUnit unit tokens → AreWordsOf tokens (unit_words unit [])
unit_spelled is = from_none (λ unit. unit_words unit []) (items_spelled is) λ new n. n
