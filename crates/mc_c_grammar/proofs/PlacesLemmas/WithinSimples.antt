-- The places that declarations give are those of tokens; right sides and simple statements declare nothing.
use Rattle.std.proofs.Common.{ℕ, List, [], ◌∷◌, ◌++◌, Option, sym, map}
use Rattle.std.proofs.lemmas.List.{append-nil}
use Rattle.mc_base.specs.declared.text.place.Place.{Place}
use Rattle.mc_c_syntax.specs.declared.ast.trees.Base.{Base}
use Rattle.mc_c_syntax.specs.declared.ast.trees.Declarator.{Declarator}
use Rattle.mc_c_syntax.specs.declared.ast.trees.Cast.{Cast}
use Rattle.mc_c_syntax.specs.declared.ast.trees.Size.{Size}
use Rattle.mc_c_syntax.specs.declared.ast.trees.Argument.{Argument}
use Rattle.mc_c_syntax.specs.Ast.Trees.{Expr, CallTree, Right, InitialTree, DeclarationTree, SimpleTree}
use Rattle.mc_c_syntax.specs.Ast.Names.{Tokens}
use Rattle.mc_c_syntax.specs.Ast.Grammar.{MoreExpressions, last, next, IsCall, without, with_some, IsBase, int, tagged, alias, IsStar, star, no_star, IsDeclarator, declarator, IsCast, no_cast, cast, IsSize, of_type, of_parens, of_value, IsRight, sum, called, allocated, IsInitial, bare, with_value, MoreInitials, last_initial, next_initial, IsDeclaration, declared, IsSimple, assigned, adding, subtracting, incremented, decremented, incremented_first, decremented_first, performed, IsArgument, name_argument, null_argument, number_argument, negative_argument, MoreArguments, last_argument, next_argument}
use Rattle.mc_c_grammar.specs.Places.Places.{declarator_place, declaration_places}
use Rattle.mc_c_grammar.proofs.PlacesLemmas.Within.{Places, AreWithin, past, here, Grown, grown, grown_by, from_one}
use Rattle.mc_c_grammar.proofs.PlacesLemmas.WithinExpressions.{left_past, sum_past}

expressions_past : {es all : List Expr} {ts rest : Tokens} {places : Places} → MoreExpressions es ts all rest → AreWithin places rest → AreWithin places ts
expressions_past last w = w
expressions_past (next is one path) w = past (sum_past one (expressions_past path w))

call_past : {x : CallTree} {ts rest : Tokens} {places : Places} → IsCall x ts rest → AreWithin places rest → AreWithin places ts
call_past (without is before after) w = past (past (past w))
call_past (with_some is before one path after) w = past (past (sum_past one (expressions_past path (past w))))

pub base_past : {aliases : List (List ℕ)} {x : Base} {ts rest : Tokens} {places : Places} → IsBase aliases x ts rest → AreWithin places rest → AreWithin places ts
base_past (int is) w = past w
base_past (tagged is name) w = past (past w)
base_past (alias is) w = past w

pub star_past : {x : Option Place} {ts rest : Tokens} {places : Places} → IsStar x ts rest → AreWithin places rest → AreWithin places ts
star_past (star is) w = past w
star_past no_star w = w

pub declarator_past : {x : Declarator} {ts rest : Tokens} {places : Places} → IsDeclarator x ts rest → AreWithin places rest → AreWithin places ts
declarator_past (declarator pointer name) w = star_past pointer (past w)

pub declarator_within : {x : Declarator} {ts rest : Tokens} {places : Places} → IsDeclarator x ts rest → AreWithin places rest → AreWithin (declarator_place x ∷ places) ts
declarator_within (declarator pointer name) w = star_past pointer (here w)

cast_past : {aliases : List (List ℕ)} {x : Option Cast} {ts rest : Tokens} {places : Places} → IsCast aliases x ts rest → AreWithin places rest → AreWithin places ts
cast_past no_cast w = w
cast_past (cast before base pointer after) w = past (base_past base (star_past pointer (past w)))

size_past : {aliases : List (List ℕ)} {x : Size} {ts rest : Tokens} {places : Places} → IsSize aliases x ts rest → AreWithin places rest → AreWithin places ts
size_past (of_type is before base after) w = past (past (base_past base (past w)))
size_past (of_parens is before times name after) w = past (past (past (past (past w))))
size_past (of_value is times name) w = past (past (past w))

pub right_past : {aliases : List (List ℕ)} {x : Right} {ts rest : Tokens} {places : Places} → IsRight aliases x ts rest → AreWithin places rest → AreWithin places ts
right_past (sum inner) w = sum_past inner w
right_past (called inner) w = call_past inner w
right_past (allocated kind is before size after) w = cast_past kind (past (past (size_past size (past w))))

initial_within : {aliases : List (List ℕ)} {x : InitialTree} {ts rest : Tokens} {places : Places} → IsInitial aliases x ts rest → AreWithin places rest → AreWithin (declarator_place x.declarator ∷ places) ts
initial_within (bare inner) w = declarator_within inner w
initial_within (with_value inner is right) w = declarator_within inner (past (right_past right w))

abbrev initials_places : List InitialTree → Places
initials_places items = map (λ item. declarator_place item.declarator) items

initials_within : {aliases : List (List ℕ)} {es all : List InitialTree} {ts rest : Tokens} {places : Places} → MoreInitials aliases es ts all rest → AreWithin places rest → Grown initials_places es all ts places
initials_within {es = es} last_initial w = grown [] (sym (append-nil es)) w
initials_within (next_initial {i = x} is one path) w = grown_by x (initials_within path w) λ new n. past (initial_within one n)

pub declaration_within : {aliases : List (List ℕ)} {x : DeclarationTree} {ts rest : Tokens} {places : Places} → IsDeclaration aliases x ts rest → AreWithin places rest → AreWithin (declaration_places x ++ places) ts
declaration_within (declared base one path is) w = from_one (initials_within path (past w)) λ new n. base_past base (initial_within one n)

pub simple_past : {aliases : List (List ℕ)} {x : SimpleTree} {ts rest : Tokens} {places : Places} → IsSimple aliases x ts rest → AreWithin places rest → AreWithin places ts
simple_past (assigned left is right) w = left_past left (past (right_past right w))
simple_past (adding left is right) w = left_past left (past (sum_past right w))
simple_past (subtracting left is right) w = left_past left (past (sum_past right w))
simple_past (incremented left is) w = left_past left (past w)
simple_past (decremented left is) w = left_past left (past w)
simple_past (incremented_first is left) w = past (left_past left w)
simple_past (decremented_first is left) w = past (left_past left w)
simple_past (performed inner) w = call_past inner w

pub argument_past : {x : Argument} {ts rest : Tokens} {places : Places} → IsArgument x ts rest → AreWithin places rest → AreWithin places ts
argument_past (name_argument is) w = past w
argument_past (null_argument is) w = past w
argument_past (number_argument is) w = past w
argument_past (negative_argument is number) w = past (past w)

pub arguments_past : {es all : List Argument} {ts rest : Tokens} {places : Places} → MoreArguments es ts all rest → AreWithin places rest → AreWithin places ts
arguments_past last_argument w = w
arguments_past (next_argument is one path) w = past (argument_past one (arguments_past path w))
