-- The words of right sides, declarations and simple statements are those of their tokens.
use Rattle.std.proofs.Common.{ℕ, List, [], ◌∷◌, Option, refl, sym}
use Rattle.std.specs.Prelude.{codes}
use Rattle.std.proofs.lemmas.List.{append-nil}
use Rattle.mc_base.specs.declared.text.place.Place.{Place}
use Rattle.mc_c_syntax.specs.declared.ast.trees.Base.{Base}
use Rattle.mc_c_syntax.specs.declared.ast.trees.Declarator.{Declarator}
use Rattle.mc_c_syntax.specs.declared.ast.trees.Cast.{Cast}
use Rattle.mc_c_syntax.specs.declared.ast.trees.Size.{Size}
use Rattle.mc_c_syntax.specs.declared.ast.trees.Argument.{Argument}
use Rattle.mc_c_syntax.specs.Ast.Trees.{Expr, CallTree, Right, InitialTree, DeclarationTree, SimpleTree}
use Rattle.mc_c_syntax.specs.Ast.Names.{Tokens}
use Rattle.mc_c_grammar.specs.Spelling.Words.{Words, expression_words, more_words, listed_words, maybe_words, call_words, base_words, star_words, declarator_words, cast_words, size_words, right_words, initial_words, declaration_words, simple_words, argument_words}
use Rattle.mc_c_syntax.specs.Ast.Grammar.{MoreExpressions, last, next, IsCall, without, with_some, IsBase, int, tagged, alias, IsStar, star, no_star, IsDeclarator, declarator, IsCast, no_cast, cast, IsSize, of_type, of_parens, of_value, IsRight, sum, called, allocated, IsInitial, bare, with_value, MoreInitials, last_initial, next_initial, IsDeclaration, declared, IsSimple, assigned, adding, subtracting, incremented, decremented, incremented_first, decremented_first, performed, IsArgument, name_argument, null_argument, number_argument, negative_argument, MoreArguments, last_argument, next_argument}
use Rattle.mc_c_grammar.proofs.PrintedLemmas.Spelled.{AreWordsOf, marked, worded, named, numbered, Grown, grown, grown_by, from_one}
use Rattle.mc_c_grammar.proofs.PrintedLemmas.SpelledExpressions.{left_spelled, sum_spelled}

expressions_spelled : {es all : List Expr} {ts rest : Tokens} {words : Words} → MoreExpressions es ts all rest → AreWordsOf rest words → Grown (more_words expression_words) es all ts words
expressions_spelled {es = es} last w = grown [] (sym (append-nil es)) w
expressions_spelled (next {e = x} is one path) w = grown_by x (expressions_spelled path w) λ new n. marked is refl (sum_spelled one n)

call_spelled : {x : CallTree} {ts rest : Tokens} {words : Words} → IsCall x ts rest → AreWordsOf rest words → AreWordsOf ts (call_words x words)
call_spelled (without is before after) w = named is (marked before refl (marked after refl w))
call_spelled {words = words} (with_some {name = name} is before one path after) w =
    from_one (λ es. name.text ∷ codes "(" ∷ listed_words expression_words es (codes ")" ∷ words)) (expressions_spelled path (marked after refl w)) λ new n. named is (marked before refl (sum_spelled one n))

pub base_spelled : {aliases : List (List ℕ)} {x : Base} {ts rest : Tokens} {words : Words} → IsBase aliases x ts rest → AreWordsOf rest words → AreWordsOf ts (base_words x words)
base_spelled (int is) w = worded is w
base_spelled (tagged is name) w = worded is (named name w)
base_spelled (alias is) w = named is.name w

pub star_spelled : {x : Option Place} {ts rest : Tokens} {words : Words} → IsStar x ts rest → AreWordsOf rest words → AreWordsOf ts (star_words x words)
star_spelled (star is) w = marked is refl w
star_spelled no_star w = w

pub declarator_spelled : {x : Declarator} {ts rest : Tokens} {words : Words} → IsDeclarator x ts rest → AreWordsOf rest words → AreWordsOf ts (declarator_words x words)
declarator_spelled (declarator pointer name) w = star_spelled pointer (named name w)

cast_spelled : {aliases : List (List ℕ)} {x : Option Cast} {ts rest : Tokens} {words : Words} → IsCast aliases x ts rest → AreWordsOf rest words → AreWordsOf ts (maybe_words cast_words x words)
cast_spelled no_cast w = w
cast_spelled (cast before base pointer after) w = marked before refl (base_spelled base (star_spelled pointer (marked after refl w)))

size_spelled : {aliases : List (List ℕ)} {x : Size} {ts rest : Tokens} {words : Words} → IsSize aliases x ts rest → AreWordsOf rest words → AreWordsOf ts (size_words x words)
size_spelled (of_type is before base after) w = worded is (marked before refl (base_spelled base (marked after refl w)))
size_spelled (of_parens is before times name after) w = worded is (marked before refl (marked times refl (named name (marked after refl w))))
size_spelled (of_value is times name) w = worded is (marked times refl (named name w))

pub right_spelled : {aliases : List (List ℕ)} {x : Right} {ts rest : Tokens} {words : Words} → IsRight aliases x ts rest → AreWordsOf rest words → AreWordsOf ts (right_words x words)
right_spelled (sum inner) w = sum_spelled inner w
right_spelled (called inner) w = call_spelled inner w
right_spelled (allocated kind is before size after) w = cast_spelled kind (worded is (marked before refl (size_spelled size (marked after refl w))))

initial_spelled : {aliases : List (List ℕ)} {x : InitialTree} {ts rest : Tokens} {words : Words} → IsInitial aliases x ts rest → AreWordsOf rest words → AreWordsOf ts (initial_words x words)
initial_spelled (bare inner) w = declarator_spelled inner w
initial_spelled (with_value inner is right) w = declarator_spelled inner (marked is refl (right_spelled right w))

initials_spelled : {aliases : List (List ℕ)} {es all : List InitialTree} {ts rest : Tokens} {words : Words} → MoreInitials aliases es ts all rest → AreWordsOf rest words → Grown (more_words initial_words) es all ts words
initials_spelled {es = es} last_initial w = grown [] (sym (append-nil es)) w
initials_spelled (next_initial {i = x} is one path) w = grown_by x (initials_spelled path w) λ new n. marked is refl (initial_spelled one n)

pub declaration_spelled : {aliases : List (List ℕ)} {x : DeclarationTree} {ts rest : Tokens} {words : Words} → IsDeclaration aliases x ts rest → AreWordsOf rest words → AreWordsOf ts (declaration_words x words)
declaration_spelled {words = words} (declared {base = b} base one path is) w =
    from_one (λ items. base_words b (listed_words initial_words items (codes ";" ∷ words))) (initials_spelled path (marked is refl w)) λ new n. base_spelled base (initial_spelled one n)

pub simple_spelled : {aliases : List (List ℕ)} {x : SimpleTree} {ts rest : Tokens} {words : Words} → IsSimple aliases x ts rest → AreWordsOf rest words → AreWordsOf ts (simple_words x words)
simple_spelled (assigned left is right) w = left_spelled left (marked is refl (right_spelled right w))
simple_spelled (adding left is right) w = left_spelled left (marked is refl (sum_spelled right w))
simple_spelled (subtracting left is right) w = left_spelled left (marked is refl (sum_spelled right w))
simple_spelled (incremented left is) w = left_spelled left (marked is refl w)
simple_spelled (decremented left is) w = left_spelled left (marked is refl w)
simple_spelled (incremented_first is left) w = marked is refl (left_spelled left w)
simple_spelled (decremented_first is left) w = marked is refl (left_spelled left w)
simple_spelled (performed inner) w = call_spelled inner w

pub argument_spelled : {x : Argument} {ts rest : Tokens} {words : Words} → IsArgument x ts rest → AreWordsOf rest words → AreWordsOf ts (argument_words x words)
argument_spelled (name_argument is) w = named is w
argument_spelled (null_argument is) w = worded is w
argument_spelled (number_argument is) w = numbered is w
argument_spelled (negative_argument is number) w = marked is refl (numbered number w)

pub arguments_spelled : {es all : List Argument} {ts rest : Tokens} {words : Words} → MoreArguments es ts all rest → AreWordsOf rest words → Grown (more_words argument_words) es all ts words
arguments_spelled {es = es} last_argument w = grown [] (sym (append-nil es)) w
arguments_spelled (next_argument {a = x} is one path) w = grown_by x (arguments_spelled path w) λ new n. marked is refl (argument_spelled one n)
