-- The numbers of right sides, declarations, simple statements and arguments that were read are small.
use Rattle.std.proofs.Common.{ℕ, List, flat_map}
use Rattle.mc_c_syntax.specs.declared.ast.trees.Argument.{Argument}
use Rattle.mc_c_syntax.specs.Ast.Trees.{Expr, CallTree, Right, InitialTree, DeclarationTree, SimpleTree}
use Rattle.mc_c_syntax.specs.Ast.Names.{Tokens}
use Rattle.mc_c_syntax.specs.Ast.Grammar.{MoreExpressions, last, next, IsCall, without, with_some, IsRight, sum, called, allocated, IsInitial, bare, with_value, MoreInitials, last_initial, next_initial, IsDeclaration, declared, IsSimple, assigned, adding, subtracting, incremented, decremented, incremented_first, decremented_first, performed, IsArgument, name_argument, null_argument, number_argument, negative_argument, MoreArguments, last_argument, next_argument}
use Rattle.mc_c_grammar.specs.Numbers.Numbers.{expression_numbers, call_numbers, right_numbers, initial_numbers, declaration_numbers, simple_numbers, argument_numbers}
use Rattle.mc_c_grammar.proofs.NumbersLemmas.Small.{AreSmall, no_number, one_small, alone_small, behind_small}
use Rattle.mc_c_grammar.proofs.NumbersLemmas.SmallExpressions.{sum_small}

expressions_small : {es all : List Expr} {ts rest : Tokens} → MoreExpressions es ts all rest → AreSmall (flat_map expression_numbers es) → AreSmall (flat_map expression_numbers all)
expressions_small last small = small
expressions_small {es = es} (next {e = x} is one path) small = expressions_small path (behind_small expression_numbers es x small (sum_small one))

call_small : {x : CallTree} {ts rest : Tokens} → IsCall x ts rest → AreSmall (call_numbers x)
call_small (without is before after) = no_number
call_small (with_some is before one path after) = expressions_small path (alone_small (sum_small one))

pub right_small : {aliases : List (List ℕ)} {x : Right} {ts rest : Tokens} → IsRight aliases x ts rest → AreSmall (right_numbers x)
right_small (sum inner) = sum_small inner
right_small (called inner) = call_small inner
right_small (allocated kind is before size after) = no_number

initial_small : {aliases : List (List ℕ)} {x : InitialTree} {ts rest : Tokens} → IsInitial aliases x ts rest → AreSmall (initial_numbers x)
initial_small (bare inner) = no_number
initial_small (with_value inner is right) = right_small right

initials_small : {aliases : List (List ℕ)} {es all : List InitialTree} {ts rest : Tokens} → MoreInitials aliases es ts all rest → AreSmall (flat_map initial_numbers es) → AreSmall (flat_map initial_numbers all)
initials_small last_initial small = small
initials_small {es = es} (next_initial {i = x} is one path) small = initials_small path (behind_small initial_numbers es x small (initial_small one))

pub declaration_small : {aliases : List (List ℕ)} {x : DeclarationTree} {ts rest : Tokens} → IsDeclaration aliases x ts rest → AreSmall (declaration_numbers x)
declaration_small (declared base one path is) = initials_small path (alone_small (initial_small one))

pub simple_small : {aliases : List (List ℕ)} {x : SimpleTree} {ts rest : Tokens} → IsSimple aliases x ts rest → AreSmall (simple_numbers x)
simple_small (assigned left is right) = right_small right
simple_small (adding left is right) = sum_small right
simple_small (subtracting left is right) = sum_small right
simple_small (incremented left is) = no_number
simple_small (decremented left is) = no_number
simple_small (incremented_first is left) = no_number
simple_small (decremented_first is left) = no_number
simple_small (performed inner) = call_small inner

pub argument_small : {x : Argument} {ts rest : Tokens} → IsArgument x ts rest → AreSmall (argument_numbers x)
argument_small (name_argument is) = no_number
argument_small (null_argument is) = no_number
argument_small (number_argument is) = one_small is.small no_number
argument_small (negative_argument is number) = one_small number.small no_number

pub arguments_small : {es all : List Argument} {ts rest : Tokens} → MoreArguments es ts all rest → AreSmall (flat_map argument_numbers es) → AreSmall (flat_map argument_numbers all)
arguments_small last_argument small = small
arguments_small {es = es} (next_argument {a = x} is one path) small = arguments_small path (behind_small argument_numbers es x small (argument_small one))
