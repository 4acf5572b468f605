-- The numbers of statements that were read are small.
use Rattle.std.proofs.Common.{◌≡◌, ℕ, List, [], ◌∷◌, ◌++◌, flat_map, Option, refl, ap, subst}
use Rattle.mc_c_syntax.specs.Ast.Trees.{Cond, SimpleTree, Start, Head, Stmt, stmts_of}
use Rattle.mc_c_syntax.specs.Ast.Names.{Tokens}
use Rattle.mc_c_syntax.specs.Ast.Grammar.{IsStart, starts_empty, starts_declaring, starts_performing, IsMaybeCondition, no_condition, condition, IsMaybeSimple, no_simple, some_simple, IsHead, head}
use Rattle.mc_c_syntax.specs.Ast.Grammar.{IsStatement, declares_statement, block_statement, empty_statement, simple_statement, free_statement, assert_statement, assume_statement, assume_shape_statement, assert_shape_statement, assert_empty_statement, if_statement, if_else_statement, while_statement, do_statement, for_statement, break_statement, continue_statement, return_statement, return_value, MoreStatements, no_statement, next_statement}
use Rattle.mc_c_grammar.specs.Numbers.Numbers.{maybe_numbers, condition_numbers, simple_numbers, start_numbers, head_numbers, statement_numbers, statements_numbers}
use Rattle.mc_c_grammar.proofs.NumbersLemmas.Small.{AreSmall, no_number, and_small, behind_small}
use Rattle.mc_c_grammar.proofs.NumbersLemmas.SmallExpressions.{sum_small, condition_small}
use Rattle.mc_c_grammar.proofs.NumbersLemmas.SmallSimples.{right_small, declaration_small, simple_small, argument_small, arguments_small}

start_small : {aliases : List (List ℕ)} {x : Start} {ts rest : Tokens} → IsStart aliases x ts rest → AreSmall (start_numbers x)
start_small (starts_empty is) = no_number
start_small (starts_declaring inner) = declaration_small inner
start_small (starts_performing inner is) = simple_small inner

maybe_condition_small : {x : Option Cond} {ts rest : Tokens} → IsMaybeCondition x ts rest → AreSmall (maybe_numbers condition_numbers x)
maybe_condition_small no_condition = no_number
maybe_condition_small (condition inner) = condition_small inner

maybe_simple_small : {aliases : List (List ℕ)} {x : Option SimpleTree} {ts rest : Tokens} → IsMaybeSimple aliases x ts rest → AreSmall (maybe_numbers simple_numbers x)
maybe_simple_small no_simple = no_number
maybe_simple_small (some_simple inner) = simple_small inner

head_small : {aliases : List (List ℕ)} {x : Head} {ts rest : Tokens} → IsHead aliases x ts rest → AreSmall (head_numbers x)
head_small (head is before start test semicolon turn after) = and_small (start_small start) (and_small (maybe_condition_small test) (maybe_simple_small turn))

-- the numbers of statements in a row are those of the list
row_numbers : (ss : List Stmt) → flat_map statement_numbers ss ≡ statements_numbers (stmts_of ss)
row_numbers [] = refl
row_numbers (s ∷ ss) = ap (λ numbers. statement_numbers s ++ numbers) (row_numbers ss)

pub row_small : (ss : List Stmt) → AreSmall (flat_map statement_numbers ss) → AreSmall (statements_numbers (stmts_of ss))
row_small ss small = subst AreSmall (row_numbers ss) small

mutual
  statement_small : {aliases : List (List ℕ)} {x : Stmt} {ts rest : Tokens} → IsStatement aliases x ts rest → AreSmall (statement_numbers x)
  statement_small (declares_statement inner) = declaration_small inner
  statement_small (block_statement {ss = ss} before inner after) = row_small ss (statements_small inner no_number)
  statement_small (empty_statement is) = no_number
  statement_small (simple_statement inner is) = simple_small inner
  statement_small (free_statement is before inner after semicolon) = sum_small inner
  statement_small (assert_statement is before inner after semicolon) = condition_small inner
  statement_small (assume_statement is before inner after semicolon) = condition_small inner
  statement_small (assume_shape_statement is before predicate comma variable inner after semicolon) = arguments_small inner no_number
  statement_small (assert_shape_statement is before predicate comma one inner after semicolon) = and_small (argument_small one) (arguments_small inner no_number)
  statement_small (assert_empty_statement is before after semicolon) = no_number
  statement_small (if_statement is before test after inner otherwise) = and_small (condition_small test) (statement_small inner)
  statement_small (if_else_statement is before test after inner otherwise other) = and_small (condition_small test) (and_small (statement_small inner) (statement_small other))
  statement_small (while_statement is before test after inner) = and_small (condition_small test) (statement_small inner)
  statement_small (do_statement is inner again before test after semicolon) = and_small (statement_small inner) (condition_small test)
  statement_small (for_statement turns inner) = and_small (head_small turns) (statement_small inner)
  statement_small (break_statement is semicolon) = no_number
  statement_small (continue_statement is semicolon) = no_number
  statement_small (return_statement is semicolon) = no_number
  statement_small (return_value is right semicolon) = right_small right

  pub statements_small : {aliases : List (List ℕ)} {es all : List Stmt} {ts rest : Tokens} → MoreStatements aliases es ts all rest → AreSmall (flat_map statement_numbers es) → AreSmall (flat_map statement_numbers all)
  statements_small no_statement small = small
  statements_small {es = es} (next_statement {s = x} one path) small = statements_small path (behind_small statement_numbers es x small (statement_small one))
