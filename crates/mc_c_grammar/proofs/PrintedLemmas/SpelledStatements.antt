-- The words of statements are those of their tokens.
use Rattle.std.proofs.Common.{ℕ, List, [], ◌∷◌, Option, refl, sym}
use Rattle.std.specs.Prelude.{codes}
use Rattle.std.proofs.lemmas.List.{append-nil}
use Rattle.mc_c_syntax.specs.Ast.Trees.{Cond, SimpleTree, Start, Head, Stmt, stmts_of}
use Rattle.mc_c_syntax.specs.Ast.Names.{Tokens}
use Rattle.mc_c_grammar.specs.Spelling.Words.{Words, condition_words, simple_words, argument_words, more_words, maybe_words, start_words, head_words, statement_words, statements_words}
use Rattle.mc_c_syntax.specs.Ast.Grammar.{IsStart, starts_empty, starts_declaring, starts_performing, IsMaybeCondition, no_condition, condition, IsMaybeSimple, no_simple, some_simple, IsHead, head}
use Rattle.mc_c_syntax.specs.Ast.Grammar.{IsStatement, declares_statement, block_statement, empty_statement, simple_statement, free_statement, assert_statement, assume_statement, assume_shape_statement, assert_shape_statement, assert_empty_statement, if_statement, if_else_statement, while_statement, do_statement, for_statement, break_statement, continue_statement, return_statement, return_value, MoreStatements, no_statement, next_statement}
use Rattle.mc_c_grammar.proofs.PrintedLemmas.Spelled.{AreWordsOf, marked, worded, named, Grown, grown, grown_by, from_none}
use Rattle.mc_c_grammar.proofs.PrintedLemmas.SpelledExpressions.{sum_spelled, condition_spelled}
use Rattle.mc_c_grammar.proofs.PrintedLemmas.SpelledSimples.{right_spelled, declaration_spelled, simple_spelled, argument_spelled, arguments_spelled}

start_spelled : {aliases : List (List ℕ)} {x : Start} {ts rest : Tokens} {words : Words} → IsStart aliases x ts rest → AreWordsOf rest words → AreWordsOf ts (start_words x words)
start_spelled (starts_empty is) w = marked is refl w
start_spelled (starts_declaring inner) w = declaration_spelled inner w
start_spelled (starts_performing inner is) w = simple_spelled inner (marked is refl w)

maybe_condition_spelled : {x : Option Cond} {ts rest : Tokens} {words : Words} → IsMaybeCondition x ts rest → AreWordsOf rest words → AreWordsOf ts (maybe_words condition_words x words)
maybe_condition_spelled no_condition w = w
maybe_condition_spelled (condition inner) w = condition_spelled inner w

maybe_simple_spelled : {aliases : List (List ℕ)} {x : Option SimpleTree} {ts rest : Tokens} {words : Words} → IsMaybeSimple aliases x ts rest → AreWordsOf rest words → AreWordsOf ts (maybe_words simple_words x words)
maybe_simple_spelled no_simple w = w
maybe_simple_spelled (some_simple inner) w = simple_spelled inner w

head_spelled : {aliases : List (List ℕ)} {x : Head} {ts rest : Tokens} {words : Words} → IsHead aliases x ts rest → AreWordsOf rest words → AreWordsOf ts (head_words x words)
head_spelled (head is before start test semicolon turn after) w =
    worded is (marked before refl (start_spelled start (maybe_condition_spelled test (marked semicolon refl (maybe_simple_spelled turn (marked after refl w))))))

mutual
  statement_spelled : {aliases : List (List ℕ)} {x : Stmt} {ts rest : Tokens} {words : Words} → IsStatement aliases x ts rest → AreWordsOf rest words → AreWordsOf ts (statement_words x words)
  statement_spelled (declares_statement inner) w = declaration_spelled inner w
  statement_spelled {words = words} (block_statement before inner after) w =
      from_none (λ ss. codes "{" ∷ statements_words (stmts_of ss) (codes "}" ∷ words)) (statements_spelled inner (marked after refl w)) λ new n. marked before refl n
  statement_spelled (empty_statement is) w = marked is refl w
  statement_spelled (simple_statement inner is) w = simple_spelled inner (marked is refl w)
  statement_spelled (free_statement is before inner after semicolon) w = worded is (marked before refl (sum_spelled inner (marked after refl (marked semicolon refl w))))
  statement_spelled (assert_statement is before inner after semicolon) w = worded is (marked before refl (condition_spelled inner (marked after refl (marked semicolon refl w))))
  statement_spelled (assume_statement is before inner after semicolon) w = worded is (marked before refl (condition_spelled inner (marked after refl (marked semicolon refl w))))
  statement_spelled {words = words} (assume_shape_statement {predicate = predicate} {variable = variable} is before predicate_is comma variable_is inner after semicolon) w =
      from_none (λ args. codes "assume_shape" ∷ codes "(" ∷ predicate.text ∷ codes "," ∷ variable.text ∷ more_words argument_words args (codes ")" ∷ codes ";" ∷ words)) (arguments_spelled inner (marked after refl (marked semicolon refl w)))
      λ new n. worded is (marked before refl (named predicate_is (marked comma refl (named variable_is n))))
  statement_spelled {words = words} (assert_shape_statement {a = a} {predicate = predicate} is before predicate_is comma one inner after semicolon) w =
      from_none (λ args. codes "assert_shape" ∷ codes "(" ∷ predicate.text ∷ codes "," ∷ argument_words a (more_words argument_words args (codes ")" ∷ codes ";" ∷ words))) (arguments_spelled inner (marked after refl (marked semicolon refl w)))
      λ new n. worded is (marked before refl (named predicate_is (marked comma refl (argument_spelled one n))))
  statement_spelled (assert_empty_statement is before after semicolon) w = worded is (marked before refl (marked after refl (marked semicolon refl w)))
  statement_spelled (if_statement is before test after inner otherwise) w = worded is (marked before refl (condition_spelled test (marked after refl (statement_spelled inner w))))
  statement_spelled (if_else_statement is before test after inner otherwise other) w =
      worded is (marked before refl (condition_spelled test (marked after refl (statement_spelled inner (worded otherwise (statement_spelled other w))))))
  statement_spelled (while_statement is before test after inner) w = worded is (marked before refl (condition_spelled test (marked after refl (statement_spelled inner w))))
  statement_spelled (do_statement is inner again before test after semicolon) w =
      worded is (statement_spelled inner (worded again (marked before refl (condition_spelled test (marked after refl (marked semicolon refl w))))))
  statement_spelled (for_statement turns inner) w = head_spelled turns (statement_spelled inner w)
  statement_spelled (break_statement is semicolon) w = worded is (marked semicolon refl w)
  statement_spelled (continue_statement is semicolon) w = worded is (marked semicolon refl w)
  statement_spelled (return_statement is semicolon) w = worded is (marked semicolon refl w)
  statement_spelled (return_value is right semicolon) w = worded is (right_spelled right (marked semicolon refl w))

  pub statements_spelled : {aliases : List (List ℕ)} {es all : List Stmt} {ts rest : Tokens} {words : Words} → MoreStatements aliases es ts all rest → AreWordsOf rest words → Grown (λ ss more. statements_words (stmts_of ss) more) es all ts words
  statements_spelled {es = es} no_statement w = grown [] (sym (append-nil es)) w
  statements_spelled (next_statement {s = x} one path) w = grown_by x (statements_spelled path w) λ new n. statement_spelled one n
