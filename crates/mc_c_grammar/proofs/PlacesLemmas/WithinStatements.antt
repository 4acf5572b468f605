-- The places that statements give are those of tokens.
use Rattle.std.proofs.Common.{ℕ, List, [], ◌++◌, Option, sym}
use Rattle.std.proofs.lemmas.List.{append-nil}
use Rattle.mc_c_syntax.specs.Ast.Trees.{Cond, SimpleTree, Start, Head, Stmt, stmts_of}
use Rattle.mc_c_syntax.specs.Ast.Names.{Tokens}
use Rattle.mc_c_syntax.specs.Ast.Grammar.{IsStart, starts_empty, starts_declaring, starts_performing, IsMaybeCondition, no_condition, condition, IsMaybeSimple, no_simple, some_simple, IsHead, head}
use Rattle.mc_c_syntax.specs.Ast.Grammar.{IsStatement, declares_statement, block_statement, empty_statement, simple_statement, free_statement, assert_statement, assume_statement, assume_shape_statement, assert_shape_statement, assert_empty_statement, if_statement, if_else_statement, while_statement, do_statement, for_statement, break_statement, continue_statement, return_statement, return_value, MoreStatements, no_statement, next_statement}
use Rattle.mc_c_grammar.specs.Places.Places.{start_places, statement_places, statements_places}
use Rattle.mc_c_grammar.proofs.PlacesLemmas.Within.{Places, AreWithin, past, Grown, grown, grown_by, from_none, in_turn}
use Rattle.mc_c_grammar.proofs.PlacesLemmas.WithinExpressions.{sum_past, condition_past}
use Rattle.mc_c_grammar.proofs.PlacesLemmas.WithinSimples.{right_past, declaration_within, simple_past, argument_past, arguments_past}

start_within : {aliases : List (List ℕ)} {x : Start} {ts rest : Tokens} {places : Places} → IsStart aliases x ts rest → AreWithin places rest → AreWithin (start_places x ++ places) ts
start_within (starts_empty is) w = past w
start_within (starts_declaring inner) w = declaration_within inner w
start_within (starts_performing inner is) w = simple_past inner (past w)

maybe_condition_past : {x : Option Cond} {ts rest : Tokens} {places : Places} → IsMaybeCondition x ts rest → AreWithin places rest → AreWithin places ts
maybe_condition_past no_condition w = w
maybe_condition_past (condition inner) w = condition_past inner w

maybe_simple_past : {aliases : List (List ℕ)} {x : Option SimpleTree} {ts rest : Tokens} {places : Places} → IsMaybeSimple aliases x ts rest → AreWithin places rest → AreWithin places ts
maybe_simple_past no_simple w = w
maybe_simple_past (some_simple inner) w = simple_past inner w

head_within : {aliases : List (List ℕ)} {x : Head} {ts rest : Tokens} {places : Places} → IsHead aliases x ts rest → AreWithin places rest → AreWithin (start_places x.start ++ places) ts
head_within (head is before start test semicolon turn after) w = past (past (start_within start (maybe_condition_past test (past (maybe_simple_past turn (past w))))))

abbrev pub list_places : List Stmt → Places
list_places ss = statements_places (stmts_of ss)

mutual
  statement_within : {aliases : List (List ℕ)} {x : Stmt} {ts rest : Tokens} {places : Places} → IsStatement aliases x ts rest → AreWithin places rest → AreWithin (statement_places x ++ places) ts
  statement_within (declares_statement inner) w = declaration_within inner w
  statement_within (block_statement before inner after) w = past (from_none (statements_within inner (past w)))
  statement_within (empty_statement is) w = past w
  statement_within (simple_statement inner is) w = simple_past inner (past w)
  statement_within (free_statement is before inner after semicolon) w = past (past (sum_past inner (past (past w))))
  statement_within (assert_statement is before inner after semicolon) w = past (past (condition_past inner (past (past w))))
  statement_within (assume_statement is before inner after semicolon) w = past (past (condition_past inner (past (past w))))
  statement_within (assume_shape_statement is before predicate comma variable inner after semicolon) w = past (past (past (past (past (arguments_past inner (past (past w)))))))
  statement_within (assert_shape_statement is before predicate comma one inner after semicolon) w = past (past (past (past (argument_past one (arguments_past inner (past (past w)))))))
  statement_within (assert_empty_statement is before after semicolon) w = past (past (past (past w)))
  statement_within (if_statement is before test after inner otherwise) w = past (past (condition_past test (past (statement_within inner w))))
  statement_within {places = places} (if_else_statement {s = s} {t = t} is before test after inner otherwise other) w =
      in_turn (statement_places s) (statement_places t) places (past (past (condition_past test (past (statement_within inner (past (statement_within other w)))))))
  statement_within (while_statement is before test after inner) w = past (past (condition_past test (past (statement_within inner w))))
  statement_within (do_statement is inner again before test after semicolon) w = past (statement_within inner (past (past (condition_past test (past (past w))))))
  statement_within {places = places} (for_statement {h = h} {s = s} turns inner) w =
      in_turn (start_places h.start) (statement_places s) places (head_within turns (statement_within inner w))
  statement_within (break_statement is semicolon) w = past (past w)
  statement_within (continue_statement is semicolon) w = past (past w)
  statement_within (return_statement is semicolon) w = past (past w)
  statement_within (return_value is right semicolon) w = past (right_past right (past w))

  pub statements_within : {aliases : List (List ℕ)} {es all : List Stmt} {ts rest : Tokens} {places : Places} → MoreStatements aliases es ts all rest → AreWithin places rest → Grown list_places es all ts places
  statements_within {es = es} no_statement w = grown [] (sym (append-nil es)) w
  statements_within {places = places} (next_statement {s = x} one path) w =
      grown_by x (statements_within path w) λ new n. in_turn (statement_places x) (list_places new) places (statement_within one n)
