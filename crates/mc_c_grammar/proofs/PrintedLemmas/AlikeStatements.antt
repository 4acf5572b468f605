-- Statements that alike tokens spell.
use Rattle.std.proofs.Common.{◌≡◌, ℕ, List, [], ◌∷◌, ◌++◌, Option, Some, refl, ap, sym, ◌∙◌, map}
use Rattle.std.specs.Option.{option_map}
use Rattle.mc_c_syntax.specs.Ast.Trees.{Cond, SimpleTree, Start, declares, performs, Head, Stmt, declaration, block, simple, free, assert, assume, assume_shape, assert_shape, if_only, if_else, while_loop, do_loop, for_loop, returns, then, stmts_of}
use Rattle.mc_c_syntax.specs.Ast.Names.{Tokens}
use Rattle.mc_c_syntax.specs.Ast.Grammar.{IsStart, starts_empty, starts_declaring, starts_performing, IsMaybeCondition, no_condition, condition, IsMaybeSimple, no_simple, some_simple, IsHead, head}
use Rattle.mc_c_syntax.specs.Ast.Grammar.{IsStatement, declares_statement, block_statement, empty_statement, simple_statement, free_statement, assert_statement, assume_statement, assume_shape_statement, assert_shape_statement, assert_empty_statement, if_statement, if_else_statement, while_statement, do_statement, for_statement, break_statement, continue_statement, return_statement, return_value, MoreStatements, no_statement, next_statement}
use Rattle.mc_c_grammar.specs.Printed.Aside.{nowhere, condition_aside, simple_aside, start_aside, head_aside, statement_aside, statements_aside}
use Rattle.mc_c_grammar.proofs.PrintedLemmas.Alike.{Alike, alike, Again, again, and_then, and_close, and_end, mark_again, word_again, name_again, named_again, no_else_again, ap_two, ap_three, one_more}
use Rattle.mc_c_grammar.proofs.PrintedLemmas.AlikeExpressions.{sum_again}
use Rattle.mc_c_grammar.proofs.PrintedLemmas.AlikeConditions.{condition_again}
use Rattle.mc_c_grammar.proofs.PrintedLemmas.AlikeSimples.{right_again, declaration_again, simple_again, argument_again, arguments_again}

start_again : {aliases : List (List ℕ)} {x : Start} {ts rest us : Tokens} → IsStart aliases x ts rest → Alike ts us → Again (IsStart aliases) start_aside x rest us
start_again (starts_empty is) (alike s r) = again (starts_empty (mark_again s is)) r refl
start_again (starts_declaring inner) r = and_then (declaration_again inner r) λ y left d q e. again (starts_declaring d) q (ap declares e)
start_again (starts_performing inner is) r = and_close (simple_again inner r) λ y b left d s q e. again (starts_performing d (mark_again s is)) q (ap performs e)

maybe_condition_again : {x : Option Cond} {ts rest us : Tokens} → IsMaybeCondition x ts rest → Alike ts us → Again IsMaybeCondition (option_map condition_aside) x rest us
maybe_condition_again no_condition r = again no_condition r refl
maybe_condition_again (condition inner) r = and_then (condition_again inner r) λ y left d q e. again (condition d) q (ap Some e)

maybe_simple_again : {aliases : List (List ℕ)} {x : Option SimpleTree} {ts rest us : Tokens} → IsMaybeSimple aliases x ts rest → Alike ts us → Again (IsMaybeSimple aliases) (option_map simple_aside) x rest us
maybe_simple_again no_simple r = again no_simple r refl
maybe_simple_again (some_simple inner) r = and_then (simple_again inner r) λ y left d q e. again (some_simple d) q (ap Some e)

head_again : {aliases : List (List ℕ)} {x : Head} {ts rest us : Tokens} → IsHead aliases x ts rest → Alike ts us → Again (IsHead aliases) head_aside x rest us
head_again (head is before start test semicolon after_all after) (alike s (alike t r)) =
    and_then (start_again start r) λ x mid d q e. and_close (maybe_condition_again test q) λ y b behind d' u q' f. and_close (maybe_simple_again after_all q') λ z c left d'' v q'' g.
    again (head (word_again s is) (mark_again t before) d d' (mark_again u semicolon) d'' (mark_again v after)) q'' (ap_three {D = Head} (λ start condition last. record { place = nowhere; start = start; condition = condition; last = last }) e f g)

-- a list of statements, places aside
pub same_statements : (ss : List Stmt) → statements_aside (stmts_of ss) ≡ stmts_of (map statement_aside ss)
same_statements [] = refl
same_statements (s ∷ ss) = ap (then (statement_aside s)) (same_statements ss)

same_block : (ss us : List Stmt) → map statement_aside ss ≡ map statement_aside us → block nowhere (statements_aside (stmts_of ss)) ≡ block nowhere (statements_aside (stmts_of us))
same_block ss us e = ap (block nowhere) (same_statements ss ∙ ap stmts_of e ∙ sym (same_statements us))

mutual
  pub statement_again : {aliases : List (List ℕ)} {x : Stmt} {ts rest us : Tokens} → IsStatement aliases x ts rest → Alike ts us → Again (IsStatement aliases) statement_aside x rest us
  statement_again (declares_statement inner) r = and_then (declaration_again inner r) λ y left d q e. again (declares_statement d) q (ap declaration e)
  statement_again (block_statement {ss = ss} before inner after) (alike s r) =
      and_close (statements_again {fs = []} inner r refl) λ y b left d t q e. again (block_statement (mark_again s before) d (mark_again t after)) q (same_block ss y e)
  statement_again (empty_statement is) (alike s r) = again (empty_statement (mark_again s is)) r refl
  statement_again (simple_statement inner is) r = and_close (simple_again inner r) λ y b left d s q e. again (simple_statement d (mark_again s is)) q (ap simple e)
  statement_again (free_statement is before inner after semicolon) (alike s (alike t r)) =
      and_end (sum_again inner r) λ y b c left d u v q e. again (free_statement (word_again s is) (mark_again t before) d (mark_again u after) (mark_again v semicolon)) q (ap (free nowhere) e)
  statement_again (assert_statement is before inner after semicolon) (alike s (alike t r)) =
      and_end (condition_again inner r) λ y b c left d u v q e. again (assert_statement (word_again s is) (mark_again t before) d (mark_again u after) (mark_again v semicolon)) q (ap (assert nowhere) e)
  statement_again (assume_statement is before inner after semicolon) (alike s (alike t r)) =
      and_end (condition_again inner r) λ y b c left d u v q e. again (assume_statement (word_again s is) (mark_again t before) d (mark_again u after) (mark_again v semicolon)) q (ap (assume nowhere) e)
  statement_again (assume_shape_statement is before predicate comma variable inner after semicolon) (alike s (alike t (alike p (alike k (alike w r))))) =
      and_end (arguments_again {fs = []} inner r refl) λ y b c left d u v q e.
      again (assume_shape_statement (word_again s is) (mark_again t before) (name_again p predicate) (mark_again k comma) (name_again w variable) d (mark_again u after) (mark_again v semicolon)) q
      (ap_three (assume_shape nowhere) (named_again p predicate) (named_again w variable) e)
  statement_again (assert_shape_statement is before predicate comma one inner after semicolon) (alike s (alike t (alike p (alike k r)))) =
      and_then (argument_again one r) λ x mid d q e. and_end (arguments_again {fs = []} inner q refl) λ y b c left d' u v q' f.
      again (assert_shape_statement (word_again s is) (mark_again t before) (name_again p predicate) (mark_again k comma) d d' (mark_again u after) (mark_again v semicolon)) q'
      (ap_three (assert_shape nowhere) (named_again p predicate) e f)
  statement_again (assert_empty_statement is before after semicolon) (alike s (alike t (alike u (alike v r)))) =
      again (assert_empty_statement (word_again s is) (mark_again t before) (mark_again u after) (mark_again v semicolon)) r refl
  statement_again (if_statement is before test after inner otherwise) (alike s (alike t r)) =
      and_close (condition_again test r) λ c b mid d u q e. and_then (statement_again inner q) λ y left d' q' f.
      again (if_statement (word_again s is) (mark_again t before) d (mark_again u after) d' (no_else_again q' otherwise)) q' (ap_two (if_only nowhere) e f)
  statement_again (if_else_statement is before test after inner otherwise other) (alike s (alike t r)) =
      and_close (condition_again test r) λ c b mid d u q e. and_close (statement_again inner q) λ y o behind d' v q' f. and_then (statement_again other q') λ z left d'' q'' g.
      again (if_else_statement (word_again s is) (mark_again t before) d (mark_again u after) d' (word_again v otherwise) d'') q'' (ap_three (if_else nowhere) e f g)
  statement_again (while_statement is before test after inner) (alike s (alike t r)) =
      and_close (condition_again test r) λ c b mid d u q e. and_then (statement_again inner q) λ y left d' q' f.
      again (while_statement (word_again s is) (mark_again t before) d (mark_again u after) d') q' (ap_two (while_loop nowhere) e f)
  statement_again (do_statement is inner again_word before test after semicolon) (alike s r) =
      and_end (statement_again inner r) λ y w b mid d t u q e. and_end (condition_again test q) λ c a k left d' v x q' f.
      again (do_statement (word_again s is) d (word_again t again_word) (mark_again u before) d' (mark_again v after) (mark_again x semicolon)) q' (ap_two (do_loop nowhere) e f)
  statement_again (for_statement turns inner) r =
      and_then (head_again turns r) λ h mid d q e. and_then (statement_again inner q) λ y left d' q' f. again (for_statement d d') q' (ap_two for_loop e f)
  statement_again (break_statement is semicolon) (alike s (alike t r)) = again (break_statement (word_again s is) (mark_again t semicolon)) r refl
  statement_again (continue_statement is semicolon) (alike s (alike t r)) = again (continue_statement (word_again s is) (mark_again t semicolon)) r refl
  statement_again (return_statement is semicolon) (alike s (alike t r)) = again (return_statement (word_again s is) (mark_again t semicolon)) r refl
  statement_again (return_value is right semicolon) (alike s r) =
      and_close (right_again right r) λ y b left d t q e. again (return_value (word_again s is) d (mark_again t semicolon)) q (ap (λ r. returns nowhere (Some r)) e)

  pub statements_again : {aliases : List (List ℕ)} {es fs all : List Stmt} {ts rest us : Tokens} → MoreStatements aliases es ts all rest → Alike ts us → map statement_aside es ≡ map statement_aside fs → Again (λ y vs left. MoreStatements aliases fs vs y left) (map statement_aside) all rest us
  statements_again no_statement r e = again no_statement r e
  statements_again {es = es} {fs = fs} (next_statement {s = x} one path) r e =
      and_then (statement_again one r) λ y mid d q f. and_then (statements_again {fs = fs ++ y ∷ []} path q (one_more statement_aside x y es fs e f)) λ z left d' q' g. again (next_statement d d') q' g
