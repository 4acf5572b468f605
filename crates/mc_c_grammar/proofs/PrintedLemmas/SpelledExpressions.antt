-- The words of expressions and conditions are those of their tokens.
use Rattle.std.proofs.Common.{◌≡◌, List, [], ◌∷◌, ◌++◌, refl, ap, ◌∙◌}
use Rattle.std.specs.Prelude.{codes, IsTrue}
use Rattle.mc_c_syntax.specs.declared.ast.trees.Name.{Name}
use Rattle.mc_c_syntax.specs.declared.ast.trees.Comparison.{Comparison}
use Rattle.mc_c_syntax.specs.declared.ast.trees.Comparison.TheVariants.{Equal, Unequal, Below, AtMost, Above, AtLeast}
use Rattle.mc_c_syntax.specs.Ast.Trees.{Left, Expr, Cond}
use Rattle.mc_c_syntax.specs.Ast.Names.{Tokens, name_of, mark_of, is_in}
use Rattle.mc_c_syntax.specs.Ast.Classes.{grammar_marks}
use Rattle.mc_c_grammar.specs.Spelling.Words.{Words, field_words, left_words, expression_words, condition_words}
use Rattle.mc_c_syntax.specs.Ast.Grammar.{Fields, none, more, IsLeft, named as named_left, IsUnary, negative, numeral, null_word, input_call, variable, in_parens, Factors, no_factor, factor, IsTerm, product, Terms, no_term, added, taken, IsSum, sum_of}
use Rattle.mc_c_syntax.specs.Ast.Grammar.{IsBang, bang_bang, bang_variable, bang_input, bang_parens, IsOne, plain_one, comparison, negated, condition_parens, Boths, no_both, one_more, IsBoth, all_of, Eithers, no_either, or_else, IsCondition, any_of}
use Rattle.mc_c_grammar.proofs.PrintedLemmas.Spelled.{AreWordsOf, marked, worded, named, numbered, Chained, chain}

field_added : (fields : List Name) (name : Name) (words : Words) → field_words (fields ++ name ∷ []) words ≡ field_words fields (codes "->" ∷ name.text ∷ words)
field_added [] name words = refl
field_added (field ∷ fields) name words = ap (λ w. codes "->" ∷ field.text ∷ w) (field_added fields name words)

fields_spelled : {l x : Left} {ts rest : Tokens} {words : Words} → Fields l ts x rest → AreWordsOf rest words → Chained ts (left_words x words) (left_words l)
fields_spelled {words = words} none w = (words, w, refl)
fields_spelled {l = l} (more {name = name} is name_is path) w =
    let next = fields_spelled path w in
    (codes "->" ∷ name.text ∷ next.0, marked is refl (named name_is next.1), next.2 ∙ ap (λ w. l.name.text ∷ w) (field_added l.fields (name_of name) next.0))

pub left_spelled : {l : Left} {ts rest : Tokens} {words : Words} → IsLeft l ts rest → AreWordsOf rest words → AreWordsOf ts (left_words l words)
left_spelled (named_left is path) w = chain (fields_spelled path w) λ next n. named is n

mutual
  unary_spelled : {x : Expr} {ts rest : Tokens} {words : Words} → IsUnary x ts rest → AreWordsOf rest words → AreWordsOf ts (expression_words x words)
  unary_spelled (negative is inner) w = marked is refl (unary_spelled inner w)
  unary_spelled (numeral is) w = numbered is w
  unary_spelled (null_word is) w = worded is w
  unary_spelled (input_call is before after) w = worded is (marked before refl (marked after refl w))
  unary_spelled (variable left) w = left_spelled left w
  unary_spelled (in_parens before inner after) w = marked before refl (sum_spelled inner (marked after refl w))

  factors_spelled : {a x : Expr} {ts rest : Tokens} {words : Words} → Factors a ts x rest → AreWordsOf rest words → Chained ts (expression_words x words) (expression_words a)
  factors_spelled {words = words} no_factor w = (words, w, refl)
  factors_spelled (factor {b = b} is unary path) w = let next = factors_spelled path w in (codes "*" ∷ expression_words b next.0, marked is refl (unary_spelled unary next.1), next.2)

  term_spelled : {x : Expr} {ts rest : Tokens} {words : Words} → IsTerm x ts rest → AreWordsOf rest words → AreWordsOf ts (expression_words x words)
  term_spelled (product unary path) w = chain (factors_spelled path w) λ next n. unary_spelled unary n

  terms_spelled : {a x : Expr} {ts rest : Tokens} {words : Words} → Terms a ts x rest → AreWordsOf rest words → Chained ts (expression_words x words) (expression_words a)
  terms_spelled {words = words} no_term w = (words, w, refl)
  terms_spelled (added {b = b} is term path) w = let next = terms_spelled path w in (codes "+" ∷ expression_words b next.0, marked is refl (term_spelled term next.1), next.2)
  terms_spelled (taken {b = b} is term path) w = let next = terms_spelled path w in (codes "-" ∷ expression_words b next.0, marked is refl (term_spelled term next.1), next.2)

  pub sum_spelled : {x : Expr} {ts rest : Tokens} {words : Words} → IsSum x ts rest → AreWordsOf rest words → AreWordsOf ts (expression_words x words)
  sum_spelled (sum_of term path) w = chain (terms_spelled path w) λ next n. term_spelled term n

mark_known : (c : Comparison) → IsTrue (is_in grammar_marks (mark_of c))
mark_known Equal = refl
mark_known Unequal = refl
mark_known Below = refl
mark_known AtMost = refl
mark_known Above = refl
mark_known AtLeast = refl

mutual
  bang_spelled : {x : Cond} {ts rest : Tokens} {words : Words} → IsBang x ts rest → AreWordsOf rest words → AreWordsOf ts (condition_words x words)
  bang_spelled (bang_bang is inner) w = marked is refl (bang_spelled inner w)
  bang_spelled (bang_variable is inner) w = marked is refl (left_spelled inner w)
  bang_spelled (bang_input is word before after) w = marked is refl (worded word (marked before refl (marked after refl w)))
  bang_spelled (bang_parens is before inner after) w = marked is refl (marked before refl (condition_spelled inner (marked after refl w)))

  one_spelled : {x : Cond} {ts rest : Tokens} {words : Words} → IsOne x ts rest → AreWordsOf rest words → AreWordsOf ts (condition_words x words)
  one_spelled (plain_one inner) w = sum_spelled inner w
  one_spelled (comparison {c = c} one is other) w = sum_spelled one (marked is (mark_known c) (sum_spelled other w))
  one_spelled (negated inner) w = bang_spelled inner w
  one_spelled (condition_parens before inner after proper) w = marked before refl (condition_spelled inner (marked after refl w))

  boths_spelled : {a x : Cond} {ts rest : Tokens} {words : Words} → Boths a ts x rest → AreWordsOf rest words → Chained ts (condition_words x words) (condition_words a)
  boths_spelled {words = words} no_both w = (words, w, refl)
  boths_spelled (one_more {b = b} is one path) w = let next = boths_spelled path w in (codes "&&" ∷ condition_words b next.0, marked is refl (one_spelled one next.1), next.2)

  both_spelled : {x : Cond} {ts rest : Tokens} {words : Words} → IsBoth x ts rest → AreWordsOf rest words → AreWordsOf ts (condition_words x words)
  both_spelled (all_of one path) w = chain (boths_spelled path w) λ next n. one_spelled one n

  eithers_spelled : {a x : Cond} {ts rest : Tokens} {words : Words} → Eithers a ts x rest → AreWordsOf rest words → Chained ts (condition_words x words) (condition_words a)
  eithers_spelled {words = words} no_either w = (words, w, refl)
  eithers_spelled (or_else {b = b} is one path) w = let next = eithers_spelled path w in (codes "||" ∷ condition_words b next.0, marked is refl (both_spelled one next.1), next.2)

  pub condition_spelled : {x : Cond} {ts rest : Tokens} {words : Words} → IsCondition x ts rest → AreWordsOf rest words → AreWordsOf ts (condition_words x words)
  condition_spelled (any_of one path) w = chain (eithers_spelled path w) λ next n. both_spelled one n
