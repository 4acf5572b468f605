-- The numbers of expressions and conditions that were read are small.
use Rattle.mc_c_syntax.specs.Ast.Trees.{Expr, Cond}
use Rattle.mc_c_syntax.specs.Ast.Names.{Tokens}
use Rattle.mc_c_syntax.specs.Ast.Grammar.{IsUnary, negative, numeral, null_word, input_call, variable, in_parens, Factors, no_factor, factor, IsTerm, product, Terms, no_term, added, taken, IsSum, sum_of}
use Rattle.mc_c_syntax.specs.Ast.Grammar.{IsBang, bang_bang, bang_variable, bang_input, bang_parens, IsOne, plain_one, comparison, negated, condition_parens, Boths, no_both, one_more, IsBoth, all_of, Eithers, no_either, or_else, IsCondition, any_of}
use Rattle.mc_c_grammar.specs.Numbers.Numbers.{expression_numbers, condition_numbers}
use Rattle.mc_c_grammar.proofs.NumbersLemmas.Small.{AreSmall, no_number, one_small, and_small}

mutual
  unary_small : {x : Expr} {ts rest : Tokens} → IsUnary x ts rest → AreSmall (expression_numbers x)
  unary_small (negative is inner) = unary_small inner
  unary_small (numeral is) = one_small is.small no_number
  unary_small (null_word is) = no_number
  unary_small (input_call is before after) = no_number
  unary_small (variable left) = no_number
  unary_small (in_parens before inner after) = sum_small inner

  factors_small : {a x : Expr} {ts rest : Tokens} → Factors a ts x rest → AreSmall (expression_numbers a) → AreSmall (expression_numbers x)
  factors_small no_factor small = small
  factors_small (factor is unary path) small = factors_small path (and_small small (unary_small unary))

  term_small : {x : Expr} {ts rest : Tokens} → IsTerm x ts rest → AreSmall (expression_numbers x)
  term_small (product unary path) = factors_small path (unary_small unary)

  terms_small : {a x : Expr} {ts rest : Tokens} → Terms a ts x rest → AreSmall (expression_numbers a) → AreSmall (expression_numbers x)
  terms_small no_term small = small
  terms_small (added is term path) small = terms_small path (and_small small (term_small term))
  terms_small (taken is term path) small = terms_small path (and_small small (term_small term))

  pub sum_small : {x : Expr} {ts rest : Tokens} → IsSum x ts rest → AreSmall (expression_numbers x)
  sum_small (sum_of term path) = terms_small path (term_small term)

mutual
  bang_small : {x : Cond} {ts rest : Tokens} → IsBang x ts rest → AreSmall (condition_numbers x)
  bang_small (bang_bang is inner) = bang_small inner
  bang_small (bang_variable is inner) = no_number
  bang_small (bang_input is word before after) = no_number
  bang_small (bang_parens is before inner after) = condition_small inner

  one_condition_small : {x : Cond} {ts rest : Tokens} → IsOne x ts rest → AreSmall (condition_numbers x)
  one_condition_small (plain_one inner) = sum_small inner
  one_condition_small (comparison one is other) = and_small (sum_small one) (sum_small other)
  one_condition_small (negated inner) = bang_small inner
  one_condition_small (condition_parens before inner after proper) = condition_small inner

  boths_small : {a x : Cond} {ts rest : Tokens} → Boths a ts x rest → AreSmall (condition_numbers a) → AreSmall (condition_numbers x)
  boths_small no_both small = small
  boths_small (one_more is one path) small = boths_small path (and_small small (one_condition_small one))

  both_small : {x : Cond} {ts rest : Tokens} → IsBoth x ts rest → AreSmall (condition_numbers x)
  both_small (all_of one path) = boths_small path (one_condition_small one)

  eithers_small : {a x : Cond} {ts rest : Tokens} → Eithers a ts x rest → AreSmall (condition_numbers a) → AreSmall (condition_numbers x)
  eithers_small no_either small = small
  eithers_small (or_else is one path) small = eithers_small path (and_small small (both_small one))

  pub condition_small : {x : Cond} {ts rest : Tokens} → IsCondition x ts rest → AreSmall (condition_numbers x)
  condition_small (any_of one path) = eithers_small path (both_small one)
