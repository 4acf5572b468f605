-- Expressions and conditions declare nothing: places after them stay places of tokens.
use Rattle.mc_c_syntax.specs.Ast.Trees.{Left, Expr, Cond}
use Rattle.mc_c_syntax.specs.Ast.Names.{Tokens}
use Rattle.mc_c_syntax.specs.Ast.Grammar.{Fields, none, more, IsLeft, named, IsUnary, negative, numeral, null_word, input_call, variable, in_parens, Factors, no_factor, factor, IsTerm, product, Terms, no_term, added, taken, IsSum, sum_of}
use Rattle.mc_c_syntax.specs.Ast.Grammar.{IsBang, bang_bang, bang_variable, bang_input, bang_parens, IsOne, plain_one, comparison, negated, condition_parens, Boths, no_both, one_more, IsBoth, all_of, Eithers, no_either, or_else, IsCondition, any_of}
use Rattle.mc_c_grammar.proofs.PlacesLemmas.Within.{Places, AreWithin, past}

fields_past : {l x : Left} {ts rest : Tokens} {places : Places} → Fields l ts x rest → AreWithin places rest → AreWithin places ts
fields_past none w = w
fields_past (more is name path) w = past (past (fields_past path w))

pub left_past : {l : Left} {ts rest : Tokens} {places : Places} → IsLeft l ts rest → AreWithin places rest → AreWithin places ts
left_past (named is path) w = past (fields_past path w)

mutual
  unary_past : {x : Expr} {ts rest : Tokens} {places : Places} → IsUnary x ts rest → AreWithin places rest → AreWithin places ts
  unary_past (negative is inner) w = past (unary_past inner w)
  unary_past (numeral is) w = past w
  unary_past (null_word is) w = past w
  unary_past (input_call is before after) w = past (past (past w))
  unary_past (variable left) w = left_past left w
  unary_past (in_parens before inner after) w = past (sum_past inner (past w))

  factors_past : {a x : Expr} {ts rest : Tokens} {places : Places} → Factors a ts x rest → AreWithin places rest → AreWithin places ts
  factors_past no_factor w = w
  factors_past (factor is unary path) w = past (unary_past unary (factors_past path w))

  term_past : {x : Expr} {ts rest : Tokens} {places : Places} → IsTerm x ts rest → AreWithin places rest → AreWithin places ts
  term_past (product unary path) w = unary_past unary (factors_past path w)

  terms_past : {a x : Expr} {ts rest : Tokens} {places : Places} → Terms a ts x rest → AreWithin places rest → AreWithin places ts
  terms_past no_term w = w
  terms_past (added is term path) w = past (term_past term (terms_past path w))
  terms_past (taken is term path) w = past (term_past term (terms_past path w))

  pub sum_past : {x : Expr} {ts rest : Tokens} {places : Places} → IsSum x ts rest → AreWithin places rest → AreWithin places ts
  sum_past (sum_of term path) w = term_past term (terms_past path w)

mutual
  bang_past : {x : Cond} {ts rest : Tokens} {places : Places} → IsBang x ts rest → AreWithin places rest → AreWithin places ts
  bang_past (bang_bang is inner) w = past (bang_past inner w)
  bang_past (bang_variable is inner) w = past (left_past inner w)
  bang_past (bang_input is word before after) w = past (past (past (past w)))
  bang_past (bang_parens is before inner after) w = past (past (condition_past inner (past w)))

  one_past : {x : Cond} {ts rest : Tokens} {places : Places} → IsOne x ts rest → AreWithin places rest → AreWithin places ts
  one_past (plain_one inner) w = sum_past inner w
  one_past (comparison one is other) w = sum_past one (past (sum_past other w))
  one_past (negated inner) w = bang_past inner w
  one_past (condition_parens before inner after proper) w = past (condition_past inner (past w))

  boths_past : {a x : Cond} {ts rest : Tokens} {places : Places} → Boths a ts x rest → AreWithin places rest → AreWithin places ts
  boths_past no_both w = w
  boths_past (one_more is one path) w = past (one_past one (boths_past path w))

  both_past : {x : Cond} {ts rest : Tokens} {places : Places} → IsBoth x ts rest → AreWithin places rest → AreWithin places ts
  both_past (all_of one path) w = one_past one (boths_past path w)

  eithers_past : {a x : Cond} {ts rest : Tokens} {places : Places} → Eithers a ts x rest → AreWithin places rest → AreWithin places ts
  eithers_past no_either w = w
  eithers_past (or_else is one path) w = past (both_past one (eithers_past path w))

  pub condition_past : {x : Cond} {ts rest : Tokens} {places : Places} → IsCondition x ts rest → AreWithin places rest → AreWithin places ts
  condition_past (any_of one path) w = both_past one (eithers_past path w)
