-- Conditions that alike tokens spell.
use Rattle.std.proofs.Common.{◌≡◌, refl, ap, subst}
use Rattle.mc_c_syntax.specs.Ast.Trees.{value, Cond, plain, compare, negation, enclosed, both, either}
use Rattle.mc_c_syntax.specs.Ast.Names.{Tokens}
use Rattle.mc_c_syntax.specs.Ast.Grammar.{IsProper, IsBang, bang_bang, bang_variable, bang_input, bang_parens, IsOne, plain_one, comparison, negated, condition_parens, Boths, no_both, one_more, IsBoth, all_of, Eithers, no_either, or_else, IsCondition, any_of}
use Rattle.mc_c_grammar.specs.Printed.Aside.{nowhere, condition_aside}
use Rattle.mc_c_grammar.proofs.PrintedLemmas.Alike.{Alike, alike, Again, again, and_then, and_close, mark_again, word_again, ap_two}
use Rattle.mc_c_grammar.proofs.PrintedLemmas.AlikeExpressions.{left_again, sum_again}

-- whether a condition is a plain expression does not rest on places
proper_aside : (c : Cond) → IsProper c → IsProper (condition_aside c)
proper_aside (plain e) is = is
proper_aside (compare c a b) is = tt
proper_aside (negation p c) is = tt
proper_aside (enclosed p c) is = tt
proper_aside (both c d) is = tt
proper_aside (either c d) is = tt

proper_back : (c : Cond) → IsProper (condition_aside c) → IsProper c
proper_back (plain e) is = is
proper_back (compare c a b) is = tt
proper_back (negation p c) is = tt
proper_back (enclosed p c) is = tt
proper_back (both c d) is = tt
proper_back (either c d) is = tt

proper_again : (c d : Cond) → condition_aside c ≡ condition_aside d → IsProper c → IsProper d
proper_again c d e is = proper_back d (subst IsProper e (proper_aside c is))

mutual
  bang_again : {x : Cond} {ts rest us : Tokens} → IsBang x ts rest → Alike ts us → Again IsBang condition_aside x rest us
  bang_again (bang_bang is inner) (alike s r) = and_then (bang_again inner r) λ y left d q e. again (bang_bang (mark_again s is) d) q (ap (negation nowhere) e)
  bang_again (bang_variable is inner) (alike s r) = and_then (left_again inner r) λ y left d q e. again (bang_variable (mark_again s is) d) q (ap (λ l. negation nowhere (plain (value l))) e)
  bang_again (bang_input is word before after) (alike s (alike t (alike u (alike v r)))) =
      again (bang_input (mark_again s is) (word_again t word) (mark_again u before) (mark_again v after)) r refl
  bang_again (bang_parens is before inner after) (alike s (alike t r)) =
      and_close (condition_again inner r) λ y b left d u q e. again (bang_parens (mark_again s is) (mark_again t before) d (mark_again u after)) q (ap (λ c. negation nowhere (enclosed nowhere c)) e)

  one_again : {x : Cond} {ts rest us : Tokens} → IsOne x ts rest → Alike ts us → Again IsOne condition_aside x rest us
  one_again (plain_one inner) r = and_then (sum_again inner r) λ y left d q e. again (plain_one d) q (ap plain e)
  one_again (comparison {c = c} one is other) r =
      and_close (sum_again one r) λ y b mid d s q e. and_then (sum_again other q) λ z left d' q' f. again (comparison {c = c} d (mark_again s is) d') q' (ap_two (compare c) e f)
  one_again (negated inner) r = and_then (bang_again inner r) λ y left d q e. again (negated d) q e
  one_again (condition_parens {c = c} before inner after proper) (alike s r) =
      and_close (condition_again inner r) λ y b left d t q e. again (condition_parens (mark_again s before) d (mark_again t after) (proper_again c y e proper)) q (ap (enclosed nowhere) e)

  boths_again : {a b x : Cond} {ts rest us : Tokens} → Boths a ts x rest → Alike ts us → condition_aside a ≡ condition_aside b → Again (λ y vs left. Boths b vs y left) condition_aside x rest us
  boths_again no_both r e = again no_both r e
  boths_again {b = b} (one_more is one path) (alike s r) e =
      and_then (one_again one r) λ y mid d q f. and_then (boths_again {b = both b y} path q (ap_two both e f)) λ z left d' q' g. again (one_more (mark_again s is) d d') q' g

  both_again : {x : Cond} {ts rest us : Tokens} → IsBoth x ts rest → Alike ts us → Again IsBoth condition_aside x rest us
  both_again (all_of one path) r =
      and_then (one_again one r) λ y mid d q f. and_then (boths_again {b = y} path q f) λ z left d' q' g. again (all_of d d') q' g

  eithers_again : {a b x : Cond} {ts rest us : Tokens} → Eithers a ts x rest → Alike ts us → condition_aside a ≡ condition_aside b → Again (λ y vs left. Eithers b vs y left) condition_aside x rest us
  eithers_again no_either r e = again no_either r e
  eithers_again {b = b} (or_else is one path) (alike s r) e =
      and_then (both_again one r) λ y mid d q f. and_then (eithers_again {b = either b y} path q (ap_two either e f)) λ z left d' q' g. again (or_else (mark_again s is) d d') q' g

  pub condition_again : {x : Cond} {ts rest us : Tokens} → IsCondition x ts rest → Alike ts us → Again IsCondition condition_aside x rest us
  condition_again (any_of one path) r =
      and_then (both_again one r) λ y mid d q f. and_then (eithers_again {b = y} path q f) λ z left d' q' g. again (any_of d d') q' g
