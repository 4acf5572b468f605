-- Expressions that alike tokens spell.
use Rattle.std.proofs.Common.{◌≡◌, List, [], ◌∷◌, ◌++◌, refl, ap, map}
use Rattle.mc_base.specs.declared.text.token.Token.{Token}
use Rattle.mc_c_syntax.specs.declared.ast.trees.Name.{Name}
use Rattle.mc_c_syntax.specs.Ast.Trees.{Left, Expr, value, minus, parens, times, plus, difference}
use Rattle.mc_c_syntax.specs.Ast.Names.{Tokens, name_of}
use Rattle.mc_c_syntax.specs.Ast.Grammar.{Fields, none, more, IsLeft, named, IsUnary, negative, numeral, null_word, input_call, variable, in_parens, Factors, no_factor, factor, IsTerm, product, Terms, no_term, added, taken, IsSum, sum_of}
use Rattle.mc_c_grammar.specs.Printed.Aside.{nowhere, name_aside, left_aside, expression_aside}
use Rattle.mc_c_grammar.proofs.PrintedLemmas.Alike.{Alike, alike, Again, again, and_then, and_close, mark_again, word_again, name_again, number_again, named_again, ap_two, one_more}

same_left : (m n : Name) (fs gs : List Name) → name_aside m ≡ name_aside n → map name_aside fs ≡ map name_aside gs → left_aside (record { name = m; fields = fs }) ≡ left_aside (record { name = n; fields = gs })
same_left m n fs gs p q = ap_two {C = Left} (λ name fields. record { name = name; fields = fields }) p q

-- one more field
abbrev with_field : Left → Token → Left
with_field l token = record { name = l.name; fields = l.fields ++ name_of token ∷ [] }

longer : (l k : Left) (a b : Token) → left_aside l ≡ left_aside k → name_aside (name_of a) ≡ name_aside (name_of b) → left_aside (with_field l a) ≡ left_aside (with_field k b)
longer l k a b e n =
    same_left l.name k.name (l.fields ++ name_of a ∷ []) (k.fields ++ name_of b ∷ []) (ap (λ (x : Left). x.name) e) (one_more name_aside (name_of a) (name_of b) l.fields k.fields (ap (λ (x : Left). x.fields) e) n)

fields_again : {l k x : Left} {ts rest us : Tokens} → Fields l ts x rest → Alike ts us → left_aside l ≡ left_aside k → Again (λ y vs left. Fields k vs y left) left_aside x rest us
fields_again none r e = again none r e
fields_again {k = k} (more {l = l} {name = a} is name path) (alike s (alike {b = b} t r)) e =
    and_then (fields_again {k = with_field k b} path r (longer l k a b e (named_again t name))) λ y left d q f. again (more (mark_again s is) (name_again t name) d) q f

pub left_again : {l : Left} {ts rest us : Tokens} → IsLeft l ts rest → Alike ts us → Again IsLeft left_aside l rest us
left_again (named {name = a} is path) (alike {b = b} s r) =
    and_then (fields_again {k = record { name = name_of b; fields = [] }} path r (same_left (name_of a) (name_of b) [] [] (named_again s is) refl)) λ y left d q e. again (named (name_again s is) d) q e

mutual
  unary_again : {x : Expr} {ts rest us : Tokens} → IsUnary x ts rest → Alike ts us → Again IsUnary expression_aside x rest us
  unary_again (negative is inner) (alike s r) = and_then (unary_again inner r) λ y left d q e. again (negative (mark_again s is) d) q (ap (minus nowhere) e)
  unary_again (numeral is) (alike s r) = again (numeral (number_again s is)) r refl
  unary_again (null_word is) (alike s r) = again (null_word (word_again s is)) r refl
  unary_again (input_call is before after) (alike s (alike t (alike u r))) = again (input_call (word_again s is) (mark_again t before) (mark_again u after)) r refl
  unary_again (variable left) r = and_then (left_again left r) λ y left d q e. again (variable d) q (ap value e)
  unary_again (in_parens before inner after) (alike s r) = and_close (sum_again inner r) λ y b left d t q e. again (in_parens (mark_again s before) d (mark_again t after)) q (ap (parens nowhere) e)

  factors_again : {a b x : Expr} {ts rest us : Tokens} → Factors a ts x rest → Alike ts us → expression_aside a ≡ expression_aside b → Again (λ y vs left. Factors b vs y left) expression_aside x rest us
  factors_again no_factor r e = again no_factor r e
  factors_again {b = b} (factor is unary path) (alike s r) e =
      and_then (unary_again unary r) λ y mid d q f. and_then (factors_again {b = times b y} path q (ap_two times e f)) λ z left d' q' g. again (factor (mark_again s is) d d') q' g

  term_again : {x : Expr} {ts rest us : Tokens} → IsTerm x ts rest → Alike ts us → Again IsTerm expression_aside x rest us
  term_again (product unary path) r =
      and_then (unary_again unary r) λ y mid d q f. and_then (factors_again {b = y} path q f) λ z left d' q' g. again (product d d') q' g

  terms_again : {a b x : Expr} {ts rest us : Tokens} → Terms a ts x rest → Alike ts us → expression_aside a ≡ expression_aside b → Again (λ y vs left. Terms b vs y left) expression_aside x rest us
  terms_again no_term r e = again no_term r e
  terms_again {b = b} (added is term path) (alike s r) e =
      and_then (term_again term r) λ y mid d q f. and_then (terms_again {b = plus b y} path q (ap_two plus e f)) λ z left d' q' g. again (added (mark_again s is) d d') q' g
  terms_again {b = b} (taken is term path) (alike s r) e =
      and_then (term_again term r) λ y mid d q f. and_then (terms_again {b = difference b y} path q (ap_two difference e f)) λ z left d' q' g. again (taken (mark_again s is) d d') q' g

  pub sum_again : {x : Expr} {ts rest us : Tokens} → IsSum x ts rest → Alike ts us → Again IsSum expression_aside x rest us
  sum_again (sum_of term path) r =
      and_then (term_again term r) λ y mid d q f. and_then (terms_again {b = y} path q f) λ z left d' q' g. again (sum_of d d') q' g
