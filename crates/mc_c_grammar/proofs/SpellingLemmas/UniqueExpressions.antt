-- An expression is spelled once.
use Rattle.std.proofs.Common.{◌≡◌, ℕ, List, [], ◌∷◌, refl, ap, subst}
use Rattle.std.specs.Prelude.{codes}
use native.Mathlib.Omega.{arith}
use Rattle.mc_base.specs.declared.text.place.Place.{Place}
use Rattle.mc_base.specs.declared.text.token.Token.{Token}
use Rattle.mc_c_syntax.specs.Ast.Trees.{Left, Expr, number, value, minus, parens, times, plus, difference}
use Rattle.mc_c_syntax.specs.Ast.Names.{Tokens, IsMark, is_in}
use Rattle.mc_c_syntax.specs.Ast.Grammar.{Fields, none, more, IsLeft, named, IsUnary, negative, numeral, null_word, input_call, variable, in_parens, Factors, no_factor, factor, IsTerm, product, Terms, no_term, added, taken, IsSum, sum_of}
use Rattle.mc_c_grammar.proofs.SpellingLemmas.Agree.{Begins, Agree, same, early, late, agree_then, wider, conflict}
use Rattle.mc_c_syntax.proofs.AstLemmas.Numbers.{one_number}

abbrev pub unary_marks : List (List ℕ)
unary_marks = codes "->" ∷ []

abbrev pub term_marks : List (List ℕ)
term_marks = codes "*" ∷ unary_marks

abbrev pub sum_marks : List (List ℕ)
sum_marks = codes "+" ∷ codes "-" ∷ term_marks

pub one_path : {l x y : Left} {ts r s : Tokens} → Fields l ts x r → Fields l ts y s → Agree unary_marks x r y s
one_path none none = same
one_path none (more {arrow = arrow} is name path) = early (ap (is_in unary_marks) is.text)
one_path (more is name path) none = late (ap (is_in unary_marks) is.text)
one_path (more is name path) (more is' name' path') = one_path path path'

pub one_left : {x y : Left} {ts r s : Tokens} → IsLeft x ts r → IsLeft y ts s → Agree unary_marks x r y s
one_left (named is path) (named is' path') = one_path path path'

as_value : {x y : Left} {r s : Tokens} → Agree unary_marks x r y s → Agree unary_marks (value x) r (value y) s
as_value same = same
as_value (early b) = early b
as_value (late b) = late b

behind_minus : (place : Place) {x y : Expr} {r s : Tokens} → Agree unary_marks x r y s → Agree unary_marks (minus place x) r (minus place y) s
behind_minus place same = same
behind_minus place (early b) = early b
behind_minus place (late b) = late b

number_same : (place : Place) (tokens : Tokens) {m n : ℕ} → m ≡ n → Agree unary_marks (number m place) tokens (number n place) tokens
number_same place tokens {m} e = subst (λ k. Agree unary_marks (number m place) tokens (number k place) tokens) e same

behind_parens : (place : Place) {x y : Expr} {a b : Token} {r s : Tokens} → Agree sum_marks x (a ∷ r) y (b ∷ s) → IsMark (codes ")") a → IsMark (codes ")") b → Agree unary_marks (parens place x) r (parens place y) s
behind_parens place same is is' = same
behind_parens place {a = a} (early so) is is' = absurd (conflict sum_marks a refl is.text so)
behind_parens place {b = b} (late so) is is' = absurd (conflict sum_marks b refl is'.text so)

-- what a chain may be after, where it could go on with one of these marks
pub stays_term : {a e : Expr} {ts r : Tokens} → Factors a ts e r → Begins unary_marks ts → Begins term_marks r
stays_term {ts = ts} no_factor b = wider (codes "*") unary_marks ts b
stays_term (factor {star = star} is unary rest) b = absurd (conflict unary_marks star refl is.text b)

pub stays_sum : {a e : Expr} {ts r : Tokens} → Terms a ts e r → Begins term_marks ts → Begins sum_marks r
stays_sum {ts = ts} no_term b = wider (codes "+") (codes "-" ∷ term_marks) ts (wider (codes "-") term_marks ts b)
stays_sum (added {mark = mark} is term rest) b = absurd (conflict term_marks mark refl is.text b)
stays_sum (taken {mark = mark} is term rest) b = absurd (conflict term_marks mark refl is.text b)

mutual
  pub one_unary : {x y : Expr} {ts r s : Tokens} → IsUnary x ts r → IsUnary y ts s → Agree unary_marks x r y s
  one_unary (negative {e = e} {token = token} is inner) (negative is' inner') = behind_minus token.place (one_unary inner inner')
  one_unary (negative is inner) (numeral is') = absurd (grind arith)
  one_unary (negative is inner) (null_word is') = absurd (grind arith)
  one_unary (negative is inner) (input_call is' before' after') = absurd (grind arith)
  one_unary (negative is inner) (variable (named is' path')) = absurd (grind arith)
  one_unary (negative is inner) (in_parens before' inner' after') = absurd (grind arith)
  one_unary (numeral is) (negative is' inner') = absurd (grind arith)
  one_unary (numeral {token = token} {tokens = tokens} is) (numeral is') = number_same token.place tokens (one_number is is')
  one_unary (numeral is) (null_word is') = absurd (grind arith)
  one_unary (numeral is) (input_call is' before' after') = absurd (grind arith)
  one_unary (numeral is) (variable (named is' path')) = absurd (grind arith)
  one_unary (numeral is) (in_parens before' inner' after') = absurd (grind arith)
  one_unary (null_word is) (negative is' inner') = absurd (grind arith)
  one_unary (null_word is) (numeral is') = absurd (grind arith)
  one_unary (null_word is) (null_word is') = same
  one_unary (null_word is) (input_call is' before' after') = absurd (grind arith)
  one_unary (null_word is) (variable (named is' path')) = absurd (grind arith)
  one_unary (null_word is) (in_parens before' inner' after') = absurd (grind arith)
  one_unary (input_call is before after) (negative is' inner') = absurd (grind arith)
  one_unary (input_call is before after) (numeral is') = absurd (grind arith)
  one_unary (input_call is before after) (null_word is') = absurd (grind arith)
  one_unary (input_call is before after) (input_call is' before' after') = same
  one_unary (input_call is before after) (variable (named is' path')) = absurd (grind arith)
  one_unary (input_call is before after) (in_parens before' inner' after') = absurd (grind arith)
  one_unary (variable (named is path)) (negative is' inner') = absurd (grind arith)
  one_unary (variable (named is path)) (numeral is') = absurd (grind arith)
  one_unary (variable (named is path)) (null_word is') = absurd (grind arith)
  one_unary (variable (named is path)) (input_call is' before' after') = absurd (grind arith)
  one_unary (variable left) (variable left') = as_value (one_left left left')
  one_unary (variable (named is path)) (in_parens before' inner' after') = absurd (grind arith)
  one_unary (in_parens before inner after) (negative is' inner') = absurd (grind arith)
  one_unary (in_parens before inner after) (numeral is') = absurd (grind arith)
  one_unary (in_parens before inner after) (null_word is') = absurd (grind arith)
  one_unary (in_parens before inner after) (input_call is' before' after') = absurd (grind arith)
  one_unary (in_parens before inner after) (variable (named is' path')) = absurd (grind arith)
  one_unary (in_parens {before = before} is inner after) (in_parens is' inner' after') = behind_parens before.place (one_sum inner inner') after after'

  pub one_factors : {a x y : Expr} {ts r s : Tokens} → Factors a ts x r → Factors a ts y s → Agree term_marks x r y s
  one_factors no_factor no_factor = same
  one_factors no_factor (factor is unary path) = early (ap (is_in term_marks) is.text)
  one_factors (factor is unary path) no_factor = late (ap (is_in term_marks) is.text)
  one_factors {a = a} {y = y} {s = s} (factor is unary path) (factor is' unary' path') =
      agree_then (λ b mid. Factors (times a b) mid y s) (one_unary unary unary') (λ q. one_factors path q) (λ begins. early (stays_term path begins)) (λ begins q. late (stays_term q begins)) path'

  pub one_term : {x y : Expr} {ts r s : Tokens} → IsTerm x ts r → IsTerm y ts s → Agree term_marks x r y s
  one_term {y = y} {s = s} (product unary path) (product unary' path') =
      agree_then (λ a mid. Factors a mid y s) (one_unary unary unary') (λ q. one_factors path q) (λ begins. early (stays_term path begins)) (λ begins q. late (stays_term q begins)) path'

  pub one_terms : {a x y : Expr} {ts r s : Tokens} → Terms a ts x r → Terms a ts y s → Agree sum_marks x r y s
  one_terms no_term no_term = same
  one_terms no_term (added is term path) = early (ap (is_in sum_marks) is.text)
  one_terms no_term (taken is term path) = early (ap (is_in sum_marks) is.text)
  one_terms (added is term path) no_term = late (ap (is_in sum_marks) is.text)
  one_terms (taken is term path) no_term = late (ap (is_in sum_marks) is.text)
  one_terms (added is term path) (taken is' term' path') = absurd (grind arith)
  one_terms (taken is term path) (added is' term' path') = absurd (grind arith)
  one_terms {a = a} {y = y} {s = s} (added is term path) (added is' term' path') =
      agree_then (λ b mid. Terms (plus a b) mid y s) (one_term term term') (λ q. one_terms path q) (λ begins. early (stays_sum path begins)) (λ begins q. late (stays_sum q begins)) path'
  one_terms {a = a} {y = y} {s = s} (taken is term path) (taken is' term' path') =
      agree_then (λ b mid. Terms (difference a b) mid y s) (one_term term term') (λ q. one_terms path q) (λ begins. early (stays_sum path begins)) (λ begins q. late (stays_sum q begins)) path'

  pub one_sum : {x y : Expr} {ts r s : Tokens} → IsSum x ts r → IsSum y ts s → Agree sum_marks x r y s
  one_sum {y = y} {s = s} (sum_of term path) (sum_of term' path') =
      agree_then (λ a mid. Terms a mid y s) (one_term term term') (λ q. one_terms path q) (λ begins. early (stays_sum path begins)) (λ begins q. late (stays_sum q begins)) path'
