-- A condition is spelled once.
use Rattle.std.proofs.Common.{◌≡◌, ℕ, List, ◌∷◌, true, false, refl, ap, sym, ◌∙◌, subst}
use Rattle.std.specs.Prelude.{codes}
use native.Mathlib.Omega.{arith}
use Rattle.mc_base.specs.declared.text.place.Place.{Place}
use Rattle.mc_base.specs.declared.text.token.Token.{Token}
use Rattle.mc_c_syntax.specs.declared.ast.trees.Comparison.{Comparison}
use Rattle.mc_c_syntax.specs.Ast.Trees.{Left, Expr, value, Cond, plain, compare, negation, enclosed, both, either}
use Rattle.mc_c_syntax.specs.Ast.Names.{Tokens, IsMark, is_in, mark_of}
use Rattle.mc_c_syntax.specs.Ast.Grammar.{named, negative, numeral, null_word, input_call, variable, in_parens, product, IsSum, sum_of, IsProper, IsBang, bang_bang, bang_variable, bang_input, bang_parens, IsOne, plain_one, comparison, negated, condition_parens, Boths, no_both, one_more, IsBoth, all_of, Eithers, no_either, or_else, IsCondition, any_of}
use Rattle.mc_c_grammar.proofs.SpellingLemmas.Agree.{Begins, Agree, same, early, late, agree_then, wider, conflict}
use Rattle.mc_c_grammar.proofs.SpellingLemmas.UniqueExpressions.{unary_marks, term_marks, sum_marks, one_left, one_sum}

abbrev pub one_marks : List (List ℕ)
one_marks = codes "==" ∷ codes "!=" ∷ codes "<" ∷ codes "<=" ∷ codes ">" ∷ codes ">=" ∷ sum_marks

abbrev pub both_marks : List (List ℕ)
both_marks = codes "&&" ∷ one_marks

abbrev pub condition_marks : List (List ℕ)
condition_marks = codes "||" ∷ both_marks

pub sum_to_one : (ts : Tokens) → Begins sum_marks ts → Begins one_marks ts
sum_to_one ts b =
    wider (codes "==") (codes "!=" ∷ codes "<" ∷ codes "<=" ∷ codes ">" ∷ codes ">=" ∷ sum_marks) ts
    (wider (codes "!=") (codes "<" ∷ codes "<=" ∷ codes ">" ∷ codes ">=" ∷ sum_marks) ts
    (wider (codes "<") (codes "<=" ∷ codes ">" ∷ codes ">=" ∷ sum_marks) ts
    (wider (codes "<=") (codes ">" ∷ codes ">=" ∷ sum_marks) ts
    (wider (codes ">") (codes ">=" ∷ sum_marks) ts
    (wider (codes ">=") sum_marks ts b)))))

pub unary_to_sum : (ts : Tokens) → Begins unary_marks ts → Begins sum_marks ts
unary_to_sum ts b = wider (codes "+") (codes "-" ∷ term_marks) ts (wider (codes "-") term_marks ts (wider (codes "*") unary_marks ts b))

-- no comparison goes on with an expression
pub compares : (c : Comparison) → is_in sum_marks (mark_of c) ≡ false
compares Comparison.Equal = refl
compares Comparison.Unequal = refl
compares Comparison.Below = refl
compares Comparison.AtMost = refl
compares Comparison.Above = refl
compares Comparison.AtLeast = refl

pub compares_one : (c : Comparison) → is_in one_marks (mark_of c) ≡ true
compares_one Comparison.Equal = refl
compares_one Comparison.Unequal = refl
compares_one Comparison.Below = refl
compares_one Comparison.AtMost = refl
compares_one Comparison.Above = refl
compares_one Comparison.AtLeast = refl

-- a comparison is known by its mark
pub one_comparison : (c d : Comparison) → mark_of c ≡ mark_of d → c ≡ d
one_comparison Comparison.Equal Comparison.Equal e = refl
one_comparison Comparison.Equal Comparison.Unequal e = absurd (grind arith)
one_comparison Comparison.Equal Comparison.Below e = absurd (grind arith)
one_comparison Comparison.Equal Comparison.AtMost e = absurd (grind arith)
one_comparison Comparison.Equal Comparison.Above e = absurd (grind arith)
one_comparison Comparison.Equal Comparison.AtLeast e = absurd (grind arith)
one_comparison Comparison.Unequal Comparison.Equal e = absurd (grind arith)
one_comparison Comparison.Unequal Comparison.Unequal e = refl
one_comparison Comparison.Unequal Comparison.Below e = absurd (grind arith)
one_comparison Comparison.Unequal Comparison.AtMost e = absurd (grind arith)
one_comparison Comparison.Unequal Comparison.Above e = absurd (grind arith)
one_comparison Comparison.Unequal Comparison.AtLeast e = absurd (grind arith)
one_comparison Comparison.Below Comparison.Equal e = absurd (grind arith)
one_comparison Comparison.Below Comparison.Unequal e = absurd (grind arith)
one_comparison Comparison.Below Comparison.Below e = refl
one_comparison Comparison.Below Comparison.AtMost e = absurd (grind arith)
one_comparison Comparison.Below Comparison.Above e = absurd (grind arith)
one_comparison Comparison.Below Comparison.AtLeast e = absurd (grind arith)
one_comparison Comparison.AtMost Comparison.Equal e = absurd (grind arith)
one_comparison Comparison.AtMost Comparison.Unequal e = absurd (grind arith)
one_comparison Comparison.AtMost Comparison.Below e = absurd (grind arith)
one_comparison Comparison.AtMost Comparison.AtMost e = refl
one_comparison Comparison.AtMost Comparison.Above e = absurd (grind arith)
one_comparison Comparison.AtMost Comparison.AtLeast e = absurd (grind arith)
one_comparison Comparison.Above Comparison.Equal e = absurd (grind arith)
one_comparison Comparison.Above Comparison.Unequal e = absurd (grind arith)
one_comparison Comparison.Above Comparison.Below e = absurd (grind arith)
one_comparison Comparison.Above Comparison.AtMost e = absurd (grind arith)
one_comparison Comparison.Above Comparison.Above e = refl
one_comparison Comparison.Above Comparison.AtLeast e = absurd (grind arith)
one_comparison Comparison.AtLeast Comparison.Equal e = absurd (grind arith)
one_comparison Comparison.AtLeast Comparison.Unequal e = absurd (grind arith)
one_comparison Comparison.AtLeast Comparison.Below e = absurd (grind arith)
one_comparison Comparison.AtLeast Comparison.AtMost e = absurd (grind arith)
one_comparison Comparison.AtLeast Comparison.Above e = absurd (grind arith)
one_comparison Comparison.AtLeast Comparison.AtLeast e = refl

not_parens : (c : Comparison) → mark_of c ≡ codes ")" → ⊥
not_parens Comparison.Equal e = absurd (grind arith)
not_parens Comparison.Unequal e = absurd (grind arith)
not_parens Comparison.Below e = absurd (grind arith)
not_parens Comparison.AtMost e = absurd (grind arith)
not_parens Comparison.Above e = absurd (grind arith)
not_parens Comparison.AtLeast e = absurd (grind arith)

-- an expression does not begin with `!`
pub no_bang : {e : Expr} {t : Token} {ts r : Tokens} → IsSum e (t ∷ ts) r → IsMark (codes "!") t → ⊥
no_bang (sum_of (product (negative is inner) path) terms) bang = absurd (grind arith)
no_bang (sum_of (product (numeral is) path) terms) bang = absurd (grind arith)
no_bang (sum_of (product (null_word is) path) terms) bang = absurd (grind arith)
no_bang (sum_of (product (input_call is before after) path) terms) bang = absurd (grind arith)
no_bang (sum_of (product (variable (named is more)) path) terms) bang = absurd (grind arith)
no_bang (sum_of (product (in_parens is inner after) path) terms) bang = absurd (grind arith)

bang_no : {e : Expr} {c : Cond} {ts r s : Tokens} → IsSum e ts r → IsBang c ts s → ⊥
bang_no sum (bang_bang is inner) = no_bang sum is
bang_no sum (bang_variable is left) = no_bang sum is
bang_no sum (bang_input is word before after) = no_bang sum is
bang_no sum (bang_parens is before inner after) = no_bang sum is

no_comparison : (c : Comparison) {x y : Expr} {a m : Token} {r s : Tokens} → Agree sum_marks x (a ∷ r) y (m ∷ s) → IsMark (codes ")") a → IsMark (mark_of c) m → ⊥
no_comparison c same is mark = not_parens c (sym mark.text ∙ is.text)
no_comparison c {a = a} (early so) is mark = conflict sum_marks a refl is.text so
no_comparison c {m = m} (late so) is mark = conflict sum_marks m (compares c) mark.text so

plain_ends : {x y : Expr} {d c : Cond} {a b : Token} {r m n s : Tokens} → Agree sum_marks x (a ∷ r) y m → IsMark (codes ")") a → Boths (plain y) m d n → Eithers d n c (b ∷ s) → IsMark (codes ")") b → c ≡ plain x
plain_ends same is no_both no_either is' = refl
plain_ends same is no_both (or_else mark other path) is' = absurd (grind arith)
plain_ends same is (one_more mark one path) eithers is' = absurd (grind arith)
plain_ends {a = a} (early so) is boths eithers is' = absurd (conflict sum_marks a refl is.text so)
plain_ends (late so) is no_both no_either is' = absurd (late_no _ so is')
  where
    late_no : (b : Token) → is_in sum_marks b.text ≡ true → IsMark (codes ")") b → ⊥
    late_no b so is' = conflict sum_marks b refl is'.text so
plain_ends (late so) is no_both (or_else {mark = mark} is_or other path) is' = absurd (conflict sum_marks mark refl is_or.text so)
plain_ends (late so) is (one_more {mark = mark} is_and one path) eithers is' = absurd (conflict sum_marks mark refl is_and.text so)

pub bang_first : {c : Cond} {t : Token} {ts r : Tokens} → IsBang c (t ∷ ts) r → IsMark (codes "!") t
bang_first (bang_bang is inner) = is
bang_first (bang_variable is left) = is
bang_first (bang_input is word before after) = is
bang_first (bang_parens is before inner after) = is

-- a condition up to a `)` that is an expression up to a `)` is this expression
mutual
  pub only_plain : {e : Expr} {c : Cond} {ts r s : Tokens} {a b : Token} → IsSum e ts (a ∷ r) → IsMark (codes ")") a → IsCondition c ts (b ∷ s) → IsMark (codes ")") b → c ≡ plain e
  only_plain sum is (any_of (all_of one boths) eithers) is' = only_one sum is one boths eithers is'

  only_one : {e : Expr} {o d c : Cond} {ts r m n s : Tokens} {a b : Token} → IsSum e ts (a ∷ r) → IsMark (codes ")") a → IsOne o ts m → Boths o m d n → Eithers d n c (b ∷ s) → IsMark (codes ")") b → c ≡ plain e
  only_one sum is (plain_one sum') boths eithers is' = plain_ends (one_sum sum sum') is boths eithers is'
  only_one sum is (comparison {c = c} sum' mark sum2) boths eithers is' = absurd (no_comparison c (one_sum sum sum') is mark)
  only_one sum is (negated bang) boths eithers is' = absurd (bang_no sum bang)
  only_one (sum_of (product (in_parens before inner after) path) terms) is (condition_parens before' inner' after' proper) boths eithers is' = absurd (subst IsProper (only_plain inner after inner' after') proper)
  only_one (sum_of (product (negative mark inner) path) terms) is (condition_parens before' inner' after' proper) boths eithers is' = absurd (grind arith)
  only_one (sum_of (product (numeral mark) path) terms) is (condition_parens before' inner' after' proper) boths eithers is' = absurd (grind arith)
  only_one (sum_of (product (null_word mark) path) terms) is (condition_parens before' inner' after' proper) boths eithers is' = absurd (grind arith)
  only_one (sum_of (product (input_call mark one two) path) terms) is (condition_parens before' inner' after' proper) boths eithers is' = absurd (grind arith)
  only_one (sum_of (product (variable (named mark more)) path) terms) is (condition_parens before' inner' after' proper) boths eithers is' = absurd (grind arith)

behind_bang : (place : Place) {c d : Cond} {r s : Tokens} → Agree one_marks c r d s → Agree one_marks (negation place c) r (negation place d) s
behind_bang place same = same
behind_bang place (early b) = early b
behind_bang place (late b) = late b

bang_value : (place : Place) {x y : Left} {r s : Tokens} → Agree unary_marks x r y s → Agree one_marks (negation place (plain (value x))) r (negation place (plain (value y))) s
bang_value place same = same
bang_value place {r = r} (early b) = early (sum_to_one r (unary_to_sum r b))
bang_value place {s = s} (late b) = late (sum_to_one s (unary_to_sum s b))

enclosed_bang : (place inside : Place) {c d : Cond} {a b : Token} {r s : Tokens} → Agree condition_marks c (a ∷ r) d (b ∷ s) → IsMark (codes ")") a → IsMark (codes ")") b → Agree one_marks (negation place (enclosed inside c)) r (negation place (enclosed inside d)) s
enclosed_bang place inside same is is' = same
enclosed_bang place inside {a = a} (early so) is is' = absurd (conflict condition_marks a refl is.text so)
enclosed_bang place inside {b = b} (late so) is is' = absurd (conflict condition_marks b refl is'.text so)

enclosed_one : (inside : Place) {c d : Cond} {a b : Token} {r s : Tokens} → Agree condition_marks c (a ∷ r) d (b ∷ s) → IsMark (codes ")") a → IsMark (codes ")") b → Agree one_marks (enclosed inside c) r (enclosed inside d) s
enclosed_one inside same is is' = same
enclosed_one inside {a = a} (early so) is is' = absurd (conflict condition_marks a refl is.text so)
enclosed_one inside {b = b} (late so) is is' = absurd (conflict condition_marks b refl is'.text so)

plain_both : {x y : Expr} {r s : Tokens} → Agree sum_marks x r y s → Agree one_marks (plain x) r (plain y) s
plain_both same = same
plain_both {r = r} (early b) = early (sum_to_one r b)
plain_both {s = s} (late b) = late (sum_to_one s b)

-- an expression read alone stops before the comparison
plain_first : (c : Comparison) {x y z : Expr} {m : Token} {r s t : Tokens} → Agree sum_marks x r y (m ∷ s) → IsMark (mark_of c) m → Agree one_marks (plain x) r (compare c y z) t
plain_first c {m = m} same is = early (ap (is_in one_marks) is.text ∙ compares_one c)
plain_first c {r = r} (early b) is = early (sum_to_one r b)
plain_first c {m = m} (late b) is = absurd (conflict sum_marks m (compares c) is.text b)

plain_second : (c : Comparison) {x y z : Expr} {m : Token} {r s t : Tokens} → Agree sum_marks x (m ∷ r) y s → IsMark (mark_of c) m → Agree one_marks (compare c x z) t (plain y) s
plain_second c {m = m} same is = late (ap (is_in one_marks) is.text ∙ compares_one c)
plain_second c {m = m} (early b) is = absurd (conflict sum_marks m (compares c) is.text b)
plain_second c {s = s} (late b) is = late (sum_to_one s b)

compare_ends : (c d : Comparison) (x : Expr) {u v : Expr} {r s : Tokens} → c ≡ d → Agree sum_marks u r v s → Agree one_marks (compare c x u) r (compare d x v) s
compare_ends c d x {u} {r = r} e same = subst (λ k. Agree one_marks (compare c x u) r (compare k x u) r) e same
compare_ends c d x {r = r} e (early b) = early (sum_to_one r b)
compare_ends c d x {s = s} e (late b) = late (sum_to_one s b)

compare_first : (c d : Comparison) {x y u v : Expr} {m n : Token} {a b r s : Tokens} → Agree sum_marks x (m ∷ a) y (n ∷ b) → IsMark (mark_of c) m → IsMark (mark_of d) n → IsSum u a r → IsSum v b s → Agree one_marks (compare c x u) r (compare d y v) s
compare_first c d {x = x} same is is' sum sum' = compare_ends c d x (one_comparison c d (sym is.text ∙ is'.text)) (one_sum sum sum')
compare_first c d {m = m} (early b) is is' sum sum' = absurd (conflict sum_marks m (compares c) is.text b)
compare_first c d {n = n} (late b) is is' sum sum' = absurd (conflict sum_marks n (compares d) is'.text b)

bang_parens_no : {c : Cond} {t : Token} {ts r : Tokens} → IsBang c (t ∷ ts) r → IsMark (codes "(") t → ⊥
bang_parens_no (bang_bang is inner) before = absurd (grind arith)
bang_parens_no (bang_variable is left) before = absurd (grind arith)
bang_parens_no (bang_input is word one two) before = absurd (grind arith)
bang_parens_no (bang_parens is one inner after) before = absurd (grind arith)

-- an expression that begins with `(` is no proper condition in parentheses
sum_no_parens : {e : Expr} {c : Cond} {t b : Token} {ts r s : Tokens} → IsSum e (t ∷ ts) r → IsMark (codes "(") t → IsCondition c ts (b ∷ s) → IsMark (codes ")") b → IsProper c → ⊥
sum_no_parens (sum_of (product (in_parens before inner after) path) terms) is inner' after' proper = subst IsProper (only_plain inner after inner' after') proper
sum_no_parens (sum_of (product (negative mark inner) path) terms) is inner' after' proper = absurd (grind arith)
sum_no_parens (sum_of (product (numeral mark) path) terms) is inner' after' proper = absurd (grind arith)
sum_no_parens (sum_of (product (null_word mark) path) terms) is inner' after' proper = absurd (grind arith)
sum_no_parens (sum_of (product (input_call mark one two) path) terms) is inner' after' proper = absurd (grind arith)
sum_no_parens (sum_of (product (variable (named mark more)) path) terms) is inner' after' proper = absurd (grind arith)

stays_both : {a c : Cond} {ts r : Tokens} → Boths a ts c r → Begins one_marks ts → Begins both_marks r
stays_both {ts = ts} no_both b = wider (codes "&&") one_marks ts b
stays_both (one_more {mark = mark} is one path) b = absurd (conflict one_marks mark refl is.text b)

stays_condition : {a c : Cond} {ts r : Tokens} → Eithers a ts c r → Begins both_marks ts → Begins condition_marks r
stays_condition {ts = ts} no_either b = wider (codes "||") both_marks ts b
stays_condition (or_else {mark = mark} is one path) b = absurd (conflict both_marks mark refl is.text b)

mutual
  pub one_bang : {x y : Cond} {ts r s : Tokens} → IsBang x ts r → IsBang y ts s → Agree one_marks x r y s
  one_bang (bang_bang {token = token} is inner) (bang_bang is' inner') = behind_bang token.place (one_bang inner inner')
  one_bang (bang_bang is (bang_bang bang a)) (bang_variable is' (named name more)) = absurd (grind arith)
  one_bang (bang_bang is (bang_variable bang a)) (bang_variable is' (named name more)) = absurd (grind arith)
  one_bang (bang_bang is (bang_input bang a b c)) (bang_variable is' (named name more)) = absurd (grind arith)
  one_bang (bang_bang is (bang_parens bang a b c)) (bang_variable is' (named name more)) = absurd (grind arith)
  one_bang (bang_bang is inner) (bang_input is' word before after) = absurd (let bang = bang_first inner in grind arith)
  one_bang (bang_bang is inner) (bang_parens is' before inside after) = absurd (bang_parens_no inner before)
  one_bang (bang_variable is (named name more)) (bang_bang is' inner) = absurd (let bang = bang_first inner in grind arith)
  one_bang (bang_variable {token = token} is left) (bang_variable is' left') = bang_value token.place (one_left left left')
  one_bang (bang_variable is (named name more)) (bang_input is' word before after) = absurd (grind arith)
  one_bang (bang_variable is (named name more)) (bang_parens is' before inside after) = absurd (grind arith)
  one_bang (bang_input is word before after) (bang_bang is' inner) = absurd (let bang = bang_first inner in grind arith)
  one_bang (bang_input is word before after) (bang_variable is' (named name more)) = absurd (grind arith)
  one_bang (bang_input is word before after) (bang_input is' word' before' after') = same
  one_bang (bang_input is word before after) (bang_parens is' before' inside after') = absurd (grind arith)
  one_bang (bang_parens is before inside after) (bang_bang is' inner) = absurd (bang_parens_no inner before)
  one_bang (bang_parens is before inside after) (bang_variable is' (named name more)) = absurd (grind arith)
  one_bang (bang_parens is before inside after) (bang_input is' word before' after') = absurd (grind arith)
  one_bang (bang_parens {token = token} {before = paren} is before inside after) (bang_parens is' before' inside' after') = enclosed_bang token.place paren.place (one_condition inside inside') after after'

  pub one_one : {x y : Cond} {ts r s : Tokens} → IsOne x ts r → IsOne y ts s → Agree one_marks x r y s
  one_one (plain_one sum) (plain_one sum') = plain_both (one_sum sum sum')
  one_one (plain_one sum) (comparison {c = c} sum' is sum2') = plain_first c (one_sum sum sum') is
  one_one (plain_one sum) (negated bang) = absurd (bang_no sum bang)
  one_one (plain_one sum) (condition_parens before inside after proper) = absurd (sum_no_parens sum before inside after proper)
  one_one (comparison {c = c} sum is sum2) (plain_one sum') = plain_second c (one_sum sum sum') is
  one_one (comparison {c = c} sum is sum2) (comparison {c = d} sum' is' sum2') = compare_first c d (one_sum sum sum') is is' sum2 sum2'
  one_one (comparison sum is sum2) (negated bang) = absurd (bang_no sum bang)
  one_one (comparison sum is sum2) (condition_parens before inside after proper) = absurd (sum_no_parens sum before inside after proper)
  one_one (negated bang) (plain_one sum) = absurd (bang_no sum bang)
  one_one (negated bang) (comparison sum is sum2) = absurd (bang_no sum bang)
  one_one (negated bang) (negated bang') = one_bang bang bang'
  one_one (negated bang) (condition_parens before inside after proper) = absurd (bang_parens_no bang before)
  one_one (condition_parens before inside after proper) (plain_one sum) = absurd (sum_no_parens sum before inside after proper)
  one_one (condition_parens before inside after proper) (comparison sum is sum2) = absurd (sum_no_parens sum before inside after proper)
  one_one (condition_parens before inside after proper) (negated bang) = absurd (bang_parens_no bang before)
  one_one (condition_parens {before = paren} before inside after proper) (condition_parens before' inside' after' proper') = enclosed_one paren.place (one_condition inside inside') after after'

  pub one_boths : {a x y : Cond} {ts r s : Tokens} → Boths a ts x r → Boths a ts y s → Agree both_marks x r y s
  one_boths no_both no_both = same
  one_boths no_both (one_more is one path) = early (ap (is_in both_marks) is.text)
  one_boths (one_more is one path) no_both = late (ap (is_in both_marks) is.text)
  one_boths {a = a} {y = y} {s = s} (one_more is one path) (one_more is' one' path') =
      agree_then (λ b mid. Boths (both a b) mid y s) (one_one one one') (λ q. one_boths path q) (λ begins. early (stays_both path begins)) (λ begins q. late (stays_both q begins)) path'

  pub one_both : {x y : Cond} {ts r s : Tokens} → IsBoth x ts r → IsBoth y ts s → Agree both_marks x r y s
  one_both {y = y} {s = s} (all_of one path) (all_of one' path') =
      agree_then (λ a mid. Boths a mid y s) (one_one one one') (λ q. one_boths path q) (λ begins. early (stays_both path begins)) (λ begins q. late (stays_both q begins)) path'

  pub one_eithers : {a x y : Cond} {ts r s : Tokens} → Eithers a ts x r → Eithers a ts y s → Agree condition_marks x r y s
  one_eithers no_either no_either = same
  one_eithers no_either (or_else is one path) = early (ap (is_in condition_marks) is.text)
  one_eithers (or_else is one path) no_either = late (ap (is_in condition_marks) is.text)
  one_eithers {a = a} {y = y} {s = s} (or_else is one path) (or_else is' one' path') =
      agree_then (λ b mid. Eithers (either a b) mid y s) (one_both one one') (λ q. one_eithers path q) (λ begins. early (stays_condition path begins)) (λ begins q. late (stays_condition q begins)) path'

  pub one_condition : {x y : Cond} {ts r s : Tokens} → IsCondition x ts r → IsCondition y ts s → Agree condition_marks x r y s
  one_condition {y = y} {s = s} (any_of one path) (any_of one' path') =
      agree_then (λ a mid. Eithers a mid y s) (one_both one one') (λ q. one_eithers path q) (λ begins. early (stays_condition path begins)) (λ begins q. late (stays_condition q begins)) path'
