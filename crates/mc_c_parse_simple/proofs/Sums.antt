-- With which tokens an expression begins.
use Rattle.std.proofs.Common.{◌≡◌, ℕ, List, ◌∷◌, ◌⊎◌, inl, inr, refl, codes}
use native.Mathlib.Omega.{arith}
use Rattle.mc_base.specs.declared.text.token.Token.{Token}
use Rattle.mc_c_syntax.specs.Ast.Trees.{Expr}
use Rattle.mc_c_syntax.specs.Ast.Names.{Tokens, IsMark, IsWord, IsName, IsNumber}
use Rattle.mc_c_syntax.specs.Ast.Grammar.{named, IsUnary, negative, numeral, null_word, input_call, variable, in_parens, product, IsSum, sum_of}
use Rattle.mc_c_syntax.specs.Ast.Readers.{IsStuckAt}
use Rattle.mc_c_parse_simple.specs.Calls.{Sums}
use Rattle.mc_c_parse_simple.proofs.Tokens.{mark_no_word, mark_no_name, name_no_word}

-- an expression can begin with this token
pub data Begins (token : Token) : Type 0 where
  with_minus : IsMark (codes "-") token → Begins token
  with_number : {n : ℕ} → IsNumber token n → Begins token
  with_null : IsWord (codes "NULL") token → Begins token
  with_input : IsWord (codes "input") token → Begins token
  with_name : IsName token → Begins token
  with_parens : IsMark (codes "(") token → Begins token

pub unary_begins : {e : Expr} {token : Token} {tokens rest : Tokens} → IsUnary e (token ∷ tokens) rest → Begins token
unary_begins (negative m u) = with_minus m
unary_begins (numeral n) = with_number n
unary_begins (null_word w) = with_null w
unary_begins (input_call w b a) = with_input w
unary_begins (variable (named n f)) = with_name n
unary_begins (in_parens b s a) = with_parens b

pub sum_begins : {e : Expr} {token : Token} {tokens rest : Tokens} → IsSum e (token ∷ tokens) rest → Begins token
sum_begins (sum_of (product u f) t) = unary_begins u

pub close_begins_none : {token : Token} → IsMark (codes ")") token → ¬ Begins token
close_begins_none is (with_minus m) = grind arith
close_begins_none is (with_number n) = grind arith
close_begins_none is (with_null w) = mark_no_word is w
close_begins_none is (with_input w) = mark_no_word is w
close_begins_none is (with_name n) = mark_no_name is n
close_begins_none is (with_parens p) = grind arith

pub star_begins_none : {token : Token} → IsMark (codes "*") token → ¬ Begins token
star_begins_none is (with_minus m) = grind arith
star_begins_none is (with_number n) = grind arith
star_begins_none is (with_null w) = mark_no_word is w
star_begins_none is (with_input w) = mark_no_word is w
star_begins_none is (with_name n) = mark_no_name is n
star_begins_none is (with_parens p) = grind arith

-- `int`, `struct` and `malloc` begin none
pub word_begins_none : {w : List ℕ} {token : Token} → IsWord w token → (w ≡ codes "int") ⊎ ((w ≡ codes "struct") ⊎ (w ≡ codes "malloc")) → ¬ Begins token
word_begins_none is which (with_minus m) = mark_no_word m is
word_begins_none is which (with_number n) = grind arith
word_begins_none is (inl e) (with_null w) = grind arith
word_begins_none is (inr (inl e)) (with_null w) = grind arith
word_begins_none is (inr (inr e)) (with_null w) = grind arith
word_begins_none is (inl e) (with_input w) = grind arith
word_begins_none is (inr (inl e)) (with_input w) = grind arith
word_begins_none is (inr (inr e)) (with_input w) = grind arith
word_begins_none is (inl e) (with_name n) = name_no_word n is (rw e refl)
word_begins_none is (inr (inl e)) (with_name n) = name_no_word n is (rw e refl)
word_begins_none is (inr (inr e)) (with_name n) = name_no_word n is (rw e refl)
word_begins_none is which (with_parens p) = mark_no_word p is

pub sums_stuck : {token : Token} → ¬ Begins token → IsStuckAt Sums token
sums_stuck none tokens rest e s = none (sum_begins s)
