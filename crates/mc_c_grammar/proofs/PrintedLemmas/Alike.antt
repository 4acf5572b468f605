-- Tokens that are the same to the grammar, wherever they stand.
use Rattle.std.proofs.Common.{◌≡◌, ℕ, List, [], ◌∷◌, ◌++◌, ap, sym, ◌∙◌, subst, map}
use Rattle.std.proofs.lemmas.List.{map-append}
use native.Mathlib.Omega.{arith}
use Rattle.mc_base.specs.declared.text.token.Token.{Token}
use Rattle.mc_base.specs.declared.text.token.TokenKind.TheVariants as TokenKind
use Rattle.mc_base.specs.Text.Numbers.{Spells}
use Rattle.mc_c_syntax.specs.declared.ast.trees.Name.{Name}
use Rattle.mc_c_syntax.specs.Ast.Names.{Tokens, IsMark, IsWord, IsName, IsNumber, IsAlias, IsNoElse, is_reserved, is_in, name_of}
use Rattle.mc_c_syntax.proofs.AstLemmas.Numbers.{one_number}
use Rattle.mc_c_grammar.specs.Printed.Aside.{nowhere, name_aside}

-- two tokens are the same: one kind and text, one number, or both the end
pub data AreSame (a b : Token) : Type 0 where
  same_text : a.kind ≡ b.kind → a.text ≡ b.text → AreSame a b
  same_number : {n : ℕ} → IsNumber a n → IsNumber b n → AreSame a b
  same_end : a.kind ≡ TokenKind.End → b.kind ≡ TokenKind.End → AreSame a b

-- one by one
pub data Alike : Tokens → Tokens → Type 0 where
  none_alike : Alike [] []
  alike : {a b : Token} {ts us : Tokens} → AreSame a b → Alike ts us → Alike (a ∷ ts) (b ∷ us)

-- the tokens too begin with such a tree, the same but for its places, and go on alike
pub data Again {X : Type 0} (Is : X → Tokens → Tokens → Type 0) (aside : X → X) (x : X) (rest us : Tokens) : Type 0 where
  again : {y : X} {left : Tokens} → Is y us left → Alike rest left → aside x ≡ aside y → Again Is aside x rest us

module _ {X R : Type 0} {Is : X → Tokens → Tokens → Type 0} {aside : X → X} {x : X} {us : Tokens} where
  pub and_then : {rest : Tokens} → Again Is aside x rest us → ((y : X) (left : Tokens) → Is y us left → Alike rest left → aside x ≡ aside y → R) → R
  and_then (again {y = y} {left = left} is r e) go = go y left is r e

  -- the same where a token closes the tree
  pub and_close : {a : Token} {rest : Tokens} → Again Is aside x (a ∷ rest) us → ((y : X) (b : Token) (left : Tokens) → Is y us (b ∷ left) → AreSame a b → Alike rest left → aside x ≡ aside y → R) → R
  and_close (again {y = y} is (alike {b = b} {us = left} s r) e) go = go y b left is s r e

  -- and where two do
  pub and_end : {a c : Token} {rest : Tokens} → Again Is aside x (a ∷ c ∷ rest) us → ((y : X) (b d : Token) (left : Tokens) → Is y us (b ∷ d ∷ left) → AreSame a b → AreSame c d → Alike rest left → aside x ≡ aside y → R) → R
  and_end (again {y = y} is (alike {b = b} s (alike {b = d} {us = left} t r)) e) go = go y b d left is s t r e

pub mark_again : {m : List ℕ} {a b : Token} → AreSame a b → IsMark m a → IsMark m b
mark_again (same_text k t) is = record { kind = sym k ∙ is.kind; text = sym t ∙ is.text }
mark_again (same_number p q) is = absurd (grind arith)
mark_again (same_end p q) is = absurd (grind arith)

pub word_again : {m : List ℕ} {a b : Token} → AreSame a b → IsWord m a → IsWord m b
word_again (same_text k t) is = record { kind = sym k ∙ is.kind; text = sym t ∙ is.text }
word_again (same_number p q) is = absurd (grind arith)
word_again (same_end p q) is = absurd (grind arith)

pub name_again : {a b : Token} → AreSame a b → IsName a → IsName b
name_again (same_text k t) is = record { kind = sym k ∙ is.kind; free = ap is_reserved (sym t) ∙ is.free }
name_again (same_number p q) is = absurd (grind arith)
name_again (same_end p q) is = absurd (grind arith)

pub alias_again : {aliases : List (List ℕ)} {a b : Token} → AreSame a b → IsAlias aliases a → IsAlias aliases b
alias_again {aliases = aliases} (same_text k t) is = record { name = name_again (same_text k t) is.name; known = ap (is_in aliases) (sym t) ∙ is.known }
alias_again (same_number p q) is = absurd (let n = is.name in grind arith)
alias_again (same_end p q) is = absurd (let n = is.name in grind arith)

pub number_again : {n : ℕ} {a b : Token} → AreSame a b → IsNumber a n → IsNumber b n
number_again {n = n} (same_text k t) is = record { kind = sym k ∙ is.kind; spelled = subst (λ word. Spells word n) t is.spelled; small = is.small }
number_again {b = b} (same_number p q) is = subst (λ k. IsNumber b k) (one_number p is) q
number_again (same_end p q) is = absurd (grind arith)

-- a name has its text again
pub text_again : {a b : Token} → AreSame a b → IsName a → a.text ≡ b.text
text_again (same_text k t) is = t
text_again (same_number p q) is = absurd (grind arith)
text_again (same_end p q) is = absurd (grind arith)

pub named_again : {a b : Token} → AreSame a b → IsName a → name_aside (name_of a) ≡ name_aside (name_of b)
named_again s is = ap {B = Name} (λ text. record { text = text; place = nowhere }) (text_again s is)

same_back : {a b : Token} → AreSame a b → AreSame b a
same_back (same_text k t) = same_text (sym k) (sym t)
same_back (same_number p q) = same_number q p
same_back (same_end p q) = same_end q p

pub no_else_again : {rest left : Tokens} → Alike rest left → IsNoElse rest → IsNoElse left
no_else_again none_alike none = none
no_else_again (alike s r) none = λ is. none (word_again (same_back s) is)

pub end_again : {a b : Token} → AreSame a b → a.kind ≡ TokenKind.End → b.kind ≡ TokenKind.End
end_again (same_text k t) is = sym k ∙ is
end_again (same_number p q) is = absurd (grind arith)
end_again (same_end p q) is = q

pub ap_two : {A B C : Type 0} (f : A → B → C) {a a' : A} {b b' : B} → a ≡ a' → b ≡ b' → f a b ≡ f a' b'
ap_two f {a' = a'} {b = b} p q = ap (λ x. f x b) p ∙ ap (f a') q

pub ap_three : {A B C D : Type 0} (f : A → B → C → D) {a a' : A} {b b' : B} {c c' : C} → a ≡ a' → b ≡ b' → c ≡ c' → f a b c ≡ f a' b' c'
ap_three f {a' = a'} {b = b} {c = c} p q r = ap (λ x. f x b c) p ∙ ap_two (f a') q r

-- one more after lists that say the same
pub one_more : {X : Type 0} (f : X → X) (x y : X) (xs ys : List X) → map f xs ≡ map f ys → f x ≡ f y → map f (xs ++ x ∷ []) ≡ map f (ys ++ y ∷ [])
one_more f x y xs ys p q = map-append f xs (x ∷ []) ∙ ap_two (λ l m. l ++ m ∷ []) p q ∙ sym (map-append f ys (y ∷ []))
