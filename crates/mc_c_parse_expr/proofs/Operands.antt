-- How operands begin.
use Rattle.std.proofs.Common.{◌≡◌, ℕ, List, [], ◌∷◌, refl, sym, subst}
use Rattle.std.specs.Prelude.{codes}
use Rattle.mc_base.specs.declared.text.place.Place.{Place}
use Rattle.mc_base.specs.declared.text.token.Token.{Token}
use Rattle.mc_c_syntax.specs.declared.ast.trees.LeftValue.{LeftValue}
use Rattle.mc_c_syntax.specs.declared.ast.class.Class.{Class}
use Rattle.mc_c_syntax.specs.Ast.Trees.{Left, Expr, number, null}
use Rattle.mc_c_syntax.specs.Ast.Views.{left_of}
use Rattle.mc_c_syntax.specs.Ast.Names.{Tokens, IsMark, IsWord, IsName, IsNumber, name_of}
use Rattle.mc_c_syntax.specs.Ast.Classes.{IsClass}
use Rattle.mc_c_syntax.specs.Ast.Grammar.{Fields, named, IsUnary, negative, numeral, null_word, input_call, variable, in_parens, product, sum_of}
use Rattle.mc_c_syntax.specs.Ast.Readers.{IsStuckAt}
use Rattle.mc_c_parse_expr.specs.declared.primary.Primary.TheVariants as Primary
use Rattle.mc_c_parse_expr.specs.declared.expression.Pending.{Pending}
use Rattle.mc_c_parse_expr.specs.declared.expression.Group.{Group}
use Rattle.mc_c_parse_expr.specs.Turns.{InTurn, in_turn, marked, Moves}
use Rattle.mc_c_parse_expr.specs.Primaries.{CompletesPrimary, behind_left, behind_input}
use Rattle.mc_c_parse_expr.specs.Expressions.{nothing, GoesOn, goes_on, Behind, AtOperand}
use Rattle.mc_c_parse_expr.proofs.Classes.{minus_is, before_is, name_is, number_is, null_is, input_is}
use Rattle.mc_c_syntax.proofs.AstLemmas.Numbers.{one_number}
use Rattle.mc_c_parse_expr.proofs.Marks.{clash, mark_number, mark_word, mark_name, number_word, number_name, word_name, word_clash}

-- `-`
negate_forward : (gs : List Group) {pending : Pending} {token : Token} {tokens rest : Tokens} {e : Expr} → IsMark (codes "-") token → AtOperand gs pending (token ∷ tokens) rest e → AtOperand gs (record { sum = pending.sum; factor = pending.factor; minuses = token.place ∷ pending.minuses }) tokens rest e
negate_forward gs m (in_turn (negative n u) (goes_on f ts b)) = in_turn u (goes_on f ts b)
negate_forward gs m (in_turn (numeral n) g) = absurd (mark_number m n)
negate_forward gs m (in_turn (null_word w) g) = absurd (mark_word m w)
negate_forward gs m (in_turn (input_call w b a) g) = absurd (mark_word m w)
negate_forward gs m (in_turn (variable (named n f)) g) = absurd (mark_name m n)
negate_forward gs m (in_turn (in_parens n s c) g) = absurd (clash (codes "-") (codes "(") refl refl m n)

negate_backward : (gs : List Group) {pending : Pending} {token : Token} {tokens rest : Tokens} {e : Expr} → IsMark (codes "-") token → AtOperand gs (record { sum = pending.sum; factor = pending.factor; minuses = token.place ∷ pending.minuses }) tokens rest e → AtOperand gs pending (token ∷ tokens) rest e
negate_backward gs m (in_turn u (goes_on f ts b)) = in_turn (negative m u) (goes_on f ts b)

pub negate_moves : (gs : List Group) (pending : Pending) (minuses : List Place) (token : Token) → IsMark (codes "-") token → minuses ≡ token.place ∷ pending.minuses → Moves (AtOperand gs pending) (AtOperand gs (record { sum = pending.sum; factor = pending.factor; minuses = minuses })) token
negate_moves gs pending minuses token m e =
    let P : List Place → Type 0 = λ ms. Moves (AtOperand gs pending) (AtOperand gs (record { sum = pending.sum; factor = pending.factor; minuses = ms })) token in
    subst P (sym e) (record { forward = λ tokens rest x h. negate_forward gs m h; backward = λ tokens rest x h. negate_backward gs m h })

-- `(`
open_forward : (gs : List Group) {pending : Pending} {token : Token} {tokens rest : Tokens} {e : Expr} → IsMark (codes "(") token → AtOperand gs pending (token ∷ tokens) rest e → AtOperand (record { place = token.place; outer = pending } ∷ gs) nothing tokens rest e
open_forward gs m (in_turn (negative n u) g) = absurd (clash (codes "(") (codes "-") refl refl m n)
open_forward gs m (in_turn (numeral n) g) = absurd (mark_number m n)
open_forward gs m (in_turn (null_word w) g) = absurd (mark_word m w)
open_forward gs m (in_turn (input_call w b a) g) = absurd (mark_word m w)
open_forward gs m (in_turn (variable (named n f)) g) = absurd (mark_name m n)
open_forward gs m (in_turn (in_parens {rest = behind} n (sum_of (product u f) ts) c) g) = in_turn u (goes_on f ts (behind, marked c, g))

open_backward : (gs : List Group) {pending : Pending} {token : Token} {tokens rest : Tokens} {e : Expr} → IsMark (codes "(") token → AtOperand (record { place = token.place; outer = pending } ∷ gs) nothing tokens rest e → AtOperand gs pending (token ∷ tokens) rest e
open_backward gs m (in_turn u (goes_on f ts (behind, marked c, g))) = in_turn (in_parens m (sum_of (product u f) ts) c) g

pub open_moves : (gs all : List Group) (pending fresh : Pending) (token : Token) → IsMark (codes "(") token → all ≡ record { place = token.place; outer = pending } ∷ gs → fresh ≡ nothing → Moves (AtOperand gs pending) (AtOperand all fresh) token
open_moves gs all pending fresh token m e f =
    let P : List Group → Type 0 = λ a. Moves (AtOperand gs pending) (AtOperand a fresh) token in
    let Q : Pending → Type 0 = λ p. Moves (AtOperand gs pending) (AtOperand (record { place = token.place; outer = pending } ∷ gs) p) token in
    subst P (sym e) (subst Q (sym f) (record { forward = λ tokens rest x h. open_forward gs m h; backward = λ tokens rest x h. open_backward gs m h }))

-- a name
name_forward : (gs : List Group) {pending : Pending} {l : LeftValue} {token : Token} {tokens rest : Tokens} {e : Expr} → IsName token → left_of l ≡ record { name = name_of token; fields = [] } → AtOperand gs pending (token ∷ tokens) rest e → InTurn (CompletesPrimary (Primary.Left l)) (λ u. GoesOn pending u (Behind gs)) tokens rest e
name_forward gs m q (in_turn (negative n u) g) = absurd (mark_name n m)
name_forward gs m q (in_turn (numeral n) g) = absurd (number_name n m)
name_forward gs m q (in_turn (null_word w) g) = absurd (word_name (codes "NULL") refl w m)
name_forward gs m q (in_turn (input_call w b a) g) = absurd (word_name (codes "input") refl w m)
name_forward gs m q (in_turn (in_parens n s c) g) = absurd (mark_name n m)
name_forward gs {tokens = tokens} m q (in_turn {mid = mid} (variable {l = all} (named n f)) g) = in_turn (behind_left (let P : Left → Type 0 = λ l. Fields l tokens all mid in subst P (sym q) f)) g

name_backward : (gs : List Group) {pending : Pending} {l : LeftValue} {token : Token} {tokens rest : Tokens} {e : Expr} → IsName token → left_of l ≡ record { name = name_of token; fields = [] } → InTurn (CompletesPrimary (Primary.Left l)) (λ u. GoesOn pending u (Behind gs)) tokens rest e → AtOperand gs pending (token ∷ tokens) rest e
name_backward gs {tokens = tokens} m q (in_turn {mid = mid} (behind_left {all = all} f) g) = in_turn (variable (named m (let P : Left → Type 0 = λ l. Fields l tokens all mid in subst P q f))) g

pub name_moves : (gs : List Group) (pending : Pending) (l : LeftValue) (token : Token) → IsName token → left_of l ≡ record { name = name_of token; fields = [] } → Moves (AtOperand gs pending) (InTurn (CompletesPrimary (Primary.Left l)) (λ u. GoesOn pending u (Behind gs))) token
name_moves gs pending l token m q = record { forward = λ tokens rest x h. name_forward gs m q h; backward = λ tokens rest x h. name_backward gs m q h }

-- a number
number_forward : (gs : List Group) {pending : Pending} {n : ℕ} {token : Token} {tokens rest : Tokens} {e : Expr} → IsNumber token n → AtOperand gs pending (token ∷ tokens) rest e → GoesOn pending (number n token.place) (Behind gs) tokens rest e
number_forward gs m (in_turn (negative n u) g) = absurd (mark_number n m)
number_forward gs {pending = pending} {token = token} {tokens = tokens} {rest = rest} {e = e} m (in_turn (numeral k) g) = let P : ℕ → Type 0 = λ n. GoesOn pending (number n token.place) (Behind gs) tokens rest e in subst P (one_number k m) g
number_forward gs m (in_turn (null_word w) g) = absurd (number_word m w)
number_forward gs m (in_turn (input_call w b a) g) = absurd (number_word m w)
number_forward gs m (in_turn (variable (named n f)) g) = absurd (number_name m n)
number_forward gs m (in_turn (in_parens n s c) g) = absurd (mark_number n m)

pub number_moves : (gs : List Group) (pending : Pending) (n : ℕ) (u : Expr) (token : Token) → IsNumber token n → u ≡ number n token.place → Moves (AtOperand gs pending) (GoesOn pending u (Behind gs)) token
number_moves gs pending n u token m q =
    let P : Expr → Type 0 = λ x. Moves (AtOperand gs pending) (GoesOn pending x (Behind gs)) token in
    subst P (sym q) (record { forward = λ tokens rest x h. number_forward gs m h; backward = λ tokens rest x h. in_turn (numeral m) h })

-- `NULL`
null_forward : (gs : List Group) {pending : Pending} {token : Token} {tokens rest : Tokens} {e : Expr} → IsWord (codes "NULL") token → AtOperand gs pending (token ∷ tokens) rest e → GoesOn pending (null token.place) (Behind gs) tokens rest e
null_forward gs m (in_turn (negative n u) g) = absurd (mark_word n m)
null_forward gs m (in_turn (numeral n) g) = absurd (number_word n m)
null_forward gs m (in_turn (null_word w) g) = g
null_forward gs m (in_turn (input_call w b a) g) = absurd (word_clash (codes "NULL") (codes "input") refl refl m w)
null_forward gs m (in_turn (variable (named n f)) g) = absurd (word_name (codes "NULL") refl m n)
null_forward gs m (in_turn (in_parens n s c) g) = absurd (mark_word n m)

pub null_moves : (gs : List Group) (pending : Pending) (u : Expr) (token : Token) → IsWord (codes "NULL") token → u ≡ null token.place → Moves (AtOperand gs pending) (GoesOn pending u (Behind gs)) token
null_moves gs pending u token m q =
    let P : Expr → Type 0 = λ x. Moves (AtOperand gs pending) (GoesOn pending x (Behind gs)) token in
    subst P (sym q) (record { forward = λ tokens rest x h. null_forward gs m h; backward = λ tokens rest x h. in_turn (null_word m) h })

-- `input`
input_forward : (gs : List Group) {pending : Pending} {token : Token} {tokens rest : Tokens} {e : Expr} → IsWord (codes "input") token → AtOperand gs pending (token ∷ tokens) rest e → InTurn (CompletesPrimary (Primary.Input token.place)) (λ u. GoesOn pending u (Behind gs)) tokens rest e
input_forward gs m (in_turn (negative n u) g) = absurd (mark_word n m)
input_forward gs m (in_turn (numeral n) g) = absurd (number_word n m)
input_forward gs m (in_turn (null_word w) g) = absurd (word_clash (codes "NULL") (codes "input") refl refl w m)
input_forward gs m (in_turn (input_call w b a) g) = in_turn (behind_input b a) g
input_forward gs m (in_turn (variable (named n f)) g) = absurd (word_name (codes "input") refl m n)
input_forward gs m (in_turn (in_parens n s c) g) = absurd (mark_word n m)

input_backward : (gs : List Group) {pending : Pending} {token : Token} {tokens rest : Tokens} {e : Expr} → IsWord (codes "input") token → InTurn (CompletesPrimary (Primary.Input token.place)) (λ u. GoesOn pending u (Behind gs)) tokens rest e → AtOperand gs pending (token ∷ tokens) rest e
input_backward gs m (in_turn (behind_input b a) g) = in_turn (input_call m b a) g

pub input_moves : (gs : List Group) (pending : Pending) (token : Token) → IsWord (codes "input") token → Moves (AtOperand gs pending) (InTurn (CompletesPrimary (Primary.Input token.place)) (λ u. GoesOn pending u (Behind gs))) token
input_moves gs pending token m = record { forward = λ tokens rest x h. input_forward gs m h; backward = λ tokens rest x h. input_backward gs m h }

-- any other token
pub record StartsNone (class : Class) : Type 0 where
  pub minus : class ≡ Class.Minus → ⊥
  pub before : class ≡ Class.OpenParen → ⊥
  pub name : class ≡ Class.Name → ⊥
  pub number : (n : ℕ) → class ≡ Class.Number n → ⊥
  pub null : class ≡ Class.Null → ⊥
  pub input : class ≡ Class.Input → ⊥

pub no_unary : {class : Class} {token : Token} {tokens rest : Tokens} {u : Expr} → StartsNone class → IsClass token class → IsUnary u (token ∷ tokens) rest → ⊥
no_unary {class} {token} s k (negative n u) = s.minus (minus_is class token n k)
no_unary {class} {token} s k (numeral {n = n} h) = let e = number_is class token n h k in s.number e.0 e.1
no_unary {class} {token} s k (null_word w) = s.null (null_is class token w k)
no_unary {class} {token} s k (input_call w b a) = s.input (input_is class token w k)
no_unary {class} {token} s k (variable (named n f)) = s.name (name_is class token n k)
no_unary {class} {token} s k (in_parens n t c) = s.before (before_is class token n k)

no_operand : (gs : List Group) {pending : Pending} {class : Class} {token : Token} {tokens rest : Tokens} {e : Expr} → StartsNone class → IsClass token class → AtOperand gs pending (token ∷ tokens) rest e → ⊥
no_operand gs s k (in_turn u g) = no_unary s k u

pub operand_stuck : (gs : List Group) (pending : Pending) (class : Class) (token : Token) → StartsNone class → IsClass token class → IsStuckAt (AtOperand gs pending) token
operand_stuck gs pending class token s k tokens rest e h = no_operand gs s k h
