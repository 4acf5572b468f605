-- Each token is of one class.
use Rattle.std.proofs.Common.{◌≡◌, ℕ, List, refl, sym, ◌∙◌, subst, codes, true, false, IsTrue, IsFalse}
use native.Mathlib.Omega.{arith}
use Rattle.mc_base.specs.declared.text.token.Token.{Token}
use Rattle.mc_c_syntax.specs.declared.ast.class.Class.{Class}
use Rattle.mc_c_syntax.specs.Ast.Names.{IsMark, IsWord, IsName, is_reserved, is_in}
use Rattle.mc_c_syntax.specs.Ast.Classes.{IsClass}

-- a token is one mark, one word, or neither
pub one_mark : {a b : List ℕ} {token : Token} → IsMark a token → IsMark b token → a ≡ b
one_mark h k = sym h.text ∙ k.text

pub one_word : {a b : List ℕ} {token : Token} → IsWord a token → IsWord b token → a ≡ b
one_word h k = sym h.text ∙ k.text

pub mark_no_word : {a b : List ℕ} {token : Token} → IsMark a token → IsWord b token → ⊥
mark_no_word h k = grind arith

pub mark_no_name : {a : List ℕ} {token : Token} → IsMark a token → IsName token → ⊥
mark_no_name h k = grind arith

pub name_no_word : {a : List ℕ} {token : Token} → IsName token → IsWord a token → IsTrue (is_reserved a) → ⊥
name_no_word {a = a} {token = token} h k reserved =
    let f : IsFalse (is_reserved a) = subst (λ t. IsFalse (is_reserved t)) k.text h.free in
    let both : true ≡ false = sym reserved ∙ f in cc

pub only_open_paren : (token : Token) (class : Class) → IsClass token class → IsMark (codes "(") token → class ≡ Class.OpenParen
only_open_paren token Class.OpenParen h k = refl
only_open_paren token _ h k = grind arith

pub only_close : (token : Token) (class : Class) → IsClass token class → IsMark (codes ")") token → class ≡ Class.CloseParen
only_close token Class.CloseParen h k = refl
only_close token _ h k = grind arith

pub only_comma : (token : Token) (class : Class) → IsClass token class → IsMark (codes ",") token → class ≡ Class.Comma
only_comma token Class.Comma h k = refl
only_comma token _ h k = grind arith

pub only_semicolon : (token : Token) (class : Class) → IsClass token class → IsMark (codes ";") token → class ≡ Class.Semicolon
only_semicolon token Class.Semicolon h k = refl
only_semicolon token _ h k = grind arith

pub only_assign : (token : Token) (class : Class) → IsClass token class → IsMark (codes "=") token → class ≡ Class.Assign
only_assign token Class.Assign h k = refl
only_assign token _ h k = grind arith

pub only_star : (token : Token) (class : Class) → IsClass token class → IsMark (codes "*") token → class ≡ Class.Star
only_star token Class.Star h k = refl
only_star token _ h k = grind arith

pub only_arrow : (token : Token) (class : Class) → IsClass token class → IsMark (codes "->") token → class ≡ Class.Arrow
only_arrow token Class.Arrow h k = refl
only_arrow token _ h k = grind arith

pub only_plus_plus : (token : Token) (class : Class) → IsClass token class → IsMark (codes "++") token → class ≡ Class.PlusPlus
only_plus_plus token Class.PlusPlus h k = refl
only_plus_plus token _ h k = grind arith

pub only_minus_minus : (token : Token) (class : Class) → IsClass token class → IsMark (codes "--") token → class ≡ Class.MinusMinus
only_minus_minus token Class.MinusMinus h k = refl
only_minus_minus token _ h k = grind arith

pub only_plus_assign : (token : Token) (class : Class) → IsClass token class → IsMark (codes "+=") token → class ≡ Class.PlusAssign
only_plus_assign token Class.PlusAssign h k = refl
only_plus_assign token _ h k = grind arith

pub only_minus_assign : (token : Token) (class : Class) → IsClass token class → IsMark (codes "-=") token → class ≡ Class.MinusAssign
only_minus_assign token Class.MinusAssign h k = refl
only_minus_assign token _ h k = grind arith

pub only_int : (token : Token) (class : Class) → IsClass token class → IsWord (codes "int") token → class ≡ Class.Int
only_int token Class.Int h k = refl
only_int token Class.Name h k = absurd (name_no_word h k refl)
only_int token _ h k = grind arith

pub only_struct : (token : Token) (class : Class) → IsClass token class → IsWord (codes "struct") token → class ≡ Class.Struct
only_struct token Class.Struct h k = refl
only_struct token Class.Name h k = absurd (name_no_word h k refl)
only_struct token _ h k = grind arith

pub only_malloc : (token : Token) (class : Class) → IsClass token class → IsWord (codes "malloc") token → class ≡ Class.Malloc
only_malloc token Class.Malloc h k = refl
only_malloc token Class.Name h k = absurd (name_no_word h k refl)
only_malloc token _ h k = grind arith

pub only_sizeof : (token : Token) (class : Class) → IsClass token class → IsWord (codes "sizeof") token → class ≡ Class.Sizeof
only_sizeof token Class.Sizeof h k = refl
only_sizeof token Class.Name h k = absurd (name_no_word h k refl)
only_sizeof token _ h k = grind arith

pub only_name : (token : Token) (class : Class) → IsClass token class → IsName token → class ≡ Class.Name
only_name token Class.Name h k = refl
only_name token Class.Int h k = absurd (name_no_word k h refl)
only_name token Class.Struct h k = absurd (name_no_word k h refl)
only_name token Class.Typedef h k = absurd (name_no_word k h refl)
only_name token Class.Static h k = absurd (name_no_word k h refl)
only_name token Class.Void h k = absurd (name_no_word k h refl)
only_name token Class.Null h k = absurd (name_no_word k h refl)
only_name token Class.Malloc h k = absurd (name_no_word k h refl)
only_name token Class.Free h k = absurd (name_no_word k h refl)
only_name token Class.Input h k = absurd (name_no_word k h refl)
only_name token Class.Assert h k = absurd (name_no_word k h refl)
only_name token Class.Assume h k = absurd (name_no_word k h refl)
only_name token Class.AssumeShape h k = absurd (name_no_word k h refl)
only_name token Class.AssertShape h k = absurd (name_no_word k h refl)
only_name token Class.AssertEmpty h k = absurd (name_no_word k h refl)
only_name token Class.If h k = absurd (name_no_word k h refl)
only_name token Class.Else h k = absurd (name_no_word k h refl)
only_name token Class.While h k = absurd (name_no_word k h refl)
only_name token Class.Do h k = absurd (name_no_word k h refl)
only_name token Class.For h k = absurd (name_no_word k h refl)
only_name token Class.Break h k = absurd (name_no_word k h refl)
only_name token Class.Continue h k = absurd (name_no_word k h refl)
only_name token Class.Return h k = absurd (name_no_word k h refl)
only_name token Class.Sizeof h k = absurd (name_no_word k h refl)
only_name token _ h k = grind arith

-- a token is none of the marks of a list where its mark is not
pub no_mark : (marks : List (List ℕ)) {m : List ℕ} {token : Token} → IsMark m token → is_in marks m ≡ false → IsTrue (is_in marks token.text) → ⊥
no_mark marks {m} {token} h none found =
    let one : is_in marks token.text ≡ true = found in
    let other : is_in marks token.text ≡ false = rw h.text none in
    let both : true ≡ false = sym one ∙ other in cc
