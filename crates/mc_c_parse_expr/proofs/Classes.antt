-- A token is of one class.
use Rattle.mc_c_syntax.specs.declared.ast.trees.Comparison.{Comparison}
use Rattle.std.proofs.Common.{◌≡◌, ◌≢◌, ℕ, List, [], ◌∷◌, cond, refl, ap, sym, ◌∙◌}
use Rattle.std.specs.Prelude.{codes}
use Rattle.mc_base.specs.declared.text.token.Token.{Token}
use Rattle.mc_base.specs.declared.text.token.TokenKind.{TokenKind}
use Rattle.mc_c_syntax.specs.declared.ast.class.Class.{Class}
use Rattle.mc_c_syntax.specs.declared.ast.trees.Comparison.TheVariants.{Equal, Unequal, Below, AtMost, Above, AtLeast}
use Rattle.mc_c_syntax.specs.Ast.Names.{IsMark, IsWord, IsName, IsNumber, is_in, is_same, is_reserved, mark_of}
use Rattle.mc_c_syntax.specs.Ast.Classes.{IsClass, grammar_marks, grammar_words}

-- the class of a text in a table, or another one
abbrev find : List (List ℕ × Class) → Class → List ℕ → Class
find [] other text = other
find (row ∷ rows) other text = cond (is_same text row.0) row.1 (find rows other text)

abbrev mark_rows : List (List ℕ × Class)
mark_rows =
    (codes "->", Class.Arrow) ∷ (codes "++", Class.PlusPlus) ∷ (codes "--", Class.MinusMinus) ∷ (codes "+=", Class.PlusAssign) ∷ (codes "-=", Class.MinusAssign)
    ∷ (codes "&&", Class.And) ∷ (codes "||", Class.Or) ∷ (codes "{", Class.OpenBrace) ∷ (codes "}", Class.CloseBrace) ∷ (codes "(", Class.OpenParen) ∷ (codes ")", Class.CloseParen)
    ∷ (codes ";", Class.Semicolon) ∷ (codes ",", Class.Comma) ∷ (codes "=", Class.Assign) ∷ (codes "+", Class.Plus) ∷ (codes "-", Class.Minus) ∷ (codes "*", Class.Star) ∷ (codes "!", Class.Bang)
    ∷ (codes "==", Class.Compare Equal) ∷ (codes "!=", Class.Compare Unequal) ∷ (codes "<", Class.Compare Below) ∷ (codes "<=", Class.Compare AtMost) ∷ (codes ">", Class.Compare Above) ∷ (codes ">=", Class.Compare AtLeast) ∷ []

abbrev word_rows : List (List ℕ × Class)
word_rows =
    (codes "int", Class.Int) ∷ (codes "struct", Class.Struct) ∷ (codes "typedef", Class.Typedef) ∷ (codes "static", Class.Static) ∷ (codes "void", Class.Void)
    ∷ (codes "NULL", Class.Null) ∷ (codes "malloc", Class.Malloc) ∷ (codes "free", Class.Free) ∷ (codes "input", Class.Input) ∷ (codes "assert", Class.Assert) ∷ (codes "assume", Class.Assume)
    ∷ (codes "assume_shape", Class.AssumeShape) ∷ (codes "assert_shape", Class.AssertShape) ∷ (codes "assert_empty", Class.AssertEmpty) ∷ (codes "if", Class.If) ∷ (codes "else", Class.Else) ∷ (codes "while", Class.While) ∷ (codes "do", Class.Do)
    ∷ (codes "for", Class.For) ∷ (codes "break", Class.Break) ∷ (codes "continue", Class.Continue) ∷ (codes "return", Class.Return) ∷ (codes "sizeof", Class.Sizeof) ∷ []

-- the class of a token, where all numbers are of one
abbrev class_at : TokenKind → List ℕ → Class
class_at TokenKind.Name text = cond (is_reserved text) (cond (is_in grammar_words text) (find word_rows Class.OtherWord text) Class.OtherWord) Class.Name
class_at TokenKind.Number text = Class.OtherNumber
class_at TokenKind.Mark text = cond (is_in grammar_marks text) (find mark_rows Class.OtherMark text) Class.OtherMark
class_at TokenKind.End text = Class.End

-- the class, where all numbers are of one
abbrev pub numberless : Class → Class
numberless (Class.Number n) = Class.OtherNumber
numberless c = c

at_mark : (token : Token) (mark : List ℕ) → IsMark mark token → class_at token.kind token.text ≡ class_at TokenKind.Mark mark
at_mark token mark m = (λ i. class_at (m.kind i) (m.text i))

at_word : (token : Token) (word : List ℕ) → IsWord word token → class_at token.kind token.text ≡ class_at TokenKind.Name word
at_word token word m = (λ i. class_at (m.kind i) (m.text i))

-- the class that a token has is the one of its text
class_is : (c : Class) (token : Token) → IsClass token c → class_at token.kind token.text ≡ numberless c
class_is Class.Name token h = (λ i. class_at (h.kind i) token.text) ∙ ap (λ b. cond b (cond (is_in grammar_words token.text) (find word_rows Class.OtherWord token.text) Class.OtherWord) Class.Name) h.free
class_is (Class.Number n) token h = λ i. class_at (h.kind i) token.text
class_is Class.End token h = λ i. class_at (h i) token.text
class_is (Class.Compare Equal) token h = at_mark token _ h
class_is (Class.Compare Unequal) token h = at_mark token _ h
class_is (Class.Compare Below) token h = at_mark token _ h
class_is (Class.Compare AtMost) token h = at_mark token _ h
class_is (Class.Compare Above) token h = at_mark token _ h
class_is (Class.Compare AtLeast) token h = at_mark token _ h
class_is Class.Arrow token h = at_mark token _ h
class_is Class.PlusPlus token h = at_mark token _ h
class_is Class.MinusMinus token h = at_mark token _ h
class_is Class.PlusAssign token h = at_mark token _ h
class_is Class.MinusAssign token h = at_mark token _ h
class_is Class.And token h = at_mark token _ h
class_is Class.Or token h = at_mark token _ h
class_is Class.OpenBrace token h = at_mark token _ h
class_is Class.CloseBrace token h = at_mark token _ h
class_is Class.OpenParen token h = at_mark token _ h
class_is Class.CloseParen token h = at_mark token _ h
class_is Class.Semicolon token h = at_mark token _ h
class_is Class.Comma token h = at_mark token _ h
class_is Class.Assign token h = at_mark token _ h
class_is Class.Plus token h = at_mark token _ h
class_is Class.Minus token h = at_mark token _ h
class_is Class.Star token h = at_mark token _ h
class_is Class.Bang token h = at_mark token _ h
class_is Class.Int token h = at_word token _ h
class_is Class.Struct token h = at_word token _ h
class_is Class.Typedef token h = at_word token _ h
class_is Class.Static token h = at_word token _ h
class_is Class.Void token h = at_word token _ h
class_is Class.Null token h = at_word token _ h
class_is Class.Malloc token h = at_word token _ h
class_is Class.Free token h = at_word token _ h
class_is Class.Input token h = at_word token _ h
class_is Class.Assert token h = at_word token _ h
class_is Class.Assume token h = at_word token _ h
class_is Class.AssumeShape token h = at_word token _ h
class_is Class.AssertShape token h = at_word token _ h
class_is Class.AssertEmpty token h = at_word token _ h
class_is Class.If token h = at_word token _ h
class_is Class.Else token h = at_word token _ h
class_is Class.While token h = at_word token _ h
class_is Class.Do token h = at_word token _ h
class_is Class.For token h = at_word token _ h
class_is Class.Break token h = at_word token _ h
class_is Class.Continue token h = at_word token _ h
class_is Class.Return token h = at_word token _ h
class_is Class.Sizeof token h = at_word token _ h
class_is Class.OtherMark token h = (λ i. class_at (h.0 i) token.text) ∙ ap (λ b. cond b (find mark_rows Class.OtherMark token.text) Class.OtherMark) h.1
class_is Class.OtherWord token h = (λ i. class_at (h.0 i) token.text) ∙ ap (λ b. cond b (cond (is_in grammar_words token.text) (find word_rows Class.OtherWord token.text) Class.OtherWord) Class.Name) h.1 ∙ ap (λ b. cond b (find word_rows Class.OtherWord token.text) Class.OtherWord) h.2
class_is Class.OtherNumber token h = λ i. class_at (h.0 i) token.text

same_numberless : (c d : Class) (token : Token) → IsClass token c → IsClass token d → numberless c ≡ numberless d
same_numberless c d token h k = sym (class_is c token h) ∙ class_is d token k

not_number : (c d : Class) → c ≢ Class.OtherNumber → c ≡ numberless d → d ≡ c
not_number c (Class.Number n) ne e = absurd (ne e)
not_number c d ne e = sym e

-- where a token is of a class that is no number, it is of no other
pub is_class : (c d : Class) (token : Token) → numberless c ≡ c → c ≢ Class.OtherNumber → IsClass token c → IsClass token d → d ≡ c
is_class c d token e ne h k = not_number c d ne (sym e ∙ same_numberless c d token h k)

pub arrow_is : (d : Class) (token : Token) → IsMark (codes "->") token → IsClass token d → d ≡ Class.Arrow
arrow_is d token = is_class Class.Arrow d token refl (λ e. cc)

pub minus_is : (d : Class) (token : Token) → IsMark (codes "-") token → IsClass token d → d ≡ Class.Minus
minus_is d token = is_class Class.Minus d token refl (λ e. cc)

pub plus_is : (d : Class) (token : Token) → IsMark (codes "+") token → IsClass token d → d ≡ Class.Plus
plus_is d token = is_class Class.Plus d token refl (λ e. cc)

pub star_is : (d : Class) (token : Token) → IsMark (codes "*") token → IsClass token d → d ≡ Class.Star
star_is d token = is_class Class.Star d token refl (λ e. cc)

pub bang_is : (d : Class) (token : Token) → IsMark (codes "!") token → IsClass token d → d ≡ Class.Bang
bang_is d token = is_class Class.Bang d token refl (λ e. cc)

pub and_is : (d : Class) (token : Token) → IsMark (codes "&&") token → IsClass token d → d ≡ Class.And
and_is d token = is_class Class.And d token refl (λ e. cc)

pub or_is : (d : Class) (token : Token) → IsMark (codes "||") token → IsClass token d → d ≡ Class.Or
or_is d token = is_class Class.Or d token refl (λ e. cc)

pub before_is : (d : Class) (token : Token) → IsMark (codes "(") token → IsClass token d → d ≡ Class.OpenParen
before_is d token = is_class Class.OpenParen d token refl (λ e. cc)

pub after_is : (d : Class) (token : Token) → IsMark (codes ")") token → IsClass token d → d ≡ Class.CloseParen
after_is d token = is_class Class.CloseParen d token refl (λ e. cc)

pub null_is : (d : Class) (token : Token) → IsWord (codes "NULL") token → IsClass token d → d ≡ Class.Null
null_is d token = is_class Class.Null d token refl (λ e. cc)

pub input_is : (d : Class) (token : Token) → IsWord (codes "input") token → IsClass token d → d ≡ Class.Input
input_is d token = is_class Class.Input d token refl (λ e. cc)

pub name_is : (d : Class) (token : Token) → IsName token → IsClass token d → d ≡ Class.Name
name_is d token = is_class Class.Name d token refl (λ e. cc)

pub compare_is : (c : Comparison) (d : Class) (token : Token) → IsMark (mark_of c) token → IsClass token d → d ≡ Class.Compare c
compare_is c d token = is_class (Class.Compare c) d token refl (λ e. cc)

number_cases : (d : Class) (token : Token) (n : ℕ) → IsNumber token n → IsClass token d → Class.OtherNumber ≡ numberless d → (m : ℕ) × (d ≡ Class.Number m)
number_cases (Class.Number m) token n h k e = (m, refl)
number_cases Class.OtherNumber token n h k e = absurd (k.1 n h)
number_cases d token n h k e = absurd (cc)

pub number_is : (d : Class) (token : Token) (n : ℕ) → IsNumber token n → IsClass token d → (m : ℕ) × (d ≡ Class.Number m)
number_is d token n h k = number_cases d token n h k (same_numberless (Class.Number n) d token h k)
