-- What a token is to the grammar.
use Rattle.std.specs.Prelude.{◌≡◌, ℕ, List, [], ◌∷◌, IsTrue, codes, Option, Some, None, if◌then◌else◌}
use Rattle.std.specs.Bool.{IsFalse}
use Rattle.mc_base.specs.declared.text.token.Token.{Token}
use Rattle.mc_base.specs.declared.text.token.TokenKind.TheVariants as TokenKind
use Rattle.mc_c_syntax.specs.declared.ast.class.Class.{Class}
use Rattle.mc_c_syntax.specs.Ast.Names.{IsMark, IsWord, IsName, IsNumber, is_same, is_in, is_reserved, mark_of}

-- the marks of the grammar
abbrev pub grammar_marks : List (List ℕ)
grammar_marks =
    codes "->" ∷ codes "++" ∷ codes "--" ∷ codes "+=" ∷ codes "-=" ∷ codes "&&" ∷ codes "||"
    ∷ codes "{" ∷ codes "}" ∷ codes "(" ∷ codes ")" ∷ codes ";" ∷ codes "," ∷ codes "=" ∷ codes "+" ∷ codes "-"
    ∷ codes "*" ∷ codes "!" ∷ codes "==" ∷ codes "!=" ∷ codes "<" ∷ codes "<=" ∷ codes ">" ∷ codes ">=" ∷ []

-- the reserved words of the grammar
abbrev pub grammar_words : List (List ℕ)
grammar_words =
    codes "int" ∷ codes "struct" ∷ codes "typedef" ∷ codes "static" ∷ codes "void" ∷ codes "NULL" ∷ codes "malloc"
    ∷ codes "free" ∷ codes "input" ∷ codes "assert" ∷ codes "assume" ∷ codes "assume_shape"
    ∷ codes "assert_shape" ∷ codes "assert_empty" ∷ codes "if" ∷ codes "else" ∷ codes "while" ∷ codes "do"
    ∷ codes "for" ∷ codes "break" ∷ codes "continue" ∷ codes "return" ∷ codes "sizeof" ∷ []

-- a token is of a class: each is of one, and no other
abbrev pub IsClass : Token → Class → Type 0
IsClass token Class.Name = IsName token
IsClass token (Class.Number n) = IsNumber token n
IsClass token Class.End = token.kind ≡ TokenKind.End
IsClass token (Class.Compare c) = IsMark (mark_of c) token
IsClass token Class.Arrow = IsMark (codes "->") token
IsClass token Class.PlusPlus = IsMark (codes "++") token
IsClass token Class.MinusMinus = IsMark (codes "--") token
IsClass token Class.PlusAssign = IsMark (codes "+=") token
IsClass token Class.MinusAssign = IsMark (codes "-=") token
IsClass token Class.And = IsMark (codes "&&") token
IsClass token Class.Or = IsMark (codes "||") token
IsClass token Class.OpenBrace = IsMark (codes "{") token
IsClass token Class.CloseBrace = IsMark (codes "}") token
IsClass token Class.OpenParen = IsMark (codes "(") token
IsClass token Class.CloseParen = IsMark (codes ")") token
IsClass token Class.Semicolon = IsMark (codes ";") token
IsClass token Class.Comma = IsMark (codes ",") token
IsClass token Class.Assign = IsMark (codes "=") token
IsClass token Class.Plus = IsMark (codes "+") token
IsClass token Class.Minus = IsMark (codes "-") token
IsClass token Class.Star = IsMark (codes "*") token
IsClass token Class.Bang = IsMark (codes "!") token
IsClass token Class.Int = IsWord (codes "int") token
IsClass token Class.Struct = IsWord (codes "struct") token
IsClass token Class.Typedef = IsWord (codes "typedef") token
IsClass token Class.Static = IsWord (codes "static") token
IsClass token Class.Void = IsWord (codes "void") token
IsClass token Class.Null = IsWord (codes "NULL") token
IsClass token Class.Malloc = IsWord (codes "malloc") token
IsClass token Class.Free = IsWord (codes "free") token
IsClass token Class.Input = IsWord (codes "input") token
IsClass token Class.Assert = IsWord (codes "assert") token
IsClass token Class.Assume = IsWord (codes "assume") token
IsClass token Class.AssumeShape = IsWord (codes "assume_shape") token
IsClass token Class.AssertShape = IsWord (codes "assert_shape") token
IsClass token Class.AssertEmpty = IsWord (codes "assert_empty") token
IsClass token Class.If = IsWord (codes "if") token
IsClass token Class.Else = IsWord (codes "else") token
IsClass token Class.While = IsWord (codes "while") token
IsClass token Class.Do = IsWord (codes "do") token
IsClass token Class.For = IsWord (codes "for") token
IsClass token Class.Break = IsWord (codes "break") token
IsClass token Class.Continue = IsWord (codes "continue") token
IsClass token Class.Return = IsWord (codes "return") token
IsClass token Class.Sizeof = IsWord (codes "sizeof") token
IsClass token Class.OtherMark = (token.kind ≡ TokenKind.Mark) × IsFalse (is_in grammar_marks token.text)
IsClass token Class.OtherWord = (token.kind ≡ TokenKind.Name) × IsTrue (is_reserved token.text) × IsFalse (is_in grammar_words token.text)
IsClass token Class.OtherNumber = (token.kind ≡ TokenKind.Number) × ((n : ℕ) → ¬ IsNumber token n)

-- the class at the place where a word first stands among texts
abbrev pub class_beside : List (List ℕ) → List Class → List ℕ → Option Class
class_beside [] classes word = None
class_beside (text ∷ texts) [] word = None
class_beside (text ∷ texts) (class ∷ classes) word = if is_same word text then Some class else class_beside texts classes word

-- tokens that are this mark are of the class
abbrev pub IsMarkOf : List ℕ → Class → Type 0
IsMarkOf text class = (token : Token) → IsMark text token → IsClass token class

-- tokens that are this word are of the class
abbrev pub IsWordOf : List ℕ → Class → Type 0
IsWordOf text class = (token : Token) → IsWord text token → IsClass token class

-- each text has P with the class beside it
abbrev pub Each : (List ℕ → Class → Type 0) → List (List ℕ) → List Class → Type 0
Each P [] classes = Unit {0}
Each P (text ∷ texts) [] = ⊥
Each P (text ∷ texts) (class ∷ classes) = P text class × Each P texts classes
