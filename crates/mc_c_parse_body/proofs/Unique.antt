-- A token is of one class.
use Rattle.std.proofs.Common.{◌≡◌, ◌≢◌, ℕ, refl, ◌∙◌, ap, subst}
use Rattle.mc_base.specs.declared.text.token.Token.{Token}
use Rattle.mc_c_syntax.specs.declared.ast.class.Class.{Class}
use Rattle.mc_c_syntax.specs.Ast.Names.{IsName, IsNumber}
use Rattle.mc_c_syntax.specs.Ast.Classes.{IsClass}
use Rattle.mc_c_syntax.proofs.AstLemmas.Numbers.{one_number}
use Rattle.mc_c_parse_expr.proofs.Classes.{numberless, is_class, name_is, number_is}

-- the class is that of one mark
abbrev pub IsMarks : Class → Type 0
IsMarks Class.Name = ⊥
IsMarks (Class.Number n) = ⊥
IsMarks Class.End = ⊥
IsMarks (Class.Compare c) = Unit {0}
IsMarks Class.Arrow = Unit {0}
IsMarks Class.PlusPlus = Unit {0}
IsMarks Class.MinusMinus = Unit {0}
IsMarks Class.PlusAssign = Unit {0}
IsMarks Class.MinusAssign = Unit {0}
IsMarks Class.And = Unit {0}
IsMarks Class.Or = Unit {0}
IsMarks Class.OpenBrace = Unit {0}
IsMarks Class.CloseBrace = Unit {0}
IsMarks Class.OpenParen = Unit {0}
IsMarks Class.CloseParen = Unit {0}
IsMarks Class.Semicolon = Unit {0}
IsMarks Class.Comma = Unit {0}
IsMarks Class.Assign = Unit {0}
IsMarks Class.Plus = Unit {0}
IsMarks Class.Minus = Unit {0}
IsMarks Class.Star = Unit {0}
IsMarks Class.Bang = Unit {0}
IsMarks Class.Int = ⊥
IsMarks Class.Struct = ⊥
IsMarks Class.Typedef = ⊥
IsMarks Class.Static = ⊥
IsMarks Class.Void = ⊥
IsMarks Class.Null = ⊥
IsMarks Class.Malloc = ⊥
IsMarks Class.Free = ⊥
IsMarks Class.Input = ⊥
IsMarks Class.Assert = ⊥
IsMarks Class.Assume = ⊥
IsMarks Class.AssumeShape = ⊥
IsMarks Class.AssertShape = ⊥
IsMarks Class.AssertEmpty = ⊥
IsMarks Class.If = ⊥
IsMarks Class.Else = ⊥
IsMarks Class.While = ⊥
IsMarks Class.Do = ⊥
IsMarks Class.For = ⊥
IsMarks Class.Break = ⊥
IsMarks Class.Continue = ⊥
IsMarks Class.Return = ⊥
IsMarks Class.Sizeof = ⊥
IsMarks Class.OtherMark = ⊥
IsMarks Class.OtherWord = ⊥
IsMarks Class.OtherNumber = ⊥

-- the class is that of one word
abbrev pub IsWords : Class → Type 0
IsWords Class.Name = ⊥
IsWords (Class.Number n) = ⊥
IsWords Class.End = ⊥
IsWords (Class.Compare c) = ⊥
IsWords Class.Arrow = ⊥
IsWords Class.PlusPlus = ⊥
IsWords Class.MinusMinus = ⊥
IsWords Class.PlusAssign = ⊥
IsWords Class.MinusAssign = ⊥
IsWords Class.And = ⊥
IsWords Class.Or = ⊥
IsWords Class.OpenBrace = ⊥
IsWords Class.CloseBrace = ⊥
IsWords Class.OpenParen = ⊥
IsWords Class.CloseParen = ⊥
IsWords Class.Semicolon = ⊥
IsWords Class.Comma = ⊥
IsWords Class.Assign = ⊥
IsWords Class.Plus = ⊥
IsWords Class.Minus = ⊥
IsWords Class.Star = ⊥
IsWords Class.Bang = ⊥
IsWords Class.Int = Unit {0}
IsWords Class.Struct = Unit {0}
IsWords Class.Typedef = Unit {0}
IsWords Class.Static = Unit {0}
IsWords Class.Void = Unit {0}
IsWords Class.Null = Unit {0}
IsWords Class.Malloc = Unit {0}
IsWords Class.Free = Unit {0}
IsWords Class.Input = Unit {0}
IsWords Class.Assert = Unit {0}
IsWords Class.Assume = Unit {0}
IsWords Class.AssumeShape = Unit {0}
IsWords Class.AssertShape = Unit {0}
IsWords Class.AssertEmpty = Unit {0}
IsWords Class.If = Unit {0}
IsWords Class.Else = Unit {0}
IsWords Class.While = Unit {0}
IsWords Class.Do = Unit {0}
IsWords Class.For = Unit {0}
IsWords Class.Break = Unit {0}
IsWords Class.Continue = Unit {0}
IsWords Class.Return = Unit {0}
IsWords Class.Sizeof = Unit {0}
IsWords Class.OtherMark = ⊥
IsWords Class.OtherWord = ⊥
IsWords Class.OtherNumber = ⊥

mark_plain : (class : Class) → IsMarks class → (numberless class ≡ class) × (class ≢ Class.OtherNumber)
mark_plain (Class.Number n) p = absurd p
mark_plain Class.OtherNumber p = absurd p
mark_plain class p = (refl, λ e. cc)

word_plain : (class : Class) → IsWords class → (numberless class ≡ class) × (class ≢ Class.OtherNumber)
word_plain (Class.Number n) p = absurd p
word_plain Class.OtherNumber p = absurd p
word_plain class p = (refl, λ e. cc)

-- a token that is of a class and has a mark is of the mark's class
pub class_of_mark : (class other : Class) (token : Token) → IsMarks other → IsClass token class → IsClass token other → class ≡ other
class_of_mark class other token p is same = let plain = mark_plain other p in is_class other class token plain.0 plain.1 same is

-- a token that is of a class and has a word is of the word's class
pub class_of_word : (class other : Class) (token : Token) → IsWords other → IsClass token class → IsClass token other → class ≡ other
class_of_word class other token p is same = let plain = word_plain other p in is_class other class token plain.0 plain.1 same is

-- a token that is of a class and is a name is of the class of names
pub class_of_name : (class : Class) (token : Token) → IsClass token class → IsName token → class ≡ Class.Name
class_of_name class token is name = name_is class token name is

-- a token that is of a class and is a number is of the class of the number
pub class_of_number : (class : Class) (token : Token) (n : ℕ) → IsClass token class → IsNumber token n → class ≡ Class.Number n
class_of_number class token n is number =
    let own = number_is class token n number is in
    let spelled : IsNumber token own.0 = subst (IsClass token) own.1 is in
    own.1 ∙ ap Class.Number (one_number spelled number)
