-- Which tokens are what.
use Rattle.std.specs.Prelude.{◌≡◌, ◌≤◌, ℕ, List, [], ◌∷◌, ◌==◌, Bool, IsTrue, codes}
use Rattle.std.specs.Bool.{IsFalse}
use Rattle.std.specs.List.{list_any}
use lib.Pointwise.{pointwise}
use Rattle.mc_base.specs.declared.text.token.Token.{Token}
use Rattle.mc_base.specs.declared.text.token.TokenKind.TheVariants as TokenKind
use Rattle.mc_base.specs.Text.Numbers as Numbers
use Rattle.mc_c_syntax.specs.declared.ast.trees.Name.{Name}
use Rattle.mc_c_syntax.specs.declared.ast.trees.Comparison.{Comparison}
use Rattle.mc_c_syntax.specs.declared.ast.trees.Comparison.TheVariants.{Equal, Unequal, Below, AtMost, Above, AtLeast}

abbrev pub Tokens : Type 0
Tokens = List Token

-- the keywords of C17, and the words that the language keeps for itself
abbrev pub reserved_words : List (List ℕ)
reserved_words =
    codes "auto" ∷ codes "break" ∷ codes "case" ∷ codes "char" ∷ codes "const" ∷ codes "continue" ∷ codes "default" ∷ codes "do"
    ∷ codes "double" ∷ codes "else" ∷ codes "enum" ∷ codes "extern" ∷ codes "float" ∷ codes "for" ∷ codes "goto" ∷ codes "if"
    ∷ codes "inline" ∷ codes "int" ∷ codes "long" ∷ codes "register" ∷ codes "restrict" ∷ codes "return" ∷ codes "short" ∷ codes "signed"
    ∷ codes "sizeof" ∷ codes "static" ∷ codes "struct" ∷ codes "switch" ∷ codes "typedef" ∷ codes "union" ∷ codes "unsigned" ∷ codes "void"
    ∷ codes "volatile" ∷ codes "while" ∷ codes "_Alignas" ∷ codes "_Alignof" ∷ codes "_Atomic" ∷ codes "_Bool"
    ∷ codes "_Complex" ∷ codes "_Generic"
    ∷ codes "_Imaginary" ∷ codes "_Noreturn" ∷ codes "_Static_assert" ∷ codes "_Thread_local"
    ∷ codes "NULL" ∷ codes "malloc" ∷ codes "free" ∷ codes "input" ∷ codes "assert" ∷ codes "assume"
    ∷ codes "assume_shape" ∷ codes "assert_shape" ∷ codes "assert_empty" ∷ []

-- two words are the same
abbrev pub is_same : List ℕ → List ℕ → Bool
is_same = pointwise ◌==◌

-- the word stands in the list
abbrev pub is_in : List (List ℕ) → List ℕ → Bool
is_in words word = list_any (is_same word) words

abbrev pub is_reserved : List ℕ → Bool
is_reserved word = is_in reserved_words word

-- the token is this mark
pub record IsMark (mark : List ℕ) (token : Token) : Type 0 where
  pub kind : token.kind ≡ TokenKind.Mark
  pub text : token.text ≡ mark

-- the token is this reserved word
pub record IsWord (word : List ℕ) (token : Token) : Type 0 where
  pub kind : token.kind ≡ TokenKind.Name
  pub text : token.text ≡ word

-- the token is a name
pub record IsName (token : Token) : Type 0 where
  pub kind : token.kind ≡ TokenKind.Name
  pub free : IsFalse (is_reserved token.text)

-- the token is this number
pub record IsNumber (token : Token) (n : ℕ) : Type 0 where
  pub kind : token.kind ≡ TokenKind.Number
  pub spelled : Numbers.Spells token.text n
  pub small : n ≤ Numbers.max_number

-- the token is a name that a typedef introduced
pub record IsAlias (aliases : List (List ℕ)) (token : Token) : Type 0 where
  pub name : IsName token
  pub known : IsTrue (is_in aliases token.text)

-- the name that a token is
abbrev pub name_of : Token → Name
name_of token = record { text = token.text; place = token.place }

-- the marks of comparisons
abbrev pub mark_of : Comparison → List ℕ
mark_of Equal = codes "=="
mark_of Unequal = codes "!="
mark_of Below = codes "<"
mark_of AtMost = codes "<="
mark_of Above = codes ">"
mark_of AtLeast = codes ">="

-- the tokens do not begin with `else`
abbrev pub IsNoElse : Tokens → Type 0
IsNoElse [] = Unit {0}
IsNoElse (token ∷ tokens) = ¬ IsWord (codes "else") token
