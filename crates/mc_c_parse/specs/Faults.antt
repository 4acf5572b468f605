-- The first token that no program can have where it stands.
use Rattle.std.specs.Prelude.{◌≡◌, ℕ, List, [], ◌∷◌, ◌++◌, ◌⊎◌, IsTrue, codes}
use Rattle.mc_base.specs.declared.text.token.Token.{Token}
use Rattle.mc_base.specs.declared.text.token.TokenKind.TheVariants as TokenKind
use Rattle.mc_c_syntax.specs.Ast.Names.{Tokens, IsMark, IsName, is_in}
use Rattle.mc_c_syntax.specs.Ast.Trees.{UnitTree}
use Rattle.mc_c_syntax.specs.Ast.Grammar.{IsUnit}
use Rattle.mc_c_parse.specs.declared.fault.ParseFault.{ParseFault}
use Rattle.mc_c_parse.specs.declared.fault.ParseFault.TheVariants.{Unexpected, LeftOut, NoMemory}

-- the tokens of some program begin with these
pub record CanBegin (tokens : Tokens) : Type 0 where
  pub more : Tokens
  pub unit : UnitTree
  pub spells : IsUnit unit (tokens ++ more)

-- the tokens go on with this one after those that some program begins with, and no program does
pub record StopsAt (tokens before : Tokens) (token : Token) : Type 0 where
  pub after : Tokens
  pub split : tokens ≡ before ++ token ∷ after
  pub viable : CanBegin before
  pub stuck : CanBegin (before ++ token ∷ []) → ⊥

-- the tokens spell this program, and no other
pub record IsOnlyUnit (unit : UnitTree) (tokens : Tokens) : Type 0 where
  pub spells : IsUnit unit tokens
  pub only : (other : UnitTree) → IsUnit other tokens → other ≡ unit

-- the words and marks of C that the language leaves out
abbrev pub left_out : List (List ℕ)
left_out =
    codes "goto" ∷ codes "switch" ∷ codes "case" ∷ codes "union" ∷ codes "enum" ∷ codes "char" ∷ codes "short" ∷ codes "long"
    ∷ codes "unsigned" ∷ codes "signed" ∷ codes "float" ∷ codes "double" ∷ codes "const" ∷ codes "volatile" ∷ codes "extern"
    ∷ codes "[" ∷ codes "&" ∷ codes "/" ∷ codes "%" ∷ codes "<<" ∷ codes ">>" ∷ codes "?" ∷ codes "." ∷ codes "|"
    ∷ codes "^" ∷ codes "~" ∷ codes "#" ∷ codes "\"" ∷ codes "'" ∷ []

-- this mark in the place of a token
abbrev pub as_mark : List ℕ → Token → Token
as_mark text token = record { kind = TokenKind.Mark; text = text; place = token.place }

-- a name in the place of a token
abbrev pub as_name : Token → Token
as_name token = record { kind = TokenKind.Name; text = codes "x"; place = token.place }

-- this mark could stand in the place of the token
abbrev pub CanStand : Tokens → List ℕ → Token → Type 0
CanStand before text token = CanBegin (before ++ as_mark text token ∷ [])

-- the last token is a name
pub record EndsWithName (before : Tokens) : Type 0 where
  pub first : Tokens
  pub name : Token
  pub split : before ≡ first ++ name ∷ []
  pub is_name : IsName name

-- a call within an expression: `(` after a name, where `+` or `&&` could stand
pub record IsInnerCall (before : Tokens) (token : Token) : Type 0 where
  pub mark : IsMark (codes "(") token
  pub behind : EndsWithName before
  pub within : CanStand before (codes "+") token ⊎ CanStand before (codes "&&") token

-- a name could stand in the place of a `*`, with a `,` or a `(` in that of the token after it
abbrev pub DeclaresBehind : Tokens → Token → Token → Type 0
DeclaresBehind first star token = CanBegin (first ++ as_name star ∷ as_mark (codes ",") token ∷ [])
    ⊎ CanBegin (first ++ as_name star ∷ as_mark (codes "(") token ∷ [])

-- a pointer to a pointer: `*` after the `*` of a declarator or a result, where a name could stand with a `,` or a `(` after it
pub record IsInnerPointer (before : Tokens) (token : Token) : Type 0 where
  pub mark : IsMark (codes "*") token
  pub first : Tokens
  pub star : Token
  pub split : before ≡ first ++ star ∷ []
  pub pointer : IsMark (codes "*") star
  pub declares : DeclaresBehind first star token

-- the parameters of a function could stand here, or the end of fields or of a typedef
abbrev pub IsOutside : Tokens → Token → Type 0
IsOutside before token = (CanStand before (codes "(") token × (CanStand before (codes "=") token → ⊥))
    ⊎ (CanStand before (codes ",") token × CanStand before (codes ";") token)

-- a variable outside every function, or a value of one: `;`, `=` or `,` after a name that is no expression
pub record IsOuterVariable (before : Tokens) (token : Token) : Type 0 where
  pub mark : IsTrue (is_in (codes ";" ∷ codes "=" ∷ codes "," ∷ []) token.text)
  pub behind : EndsWithName before
  pub no_operand : CanStand before (codes "+") token → ⊥
  pub outside : IsOutside before token

-- the token is a part of C that the language leaves out
pub data IsLeftOut (before : Tokens) (token : Token) : Type 0 where
  everywhere : IsTrue (is_in left_out token.text) → IsLeftOut before token
  inner_call : IsInnerCall before token → IsLeftOut before token
  inner_pointer : IsInnerPointer before token → IsLeftOut before token
  outer_variable : IsOuterVariable before token → IsLeftOut before token

-- the fault has the place of this token, and says whether it is left out
abbrev pub IsFaultAt : Tokens → Token → ParseFault → Type 0
IsFaultAt before token (Unexpected place) = (place ≡ token.place) × (IsLeftOut before token → ⊥)
IsFaultAt before token (LeftOut text place) = (place ≡ token.place) × (text ≡ token.text) × IsLeftOut before token
IsFaultAt before token NoMemory = Unit {0}

-- the fault is at the first token that no program can have there
abbrev pub IsFaultOf : Tokens → ParseFault → Type 0
IsFaultOf tokens (Unexpected place) = (before : Tokens) × (token : Token) × StopsAt tokens before token
    × IsFaultAt before token (Unexpected place)
IsFaultOf tokens (LeftOut text place) = (before : Tokens) × (token : Token) × StopsAt tokens before token
    × IsFaultAt before token (LeftOut text place)
IsFaultOf tokens NoMemory = Unit {0}

-- no token is the end of the text
abbrev pub HasNoEnd : Tokens → Type 0
HasNoEnd [] = Unit {0}
HasNoEnd (token ∷ tokens) = (token.kind ≡ TokenKind.End → ⊥) × HasNoEnd tokens
