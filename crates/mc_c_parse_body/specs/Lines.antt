-- What completes a declaration or a simple statement with its `;`, or a `;` alone.
use Rattle.std.specs.Prelude.{ℕ, List, [], ◌∷◌}
use Rattle.mc_base.specs.declared.text.token.Token.{Token}
use Rattle.mc_base.specs.declared.text.token.TokenKind.TheVariants as TokenKind
use Rattle.mc_c_syntax.specs.declared.ast.class.Class.TheVariants as Class
use Rattle.mc_c_syntax.specs.declared.ast.trees.Name.{Name}
use Rattle.mc_c_syntax.specs.declared.ast.trees.Base.TheVariants as Base
use Rattle.mc_c_syntax.specs.Ast.Names.{Tokens, IsName, name_of}
use Rattle.mc_c_syntax.specs.Ast.Trees.{DeclarationTree, SimpleTree, Start, declares, performs}
use Rattle.mc_c_syntax.specs.Ast.Views.{start_of}
use Rattle.mc_c_syntax.specs.Ast.Grammar.{IsSimple}
use Rattle.mc_c_syntax.specs.Ast.Readers.{Takes, Closes, IsStuckAt}
use Rattle.mc_c_parse_expr.specs.Turns.{InTurn}
use Rattle.mc_c_parse_simple.specs.Phrases.{Ended, Next, Either}
use Rattle.mc_c_parse_simple.specs.Declarations.{BehindBase, CompletesDeclaration}
use Rattle.mc_c_parse_simple.specs.Simples.{CompletesSimple}
use Rattle.mc_c_parse_body.specs.Phrases.{Expects, Starts}
use Rattle.mc_c_parse_body.specs.declared.line.LineReader.{LineReader}
use Rattle.mc_c_parse_body.specs.declared.line.LineStep.{LineStep}

-- the declaration is the line
abbrev pub DeclarationLine : (Tokens → Tokens → DeclarationTree → Type 0) → Tokens → Tokens → Start → Type 0
DeclarationLine inner = InTurn inner (λ d. Ended (declares d))

-- after a simple statement
abbrev pub BehindSimple : SimpleTree → Tokens → Tokens → Start → Type 0
BehindSimple s = Expects (Class.Semicolon ∷ []) (Ended (performs s))

-- the simple statement is the line, after its `;`
abbrev pub SimpleLine : (Tokens → Tokens → SimpleTree → Type 0) → Tokens → Tokens → Start → Type 0
SimpleLine inner = InTurn inner BehindSimple

-- the token that a name is
abbrev pub token_of : Name → Token
token_of name = record { kind = TokenKind.Name; text = name.text; place = name.place }

-- after a name with which a simple statement begins
abbrev pub BehindName : List (List ℕ) → Name → Tokens → Tokens → SimpleTree → Type 0
BehindName aliases name tokens rest s = IsSimple aliases s (token_of name ∷ tokens) rest

-- the tokens complete what was read of a line
abbrev pub CompletesLine : List (List ℕ) → LineReader → Tokens → Tokens → Start → Type 0
CompletesLine aliases LineReader.Start = Starts aliases
CompletesLine aliases (LineReader.Struct place) = Next IsName
    (λ name. DeclarationLine (BehindBase aliases (Base.Struct place (name_of name))))
CompletesLine aliases (LineReader.Alias known) = Either
    (DeclarationLine (BehindBase aliases (Base.Alias known.name))) (SimpleLine (BehindName aliases known.name))
CompletesLine aliases (LineReader.Declaration reader) = DeclarationLine (CompletesDeclaration aliases reader.value)
CompletesLine aliases (LineReader.Simple reader) = SimpleLine (CompletesSimple aliases reader.value)

-- what a step of the reader says
abbrev pub IsLineStep : (Tokens → Tokens → Start → Type 0) → (Tokens → Tokens → Start → Type 0) → Token → LineStep → Type 0
IsLineStep now behind token LineStep.Taken = Takes [] now behind token
IsLineStep now behind token (LineStep.Closed start) = Closes now token (start_of start)
IsLineStep now behind token LineStep.Stuck = IsStuckAt now token
