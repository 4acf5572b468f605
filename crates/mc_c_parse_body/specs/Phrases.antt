-- Tokens of given classes in turn, and the grammar's relations in the order of readers.
use Rattle.std.specs.Prelude.{ℕ, List, [], ◌∷◌, Option, Some, None}
use Rattle.mc_c_syntax.specs.declared.ast.class.Class.{Class}
use Rattle.mc_c_syntax.specs.Ast.Classes.{IsClass}
use Rattle.mc_base.specs.declared.text.token.Token.{Token}
use Rattle.mc_c_syntax.specs.Ast.Names.{Tokens}
use Rattle.mc_c_syntax.specs.Ast.Trees.{Expr, Cond, Start, SimpleTree, Stmt}
use Rattle.mc_c_syntax.specs.Ast.Grammar.{IsSum, IsCondition, IsStart, IsMaybeCondition, IsMaybeSimple, IsStatement, MoreStatements}
use Rattle.mc_c_parse_simple.specs.Phrases.{Next}
use Rattle.mc_c_parse_body.specs.declared.phrase.Phrase.{Phrase}

-- tokens of these classes in turn, and what follows them
abbrev pub Expects : {Y : Type 0} → List Class → (Tokens → Tokens → Y → Type 0) → Tokens → Tokens → Y → Type 0
Expects [] next = next
Expects (class ∷ classes) next = Next (λ token. IsClass token class) (λ token. Expects classes next)

-- the class of a phrase's first token
abbrev pub first_of : Phrase → Class
first_of Phrase.Semicolon = Class.Semicolon
first_of Phrase.Open = Class.OpenParen
first_of Phrase.Close = Class.CloseParen
first_of Phrase.CloseSemicolon = Class.CloseParen
first_of Phrase.OpenCloseSemicolon = Class.OpenParen
first_of Phrase.WhileOpen = Class.While

-- the classes of a phrase's tokens
abbrev pub classes_of : Phrase → List Class
classes_of Phrase.Semicolon = Class.Semicolon ∷ []
classes_of Phrase.Open = Class.OpenParen ∷ []
classes_of Phrase.Close = Class.CloseParen ∷ []
classes_of Phrase.CloseSemicolon = Class.CloseParen ∷ Class.Semicolon ∷ []
classes_of Phrase.OpenCloseSemicolon = Class.OpenParen ∷ Class.CloseParen ∷ Class.Semicolon ∷ []
classes_of Phrase.WhileOpen = Class.While ∷ Class.OpenParen ∷ []

-- the classes that are still to come
abbrev pub expected_of : Option Phrase → List Class
expected_of None = []
expected_of (Some phrase) = classes_of phrase

abbrev pub Sums : Tokens → Tokens → Expr → Type 0
Sums tokens rest e = IsSum e tokens rest

abbrev pub Conditions : Tokens → Tokens → Cond → Type 0
Conditions tokens rest c = IsCondition c tokens rest

abbrev pub MaybeConditions : Tokens → Tokens → Option Cond → Type 0
MaybeConditions tokens rest c = IsMaybeCondition c tokens rest

abbrev pub MaybeSimples : List (List ℕ) → Tokens → Tokens → Option SimpleTree → Type 0
MaybeSimples aliases tokens rest s = IsMaybeSimple aliases s tokens rest

abbrev pub Starts : List (List ℕ) → Tokens → Tokens → Start → Type 0
Starts aliases tokens rest start = IsStart aliases start tokens rest

abbrev pub Statements : List (List ℕ) → Tokens → Tokens → Stmt → Type 0
Statements aliases tokens rest s = IsStatement aliases s tokens rest

-- statements after those that are there
abbrev pub Listed : List (List ℕ) → List Stmt → Tokens → Tokens → List Stmt → Type 0
Listed aliases before tokens rest ss = MoreStatements aliases before tokens ss rest

-- two phrases say the same of tokens that begin with this one
pub record AgreeAt {X : Type 0} (now other : Tokens → Tokens → X → Type 0) (token : Token) : Type 0 where
  pub forward : (tokens rest : Tokens) (x : X) → now (token ∷ tokens) rest x → other (token ∷ tokens) rest x
  pub backward : (tokens rest : Tokens) (x : X) → other (token ∷ tokens) rest x → now (token ∷ tokens) rest x
