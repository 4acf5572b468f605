-- How readers take tokens, one by one. What a reader is at is a relation `now tokens rest x`: these tokens, up to the rest, complete what it has read to x.
use Rattle.std.specs.Prelude.{◌≡◌, ℕ, [], ◌∷◌}
use Rattle.mc_base.specs.declared.text.token.Token.{Token}
use Rattle.mc_c_syntax.specs.Ast.Names.{Tokens, IsNumber}
use Rattle.mc_c_syntax.specs.Ast.Readers.{Closes, IsStuckAt}
use Rattle.mc_def_parse.specs.Symbols.{symbol_of}
use Rattle.mc_def_parse.specs.declared.symbols.Symbol.{Symbol}
use Rattle.mc_def_parse.specs.declared.step.Step.{Step}
use Rattle.mc_def_parse.specs.declared.step.Step.TheVariants.{Taken, Closed, Stuck}

-- the reader takes the token: what completes it then completes it now with the token before it, and nothing else does
pub record Takes {X : Type 0} (now later : Tokens → Tokens → X → Type 0) (token : Token) : Type 0 where
  pub forward : (tokens rest : Tokens) (x : X) → now (token ∷ tokens) rest x → later tokens rest x
  pub backward : (tokens rest : Tokens) (x : X) → later tokens rest x → now (token ∷ tokens) rest x

-- the step is that of a reader at this token, which is complete with what the second function makes of the answer
abbrev pub StepIs : {R X Y : Type 0} → (R → Tokens → Tokens → Y → Type 0) → (X → Y) → (Tokens → Tokens → Y → Type 0)
    → Token → Step R X → Type 0
StepIs completes give now token (Taken reader) = Takes now (completes reader) token
StepIs completes give now token (Closed x) = Closes now token (give x)
StepIs completes give now token Stuck = IsStuckAt now token

-- the tokens begin with those of an `a`, and go on as the second says of it
abbrev pub Then : {A X : Type 0} → (Tokens → Tokens → A → Type 0) → (A → Tokens → Tokens → X → Type 0) → Tokens → Tokens → X → Type 0
Then {A} first second tokens rest x = (a : A) × (mid : Tokens) × first tokens mid a × second a mid rest x

-- the first token is such a one, and what is after it goes on as the second says
abbrev pub First : {X : Type 0} → (Token → Type 0) → (Token → Tokens → Tokens → X → Type 0) → Tokens → Tokens → X → Type 0
First such second [] rest x = ⊥
First such second (token ∷ tokens) rest x = such token × second token tokens rest x

-- by what the first token is
abbrev pub BySymbol : {X : Type 0} → (Symbol → Token → Tokens → Tokens → X → Type 0) → Tokens → Tokens → X → Type 0
BySymbol behind [] rest x = ⊥
BySymbol behind (token ∷ tokens) rest x = behind (symbol_of token) token tokens rest x

-- the first token is a number
abbrev pub FirstNumber : {X : Type 0} → (ℕ → Token → Tokens → Tokens → X → Type 0) → Tokens → Tokens → X → Type 0
FirstNumber second [] rest x = ⊥
FirstNumber second (token ∷ tokens) rest x = (n : ℕ) × IsNumber token n × second n token tokens rest x

-- nothing more is read: it is this
abbrev pub Gives : {X : Type 0} → X → Tokens → Tokens → X → Type 0
Gives x tokens rest y = (rest ≡ tokens) × (y ≡ x)
