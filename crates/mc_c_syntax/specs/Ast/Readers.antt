-- How readers take tokens, one by one. What a reader is at is a relation `now tokens rest x`: these tokens, up to the rest, complete what it has read to x.
use Rattle.std.specs.Prelude.{◌≡◌, ℕ, List, ◌∷◌, ◌++◌, ◌⊎◌, IsTrue}
use Rattle.mc_base.specs.declared.text.token.Token.{Token}
use Rattle.mc_c_syntax.specs.Ast.Names.{Tokens, is_in}

-- the reader takes the token: what completes it then completes it now with the token before it, and nothing else does; only these marks go on where it was complete
pub record Takes {X : Type 0} (marks : List (List ℕ)) (now later : Tokens → Tokens → X → Type 0) (token : Token) : Type 0 where
  pub forward : (tokens rest : Tokens) (x : X) → now (token ∷ tokens) rest x → later tokens rest x
      ⊎ ((rest ≡ token ∷ tokens) × IsTrue (is_in marks token.text))
  pub backward : (tokens rest : Tokens) (x : X) → later tokens rest x → now (token ∷ tokens) rest x

-- the reader is complete before the token, with this and nothing else, and the token can't go on
pub record Finds {X : Type 0} (now : Tokens → Tokens → X → Type 0) (token : Token) (x : X) : Type 0 where
  pub forward : (tokens rest : Tokens) (y : X) → now (token ∷ tokens) rest y → (rest ≡ token ∷ tokens) × (y ≡ x)
  pub backward : (tokens : Tokens) → now (token ∷ tokens) (token ∷ tokens) x

-- the reader is complete after the token, with this and nothing else
pub record Closes {X : Type 0} (now : Tokens → Tokens → X → Type 0) (token : Token) (x : X) : Type 0 where
  pub forward : (tokens rest : Tokens) (y : X) → now (token ∷ tokens) rest y → (rest ≡ tokens) × (y ≡ x)
  pub backward : (tokens : Tokens) → now (token ∷ tokens) tokens x

-- nothing that begins with the token completes the reader, and it is not complete
abbrev pub IsStuckAt : {X : Type 0} → (Tokens → Tokens → X → Type 0) → Token → Type 0
IsStuckAt {X} now token = (tokens rest : Tokens) (x : X) → ¬ now (token ∷ tokens) rest x

-- two relations say the same
pub record IsSame {X : Type 0} (now other : Tokens → Tokens → X → Type 0) : Type 0 where
  pub forward : (tokens rest : Tokens) (x : X) → now tokens rest x → other tokens rest x
  pub backward : (tokens rest : Tokens) (x : X) → other tokens rest x → now tokens rest x

-- some tokens complete the reader, whatever stands after them
pub record CanEnd {X : Type 0} (now : Tokens → Tokens → X → Type 0) : Type 0 where
  pub more : Tokens
  pub tree : X
  pub completes : (rest : Tokens) → now (more ++ rest) rest tree
