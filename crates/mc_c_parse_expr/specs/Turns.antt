-- How relations on tokens follow one another.
use Rattle.std.specs.Prelude.{ℕ, List, ◌∷◌}
use Rattle.mc_base.specs.declared.text.token.Token.{Token}
use Rattle.mc_c_syntax.specs.Ast.Names.{Tokens, IsMark}

-- the first up to some token, and from there the next
pub data InTurn {X Y : Type 0} (first : Tokens → Tokens → X → Type 0) (next : X → Tokens → Tokens → Y → Type 0)
    (tokens rest : Tokens) (y : Y) : Type 0 where
  in_turn : {x : X} {mid : Tokens} → first tokens mid x → next x mid rest y → InTurn first next tokens rest y

-- the tokens begin with this mark, and go on with the rest
pub data Marked (mark : List ℕ) : Tokens → Tokens → Type 0 where
  marked : {token : Token} {tokens : Tokens} → IsMark mark token → Marked mark (token ∷ tokens) tokens

-- the reader takes the token: what completes it then completes it now with the token before it, and nothing else does
pub record Moves {X : Type 0} (now later : Tokens → Tokens → X → Type 0) (token : Token) : Type 0 where
  pub forward : (tokens rest : Tokens) (x : X) → now (token ∷ tokens) rest x → later tokens rest x
  pub backward : (tokens rest : Tokens) (x : X) → later tokens rest x → now (token ∷ tokens) rest x
