-- Phrases put together from smaller ones. A phrase is a relation: these tokens, up to the rest, spell this tree.
use Rattle.std.specs.Prelude.{◌∷◌, ◌⊎◌}
use Rattle.mc_base.specs.declared.text.token.Token.{Token}
use Rattle.mc_c_syntax.specs.Ast.Names.{Tokens}

-- no token more: the tree is there
pub data Ended {Y : Type 0} (y : Y) : Tokens → Tokens → Y → Type 0 where
  ended : {tokens : Tokens} → Ended y tokens tokens y

-- such a token, and what follows it
pub data Next {Y : Type 0} (Is : Token → Type 0) (later : Token → Tokens → Tokens → Y → Type 0) : Tokens → Tokens → Y → Type 0 where
  next : {token : Token} {tokens rest : Tokens} {y : Y} → Is token → later token tokens rest y → Next Is later (token ∷ tokens) rest y

-- one phrase or the other
abbrev pub Either : {Y : Type 0} → (Tokens → Tokens → Y → Type 0) → (Tokens → Tokens → Y → Type 0) → Tokens → Tokens → Y → Type 0
Either one other tokens rest y = one tokens rest y ⊎ other tokens rest y
