-- What a token does to a base.
use Rattle.std.proofs.Common.{◌≡◌, ℕ, List, [], ◌∷◌, ◌⊎◌, inl, refl, codes, IsTrue}
use native.Mathlib.Omega.{arith}
use Rattle.mc_base.specs.declared.text.token.Token.{Token}
use Rattle.mc_c_syntax.specs.declared.ast.trees.Base.{Base}
use Rattle.mc_c_syntax.specs.Ast.Names.{Tokens, IsWord, IsAlias, name_of, is_in}
use Rattle.mc_c_syntax.specs.Ast.Grammar.{IsBase, int, tagged, alias}
use Rattle.mc_c_syntax.specs.Ast.Readers.{Takes, Closes, IsStuckAt}
use Rattle.mc_c_parse_simple.specs.Phrases.{next, ended}
use Rattle.mc_c_parse_simple.specs.Bases.{Bases, BehindStruct}
use Rattle.mc_c_parse_simple.proofs.Tokens.{name_no_word}

pub base_int : (aliases : List (List ℕ)) {token : Token} → IsWord (codes "int") token → Closes (Bases aliases) token (Base.Int token.place)
base_int aliases {token} is = record { forward = go; backward = λ tokens. int is }
  where
    go : (tokens rest : Tokens) (y : Base) → IsBase aliases y (token ∷ tokens) rest → (rest ≡ tokens) × (y ≡ Base.Int token.place)
    go tokens rest y (int w) = (refl, refl)
    go tokens rest y (tagged w n) = grind arith
    go tokens rest y (alias a) = absurd (name_no_word a.name is refl)

pub base_struct : (aliases : List (List ℕ)) {token : Token} → IsWord (codes "struct") token → Takes [] (Bases aliases) (BehindStruct token.place) token
base_struct aliases {token} is = record { forward = go; backward = back }
  where
    go : (tokens rest : Tokens) (y : Base) → IsBase aliases y (token ∷ tokens) rest → BehindStruct token.place tokens rest y ⊎ ((rest ≡ token ∷ tokens) × IsTrue (is_in [] token.text))
    go tokens rest y (int w) = grind arith
    go tokens rest y (tagged w n) = inl (next n ended)
    go tokens rest y (alias a) = absurd (name_no_word a.name is refl)

    back : (tokens rest : Tokens) (y : Base) → BehindStruct token.place tokens rest y → IsBase aliases y (token ∷ tokens) rest
    back tokens rest y (next n ended) = tagged is n

pub base_alias : (aliases : List (List ℕ)) {token : Token} → IsAlias aliases token → Closes (Bases aliases) token (Base.Alias (name_of token))
base_alias aliases {token} is = record { forward = go; backward = λ tokens. alias is }
  where
    go : (tokens rest : Tokens) (y : Base) → IsBase aliases y (token ∷ tokens) rest → (rest ≡ tokens) × (y ≡ Base.Alias (name_of token))
    go tokens rest y (int w) = absurd (name_no_word is.name w refl)
    go tokens rest y (tagged w n) = absurd (name_no_word is.name w refl)
    go tokens rest y (alias a) = (refl, refl)

-- nothing else begins a base
pub base_stuck : (aliases : List (List ℕ)) {token : Token} → ¬ IsWord (codes "int") token → ¬ IsWord (codes "struct") token → ¬ IsAlias aliases token → IsStuckAt (Bases aliases) token
base_stuck aliases no_int no_struct no_alias tokens rest y (int w) = no_int w
base_stuck aliases no_int no_struct no_alias tokens rest y (tagged w n) = no_struct w
base_stuck aliases no_int no_struct no_alias tokens rest y (alias a) = no_alias a
