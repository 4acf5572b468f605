-- The transitions of a base.
use native.Mathlib.Omega.{arith}
use Rattle.std.proofs.Common.{◌≡◌, ℕ, List, [], ◌∷◌, refl, inl}
use Rattle.std.specs.Prelude.{codes, false}
use Rattle.mc_base.specs.declared.text.place.Place.{Place}
use Rattle.mc_base.specs.declared.text.token.Token.{Token}
use Rattle.mc_base.specs.declared.text.token.TokenKind.TheVariants as TokenKind
use Rattle.mc_c_syntax.specs.declared.ast.class.Class.{Class}
use Rattle.mc_c_syntax.specs.declared.ast.trees.Base.{Base}
use Rattle.mc_c_syntax.specs.Ast.Names.{Tokens, IsWord, IsName, IsAlias, is_in, name_of}
use Rattle.mc_c_syntax.specs.Ast.Classes.{IsClass}
use Rattle.mc_c_syntax.specs.Ast.Grammar.{IsBase, int, tagged, alias}
use Rattle.mc_c_syntax.specs.Ast.Readers.{Takes, Closes, IsStuckAt}
use Rattle.mc_c_parse.specs.declared.base.BaseReader.{BaseReader}
use Rattle.mc_c_parse.specs.Bases.{CompletesBase, IsTag, tag}
use Rattle.mc_c_parse.proofs.Marks.{only_int, only_struct, only_name}

pub behind_int : {aliases : List (List ℕ)} {token : Token} {base : Base} {tokens rest : Tokens} → IsWord (codes "int") token → IsBase aliases base (token ∷ tokens) rest → (rest ≡ tokens) × (base ≡ Base.Int token.place)
behind_int w (int v) = (refl, refl)
behind_int w (tagged v n) = grind arith
behind_int w (alias a) = grind arith

pub base_int : {aliases : List (List ℕ)} {token : Token} → IsWord (codes "int") token → Closes (CompletesBase aliases BaseReader.Start) token (Base.Int token.place)
base_int w = record { forward = λ tokens rest base b. behind_int w b; backward = λ tokens. int w }

behind_struct : {aliases : List (List ℕ)} {token : Token} {base : Base} {tokens rest : Tokens} → IsWord (codes "struct") token → IsBase aliases base (token ∷ tokens) rest → IsTag token.place tokens rest base
behind_struct w (int v) = grind arith
behind_struct w (tagged v n) = tag n
behind_struct w (alias a) = grind arith

before_tag : {aliases : List (List ℕ)} {token : Token} {base : Base} {tokens rest : Tokens} → IsWord (codes "struct") token → IsTag token.place tokens rest base → IsBase aliases base (token ∷ tokens) rest
before_tag w (tag n) = tagged w n

pub base_struct : {aliases : List (List ℕ)} {token : Token} → IsWord (codes "struct") token → Takes [] (CompletesBase aliases BaseReader.Start) (CompletesBase aliases (BaseReader.Tag token.place)) token
base_struct w = record { forward = λ tokens rest base b. inl (behind_struct w b); backward = λ tokens rest base t. before_tag w t }

pub behind_alias : {aliases : List (List ℕ)} {token : Token} {base : Base} {tokens rest : Tokens} → IsName token → IsBase aliases base (token ∷ tokens) rest → (rest ≡ tokens) × (base ≡ Base.Alias (name_of token))
behind_alias w (int v) = grind arith
behind_alias w (tagged v n) = grind arith
behind_alias w (alias a) = (refl, refl)

pub base_alias : {aliases : List (List ℕ)} {token : Token} → IsAlias aliases token → Closes (CompletesBase aliases BaseReader.Start) token (Base.Alias (name_of token))
base_alias a = record { forward = λ tokens rest base b. behind_alias a.name b; backward = λ tokens. alias a }

pub no_base : {aliases : List (List ℕ)} {token : Token} {base : Base} {tokens rest : Tokens} (class : Class) → IsClass token class → (class ≡ Class.Int → ⊥) → (class ≡ Class.Struct → ⊥) → (class ≡ Class.Name → is_in aliases token.text ≡ false) → IsBase aliases base (token ∷ tokens) rest → ⊥
no_base class c not_int not_struct not_alias (int v) = not_int (only_int class c v)
no_base class c not_int not_struct not_alias (tagged v n) = not_struct (only_struct class c v)
no_base class c not_int not_struct not_alias (alias a) = let known = a.known in let unknown = not_alias (only_name class c a.name) in grind arith

pub base_stuck : {aliases : List (List ℕ)} {token : Token} (class : Class) → IsClass token class → (class ≡ Class.Int → ⊥) → (class ≡ Class.Struct → ⊥) → (class ≡ Class.Name → is_in aliases token.text ≡ false) → IsStuckAt (CompletesBase aliases BaseReader.Start) token
base_stuck class c not_int not_struct not_alias = λ tokens rest base b. no_base class c not_int not_struct not_alias b

behind_tag : {place : Place} {token : Token} {base : Base} {tokens rest : Tokens} → IsTag place (token ∷ tokens) rest base → (rest ≡ tokens) × (base ≡ Base.Struct place (name_of token))
behind_tag (tag n) = (refl, refl)

pub tag_name : (aliases : List (List ℕ)) → {place : Place} {token : Token} → IsName token → Closes (CompletesBase aliases (BaseReader.Tag place)) token (Base.Struct place (name_of token))
tag_name aliases n = record { forward = λ tokens rest base t. behind_tag t; backward = λ tokens. tag n }

no_tag : {place : Place} {token : Token} {base : Base} {tokens rest : Tokens} (class : Class) → IsClass token class → (class ≡ Class.Name → ⊥) → IsTag place (token ∷ tokens) rest base → ⊥
no_tag class c not_name (tag n) = not_name (only_name class c n)

pub tag_stuck : (aliases : List (List ℕ)) → {place : Place} {token : Token} (class : Class) → IsClass token class → (class ≡ Class.Name → ⊥) → IsStuckAt (CompletesBase aliases (BaseReader.Tag place)) token
tag_stuck aliases class c not_name = λ tokens rest base t. no_tag class c not_name t

pub mark_no_base : {aliases : List (List ℕ)} {base : Base} {token : Token} {tokens rest : Tokens} → token.kind ≡ TokenKind.Mark → IsBase aliases base (token ∷ tokens) rest → ⊥
mark_no_base m (int v) = grind arith
mark_no_base m (tagged v n) = grind arith
mark_no_base m (alias a) = grind arith

pub void_no_base : {aliases : List (List ℕ)} {base : Base} {token : Token} {tokens rest : Tokens} → IsWord (codes "void") token → IsBase aliases base (token ∷ tokens) rest → ⊥
void_no_base w (int v) = grind arith
void_no_base w (tagged v n) = grind arith
void_no_base w (alias a) = grind arith

pub static_no_base : {aliases : List (List ℕ)} {base : Base} {token : Token} {tokens rest : Tokens} → IsWord (codes "static") token → IsBase aliases base (token ∷ tokens) rest → ⊥
static_no_base w (int v) = grind arith
static_no_base w (tagged v n) = grind arith
static_no_base w (alias a) = grind arith

pub typedef_no_base : {aliases : List (List ℕ)} {base : Base} {token : Token} {tokens rest : Tokens} → IsWord (codes "typedef") token → IsBase aliases base (token ∷ tokens) rest → ⊥
typedef_no_base w (int v) = grind arith
typedef_no_base w (tagged v n) = grind arith
typedef_no_base w (alias a) = grind arith
