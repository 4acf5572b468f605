-- The transitions of heads of functions.
use native.Mathlib.Omega.{arith}
use Rattle.std.proofs.Common.{◌≡◌, ℕ, List, [], ◌∷◌, Some, None, refl, inl}
use Rattle.std.specs.Prelude.{codes}
use Rattle.mc_base.specs.declared.text.token.Token.{Token}
use Rattle.mc_c_syntax.specs.declared.ast.class.Class.{Class}
use Rattle.mc_c_syntax.specs.declared.ast.trees.Base.{Base}
use Rattle.mc_c_syntax.specs.Ast.Names.{Tokens, IsMark, IsWord, IsName, name_of}
use Rattle.mc_c_syntax.specs.Ast.Classes.{IsClass}
use Rattle.mc_c_syntax.specs.Ast.Readers.{Takes, Closes, IsStuckAt}
use Rattle.mc_c_syntax.specs.declared.ast.trees.Name.{Name}
use Rattle.mc_c_syntax.specs.declared.ast.trees.Returned.{Returned}
use Rattle.mc_c_syntax.specs.Ast.Grammar.{IsBase, star, no_star, gives_nothing, gives_value}
use Rattle.mc_c_parse.specs.declared.base.BaseReader.TheVariants as BaseReader
use Rattle.mc_c_parse.specs.declared.header.Header.{Header}
use Rattle.mc_c_parse.specs.declared.header.HeaderReader.TheVariants as HeaderReader
use Rattle.mc_c_parse.specs.Functions.{IsHeader, is_header, IsHeaderOf, is_header_of, IsNamed, named, IsOpened, opened, CompletesHeader}
use Rattle.mc_c_parse.proofs.Threads.{SameAt}
use Rattle.mc_c_parse.proofs.Marks.{only_star, only_name, only_open_paren, only_void}
use Rattle.mc_c_parse.proofs.Bases.{void_no_base}

behind_void : {aliases : List (List ℕ)} {token : Token} {h : Header} {tokens rest : Tokens} → IsWord (codes "void") token → IsHeader aliases (token ∷ tokens) rest h → IsNamed (Returned.Void token.place) tokens rest h
behind_void w (is_header (gives_nothing v) n k) = named n k
behind_void w (is_header (gives_value b s) n k) = absurd (void_no_base w b)

before_named : {aliases : List (List ℕ)} {token : Token} {h : Header} {tokens rest : Tokens} → IsWord (codes "void") token → IsNamed (Returned.Void token.place) tokens rest h → IsHeader aliases (token ∷ tokens) rest h
before_named w (named n k) = is_header (gives_nothing w) n k

pub header_void : (aliases : List (List ℕ)) {token : Token} → IsWord (codes "void") token → Takes [] (IsHeader aliases) (IsNamed (Returned.Void token.place)) token
header_void aliases w = record { forward = λ tokens rest h n. inl (behind_void w n); backward = λ tokens rest h n. before_named w n }

valued : {aliases : List (List ℕ)} {token : Token} {h : Header} {tokens rest : Tokens} (class : Class) → IsClass token class → (class ≡ Class.Void → ⊥) → IsHeader aliases (token ∷ tokens) rest h → CompletesHeader aliases (HeaderReader.Base BaseReader.Start) (token ∷ tokens) rest h
valued class c other (is_header (gives_nothing v) n k) = absurd (other (only_void class c v))
valued class c other (is_header (gives_value b s) n k) = (_, _, b, is_header_of s n k)

from_base : {aliases : List (List ℕ)} {base : Base} {h : Header} {tokens mid rest : Tokens} → IsBase aliases base tokens mid → IsHeaderOf base mid rest h → IsHeader aliases tokens rest h
from_base b (is_header_of s n k) = is_header (gives_value b s) n k

pub header_valued : (aliases : List (List ℕ)) {token : Token} (class : Class) → IsClass token class → (class ≡ Class.Void → ⊥) → SameAt (IsHeader aliases) (CompletesHeader aliases (HeaderReader.Base BaseReader.Start)) token
header_valued aliases class c other = record { forward = λ tokens rest h n. valued class c other n; backward = λ tokens rest h n. from_base n.2 n.3 }

behind_star : {base : Base} {token : Token} {h : Header} {tokens rest : Tokens} → IsMark (codes "*") token → IsHeaderOf base (token ∷ tokens) rest h → IsNamed (Returned.Value base (Some token.place)) tokens rest h
behind_star w (is_header_of (star v) n k) = named n k
behind_star w (is_header_of no_star n k) = grind arith

before_star : {base : Base} {token : Token} {h : Header} {tokens rest : Tokens} → IsMark (codes "*") token → IsNamed (Returned.Value base (Some token.place)) tokens rest h → IsHeaderOf base (token ∷ tokens) rest h
before_star w (named n k) = is_header_of (star w) n k

pub header_star : (base : Base) {token : Token} → IsMark (codes "*") token → Takes [] (IsHeaderOf base) (IsNamed (Returned.Value base (Some token.place))) token
header_star base w = record { forward = λ tokens rest h n. inl (behind_star w n); backward = λ tokens rest h n. before_star w n }

behind_name : {base : Base} {token : Token} {h : Header} {tokens rest : Tokens} → IsName token → IsHeaderOf base (token ∷ tokens) rest h → IsOpened (Returned.Value base None) (name_of token) tokens rest h
behind_name w (is_header_of (star v) n k) = grind arith
behind_name w (is_header_of no_star n k) = opened k

before_opened : {base : Base} {token : Token} {h : Header} {tokens rest : Tokens} → IsName token → IsOpened (Returned.Value base None) (name_of token) tokens rest h → IsHeaderOf base (token ∷ tokens) rest h
before_opened w (opened k) = is_header_of no_star w k

pub header_name : (base : Base) {token : Token} → IsName token → Takes [] (IsHeaderOf base) (IsOpened (Returned.Value base None) (name_of token)) token
header_name base w = record { forward = λ tokens rest h n. inl (behind_name w n); backward = λ tokens rest h n. before_opened w n }

no_value : {base : Base} {token : Token} {h : Header} {tokens rest : Tokens} (class : Class) → IsClass token class → (class ≡ Class.Star → ⊥) → (class ≡ Class.Name → ⊥) → IsHeaderOf base (token ∷ tokens) rest h → ⊥
no_value class c not_star not_name (is_header_of (star v) n k) = not_star (only_star class c v)
no_value class c not_star not_name (is_header_of no_star n k) = not_name (only_name class c n)

pub value_stuck : (base : Base) {token : Token} (class : Class) → IsClass token class → (class ≡ Class.Star → ⊥) → (class ≡ Class.Name → ⊥) → IsStuckAt (IsHeaderOf base) token
value_stuck base class c not_star not_name = λ tokens rest h n. no_value class c not_star not_name n

behind_named : {returned : Returned} {token : Token} {h : Header} {tokens rest : Tokens} → IsNamed returned (token ∷ tokens) rest h → IsOpened returned (name_of token) tokens rest h
behind_named (named n k) = opened k

before_name : {returned : Returned} {token : Token} {h : Header} {tokens rest : Tokens} → IsName token → IsOpened returned (name_of token) tokens rest h → IsNamed returned (token ∷ tokens) rest h
before_name w (opened k) = named w k

pub returned_name : (returned : Returned) {token : Token} → IsName token → Takes [] (IsNamed returned) (IsOpened returned (name_of token)) token
returned_name returned w = record { forward = λ tokens rest h n. inl (behind_named n); backward = λ tokens rest h n. before_name w n }

no_named : {returned : Returned} {token : Token} {h : Header} {tokens rest : Tokens} (class : Class) → IsClass token class → (class ≡ Class.Name → ⊥) → IsNamed returned (token ∷ tokens) rest h → ⊥
no_named class c not_name (named n k) = not_name (only_name class c n)

pub returned_stuck : (returned : Returned) {token : Token} (class : Class) → IsClass token class → (class ≡ Class.Name → ⊥) → IsStuckAt (IsNamed returned) token
returned_stuck returned class c not_name = λ tokens rest h n. no_named class c not_name n

behind_opened : {returned : Returned} {name : Name} {token : Token} {h : Header} {tokens rest : Tokens} → IsOpened returned name (token ∷ tokens) rest h → (rest ≡ tokens) × (h ≡ record { returned = returned; name = name })
behind_opened (opened k) = (refl, refl)

pub header_close : (returned : Returned) (name : Name) {token : Token} → IsMark (codes "(") token → Closes (IsOpened returned name) token (record { returned = returned; name = name })
header_close returned name w = record { forward = λ tokens rest h n. behind_opened n; backward = λ tokens. opened w }

no_opened : {returned : Returned} {name : Name} {token : Token} {h : Header} {tokens rest : Tokens} (class : Class) → IsClass token class → (class ≡ Class.OpenParen → ⊥) → IsOpened returned name (token ∷ tokens) rest h → ⊥
no_opened class c not_open (opened k) = not_open (only_open_paren class c k)

pub header_stuck : (returned : Returned) (name : Name) {token : Token} (class : Class) → IsClass token class → (class ≡ Class.OpenParen → ⊥) → IsStuckAt (IsOpened returned name) token
header_stuck returned name class c not_open = λ tokens rest h n. no_opened class c not_open n
