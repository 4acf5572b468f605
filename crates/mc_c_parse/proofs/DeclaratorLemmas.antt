-- The transitions of declarators.
use native.Mathlib.Omega.{arith}
use Rattle.std.proofs.Common.{◌≡◌, List, [], ◌∷◌, Some, None, refl, inl}
use Rattle.std.specs.Prelude.{codes}
use Rattle.mc_base.specs.declared.text.place.Place.{Place}
use Rattle.mc_base.specs.declared.text.token.Token.{Token}
use Rattle.mc_c_syntax.specs.declared.ast.class.Class.{Class}
use Rattle.mc_c_syntax.specs.declared.ast.trees.Declarator.{Declarator}
use Rattle.mc_c_syntax.specs.Ast.Names.{Tokens, IsMark, IsName, name_of}
use Rattle.mc_c_syntax.specs.Ast.Classes.{IsClass}
use Rattle.mc_c_syntax.specs.Ast.Grammar.{star, no_star, IsDeclarator, declarator, last_declarator, next_declarator}
use Rattle.mc_c_syntax.specs.Ast.Readers.{Takes, Closes, IsStuckAt}
use Rattle.mc_c_parse.specs.declared.declarator.DeclaratorReader.{DeclaratorReader}
use Rattle.mc_c_parse.specs.Declarators.{IsPointed, pointed, CompletesDeclarator, EndsDeclarators, DeclaratorsFrom}
use Rattle.mc_c_parse.proofs.Marks.{only_star, only_name, only_comma, only_semicolon}

behind_star : {token : Token} {d : Declarator} {tokens rest : Tokens} → IsMark (codes "*") token → IsDeclarator d (token ∷ tokens) rest → IsPointed token.place tokens rest d
behind_star w (declarator (star v) n) = pointed n
behind_star w (declarator no_star n) = grind arith

before_pointed : {token : Token} {d : Declarator} {tokens rest : Tokens} → IsMark (codes "*") token → IsPointed token.place tokens rest d → IsDeclarator d (token ∷ tokens) rest
before_pointed w (pointed n) = declarator (star w) n

pub declarator_star : {token : Token} → IsMark (codes "*") token → Takes [] (CompletesDeclarator DeclaratorReader.Start) (CompletesDeclarator (DeclaratorReader.Star token.place)) token
declarator_star w = record { forward = λ tokens rest d n. inl (behind_star w n); backward = λ tokens rest d p. before_pointed w p }

behind_name : {token : Token} {d : Declarator} {tokens rest : Tokens} → IsName token → IsDeclarator d (token ∷ tokens) rest → (rest ≡ tokens) × (d ≡ record { pointer = None; name = name_of token })
behind_name w (declarator (star v) n) = grind arith
behind_name w (declarator no_star n) = (refl, refl)

pub declarator_name : {token : Token} → IsName token → Closes (CompletesDeclarator DeclaratorReader.Start) token (record { pointer = None; name = name_of token })
declarator_name w = record { forward = λ tokens rest d n. behind_name w n; backward = λ tokens. declarator no_star w }

no_declarator : {token : Token} {d : Declarator} {tokens rest : Tokens} (class : Class) → IsClass token class → (class ≡ Class.Star → ⊥) → (class ≡ Class.Name → ⊥) → IsDeclarator d (token ∷ tokens) rest → ⊥
no_declarator class c not_star not_name (declarator (star v) n) = not_star (only_star class c v)
no_declarator class c not_star not_name (declarator no_star n) = not_name (only_name class c n)

pub declarator_stuck : {token : Token} (class : Class) → IsClass token class → (class ≡ Class.Star → ⊥) → (class ≡ Class.Name → ⊥) → IsStuckAt (CompletesDeclarator DeclaratorReader.Start) token
declarator_stuck class c not_star not_name = λ tokens rest d n. no_declarator class c not_star not_name n

behind_pointed : {place : Place} {token : Token} {d : Declarator} {tokens rest : Tokens} → IsPointed place (token ∷ tokens) rest d → (rest ≡ tokens) × (d ≡ record { pointer = Some place; name = name_of token })
behind_pointed (pointed n) = (refl, refl)

pub pointed_name : {place : Place} {token : Token} → IsName token → Closes (CompletesDeclarator (DeclaratorReader.Star place)) token (record { pointer = Some place; name = name_of token })
pointed_name w = record { forward = λ tokens rest d n. behind_pointed n; backward = λ tokens. pointed w }

no_pointed : {place : Place} {token : Token} {d : Declarator} {tokens rest : Tokens} (class : Class) → IsClass token class → (class ≡ Class.Name → ⊥) → IsPointed place (token ∷ tokens) rest d → ⊥
no_pointed class c not_name (pointed n) = not_name (only_name class c n)

pub pointed_stuck : {place : Place} {token : Token} (class : Class) → IsClass token class → (class ≡ Class.Name → ⊥) → IsStuckAt (CompletesDeclarator (DeclaratorReader.Star place)) token
pointed_stuck class c not_name = λ tokens rest d n. no_pointed class c not_name n

behind_comma : {token : Token} {ds all : List Declarator} {tokens rest : Tokens} → IsMark (codes ",") token → EndsDeclarators ds (token ∷ tokens) rest all → DeclaratorsFrom ds (Some DeclaratorReader.Start) tokens rest all
behind_comma w (s, last_declarator, k) = grind arith
behind_comma w (s, next_declarator v d more, k) = (_, _, d, (s, more, k))

pub declarators_comma : {token : Token} {ds : List Declarator} → IsMark (codes ",") token → Takes [] (DeclaratorsFrom ds None) (DeclaratorsFrom ds (Some DeclaratorReader.Start)) token
declarators_comma w = record { forward = λ tokens rest all n. inl (behind_comma w n); backward = λ tokens rest all t. (t.3.0, next_declarator w t.2 t.3.1, t.3.2) }

behind_semicolon : {token : Token} {ds all : List Declarator} {tokens rest : Tokens} → IsMark (codes ";") token → EndsDeclarators ds (token ∷ tokens) rest all → (rest ≡ tokens) × (all ≡ ds)
behind_semicolon w (s, last_declarator, k) = (refl, refl)
behind_semicolon w (s, next_declarator v d more, k) = grind arith

pub declarators_semicolon : {token : Token} {ds : List Declarator} → IsMark (codes ";") token → Closes (DeclaratorsFrom ds None) token ds
declarators_semicolon {token = token} w = record { forward = λ tokens rest all n. behind_semicolon w n; backward = λ tokens. (token, last_declarator, w) }

no_declarators : {token : Token} {ds all : List Declarator} {tokens rest : Tokens} (class : Class) → IsClass token class → (class ≡ Class.Comma → ⊥) → (class ≡ Class.Semicolon → ⊥) → EndsDeclarators ds (token ∷ tokens) rest all → ⊥
no_declarators class c not_comma not_semicolon (s, last_declarator, k) = not_semicolon (only_semicolon class c k)
no_declarators class c not_comma not_semicolon (s, next_declarator v d more, k) = not_comma (only_comma class c v)

pub declarators_stuck : {token : Token} (ds : List Declarator) (class : Class) → IsClass token class → (class ≡ Class.Comma → ⊥) → (class ≡ Class.Semicolon → ⊥) → IsStuckAt (DeclaratorsFrom ds None) token
declarators_stuck ds class c not_comma not_semicolon = λ tokens rest all n. no_declarators class c not_comma not_semicolon n
