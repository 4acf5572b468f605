-- The transitions of fields.
use native.Mathlib.Omega.{arith}
use Rattle.std.proofs.Common.{◌≡◌, ℕ, List, [], ◌∷◌, ◌++◌, Some, None, refl, length, map}
use Rattle.std.specs.Prelude.{codes}
use Rattle.mc_base.specs.declared.text.token.Token.{Token}
use Rattle.mc_base.specs.declared.text.token.TokenKind.TheVariants as TokenKind
use Rattle.mc_c_syntax.specs.declared.ast.class.Class.{Class}
use Rattle.mc_c_syntax.specs.Ast.Names.{Tokens, IsMark}
use Rattle.mc_c_syntax.specs.Ast.Classes.{IsClass}
use Rattle.mc_c_syntax.specs.Ast.Readers.{Takes, Closes, IsStuckAt}
use Rattle.mc_c_syntax.specs.Ast.Trees.{FieldTree}
use Rattle.mc_c_syntax.specs.Ast.Grammar.{declarators, IsField, field, no_field, next_field}
use Rattle.mc_c_parse.specs.declared.base.BaseReader.TheVariants as BaseReader
use Rattle.mc_c_parse.specs.declared.field.FieldReader.{FieldReader}
use Rattle.mc_c_parse.specs.Threads.{Then}
use Rattle.mc_c_parse.specs.Fields.{CompletesField, EndsFields, FieldsFrom}
use Rattle.mc_c_parse.proofs.Threads.{SameAt, then_closes}
use Rattle.mc_c_parse.proofs.Marks.{only_close_brace}
use Rattle.mc_c_parse.proofs.Bases.{mark_no_base}

-- a field is its base and its declarators
splits : {aliases : List (List ℕ)} {f : FieldTree} {tokens rest : Tokens} → IsField aliases f tokens rest → CompletesField aliases (FieldReader.Base BaseReader.Start) tokens rest f
splits (field b (declarators d more) k) = (_, _, b, (_, _, (_, _, d, (_, more, k)), (refl, refl)))

joins : {aliases : List (List ℕ)} {f : FieldTree} {tokens rest : Tokens} → CompletesField aliases (FieldReader.Base BaseReader.Start) tokens rest f → IsField aliases f tokens rest
joins (base, mid, b, (ds, behind, (d, end, one, (semicolon, more, k)), e)) = rw (e.0, e.1) (field b (declarators one more) k)

mark_no_field : {aliases : List (List ℕ)} {f : FieldTree} {token : Token} {tokens rest : Tokens} → token.kind ≡ TokenKind.Mark → IsField aliases f (token ∷ tokens) rest → ⊥
mark_no_field m (field b ds k) = mark_no_base m b

no_first : {aliases : List (List ℕ)} {token : Token} {all : List FieldTree} {tokens rest : Tokens} → token.kind ≡ TokenKind.Mark → FieldsFrom aliases [] None (token ∷ tokens) rest all → ⊥
no_first m (f, mid, fl, more) = mark_no_field m fl

pub fields_none : (aliases : List (List ℕ)) {token : Token} → IsMark (codes "}") token → IsStuckAt (FieldsFrom aliases [] None) token
fields_none aliases w = λ tokens rest all n. no_first w.kind n

closes : {aliases : List (List ℕ)} {token : Token} {fs all : List FieldTree} {tokens rest : Tokens} → IsMark (codes "}") token → EndsFields aliases fs (token ∷ tokens) rest all → (rest ≡ tokens) × (all ≡ fs)
closes w (s, no_field, k) = (refl, refl)
closes w (s, next_field fl more, k) = absurd (mark_no_field w.kind fl)

pub fields_close : (aliases : List (List ℕ)) {token : Token} (fs : List FieldTree) → (fs ≡ [] → ⊥) → IsMark (codes "}") token → Closes (FieldsFrom aliases fs None) token fs
fields_close aliases [] some w = absurd (some refl)
fields_close aliases {token = token} (f ∷ fs) some w = record { forward = λ tokens rest all n. closes w n; backward = λ tokens. (token, no_field, w) }

goes_on : {aliases : List (List ℕ)} {token : Token} {fs all : List FieldTree} {tokens rest : Tokens} (class : Class) → IsClass token class → (class ≡ Class.CloseBrace → ⊥) → EndsFields aliases fs (token ∷ tokens) rest all → FieldsFrom aliases fs (Some (FieldReader.Base BaseReader.Start)) (token ∷ tokens) rest all
goes_on class c other (s, no_field, k) = absurd (other (only_close_brace class c k))
goes_on class c other (s, next_field fl more, k) = (_, _, splits fl, (s, more, k))

pub fields_go_on : (aliases : List (List ℕ)) {token : Token} (fs : List FieldTree) (class : Class) → IsClass token class → (class ≡ Class.CloseBrace → ⊥) → SameAt (FieldsFrom aliases fs None) (FieldsFrom aliases fs (Some (FieldReader.Base BaseReader.Start))) token
fields_go_on aliases [] class c other = record { forward = λ tokens rest all n. (n.0, n.1, splits n.2, n.3); backward = λ tokens rest all n. (n.0, n.1, joins n.2, n.3) }
fields_go_on aliases (f ∷ fs) class c other = record { forward = λ tokens rest all n. goes_on class c other n; backward = λ tokens rest all n. (n.3.0, next_field (joins n.2) n.3.1, n.3.2) }

pub field_closes : (aliases : List (List ℕ)) {now : Tokens → Tokens → FieldTree → Type 0} {token : Token} {f : FieldTree} (fs : List FieldTree) → Closes now token f → Takes [] (Then now (λ g. EndsFields aliases (fs ++ g ∷ []))) (FieldsFrom aliases (fs ++ f ∷ []) None) token
field_closes aliases [] c = then_closes (λ g. EndsFields aliases (g ∷ [])) c
field_closes aliases (f ∷ fs) c = then_closes (λ g. EndsFields aliases (f ∷ (fs ++ g ∷ []))) c

pub none_mapped : {X Y : Type 0} (f : X → Y) (xs : List X) → length xs ≡ 0 → map f xs ≡ []
none_mapped f [] e = refl
none_mapped f (x ∷ xs) e = grind arith

pub some_mapped : {X Y : Type 0} (f : X → Y) (xs : List X) → (length xs ≡ 0 → ⊥) → map f xs ≡ [] → ⊥
some_mapped f [] other e = other refl
some_mapped f (x ∷ xs) other e = grind arith
