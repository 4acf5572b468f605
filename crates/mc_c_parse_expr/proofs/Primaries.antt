-- How variables, fields and `input()` go on.
use Rattle.std.proofs.Common.{◌≡◌, [], ◌∷◌, ◌++◌, refl, sym, subst, IsTrue, ◌⊎◌, inl, inr}
use Rattle.std.specs.Prelude.{codes}
use Rattle.mc_base.specs.declared.text.place.Place.{Place}
use Rattle.mc_base.specs.declared.text.token.Token.{Token}
use Rattle.mc_c_syntax.specs.declared.ast.trees.LeftValue.{LeftValue}
use Rattle.mc_c_syntax.specs.Ast.Trees.{Left, Expr, input, value}
use Rattle.mc_c_syntax.specs.Ast.Views.{left_of}
use Rattle.mc_c_syntax.specs.Ast.Names.{Tokens, IsMark, IsName, name_of, is_in}
use Rattle.mc_c_syntax.specs.Ast.Grammar.{Fields, none, more}
use Rattle.mc_c_syntax.specs.Ast.Readers.{Takes, Finds, Closes}
use Rattle.mc_c_parse_expr.specs.declared.primary.Primary.{Primary}
use Rattle.mc_c_parse_expr.specs.Primaries.{CompletesPrimary, behind_left, behind_arrow, behind_input, behind_open, primary_marks}
use Rattle.mc_c_parse_expr.proofs.Marks.{is_of}

open_forward : {place : Place} {token : Token} {tokens rest : Tokens} {x : Expr} → CompletesPrimary (Primary.InputOpen place) (token ∷ tokens) rest x → (rest ≡ tokens) × (x ≡ input place)
open_forward (behind_open m) = (refl, refl)

pub open_closes : {place : Place} {token : Token} → IsMark (codes ")") token → Closes (CompletesPrimary (Primary.InputOpen place)) token (input place)
open_closes m = record { forward = λ tokens rest x h. open_forward h; backward = λ tokens. behind_open m }

pub open_mark : {place : Place} {token : Token} {tokens rest : Tokens} {x : Expr} → CompletesPrimary (Primary.InputOpen place) (token ∷ tokens) rest x → IsMark (codes ")") token
open_mark (behind_open m) = m

input_forward : {place : Place} {token : Token} {tokens rest : Tokens} {x : Expr} → CompletesPrimary (Primary.Input place) (token ∷ tokens) rest x → CompletesPrimary (Primary.InputOpen place) tokens rest x
input_forward (behind_input m n) = behind_open n

input_backward : {place : Place} {token : Token} {tokens rest : Tokens} {x : Expr} → IsMark (codes "(") token → CompletesPrimary (Primary.InputOpen place) tokens rest x → CompletesPrimary (Primary.Input place) (token ∷ tokens) rest x
input_backward m (behind_open n) = behind_input m n

pub input_takes : {place : Place} {token : Token} → IsMark (codes "(") token → Takes primary_marks (CompletesPrimary (Primary.Input place)) (CompletesPrimary (Primary.InputOpen place)) token
input_takes m = record { forward = λ tokens rest x h. inl (input_forward h); backward = λ tokens rest x h. input_backward m h }

pub input_mark : {place : Place} {token : Token} {tokens rest : Tokens} {x : Expr} → CompletesPrimary (Primary.Input place) (token ∷ tokens) rest x → IsMark (codes "(") token
input_mark (behind_input m n) = m

arrow_forward : {l k : LeftValue} {token : Token} {tokens rest : Tokens} {x : Expr} → left_of k ≡ record { name = l.name; fields = l.fields.items ++ name_of token ∷ [] } → CompletesPrimary (Primary.Arrow l) (token ∷ tokens) rest x → CompletesPrimary (Primary.Left k) tokens rest x
arrow_forward {tokens = tokens} {rest = rest} e (behind_arrow {all = all} n f) = behind_left (let P : Left → Type 0 = λ l. Fields l tokens all rest in subst P (sym e) f)

arrow_backward : {l k : LeftValue} {token : Token} {tokens rest : Tokens} {x : Expr} → IsName token → left_of k ≡ record { name = l.name; fields = l.fields.items ++ name_of token ∷ [] } → CompletesPrimary (Primary.Left k) tokens rest x → CompletesPrimary (Primary.Arrow l) (token ∷ tokens) rest x
arrow_backward {tokens = tokens} {rest = rest} n e (behind_left {all = all} f) = behind_arrow n (let P : Left → Type 0 = λ l. Fields l tokens all rest in subst P e f)

pub arrow_takes : {l k : LeftValue} {token : Token} → IsName token → left_of k ≡ record { name = l.name; fields = l.fields.items ++ name_of token ∷ [] } → Takes primary_marks (CompletesPrimary (Primary.Arrow l)) (CompletesPrimary (Primary.Left k)) token
arrow_takes n e = record { forward = λ tokens rest x h. inl (arrow_forward e h); backward = λ tokens rest x h. arrow_backward n e h }

pub arrow_name : {l : LeftValue} {token : Token} {tokens rest : Tokens} {x : Expr} → CompletesPrimary (Primary.Arrow l) (token ∷ tokens) rest x → IsName token
arrow_name (behind_arrow n f) = n

left_forward : {l : LeftValue} {token : Token} {tokens rest : Tokens} {x : Expr} → IsMark (codes "->") token → CompletesPrimary (Primary.Left l) (token ∷ tokens) rest x → CompletesPrimary (Primary.Arrow l) tokens rest x ⊎ ((rest ≡ token ∷ tokens) × IsTrue (is_in primary_marks token.text))
left_forward m (behind_left none) = inr (refl, is_of primary_marks (codes "->") refl m)
left_forward m (behind_left (more a n f)) = inl (behind_arrow n f)

left_backward : {l : LeftValue} {token : Token} {tokens rest : Tokens} {x : Expr} → IsMark (codes "->") token → CompletesPrimary (Primary.Arrow l) tokens rest x → CompletesPrimary (Primary.Left l) (token ∷ tokens) rest x
left_backward m (behind_arrow n f) = behind_left (more m n f)

pub left_takes : {l : LeftValue} {token : Token} → IsMark (codes "->") token → Takes primary_marks (CompletesPrimary (Primary.Left l)) (CompletesPrimary (Primary.Arrow l)) token
left_takes m = record { forward = λ tokens rest x h. left_forward m h; backward = λ tokens rest x h. left_backward m h }

left_ends : {l : LeftValue} {token : Token} {tokens rest : Tokens} {x : Expr} → (IsMark (codes "->") token → ⊥) → CompletesPrimary (Primary.Left l) (token ∷ tokens) rest x → (rest ≡ token ∷ tokens) × (x ≡ value (left_of l))
left_ends other (behind_left none) = (refl, refl)
left_ends other (behind_left (more a n f)) = absurd (other a)

pub left_finds : {l : LeftValue} {token : Token} → (IsMark (codes "->") token → ⊥) → Finds (CompletesPrimary (Primary.Left l)) token (value (left_of l))
left_finds other = record { forward = λ tokens rest x h. left_ends other h; backward = λ tokens. behind_left none }
