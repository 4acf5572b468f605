-- A word spells one number, and a token is one.
use Rattle.std.proofs.Common.{◌≡◌, ℕ, List, ap, sym, ◌∙◌}
use Rattle.std.specs.Prelude.{slice_index}
use Rattle.std.specs.Str.Parse.{digits_value}
use Rattle.mc_base.specs.Text.Numbers.{Spells, as_zero, as_decimal, as_hexadecimal}
use Rattle.mc_base.specs.declared.text.token.Token.{Token}
use Rattle.mc_c_syntax.specs.Ast.Names.{IsNumber}

pub spelled_once : {word : List ℕ} {m n : ℕ} → Spells word m → Spells word n → m ≡ n
spelled_once (as_zero w e) (as_zero w' e') = e ∙ sym e'
spelled_once (as_zero w e) (as_decimal t first e') = absurd (first (ap (λ s. slice_index s 0) w))
spelled_once (as_zero w e) (as_hexadecimal digits w' t e') = absurd (let both = sym w ∙ w' in cc)
spelled_once (as_decimal t first e) (as_zero w e') = absurd (first (ap (λ s. slice_index s 0) w))
spelled_once (as_decimal t first e) (as_decimal t' first' e') = e ∙ sym e'
spelled_once (as_decimal t first e) (as_hexadecimal digits w' t' e') = absurd (first (ap (λ s. slice_index s 0) w'))
spelled_once (as_hexadecimal digits w t e) (as_zero w' e') = absurd (let both = sym w ∙ w' in cc)
spelled_once (as_hexadecimal digits w t e) (as_decimal t' first e') = absurd (first (ap (λ s. slice_index s 0) w))
spelled_once (as_hexadecimal digits w t e) (as_hexadecimal digits' w' t' e') = let both = sym w ∙ w' in let same : digits ≡ digits' = cc in e ∙ ap (digits_value 16) same ∙ sym e'

pub one_number : {token : Token} {m n : ℕ} → IsNumber token m → IsNumber token n → m ≡ n
one_number h k = spelled_once h.spelled k.spelled
