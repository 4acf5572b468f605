-- The number that a token is.
use native.Mathlib.Omega.{arith}
use Rattle.std.proofs.Common.{◌≡◌, ℕ, ◌≤◌}
use Rattle.std.specs.Prelude.{Option, Some, None, MatchOption}
use Rattle.mc_base.specs.Text.Numbers.{max_number, Spells, IsNoNumber}
use Rattle.mc_base.specs.declared.text.token.Token.{Token}
use Rattle.mc_base.specs.declared.text.token.TokenKind.TheVariants as TokenKind
use Rattle.mc_c_syntax.specs.Ast.Names.{IsNumber}

-- the number of a word is that of its token
pub number_answer : (token : Token) (r : Option ℕ) → token.kind ≡ TokenKind.Number → MatchOption r (IsNoNumber token.text) (λ value. Spells token.text value × (value ≤ max_number)) → MatchOption r ((n : ℕ) → ¬ IsNumber token n) (λ n. IsNumber token n)
number_answer token None k no_number = λ n h. let large = no_number n h.spelled in let small = h.small in absurd (omega arith)
number_answer token (Some v) k one = record { kind = k; spelled = one.0; small = one.1 }
