-- What the readers begin with.
use Rattle.std.proofs.Common.{[], refl, sym, subst}
use Rattle.mc_c_syntax.specs.declared.ast.trees.LeftValue.{LeftValue}
use Rattle.mc_c_syntax.specs.Ast.Trees.{Expr, value}
use Rattle.mc_c_syntax.specs.Ast.Views.{left_of}
use Rattle.mc_c_syntax.specs.Ast.Names.{Tokens}
use Rattle.mc_c_syntax.specs.Ast.Grammar.{Fields, product, Terms, IsSum, sum_of}
use Rattle.mc_c_syntax.specs.Ast.Readers.{IsSame}
use Rattle.mc_c_parse_expr.specs.declared.primary.Primary.TheVariants as Primary
use Rattle.mc_c_parse_expr.specs.Turns.{InTurn, in_turn}
use Rattle.mc_c_parse_expr.specs.Primaries.{CompletesPrimary, behind_left}
use Rattle.mc_c_parse_expr.specs.Expressions.{nothing, GoesOn, goes_on, Behind, AtOperand, BehindOperand}

operand_forward : {u : Expr} {tokens rest : Tokens} {e : Expr} → GoesOn nothing u (Behind []) tokens rest e → BehindOperand u tokens rest e
operand_forward {tokens = tokens} {rest = rest} {e = e} (goes_on {t = t} {s = s} {mid = mid} {more = more} f ts (r, q)) =
    let P : Expr → Type 0 = λ x. Terms t mid x rest in
    let Q : Tokens → Type 0 = λ m. Terms t mid s m in
    in_turn f (subst P (sym q) (subst Q (sym r) ts))

operand_backward : {u : Expr} {tokens rest : Tokens} {e : Expr} → BehindOperand u tokens rest e → GoesOn nothing u (Behind []) tokens rest e
operand_backward (in_turn f ts) = goes_on f ts (refl, refl)

pub operand_same : (u : Expr) → IsSame (GoesOn nothing u (Behind [])) (BehindOperand u)
operand_same u = record { forward = λ tokens rest x h. operand_forward h; backward = λ tokens rest x h. operand_backward h }

sum_forward : {tokens rest : Tokens} {e : Expr} → AtOperand [] nothing tokens rest e → IsSum e tokens rest
sum_forward {rest = rest} {e = e} (in_turn u (goes_on {t = t} {s = s} {mid = mid} f ts (r, q))) =
    let P : Expr → Type 0 = λ x. Terms t mid x rest in
    let Q : Tokens → Type 0 = λ m. Terms t mid s m in
    sum_of (product u f) (subst P (sym q) (subst Q (sym r) ts))

sum_backward : {tokens rest : Tokens} {e : Expr} → IsSum e tokens rest → AtOperand [] nothing tokens rest e
sum_backward (sum_of (product u f) ts) = in_turn u (goes_on f ts (refl, refl))

pub sum_same : IsSame (AtOperand [] nothing) (λ tokens rest e. IsSum e tokens rest)
sum_same = record { forward = λ tokens rest x h. sum_forward h; backward = λ tokens rest x h. sum_backward h }

name_forward : {l : LeftValue} {tokens rest : Tokens} {e : Expr} → InTurn (CompletesPrimary (Primary.Left l)) (λ u. GoesOn nothing u (Behind [])) tokens rest e → InTurn (λ tokens rest k. Fields (left_of l) tokens k rest) (λ k. BehindOperand (value k)) tokens rest e
name_forward (in_turn (behind_left f) g) = in_turn f (operand_forward g)

name_backward : {l : LeftValue} {tokens rest : Tokens} {e : Expr} → InTurn (λ tokens rest k. Fields (left_of l) tokens k rest) (λ k. BehindOperand (value k)) tokens rest e → InTurn (CompletesPrimary (Primary.Left l)) (λ u. GoesOn nothing u (Behind [])) tokens rest e
name_backward (in_turn f g) = in_turn (behind_left f) (operand_backward g)

pub name_same : (l : LeftValue) → IsSame (InTurn (CompletesPrimary (Primary.Left l)) (λ u. GoesOn nothing u (Behind []))) (InTurn (λ tokens rest k. Fields (left_of l) tokens k rest) (λ k. BehindOperand (value k)))
name_same l = record { forward = λ tokens rest x h. name_forward h; backward = λ tokens rest x h. name_backward h }
