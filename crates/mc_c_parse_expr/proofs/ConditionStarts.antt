-- What the reader of conditions begins with.
use Rattle.std.proofs.Common.{◌≡◌, List, [], refl, sym, subst}
use Rattle.mc_c_syntax.specs.Ast.Trees.{Cond}
use Rattle.mc_c_syntax.specs.Ast.Names.{Tokens}
use Rattle.mc_c_syntax.specs.Ast.Grammar.{Eithers, all_of, IsCondition, any_of}
use Rattle.mc_c_syntax.specs.Ast.Readers.{IsSame}
use Rattle.mc_c_parse_expr.specs.declared.condition.ConditionPending.{ConditionPending}
use Rattle.mc_c_parse_expr.specs.declared.condition.ConditionGroup.{ConditionGroup}
use Rattle.mc_c_parse_expr.specs.Turns.{in_turn}
use Rattle.mc_c_parse_expr.specs.Conditions.{nothing, joins, AtConditionOperand}

condition_forward : {tokens rest : Tokens} {x : Cond} → AtConditionOperand [] nothing tokens rest x → IsCondition x tokens rest
condition_forward {rest = rest} {x = x} (in_turn o (joins {b = b} {d = d} {mid = mid} bs es (r, q))) =
    let P : Cond → Type 0 = λ y. Eithers b mid y rest in
    let Q : Tokens → Type 0 = λ m. Eithers b mid d m in
    any_of (all_of o bs) (subst P (sym q) (subst Q (sym r) es))

condition_backward : {tokens rest : Tokens} {x : Cond} → IsCondition x tokens rest → AtConditionOperand [] nothing tokens rest x
condition_backward (any_of (all_of o bs) es) = in_turn o (joins bs es (refl, refl))

pub condition_same : (groups : List ConditionGroup) (pending : ConditionPending) → groups ≡ [] → pending ≡ nothing → IsSame (AtConditionOperand groups pending) (λ tokens rest c. IsCondition c tokens rest)
condition_same groups pending g p =
    let P : List ConditionGroup → Type 0 = λ a. IsSame (AtConditionOperand a pending) (λ tokens rest c. IsCondition c tokens rest) in
    let Q : ConditionPending → Type 0 = λ q. IsSame (AtConditionOperand [] q) (λ tokens rest c. IsCondition c tokens rest) in
    subst P (sym g) (subst Q (sym p) (record { forward = λ tokens rest x h. condition_forward h; backward = λ tokens rest x h. condition_backward h }))
