-- What stands after parentheses.
use Rattle.std.proofs.Common.{◌≡◌, List, [], ◌∷◌, refl, sym, subst}
use Rattle.mc_base.specs.declared.text.place.Place.{Place}
use Rattle.mc_c_syntax.specs.declared.ast.trees.Condition.{Condition}
use Rattle.mc_c_syntax.specs.Ast.Trees.{Expr, Cond, plain, compare, negation, enclosed, both, either, parens}
use Rattle.mc_c_syntax.specs.Ast.Views.{condition_of}
use Rattle.mc_c_syntax.specs.Ast.Names.{Tokens}
use Rattle.mc_c_syntax.specs.Ast.Grammar.{IsProper}
use Rattle.mc_c_syntax.specs.Ast.Readers.{IsSame}
use Rattle.mc_c_parse_expr.specs.declared.expression.ExpressionReader.{ExpressionReader}
use Rattle.mc_c_parse_expr.specs.declared.condition.Whole.TheVariants as Whole
use Rattle.mc_c_parse_expr.specs.declared.condition.ConditionPending.{ConditionPending}
use Rattle.mc_c_parse_expr.specs.declared.condition.ConditionSpot.TheVariants as ConditionSpot
use Rattle.mc_c_parse_expr.specs.Turns.{InTurn, in_turn}
use Rattle.mc_c_parse_expr.specs.Expressions.{BehindOperand, CompletesExpression}
use Rattle.mc_c_parse_expr.specs.Conditions.{Joins, BehindParens, BehindClose, BehindCondition, AtConditionSpot, IsEnclosed}

turn_forward : {X Y : Type 0} {first other : Tokens → Tokens → X → Type 0} {next : X → Tokens → Tokens → Y → Type 0} {tokens rest : Tokens} {y : Y} → IsSame first other → InTurn first next tokens rest y → InTurn other next tokens rest y
turn_forward {tokens = tokens} s (in_turn {x = x} {mid = mid} f n) = in_turn (s.forward tokens mid x f) n

turn_backward : {X Y : Type 0} {first other : Tokens → Tokens → X → Type 0} {next : X → Tokens → Tokens → Y → Type 0} {tokens rest : Tokens} {y : Y} → IsSame first other → InTurn other next tokens rest y → InTurn first next tokens rest y
turn_backward {tokens = tokens} s (in_turn {x = x} {mid = mid} f n) = in_turn (s.backward tokens mid x f) n

turn_same : {X Y : Type 0} {first other : Tokens → Tokens → X → Type 0} {next : X → Tokens → Tokens → Y → Type 0} → IsSame first other → IsSame (InTurn first next) (InTurn other next)
turn_same s = record { forward = λ tokens rest y h. turn_forward s h; backward = λ tokens rest y h. turn_backward s h }

same_itself : {X : Type 0} (now : Tokens → Tokens → X → Type 0) → IsSame now now
same_itself now = record { forward = λ tokens rest x h. h; backward = λ tokens rest x h. h }

-- an expression
pub sum_enclosed : (bangs : List Place) (place : Place) (w : Cond) (a u : Expr) (r : ExpressionReader) → bangs ≡ [] → w ≡ plain a → u ≡ parens place a → IsSame (CompletesExpression r) (BehindOperand u) → IsEnclosed bangs place w (ConditionSpot.Sum r)
sum_enclosed bangs place w a u r b q e s groups pending =
    let R : Expr → Type 0 = λ y. IsSame (CompletesExpression r) (BehindOperand y) in
    let P : List Place → Type 0 = λ bs. IsSame (AtConditionSpot (ConditionSpot.Sum r) groups pending) (BehindClose bs pending place w (BehindCondition groups)) in
    let Q : Cond → Type 0 = λ c. IsSame (AtConditionSpot (ConditionSpot.Sum r) groups pending) (BehindClose [] pending place c (BehindCondition groups)) in
    subst P (sym b) (subst Q (sym q) (turn_same (subst R e s)))

proper_same : (w : Cond) (place : Place) (pending : ConditionPending) (ends : Cond → Tokens → Tokens → Cond → Type 0) → IsProper w → IsSame (Joins pending (enclosed place w) ends) (BehindParens pending place w ends)
proper_same (plain e) place pending ends p = absurd p
proper_same (compare k a b) place pending ends p = same_itself _
proper_same (negation q c) place pending ends p = same_itself _
proper_same (enclosed q c) place pending ends p = same_itself _
proper_same (both a b) place pending ends p = same_itself _
proper_same (either a b) place pending ends p = same_itself _

-- a condition that is no expression
pub proper_enclosed : (bangs : List Place) (place : Place) (w : Cond) (c : Condition) → bangs ≡ [] → IsProper w → condition_of c ≡ w → IsEnclosed bangs place w (ConditionSpot.Whole (Whole.Parens place c))
proper_enclosed bangs place w c b p q groups pending =
    let P : List Place → Type 0 = λ bs. IsSame (Joins pending (enclosed place (condition_of c)) (BehindCondition groups)) (BehindClose bs pending place w (BehindCondition groups)) in
    let Q : Cond → Type 0 = λ d. IsSame (Joins pending (enclosed place d) (BehindCondition groups)) (BehindParens pending place w (BehindCondition groups)) in
    subst P (sym b) (subst Q (sym q) (proper_same w place pending (BehindCondition groups) p))

filled_same : (bangs : List Place) (place : Place) (w : Cond) (pending : ConditionPending) (ends : Cond → Tokens → Tokens → Cond → Type 0) → (bangs ≡ [] → ⊥) → IsSame (Joins pending (enclosed place w) ends) (BehindClose bangs pending place w ends)
filled_same [] place w pending ends filled = absurd (filled refl)
filled_same (bang ∷ bangs) place w pending ends filled = same_itself _

-- any condition after `!`
pub denied_enclosed : (bangs : List Place) (place : Place) (w : Cond) (c : Condition) → (bangs ≡ [] → ⊥) → condition_of c ≡ w → IsEnclosed bangs place w (ConditionSpot.Whole (Whole.Parens place c))
denied_enclosed bangs place w c filled q groups pending =
    let Q : Cond → Type 0 = λ d. IsSame (Joins pending (enclosed place d) (BehindCondition groups)) (BehindClose bangs pending place w (BehindCondition groups)) in
    subst Q (sym q) (filled_same bangs place w pending (BehindCondition groups) filled)
