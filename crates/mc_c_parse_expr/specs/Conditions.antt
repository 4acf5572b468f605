-- What completes a condition of which some tokens are read.
use Rattle.std.specs.Prelude.{◌≡◌, ℕ, List, [], ◌∷◌, ⊤, Option, Some, None, Result, Ok, Err, codes}
use Rattle.mc_base.specs.declared.text.place.Place.{Place}
use Rattle.mc_base.specs.declared.text.token.Token.{Token}
use Rattle.mc_c_syntax.specs.declared.ast.trees.Condition.{Condition}
use Rattle.mc_c_syntax.specs.declared.ast.trees.Expression.{Expression}
use Rattle.mc_c_syntax.specs.declared.ast.trees.Comparison.{Comparison}
use Rattle.mc_c_syntax.specs.Ast.Trees.{Expr, value, input, parens, Cond, plain, compare, negation, enclosed, both, either}
use Rattle.mc_c_syntax.specs.Ast.Views.{expression_of, condition_of}
use Rattle.mc_c_syntax.specs.Ast.Names.{Tokens, IsMark, IsWord, mark_of}
use Rattle.mc_c_syntax.specs.Ast.Grammar.{IsLeft, IsSum, IsProper, IsBang, IsOne, Boths, Eithers, IsCondition}
use Rattle.mc_c_syntax.specs.Ast.Readers.{Takes, Finds, IsStuckAt, IsSame}
use Rattle.mc_c_parse_expr.specs.declared.primary.Primary.{Primary}
use Rattle.mc_c_parse_expr.specs.declared.condition.Whole.{Whole}
use Rattle.mc_c_parse_expr.specs.declared.condition.ConditionPending.{ConditionPending}
use Rattle.mc_c_parse_expr.specs.declared.condition.ConditionGroup.{ConditionGroup}
use Rattle.mc_c_parse_expr.specs.declared.condition.ConditionSpot.{ConditionSpot}
use Rattle.mc_c_parse_expr.specs.declared.condition.ConditionReader.{ConditionReader}
use Rattle.mc_c_parse_expr.specs.declared.condition.ConditionStep.{ConditionStep}
use Rattle.mc_c_parse_expr.specs.Turns.{InTurn, Marked, Moves}
use Rattle.mc_c_parse_expr.specs.Primaries.{CompletesPrimary}
use Rattle.mc_c_parse_expr.specs.Expressions.{CompletesExpression, BehindOperand}

-- the condition that a whole one stands for
abbrev pub whole_of : Whole → Cond
whole_of (Whole.Plain e) = plain (expression_of e)
whole_of (Whole.Compare mark a b) = compare mark (expression_of a) (expression_of b)
whole_of (Whole.Not place c) = negation place (condition_of c)
whole_of (Whole.Parens place c) = enclosed place (condition_of c)
whole_of (Whole.Both a b) = both (condition_of a) (condition_of b)
whole_of (Whole.Either a b) = either (condition_of a) (condition_of b)

-- nothing waits
abbrev pub nothing : ConditionPending
nothing = record { either = None; both = None; bangs = [] }

-- a condition with the `!` signs before it, of which the last comes first
abbrev pub denied : List Place → Cond → Cond
denied [] c = c
denied (place ∷ places) c = denied places (negation place c)

-- a condition with what stands before the `&&`
abbrev pub both_of : Option Condition → Cond → Cond
both_of None c = c
both_of (Some a) c = both (condition_of a) c

-- a condition with what stands before the `||`
abbrev pub either_of : Option Condition → Cond → Cond
either_of None c = c
either_of (Some a) c = either (condition_of a) c

-- what a `!` may stand before
pub data IsDenied : Cond → Tokens → Tokens → Type 0 where
  denied_bang : {c : Cond} {tokens rest : Tokens} → IsBang c tokens rest → IsDenied c tokens rest
  denied_variable : {l : _} {tokens rest : Tokens} → IsLeft l tokens rest → IsDenied (plain (value l)) tokens rest
  denied_input : {word before after : Token} {tokens : Tokens} → IsWord (codes "input") word
      → IsMark (codes "(") before → IsMark (codes ")") after
      → IsDenied (plain (input word.place)) (word ∷ before ∷ after ∷ tokens) tokens
  denied_parens : {c : Cond} {before after : Token} {tokens rest : Tokens}
      → IsMark (codes "(") before → IsCondition c tokens (after ∷ rest) → IsMark (codes ")") after
      → IsDenied (enclosed before.place c) (before ∷ tokens) rest

-- what comes next after these `!` signs
abbrev pub IsOperand : List Place → Cond → Tokens → Tokens → Type 0
IsOperand [] = IsOne
IsOperand (place ∷ places) = IsDenied

-- after the operand c: what completes it with `&&` and `||`, up to what ends that
pub data Joins (pending : ConditionPending) (c : Cond) (ends : Cond → Tokens → Tokens → Cond → Type 0)
    (tokens rest : Tokens) (x : Cond) : Type 0 where
  joins : {b d : Cond} {mid more : Tokens} → Boths (both_of pending.both (denied pending.bangs c)) tokens b mid
      → Eithers (either_of pending.either b) mid d more → ends d more rest x → Joins pending c ends tokens rest x

-- after an expression with which an operand begins: it is the operand, or is compared
pub data MaybeCompared (pending : ConditionPending) (e : Expr)
    (ends : Cond → Tokens → Tokens → Cond → Type 0) : Tokens → Tokens → Cond → Type 0 where
  alone : {tokens rest : Tokens} {x : Cond} → Joins pending (plain e) ends tokens rest x → MaybeCompared pending e ends tokens rest x
  compared : {mark : Token} {comparison : Comparison} {b : Expr} {tokens mid rest : Tokens} {x : Cond}
      → IsMark (mark_of comparison) mark → IsSum b tokens mid
      → Joins pending (compare comparison e b) ends mid rest x → MaybeCompared pending e ends (mark ∷ tokens) rest x

-- after parentheses around a condition; around a plain expression they are an expression
abbrev pub BehindParens : ConditionPending → Place → Cond → (Cond → Tokens → Tokens → Cond → Type 0) → Tokens → Tokens → Cond → Type 0
BehindParens pending place (plain e) ends = InTurn (BehindOperand (parens place e)) (λ a. MaybeCompared pending a ends)
BehindParens pending place c ends = Joins pending (enclosed place c) ends

-- the same, where a `!` may stand before the parentheses: after it they are no expression
abbrev pub BehindClose : List Place → ConditionPending → Place → Cond → (Cond → Tokens → Tokens → Cond → Type 0)
    → Tokens → Tokens → Cond → Type 0
BehindClose [] pending place c ends = BehindParens pending place c ends
BehindClose (bang ∷ bangs) pending place c ends = Joins pending (enclosed place c) ends

-- after the condition c, within these parentheses
abbrev pub BehindCondition : List ConditionGroup → Cond → Tokens → Tokens → Cond → Type 0
BehindCondition [] c tokens rest x = (rest ≡ tokens) × (x ≡ c)
BehindCondition (g ∷ gs) c tokens rest x = (more : Tokens) × Marked (codes ")") tokens more
    × BehindClose g.outer.bangs g.outer g.place c (BehindCondition gs) more rest x

-- where an operand comes next
abbrev pub AtConditionOperand : List ConditionGroup → ConditionPending → Tokens → Tokens → Cond → Type 0
AtConditionOperand groups pending = InTurn (λ tokens rest c. IsOperand pending.bangs c tokens rest)
    (λ c. Joins pending c (BehindCondition groups))

abbrev pub AtConditionSpot : ConditionSpot → List ConditionGroup → ConditionPending → Tokens → Tokens → Cond → Type 0
AtConditionSpot ConditionSpot.Operand groups pending = AtConditionOperand groups pending
AtConditionSpot (ConditionSpot.Primary p) groups pending = InTurn (CompletesPrimary p)
    (λ e. Joins pending (plain e) (BehindCondition groups))
AtConditionSpot (ConditionSpot.Sum r) groups pending = InTurn (CompletesExpression r)
    (λ e. MaybeCompared pending e (BehindCondition groups))
AtConditionSpot (ConditionSpot.Compared side r) groups pending = InTurn (CompletesExpression r)
    (λ b. Joins pending (compare side.mark (expression_of side.left) b) (BehindCondition groups))
AtConditionSpot (ConditionSpot.Whole c) groups pending = Joins pending (whole_of c) (BehindCondition groups)

-- no reader of expressions stands here
abbrev pub HasNoReader : ConditionSpot → Type 0
HasNoReader ConditionSpot.Operand = ⊤
HasNoReader (ConditionSpot.Primary p) = ⊤
HasNoReader (ConditionSpot.Sum r) = ⊥
HasNoReader (ConditionSpot.Compared side r) = ⊥
HasNoReader (ConditionSpot.Whole c) = ⊤

-- the comparison with this right side, where one is read
abbrev pub at_right : ConditionSpot → Expr → Cond
at_right ConditionSpot.Operand b = plain b
at_right (ConditionSpot.Primary p) b = plain b
at_right (ConditionSpot.Sum r) b = plain b
at_right (ConditionSpot.Compared side r) b = compare side.mark (expression_of side.left) b
at_right (ConditionSpot.Whole c) b = plain b

-- these tokens, up to the rest, complete what is read to the condition c
abbrev pub CompletesCondition : ConditionReader → Tokens → Tokens → Cond → Type 0
CompletesCondition r = AtConditionSpot r.spot r.groups r.pending

-- after the beginning c of a condition, where no `&&` stands
abbrev pub AtEither : List ConditionGroup → Cond → Tokens → Tokens → Cond → Type 0
AtEither groups c = InTurn (λ tokens rest d. Eithers c tokens d rest) (BehindCondition groups)

-- the marks with which a whole condition goes on
abbrev pub condition_marks : List (List ℕ)
condition_marks = codes "+" ∷ codes "-" ∷ codes "*" ∷ codes "->" ∷ codes "==" ∷ codes "!=" ∷ codes "<" ∷ codes "<="
    ∷ codes ">" ∷ codes ">=" ∷ codes "&&" ∷ codes "||" ∷ []

-- what a step says of what completes the reader now, and after the token
abbrev pub StepsCondition : (now behind : Tokens → Tokens → Cond → Type 0) → Token → ConditionStep → Type 0
StepsCondition now behind token ConditionStep.Taken = Takes condition_marks now behind token
StepsCondition now behind token (ConditionStep.Found c) = Finds now token (condition_of c)
StepsCondition now behind token ConditionStep.Stuck = IsStuckAt now token

-- a whole condition is a plain expression, or stays as it is
abbrev pub IsSeen : Whole → Result Expression Whole → Type 0
IsSeen whole (Ok e) = whole_of whole ≡ plain (expression_of e)
IsSeen whole (Err other) = (other ≡ whole) × IsProper (whole_of whole)

-- the first token of a variable or field, or of `input()`, after a `!`
abbrev pub BeginsDenied : Token → Option Primary → Type 0
BeginsDenied token None = IsStuckAt (λ tokens rest c. IsDenied c tokens rest) token
BeginsDenied token (Some p) = Moves (λ tokens rest c. IsDenied c tokens rest)
    (λ tokens rest c. (e : Expr) × (c ≡ plain e) × CompletesPrimary p tokens rest e) token

-- after these parentheses a reader stands so
abbrev pub IsEnclosed : List Place → Place → Cond → ConditionSpot → Type 0
IsEnclosed bangs place c spot = (groups : List ConditionGroup) (pending : ConditionPending)
    → IsSame (AtConditionSpot spot groups pending) (BehindClose bangs pending place c (BehindCondition groups))
