-- How expressions go on.
use Rattle.std.proofs.Common.{◌≡◌, List, [], ◌∷◌, Some, None, refl, sym, subst, IsTrue, ◌⊎◌, inl, inr}
use Rattle.std.specs.Prelude.{codes}
use Rattle.mc_base.specs.declared.text.token.Token.{Token}
use Rattle.mc_c_syntax.specs.declared.ast.trees.Expression.{Expression}
use Rattle.mc_c_syntax.specs.Ast.Trees.{Expr, parens, times}
use Rattle.mc_c_syntax.specs.Ast.Views.{expression_of}
use Rattle.mc_c_syntax.specs.Ast.Names.{Tokens, IsMark, is_in}
use Rattle.mc_c_syntax.specs.Ast.Grammar.{Factors, no_factor, factor, product, Terms, no_term, added, taken}
use Rattle.mc_c_syntax.specs.Ast.Readers.{Takes, Finds, IsStuckAt}
use Rattle.mc_c_parse_expr.specs.declared.expression.Summed.{Summed}
use Rattle.mc_c_parse_expr.specs.declared.expression.Pending.{Pending}
use Rattle.mc_c_parse_expr.specs.declared.expression.Group.{Group}
use Rattle.mc_c_parse_expr.specs.declared.expression.ExpressionStep.{ExpressionStep}
use Rattle.mc_c_parse_expr.specs.Turns.{InTurn, in_turn, marked}
use Rattle.mc_c_parse_expr.specs.Primaries.{primary_marks}
use Rattle.mc_c_parse_expr.specs.Expressions as Specs
use Rattle.mc_c_parse_expr.specs.Expressions.{nothing, negated, product_of, GoesOn, goes_on, Behind, AtSum, AtOperand, BehindOperand, BehindName, expression_marks, StepsExpression}
use Rattle.mc_c_parse_expr.proofs.Marks.{clash, not_in, is_of, known_more}
use Rattle.mc_c_parse_expr.proofs.Turns.{SameAt, same_takes, same_finds, same_stuck, EndsAt}

pub behind_ends : (gs : List Group) (s : Expr) (token : Token) (tokens rest : Tokens) (e : Expr) → (IsMark (codes ")") token → ⊥) → Behind gs s (token ∷ tokens) rest e → rest ≡ token ∷ tokens
behind_ends [] s token tokens rest e other h = h.0
behind_ends (g ∷ gs) s token tokens rest e other (more, marked m, h) = absurd (other m)

behind_open_group : (gs : List Group) (s : Expr) (token : Token) (tokens rest : Tokens) (e : Expr) → (gs ≡ [] → ⊥) → (IsMark (codes ")") token → ⊥) → Behind gs s (token ∷ tokens) rest e → ⊥
behind_open_group [] s token tokens rest e filled c h = filled refl
behind_open_group (g ∷ gs) s token tokens rest e filled c (more, marked m, h) = c m

-- what ends a sum, after a token that is no `+` or `-`
pub sum_ends : {ends : Expr → Tokens → Tokens → Expr → Type 0} {s : Expr} {token : Token} {tokens rest : Tokens} {e : Expr} → (IsMark (codes "+") token → ⊥) → (IsMark (codes "-") token → ⊥) → InTurn (λ tokens rest a. Terms s tokens a rest) ends (token ∷ tokens) rest e → ends s (token ∷ tokens) rest e
sum_ends p m (in_turn no_term b) = b
sum_ends p m (in_turn (added q t ts) b) = absurd (p q)
sum_ends p m (in_turn (taken q t ts) b) = absurd (m q)

-- no `*` stands after the operand
pub without_star : {ends : Expr → Tokens → Tokens → Expr → Type 0} {pending : Pending} {u : Expr} {token : Token} {tokens rest : Tokens} {e : Expr} → (IsMark (codes "*") token → ⊥) → GoesOn pending u ends (token ∷ tokens) rest e → InTurn (λ tokens rest a. Terms (Specs.sum_of pending.sum (product_of pending.factor (negated pending.minuses u))) tokens a rest) ends (token ∷ tokens) rest e
without_star s (goes_on no_factor ts b) = in_turn ts b
without_star s (goes_on (factor q u f) ts b) = absurd (s q)

pub with_sum : {ends : Expr → Tokens → Tokens → Expr → Type 0} {pending : Pending} {u : Expr} {tokens rest : Tokens} {e : Expr} → InTurn (λ tokens rest a. Terms (Specs.sum_of pending.sum (product_of pending.factor (negated pending.minuses u))) tokens a rest) ends tokens rest e → GoesOn pending u ends tokens rest e
with_sum (in_turn ts b) = goes_on no_factor ts b

-- a token that is no mark of an expression, nor `)`
pub goes_ends : (gs : List Group) {pending : Pending} {u : Expr} {token : Token} {tokens rest : Tokens} {e : Expr} → (IsMark (codes "*") token → ⊥) → (IsMark (codes "+") token → ⊥) → (IsMark (codes "-") token → ⊥) → (IsMark (codes ")") token → ⊥) → GoesOn pending u (Behind gs) (token ∷ tokens) rest e → rest ≡ token ∷ tokens
goes_ends gs s p m c h = behind_ends gs _ _ _ _ _ c (sum_ends p m (without_star s h))

-- `*`
star_forward : (gs : List Group) {pending : Pending} {u : Expr} {a : Expression} {token : Token} {tokens rest : Tokens} {e : Expr} → IsMark (codes "*") token → expression_of a ≡ product_of pending.factor (negated pending.minuses u) → GoesOn pending u (Behind gs) (token ∷ tokens) rest e → AtOperand gs (record { sum = pending.sum; factor = Some a; minuses = [] }) tokens rest e ⊎ ((rest ≡ token ∷ tokens) × IsTrue (is_in expression_marks token.text))
star_forward gs s q (goes_on no_factor ts b) = inr (behind_ends gs _ _ _ _ _ (clash (codes "*") (codes ")") refl refl s) (sum_ends {ends = Behind gs} (clash (codes "*") (codes "+") refl refl s) (clash (codes "*") (codes "-") refl refl s) (in_turn ts b)), is_of expression_marks (codes "*") refl s)
star_forward gs s q (goes_on {t = t} {mid = mid} (factor {b = v} {mid = behind} m u f) ts b) = inl (in_turn u (goes_on (let P : Expr → Type 0 = λ x. Factors (times x v) behind t mid in subst P (sym q) f) ts b))

star_backward : (gs : List Group) {pending : Pending} {u : Expr} {a : Expression} {token : Token} {tokens rest : Tokens} {e : Expr} → IsMark (codes "*") token → expression_of a ≡ product_of pending.factor (negated pending.minuses u) → AtOperand gs (record { sum = pending.sum; factor = Some a; minuses = [] }) tokens rest e → GoesOn pending u (Behind gs) (token ∷ tokens) rest e
star_backward gs s q (in_turn {x = v} {mid = behind} u (goes_on {t = t} {mid = mid} f ts b)) = goes_on (factor s u (let P : Expr → Type 0 = λ x. Factors (times x v) behind t mid in subst P q f)) ts b

pub star_takes : (gs : List Group) (pending : Pending) (u : Expr) (a : Expression) (token : Token) → IsMark (codes "*") token → expression_of a ≡ product_of pending.factor (negated pending.minuses u) → Takes expression_marks (GoesOn pending u (Behind gs)) (AtOperand gs (record { sum = pending.sum; factor = Some a; minuses = [] })) token
star_takes gs pending u a token s q = record { forward = λ tokens rest x h. star_forward gs s q h; backward = λ tokens rest x h. star_backward gs s q h }

-- `+`
plus_forward : (gs : List Group) {a : Expression} {token : Token} {tokens rest : Tokens} {e : Expr} → IsMark (codes "+") token → AtSum gs (expression_of a) (token ∷ tokens) rest e → AtOperand gs (record { sum = Some (Summed.Plus a); factor = None; minuses = [] }) tokens rest e ⊎ ((rest ≡ token ∷ tokens) × IsTrue (is_in expression_marks token.text))
plus_forward gs p (in_turn no_term b) = inr (behind_ends gs _ _ _ _ _ (clash (codes "+") (codes ")") refl refl p) b, is_of expression_marks (codes "+") refl p)
plus_forward gs p (in_turn (added q (product u f) ts) b) = inl (in_turn u (goes_on f ts b))
plus_forward gs p (in_turn (taken q t ts) b) = absurd (clash (codes "+") (codes "-") refl refl p q)

plus_backward : (gs : List Group) {a : Expression} {token : Token} {tokens rest : Tokens} {e : Expr} → IsMark (codes "+") token → AtOperand gs (record { sum = Some (Summed.Plus a); factor = None; minuses = [] }) tokens rest e → AtSum gs (expression_of a) (token ∷ tokens) rest e
plus_backward gs p (in_turn u (goes_on f ts b)) = in_turn (added p (product u f) ts) b

pub plus_takes : (gs : List Group) (a : Expression) (token : Token) → IsMark (codes "+") token → Takes expression_marks (AtSum gs (expression_of a)) (AtOperand gs (record { sum = Some (Summed.Plus a); factor = None; minuses = [] })) token
plus_takes gs a token p = record { forward = λ tokens rest x h. plus_forward gs p h; backward = λ tokens rest x h. plus_backward gs p h }

-- `-` after an operand
difference_forward : (gs : List Group) {a : Expression} {token : Token} {tokens rest : Tokens} {e : Expr} → IsMark (codes "-") token → AtSum gs (expression_of a) (token ∷ tokens) rest e → AtOperand gs (record { sum = Some (Summed.Difference a); factor = None; minuses = [] }) tokens rest e ⊎ ((rest ≡ token ∷ tokens) × IsTrue (is_in expression_marks token.text))
difference_forward gs p (in_turn no_term b) = inr (behind_ends gs _ _ _ _ _ (clash (codes "-") (codes ")") refl refl p) b, is_of expression_marks (codes "-") refl p)
difference_forward gs p (in_turn (added q t ts) b) = absurd (clash (codes "-") (codes "+") refl refl p q)
difference_forward gs p (in_turn (taken q (product u f) ts) b) = inl (in_turn u (goes_on f ts b))

difference_backward : (gs : List Group) {a : Expression} {token : Token} {tokens rest : Tokens} {e : Expr} → IsMark (codes "-") token → AtOperand gs (record { sum = Some (Summed.Difference a); factor = None; minuses = [] }) tokens rest e → AtSum gs (expression_of a) (token ∷ tokens) rest e
difference_backward gs p (in_turn u (goes_on f ts b)) = in_turn (taken p (product u f) ts) b

pub difference_takes : (gs : List Group) (a : Expression) (token : Token) → IsMark (codes "-") token → Takes expression_marks (AtSum gs (expression_of a)) (AtOperand gs (record { sum = Some (Summed.Difference a); factor = None; minuses = [] })) token
difference_takes gs a token p = record { forward = λ tokens rest x h. difference_forward gs p h; backward = λ tokens rest x h. difference_backward gs p h }

-- after a whole sum, outside all parentheses
pub end_finds : (s : Expr) (token : Token) → (IsMark (codes "+") token → ⊥) → (IsMark (codes "-") token → ⊥) → Finds (AtSum [] s) token s
end_finds s token p m = record { forward = λ tokens rest x h. sum_ends {ends = Behind []} p m h; backward = λ tokens. in_turn no_term (refl, refl) }

-- and within some
pub end_stuck : (gs : List Group) (s : Expr) (token : Token) → (gs ≡ [] → ⊥) → (IsMark (codes "+") token → ⊥) → (IsMark (codes "-") token → ⊥) → (IsMark (codes ")") token → ⊥) → IsStuckAt (AtSum gs s) token
end_stuck gs s token filled p m c tokens rest x h = behind_open_group gs s token tokens rest x filled c (sum_ends {ends = Behind gs} p m h)

-- `)`
pub close_finds : (s : Expr) (token : Token) → IsMark (codes ")") token → Finds (AtSum [] s) token s
close_finds s token c = end_finds s token (clash (codes ")") (codes "+") refl refl c) (clash (codes ")") (codes "-") refl refl c)

close_forward : (g : Group) (gs : List Group) (s : Expr) (token : Token) (tokens rest : Tokens) (e : Expr) → Behind (g ∷ gs) s (token ∷ tokens) rest e → GoesOn g.outer (parens g.place s) (Behind gs) tokens rest e
close_forward g gs s token tokens rest e (more, marked m, h) = h

pub close_takes : (g : Group) (gs : List Group) (s : Expr) (token : Token) → IsMark (codes ")") token → Takes expression_marks (AtSum (g ∷ gs) s) (GoesOn g.outer (parens g.place s) (Behind gs)) token
close_takes g gs s token c = record {
  forward = λ tokens rest x h. inl (close_forward g gs s token tokens rest x (sum_ends {ends = Behind (g ∷ gs)} (clash (codes ")") (codes "+") refl refl c) (clash (codes ")") (codes "-") refl refl c) h));
  backward = λ tokens rest x h. in_turn no_term (tokens, marked c, h);
}

pub close_takes_at : (all gs below : List Group) (g : Group) (s x : Expr) (token : Token) → all ≡ g ∷ gs → below ≡ gs → x ≡ parens g.place s → IsMark (codes ")") token → Takes expression_marks (AtSum all s) (GoesOn g.outer x (Behind below)) token
close_takes_at all gs below g s x token e f h c =
    let P : List Group → Type 0 = λ a. Takes expression_marks (AtSum a s) (GoesOn g.outer x (Behind below)) token in
    let Q : List Group → Type 0 = λ b. Takes expression_marks (AtSum (g ∷ gs) s) (GoesOn g.outer x (Behind b)) token in
    let R : Expr → Type 0 = λ y. Takes expression_marks (AtSum (g ∷ gs) s) (GoesOn g.outer y (Behind gs)) token in
    subst P (sym e) (subst Q (sym f) (subst R (sym h) (close_takes g gs s token c)))

pub close_finds_at : (all : List Group) (s : Expr) (token : Token) → all ≡ [] → IsMark (codes ")") token → Finds (AtSum all s) token s
close_finds_at all s token e c = let P : List Group → Type 0 = λ a. Finds (AtSum a s) token s in subst P (sym e) (close_finds s token c)

pub steps_same : {now other : Tokens → Tokens → Expr → Type 0} {token : Token} (behind : Tokens → Tokens → Expr → Type 0) (step : ExpressionStep) → SameAt now other token → StepsExpression other behind token step → StepsExpression now behind token step
steps_same behind ExpressionStep.Taken s t = same_takes s t
steps_same behind (ExpressionStep.Found e) s t = same_finds s t
steps_same behind ExpressionStep.Stuck s t = same_stuck s t

pub sum_same : (gs : List Group) (pending : Pending) (u s : Expr) (token : Token) → (IsMark (codes "*") token → ⊥) → s ≡ Specs.sum_of pending.sum (product_of pending.factor (negated pending.minuses u)) → SameAt (GoesOn pending u (Behind gs)) (AtSum gs s) token
sum_same gs pending u s token other e =
    let P : Expr → Type 0 = λ x. SameAt (GoesOn pending u (Behind gs)) (AtSum gs x) token in
    subst P (sym e) (record { forward = λ tokens rest x h. without_star other h; backward = λ tokens rest x h. with_sum h })

-- after `->` nothing goes on but fields
pub primary_ends : (gs : List Group) (pending : Pending) (token : Token) → EndsAt primary_marks expression_marks (λ u. GoesOn pending u (Behind gs)) token
primary_ends gs pending token known u tokens rest e h =
    (goes_ends gs (not_in primary_marks (codes "*") refl known) (not_in primary_marks (codes "+") refl known) (not_in primary_marks (codes "-") refl known) (not_in primary_marks (codes ")") refl known) h, known_more token.text known)
