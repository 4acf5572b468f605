-- What a visit of an expression notes, and what it keeps for later.
use Rattle.std.proofs.Common.{◌≡◌, ℕ, List, [], ◌∷◌, ◌++◌, ◌+◌, ◌<◌, suc, refl, ap, sym, arith, Option, Bor}
use Rattle.mc_c_syntax.specs.declared.ast.trees.Expression.{Expression}
use Rattle.mc_c_types.proofs.Finds.{drop_at}
use Rattle.std.proofs.Common.{append_assoc, flat_map, get_or, length, map, drop, ◌≤◌}
use Rattle.std.proofs.lemmas.List.{drop_all}
use Rattle.mc_c_syntax.specs.declared.ast.trees.Condition.{Condition}
use Rattle.mc_c_syntax.specs.declared.ast.trees.Parameter.{Parameter}
use Rattle.mc_c_syntax.specs.Ast.Views.{condition_of, expression_of}
use Rattle.mc_c_types.specs.Faults.{argument_faults, condition_faults, expression_faults, no_int}
use Rattle.mc_c_types.specs.First.{told_of}
use Rattle.mc_c_types.specs.Held.{conditions_faults, expressions_faults}
use Rattle.mc_c_types.specs.Sizes.{condition_size, conditions_size, expression_size, expressions_size}
use Rattle.mc_c_types.specs.Tables.{Tables, Variable}
use Rattle.mc_c_types.specs.declared.faults.Fault.{Fault}
use Rattle.mc_c_types.proofs.Orders.{told_then, told_operands}

pub operands_told : (t : Tables) (vs : List Variable) (told told' : Option Fault) (stack stack' : List (Bor Expression)) (l r : Bor Expression) (a b : Expression)
    → l.now ≡ a → r.now ≡ b
    → told' ≡ told_of (told_of told (no_int t vs (expression_of l.now))) (no_int t vs (expression_of r.now))
    → stack' ≡ l ∷ r ∷ stack
    → told_of told' (expressions_faults t vs stack')
    ≡ told_of told ((((no_int t vs (expression_of a) ++ no_int t vs (expression_of b)) ++ expression_faults t vs (expression_of a)) ++ expression_faults t vs (expression_of b)) ++ expressions_faults t vs stack)
operands_told t vs told told' stack stack' l r a b left right noted kept =
    rw (sym left)
    (rw (sym right)
    (rw noted
    (rw kept
    (told_operands told (no_int t vs (expression_of l.now)) (no_int t vs (expression_of r.now)) (expression_faults t vs (expression_of l.now)) (expression_faults t vs (expression_of r.now)) (expressions_faults t vs stack)))))

pub operands_less : (stack stack' : List (Bor Expression)) (l r : Bor Expression) (a b : Expression)
    → l.now ≡ a → r.now ≡ b → stack' ≡ l ∷ r ∷ stack
    → expressions_size stack' < suc (expression_size (expression_of a) + expression_size (expression_of b)) + expressions_size stack
operands_less stack stack' l r a b left right kept = rw (sym left) (rw (sym right) (rw kept (omega arith)))

pub inner_less : (stack stack' : List (Bor Expression)) (l : Bor Expression) (a : Expression)
    → l.now ≡ a → stack' ≡ l ∷ stack → expressions_size stack' < suc (expression_size (expression_of a)) + expressions_size stack
inner_less stack stack' l a left kept = rw (sym left) (rw kept (omega arith))

-- ---- conditions
pub kept_told : (t : Tables) (vs : List Variable) (told : Option Fault) (stack stack' : List (Bor Condition)) (l r : Bor Condition) (a b : Condition)
    → l.now ≡ a → r.now ≡ b → stack' ≡ l ∷ r ∷ stack
    → told_of told (conditions_faults t vs stack') ≡ told_of told ((condition_faults t vs (condition_of a) ++ condition_faults t vs (condition_of b)) ++ conditions_faults t vs stack)
kept_told t vs told stack stack' l r a b left right kept =
    rw (sym left)
    (rw (sym right) (rw kept (rw (append_assoc (condition_faults t vs (condition_of l.now)) (condition_faults t vs (condition_of r.now)) (conditions_faults t vs stack)) refl)))

pub kept_less : (stack stack' : List (Bor Condition)) (l r : Bor Condition) (a b : Condition)
    → l.now ≡ a → r.now ≡ b → stack' ≡ l ∷ r ∷ stack
    → conditions_size stack' < suc (condition_size (condition_of a) + condition_size (condition_of b)) + conditions_size stack
kept_less stack stack' l r a b left right kept = rw (sym left) (rw (sym right) (rw kept (omega arith)))

pub inner_condition_less : (stack stack' : List (Bor Condition)) (l : Bor Condition) (a : Condition)
    → l.now ≡ a → stack' ≡ l ∷ stack → conditions_size stack' < suc (condition_size (condition_of a)) + conditions_size stack
inner_condition_less stack stack' l a left kept = rw (sym left) (rw kept (omega arith))

-- ---- arguments
pub no_arguments : (t : Tables) (vs : List Variable) (ps : List Parameter) → argument_faults t vs ps [] ≡ []
no_arguments t vs [] = refl
no_arguments t vs (p ∷ ps) = refl

pub no_more_arguments : (t : Tables) (vs : List Variable) (ps : List Parameter) (es : List Expression) (i : ℕ)
    → length es ≤ i → argument_faults t vs ps (map expression_of (drop i es)) ≡ []
no_more_arguments t vs ps es i past = rw (drop_all i es past) (no_arguments t vs ps)

-- ---- expressions in a row
pub next_expression : (t : Tables) (vs : List Variable) (told : Option Fault) (es : List Expression) (i : ℕ) (x : Expression)
    → i < length es → x ≡ get_or es i x
    → told_of (told_of told (expression_faults t vs (expression_of x))) (flat_map (expression_faults t vs) (map expression_of (drop (i + 1) es))) ≡ told_of told (flat_map (expression_faults t vs) (map expression_of (drop i es)))
next_expression t vs told es i x below is =
    rw (drop_at es i x below is) (told_then told (expression_faults t vs (expression_of x)) (flat_map (expression_faults t vs) (map expression_of (drop (i + 1) es))))
