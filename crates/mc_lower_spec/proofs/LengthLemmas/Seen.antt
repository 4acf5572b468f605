-- What the trees of the code are seen as.
use Rattle.std.proofs.Common.{◌≡◌, ℕ, map, Option, ap, sym, ◌∙◌, Box, Vec, Global}
use Rattle.std.specs.Prelude.{option_map}
use Rattle.mc_c_syntax.specs.declared.ast.trees.Comparison.{Comparison}
use Rattle.mc_base.specs.declared.text.place.Place.{Place}
use Rattle.mc_semantics.specs.declared.resolved.program.AssertShape.{AssertShape}
use Rattle.mc_semantics.specs.declared.resolved.program.AssumeShape.{AssumeShape}
use Rattle.mc_semantics.specs.declared.resolved.program.Condition.{Condition}
use Rattle.mc_semantics.specs.declared.resolved.program.Condition.TheVariants as Condition
use Rattle.mc_semantics.specs.declared.resolved.program.Condition.TheFolds.{fold-roll-Condition}
use Rattle.mc_semantics.specs.declared.resolved.program.Expression.{Expression}
use Rattle.mc_semantics.specs.declared.resolved.program.Expression.TheVariants as Expression
use Rattle.mc_semantics.specs.declared.resolved.program.Expression.TheFolds.{fold-roll-Expression}
use Rattle.mc_semantics.specs.declared.resolved.program.ForHead.{ForHead}
use Rattle.mc_semantics.specs.declared.resolved.program.Initial.{Initial}
use Rattle.mc_semantics.specs.declared.resolved.program.LeftValue.{LeftValue}
use Rattle.mc_semantics.specs.declared.resolved.program.RightSide.{RightSide}
use Rattle.mc_semantics.specs.declared.resolved.program.Simple.{Simple}
use Rattle.mc_semantics.specs.declared.resolved.program.Statement.{Statement}
use Rattle.mc_semantics.specs.declared.resolved.program.Statement.TheVariants as Statement
use Rattle.mc_semantics.specs.declared.resolved.program.Statement.TheFolds.{fold-roll-Statement}
use Rattle.mc_semantics.specs.Resolved.Programs.{Expr, number, input, value, minus, times, plus, difference}
use Rattle.mc_semantics.specs.Resolved.Programs.{Cond, plain, compare, negation, both, either}
use Rattle.mc_semantics.specs.Resolved.Programs.{Stmt, declaration, block, empty, simple, free, assert, assume, assume_shape}
use Rattle.mc_semantics.specs.Resolved.Programs.{assert_shape, assert_empty, if_only, if_else, while_loop, do_loop, for_loop}
use Rattle.mc_semantics.specs.Resolved.Programs.{break_loop, continue_loop, returns}
use Rattle.mc_semantics.specs.Resolved.Views.{argument_of, condition_of, condition_step, expression_of, expression_step, head_of}
use Rattle.mc_semantics.specs.Resolved.Views.{initial_of, left_of, right_of, simple_of, statement_of, statement_step, stmts_of}

-- ---- expressions
pub number_seen : (n : ℕ) → expression_of (Expression.Number n) ≡ number n
number_seen n = ap expression_of (sym (Expression.rolls-Number n)) ∙ fold-roll-Expression Expr expression_step _

pub input_seen : expression_of Expression.Input ≡ input
input_seen = ap expression_of (sym Expression.rolls-Input) ∙ fold-roll-Expression Expr expression_step _

pub value_seen : (l : LeftValue) → expression_of (Expression.Value l) ≡ value (left_of l)
value_seen l = ap expression_of (sym (Expression.rolls-Value l)) ∙ fold-roll-Expression Expr expression_step _

pub minus_seen : (a : Box Expression Global) → expression_of (Expression.Minus a) ≡ minus (expression_of a.value)
minus_seen a = ap expression_of (sym (Expression.rolls-Minus a)) ∙ fold-roll-Expression Expr expression_step _

pub times_seen : (a b : Box Expression Global) → expression_of (Expression.Times a b) ≡ times (expression_of a.value) (expression_of b.value)
times_seen a b = ap expression_of (sym (Expression.rolls-Times a b)) ∙ fold-roll-Expression Expr expression_step _

pub plus_seen : (a b : Box Expression Global) → expression_of (Expression.Plus a b) ≡ plus (expression_of a.value) (expression_of b.value)
plus_seen a b = ap expression_of (sym (Expression.rolls-Plus a b)) ∙ fold-roll-Expression Expr expression_step _

pub difference_seen : (a b : Box Expression Global) → expression_of (Expression.Difference a b) ≡ difference (expression_of a.value) (expression_of b.value)
difference_seen a b = ap expression_of (sym (Expression.rolls-Difference a b)) ∙ fold-roll-Expression Expr expression_step _

-- ---- conditions
pub plain_condition_seen : (p : Place) (e : Expression) → condition_of (Condition.Plain p e) ≡ plain p (expression_of e)
plain_condition_seen p e = ap condition_of (sym (Condition.rolls-Plain p e)) ∙ fold-roll-Condition Cond condition_step _

pub compare_condition_seen : (p : Place) (m : Comparison) (a b : Box Expression Global) → condition_of (Condition.Compare p m a b) ≡ compare p m (expression_of a.value) (expression_of b.value)
compare_condition_seen p m a b = ap condition_of (sym (Condition.rolls-Compare p m a b)) ∙ fold-roll-Condition Cond condition_step _

pub not_condition_seen : (a : Box Condition Global) → condition_of (Condition.Not a) ≡ negation (condition_of a.value)
not_condition_seen a = ap condition_of (sym (Condition.rolls-Not a)) ∙ fold-roll-Condition Cond condition_step _

pub both_condition_seen : (a b : Box Condition Global) → condition_of (Condition.Both a b) ≡ both (condition_of a.value) (condition_of b.value)
both_condition_seen a b = ap condition_of (sym (Condition.rolls-Both a b)) ∙ fold-roll-Condition Cond condition_step _

pub either_condition_seen : (a b : Box Condition Global) → condition_of (Condition.Either a b) ≡ either (condition_of a.value) (condition_of b.value)
either_condition_seen a b = ap condition_of (sym (Condition.rolls-Either a b)) ∙ fold-roll-Condition Cond condition_step _

-- ---- statements
pub declaration_statement_seen : (p : Place) (items : Vec Initial Global) → statement_of (Statement.Declaration p items) ≡ declaration p (map initial_of items.items)
declaration_statement_seen p items = ap statement_of (sym (Statement.rolls-Declaration p items)) ∙ fold-roll-Statement Stmt statement_step _

pub block_statement_seen : (xs : Vec ℕ Global) (ss : Vec Statement Global) → statement_of (Statement.Block xs ss) ≡ block xs.items (stmts_of (map statement_of ss.items))
block_statement_seen xs ss = ap statement_of (sym (Statement.rolls-Block xs ss)) ∙ fold-roll-Statement Stmt statement_step _

pub empty_statement_seen : statement_of Statement.Empty ≡ empty
empty_statement_seen = ap statement_of (sym Statement.rolls-Empty) ∙ fold-roll-Statement Stmt statement_step _

pub simple_statement_seen : (s : Simple) → statement_of (Statement.Simple s) ≡ simple (simple_of s)
simple_statement_seen s = ap statement_of (sym (Statement.rolls-Simple s)) ∙ fold-roll-Statement Stmt statement_step _

pub free_statement_seen : (p : Place) (e : Expression) → statement_of (Statement.Free p e) ≡ free p (expression_of e)
free_statement_seen p e = ap statement_of (sym (Statement.rolls-Free p e)) ∙ fold-roll-Statement Stmt statement_step _

pub assert_statement_seen : (p : Place) (c : Condition) → statement_of (Statement.Assert p c) ≡ assert p (condition_of c)
assert_statement_seen p c = ap statement_of (sym (Statement.rolls-Assert p c)) ∙ fold-roll-Statement Stmt statement_step _

pub assume_statement_seen : (p : Place) (c : Condition) → statement_of (Statement.Assume p c) ≡ assume p (condition_of c)
assume_statement_seen p c = ap statement_of (sym (Statement.rolls-Assume p c)) ∙ fold-roll-Statement Stmt statement_step _

pub assume_shape_statement_seen : (a : AssumeShape) → statement_of (Statement.AssumeShape a) ≡ assume_shape a.place a.predicate a.variable (map argument_of a.arguments.items)
assume_shape_statement_seen a = ap statement_of (sym (Statement.rolls-AssumeShape a)) ∙ fold-roll-Statement Stmt statement_step _

pub assert_shape_statement_seen : (a : AssertShape) → statement_of (Statement.AssertShape a) ≡ assert_shape a.place a.predicate (argument_of a.start) (map argument_of a.arguments.items)
assert_shape_statement_seen a = ap statement_of (sym (Statement.rolls-AssertShape a)) ∙ fold-roll-Statement Stmt statement_step _

pub assert_empty_statement_seen : (p : Place) → statement_of (Statement.AssertEmpty p) ≡ assert_empty p
assert_empty_statement_seen p = ap statement_of (sym (Statement.rolls-AssertEmpty p)) ∙ fold-roll-Statement Stmt statement_step _

pub if_statement_seen : (p : Place) (c : Condition) (s : Box Statement Global) → statement_of (Statement.If p c s) ≡ if_only p (condition_of c) (statement_of s.value)
if_statement_seen p c s = ap statement_of (sym (Statement.rolls-If p c s)) ∙ fold-roll-Statement Stmt statement_step _

pub if_else_statement_seen : (p : Place) (c : Condition) (s t : Box Statement Global) → statement_of (Statement.IfElse p c s t) ≡ if_else p (condition_of c) (statement_of s.value) (statement_of t.value)
if_else_statement_seen p c s t = ap statement_of (sym (Statement.rolls-IfElse p c s t)) ∙ fold-roll-Statement Stmt statement_step _

pub while_statement_seen : (p : Place) (c : Condition) (s : Box Statement Global) → statement_of (Statement.While p c s) ≡ while_loop p (condition_of c) (statement_of s.value)
while_statement_seen p c s = ap statement_of (sym (Statement.rolls-While p c s)) ∙ fold-roll-Statement Stmt statement_step _

pub do_statement_seen : (p : Place) (s : Box Statement Global) (c : Condition) → statement_of (Statement.Do p s c) ≡ do_loop p (statement_of s.value) (condition_of c)
do_statement_seen p s c = ap statement_of (sym (Statement.rolls-Do p s c)) ∙ fold-roll-Statement Stmt statement_step _

pub for_statement_seen : (h : Box ForHead Global) (s : Box Statement Global) → statement_of (Statement.For h s) ≡ for_loop (head_of h.value) (statement_of s.value)
for_statement_seen h s = ap statement_of (sym (Statement.rolls-For h s)) ∙ fold-roll-Statement Stmt statement_step _

pub break_statement_seen : (p : Place) → statement_of (Statement.Break p) ≡ break_loop p
break_statement_seen p = ap statement_of (sym (Statement.rolls-Break p)) ∙ fold-roll-Statement Stmt statement_step _

pub continue_statement_seen : (p : Place) → statement_of (Statement.Continue p) ≡ continue_loop p
continue_statement_seen p = ap statement_of (sym (Statement.rolls-Continue p)) ∙ fold-roll-Statement Stmt statement_step _

pub return_statement_seen : (p : Place) (r : Option RightSide) → statement_of (Statement.Return p r) ≡ returns p (option_map right_of r)
return_statement_seen p r = ap statement_of (sym (Statement.rolls-Return p r)) ∙ fold-roll-Statement Stmt statement_step _
