-- What statements without parts are seen as.
use Rattle.std.proofs.Common.{◌≡◌, ap, sym, ◌∙◌, Some, None, Box, Global}
use Rattle.mc_base.specs.declared.text.place.Place.{Place}
use Rattle.mc_c_syntax.specs.declared.ast.trees.Condition.{Condition}
use Rattle.mc_c_syntax.specs.declared.ast.trees.Expression.{Expression}
use Rattle.mc_c_syntax.specs.declared.ast.trees.RightSide.{RightSide}
use Rattle.mc_c_syntax.specs.declared.ast.trees.Statement.{Statement}
use Rattle.mc_c_syntax.specs.declared.ast.trees.Statement.TheVariants as Statement
use Rattle.mc_c_syntax.specs.declared.ast.trees.Statement.TheVariants.{rolls-Free, rolls-Assert, rolls-Assume, rolls-AssertEmpty, rolls-Break, rolls-Continue, rolls-Return, rolls-IfElse}
use Rattle.mc_c_syntax.specs.declared.ast.trees.Statement.TheFolds.{fold-roll-Statement}
use Rattle.mc_c_syntax.specs.Ast.Trees.{Stmt, free, assert, assume, assert_empty, break_loop, continue_loop, returns, if_else}
use Rattle.mc_c_syntax.specs.Ast.Views.{statement_of, statement_step, expression_of, condition_of, right_of}

pub free_seen : (p : Place) (e : Expression) → statement_of (Statement.Free p e) ≡ free p (expression_of e)
free_seen p e = ap statement_of (sym (rolls-Free p e)) ∙ fold-roll-Statement Stmt statement_step _

pub assert_seen : (p : Place) (c : Condition) → statement_of (Statement.Assert p c) ≡ assert p (condition_of c)
assert_seen p c = ap statement_of (sym (rolls-Assert p c)) ∙ fold-roll-Statement Stmt statement_step _

pub assume_seen : (p : Place) (c : Condition) → statement_of (Statement.Assume p c) ≡ assume p (condition_of c)
assume_seen p c = ap statement_of (sym (rolls-Assume p c)) ∙ fold-roll-Statement Stmt statement_step _

pub assert_empty_seen : (p : Place) → statement_of (Statement.AssertEmpty p) ≡ assert_empty p
assert_empty_seen p = ap statement_of (sym (rolls-AssertEmpty p)) ∙ fold-roll-Statement Stmt statement_step _

pub break_seen : (p : Place) → statement_of (Statement.Break p) ≡ break_loop p
break_seen p = ap statement_of (sym (rolls-Break p)) ∙ fold-roll-Statement Stmt statement_step _

pub continue_seen : (p : Place) → statement_of (Statement.Continue p) ≡ continue_loop p
continue_seen p = ap statement_of (sym (rolls-Continue p)) ∙ fold-roll-Statement Stmt statement_step _

pub return_seen : (p : Place) → statement_of (Statement.Return p None) ≡ returns p None
return_seen p = ap statement_of (sym (rolls-Return p None)) ∙ fold-roll-Statement Stmt statement_step _

pub return_value_seen : (p : Place) (r : RightSide) → statement_of (Statement.Return p (Some r)) ≡ returns p (Some (right_of r))
return_value_seen p r = ap statement_of (sym (rolls-Return p (Some r))) ∙ fold-roll-Statement Stmt statement_step _

if_else_seen : (p : Place) (c : Condition) (s t : Box Statement Global) → statement_of (Statement.IfElse p c s t) ≡ if_else p (condition_of c) (statement_of s.value) (statement_of t.value)
if_else_seen p c s t = ap statement_of (sym (rolls-IfElse p c s t)) ∙ fold-roll-Statement Stmt statement_step _

-- an `if` with two parts in boxes
pub if_else_made : (p : Place) (c : Condition) (one other : Box Statement Global) (s t : Statement) → one.value ≡ s → other.value ≡ t → statement_of (Statement.IfElse p c one other) ≡ if_else p (condition_of c) (statement_of s) (statement_of t)
if_else_made p c one other s t e f = if_else_seen p c one other ∙ ap (λ (v : Statement). if_else p (condition_of c) (statement_of v) (statement_of other.value)) e ∙ ap (λ (v : Statement). if_else p (condition_of c) (statement_of s) (statement_of v)) f
