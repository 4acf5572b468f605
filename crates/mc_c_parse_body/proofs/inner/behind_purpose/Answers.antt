use Rattle.std.proofs.Common.{[], ◌∷◌, subst}
use Rattle.mc_c_syntax.specs.declared.ast.class.Class.TheVariants as Class
use Rattle.mc_c_syntax.specs.Ast.Trees.{Stmt}
use Rattle.mc_c_parse_body.specs.Phrases.{Expects}
use Rattle.mc_c_parse_body.specs.Frames.{Around}
use Rattle.mc_c_parse_body.specs.Bodies.{CompletesBody, IsBodyStep}
use Rattle.mc_c_parse_body.proofs.Seen.{assert_seen, assume_seen}
use Rattle.mc_c_parse_body.proofs.inner.behind_purpose.Goals as goal

pub returns-in-Assert : goal.returns-in-Assert
returns-in-Assert c = λ aliases. rw c.in-Assert.is (subst (λ (s : Stmt). IsBodyStep (Expects (Class.CloseParen ∷ Class.Semicolon ∷ []) (Around aliases c.args.reader.now.nest s)) (CompletesBody aliases c.expect.new.reader) c.args.token.now c.expect.result) (assert_seen c.in-Assert.place c.args.condition) (c.expect.ensures aliases))

pub returns-in-Assume : goal.returns-in-Assume
returns-in-Assume c = λ aliases. rw c.in-Assume.is (subst (λ (s : Stmt). IsBodyStep (Expects (Class.CloseParen ∷ Class.Semicolon ∷ []) (Around aliases c.args.reader.now.nest s)) (CompletesBody aliases c.expect-in-Assume.new.reader) c.args.token.now c.expect-in-Assume.result) (assume_seen c.in-Assume.place c.args.condition) (c.expect-in-Assume.ensures aliases))

pub returns-in-If : goal.returns-in-If
returns-in-If c = λ aliases. rw c.in-If.is (c.enter.ensures aliases)

pub returns-in-While : goal.returns-in-While
returns-in-While c = λ aliases. rw c.in-While.is (c.enter-in-While.ensures aliases)

pub returns-in_ok-statement-in-Do : goal.returns-in_ok-statement-in-Do
returns-in_ok-statement-in-Do c = λ aliases. rw c.in-Do.is (subst (λ (s : Stmt). IsBodyStep (Expects (Class.CloseParen ∷ Class.Semicolon ∷ []) (Around aliases c.args.reader.now.nest s)) (CompletesBody aliases c.expect-in-Do.new.reader) c.args.token.now c.expect-in-Do.result) c.in_ok-statement-in-Do.ensures (c.expect-in-Do.ensures aliases))

pub returns-in-For : goal.returns-in-For
returns-in-For c = λ aliases. rw c.in-For.is (c.expect-in-For.ensures aliases)
