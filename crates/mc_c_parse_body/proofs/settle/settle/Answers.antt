use Rattle.std.proofs.Common.{[], ◌∷◌, subst, ap, map, reverse}
use Rattle.mc_c_syntax.specs.declared.ast.class.Class.TheVariants as Class
use Rattle.mc_c_syntax.specs.Ast.Views.{statement_of}
use Rattle.mc_c_parse_body.specs.Phrases.{AgreeAt}
use Rattle.mc_c_parse_body.specs.Frames.{Behind, Inside}
use Rattle.mc_c_parse_body.specs.Turns.{AtTurn}
use Rattle.mc_c_parse_body.proofs.FrameTurns.{turn_along, settled_none, agree_within, nothing_of, agree_here}
use Rattle.mc_c_parse_body.proofs.settle.settle.Goals as goal

pub turns-init : goal.turns-init
turns-init c = λ aliases. agree_here

pub turns-preserved : goal.turns-preserved
turns-preserved c = λ aliases. turn_along aliases c.turns.frames.items c.pop.new.self.items c.in-Some.frame (map statement_of c.turns.body.items) (statement_of c.turns.statement) c.in-Some.ensures.items (c.turns.invariant aliases) (subst (λ t. AgreeAt (Inside aliases c.in-Some.frame (Behind aliases (reverse c.pop.new.self.items) (map statement_of c.turns.body.items)) (statement_of c.turns.statement)) (AtTurn aliases (reverse c.pop.new.self.items) (map statement_of c.turns.body.items) t) c.args.token.now) c.in-Whole.is (c.in_ok-turn-in-Some.ensures aliases (reverse c.pop.new.self.items) (map statement_of c.turns.body.items)))

pub returns-in-None : goal.returns-in-None
returns-in-None c = λ aliases. settled_none aliases c.turns.frames.items c.pop.new.self.items c.turns.body.items c.push.new.self.items c.turns.statement (nothing_of c.turns.frames.items (let here = c.turns.frames.ok in let none = c.in-None.ensures.cases.0 in cc)) (nothing_of c.pop.new.self.items (let here = c.pop.new.self.ok in let none = c.in-None.ensures.cases.1 in cc)) c.in_ok-push-in-None.ensures.items (c.turns.invariant aliases)

pub returns-in-Start : goal.returns-in-Start
returns-in-Start c = λ aliases. agree_within aliases c.enter.new.self (reverse c.pop.new.self.items) (map statement_of c.turns.body.items) [] c.in-Start.frame c.in_ok-enter-in-Start.ensures.0 (ap (λ b. map statement_of b.items) c.in_ok-enter-in-Start.ensures.1) (turn_along aliases c.turns.frames.items c.pop.new.self.items c.in-Some.frame (map statement_of c.turns.body.items) (statement_of c.turns.statement) c.in-Some.ensures.items (c.turns.invariant aliases) (subst (λ t. AgreeAt (Inside aliases c.in-Some.frame (Behind aliases (reverse c.pop.new.self.items) (map statement_of c.turns.body.items)) (statement_of c.turns.statement)) (AtTurn aliases (reverse c.pop.new.self.items) (map statement_of c.turns.body.items) t) c.args.token.now) c.in-Start.is (c.in_ok-turn-in-Some.ensures aliases (reverse c.pop.new.self.items) (map statement_of c.turns.body.items))))

pub returns-in-Else : goal.returns-in-Else
returns-in-Else c = λ aliases. agree_within aliases c.enter-in-Else.new.self (reverse c.pop.new.self.items) (map statement_of c.turns.body.items) (Class.Else ∷ []) c.in-Else.frame c.in_ok-enter-in-Else.ensures.0 (ap (λ b. map statement_of b.items) c.in_ok-enter-in-Else.ensures.1) (turn_along aliases c.turns.frames.items c.pop.new.self.items c.in-Some.frame (map statement_of c.turns.body.items) (statement_of c.turns.statement) c.in-Some.ensures.items (c.turns.invariant aliases) (subst (λ t. AgreeAt (Inside aliases c.in-Some.frame (Behind aliases (reverse c.pop.new.self.items) (map statement_of c.turns.body.items)) (statement_of c.turns.statement)) (AtTurn aliases (reverse c.pop.new.self.items) (map statement_of c.turns.body.items) t) c.args.token.now) c.in-Else.is (c.in_ok-turn-in-Some.ensures aliases (reverse c.pop.new.self.items) (map statement_of c.turns.body.items))))

pub returns-in-Do : goal.returns-in-Do
returns-in-Do c = λ aliases. turn_along aliases c.turns.frames.items c.pop.new.self.items c.in-Some.frame (map statement_of c.turns.body.items) (statement_of c.turns.statement) c.in-Some.ensures.items (c.turns.invariant aliases) (subst (λ t. AgreeAt (Inside aliases c.in-Some.frame (Behind aliases (reverse c.pop.new.self.items) (map statement_of c.turns.body.items)) (statement_of c.turns.statement)) (AtTurn aliases (reverse c.pop.new.self.items) (map statement_of c.turns.body.items) t) c.args.token.now) c.in-Do.is (c.in_ok-turn-in-Some.ensures aliases (reverse c.pop.new.self.items) (map statement_of c.turns.body.items)))
