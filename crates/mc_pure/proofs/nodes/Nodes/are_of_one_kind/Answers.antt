use Rattle.mc_pure.proofs.Placing.{one_left, one_right, first_node, second_node}
use Rattle.mc_pure.proofs.nodes.Nodes.are_of_one_kind.Goals as goal

pub returns-then-a-eq0-clause-yes : goal.returns-then-a-eq0-clause-yes
returns-then-a-eq0-clause-yes c = λ t. one_left c.args.self.now c.args.a c.args.b c.if-a-eq0.true (c.has.ensures.yes t)

pub returns-then-a-eq0-clause-no : goal.returns-then-a-eq0-clause-no
returns-then-a-eq0-clause-no c = λ t h. c.has.ensures.no t (second_node c.args.self.now c.args.a c.args.b h)

pub returns-then-b-eq0-clause-yes : goal.returns-then-b-eq0-clause-yes
returns-then-b-eq0-clause-yes c = λ t. one_right c.args.self.now c.args.a c.args.b c.if-b-eq0.true (c.has-then-b-eq0.ensures.yes t)

pub returns-then-b-eq0-clause-no : goal.returns-then-b-eq0-clause-no
returns-then-b-eq0-clause-no c = λ t h. c.has-then-b-eq0.ensures.no t (first_node c.args.self.now c.args.a c.args.b h)
