use Rattle.std.proofs.Common.{◌<◌, [], ◌∷◌, ap, refl, arith}
use Rattle.mc_state.specs.State.{with_nodes}
use Rattle.mc_symbolic.specs.Kept.{seen}
use Rattle.mc_symbolic.proofs.Kept.{all_formed_more, last_kind}
use Rattle.mc_symbolic.proofs.state.State.add_node.Goals as goal

pub node-requires : goal.node-requires
node-requires c = λ h. let l : c.self.inside.next < c.self.inside.next = c.nodes_are_there.ensures.below (seen c.self.inside) (record { 0 = c.self.inside.next }) c.self.invariant.bounded h in omega arith

pub invariant_of-self-2 : goal.invariant_of-self-2
invariant_of-self-2 c =
    let i = c.self.inside in
    let k = last_kind 1 i.next i.pure.kinds (record { 0 = i.next }) c.args.kind c.self.invariant.bounded.kinds (omega arith) in
    rw (c.in_ok-node.ensures.ok) (record { bounded = rw k (c.numbers_stay_bounded.ensures.nodes (seen i) (c.args.kind ∷ []) c.self.invariant.bounded); starts = c.self.invariant.starts; atoms = rw k (all_formed_more i.pure.kinds (with_nodes (seen i) (c.args.kind ∷ [])).kinds (c.nodes_are_there.ensures.kinds (seen i) (c.args.kind ∷ []) c.self.invariant.bounded).1 i.pure.written c.self.invariant.atoms) })

pub returns-clause-ok : goal.returns-clause-ok
returns-clause-ok c =
    let i = c.self.inside in
    let k = last_kind 1 i.next i.pure.kinds (record { 0 = i.next }) c.args.kind c.self.invariant.bounded.kinds (omega arith) in
    rw (← c.self.view_is) (rw (c.in_ok-node.ensures.ok) (rw k refl))
