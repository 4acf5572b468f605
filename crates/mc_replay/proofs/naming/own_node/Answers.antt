use Rattle.std.proofs.Common.{◌∙◌, ap, List}
use Rattle.std.specs.Prelude.{find}
use Rattle.mc_base.specs.declared.ids.NodeId.{NodeId}
use Rattle.mc_replay.specs.Named.{is_own}
use Rattle.mc_replay.proofs.NamedLemmas.{own_found}
use Rattle.mc_replay.proofs.naming.own_node.Goals as goal

pub returns : goal.returns
returns c = λ w t.
    let s = c.args.state.now in
    c.first_own.ensures (w.know s) (t.knows s t.made)
    ∙ (ap (λ (z : List NodeId). find (is_own (w.know s) s.kinds c.args.kind c.args.term.now) z) c.nodes.ensures
    ∙ own_found (w.know s) c.args.kind c.args.term.now s.kinds s.next t.made.bounded.kinds)
