use Rattle.std.proofs.Common.{◌<◌, ◌∷◌, [], ◌∙◌, Option, length, option_map, sym, ap, arith}
use Rattle.mc_base.specs.declared.ids.NodeId.{NodeId}
use Rattle.mc_replay.specs.Named.{with_named}
use Rattle.mc_replay.proofs.NamedLemmas.{unequal_none, stops, goes_on}
use Rattle.mc_replay.proofs.naming.name_terms.Goals as goal

pub returns-then-kinds-terms-clause-named : goal.returns-then-kinds-terms-clause-named
returns-then-kinds-terms-clause-named c = λ w t. unequal_none w c.args.state.now c.args.kinds.now c.args.terms.now (λ e. absurd (omega arith))

pub returns-in-None-clause-named : goal.returns-in-None-clause-named
returns-in-None-clause-named c = λ w t.
    let v = c.loop-i.invariant in
    let same = v.lengths in
    let l : c.loop-i.i < length c.args.kinds.now = omega arith in
    let m : c.loop-i.i < length c.args.terms.now = omega arith in
    stops w c.args.state.now c.loop-i.state c.args.kinds.now c.args.terms.now c.loop-i.nodes.items c.loop-i.i _ _ l m (v.named w t)
    (sym (c.in_ok-node.ensures.named w (v.tells w t)) ∙ ap (λ (o : Option NodeId). option_map (λ (n : NodeId). with_named c.name_term.new.state (n ∷ [])) o) c.in-None.is)

pub returns-in-None-clause-tells : goal.returns-in-None-clause-tells
returns-in-None-clause-tells c = λ w t. c.in_ok-node.ensures.tells w (c.loop-i.invariant.tells w t)

pub returns-in-None-clause-graph : goal.returns-in-None-clause-graph
returns-in-None-clause-graph c = c.in_ok-node.ensures.graph ∙ c.loop-i.invariant.graph

pub loop-i-preserved : goal.loop-i-preserved
loop-i-preserved c =
    let v = c.loop-i.invariant in
    let same = v.lengths in
    let l : c.loop-i.i < length c.args.kinds.now = omega arith in
    let m : c.loop-i.i < length c.args.terms.now = omega arith in
    record {
      lengths = v.lengths;
      good = c.in_ok-node.ensures.good;
      graph = c.in_ok-node.ensures.graph ∙ v.graph;
      tells = λ w t. c.in_ok-node.ensures.tells w (v.tells w t);
      named = λ w t.
          goes_on w c.args.state.now c.loop-i.state c.args.kinds.now c.args.terms.now c.loop-i.nodes.items c.loop-i.i _ _ l m (v.named w t) c.name_term.new.state c.in-Some.node c.push.new.self.items
          (sym (c.in_ok-node.ensures.named w (v.tells w t)) ∙ ap (λ (o : Option NodeId). option_map (λ (n : NodeId). with_named c.name_term.new.state (n ∷ [])) o) c.in-Some.is)
          c.in_ok-push-in-Some.ensures.items;
    }
