use Rattle.std.proofs.Common.{◌+◌, sym, subst}
use Rattle.mc_follow.specs.Alarms.Sides.{HasName}
use Rattle.mc_follow.proofs.AlarmsLemmas.SideLines.{NamesSoFar, all_named, as_many, next_may, next_named, none_named, not_named}
use Rattle.mc_follow.proofs.alarms.walk.Walk.names.Goals as goal

pub loop-i-init : goal.loop-i-init
loop-i-init c = record {
  walk = c.requires.followed;
  lengths = as_many c.requires.here.1 c.args.kinds.now c.args.terms.now c.requires.here.3.may;
  named = subst (NamesSoFar c.args.self.now.proof c.args.self.now.proof c.args.kinds.now c.args.terms.now 0) (sym c.new-nodes.ensures.items) (none_named c.args.self.now.proof c.args.kinds.now c.args.terms.now);
}

pub name-requires-clause-here : goal.name-requires-clause-here
name-requires-clause-here c =
    let at = c.requires.here in
    let so = c.loop-i.invariant.named at.0 at.1 at.2 at.3 in
    (at.0, so.0, at.2, next_may c.args.self.now.proof c.loop-i.self.proof c.args.kinds.now c.args.terms.now c.loop-i.i c.loop-i.nodes.items _ _ at.0 at.1 at.2 c.loop-i-test.true at.3 so)

pub returns-in-None-clause-named : goal.returns-in-None-clause-named
returns-in-None-clause-named c =
    not_named c.args.self.now.proof c.loop-i.self.proof c.name.new.self.proof c.args.kinds.now c.args.terms.now c.loop-i.i c.loop-i.nodes.items _ _ c.loop-i-test.true c.loop-i.invariant.named
    (subst (HasName c.loop-i.self.proof c.name.new.self.proof _ _) c.in-None.is c.in_ok-node.ensures.named)

pub loop-i-preserved : goal.loop-i-preserved
loop-i-preserved c = record {
  walk = c.in_ok-node.ensures.follows;
  lengths = c.loop-i.invariant.lengths;
  named = subst (NamesSoFar c.args.self.now.proof c.name.new.self.proof c.args.kinds.now c.args.terms.now (c.loop-i.i + 1)) (sym c.in_ok-push-in-Some.ensures.items)
      (next_named c.args.self.now.proof c.loop-i.self.proof c.name.new.self.proof c.args.kinds.now c.args.terms.now c.loop-i.i c.loop-i.nodes.items _ _ c.in-Some.node c.loop-i-test.true
      c.loop-i.invariant.named (subst (HasName c.loop-i.self.proof c.name.new.self.proof _ _) c.in-Some.is c.in_ok-node.ensures.named));
}

pub returns-clause-named : goal.returns-clause-named
returns-clause-named c =
    all_named c.args.self.now.proof c.loop-i.self.proof c.args.kinds.now c.args.terms.now c.loop-i.i c.loop-i.nodes.items c.loop-i-test.false c.loop-i.invariant.named
