use Rattle.std.proofs.Common.{ap, is_some}
use Rattle.mc_c_syntax.proofs.VisibleLemmas.Entries.{fewer_hidden, fewer_lasts, last_stands}
use Rattle.mc_c_syntax.proofs.visible.stack.NameStack.pop.Goals as goal

pub uncover-requires : goal.uncover-requires
uncover-requires c =
    ap is_some (last_stands c.self.inside.entries.items c.pop.new.self.items c.in_ok-entry.entry c.self.inside.lasts c.in_ok-entry.ensures.items c.self.invariant.places)

pub invariant_of-self-2 : goal.invariant_of-self-2
invariant_of-self-2 c = record {
  places = fewer_lasts c.self.inside.entries.items c.pop.new.self.items c.in_ok-entry.entry c.self.inside.lasts c.uncover.new.lasts c.in_ok-entry.ensures.items c.self.invariant.places c.self.invariant.hidden c.uncover.ensures;
  hidden = fewer_hidden c.self.inside.entries.items c.pop.new.self.items c.in_ok-entry.entry c.in_ok-entry.ensures.items c.self.invariant.hidden;
}
