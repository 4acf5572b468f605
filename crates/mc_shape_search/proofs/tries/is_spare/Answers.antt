use Rattle.mc_shape_search.proofs.TriesLemmas.Thin.{in_take}
use Rattle.mc_shape_search.proofs.tries.is_spare.Goals as goal

pub returns-then-replaces : goal.returns-then-replaces
returns-then-replaces g c = λ _.
    record {
      one = c.index-all-j.result;
      listed = in_take c.args.all.now c.args.place c.loop-j.j c.index-all-j.result c.loop-j-test.true c.requires.within c.index-all-j.is;
      stands = c.replaces.ensures.stands c.if-replaces.true;
      free = c.replaces.ensures.free c.if-replaces.true;
    }
