use Rattle.std.proofs.Common.{◌≡◌, take, vec_len, arith}
use Rattle.std.specs.Ordering.{nat_cmp}
use Rattle.std.specs.BTreeMap as tree
use Rattle.mc_shape_search.proofs.TriesLemmas.Times.{cut_more}
use Rattle.mc_shape_search.proofs.tries.cut_log.Goals as goal

pub returns-clause-times : goal.returns-clause-times
returns-clause-times g c =
    let t : c.truncate.new.self.items ≡ take c.args.height c.args.log.now.items = c.truncate.ensures.items in
    cut_more _ (g.P.Problem.space c.args.problem.now).takes c.args.log.now.items c.truncate.new.self.items c.push.new.self.items (tree.get nat_cmp c.args.times.now) (tree.get nat_cmp c.set_place.new.times) c.args.height c.len.result c.args.mark c.taken.result c.requires.times c.requires.free
    t c.in_ok-push.ensures.items c.taken.ensures (let e : c.len.result ≡ vec_len c.truncate.new.self = c.len.ensures in omega (arith, c.truncate.new.self.ok.0)) c.in_ok-set_place.ensures
