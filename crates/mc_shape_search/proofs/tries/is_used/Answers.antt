use Rattle.std.proofs.Common.{◌∙◌, ap, sym}
use Rattle.std.specs.Ordering.{nat_cmp}
use Rattle.std.specs.BTreeMap as tree
use Rattle.mc_shape_search.specs.Search.Search.{takes_this}
use Rattle.mc_shape_search.proofs.TriesLemmas.Times.{not_used, used_past, used_at}
use Rattle.mc_shape_search.proofs.tries.is_used.Goals as goal

pub returns-in-None : goal.returns-in-None
returns-in-None g c = not_used _ (g.P.Problem.space c.args.problem.now).takes c.args.log.now (tree.get nat_cmp c.args.times.now) c.args.id c.requires (sym c.in-None.ensures.value)

pub returns-in-None-mark_at : goal.returns-in-None-mark_at
returns-in-None-mark_at g c = used_past _ (g.P.Problem.space c.args.problem.now).takes c.args.log.now (tree.get nat_cmp c.args.times.now) c.args.id c.in-Some.place.now c.requires (sym c.in-Some.ensures.value) (sym c.in-None-mark_at.ensures)

pub returns-in-Some-mark_at : goal.returns-in-Some-mark_at
returns-in-Some-mark_at g c =
    c.is_this.ensures ∙ (ap (λ o. takes_this o c.args.id) c.taken.ensures
    ∙ used_at _ (g.P.Problem.space c.args.problem.now).takes c.args.log.now (tree.get nat_cmp c.args.times.now) c.args.id c.in-Some.place.now c.in-Some-mark_at.mark.now c.requires (sym c.in-Some.ensures.value) (sym c.in-Some-mark_at.ensures))
