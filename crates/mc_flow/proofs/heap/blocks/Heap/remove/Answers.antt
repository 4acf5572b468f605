use Rattle.std.proofs.Common.{ap, ◌∙◌, None}
use Rattle.std.specs.FinMap as map
use Rattle.mc_flow.specs.Heap.Heap.{Heap}
use Rattle.mc_flow.proofs.HeapLemmas.Entries.{found_view, remove_view, addresses_kept, is_there}
use Rattle.mc_flow.proofs.heap.blocks.Heap.remove.Goals as goal

pub invariant_of-self : goal.invariant_of-self
invariant_of-self c = addresses_kept c.self.inside.blocks c.remove.new.self c.args.address None c.remove.ensures.updates (λ s. absurd (cc s)) c.self.invariant

pub returns-clause-was : goal.returns-clause-was
returns-clause-was c =
    is_there c.is_some.result _ c.remove.result c.is_some.ensures
    (found_view c.self.inside.blocks c.args.self.now c.args.address c.remove.result c.self.view_is c.remove.ensures.value)

pub returns-clause-removed : goal.returns-clause-removed
returns-clause-removed c =
    remove_view c.self.inside.blocks c.remove.new.self c.args.address c.remove.ensures.updates ∙ ap (λ (h : Heap). map.remove h c.args.address) c.self.view_is
