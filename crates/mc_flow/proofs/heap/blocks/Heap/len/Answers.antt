use Rattle.std.proofs.Common.{sym, ap, ◌∙◌}
use Rattle.std.specs.FinMap as map
use Rattle.mc_flow.proofs.HeapLemmas.Entries.{len_view}
use Rattle.mc_flow.proofs.heap.blocks.Heap.len.Goals as goal

pub returns-clause-count : goal.returns-clause-count
returns-clause-count c = c.len.ensures.len ∙ sym (len_view c.self.inside.blocks c.len.ensures.ordered) ∙ ap map.len c.self.view_is
