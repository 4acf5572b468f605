use Rattle.std.proofs.Common.{sym, ◌∙◌, ap}
use Rattle.mc_state.specs.declared.terms.Term.{Term}
use Rattle.mc_cover.specs.Search.Terms.{is_near}
use Rattle.mc_cover.proofs.SearchLemmas.Fixed.{base_near}
use Rattle.mc_cover.proofs.search.names.sum.Goals as goal

pub moved_near-requires-clause-near : goal.moved_near-requires-clause-near
moved_near-requires-clause-near c = ap (λ (t : Term). is_near t.add) c.base_at-from.ensures ∙ base_near c.args.names.now c.args.base c.requires.near
