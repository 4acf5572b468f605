use Rattle.std.proofs.Common.{◌++◌, ◌∙◌, List, append-nil, sym, ap}
use Rattle.mc_state.specs.declared.terms.Term.{Term}
use Rattle.mc_replay.proofs.Pairing.{partners_past}
use Rattle.mc_replay.proofs.covers.partner_or_terms.Goals as goal

pub returns-in-None : goal.returns-in-None
returns-in-None c =
    sym (c.loop-place.invariant
    ∙ (ap (λ (z : List Term). c.loop-place.all.items ++ z) (partners_past c.args.pairs.now c.args.side c.args.nodes.now c.args.terms.now c.loop-place.place c.in-None.ensures.lookup.3)
    ∙ append-nil c.loop-place.all.items))
