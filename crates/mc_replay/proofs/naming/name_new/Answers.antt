use Rattle.std.proofs.Common.{[], ◌∷◌, List, subst}
use Rattle.mc_state.specs.State.{State}
use Rattle.mc_state.specs.Premises.{Judged, Changes}
use Rattle.mc_replay.proofs.NamedLemmas.{same_spare}
use Rattle.mc_replay.proofs.naming.name_new.Goals as goal

pub returns : goal.returns
returns c = λ know t.
    let s = c.args.state.now in
    let a = c.args.term.now in
    let b = c.spare_of-spare.result in
    subst (λ (j : Judged (List State)). Changes j (s ∷ []) (c.name_spare.new.s ∷ []) c.name_spare.result)
    (same_spare know s b.node a.node b.add a.add b.kind c.args.kind c.spare_of-spare.ensures.node c.spare_of-spare.ensures.add c.spare_of-spare.ensures.kind)
    (c.name_spare.ensures know t)
