use Rattle.std.proofs.Common.{List, sym, ◌∙◌, subst}
use Rattle.mc_pure.specs.declared.rows.Row.{Row}
use Rattle.mc_pure.specs.Known.{pure_of}
use Rattle.mc_pure.specs.Rows.{IsSound}
use Rattle.mc_pure.specs.Steps.{HasKinds}
use Rattle.mc_pure.proofs.Starting.{start_sound, start_kinds}
use Rattle.mc_pure.proofs.close.close.Goals as goal

pub finish-wrong-requires-clause-sound : goal.finish-wrong-requires-clause-sound
finish-wrong-requires-clause-sound c =
    let p = pure_of c.args.known.now in
    subst (λ (z : List Row). IsSound p z) (sym (c.as_mut_slice.ensures.value ∙ c.in_ok-rows.ensures.rows)) (start_sound p c.requires c.start.ensures.rise)

pub finish-wrong-requires-clause-kinds : goal.finish-wrong-requires-clause-kinds
finish-wrong-requires-clause-kinds c =
    let p = pure_of c.args.known.now in
    subst (λ (z : List Row). HasKinds p z) (sym (c.as_mut_slice.ensures.value ∙ c.in_ok-rows.ensures.rows)) (start_kinds p c.requires c.start.ensures.rise)
