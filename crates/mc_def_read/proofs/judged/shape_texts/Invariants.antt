use Rattle.std.proofs.Common.{◌≡◌, take, map}
use Rattle.mc_def_read.proofs.judged.shape_texts.Given as goal

abbrev pub invariant-loop-info : goal.invariant-loop-info
invariant-loop-info l = l.texts.items ≡ map (λ info. info.name) (take l.info-index l.structs)
