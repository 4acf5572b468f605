use Rattle.std.proofs.Common.{◌≡◌, map, take}
use Rattle.mc_run_values.proofs.script.shapes.struct_texts.Given as goal

abbrev pub invariant-loop-info : goal.invariant-loop-info
invariant-loop-info l = l.texts.items ≡ map (λ info. info.name) (take l.info-index l.structs)
