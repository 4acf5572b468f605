use Rattle.std.proofs.Common.{◌≡◌, take, map}
use Rattle.mc_def_read.proofs.judged.pred_names.Given as goal

abbrev pub invariant-loop-def : goal.invariant-loop-def
invariant-loop-def l = l.names ≡ map (λ d. d.head.name.text) (take l.def-index l.file)
