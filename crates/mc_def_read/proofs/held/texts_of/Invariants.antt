use Rattle.std.proofs.Common.{◌≡◌, take, map}
use Rattle.mc_def_read.proofs.held.texts_of.Given as goal

abbrev pub invariant-loop-field : goal.invariant-loop-field
invariant-loop-field l = l.texts.items ≡ map (λ field. field.name) (take l.field-index l.fields)
