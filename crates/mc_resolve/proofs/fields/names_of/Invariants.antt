use Rattle.std.proofs.Common.{◌≡◌, map, flat_map, take}
use Rattle.mc_c_syntax.specs.Ast.Views.{field_of}
use Rattle.mc_resolve.proofs.fields.names_of.Given as goal

abbrev pub invariant-loop-field : goal.invariant-loop-field
invariant-loop-field l = l.names ≡ flat_map (λ field. map (λ d. d.name.text) field.declarators) (map field_of (take l.field-index l.tree.fields.items))
