use Rattle.std.proofs.Common.{◌≡◌, length, map}
use Rattle.std.specs.Prelude.{drop, ◌↔◌}
use Rattle.mc_flow.specs.declared.defs.shapes.FieldInfo.{FieldInfo}
use Rattle.mc_flow.proofs.defs.structs_fit.fields_have.Given as goal

abbrev pub invariant-loop-i : goal.invariant-loop-i
invariant-loop-i l =
    (length l.fields ≡ length l.kinds)
    × ((map (λ (field : FieldInfo). field.kind) l.fields ≡ l.kinds) ↔ (map (λ (field : FieldInfo). field.kind) (drop l.i l.fields) ≡ drop l.i l.kinds))
