use Rattle.std.proofs.Common.{ℤ, List, [], ◌∷◌, All, subst}
use Rattle.std.specs.Prelude.{codes}
use Rattle.serde_json.specs.View.{view}
use Rattle.mc_lines.specs.Cert.Entries.{IsSigned, list_data, signed_data}
use Rattle.mc_run_values.specs.declared.script.line.NamedBlock.{NamedBlock}
use Rattle.mc_run_values.specs.Script.Lines.{BlockFits, LineFits, block_data, line_data}
use Rattle.mc_run_values.proofs.ScriptLemmas.Forms.{line_form}
use Rattle.mc_run_values.proofs.script.read.of_two.Goals as goal
use Rattle.mc_lines.proofs.CertLemmas.Faults.{fault_of_form}

pub returns-in_err-value-in-shape : goal.returns-in_err-value-in-shape
returns-in_err-value-in-shape c =
    let ds = view c.args.a.now ∷ view c.args.b.now ∷ [] in
    fault_of_form (λ (x : ℤ × (List NamedBlock)). signed_data x.0 ∷ list_data block_data x.1 ∷ []) (λ x. IsSigned x.0 × All BlockFits x.1) ds line_data LineFits c.args.name.now (codes "shape") ds c.in-shape.is
    (λ y f e. let h = line_form (codes "shape") ds y e in ((h.0, h.1), subst LineFits h.2 f, h.3))
    c.in_err-value-in-shape.field-0.0 c.in_err-value-in-shape.ensures c.from_residual.result c.from_residual.ensures.1
