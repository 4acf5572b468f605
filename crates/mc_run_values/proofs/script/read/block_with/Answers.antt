use Rattle.std.proofs.Common.{ℕ, ℤ, List, [], ◌∷◌, All}
use Rattle.std.specs.Prelude.{string_bytes}
use Rattle.serde_json.specs.View.{view}
use Rattle.mc_lines.specs.Cert.Entries.{Fits, IsSigned, count_data, list_data, signed_data, values_data, word_data}
use Rattle.mc_run_values.specs.Script.Lines.{BlockFits, block_data}
use Rattle.mc_run_values.proofs.ScriptLemmas.Forms.{block_entries, block_parts}
use Rattle.mc_run_values.proofs.script.read.block_with.Goals as goal
use Rattle.mc_lines.proofs.CertLemmas.Faults.{fault_of_part}

pub returns-in_err-address : goal.returns-in_err-address
returns-in_err-address c =
    let part = view c.args.address.now ∷ view c.args.shape.now ∷ view c.args.fields.now ∷ [] in
    fault_of_part block_parts (λ x. Fits x.0 × Fits x.1 × All IsSigned x.2) part block_data BlockFits (values_data part)
    (λ y f e. ((y.address, y.shape, y.fields), (tt, tt, f), block_entries part y e))
    c.in_err-address.field-0.0 c.in_err-address.ensures c.from_residual.result c.from_residual.ensures.1
