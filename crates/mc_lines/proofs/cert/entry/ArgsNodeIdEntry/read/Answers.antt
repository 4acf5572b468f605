use Rattle.std.proofs.Common.{arith}
use Rattle.serde_json.specs.View.{view}
use Rattle.mc_lines.specs.Cert.Entries.{Fits, list_data, node_data}
use Rattle.mc_lines.proofs.CertLemmas.Arrays.{item_in}
use Rattle.mc_lines.proofs.CertLemmas.Faults.{fault_of_part}
use Rattle.mc_lines.proofs.cert.entry.ArgsNodeIdEntry.read.Goals as goal

pub returns-in_err-id : goal.returns-in_err-id
returns-in_err-id c =
    fault_of_part node_data (λ x. Fits x) (view c.value-item.result) (list_data node_data) (λ x. Fits x) (view c.args.value.now)
    (λ xs none. item_in view node_data (λ x. Fits x) (view c.args.value.now) c.in-Some.values.now c.in-Some.ensures c.loop-value.value-index c.value-item.result (omega arith) c.value-item.is xs (λ k d below. tt))
    c.in_err-id.field-0.0 c.in_err-id.ensures c.from_residual.result c.from_residual.ensures.1
