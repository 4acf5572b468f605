use Rattle.std.proofs.Common.{All, arith}
use Rattle.serde_json.specs.View.{view}
use Rattle.mc_lines.specs.Cert.Entries.{list_data}
use Rattle.mc_lines.proofs.CertLemmas.Arrays.{item_in}
use Rattle.mc_lines.proofs.CertLemmas.Faults.{fault_of_part}
use Rattle.mc_lines.proofs.cert.entry.ItemsEntry.read.Goals as goal

pub returns-in_err-read : goal.returns-in_err-read
returns-in_err-read g c =
    fault_of_part g.T.Entry.spelled g.T.Entry.fits (view c.value-item.result) (list_data g.T.Entry.spelled) (All g.T.Entry.fits) (view c.args.value.now)
    (item_in view g.T.Entry.spelled g.T.Entry.fits (view c.args.value.now) c.in-Some.values.now c.in-Some.ensures c.loop-value.value-index c.value-item.result (omega arith) c.value-item.is)
    c.in_err-read.field-0.0 c.in_err-read.ensures c.from_residual-in_err-read.result c.from_residual-in_err-read.ensures.1
