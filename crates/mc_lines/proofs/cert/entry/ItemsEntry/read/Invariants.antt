use Rattle.std.proofs.Common.{◌≡◌, All, map, take}
use Rattle.serde_json.specs.View.{view}
use Rattle.mc_lines.proofs.cert.entry.ItemsEntry.read.Given as goal

abbrev pub invariant-loop-value : goal.invariant-loop-value
invariant-loop-value g l =
    record { spelled : map view (take l.value-index l.values) ≡ map g.T.Entry.spelled l.items.items; fits : All g.T.Entry.fits l.items.items }
