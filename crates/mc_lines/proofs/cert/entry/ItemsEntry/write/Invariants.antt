use Rattle.std.proofs.Common.{◌≡◌, All, map, take}
use Rattle.serde_json.specs.View.{view}
use Rattle.mc_lines.proofs.cert.entry.ItemsEntry.write.Given as goal

abbrev pub invariant-loop-item : goal.invariant-loop-item
invariant-loop-item g l =
    record { spelled : map view l.values.items ≡ map g.T.Entry.spelled (take l.item-index l.items); fits : All g.T.Entry.fits (take l.item-index l.items) }
