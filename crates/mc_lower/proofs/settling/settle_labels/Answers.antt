use Rattle.std.proofs.Common.{◌≡◌, map}
use Rattle.mc_lower.specs.Settled.{point_of_way}
use Rattle.mc_lower.proofs.Pointing.{marks_hold, outs_apart}
use Rattle.mc_lower.proofs.settling.settle_labels.Goals as goal
use Rattle.mc_lower.proofs.settling.settle_labels.Goals.{In_ok-table}

is_table : (c : In_ok-table) → c.in_ok-table.table.items ≡ map point_of_way c.settle_ways.new.ways.items
is_table c = rw c.as_slice.ensures.value at c.in_ok-table.ensures

pub returns-clause-marks : goal.returns-clause-marks
returns-clause-marks c =
    marks_hold c.in_ok-ways.ensures c.in_ok-settle_ways.ensures.settles _ (is_table (goal.at.returns-clause-marks c).In_ok-table) c.in_ok-settle_ways.ensures.all

pub returns-clause-apart : goal.returns-clause-apart
returns-clause-apart c =
    outs_apart c.in_ok-ways.ensures c.in_ok-settle_ways.ensures.settles _ (is_table (goal.at.returns-clause-apart c).In_ok-table) c.args.lines.now.lined
