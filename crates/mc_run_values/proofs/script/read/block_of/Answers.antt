use Rattle.std.proofs.Common.{◌≡◌, arith, length, map, ap}
use Rattle.std.proofs.lemmas.List.{length-map}
use Rattle.serde_json.specs.View.{view}
use Rattle.mc_run_values.proofs.ScriptLemmas.Forms.{block_entries}
use Rattle.mc_run_values.proofs.script.read.block_of.Goals as goal

pub returns-in_default : goal.returns-in_default
returns-in_default c = λ y fits e.
    let three : length (map view c.args.values.now) ≡ 3 = ap length (block_entries (map view c.args.values.now) y e) in
    let long : length (map view c.args.values.now) ≡ length c.args.values.now = length-map c.args.values.now view in
    omega arith
