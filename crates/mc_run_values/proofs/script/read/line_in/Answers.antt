use Rattle.std.proofs.Common.{◌≡◌, arith, length, map}
use Rattle.std.proofs.lemmas.List.{length-map}
use Rattle.serde_json.specs.View.{view}
use Rattle.mc_run_values.proofs.ScriptLemmas.Forms.{line_length}
use Rattle.mc_run_values.proofs.script.read.line_in.Goals as goal

pub returns-in_default : goal.returns-in_default
returns-in_default c = λ l fits e.
    let some = line_length c.args.name.now (map view c.args.entries.now) l e in
    let long : length (map view c.args.entries.now) ≡ length c.args.entries.now = length-map c.args.entries.now view in
    omega arith
