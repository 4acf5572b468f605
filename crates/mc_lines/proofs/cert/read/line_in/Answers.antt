use Rattle.std.proofs.Common.{◌≡◌, arith, length, map}
use Rattle.std.proofs.lemmas.List.{length-map}
use Rattle.serde_json.specs.View.{view}
use Rattle.mc_lines.proofs.CertLemmas.Forms.{five_entries, line_length, six_entries, version_form}
use Rattle.mc_lines.proofs.cert.read.line_in.Goals as goal

pub returns-in_default : goal.returns-in_default
returns-in_default c =
    let long : length (map view c.args.entries.now) ≡ length c.args.entries.now = length-map c.args.entries.now view in (
      λ l fits e. let some = line_length c.args.name.now (map view c.args.entries.now) l e in omega arith,
      λ v. let two = version_form c.args.name.now (map view c.args.entries.now) v in omega arith,
    )

pub returns-in-5 : goal.returns-in-5
returns-in-5 c =
    five_entries view c.args.name.now c.args.entries.now c.index-entries-0-in-5.result c.index-entries-1-in-5.result c.index-entries-2-in-5.result c.index-entries-3.result c.index-entries-4.result
    c.in-5.is (c.index-entries-0-in-5.is, c.index-entries-1-in-5.is, c.index-entries-2-in-5.is, c.index-entries-3.is, c.index-entries-4.is) c.of_five.result c.of_five.ensures

pub returns-in-6 : goal.returns-in-6
returns-in-6 c =
    six_entries view c.args.name.now c.args.entries.now c.index-entries-0-in-6.result c.index-entries-1-in-6.result c.index-entries-2-in-6.result c.index-entries-3-in-6.result c.index-entries-4-in-6.result c.index-entries-5.result
    c.in-6.is (c.index-entries-0-in-6.is, c.index-entries-1-in-6.is, c.index-entries-2-in-6.is, c.index-entries-3-in-6.is, c.index-entries-4-in-6.is, c.index-entries-5.is) c.of_six.result c.of_six.ensures
