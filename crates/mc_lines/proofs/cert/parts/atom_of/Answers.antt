use Rattle.std.proofs.Common.{◌≡◌, arith, length, map}
use Rattle.std.proofs.lemmas.List.{length-map}
use Rattle.serde_json.specs.View.{view}
use Rattle.mc_lines.proofs.CertLemmas.PartForms.{atom_length}
use Rattle.mc_lines.proofs.cert.parts.atom_of.Goals as goal

pub returns-in_default : goal.returns-in_default
returns-in_default c = λ y fits e.
    let three = atom_length c.args.name.now (map view c.args.entries.now) y e in
    let long : length (map view c.args.entries.now) ≡ length c.args.entries.now = length-map c.args.entries.now view in
    omega arith

pub returns-in_default-2 : goal.returns-in_default-2
returns-in_default-2 c = λ y fits e.
    let three = atom_length c.args.name.now (map view c.args.entries.now) y e in
    let long : length (map view c.args.entries.now) ≡ length c.args.entries.now = length-map c.args.entries.now view in
    omega arith
