use Rattle.std.proofs.Common.{ℕ, ℤ, List, [], ◌∷◌, All, subst}
use Rattle.std.specs.Prelude.{codes}
use Rattle.serde_json.specs.View.{view}
use Rattle.mc_base.specs.declared.ids.NodeId.{NodeId}
use Rattle.mc_base.specs.declared.ids.EdgeId.{EdgeId}
use Rattle.mc_base.specs.declared.plain.Kind.{Kind}
use Rattle.mc_lines.specs.Cert.Document.{LineFits, data_of}
use Rattle.mc_lines.specs.Cert.Entries.{Fits, IsSigned, count_data, edge_id_data, kind_data, list_data, node_data, signed_data}
use Rattle.mc_lines.proofs.CertLemmas.Faults.{fault_of_form}
use Rattle.mc_lines.proofs.CertLemmas.Forms.{line_form}
use Rattle.mc_lines.proofs.cert.read.of_three.Goals as goal

pub returns-in_err-node-in-L8 : goal.returns-in_err-node-in-L8
returns-in_err-node-in-L8 c =
    let ds = view c.args.a.now ∷ view c.args.b.now ∷ view c.args.c.now ∷ [] in
    let part = view c.args.a.now ∷ view c.args.b.now ∷ view c.args.c.now ∷ [] in
    fault_of_form (λ (x : NodeId × ℤ × Kind). node_data x.0 ∷ signed_data x.1 ∷ kind_data x.2 ∷ []) (λ x. Fits x.0 × IsSigned x.1 × Fits x.2) part data_of LineFits c.args.name.now (codes "L8") ds c.in-L8.is
    (λ y f e. let h = line_form (codes "L8") ds y e in ((h.0, h.1, h.2), (tt, subst LineFits h.3 f, tt), h.4))
    c.in_err-node-in-L8.field-0.0 c.in_err-node-in-L8.ensures c.from_residual.result c.from_residual.ensures.1

pub returns-in_err-disjunct-in-L13 : goal.returns-in_err-disjunct-in-L13
returns-in_err-disjunct-in-L13 c =
    let ds = view c.args.a.now ∷ view c.args.b.now ∷ view c.args.c.now ∷ [] in
    let part = view c.args.a.now ∷ view c.args.b.now ∷ view c.args.c.now ∷ [] in
    fault_of_form (λ (x : ℕ × (List NodeId) × (List EdgeId)). count_data x.0 ∷ list_data node_data x.1 ∷ list_data edge_id_data x.2 ∷ []) (λ x. Fits x.0 × (All (λ y. Fits y) x.1) × (All (λ y. Fits y) x.2)) part data_of LineFits c.args.name.now (codes "L13") ds c.in-L13.is
    (λ y f e. let h = line_form (codes "L13") ds y e in ((h.0, h.1, h.2), (tt, (λ k d below. tt), (λ k d below. tt)), h.4))
    c.in_err-disjunct-in-L13.field-0.0 c.in_err-disjunct-in-L13.ensures c.from_residual-in_err-disjunct-in-L13.result c.from_residual-in_err-disjunct-in-L13.ensures.1
