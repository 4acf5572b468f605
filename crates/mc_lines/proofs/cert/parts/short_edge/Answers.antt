use Rattle.std.proofs.Common.{List, [], ◌∷◌, Option, All}
use Rattle.std.specs.Prelude.{codes}
use Rattle.serde_json.specs.View.{view}
use Rattle.mc_base.specs.declared.ids.NodeId.{NodeId}
use Rattle.mc_base.specs.declared.ids.PredId.{PredId}
use Rattle.mc_base.specs.declared.ids.StructId.{StructId}
use Rattle.mc_state.specs.declared.graph.edge.Edge.{Edge}
use Rattle.mc_lines.specs.Cert.Entries.{Fits, edge_data, list_data, node_data, option_data, pred_data, struct_data}
use Rattle.mc_lines.proofs.CertLemmas.Faults.{fault_of_form}
use Rattle.mc_lines.proofs.CertLemmas.PartForms.{edge_form}
use Rattle.mc_lines.proofs.cert.parts.short_edge.Goals as goal

pub returns-in_err-at-in-B : goal.returns-in_err-at-in-B
returns-in_err-at-in-B c =
    let ds = view c.args.a.now ∷ view c.args.b.now ∷ view c.args.c.now ∷ [] in
    let part = view c.args.a.now ∷ view c.args.b.now ∷ view c.args.c.now ∷ [] in
    fault_of_form (λ (x : NodeId × StructId × (List (Option NodeId))). node_data x.0 ∷ struct_data x.1 ∷ list_data (option_data node_data) x.2 ∷ []) (λ x. Fits x.0 × Fits x.1 × (All (λ y. Fits y) x.2)) part edge_data (λ (y : Edge). Fits y) c.args.name.now (codes "B") ds c.in-B.is
    (λ y f e. let h = edge_form (codes "B") ds y e in ((h.0, h.1, h.2), (tt, tt, (λ k d below. tt)), h.4))
    c.in_err-at-in-B.field-0.0 c.in_err-at-in-B.ensures c.from_residual.result c.from_residual.ensures.1

pub returns-in_err-at-in-I : goal.returns-in_err-at-in-I
returns-in_err-at-in-I c =
    let ds = view c.args.a.now ∷ view c.args.b.now ∷ view c.args.c.now ∷ [] in
    let part = view c.args.a.now ∷ view c.args.b.now ∷ view c.args.c.now ∷ [] in
    fault_of_form (λ (x : NodeId × PredId × (List NodeId)). node_data x.0 ∷ pred_data x.1 ∷ list_data node_data x.2 ∷ []) (λ x. Fits x.0 × Fits x.1 × (Fits x.2)) part edge_data (λ (y : Edge). Fits y) c.args.name.now (codes "I") ds c.in-I.is
    (λ y f e. let h = edge_form (codes "I") ds y e in ((h.0, h.1, h.2), (tt, tt, tt), h.4))
    c.in_err-at-in-I.field-0.0 c.in_err-at-in-I.ensures c.from_residual-in_err-at-in-I.result c.from_residual-in_err-at-in-I.ensures.1
