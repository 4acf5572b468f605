use Rattle.std.proofs.Common.{◌≡◌, List, [], ◌∷◌, rules}
use Rattle.std.specs.Prelude.{codes}
use Rattle.serde_json.specs.View.{view}
use Rattle.mc_base.specs.declared.ids.NodeId.{NodeId}
use Rattle.mc_base.specs.declared.ids.PredId.{PredId}
use Rattle.mc_state.specs.declared.graph.edge.Edge.{Edge}
use Rattle.mc_lines.specs.Cert.Entries.{Fits, edge_data, list_data, node_data, pred_data}
use Rattle.mc_lines.proofs.CertLemmas.Faults.{fault_of_form}
use Rattle.mc_lines.proofs.CertLemmas.PartForms.{edge_form}
use Rattle.mc_lines.proofs.cert.parts.segment.Goals as goal

pub returns-in_err-at : goal.returns-in_err-at
returns-in_err-at c =
    let ds = view c.args.at.now ∷ view c.args.args.now ∷ view c.args.pred.now ∷ view c.args.end.now ∷ view c.args.ends.now ∷ [] in
    let part = view c.args.at.now ∷ view c.args.args.now ∷ [] in
    fault_of_form (λ (x : NodeId × (List NodeId)). node_data x.0 ∷ list_data node_data x.1 ∷ []) (λ x. Fits x.0 × (Fits x.1)) part edge_data (λ (y : Edge). Fits y) c.args.name.now (codes "S") ds (search rules)
    (λ y f e. let h = edge_form (codes "S") ds y e in ((h.0, h.1), (tt, tt), (let same : part ≡ node_data h.0 ∷ list_data node_data h.1 ∷ [] = (let all = h.6 in cc) in same)))
    c.in_err-at.field-0.0 c.in_err-at.ensures c.from_residual.result c.from_residual.ensures.1

pub returns-in_err-pred : goal.returns-in_err-pred
returns-in_err-pred c =
    let ds = view c.args.at.now ∷ view c.args.args.now ∷ view c.args.pred.now ∷ view c.args.end.now ∷ view c.args.ends.now ∷ [] in
    let part = view c.args.pred.now ∷ view c.args.end.now ∷ view c.args.ends.now ∷ [] in
    fault_of_form (λ (x : PredId × NodeId × (List NodeId)). pred_data x.0 ∷ node_data x.1 ∷ list_data node_data x.2 ∷ []) (λ x. Fits x.0 × Fits x.1 × (Fits x.2)) part edge_data (λ (y : Edge). Fits y) c.args.name.now (codes "S") ds (search rules)
    (λ y f e. let h = edge_form (codes "S") ds y e in ((h.2, h.3, h.4), (tt, tt, tt), (let same : part ≡ pred_data h.2 ∷ node_data h.3 ∷ list_data node_data h.4 ∷ [] = (let all = h.6 in cc) in same)))
    c.in_err-pred.field-0.0 c.in_err-pred.ensures c.from_residual-in_err-pred.result c.from_residual-in_err-pred.ensures.1
