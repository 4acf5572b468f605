use Rattle.std.proofs.Common.{◌≡◌, ℕ, List, [], ◌∷◌, All, rules}
use Rattle.std.specs.Prelude.{codes}
use Rattle.serde_json.specs.View.{view}
use Rattle.mc_base.specs.declared.ids.NodeId.{NodeId}
use Rattle.mc_base.specs.declared.ids.EdgeId.{EdgeId}
use Rattle.mc_base.specs.declared.ids.PredId.{PredId}
use Rattle.mc_lines.specs.Cert.Document.{LineFits, data_of}
use Rattle.mc_lines.specs.Cert.Entries.{Fits, count_data, edge_id_data, list_data, node_data, pred_data}
use Rattle.mc_lines.proofs.CertLemmas.Faults.{fault_of_form}
use Rattle.mc_lines.proofs.CertLemmas.Forms.{line_form}
use Rattle.mc_lines.proofs.cert.read.of_six.Goals as goal

pub returns-in_err-pred : goal.returns-in_err-pred
returns-in_err-pred c =
    let ds = view c.args.a.now ∷ view c.args.b.now ∷ view c.args.c.now ∷ view c.args.d.now ∷ view c.args.e.now ∷ view c.args.f.now ∷ [] in
    let part = view c.args.a.now ∷ view c.args.b.now ∷ view c.args.c.now ∷ [] in
    fault_of_form (λ (x : PredId × ℕ × (List NodeId)). pred_data x.0 ∷ count_data x.1 ∷ list_data node_data x.2 ∷ []) (λ x. Fits x.0 × Fits x.1 × (All (λ y. Fits y) x.2)) part data_of LineFits c.args.name.now (codes "L4") ds (search rules)
    (λ y f e. let h = line_form (codes "L4") ds y e in ((h.0.pred, h.0.rule, h.0.names), (tt, tt, (λ k d below. tt)), (let same : part ≡ pred_data h.0.pred ∷ count_data h.0.rule ∷ list_data node_data h.0.names ∷ [] = (let all = h.2 in cc) in same)))
    c.in_err-pred.field-0.0 c.in_err-pred.ensures c.from_residual.result c.from_residual.ensures.1

pub returns-in_err-block : goal.returns-in_err-block
returns-in_err-block c =
    let ds = view c.args.a.now ∷ view c.args.b.now ∷ view c.args.c.now ∷ view c.args.d.now ∷ view c.args.e.now ∷ view c.args.f.now ∷ [] in
    let part = view c.args.d.now ∷ view c.args.e.now ∷ view c.args.f.now ∷ [] in
    fault_of_form (λ (x : EdgeId × (List EdgeId) × ℕ). edge_id_data x.0 ∷ list_data edge_id_data x.1 ∷ count_data x.2 ∷ []) (λ x. Fits x.0 × (All (λ y. Fits y) x.1) × Fits x.2) part data_of LineFits c.args.name.now (codes "L4") ds (search rules)
    (λ y f e. let h = line_form (codes "L4") ds y e in ((h.0.block, h.0.edges, h.0.call), (tt, (λ k d below. tt), tt), (let same : part ≡ edge_id_data h.0.block ∷ list_data edge_id_data h.0.edges ∷ count_data h.0.call ∷ [] = (let all = h.2 in cc) in same)))
    c.in_err-block.field-0.0 c.in_err-block.ensures c.from_residual-in_err-block.result c.from_residual-in_err-block.ensures.1
