use Rattle.std.proofs.Common.{◌≡◌, ℕ, List, [], ◌∷◌, Option, All}
use Rattle.std.specs.Prelude.{codes}
use Rattle.serde_json.specs.View.{view}
use Rattle.mc_base.specs.declared.ids.NodeId.{NodeId}
use Rattle.mc_base.specs.declared.ids.EdgeId.{EdgeId}
use Rattle.mc_base.specs.declared.ids.PredId.{PredId}
use Rattle.mc_lines.specs.Cert.Document.{LineFits, data_of}
use Rattle.mc_lines.specs.Cert.Entries.{Fits, count_data, edge_id_data, list_data, node_data, option_data, pred_data}
use Rattle.mc_lines.proofs.CertLemmas.Faults.{fault_of_form}
use Rattle.mc_lines.proofs.CertLemmas.Forms.{line_form}
use Rattle.mc_lines.proofs.cert.read.of_five.Goals as goal

pub returns-in_err-pred-in-L3 : goal.returns-in_err-pred-in-L3
returns-in_err-pred-in-L3 c =
    let ds = view c.args.a.now ∷ view c.args.b.now ∷ view c.args.c.now ∷ view c.args.d.now ∷ view c.args.e.now ∷ [] in
    let part = view c.args.a.now ∷ view c.args.b.now ∷ [] in
    fault_of_form (λ (x : PredId × ℕ). pred_data x.0 ∷ count_data x.1 ∷ []) (λ x. Fits x.0 × Fits x.1) part data_of LineFits c.args.name.now (codes "L3") ds c.in-L3.is
    (λ y f e. let h = line_form (codes "L3") ds y e in ((h.0.pred, h.0.rule), (tt, tt), (let same : part ≡ pred_data h.0.pred ∷ count_data h.0.rule ∷ [] = (let all = h.2 in cc) in same)))
    c.in_err-pred-in-L3.field-0.0 c.in_err-pred-in-L3.ensures c.from_residual.result c.from_residual.ensures.1

pub returns-in_err-names-in-L3 : goal.returns-in_err-names-in-L3
returns-in_err-names-in-L3 c =
    let ds = view c.args.a.now ∷ view c.args.b.now ∷ view c.args.c.now ∷ view c.args.d.now ∷ view c.args.e.now ∷ [] in
    let part = view c.args.c.now ∷ view c.args.d.now ∷ view c.args.e.now ∷ [] in
    fault_of_form (λ (x : (List NodeId) × (Option EdgeId) × (List EdgeId)). list_data node_data x.0 ∷ option_data edge_id_data x.1 ∷ list_data edge_id_data x.2 ∷ []) (λ x. (All (λ y. Fits y) x.0) × Fits x.1 × (All (λ y. Fits y) x.2)) part data_of LineFits c.args.name.now (codes "L3") ds c.in-L3.is
    (λ y f e. let h = line_form (codes "L3") ds y e in ((h.0.names, h.0.block, h.0.edges), ((λ k d below. tt), tt, (λ k d below. tt)), (let same : part ≡ list_data node_data h.0.names ∷ option_data edge_id_data h.0.block ∷ list_data edge_id_data h.0.edges ∷ [] = (let all = h.2 in cc) in same)))
    c.in_err-names-in-L3.field-0.0 c.in_err-names-in-L3.ensures c.from_residual-in_err-names-in-L3.result c.from_residual-in_err-names-in-L3.ensures.1

pub returns-in_err-pred-in-L7 : goal.returns-in_err-pred-in-L7
returns-in_err-pred-in-L7 c =
    let ds = view c.args.a.now ∷ view c.args.b.now ∷ view c.args.c.now ∷ view c.args.d.now ∷ view c.args.e.now ∷ [] in
    let part = view c.args.a.now ∷ view c.args.b.now ∷ [] in
    fault_of_form (λ (x : PredId × NodeId). pred_data x.0 ∷ node_data x.1 ∷ []) (λ x. Fits x.0 × Fits x.1) part data_of LineFits c.args.name.now (codes "L7") ds c.in-L7.is
    (λ y f e. let h = line_form (codes "L7") ds y e in ((h.0, h.1), (tt, tt), (let same : part ≡ pred_data h.0 ∷ node_data h.1 ∷ [] = (let all = h.6 in cc) in same)))
    c.in_err-pred-in-L7.field-0.0 c.in_err-pred-in-L7.ensures c.from_residual-in_err-pred-in-L7.result c.from_residual-in_err-pred-in-L7.ensures.1

pub returns-in_err-args-in-L7 : goal.returns-in_err-args-in-L7
returns-in_err-args-in-L7 c =
    let ds = view c.args.a.now ∷ view c.args.b.now ∷ view c.args.c.now ∷ view c.args.d.now ∷ view c.args.e.now ∷ [] in
    let part = view c.args.c.now ∷ view c.args.d.now ∷ view c.args.e.now ∷ [] in
    fault_of_form (λ (x : (List NodeId) × NodeId × (List NodeId)). list_data node_data x.0 ∷ node_data x.1 ∷ list_data node_data x.2 ∷ []) (λ x. (Fits x.0) × Fits x.1 × (Fits x.2)) part data_of LineFits c.args.name.now (codes "L7") ds c.in-L7.is
    (λ y f e. let h = line_form (codes "L7") ds y e in ((h.2, h.3, h.4), (tt, tt, tt), (let same : part ≡ list_data node_data h.2 ∷ node_data h.3 ∷ list_data node_data h.4 ∷ [] = (let all = h.6 in cc) in same)))
    c.in_err-args-in-L7.field-0.0 c.in_err-args-in-L7.ensures c.from_residual-in_err-args-in-L7.result c.from_residual-in_err-args-in-L7.ensures.1
