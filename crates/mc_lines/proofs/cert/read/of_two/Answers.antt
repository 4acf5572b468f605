use Rattle.std.proofs.Common.{ℕ, List, [], ◌∷◌, All, subst}
use Rattle.std.specs.Prelude.{codes}
use Rattle.serde_json.specs.View.{view}
use Rattle.mc_base.specs.declared.ids.NodeId.{NodeId}
use Rattle.mc_base.specs.declared.ids.EdgeId.{EdgeId}
use Rattle.mc_base.specs.declared.ids.PointId.{PointId}
use Rattle.mc_state.specs.declared.line.JoinStep.{JoinStep}
use Rattle.mc_state.specs.declared.raw_state.RawState.{RawState}
use Rattle.mc_lines.specs.Cert.Document.{LineFits, data_of}
use Rattle.mc_lines.specs.Cert.Entries.{Fits, StateFits, count_data, edge_id_data, list_data, node_data, point_data, state_data, step_data}
use Rattle.mc_lines.proofs.CertLemmas.Faults.{fault_of_form}
use Rattle.mc_lines.proofs.CertLemmas.Forms.{line_form}
use Rattle.mc_lines.proofs.cert.read.of_two.Goals as goal

pub returns-in_err-point-in-head : goal.returns-in_err-point-in-head
returns-in_err-point-in-head c =
    let ds = view c.args.a.now ∷ view c.args.b.now ∷ [] in
    let part = view c.args.a.now ∷ view c.args.b.now ∷ [] in
    fault_of_form (λ (x : PointId × RawState). point_data x.0 ∷ state_data x.1 ∷ []) (λ x. Fits x.0 × StateFits x.1) part data_of LineFits c.args.name.now (codes "head") ds c.in-head.is
    (λ y f e. let h = line_form (codes "head") ds y e in ((h.0, h.1), (tt, subst LineFits h.2 f), h.3))
    c.in_err-point-in-head.field-0.0 c.in_err-point-in-head.ensures c.from_residual.result c.from_residual.ensures.1

pub returns-in_err-first-in-L5 : goal.returns-in_err-first-in-L5
returns-in_err-first-in-L5 c =
    let ds = view c.args.a.now ∷ view c.args.b.now ∷ [] in
    let part = view c.args.a.now ∷ view c.args.b.now ∷ [] in
    fault_of_form (λ (x : EdgeId × EdgeId). edge_id_data x.0 ∷ edge_id_data x.1 ∷ []) (λ x. Fits x.0 × Fits x.1) part data_of LineFits c.args.name.now (codes "L5") ds c.in-L5.is
    (λ y f e. let h = line_form (codes "L5") ds y e in ((h.0, h.1), (tt, tt), h.3))
    c.in_err-first-in-L5.field-0.0 c.in_err-first-in-L5.ensures c.from_residual-in_err-first-in-L5.result c.from_residual-in_err-first-in-L5.ensures.1

pub returns-in_err-first-in-L6 : goal.returns-in_err-first-in-L6
returns-in_err-first-in-L6 c =
    let ds = view c.args.a.now ∷ view c.args.b.now ∷ [] in
    let part = view c.args.a.now ∷ view c.args.b.now ∷ [] in
    fault_of_form (λ (x : EdgeId × EdgeId). edge_id_data x.0 ∷ edge_id_data x.1 ∷ []) (λ x. Fits x.0 × Fits x.1) part data_of LineFits c.args.name.now (codes "L6") ds c.in-L6.is
    (λ y f e. let h = line_form (codes "L6") ds y e in ((h.0, h.1), (tt, tt), h.3))
    c.in_err-first-in-L6.field-0.0 c.in_err-first-in-L6.ensures c.from_residual-in_err-first-in-L6.result c.from_residual-in_err-first-in-L6.ensures.1

pub returns-in_err-keep-in-L9 : goal.returns-in_err-keep-in-L9
returns-in_err-keep-in-L9 c =
    let ds = view c.args.a.now ∷ view c.args.b.now ∷ [] in
    let part = view c.args.a.now ∷ view c.args.b.now ∷ [] in
    fault_of_form (λ (x : NodeId × NodeId). node_data x.0 ∷ node_data x.1 ∷ []) (λ x. Fits x.0 × Fits x.1) part data_of LineFits c.args.name.now (codes "L9") ds c.in-L9.is
    (λ y f e. let h = line_form (codes "L9") ds y e in ((h.0, h.1), (tt, tt), h.3))
    c.in_err-keep-in-L9.field-0.0 c.in_err-keep-in-L9.ensures c.from_residual-in_err-keep-in-L9.result c.from_residual-in_err-keep-in-L9.ensures.1

pub returns-in_err-disjunct-in-C3 : goal.returns-in_err-disjunct-in-C3
returns-in_err-disjunct-in-C3 c =
    let ds = view c.args.a.now ∷ view c.args.b.now ∷ [] in
    let part = view c.args.a.now ∷ view c.args.b.now ∷ [] in
    fault_of_form (λ (x : ℕ × (List JoinStep)). count_data x.0 ∷ list_data step_data x.1 ∷ []) (λ x. Fits x.0 × (All (λ y. Fits y) x.1)) part data_of LineFits c.args.name.now (codes "C3") ds c.in-C3.is
    (λ y f e. let h = line_form (codes "C3") ds y e in ((h.0, h.1), (tt, (λ k d below. tt)), h.3))
    c.in_err-disjunct-in-C3.field-0.0 c.in_err-disjunct-in-C3.ensures c.from_residual-in_err-disjunct-in-C3.result c.from_residual-in_err-disjunct-in-C3.ensures.1
