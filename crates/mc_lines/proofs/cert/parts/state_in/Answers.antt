use Rattle.std.proofs.Common.{◌≡◌, List, [], ◌∷◌, Option, All}
use Rattle.serde_json.specs.View.{view}
use Rattle.mc_base.specs.declared.ids.NodeId.{NodeId}
use Rattle.mc_base.specs.declared.plain.Atom.{Atom}
use Rattle.mc_state.specs.declared.graph.edge.Edge.{Edge}
use Rattle.mc_state.specs.declared.raw_state.NodeKind.{NodeKind}
use Rattle.mc_lines.specs.Cert.Entries.{AtomFits, Fits, StateFits, atom_data, edge_data, list_data, node_data, node_kind_data, option_data, state_data, state_entries, values_data, whole_entry}
use Rattle.mc_lines.proofs.CertLemmas.Arrays.{values_once}
use Rattle.mc_lines.proofs.CertLemmas.Faults.{fault_of_part}
use Rattle.mc_lines.proofs.cert.parts.state_in.Goals as goal

pub returns-in_err-vars : goal.returns-in_err-vars
returns-in_err-vars c =
    let part = view c.args.vars.now ∷ view c.args.kinds.now ∷ [] in
    let ds = view c.args.vars.now ∷ view c.args.kinds.now ∷ view c.args.edges.now ∷ view c.args.atoms.now ∷ whole_entry c.args.whole in
    fault_of_part (λ (x : (List (Option NodeId)) × (List NodeKind)). list_data (option_data node_data) x.0 ∷ list_data node_kind_data x.1 ∷ []) (λ x. (All (λ y. Fits y) x.0) × (All (λ y. Fits y) x.1)) part state_data StateFits (values_data ds)
    (λ y f e.
    let all : ds ≡ state_entries y = values_once ds (state_entries y) e in
    let same : part ≡ list_data (option_data node_data) y.vars ∷ list_data node_kind_data y.kinds ∷ [] = cc in
    ((y.vars, y.kinds), (λ k d below. tt, λ k d below. tt), same))
    c.in_err-vars.field-0.0 c.in_err-vars.ensures c.from_residual.result c.from_residual.ensures.1

pub returns-in_err-edges : goal.returns-in_err-edges
returns-in_err-edges c =
    let part = view c.args.edges.now ∷ view c.args.atoms.now ∷ [] in
    let ds = view c.args.vars.now ∷ view c.args.kinds.now ∷ view c.args.edges.now ∷ view c.args.atoms.now ∷ whole_entry c.args.whole in
    fault_of_part (λ (x : (List Edge) × (List Atom)). list_data edge_data x.0 ∷ list_data atom_data x.1 ∷ []) (λ x. (All (λ y. Fits y) x.0) × (All AtomFits x.1)) part state_data StateFits (values_data ds)
    (λ y f e.
    let all : ds ≡ state_entries y = values_once ds (state_entries y) e in
    let same : part ≡ list_data edge_data y.edges ∷ list_data atom_data y.atoms ∷ [] = cc in
    ((y.edges, y.atoms), (λ k d below. tt, f), same))
    c.in_err-edges.field-0.0 c.in_err-edges.ensures c.from_residual-in_err-edges.result c.from_residual-in_err-edges.ensures.1
