use Rattle.std.proofs.Common.{ℤ, [], ◌∷◌, subst}
use Rattle.std.specs.Prelude.{codes}
use Rattle.serde_json.specs.View.{view}
use Rattle.mc_base.specs.declared.ids.NodeId.{NodeId}
use Rattle.mc_lines.specs.Cert.Entries.{AtomFits, Fits, IsSigned, atom_data, node_data, signed_data}
use Rattle.mc_lines.proofs.CertLemmas.Faults.{fault_of_form}
use Rattle.mc_lines.proofs.CertLemmas.PartForms.{atom_form}
use Rattle.mc_lines.proofs.cert.parts.atom_in.Goals as goal

pub returns-in_err-a-in-text : goal.returns-in_err-a-in-text
returns-in_err-a-in-text c =
    let ds = view c.args.a.now ∷ view c.args.b.now ∷ view c.args.c.now ∷ [] in
    let part = view c.args.a.now ∷ view c.args.b.now ∷ view c.args.c.now ∷ [] in
    fault_of_form (λ (x : NodeId × NodeId × ℤ). node_data x.0 ∷ node_data x.1 ∷ signed_data x.2 ∷ []) (λ x. Fits x.0 × Fits x.1 × IsSigned x.2) part atom_data AtomFits c.args.name.now (codes "=") ds c.in-text.is
    (λ y f e. let h = atom_form (codes "=") ds y e in ((h.0, h.1, h.2), (tt, tt, subst AtomFits h.3 f), h.4))
    c.in_err-a-in-text.field-0.0 c.in_err-a-in-text.ensures c.from_residual.result c.from_residual.ensures.1

pub returns-in_err-a-in-text-2 : goal.returns-in_err-a-in-text-2
returns-in_err-a-in-text-2 c =
    let ds = view c.args.a.now ∷ view c.args.b.now ∷ view c.args.c.now ∷ [] in
    let part = view c.args.a.now ∷ view c.args.b.now ∷ view c.args.c.now ∷ [] in
    fault_of_form (λ (x : NodeId × NodeId × ℤ). node_data x.0 ∷ node_data x.1 ∷ signed_data x.2 ∷ []) (λ x. Fits x.0 × Fits x.1 × IsSigned x.2) part atom_data AtomFits c.args.name.now (codes "!") ds c.in-text-2.is
    (λ y f e. let h = atom_form (codes "!") ds y e in ((h.0, h.1, h.2), (tt, tt, subst AtomFits h.3 f), h.4))
    c.in_err-a-in-text-2.field-0.0 c.in_err-a-in-text-2.ensures c.from_residual-in_err-a-in-text-2.result c.from_residual-in_err-a-in-text-2.ensures.1

pub returns-in_err-a-in-r : goal.returns-in_err-a-in-r
returns-in_err-a-in-r c =
    let ds = view c.args.a.now ∷ view c.args.b.now ∷ view c.args.c.now ∷ [] in
    let part = view c.args.a.now ∷ view c.args.b.now ∷ view c.args.c.now ∷ [] in
    fault_of_form (λ (x : NodeId × ℤ × ℤ). node_data x.0 ∷ signed_data x.1 ∷ signed_data x.2 ∷ []) (λ x. Fits x.0 × IsSigned x.1 × IsSigned x.2) part atom_data AtomFits c.args.name.now (codes "r") ds c.in-r.is
    (λ y f e. let h = atom_form (codes "r") ds y e in ((h.0, h.1, h.2), (tt, (subst AtomFits h.3 f).0, (subst AtomFits h.3 f).1), h.4))
    c.in_err-a-in-r.field-0.0 c.in_err-a-in-r.ensures c.from_residual-in_err-a-in-r.result c.from_residual-in_err-a-in-r.ensures.1
