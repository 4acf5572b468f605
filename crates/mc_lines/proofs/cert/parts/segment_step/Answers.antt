use Rattle.std.proofs.Common.{ℕ, [], ◌∷◌}
use Rattle.std.specs.Prelude.{codes}
use Rattle.serde_json.specs.View.{view}
use Rattle.mc_base.specs.declared.ids.PredId.{PredId}
use Rattle.mc_state.specs.declared.line.JoinStep.{JoinStep}
use Rattle.mc_state.specs.declared.line.Side.{Side}
use Rattle.mc_lines.specs.Cert.Entries.{Fits, count_data, pred_data, side_data, step_data}
use Rattle.mc_lines.proofs.CertLemmas.Faults.{fault_of_form}
use Rattle.mc_lines.proofs.CertLemmas.PartForms.{step_form}
use Rattle.mc_lines.proofs.cert.parts.segment_step.Goals as goal

pub returns-in_err-pred-in-J6 : goal.returns-in_err-pred-in-J6
returns-in_err-pred-in-J6 c =
    let ds = view c.args.pred.now ∷ view c.args.side.now ∷ view c.args.pair.now ∷ [] in
    fault_of_form (λ (x : PredId × Side × ℕ). pred_data x.0 ∷ side_data x.1 ∷ count_data x.2 ∷ []) (λ x. Fits x.0 × Fits x.1 × Fits x.2) ds step_data (λ (y : JoinStep). Fits y) c.args.name.now (codes "J6") ds c.in-J6.is
    (λ y none e. let h = step_form (codes "J6") ds y e in ((h.0, h.1, h.2), (tt, tt, tt), h.4))
    c.in_err-pred-in-J6.field-0.0 c.in_err-pred-in-J6.ensures c.from_residual.result c.from_residual.ensures.1

pub returns-in_err-pred-in-J7 : goal.returns-in_err-pred-in-J7
returns-in_err-pred-in-J7 c =
    let ds = view c.args.pred.now ∷ view c.args.side.now ∷ view c.args.pair.now ∷ [] in
    fault_of_form (λ (x : PredId × Side × ℕ). pred_data x.0 ∷ side_data x.1 ∷ count_data x.2 ∷ []) (λ x. Fits x.0 × Fits x.1 × Fits x.2) ds step_data (λ (y : JoinStep). Fits y) c.args.name.now (codes "J7") ds c.in-J7.is
    (λ y none e. let h = step_form (codes "J7") ds y e in ((h.0, h.1, h.2), (tt, tt, tt), h.4))
    c.in_err-pred-in-J7.field-0.0 c.in_err-pred-in-J7.ensures c.from_residual-in_err-pred-in-J7.result c.from_residual-in_err-pred-in-J7.ensures.1
