use Rattle.std.proofs.Common.{◌≡◌, subst}
use Rattle.std.specs.Prelude.{IfOk, Some}
use Rattle.mc_state.specs.Fits.{IsWellMade}
use Rattle.mc_state.specs.State.{State}
use Rattle.mc_document.specs.Proof.Positions.{Position}
use Rattle.mc_document.proofs.ProofLemmas.Written.{written_made}
use Rattle.mc_document.proofs.proof.proof.Proof.written.Goals as goal

pub returns-clause-made : goal.returns-clause-made
returns-clause-made c =
    let inside = c.self.inside in
    subst (λ (q : Position). IfOk c.state_of.result (λ found. (s : State) → found ≡ Some s → IsWellMade q.defs q.flow.vars q.flow.structs.list s)) c.self.view_is
    (written_made c.as_slice.result.now inside.defs.now c.as_slice-2.result.now inside.flow.now.vars c.as_slice-3.result.now inside.flow.now.structs.list
    c.args.raw.now c.as_slice.ensures.same c.as_slice-2.ensures c.as_slice-3.ensures c.state_of.result c.state_of.ensures)
