use Rattle.std.proofs.Common.{subst}
use Rattle.mc_flow.specs.Valid.{IsValid}
use Rattle.mc_document.specs.Proof.Positions.{Position}
use Rattle.mc_document.specs.Proof.Stacks.{AreMade, HeadsAreMade}
use Rattle.mc_document.proofs.proof.proof.Proof.is_held.Goals as goal

pub returns-clause-valid : goal.returns-clause-valid
returns-clause-valid c = subst (λ (q : Position). IsValid q.flow q.defs) c.self.view_is c.self.invariant.valid

pub returns-clause-heads : goal.returns-clause-heads
returns-clause-heads c = subst (λ (q : Position). HeadsAreMade q.flow q.defs q.heads) c.self.view_is c.self.invariant.heads

pub returns-clause-branches : goal.returns-clause-branches
returns-clause-branches c = subst (λ (q : Position). AreMade q.flow q.defs q.branches) c.self.view_is c.self.invariant.branches
