use Rattle.std.proofs.Common.{List, [], subst, sym}
use Rattle.mc_kernel.specs.Branches.{Path}
use Rattle.mc_kernel.specs.Reading.Documents.{IsMade}
use Rattle.mc_document.specs.Proof.Stacks.{AreMade}
use Rattle.mc_document.proofs.ProofLemmas.Roots.{roots_made}
use Rattle.mc_find_paths.proofs.paths.paths.Paths.enter.Goals as goal

pub invariant_of-self-2 : goal.invariant_of-self-2
invariant_of-self-2 c =
    let flow = c.self.inside.flow.now in
    let defs = c.self.inside.defs.now in
    record {
      valid = c.self.invariant.valid;
      branches = subst (λ (bs : List Path). AreMade flow defs bs) (sym c.in_ok-push.ensures.ok)
          (subst (λ (b : Path). IsMade flow defs b) (sym c.in_ok-branch.ensures) (roots_made c.numbers_stay_bounded.ensures.unknown flow defs [] tt).0, c.self.invariant.branches);
    }
