use Rattle.std.proofs.Common.{List, Bool, subst, sym}
use Rattle.std.specs.Prelude.{Ok}
use Rattle.mc_kernel.specs.Branches.{Path}
use Rattle.mc_kernel.specs.Reading.Documents.{IsMade}
use Rattle.mc_document.specs.Proof.Stacks.{AreMade}
use Rattle.mc_document.proofs.ProofLemmas.Written.{written_made}
use Rattle.mc_find_paths.proofs.paths.paths.Paths.enter_at.Goals as goal

pub invariant_of-self-2 : goal.invariant_of-self-2
invariant_of-self-2 c =
    let inside = c.self.inside in
    let flow = inside.flow.now in
    let defs = inside.defs.now in
    let made = written_made c.as_slice.result.now defs c.as_slice-2.result.now flow.vars c.as_slice-3.result.now flow.structs.list
    c.args.raw.now c.as_slice.ensures.same c.as_slice-2.ensures c.as_slice-3.ensures {E = Bool} (Ok c.in_ok-found.found) c.in_ok-found.ensures c.in-Some.state c.in-Some.is in
    record {
      valid = c.self.invariant.valid;
      branches = subst (λ (bs : List Path). AreMade flow defs bs) (sym c.in_ok-push.ensures.ok)
          (subst (λ (b : Path). IsMade flow defs b) (sym c.begins.ensures) made, c.self.invariant.branches);
    }
