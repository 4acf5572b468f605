use Rattle.std.proofs.Common.{◌≡◌, ◌∙◌, List, map, subst, sym}
use Rattle.mc_kernel.specs.Branches.{Path, roots as all_roots}
use Rattle.mc_check_line.specs.Judging.{head_of}
use Rattle.mc_document.specs.Proof.Stacks.{AreMade}
use Rattle.mc_document.proofs.ProofLemmas.Roots.{roots_made}
use Rattle.mc_document.proofs.proof.beginning.roots.Goals as goal

pub returns-clause-made : goal.returns-clause-made
returns-clause-made c = λ defs made.
    let heads = map head_of c.args.heads.now in
    let are : c.of.result ≡ all_roots c.args.flow.now heads = c.of.ensures ∙ c.in_ok-list.ensures in
    subst (λ (p : List Path). AreMade c.args.flow.now defs p) (sym are) (roots_made c.numbers_stay_bounded.ensures.unknown c.args.flow.now defs heads made)
