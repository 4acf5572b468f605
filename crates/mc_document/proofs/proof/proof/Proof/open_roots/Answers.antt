use Rattle.std.proofs.Common.{List, map, subst, sym}
use Rattle.mc_check_line.specs.declared.branch.Head.{Head}
use Rattle.mc_check_line.specs.Judging.{head_of}
use Rattle.mc_document.specs.Proof.Stacks.{HeadsAreMade}
use Rattle.mc_document.proofs.proof.proof.Proof.open_roots.Goals as goal

pub invariant_of-self : goal.invariant_of-self
invariant_of-self c =
    let flow = c.self.inside.flow.now in
    let defs = c.self.inside.defs.now in
    record {
      valid = c.self.invariant.valid;
      heads = c.self.invariant.heads;
      branches = c.in_ok-self-inside.ensures.made defs
          (subst (λ (heads : List Head). HeadsAreMade flow defs (map head_of heads)) (sym c.as_slice.ensures.value) c.self.invariant.heads);
    }
