use Rattle.std.proofs.Common.{◌≡◌, ◌++◌, drop, map}
use Rattle.mc_kernel.specs.Branches.{Head, begins, roots}
use Rattle.mc_check_line.specs.Judging.{head_of, path}
use Rattle.mc_document.proofs.proof.beginning.listed.Given as goal

abbrev pub invariant-loop-head : goal.invariant-loop-head
invariant-loop-head l =
    map path l.list.items ++ map (λ (h : Head). begins h.0 h.1) (map head_of (drop l.head-index l.heads)) ≡ roots l.flow (map head_of l.heads)
