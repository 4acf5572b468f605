use Rattle.std.proofs.Common.{◌≡◌, drop}
use Rattle.std.specs.List.{list_all}
use Rattle.mc_state.specs.Known.{Test, Tells}
use Rattle.mc_check_line.specs.Jump.Fitting.{has_kind_image}
use Rattle.mc_check_line.proofs.jump.images.have_kind_images.Given as goal

abbrev pub invariant-loop-node : goal.invariant-loop-node
invariant-loop-node l =
    (know : Test) → Tells know l.s
    → list_all (has_kind_image know l.s.kinds l.images l.target.kinds) l.nodes
    ≡ list_all (has_kind_image know l.s.kinds l.images l.target.kinds) (drop l.node-index l.nodes)
