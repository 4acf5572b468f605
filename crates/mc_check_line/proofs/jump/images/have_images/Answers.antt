use Rattle.std.proofs.Common.{◌∙◌, ap, subst, refl}
use Rattle.std.specs.List.{list_all}
use Rattle.std.specs.Prelude.{drop}
use Rattle.mc_pure.specs.Nodes.{RiseFrom}
use Rattle.mc_pure.specs.Pure.{kind_of}
use Rattle.mc_kernel.specs.Judges.{has_image}
use Rattle.mc_check_line.specs.Jump.Fitting.{has_kind_image}
use Rattle.mc_check_line.proofs.JumpLemmas.Found.{each_found}
use Rattle.mc_check_line.proofs.jump.images.have_images.Goals as goal

pub returns : goal.returns
returns c = λ know t.
    let kinds = c.args.target.now.kinds in
    let s = c.args.s.now in
    let images = c.args.images.now in
    let rise = subst (RiseFrom 1) c.known.ensures.kinds c.is_kept.ensures.rise in
    c.have_kind_images.ensures know t
    ∙ ap (list_all (has_kind_image know s.kinds images kinds)) (c.behind_first.ensures ∙ ap (drop 1) c.nodes.ensures)
    ∙ each_found (has_image know s.kinds images) (kind_of kinds) 1 kinds rise (λ n above. refl)
