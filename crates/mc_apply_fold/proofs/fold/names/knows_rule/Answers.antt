use Rattle.std.proofs.Common.{ap, ◌∙◌}
use Rattle.std.specs.List.{list_all}
use Rattle.mc_flow.specs.Defs.Instances.{atom_of}
use Rattle.mc_apply_fold.proofs.fold.names.knows_rule.Goals as goal

pub returns : goal.returns
returns c = λ know t. c.know_atoms.ensures know t ∙ ap (list_all (λ a. know (atom_of c.args.names.now a))) c.as_slice.ensures
