use Rattle.std.proofs.Common.{ap, sym, ◌∙◌}
use Rattle.mc_c_syntax.specs.Ast.Views.{unit_of}
use Rattle.mc_c_types.specs.First.{told_of}
use Rattle.mc_c_types.specs.Shapes.{bind_faults}
use Rattle.std.specs.Prelude.{None}
use Rattle.mc_c_check.proofs.Commands.{none_told}
use Rattle.mc_c_check.proofs.binding.bind.Goals as goal

pub of-requires : goal.of-requires
of-requires c =
    record {
      bound =
          none_told (bind_faults (unit_of c.args.typed.unit) c.args.defs)
          (sym c.in-None.is ∙ c.in_ok-fault.ensures
          ∙ ap (λ u. told_of None (bind_faults (unit_of u) c.as_slice.result.now)) c.unit.ensures
          ∙ ap (λ ds. told_of None (bind_faults (unit_of c.args.typed.unit) ds)) c.as_slice.ensures.same);
      fit = c.requires;
    }
