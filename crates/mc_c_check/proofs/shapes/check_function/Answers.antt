use Rattle.std.proofs.Common.{ap, flat_map, sym, ◌∙◌}
use Rattle.mc_c_syntax.specs.Ast.Views.{function_of}
use Rattle.mc_c_types.specs.First.{told_of}
use Rattle.mc_c_types.specs.Held.{tables_held}
use Rattle.mc_c_types.specs.Shapes.{use_faults}
use Rattle.mc_c_walk.specs.Gives.{visit_uses}
use Rattle.mc_c_walk.specs.Visits.{body_visits}
use Rattle.mc_c_check.proofs.Commands.{flat_twice}
use Rattle.mc_c_check.proofs.shapes.check_function.Goals as goal

pub returns : goal.returns
returns c =
    c.in_ok-check_parts.ensures
    ∙ sym
    (ap (λ us. told_of c.args.told.now.fault (flat_map (use_faults c.args.defs.now) us)) (c.visits_give_uses.ensures (tables_held c.args.tables.now) (function_of c.args.function.now))
    ∙ ap (told_of c.args.told.now.fault) (flat_twice (use_faults c.args.defs.now) visit_uses (body_visits (tables_held c.args.tables.now) (function_of c.args.function.now) (function_of c.args.function.now).body)))
