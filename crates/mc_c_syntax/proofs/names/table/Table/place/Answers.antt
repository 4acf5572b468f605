use Rattle.std.proofs.Common.{ap, ◌∙◌}
use Rattle.std.specs.Prelude.{position}
use Rattle.mc_c_syntax.specs.Ast.Names.{is_same}
use Rattle.mc_c_syntax.proofs.NamesLemmas.Positions.{position-map}
use Rattle.mc_c_syntax.proofs.names.table.Table.place.Goals as goal

-- src/table.rt:86:5
pub returns : goal.returns
returns g c =
    c.place.ensures
    ∙ ap (λ names. position (λ n. is_same n c.args.name.now) names) c.self.invariant
    ∙ position-map (λ n. is_same n c.args.name.now) (λ x. g.T.HasName.name x.now) c.self.inside.items.items
    ∙ ap (λ xs. position (λ x. is_same (g.T.HasName.name x.now) c.args.name.now) xs) c.self.view_is
