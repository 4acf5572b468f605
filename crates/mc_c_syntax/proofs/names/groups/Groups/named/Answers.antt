use Rattle.std.proofs.Common.{ap, sym, ◌∙◌, filter}
use Rattle.std.specs.Option.{option_copied}
use Rattle.mc_c_syntax.specs.Ast.Names.{is_same}
use Rattle.mc_c_syntax.specs.Names.Grouped.{items_of, items_at}
use Rattle.mc_c_syntax.proofs.names.groups.Groups.named.Goals as goal

-- src/groups.rt:69:13
pub returns-in_default : goal.returns-in_default
returns-in_default g c =
    ap items_of (ap option_copied (sym c.in_default.is) ∙ c.get.ensures.value)
    ∙ ap (items_at c.self.inside.groups) c.as_slice.ensures
    ∙ c.self.invariant c.args.name.now
    ∙ ap (filter (λ x. is_same (g.T.HasName.name x.now) c.args.name.now)) c.self.view_is

-- src/groups.rt:65:5
pub returns : goal.returns
returns g c =
    c.as_slice-2.ensures.value
    ∙ ap items_of (ap option_copied (sym c.in-Some.is) ∙ c.get.ensures.value)
    ∙ ap (items_at c.self.inside.groups) c.as_slice.ensures
    ∙ c.self.invariant c.args.name.now
    ∙ ap (filter (λ x. is_same (g.T.HasName.name x.now) c.args.name.now)) c.self.view_is
