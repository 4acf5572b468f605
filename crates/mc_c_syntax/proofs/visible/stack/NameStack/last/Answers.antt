use Rattle.std.proofs.Common.{ap, sym, ◌∙◌}
use Rattle.std.specs.Option.{option_copied}
use Rattle.mc_c_syntax.specs.Visible.Lasts.{last_place}
use Rattle.mc_c_syntax.specs.Visible.Stacks.{at_most, last_in}
use Rattle.mc_c_syntax.proofs.visible.stack.NameStack.last.Goals as goal

pub returns-in-None : goal.returns-in-None
returns-in-None c =
    ap at_most (c.in-None.ensures.value)
    ∙ ap (last_in c.self.inside.lasts) c.as_slice.ensures
    ∙ c.self.invariant.places c.args.name.now
    ∙ ap (λ names. last_place names c.args.name.now) c.self.view_is

pub returns-in-Some : goal.returns-in-Some
returns-in-Some c =
    ap at_most (c.in-Some.ensures.value)
    ∙ ap (last_in c.self.inside.lasts) c.as_slice.ensures
    ∙ c.self.invariant.places c.args.name.now
    ∙ ap (λ names. last_place names c.args.name.now) c.self.view_is
