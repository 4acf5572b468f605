use Rattle.std.proofs.Common.{ap, refl, subst, sym, ◌∙◌}
use Rattle.std.specs.Prelude.{IsSome}
use Rattle.std.specs.Option.{option_copied_mut}
use Rattle.mc_c_syntax.proofs.VisibleLemmas.Entries.{Places-put}
use Rattle.mc_c_syntax.proofs.visible.stack.uncover.Goals as goal

pub returns-in-Some : goal.returns-in-Some
returns-in-Some c =
    let found = ap option_copied_mut (sym c.in-Some.is) ∙ c.get_mut.ensures.value in
    Places-put c.args.lasts.now (c.get_mut.follows.lender c.args.entry.hidden) c.args.entry.name.now c.args.entry.hidden c.as_slice.result c.as_slice.ensures
    ((c.get_mut.follows.holds c.args.entry.hidden).3 (subst IsSome found refl))
