use Rattle.std.proofs.Common.{◌++◌, ap, ◌∙◌}
use Rattle.mc_lower.proofs.builder.Builder.open.Goals as goal

pub returns-clause-opened : goal.returns-clause-opened
returns-clause-opened c = λ w agrees.
    let kept = c.in_ok-block.ensures.kept w agrees in
    c.in_ok-block.ensures.opened w agrees ∙ c.in_ok-extend_from_slice.ensures.items
    ∙ ap (λ l. l ++ c.as_slice.result.now) c.in_ok-all.ensures.items
    ∙ ap (λ l. c.args.numbers.now ++ l) (c.as_slice.ensures.value ∙ c.in_ok-outer.ensures w kept.0)
