use Rattle.std.proofs.Common.{sym, ◌∙◌}
use Rattle.mc_lower.proofs.Testing.{comparison_tested}
use Rattle.mc_lower.proofs.Waiting.{waits_on}
use Rattle.mc_lower.proofs.builder.Builder.test_comparison.Goals as goal

pub returns-clause-leads : goal.returns-clause-leads
returns-clause-leads c = λ w agrees.
    let compared = c.in_ok-compare.ensures.leads w agrees in
    let second = c.in_ok-right.ensures.leads w compared.0 in
    let first = c.in_ok-left.ensures.leads w second.0 in
    (first.0, comparison_tested w.graph _ _ _ _ _ _ _ _ _ _ _ _ _ _ _ _ _ _ c.new-temporaries.ensures.items c.as_slice.ensures.value first.1 second.1 compared.1)

pub returns-clause-rest : goal.returns-clause-rest
returns-clause-rest c = sym (c.in_ok-right.ensures.same ∙ c.in_ok-left.ensures.same) ∙ c.in_ok-compare.ensures.rest

pub compare-requires : goal.compare-requires
compare-requires c = waits_on _ _ (c.in_ok-right.ensures.same ∙ c.in_ok-left.ensures.same) c.requires.waits
