use Rattle.std.proofs.Common.{sym, ◌∙◌}
use Rattle.mc_lower.proofs.Testing.{compared}
use Rattle.mc_lower.proofs.Waiting.{popped, waits_on}
use Rattle.mc_lower.proofs.builder.Builder.compare.Goals as goal

pub returns-clause-leads : goal.returns-clause-leads
returns-clause-leads c = λ w agrees.
    let first_goal = popped _ _ _ _ _ c.in_ok-yes.ensures.known c.in_ok-put_last.ensures.rest in
    let second_goal = popped _ _ _ _ _ (first_goal.1 ∙ c.in_ok-no.ensures.known) c.in_ok-clear.ensures.rest in
    let second = c.in_ok-clear-2.ensures.leads w agrees in
    let first = c.in_ok-clear.ensures.leads w second.0 in
    let put = c.in_ok-put_last.ensures.leads w first.0 in
    let second_label = c.in_ok-yes.ensures.kept w put.0 in
    let first_label = c.in_ok-no.ensures.kept w second_label.0 in (
      first_label.0,
      compared w c.args.place c.args.comparison c.args.left c.args.right c.args.temporaries.now _ c.in_ok-yes.yes c.in_ok-no.no _ _ _ _ c.put_last.new.self
          c.clear.new.self c.clear-2.new.self (first_label.1 ∙ second_label.1) put.1 c.decides-code.ensures first_goal.0 second_goal.0 first.1 second.1,
    )

pub returns-clause-rest : goal.returns-clause-rest
returns-clause-rest c =
    let first = popped _ _ _ _ _ c.in_ok-yes.ensures.known c.in_ok-put_last.ensures.rest in
    let second = popped _ _ _ _ _ (first.1 ∙ c.in_ok-no.ensures.known) c.in_ok-clear.ensures.rest in
    sym second.1 ∙ c.in_ok-clear-2.ensures.rest

pub put_last-requires : goal.put_last-requires
put_last-requires c = (c.in_ok-yes.yes, _, c.in_ok-yes.ensures.known)

pub clear-requires : goal.clear-requires
clear-requires c =
    let first = popped _ _ _ _ _ c.in_ok-yes.ensures.known c.in_ok-put_last.ensures.rest in
    (c.in_ok-no.no, _, first.1 ∙ c.in_ok-no.ensures.known)

pub clear-requires-2 : goal.clear-requires-2
clear-requires-2 c =
    let first = popped _ _ _ _ _ c.in_ok-yes.ensures.known c.in_ok-put_last.ensures.rest in
    let second = popped _ _ _ _ _ (first.1 ∙ c.in_ok-no.ensures.known) c.in_ok-clear.ensures.rest in
    waits_on _ _ second.1 c.requires
