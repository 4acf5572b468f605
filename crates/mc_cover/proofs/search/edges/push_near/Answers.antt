use Rattle.std.proofs.Common.{◌≡◌, ◌++◌, ap, sym, ◌∙◌, append-nil, true, false}
use Rattle.mc_cover.proofs.SearchLemmas.Left.{looked}
use Rattle.mc_cover.proofs.search.edges.push_near.Goals as goal

pub returns-in_ok-push : goal.returns-in_ok-push
returns-in_ok-push c = λ know t.
    c.in_ok-push.ensures.items ∙ ap (λ l. c.args.ids.now.items ++ l) (sym (looked know c.args.at.now c.args.used.now c.args.e.now true (c.if-is_near.ensures know t)))

pub returns-else-is_near : goal.returns-else-is_near
returns-else-is_near c = λ know t.
    sym (append-nil c.args.ids.now.items) ∙ ap (λ l. c.args.ids.now.items ++ l) (sym (looked know c.args.at.now c.args.used.now c.args.e.now false (c.if-is_near.ensures know t)))
