use Rattle.std.proofs.Common.{◌≡◌, ◌++◌, drop}
use Rattle.mc_joins.specs.Parts.{with_partners}
use Rattle.mc_replay.proofs.covers.partner_or_terms.Given as goal

abbrev pub invariant-loop-place : goal.invariant-loop-place
invariant-loop-place l =
    with_partners l.pairs l.side l.nodes l.terms ≡ l.all.items ++ with_partners l.pairs l.side (drop l.place l.nodes) (drop l.place l.terms)
