use Rattle.std.proofs.Common.{List, ◌∙◌, subst}
use Rattle.mc_base.specs.declared.ids.NodeId.{NodeId}
use Rattle.mc_joins.specs.Alike.Named.{AreLinks, named_nodes}
use Rattle.mc_joins.proofs.AlikeLemmas.Links.{same_by_links}
use Rattle.mc_joins.proofs.alike.same.are_same.Goals as goal

pub returns : goal.returns
returns c =
    let s = c.args.state.now in
    let t = c.args.other.now in
    let links : AreLinks (named_nodes s) (named_nodes t) c.in_ok-links.links =
    subst (λ (z : List NodeId). AreLinks z (named_nodes t) c.in_ok-links.links) (c.as_slice.ensures.value ∙ c.in_ok-from.ensures)
    (subst (λ (z : List NodeId). AreLinks c.as_slice.result.now z c.in_ok-links.links) (c.as_slice-2.ensures.value ∙ c.in_ok-to.ensures) c.in_ok-links.ensures) in
    let one = same_by_links s t c.is_bounded.ensures.bounded c.in_ok-links.links links c.requires in
    (λ same. one.1 (c.equal_under.ensures.0 same), λ some. c.equal_under.ensures.1 (one.0 some))
