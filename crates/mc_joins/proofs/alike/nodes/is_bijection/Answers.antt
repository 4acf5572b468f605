use Rattle.std.proofs.Common.{refl, ap, sym, ◌∙◌}
use Rattle.mc_base.specs.declared.ids.NodeId.{NodeId}
use Rattle.mc_joins.proofs.alike.nodes.is_bijection.Goals as goal

pub returns : goal.returns
returns c = (
  λ t. record {
    null_stays = ap (λ (z : NodeId). z.0) (sym c.image.ensures) ∙ c.if-image-ne0.false;
    there = c.if-not-all_go.ensures.0 refl;
    again = c.all_come.ensures.0 t;
  },
  λ b. c.all_come.ensures.1 b.again,
)
