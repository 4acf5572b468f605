use Rattle.std.proofs.Common.{◌≡◌, true, false, map, refl, sym, ap, ◌∙◌}
use Rattle.std.specs.Prelude.{option_map}
use Rattle.mc_base.specs.Nodes.{moved}
use Rattle.mc_pure_ops.specs.Renaming.Images.{image}
use Rattle.mc_joins.specs.Alike.Alike.{moved_edges}
use Rattle.mc_joins.proofs.AlikeLemmas.Same.{Parts, same_from_parts, parts_from_same}
use Rattle.mc_joins.proofs.alike.equal_under.Goals as goal

pub returns-then-not-is_bijection : goal.returns-then-not-is_bijection
returns-then-not-is_bijection c = (
  λ t. let w : false ≡ true = t in absurd (cc w),
  λ same.
      let p = parts_from_same (image c.args.renaming.now) c.args.state.now c.args.other.now c.is_bounded.ensures.bounded c.is_bounded-2.ensures.bounded same in
      let w : false ≡ true = c.if-not-is_bijection.ensures.1 p.nodes in
      absurd (cc w),
)

pub returns-then-not-all_known_there : goal.returns-then-not-all_known_there
returns-then-not-all_known_there c = (
  λ t. let w : false ≡ true = t in absurd (cc w),
  λ same.
      let p = parts_from_same (image c.args.renaming.now) c.args.state.now c.args.other.now c.is_bounded.ensures.bounded c.is_bounded-2.ensures.bounded same in
      let w : false ≡ true = c.if-not-all_known_there.ensures.1 p.there in
      absurd (cc w),
)

pub returns : goal.returns
returns c =
    let f = image c.args.renaming.now in
    let whole : c.args.state.now.whole ≡ c.args.other.now.whole = sym c.is_whole.ensures ∙ (c.if-not-same_flag.ensures.0 refl ∙ c.is_whole-2.ensures) in (
      λ t. same_from_parts c.derived_is_renamed.ensures.follows c.derived_is_renamed.ensures.is_false f c.args.state.now c.args.other.now c.is_bounded.ensures.bounded c.is_bounded-2.ensures.bounded
          (record {
            nodes = c.if-not-is_bijection.ensures.0 refl;
            whole = whole;
            env = ap (map (option_map (moved f))) (sym c.env.ensures) ∙ (c.if-not-are_option_images.ensures.0 refl ∙ c.env-2.ensures);
            edges = ap (moved_edges f) (sym c.edges.ensures) ∙ (c.if-not-are_edge_images.ensures.0 refl ∙ c.edges-2.ensures);
            there = c.if-not-all_known_there.ensures.0 refl;
            again = c.all_known_back.ensures.0 t;
          }),
      λ same. let p = parts_from_same f c.args.state.now c.args.other.now c.is_bounded.ensures.bounded c.is_bounded-2.ensures.bounded same in c.all_known_back.ensures.1 p.again,
    )
