use Rattle.std.proofs.Common.{◌≡◌, ◌<◌, length, true, false, refl, sym, ap, arith}
use Rattle.std.specs.Prelude.{option_map}
use Rattle.mc_base.specs.Nodes.{null, moved}
use Rattle.mc_pure_ops.specs.Renaming.Images.{image}
use Rattle.mc_joins.proofs.AlikeLemmas.Images.{same_long, at_place, one_before, at_end}
use Rattle.mc_joins.proofs.alike.lists.are_option_images.Goals as goal

pub returns-then-from-to : goal.returns-then-from-to
returns-then-from-to c = (
  λ t. let w : false ≡ true = t in absurd (cc w),
  λ e. let s = same_long (option_map (moved (image c.args.renaming.now))) c.args.from.now c.args.to.now e in absurd (omega arith),
)

pub returns-then-not-is_option_image : goal.returns-then-not-is_option_image
returns-then-not-is_option_image c =
    let v = c.loop-i.invariant in
    let l = v.lengths in
    let m : c.loop-i.i < length c.args.from.now = omega arith in (
      λ t. let w : false ≡ true = t in absurd (cc w),
      λ e. let w = c.if-not-is_option_image.ensures.1 (at_place (option_map (moved (image c.args.renaming.now))) c.args.from.now c.args.to.now c.loop-i.i _ _ m e) in absurd (cc w),
    )

pub loop-i-preserved : goal.loop-i-preserved
loop-i-preserved c =
    let v = c.loop-i.invariant in
    let l = v.lengths in
    let m : c.loop-i.i < length c.args.from.now = omega arith in
    let n : c.loop-i.i < length c.args.to.now = omega arith in
    record {
      lengths = v.lengths;
      forth = λ e. v.forth (one_before (option_map (moved (image c.args.renaming.now))) c.args.from.now c.args.to.now c.loop-i.i _ _ m n (c.if-not-is_option_image.ensures.0 refl) e);
    }

pub returns : goal.returns
returns c = (λ t. c.loop-i.invariant.forth (at_end (option_map (moved (image c.args.renaming.now))) c.args.from.now c.args.to.now c.loop-i.i c.loop-i.invariant.lengths (omega arith)), λ e. refl)
