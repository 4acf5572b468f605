use Rattle.std.proofs.Common.{◌≡◌, ℤ, ◌*ℤ◌, to_z, of_z, w64, ◌∙◌}
use Rattle.std.specs.Int.{int_max, int_min}
use Rattle.mc_base.specs.declared.ranges.Range.{Range}
use Rattle.mc_base.proofs.RangesLemmas.Plain.{as_read, end_passed, on_both}
use Rattle.mc_base.proofs.RangesLemmas.Products.{low_end, high_end, low_not_above}
use Rattle.mc_base.proofs.RangesLemmas.Least.{least-products}
use Rattle.mc_base.proofs.ranges.Range.mul.Goals as goal

-- the products as they are read
record Products (left right : Range) (ll lh hl hh : ℤ) : Type 0 where
  low_low : to_z w64 (of_z w64 ll) ≡ left.lo *ℤ right.lo
  low_high : to_z w64 (of_z w64 lh) ≡ left.lo *ℤ right.hi
  high_low : to_z w64 (of_z w64 hl) ≡ left.hi *ℤ right.lo
  high_high : to_z w64 (of_z w64 hh) ≡ left.hi *ℤ right.hi

products : (c : goal.After-max-hi) → Products c.args.self c.args.other c.product-low_low.result c.product-low_high.result c.product-high_low.result c.product-high_high.result
products c =
    let a = end_passed c.args.self.lo c.args.self.low_end in
    let b = end_passed c.args.self.hi c.args.self.high_end in
    let d = end_passed c.args.other.lo c.args.other.low_end in
    let e = end_passed c.args.other.hi c.args.other.high_end in
    record {
      low_low = as_read c.product-low_low.result (record { sfits = c.product-low_low.type_inv }) (c.product-low_low.ensures ∙ on_both (λ x y. x *ℤ y) a d);
      low_high = as_read c.product-low_high.result (record { sfits = c.product-low_high.type_inv }) (c.product-low_high.ensures ∙ on_both (λ x y. x *ℤ y) a e);
      high_low = as_read c.product-high_low.result (record { sfits = c.product-high_low.type_inv }) (c.product-high_low.ensures ∙ on_both (λ x y. x *ℤ y) b d);
      high_high = as_read c.product-high_high.result (record { sfits = c.product-high_high.type_inv }) (c.product-high_high.ensures ∙ on_both (λ x y. x *ℤ y) b e);
    }

low : (c : goal.After-max-hi) → to_z w64 (of_z w64 c.min-lo.result) ≡ low_end c.args.self c.args.other
low c =
    let p = products c in
    as_read c.min-lo.result (record { sfits = c.min-lo.type_inv })
    (c.min-lo.ensures.value ∙ on_both int_min
    (as_read c.min.result (record { sfits = c.min.type_inv }) (c.min.ensures.value ∙ on_both int_min p.low_low p.low_high))
    (as_read c.min-2.result (record { sfits = c.min-2.type_inv }) (c.min-2.ensures.value ∙ on_both int_min p.high_low p.high_high)))

high : (c : goal.After-max-hi) → to_z w64 (of_z w64 c.max-hi.result) ≡ high_end c.args.self c.args.other
high c =
    let p = products c in
    as_read c.max-hi.result (record { sfits = c.max-hi.type_inv })
    (c.max-hi.ensures.value ∙ on_both int_max
    (as_read c.max.result (record { sfits = c.max.type_inv }) (c.max.ensures.value ∙ on_both int_max p.low_low p.low_high))
    (as_read c.max-2.result (record { sfits = c.max-2.type_inv }) (c.max-2.ensures.value ∙ on_both int_max p.high_low p.high_high)))

pub within_int-requires : goal.within_int-requires
within_int-requires c = rw (low c, high c) (low_not_above c.args.self c.args.other c.requires.left.0 c.requires.right.0)

pub returns : goal.returns
returns c = least-products c.args.self c.args.other c.within_int.result c.requires.left c.requires.right (rw (low c.before, high c.before) at c.within_int.ensures)
