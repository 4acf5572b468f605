-- Least ranges at the states of the small flow graph, and of what sums, differences and products give.
use Rattle.std.proofs.Common.{◌≡◌, [], ◌∷◌, Some, None, refl, sym, ap, ◌∙◌, subst, arith, get_or, inl, ℤ, pos, ◌+ℤ◌, ◌-ℤ◌, ◌*ℤ◌, ◌≤ℤ◌}
use Rattle.std.proofs.lemmas.Int.{ints}
use Rattle.mc_base.specs.declared.ids.NodeId.{NodeId}
use Rattle.mc_base.specs.declared.plain.Atom.TheVariants.{In}
use Rattle.mc_base.specs.Nodes.{Valuation}
use Rattle.mc_flow.specs.Heap.Heap.{region_of}
use Rattle.mc_flow.specs.Defs.Examples.{defs}
use Rattle.mc_pure.specs.Derived.{Follows, HasRange, base}
use Rattle.mc_pure.specs.Examples.{node}
use Rattle.mc_pure.specs.Pure.{written}
use Rattle.mc_base.specs.declared.ranges.Range.{Range}
use Rattle.mc_base.specs.Ranges.Range.{Holds, IsOutcome, IsIntRange, IsLeastIntRange}
use Rattle.mc_state.specs.State.{State, pure_of}
use Rattle.mc_state.specs.Laws.{DerivedIsTrue}
use Rattle.mc_state.specs.Stands.{StandsBy}
use Rattle.mc_rules_steps.specs.Examples as ex
use Rattle.mc_rules_steps.proofs.ExampleStates.{heap_addresses, one_cell_stands, with_one_stands}

abbrev pub five_to_seven : Range
five_to_seven = record { lo = pos 5; hi = pos 7; low_end = (omega (arith, ints), omega (arith, ints)); high_end = (omega (arith, ints), omega (arith, ints)) }

abbrev pub only_one : Range
only_one = record { lo = pos 1; hi = pos 1; low_end = (omega (arith, ints), omega (arith, ints)); high_end = (omega (arith, ints), omega (arith, ints)) }

abbrev pub only_greatest : Range
only_greatest = record { lo = pos 2147483647; hi = pos 2147483647; low_end = (omega (arith, ints), omega (arith, ints)); high_end = (omega (arith, ints), omega (arith, ints)) }

abbrev pub six_to_eight : Range
six_to_eight = record { lo = pos 6; hi = pos 8; low_end = (omega (arith, ints), omega (arith, ints)); high_end = (omega (arith, ints), omega (arith, ints)) }

abbrev pub four_to_six : Range
four_to_six = record { lo = pos 4; hi = pos 6; low_end = (omega (arith, ints), omega (arith, ints)); high_end = (omega (arith, ints), omega (arith, ints)) }

-- node 3 is the greatest `int`
greatest : Valuation
greatest n = get_or (pos 0 ∷ pos 7 ∷ pos 5 ∷ pos 2147483647 ∷ pos 1 ∷ []) n (pos 0)

greatest_stands : StandsBy defs greatest (ex.values (pos 5)) (region_of ex.heap) ex.with_greatest
unfolding greatest
greatest_stands =
    let st = one_cell_stands (pos 5) (omega (arith, ints)) (omega (arith, ints)) in
    record {
      null = refl;
      kinds = (
        (omega (arith, ints), omega (arith, ints)),
        ((omega (arith, ints), omega (arith, ints)), ((omega (arith, ints), omega (arith, ints)), ((omega (arith, ints), omega (arith, ints)), tt))),
      );
      atoms = ((omega (arith, ints), omega (arith, ints)), ((omega (arith, ints), omega (arith, ints)), ((omega (arith, ints), omega (arith, ints)), tt)));
      vars = (refl, (refl, (tt, (tt, tt))));
      parts = record { held = st.parts.held; rest = st.parts.rest; split = st.parts.split; each = st.parts.each; alone = st.parts.alone };
    }

-- a range is the least where configurations reach both of its ends
reached : DerivedIsTrue → (s : State) (n : NodeId) (lo hi y y' : ℤ) (v w : Valuation) → StandsBy defs v (ex.values y) (region_of ex.heap) s → StandsBy defs w (ex.values y') (region_of ex.heap) s
    → v n.0 ≡ lo → w n.0 ≡ hi → Follows (pure_of s) (In n lo hi) → HasRange (pure_of s) n lo hi
reached law s n lo hi y y' v w low high at_low at_high f =
    record {
      follows = f;
      least = λ m k g.
          let first = law defs v (ex.values y) (region_of ex.heap) s (In n m k) heap_addresses low (inl g) in
          let second = law defs w (ex.values y') (region_of ex.heap) s (In n m k) heap_addresses high (inl g) in
          let l : m ≤ℤ lo = subst (λ z. m ≤ℤ z) at_low first.0 in
          let h : hi ≤ℤ k = subst (λ z. z ≤ℤ k) at_high second.1 in
          (l, h);
    }

module _ (law : DerivedIsTrue) where
  -- nodes 2 and 3 where y goes from 5 to 7 and node 3 is 1
  both_ends : (n : NodeId) (lo hi : ℤ) → ex.valuation (pos 5) n.0 ≡ lo → ex.valuation (pos 7) n.0 ≡ hi → Follows (pure_of ex.with_one) (In n lo hi) → HasRange (pure_of ex.with_one) n lo hi
  both_ends n lo hi at_low at_high f =
      reached law ex.with_one n lo hi (pos 5) (pos 7) (ex.valuation (pos 5)) (ex.valuation (pos 7)) (with_one_stands (pos 5) (omega (arith, ints)) (omega (arith, ints))) (with_one_stands (pos 7) (omega (arith, ints)) (omega (arith, ints)))
      at_low at_high f

  pub y_range : HasRange (pure_of ex.with_one) (node 2) (pos 5) (pos 7)
  y_range = both_ends (node 2) (pos 5) (pos 7) refl refl (base (written 0 refl))

  pub one_range : HasRange (pure_of ex.with_one) (node 3) (pos 1) (pos 1)
  one_range = both_ends (node 3) (pos 1) (pos 1) refl refl (base (written 1 refl))

  -- nodes 3 and 4 where those are the greatest `int` and 1
  pub greatest_range : HasRange (pure_of ex.with_greatest) (node 3) (pos 2147483647) (pos 2147483647)
  unfolding greatest
  greatest_range =
      reached law ex.with_greatest (node 3) (pos 2147483647) (pos 2147483647) (pos 5) (pos 5) greatest greatest greatest_stands greatest_stands refl refl (base (written 1 refl))

  pub last_range : HasRange (pure_of ex.with_greatest) (node 4) (pos 1) (pos 1)
  unfolding greatest
  last_range = reached law ex.with_greatest (node 4) (pos 1) (pos 1) (pos 5) (pos 5) greatest greatest greatest_stands greatest_stands refl refl (base (written 2 refl))

-- the range of results, where its ends are results
results : (op : ℤ → ℤ → ℤ) (left right r : Range) → ((a b : ℤ) → Holds left a → Holds right b → Holds r (op a b)) → IsOutcome op left right r.lo → IsOutcome op left right r.hi → IsIntRange r → IsLeastIntRange (IsOutcome op left right) (Some r)
results op left right r within first last fits = (
  record {
    all = λ number o. subst (Holds r) (sym o.4) (within o.0 o.1 o.2 o.3);
    least = λ low high f number h.
        let a = f r.lo first in
        let b = f r.hi last in
        let l = a.0 in
        let u = b.1 in
        let from = h.0 in
        let upto = h.1 in
        (omega (arith, ints), omega (arith, ints));
  },
  fits,
)

pub sums : IsLeastIntRange (IsOutcome (λ a b. a +ℤ b) five_to_seven only_one) (Some six_to_eight)
sums =
    results (λ a b. a +ℤ b) five_to_seven only_one six_to_eight
    (λ a b h g. let l = h.0 in let u = h.1 in let m = g.0 in let k = g.1 in (omega (arith, ints), omega (arith, ints)))
    (pos 5, pos 1, (omega (arith, ints), omega (arith, ints)), (omega (arith, ints), omega (arith, ints)), refl)
    (pos 7, pos 1, (omega (arith, ints), omega (arith, ints)), (omega (arith, ints), omega (arith, ints)), refl)
    (omega (arith, ints), (omega (arith, ints), omega (arith, ints)), (omega (arith, ints), omega (arith, ints)))

-- a sum that is no `int`
pub no_sums : IsLeastIntRange (IsOutcome (λ a b. a +ℤ b) only_greatest only_one) None
no_sums = (
  pos 2147483648,
  (pos 2147483647, pos 1, (omega (arith, ints), omega (arith, ints)), (omega (arith, ints), omega (arith, ints)), refl),
  λ is. let high : pos 2147483648 ≤ℤ pos 2147483647 = is.1 in omega (arith, ints),
)

pub differences : IsLeastIntRange (IsOutcome (λ a b. a -ℤ b) five_to_seven only_one) (Some four_to_six)
differences =
    results (λ a b. a -ℤ b) five_to_seven only_one four_to_six
    (λ a b h g. let l = h.0 in let u = h.1 in let m = g.0 in let k = g.1 in (omega (arith, ints), omega (arith, ints)))
    (pos 5, pos 1, (omega (arith, ints), omega (arith, ints)), (omega (arith, ints), omega (arith, ints)), refl)
    (pos 7, pos 1, (omega (arith, ints), omega (arith, ints)), (omega (arith, ints), omega (arith, ints)), refl)
    (omega (arith, ints), (omega (arith, ints), omega (arith, ints)), (omega (arith, ints), omega (arith, ints)))

times_one : (a b : ℤ) → b ≡ pos 1 → a *ℤ b ≡ a
times_one a b e = ap (λ z. a *ℤ z) e ∙ omega (arith, ints)

pub products : IsLeastIntRange (IsOutcome (λ a b. a *ℤ b) five_to_seven only_one) (Some five_to_seven)
products =
    results (λ a b. a *ℤ b) five_to_seven only_one five_to_seven
    (λ a b h g.
    let m = g.0 in
    let k = g.1 in
    let one : b ≡ pos 1 = omega (arith, ints) in
    subst (Holds five_to_seven) (sym (times_one a b one)) h)
    (pos 5, pos 1, (omega (arith, ints), omega (arith, ints)), (omega (arith, ints), omega (arith, ints)), refl)
    (pos 7, pos 1, (omega (arith, ints), omega (arith, ints)), (omega (arith, ints), omega (arith, ints)), refl)
    (omega (arith, ints), (omega (arith, ints), omega (arith, ints)), (omega (arith, ints), omega (arith, ints)))
