-- Products of numbers of two ranges lie between the products of the ends.
use Rattle.std.proofs.Common.{◌≡◌, ℕ, zero, suc, ℤ, pos, negsuc, ◌≤ℤ◌, ◌*ℤ◌, ◌+ℤ◌, neg_ℤ, cond, int_lt, true, false, refl, ◌∙◌, ap, arith}
use Rattle.std.proofs.Math.IntN.{*ℤ_comm, *ℤ-zero, suc_ℤ-*ℤ, *ℤ-negsuc}
use Rattle.std.proofs.lemmas.Int.{ints, clamps}
use Rattle.std.specs.Int.{int_max, int_min}
use Rattle.mc_base.specs.declared.ranges.Range.{Range}
use Rattle.mc_base.specs.Ranges.Ends.{IsBetween}
use Rattle.mc_base.specs.Ranges.Range.{Holds, IsOutcome}

pub times-suc : (a : ℤ) (n : ℕ) → a *ℤ pos (suc n) ≡ (a *ℤ pos n) +ℤ a
times-suc a n = *ℤ_comm a (pos (suc n)) ∙ suc_ℤ-*ℤ (pos n) a ∙ ap (λ z. z +ℤ a) (*ℤ_comm (pos n) a)

pub both_up : (a b p q r s : ℤ) → a ≤ℤ b → p ≤ℤ q → r ≡ p +ℤ a → s ≡ q +ℤ b → r ≤ℤ s
both_up a b p q r s h k e f = omega (arith, ints)

-- a factor that is not negative keeps the order
pub times_up : (a b : ℤ) (n : ℕ) → a ≤ℤ b → (a *ℤ pos n) ≤ℤ (b *ℤ pos n)
times_up a b zero h = rw (*ℤ-zero a, *ℤ-zero b) (omega (arith, ints))
times_up a b (suc n) h = both_up a b (a *ℤ pos n) (b *ℤ pos n) (a *ℤ pos (suc n)) (b *ℤ pos (suc n)) h (times_up a b n h) (times-suc a n) (times-suc b n)

pub negated_down : (p q r s : ℤ) → p ≤ℤ q → r ≡ neg_ℤ p → s ≡ neg_ℤ q → s ≤ℤ r
negated_down p q r s h e f = omega (arith, ints)

-- a negative factor turns the order round
pub times_down : (a b : ℤ) (n : ℕ) → a ≤ℤ b → (b *ℤ negsuc n) ≤ℤ (a *ℤ negsuc n)
times_down a b n h = negated_down (a *ℤ pos (suc n)) (b *ℤ pos (suc n)) (a *ℤ negsuc n) (b *ℤ negsuc n) (times_up a b (suc n) h) (*ℤ-negsuc a n) (*ℤ-negsuc b n)

pub above_step : (m p q : ℤ) → m ≤ℤ p → p ≤ℤ q → m ≤ℤ q
above_step m p q h k = omega (arith, ints)

-- what is below the products at both ends is below each product between
pub above-times : (m low high x k : ℤ) → low ≤ℤ x → x ≤ℤ high → m ≤ℤ (low *ℤ k) → m ≤ℤ (high *ℤ k) → m ≤ℤ (x *ℤ k)
above-times m low high x (pos n) a b p q = above_step m (low *ℤ pos n) (x *ℤ pos n) p (times_up low x n a)
above-times m low high x (negsuc n) a b p q = above_step m (high *ℤ negsuc n) (x *ℤ negsuc n) q (times_down x high n b)

pub below-times : (m low high x k : ℤ) → low ≤ℤ x → x ≤ℤ high → (low *ℤ k) ≤ℤ m → (high *ℤ k) ≤ℤ m → (x *ℤ k) ≤ℤ m
below-times m low high x (pos n) a b p q = above_step (x *ℤ pos n) (high *ℤ pos n) m (times_up x high n b) q
below-times m low high x (negsuc n) a b p q = above_step (x *ℤ negsuc n) (low *ℤ negsuc n) m (times_down low x n a) p

-- what is below the products of the ends is below each product
pub above : (m : ℤ) (left right : Range) (x y : ℤ) → Holds left x → Holds right y → m ≤ℤ (left.lo *ℤ right.lo) → m ≤ℤ (left.lo *ℤ right.hi) → m ≤ℤ (left.hi *ℤ right.lo) → m ≤ℤ (left.hi *ℤ right.hi) → m ≤ℤ (x *ℤ y)
above m left right x y in_left in_right a b c d =
    let low : m ≤ℤ (left.lo *ℤ y) = rw (*ℤ_comm left.lo y) (above-times m right.lo right.hi y left.lo in_right.0 in_right.1 (rw (*ℤ_comm right.lo left.lo) a) (rw (*ℤ_comm right.hi left.lo) b)) in
    let high : m ≤ℤ (left.hi *ℤ y) = rw (*ℤ_comm left.hi y) (above-times m right.lo right.hi y left.hi in_right.0 in_right.1 (rw (*ℤ_comm right.lo left.hi) c) (rw (*ℤ_comm right.hi left.hi) d)) in
    above-times m left.lo left.hi x y in_left.0 in_left.1 low high

pub below : (m : ℤ) (left right : Range) (x y : ℤ) → Holds left x → Holds right y → (left.lo *ℤ right.lo) ≤ℤ m → (left.lo *ℤ right.hi) ≤ℤ m → (left.hi *ℤ right.lo) ≤ℤ m → (left.hi *ℤ right.hi) ≤ℤ m → (x *ℤ y) ≤ℤ m
below m left right x y in_left in_right a b c d =
    let low : (left.lo *ℤ y) ≤ℤ m = rw (*ℤ_comm left.lo y) (below-times m right.lo right.hi y left.lo in_right.0 in_right.1 (rw (*ℤ_comm right.lo left.lo) a) (rw (*ℤ_comm right.hi left.lo) b)) in
    let high : (left.hi *ℤ y) ≤ℤ m = rw (*ℤ_comm left.hi y) (below-times m right.lo right.hi y left.hi in_right.0 in_right.1 (rw (*ℤ_comm right.lo left.hi) c) (rw (*ℤ_comm right.hi left.hi) d)) in
    below-times m left.lo left.hi x y in_left.0 in_left.1 low high

pub int_min_either : (In : ℤ → Type 0) (x y : ℤ) → In x → In y → In (int_min x y)
int_min_either In x y a b = elim (int_lt y x) as (λ t. In (cond t y x)) [ true ↦ b | false ↦ a ]

pub int_max_either : (In : ℤ → Type 0) (x y : ℤ) → In x → In y → In (int_max x y)
int_max_either In x y a b = elim (int_lt y x) as (λ t. In (cond t x y)) [ true ↦ a | false ↦ b ]

int_min_low : (a b c d : ℤ) → (int_min (int_min a b) (int_min c d) ≤ℤ a) × (int_min (int_min a b) (int_min c d) ≤ℤ b) × (int_min (int_min a b) (int_min c d) ≤ℤ c) × (int_min (int_min a b) (int_min c d) ≤ℤ d)
int_min_low a b c d = (omega (arith, ints, clamps), omega (arith, ints, clamps), omega (arith, ints, clamps), omega (arith, ints, clamps))

int_max_high : (a b c d : ℤ) → (a ≤ℤ int_max (int_max a b) (int_max c d)) × (b ≤ℤ int_max (int_max a b) (int_max c d)) × (c ≤ℤ int_max (int_max a b) (int_max c d)) × (d ≤ℤ int_max (int_max a b) (int_max c d))
int_max_high a b c d = (omega (arith, ints, clamps), omega (arith, ints, clamps), omega (arith, ints, clamps), omega (arith, ints, clamps))

-- the least and the greatest product of two ends
abbrev pub low_end : Range → Range → ℤ
low_end left right = int_min (int_min (left.lo *ℤ right.lo) (left.lo *ℤ right.hi)) (int_min (left.hi *ℤ right.lo) (left.hi *ℤ right.hi))

abbrev pub high_end : Range → Range → ℤ
high_end left right = int_max (int_max (left.lo *ℤ right.lo) (left.lo *ℤ right.hi)) (int_max (left.hi *ℤ right.lo) (left.hi *ℤ right.hi))

abbrev pub Product : Range → Range → ℤ → Type 0
Product left right = IsOutcome (λ x y. x *ℤ y) left right

pub low_product : (left right : Range) → left.lo ≤ℤ left.hi → right.lo ≤ℤ right.hi → Product left right (low_end left right)
low_product left right p q =
    let low_left : Holds left left.lo = (omega (arith, ints), p) in
    let high_left : Holds left left.hi = (p, omega (arith, ints)) in
    let low_right : Holds right right.lo = (omega (arith, ints), q) in
    let high_right : Holds right right.hi = (q, omega (arith, ints)) in
    int_min_either (Product left right) (int_min (left.lo *ℤ right.lo) (left.lo *ℤ right.hi)) (int_min (left.hi *ℤ right.lo) (left.hi *ℤ right.hi))
    (int_min_either (Product left right) (left.lo *ℤ right.lo) (left.lo *ℤ right.hi) (left.lo, right.lo, low_left, low_right, refl) (left.lo, right.hi, low_left, high_right, refl))
    (int_min_either (Product left right) (left.hi *ℤ right.lo) (left.hi *ℤ right.hi) (left.hi, right.lo, high_left, low_right, refl) (left.hi, right.hi, high_left, high_right, refl))

pub high_product : (left right : Range) → left.lo ≤ℤ left.hi → right.lo ≤ℤ right.hi → Product left right (high_end left right)
high_product left right p q =
    let low_left : Holds left left.lo = (omega (arith, ints), p) in
    let high_left : Holds left left.hi = (p, omega (arith, ints)) in
    let low_right : Holds right right.lo = (omega (arith, ints), q) in
    let high_right : Holds right right.hi = (q, omega (arith, ints)) in
    int_max_either (Product left right) (int_max (left.lo *ℤ right.lo) (left.lo *ℤ right.hi)) (int_max (left.hi *ℤ right.lo) (left.hi *ℤ right.hi))
    (int_max_either (Product left right) (left.lo *ℤ right.lo) (left.lo *ℤ right.hi) (left.lo, right.lo, low_left, low_right, refl) (left.lo, right.hi, low_left, high_right, refl))
    (int_max_either (Product left right) (left.hi *ℤ right.lo) (left.hi *ℤ right.hi) (left.hi, right.lo, high_left, low_right, refl) (left.hi, right.hi, high_left, high_right, refl))

pub products_between : (left right : Range) (number : ℤ) → Product left right number → IsBetween (low_end left right) (high_end left right) number
products_between left right number made =
    let low = int_min_low (left.lo *ℤ right.lo) (left.lo *ℤ right.hi) (left.hi *ℤ right.lo) (left.hi *ℤ right.hi) in
    let high = int_max_high (left.lo *ℤ right.lo) (left.lo *ℤ right.hi) (left.hi *ℤ right.lo) (left.hi *ℤ right.hi) in
    rw made.4 (above _ left right made.0 made.1 made.2 made.3 low.0 low.1 low.2 low.3, below _ left right made.0 made.1 made.2 made.3 high.0 high.1 high.2 high.3)

pub low_not_above : (left right : Range) → left.lo ≤ℤ left.hi → right.lo ≤ℤ right.hi → low_end left right ≤ℤ high_end left right
low_not_above left right p q = (products_between left right (low_end left right) (low_product left right p q)).1
