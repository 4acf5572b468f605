-- The nearest of some thresholds, one threshold more.
use Rattle.std.proofs.Common.{◌≡◌, ℕ, ◌<◌, ◌+◌, length, get_or, ℤ, pos, negsuc, ◌≤ℤ◌, ◌<ℤ◌, ◌⊎◌, List, [], ◌∷◌, ◌++◌, take, Contains, cond, int_lt, true, false, inl, inr, arith, add-one}
use Rattle.std.proofs.lemmas.Int.{ints, clamps}
use Rattle.std.proofs.lemmas.List.Elements.{All-more, All-weaker, Contains-append_left, Contains-push}
use Rattle.std.proofs.Math.Seq.{take-suc}
use Rattle.std.specs.Int.{int_max, int_min}
use Rattle.mc_base.specs.Ranges.Thresholds.{IsNearestAbove, IsNearestBelow}

take-more : (ts : List ℤ) (i : ℕ) → i < length ts → take (i + 1) ts ≡ take i ts ++ (get_or ts i (pos 0) ∷ [])
take-more ts i within = rw add-one (take-suc ts i (pos 0) within)

still_there : (ts : List ℤ) (i : ℕ) (x : ℤ) → i < length ts → Contains (take i ts) x → Contains (take (i + 1) ts) x
still_there ts i x within there = rw (take-more ts i within) (Contains-append_left (take i ts) (get_or ts i (pos 0) ∷ []) x there)

now_there : (ts : List ℤ) (i : ℕ) → i < length ts → Contains (take (i + 1) ts) (get_or ts i (pos 0))
now_there ts i within = rw (take-more ts i within) (Contains-push (take i ts) (get_or ts i (pos 0)))

still_among : (ts : List ℤ) (i : ℕ) (end x : ℤ) → i < length ts → Contains (take i ts) x ⊎ (x ≡ end) → Contains (take (i + 1) ts) x ⊎ (x ≡ end)
still_among ts i end x within (inl there) = inl (still_there ts i x within there)
still_among ts i end x within (inr is) = inr is

min_either : (In : ℤ → Type 0) (x y : ℤ) → In x → In y → In (int_min x y)
min_either In x y a b = elim (int_lt y x) as (λ t. In (cond t y x)) [ true ↦ b | false ↦ a ]

max_either : (In : ℤ → Type 0) (x y : ℤ) → In x → In y → In (int_max x y)
max_either In x y a b = elim (int_lt y x) as (λ t. In (cond t x y)) [ true ↦ a | false ↦ b ]

module _ (ts : List ℤ) (i : ℕ) (number near : ℤ) (within : i < length ts) where
  pub closer_above : (t result : ℤ) → t ≡ get_or ts i (pos 0) → IsNearestAbove (take i ts) number near → number ≤ℤ t → result ≡ int_min near t → IsNearestAbove (take (i + 1) ts) number result
  closer_above t result is nearest reached made = record {
    reached = let a = nearest.reached in omega (arith, ints, clamps);
    among = rw made (min_either (λ x. Contains (take (i + 1) ts) x ⊎ (x ≡ pos 2147483647)) near t (still_among ts i (pos 2147483647) near within nearest.among) (inl (rw is (now_there ts i within))));
    nearest = All-more (λ s. number ≤ℤ s → result ≤ℤ s) ts i (pos 0) within
        (All-weaker (λ s. number ≤ℤ s → near ≤ℤ s) (λ s. number ≤ℤ s → result ≤ℤ s) (λ s old h. let k = old h in omega (arith, ints, clamps)) (take i ts) nearest.nearest)
        (λ h. omega (arith, ints, clamps));
  }

  pub passed_above : (t : ℤ) → t ≡ get_or ts i (pos 0) → IsNearestAbove (take i ts) number near → t <ℤ number → IsNearestAbove (take (i + 1) ts) number near
  passed_above t is nearest passed = record {
    reached = nearest.reached;
    among = still_among ts i (pos 2147483647) near within nearest.among;
    nearest = All-more (λ s. number ≤ℤ s → near ≤ℤ s) ts i (pos 0) within nearest.nearest (λ h. absurd (omega (arith, ints)));
  }

  pub closer_below : (t result : ℤ) → t ≡ get_or ts i (pos 0) → IsNearestBelow (take i ts) number near → t ≤ℤ number → result ≡ int_max near t → IsNearestBelow (take (i + 1) ts) number result
  closer_below t result is nearest reached made = record {
    reached = let a = nearest.reached in omega (arith, ints, clamps);
    among = rw made (max_either (λ x. Contains (take (i + 1) ts) x ⊎ (x ≡ negsuc 2147483647)) near t (still_among ts i (negsuc 2147483647) near within nearest.among) (inl (rw is (now_there ts i within))));
    nearest = All-more (λ s. s ≤ℤ number → s ≤ℤ result) ts i (pos 0) within
        (All-weaker (λ s. s ≤ℤ number → s ≤ℤ near) (λ s. s ≤ℤ number → s ≤ℤ result) (λ s old h. let k = old h in omega (arith, ints, clamps)) (take i ts) nearest.nearest)
        (λ h. omega (arith, ints, clamps));
  }

  pub passed_below : (t : ℤ) → t ≡ get_or ts i (pos 0) → IsNearestBelow (take i ts) number near → number <ℤ t → IsNearestBelow (take (i + 1) ts) number near
  passed_below t is nearest passed = record {
    reached = nearest.reached;
    among = still_among ts i (negsuc 2147483647) near within nearest.among;
    nearest = All-more (λ s. s ≤ℤ number → s ≤ℤ near) ts i (pos 0) within nearest.nearest (λ h. absurd (omega (arith, ints)));
  }
