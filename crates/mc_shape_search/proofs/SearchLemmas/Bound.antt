-- How many marks meet goals at most: one for each goal, and for each number that is taken as many as a mark leaves goals.
use Rattle.std.proofs.Common.{◌≡◌, ℕ, zero, suc, ◌+◌, ◌*◌, ◌≤◌, List, [], ◌∷◌, ◌++◌, ◌||◌, inl, inr, Bool, true, false, not, Option, Some, None, length, refl, sym, ◌∙◌, ap, arith, length-append}
use Rattle.std.proofs.lemmas.Bool.{eq-eqb, and_parts}
use Rattle.std.proofs.Math.Nat.{mul-le-mul_left}
use Rattle.mc_shape_search.specs.Search.Search.{Space, uses, takes_this, is_unused, is_free, applies}
use Rattle.mc_shape_search.specs.Search.Met.{IsIn, Leads, one_if_unused, count_unused, LeavesFew, AllLeaveFew}
use Rattle.mc_shape_search.proofs.SearchLemmas.Tries.{length_more}

or_more : (a b c : Bool) → (a || (b || c)) ≡ ((a || b) || c)
or_more true b c = refl
or_more false b c = refl

or_none : (a : Bool) → (a || false) ≡ a
or_none true = refl
or_none false = refl

not_true : (b : Bool) → not b ≡ true → b ≡ false
not_true true h = cc
not_true false h = refl

one_less : (a b : Bool) → one_if_unused (a || b) ≤ one_if_unused a
one_less true b = omega arith
one_less false true = omega arith
one_less false false = omega arith

module _ {M : Type 0} (takes : M → Option ℕ) where
  -- a number is used after a mark where it was before, or where the mark takes it
  pub uses_more : (log : List M) (m : M) (id : ℕ) → uses takes (log ++ m ∷ []) id ≡ (uses takes log id || takes_this (takes m) id)
  uses_more [] m id = or_none (takes_this (takes m) id)
  uses_more (x ∷ log) m id = ap (λ b. takes_this (takes x) id || b) (uses_more log m id) ∙ or_more (takes_this (takes x) id) (uses takes log id) (takes_this (takes m) id)

  unused_le : (log : List M) (m : M) (ids : List ℕ) → count_unused takes (log ++ m ∷ []) ids ≤ count_unused takes log ids
  unused_le log m [] = omega arith
  unused_le log m (id ∷ ids) =
      let a : one_if_unused (uses takes (log ++ m ∷ []) id) ≤ one_if_unused (uses takes log id) = rw (uses_more log m id) (one_less (uses takes log id) (takes_this (takes m) id)) in
      let b = unused_le log m ids in
      omega arith

  unused_less : (log : List M) (m : M) (id : ℕ) (ids : List ℕ) → IsIn id ids → uses takes log id ≡ false → takes_this (takes m) id ≡ true → suc (count_unused takes (log ++ m ∷ []) ids) ≤ count_unused takes log ids
  unused_less log m id [] i u t = elim i [ ]
  unused_less log m id (y ∷ ids) (inl e) u t =
      let a : one_if_unused (uses takes (log ++ m ∷ []) y) ≡ 0 = rw (uses_more log m y, sym e, u, t) in
      let c : one_if_unused (uses takes log y) ≡ 1 = rw (sym e, u) in
      let b = unused_le log m ids in
      omega arith
  unused_less log m id (y ∷ ids) (inr i) u t =
      let a : one_if_unused (uses takes (log ++ m ∷ []) y) ≤ one_if_unused (uses takes log y) = rw (uses_more log m y) (one_less (uses takes log y) (takes_this (takes m) y)) in
      let b = unused_less log m id ids i u t in
      omega arith

  -- so many numbers and no more are unused at first
  pub unused_all : (ids : List ℕ) → count_unused takes [] ids ≡ length ids
  unused_all [] = refl
  unused_all (id ∷ ids) = let e = unused_all ids in omega arith

module _ {G M : Type 0} (w : Space G M) (most : ℕ) (ids : List ℕ) (few : AllLeaveFew w most ids) where
  -- as many goals as may still be left
  pub left_over : List M → ℕ
  left_over log = most * count_unused w.takes log ids

  fewer : (log : List M) (m : M) (o : Option ℕ) (calls : List G) → w.takes m ≡ o → is_unused w.takes log o ≡ true → LeavesFew most ids o calls → length calls + left_over (log ++ m ∷ []) ≤ left_over log
  unfolding left_over
  fewer log m None calls e u p =
      let none : length calls ≡ 0 = ap length p in
      let less = mul-le-mul_left most (unused_le w.takes log m ids) in
      omega arith
  fewer log m (Some id) calls e u p =
      let taken : takes_this (w.takes m) id ≡ true = ap (λ o. takes_this o id) e ∙ eq-eqb id id refl in
      let less = unused_less w.takes log m id ids p.0 (not_true (uses w.takes log id) u) taken in
      let short = p.1 in
      omega (arith, mul-le-mul_left most less)

  step : (g : G) (log : List M) (m : M) → applies w g log m ≡ true → length (w.calls g m) + left_over (log ++ m ∷ []) ≤ left_over log
  step g log m a =
      let both = and_parts (w.fits g m) (is_free w.takes log m) a in
      fewer log m (w.takes m) (w.calls g m) refl both.1 (few g m both.0)

  -- marks and what may be left never grow
  pub bounded : (n : ℕ) (gs : List G) (log after : List M) → Leads w n gs log after → length after + left_over after ≤ (length log + length gs) + left_over log
  bounded zero [] log after h = rw h.0 (omega arith)
  bounded (suc n) [] log after h = rw h.0 (omega arith)
  bounded zero (g ∷ gs) log after h = elim h [ ]
  bounded (suc n) (g ∷ gs) log after (m, i, a, r) =
      let b = bounded n (w.calls g m ++ gs) (log ++ m ∷ []) after r in
      let s = step g log m a in
      let e = length_more log m in
      let c = length-append (w.calls g m) gs in
      omega arith

  -- one goal takes no more marks than this
  pub bound : (n : ℕ) (g : G) (after : List M) → Leads w n (g ∷ []) [] after → length after ≤ suc (most * length ids)
  unfolding left_over
  bound n g after h =
      let a = bounded n (g ∷ []) [] after h in
      let b = rw (unused_all w.takes ids) at a in
      omega arith
