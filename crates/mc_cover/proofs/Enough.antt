-- More marks than suffice change nothing, and what is first depends on the marks that apply alone.
use Rattle.std.proofs.Common.{◌≡◌, ℕ, zero, suc, ◌+◌, ◌*◌, ◌≤◌, List, [], ◌∷◌, ◌++◌, inl, inr, Bool, true, false, Option, Some, None, length, refl, sym, ◌∙◌, ap, arith}
use Rattle.std.specs.List.{flat_map, filter}
use Rattle.mc_shape_search.specs.Search.Search.{Space, tries, options, applies, ended, first, first_try}
use Rattle.mc_shape_search.specs.Search.Met.{IsIn, Leads, AllLeaveFew}
use Rattle.mc_shape_search.proofs.SearchLemmas.Bound.{bound}
use Rattle.mc_shape_search.proofs.SearchLemmas.Members.{from_filter, in_append, in_left, in_right}
use Rattle.mc_shape_search.proofs.SearchLemmas.Tries.{leads_by_try, try_by_leads, leads_longer, length_more}

-- the first of two lists one after the other
abbrev or_first : {X : Type 0} → Option X → Option X → Option X
or_first None other = other
or_first (Some x) other = Some x

first_append : {X : Type 0} (xs ys : List (Option X)) → first (xs ++ ys) ≡ or_first (first xs) (first ys)
first_append [] ys = refl
first_append (None ∷ xs) ys = first_append xs ys
first_append (Some x ∷ xs) ys = refl

first_each : {X Y : Type 0} (f f' : Y → List (Option X)) (ys : List Y) → ((y : Y) → IsIn y ys → first (f y) ≡ first (f' y)) → first (flat_map f ys) ≡ first (flat_map f' ys)
first_each f f' [] same = refl
first_each f f' (y ∷ ys) same =
    first_append (f y) (flat_map f ys)
    ∙ (ap (λ o. or_first o (first (flat_map f ys))) (same y (inl refl))
    ∙ (ap (λ o. or_first (first (f' y)) o) (first_each f f' ys (λ z i. same z (inr i)))
    ∙ sym (first_append (f' y) (flat_map f' ys))))

none_first : {X : Type 0} (xs : List (Option X)) → ((x : X) → IsIn (Some x) xs → ⊥) → first xs ≡ None
none_first [] no' = refl
none_first (None ∷ xs) no' = none_first xs (λ x i. no' x (inr i))
none_first (Some x ∷ xs) no' = absurd (no' x (inl refl))

flat_same : {X Y : Type 0} (f f' : Y → List X) → ((y : Y) → f y ≡ f' y) → (ys : List Y) → flat_map f ys ≡ flat_map f' ys
flat_same f f' same [] = refl
flat_same f f' same (y ∷ ys) = ap (λ l. l ++ flat_map f ys) (same y) ∙ ap (λ l. f' y ++ l) (flat_same f f' same ys)

module _ {G M : Type 0} (w : Space G M) where
  -- no marks that lead from the goals are more than the log and so many
  abbrev AreFew : ℕ → List G → List M → Type 0
  AreFew n gs log = (m : ℕ) (after : List M) → Leads w m gs log after → length after ≤ length log + n

  none_there : (k : ℕ) (g : G) (gs : List G) (log after : List M) → AreFew zero (g ∷ gs) log → Leads w k (g ∷ gs) log after → ⊥
  none_there zero g gs log after few h = elim h [ ]
  none_there (suc k) g gs log after few (m, i, a, r) =
      let far = leads_longer w k (w.calls g m ++ gs) (log ++ m ∷ []) after r in
      let one = length_more log m in
      let short = few (suc k) after (m, i, a, r) in
      omega arith

  fewer : (n : ℕ) (g : G) (gs : List G) (log : List M) (m : M) → IsIn m (w.marks g) → applies w g log m ≡ true → AreFew (suc n) (g ∷ gs) log → AreFew n (w.calls g m ++ gs) (log ++ m ∷ [])
  fewer n g gs log m i a few j after r =
      let one = length_more log m in
      let short = few (suc j) after (m, i, a, r) in
      omega arith

  more : (n k : ℕ) (gs : List G) (log : List M) → n ≤ k → AreFew n gs log → first (tries w n gs log) ≡ first (tries w k gs log)
  unfolding tries options
  more zero zero [] log l few = refl
  more zero (suc k) [] log l few = refl
  more (suc n) zero [] log l few = refl
  more (suc n) (suc k) [] log l few = refl
  more zero k (g ∷ gs) log l few = sym (none_first (tries w k (g ∷ gs) log) (λ after i. none_there k g gs log after few (leads_by_try w k (g ∷ gs) log after i)))
  more (suc n) zero (g ∷ gs) log l few = absurd (omega arith)
  more (suc n) (suc k) (g ∷ gs) log l few =
      let less : n ≤ k = omega arith in
      first_each (λ m. tries w n (w.calls g m ++ gs) (log ++ m ∷ [])) (λ m. tries w k (w.calls g m ++ gs) (log ++ m ∷ [])) (options w g log)
      (λ m i. let b = from_filter (applies w g log) m (w.marks g) i in more n k (w.calls g m ++ gs) (log ++ m ∷ []) less (fewer n g gs log m b.0 b.1 few))

  -- any limit will do that leaves room for all that may be taken
  pub any_limit : (most : ℕ) (ids : List ℕ) → AllLeaveFew w most ids → (g : G) (k : ℕ) → suc (most * length ids) ≤ k → first_try w (suc (most * length ids)) g ≡ first_try w k g
  any_limit most ids few g k l =
      more (suc (most * length ids)) k (g ∷ []) [] l (λ n after r. let b = bound w most ids few n g after r in omega arith)

module _ {G M : Type 0} (w v : Space G M) (calls : (g : G) (m : M) → w.calls g m ≡ v.calls g m) (ends : (log : List M) → w.ends log ≡ v.ends log) (same : (g : G) (log : List M) → options w g log ≡ options v g log) where
  -- where the same marks apply, the same is tried
  same_tries : (n : ℕ) (gs : List G) (log : List M) → tries w n gs log ≡ tries v n gs log
  unfolding tries
  same_tries zero [] log = ap (λ b. ended b log ∷ []) (ends log)
  same_tries (suc n) [] log = ap (λ b. ended b log ∷ []) (ends log)
  same_tries zero (g ∷ gs) log = refl
  same_tries (suc n) (g ∷ gs) log =
      ap (λ l. None ∷ l)
      (ap (flat_map (λ m. tries w n (w.calls g m ++ gs) (log ++ m ∷ []))) (same g log)
      ∙ flat_same (λ m. tries w n (w.calls g m ++ gs) (log ++ m ∷ [])) (λ m. tries v n (v.calls g m ++ gs) (log ++ m ∷ []))
      (λ m. same_tries n (w.calls g m ++ gs) (log ++ m ∷ []) ∙ ap (λ cs. tries v n (cs ++ gs) (log ++ m ∷ [])) (calls g m)) (options v g log))

  pub same_first : (limit : ℕ) (g : G) → first_try w limit g ≡ first_try v limit g
  same_first limit g = ap first (same_tries limit (g ∷ []) [])
