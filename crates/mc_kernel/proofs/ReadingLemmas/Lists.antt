-- Lists of cuts and heads, and what they contain.
use Rattle.std.proofs.Common.{◌≡◌, ◌<◌, ◌≤◌, ◌⊎◌, inl, inr, ℕ, zero, suc, List, [], ◌∷◌, ◌++◌, Bool, true, false, refl, ap, subst, arith, eqb-true, eq-eqb}
use Rattle.std.specs.Prelude.{Contains, nat_lt, ◌==◌, ◌||◌}
use Rattle.std.specs.List.{AllByRecursion}
use Rattle.mc_base.specs.declared.ids.PointId.{PointId}
use Rattle.mc_flow.specs.declared.graph.Flow.{Flow}
use Rattle.mc_state.proofs.Tests.{each_from, each_to}
use Rattle.mc_kernel.specs.Branches.{Ascend}
use Rattle.mc_kernel.specs.Certificates.{WrittenHead, AreOrdered}
use Rattle.mc_kernel.specs.Judges.{is_cut}
use Rattle.mc_kernel.specs.Readings.{comes_after, stands_after, has_all_heads}

lt_from : (a b : ℕ) → nat_lt a b ≡ true → a < b
lt_from a b e = grind arith

lt_to : (a b : ℕ) → a < b → nat_lt a b ≡ true
lt_to a b e = grind arith

module _ {X : Type 0} where
  pub all_end : (P : X → Type 0) (xs : List X) (x : X) → AllByRecursion P xs → P x → AllByRecursion P (xs ++ x ∷ [])
  all_end P [] x a p = (p, tt)
  all_end P (y ∷ xs) x a p = (a.0, all_end P xs x a.1 p)

  pub all_join : (P : X → Type 0) (xs ys : List X) → AllByRecursion P xs → AllByRecursion P ys → AllByRecursion P (xs ++ ys)
  all_join P [] ys a b = b
  all_join P (x ∷ xs) ys a b = (a.0, all_join P xs ys a.1 b)

  pub append_none : (xs : List X) → xs ++ [] ≡ xs
  append_none [] = refl
  append_none (x ∷ xs) = ap (λ r. x ∷ r) (append_none xs)

  pub append_end : (xs : List X) (y : X) (ys : List X) → (xs ++ y ∷ []) ++ ys ≡ xs ++ y ∷ ys
  append_end [] y ys = refl
  append_end (x ∷ xs) y ys = ap (λ r. x ∷ r) (append_end xs y ys)

  pub append_twice : (xs ys zs : List X) → (xs ++ ys) ++ zs ≡ xs ++ (ys ++ zs)
  append_twice [] ys zs = refl
  append_twice (x ∷ xs) ys zs = ap (λ r. x ∷ r) (append_twice xs ys zs)

  contained : (x y : X) (xs : List X) → Contains (y ∷ xs) x → (y ≡ x) ⊎ Contains xs x
  contained x y xs (zero, less, e) = inl e
  contained x y xs (suc i, less, e) = inr (i, omega arith, e)

  pub contains_first : (x : X) (xs : List X) → Contains (x ∷ xs) x
  contains_first x xs = (0, omega arith, refl)

  pub contains_behind : (x y : X) (ys : List X) → Contains ys x → Contains (y ∷ ys) x
  contains_behind x y ys c = let below = c.1 in (suc c.0, omega arith, c.2)

  pub contains_nothing : (x : X) → Contains [] x → ⊥
  contains_nothing x c = let below = c.1 in omega arith

  pub each_contained : (P : X → Type 0) (xs : List X) → AllByRecursion P xs → (x : X) → Contains xs x → P x
  each_contained P [] a x c = absurd (contains_nothing x c)
  each_contained P (y ∷ xs) a x c = elim (contained x y xs c) [ inl e ↦ subst P e a.0 | inr more ↦ each_contained P xs a.1 x more ]

  pub all_contained : (P : X → Type 0) (xs : List X) → ((x : X) → Contains xs x → P x) → AllByRecursion P xs
  all_contained P [] f = tt
  all_contained P (x ∷ xs) f = (f x (contains_first x xs), all_contained P xs (λ y c. f y (contains_behind y x xs c)))

-- ---- cuts

pub ascend_end : (cuts : List PointId) (p : PointId) → Ascend cuts → comes_after cuts p ≡ true → Ascend (cuts ++ p ∷ [])
ascend_end [] p a e = tt
ascend_end (q ∷ []) p a e = (lt_from q.0 p.0 e, tt)
ascend_end (q ∷ r ∷ cuts) p a e = (a.0, ascend_end (r ∷ cuts) p a.1 e)

pub ascend_after : (cuts : List PointId) (p : PointId) (more : List PointId) → Ascend (cuts ++ p ∷ more) → comes_after cuts p ≡ true
ascend_after [] p more a = refl
ascend_after (q ∷ []) p more a = lt_to q.0 p.0 a.0
ascend_after (q ∷ r ∷ cuts) p more a = ascend_after (r ∷ cuts) p more a.1

-- ---- heads

pub ordered_end : (heads : List WrittenHead) (h : WrittenHead) → AreOrdered heads → stands_after heads h.0 ≡ true → AreOrdered (heads ++ h ∷ [])
ordered_end [] h a e = tt
ordered_end (i ∷ []) h a e = let less : i.0.0 < suc h.0.0 = lt_from i.0.0 (suc h.0.0) e in (omega arith, tt)
ordered_end (i ∷ j ∷ heads) h a e = (a.0, ordered_end (j ∷ heads) h a.1 e)

pub ordered_after : (heads : List WrittenHead) (h : WrittenHead) (more : List WrittenHead) → AreOrdered (heads ++ h ∷ more) → stands_after heads h.0 ≡ true
ordered_after [] h more a = refl
ordered_after (i ∷ []) h more a = let most : i.0.0 ≤ h.0.0 = a.0 in lt_to i.0.0 (suc h.0.0) (omega arith)
ordered_after (i ∷ j ∷ heads) h more a = ordered_after (j ∷ heads) h more a.1

-- ---- points that are cuts

same_point : (p q : PointId) → p.0 ≡ q.0 → p ≡ q
same_point p q e = ap (λ (n : ℕ). let r : PointId = record { 0 = n } in r) e

pub cut_from : (cuts : List PointId) (p : PointId) → is_cut cuts p ≡ true → Contains cuts p
cut_from [] p e = absurd (cc e)
cut_from (q ∷ cuts) p e = at (λ f. cut_from cuts p f) (q.0 == p.0) refl e
  where
    at : (is_cut cuts p ≡ true → Contains cuts p) → (here : Bool) → (q.0 == p.0) ≡ here → (here || is_cut cuts p) ≡ true → Contains (q ∷ cuts) p
    at rest true is e = subst (λ (r : PointId). Contains (q ∷ cuts) r) (same_point q p (eqb-true q.0 p.0 is)) (contains_first q cuts)
    at rest false is e = contains_behind p q cuts (rest e)

pub cut_to : (cuts : List PointId) (p : PointId) → Contains cuts p → is_cut cuts p ≡ true
cut_to [] p c = absurd (contains_nothing p c)
cut_to (q ∷ cuts) p c = elim (contained p q cuts c) [
  | inl e ↦ let same : (q.0 == p.0) ≡ true = eq-eqb q.0 p.0 (ap (λ (r : PointId). r.0) e) in ap (λ (here : Bool). here || is_cut cuts p) same
  | inr rest ↦ more (q.0 == p.0) (cut_to cuts p rest)
]
  where
    more : (here : Bool) → is_cut cuts p ≡ true → (here || is_cut cuts p) ≡ true
    more true e = refl
    more false e = e

pub heads_from_full : (flow : Flow) (cuts : List PointId) → has_all_heads flow cuts ≡ true → (p : PointId) → Contains flow.heads p → Contains cuts p
heads_from_full flow cuts e = each_contained (Contains cuts) flow.heads (each_from (is_cut cuts) (Contains cuts) (cut_from cuts) flow.heads e)

pub full_from_heads : (flow : Flow) (cuts : List PointId) → ((p : PointId) → Contains flow.heads p → Contains cuts p) → has_all_heads flow cuts ≡ true
full_from_heads flow cuts f = each_to (is_cut cuts) (Contains cuts) (cut_to cuts) flow.heads (all_contained (Contains cuts) flow.heads f)
