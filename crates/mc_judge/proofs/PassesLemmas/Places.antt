-- Places of states among the states of cuts.
use Rattle.std.proofs.Common.{◌≡◌, ◌-◌, ◌<◌, ◌≤◌, ℕ, zero, suc, List, [], ◌∷◌, ◌++◌, true, false, None, length, map, take, drop, get_or, slice_get, nat_lt, nat_eq, refl, sym, ◌∙◌, ap, subst, append_assoc, arith}
use Rattle.std.specs.Prelude.{◌==◌, slice_set}
use Rattle.std.proofs.Math.Seq.{drop-cons}
use Rattle.std.proofs.lemmas.Bool.Decides.{nat_tests}
use Rattle.std.proofs.lemmas.List.{drop-map, length-map, map-append}
use Rattle.std.specs.Borrow.{Bor}
use Rattle.mc_base.specs.declared.ids.PointId.{PointId}
use Rattle.mc_check_line.specs.declared.branch.Head.{Head as HeadCode}
use Rattle.mc_check_line.specs.Judging.{head_of}
use Rattle.mc_kernel.specs.Branches.{Head, states_at}
use Rattle.mc_kernel.proofs.ReadingLemmas.Lists.{append_none}
use Rattle.mc_state.specs.State.{State}
use Rattle.mc_joins.specs.Chains.Opened.{with_state_at, with_state_for}
use Rattle.mc_replay.specs.Changes.{states_held}
use Rattle.mc_judge.specs.Passes.Places.{IsPlaceAt}

-- ---- tests

less : (a b : ℕ) → a < b → nat_lt a b ≡ true
less a b e = grind (arith, nat_tests)

not_less : (a b : ℕ) → b ≤ a → nat_lt a b ≡ false
not_less a b e = grind (arith, nat_tests)

same : (a b : ℕ) → a ≡ b → nat_eq a b ≡ true
same a b e = grind (arith, nat_tests)

differs : (a b : ℕ) → (a ≡ b → ⊥) → nat_eq a b ≡ false
differs a b e = grind (arith, nat_tests)

-- ---- a list, cut at a place

pub cut_here : (heads : List HeadCode) (i : ℕ) (x : HeadCode) → i < length heads → x ≡ get_or heads i x
    → drop i (map head_of heads) ≡ head_of x ∷ drop (suc i) (map head_of heads)
cut_here heads i x within is =
    drop-map head_of i heads
    ∙ ap (λ (hs : List HeadCode). map head_of hs) (drop-cons heads i x within ∙ ap (λ (y : HeadCode). y ∷ drop (suc i) heads) (sym is))
    ∙ ap (λ (hs : List Head). head_of x ∷ hs) (sym (drop-map head_of (suc i) heads))

pub none_left : (heads : List HeadCode) (i : ℕ) → length heads ≤ i → drop i (map head_of heads) ≡ []
none_left [] zero e = refl
none_left [] (suc i) e = refl
none_left (h ∷ heads) zero e = absurd (omega arith)
none_left (h ∷ heads) (suc i) e = none_left heads i (omega arith)

step : (hs : List Head) (i : ℕ) (h : Head) (rest tail : List Head) → drop i hs ≡ h ∷ rest → take i hs ++ h ∷ tail ≡ take (suc i) hs ++ tail
step [] zero h rest tail e = absurd (cc e)
step [] (suc i) h rest tail e = absurd (cc e)
step (x ∷ hs) zero h rest tail e = let is : x ≡ h = cc e in ap (λ (y : Head). y ∷ tail) (sym is)
step (x ∷ hs) (suc i) h rest tail e = ap (λ (ys : List Head). x ∷ ys) (step hs i h rest tail e)

set_here : (hs : List Head) (i : ℕ) (h new : Head) (rest : List Head) → drop i hs ≡ h ∷ rest → take i hs ++ new ∷ rest ≡ slice_set hs i new
set_here [] zero h new rest e = absurd (cc e)
set_here [] (suc i) h new rest e = absurd (cc e)
set_here (x ∷ hs) zero h new rest e = let is : hs ≡ rest = cc e in ap (λ (ys : List Head). new ∷ ys) (sym is)
set_here (x ∷ hs) (suc i) h new rest e = ap (λ (ys : List Head). x ∷ ys) (set_here hs i h new rest e)

-- ---- a state more at a point

-- it comes after those so far
pub record ComesAfter (heads : List HeadCode) (p : PointId) (i : ℕ) : Type 0 where
  pub puts : (s : State) → with_state_at p s (map head_of heads) ≡ take i (map head_of heads) ++ with_state_at p s (drop i (map head_of heads))

pub after_none : (heads : List HeadCode) (p : PointId) → ComesAfter heads p 0
after_none heads p = record { puts = λ s. refl }

later : (p : PointId) (s : State) (h : Head) (hs : List Head) → nat_lt p.0 h.0.0 ≡ false → with_state_at p s (h ∷ hs) ≡ h ∷ with_state_at p s hs
later p s h hs e = rw e refl

here : (p : PointId) (s : State) (h : Head) (hs : List Head) → nat_lt p.0 h.0.0 ≡ true → with_state_at p s (h ∷ hs) ≡ (p, s) ∷ h ∷ hs
here p s h hs e = rw e refl

pub after_one : (heads : List HeadCode) (p : PointId) (i : ℕ) (x : HeadCode) → i < length heads → x ≡ get_or heads i x
    → x.point.0 ≤ p.0 → ComesAfter heads p i → ComesAfter heads p (suc i)
after_one heads p i x within is e c =
    let hs = map head_of heads in
    let cut = cut_here heads i x within is in
    record {
      puts = λ s.
          c.puts s
          ∙ ap (λ (ys : List Head). take i hs ++ with_state_at p s ys) cut
          ∙ ap (λ (ys : List Head). take i hs ++ ys) (later p s (head_of x) (drop (suc i) hs) (not_less p.0 x.point.0 e))
          ∙ step hs i (head_of x) (drop (suc i) hs) (with_state_at p s (drop (suc i) hs)) cut;
    }

-- it comes here
pub comes_here : (heads : List HeadCode) (p : PointId) (i : ℕ) (x : HeadCode) → i < length heads → x ≡ get_or heads i x
    → p.0 < x.point.0 → ComesAfter heads p i → IsPlaceAt (map head_of heads) p i
comes_here heads p i x within is e c =
    let hs = map head_of heads in
    let cut = cut_here heads i x within is in
    let long : length hs ≡ length heads = length-map heads head_of in
    record {
      within = omega arith;
      puts = λ s.
          c.puts s
          ∙ ap (λ (ys : List Head). take i hs ++ with_state_at p s ys) cut
          ∙ ap (λ (ys : List Head). take i hs ++ ys) (here p s (head_of x) (drop (suc i) hs) (less p.0 x.point.0 e))
          ∙ ap (λ (ys : List Head). take i hs ++ (p, s) ∷ ys) (sym cut);
    }

-- or at the end
pub comes_last : (heads : List HeadCode) (p : PointId) (i : ℕ) → length heads ≡ i → ComesAfter heads p i → IsPlaceAt (map head_of heads) p i
comes_last heads p i e c =
    let hs = map head_of heads in
    let none = none_left heads i (omega arith) in
    let long : length hs ≡ length heads = length-map heads head_of in
    record {
      within = omega arith;
      puts = λ s.
          c.puts s
          ∙ ap (λ (ys : List Head). take i hs ++ with_state_at p s ys) none
          ∙ ap (λ (ys : List Head). take i hs ++ (p, s) ∷ ys) (sym none);
    }

-- ---- a state in place of another

-- so many states at the point are left before the one that is looked for
pub record IsLeft (heads : List HeadCode) (p : PointId) (number left i : ℕ) : Type 0 where
  pub puts : (s : State) → with_state_for p number s (map head_of heads)
      ≡ take i (map head_of heads) ++ with_state_for p left s (drop i (map head_of heads))
  pub there : slice_get (states_at p (map head_of heads)) number ≡ slice_get (states_at p (drop i (map head_of heads))) left

pub all_left : (heads : List HeadCode) (p : PointId) (number : ℕ) → IsLeft heads p number number 0
all_left heads p number = record { puts = λ s. refl; there = refl }

elsewhere : (p : PointId) (j : ℕ) (s : State) (h : Head) (hs : List Head) → (h.0.0 == p.0) ≡ false
    → with_state_for p j s (h ∷ hs) ≡ h ∷ with_state_for p j s hs
elsewhere p zero s h hs e = rw e refl
elsewhere p (suc j) s h hs e = rw e refl

not_at : (p : PointId) (h : Head) (hs : List Head) → (h.0.0 == p.0) ≡ false → states_at p (h ∷ hs) ≡ states_at p hs
not_at p h hs e = rw e refl

is_at : (p : PointId) (h : Head) (hs : List Head) → (h.0.0 == p.0) ≡ true → states_at p (h ∷ hs) ≡ h.1 ∷ states_at p hs
is_at p h hs e = rw e refl

found : (p : PointId) (s : State) (h : Head) (hs : List Head) → (h.0.0 == p.0) ≡ true → with_state_for p zero s (h ∷ hs) ≡ (p, s) ∷ hs
found p s h hs e = rw e refl

passed : (p : PointId) (j : ℕ) (s : State) (h : Head) (hs : List Head) → (h.0.0 == p.0) ≡ true
    → with_state_for p (suc j) s (h ∷ hs) ≡ h ∷ with_state_for p j s hs
passed p j s h hs e = rw e refl

pub left_on : (heads : List HeadCode) (p : PointId) (number left i : ℕ) (x : HeadCode) → i < length heads → x ≡ get_or heads i x
    → (x.point.0 ≡ p.0 → ⊥) → IsLeft heads p number left i → IsLeft heads p number left (suc i)
left_on heads p number left i x within is e l =
    let hs = map head_of heads in
    let cut = cut_here heads i x within is in
    record {
      puts = λ s.
          l.puts s
          ∙ ap (λ (ys : List Head). take i hs ++ with_state_for p left s ys) cut
          ∙ ap (λ (ys : List Head). take i hs ++ ys) (elsewhere p left s (head_of x) (drop (suc i) hs) (differs x.point.0 p.0 e))
          ∙ step hs i (head_of x) (drop (suc i) hs) (with_state_for p left s (drop (suc i) hs)) cut;
      there = l.there
          ∙ ap (λ (ys : List Head). slice_get (states_at p ys) left) cut
          ∙ ap (λ (ss : List State). slice_get ss left) (not_at p (head_of x) (drop (suc i) hs) (differs x.point.0 p.0 e));
    }

left_less : (heads : List HeadCode) (p : PointId) (number j i : ℕ) (x : HeadCode) → i < length heads → x ≡ get_or heads i x
    → x.point.0 ≡ p.0 → IsLeft heads p number (suc j) i → IsLeft heads p number j (suc i)
left_less heads p number j i x within is e l =
    let hs = map head_of heads in
    let cut = cut_here heads i x within is in
    record {
      puts = λ s.
          l.puts s
          ∙ ap (λ (ys : List Head). take i hs ++ with_state_for p (suc j) s ys) cut
          ∙ ap (λ (ys : List Head). take i hs ++ ys) (passed p j s (head_of x) (drop (suc i) hs) (same x.point.0 p.0 e))
          ∙ step hs i (head_of x) (drop (suc i) hs) (with_state_for p j s (drop (suc i) hs)) cut;
      there = l.there
          ∙ ap (λ (ys : List Head). slice_get (states_at p ys) (suc j)) cut
          ∙ ap (λ (ss : List State). slice_get ss (suc j)) (is_at p (head_of x) (drop (suc i) hs) (same x.point.0 p.0 e));
    }

pub left_down : (heads : List HeadCode) (p : PointId) (number left now i : ℕ) (x : HeadCode) → i < length heads → x ≡ get_or heads i x
    → x.point.0 ≡ p.0 → (left ≡ 0 → ⊥) → now ≡ left - 1 → IsLeft heads p number left i → IsLeft heads p number now (suc i)
left_down heads p number zero now i x within is e some down l = absurd (some refl)
left_down heads p number (suc j) now i x within is e some down l =
    let one : j ≡ now = omega arith in
    subst (λ (n : ℕ). IsLeft heads p number n (suc i)) one (left_less heads p number j i x within is e l)

pub left_here : (heads : List HeadCode) (p : PointId) (number i : ℕ) (x : HeadCode) → i < length heads → x ≡ get_or heads i x
    → x.point.0 ≡ p.0 → IsLeft heads p number 0 i
    → (i < length (map head_of heads)) × ((s : State) → with_state_for p number s (map head_of heads) ≡ slice_set (map head_of heads) i (p, s))
left_here heads p number i x within is e l =
    let hs = map head_of heads in
    let cut = cut_here heads i x within is in
    let long : length hs ≡ length heads = length-map heads head_of in (
      omega arith,
      λ s.
          l.puts s
          ∙ ap (λ (ys : List Head). take i hs ++ with_state_for p 0 s ys) cut
          ∙ ap (λ (ys : List Head). take i hs ++ ys) (found p s (head_of x) (drop (suc i) hs) (same x.point.0 p.0 e))
          ∙ set_here hs i (head_of x) (p, s) (drop (suc i) hs) cut,
    )

pub left_none : (heads : List HeadCode) (p : PointId) (number left i : ℕ) → length heads ≡ i → IsLeft heads p number left i
    → slice_get (states_at p (map head_of heads)) number ≡ None
left_none heads p number left i e l =
    l.there ∙ ap (λ (ys : List Head). slice_get (states_at p ys) left) (none_left heads i (omega arith))

-- ---- the states at a point

-- those so far, with the others after them, are all
abbrev pub AreSoFar : List HeadCode → PointId → List (Bor State) → ℕ → Type 0
AreSoFar heads p states i = states_held states ++ states_at p (drop i (map head_of heads)) ≡ states_at p (map head_of heads)

pub far_on : (heads : List HeadCode) (p : PointId) (states : List (Bor State)) (i : ℕ) (x : HeadCode) → i < length heads → x ≡ get_or heads i x
    → (x.point.0 ≡ p.0 → ⊥) → AreSoFar heads p states i → AreSoFar heads p states (suc i)
far_on heads p states i x within is e far =
    let cut = cut_here heads i x within is in
    ap (λ (ss : List State). states_held states ++ ss)
    (sym (ap (states_at p) cut ∙ not_at p (head_of x) (drop (suc i) (map head_of heads)) (differs x.point.0 p.0 e))) ∙ far

pub far_more : (heads : List HeadCode) (p : PointId) (states : List (Bor State)) (i : ℕ) (x : HeadCode) (s : Bor State) → i < length heads
    → x ≡ get_or heads i x → x.point.0 ≡ p.0 → s.now ≡ x.state → AreSoFar heads p states i → AreSoFar heads p (states ++ s ∷ []) (suc i)
far_more heads p states i x s within is e held far =
    let cut = cut_here heads i x within is in
    let rest = states_at p (drop (suc i) (map head_of heads)) in
    ap (λ (ss : List State). ss ++ rest) (map-append (λ (b : Bor State). b.now) states (s ∷ []))
    ∙ append_assoc (states_held states) (s.now ∷ []) rest
    ∙ ap (λ (t : State). states_held states ++ t ∷ rest) held
    ∙ ap (λ (ss : List State). states_held states ++ ss)
    (sym (ap (states_at p) cut ∙ is_at p (head_of x) (drop (suc i) (map head_of heads)) (same x.point.0 p.0 e))) ∙ far

pub far_all : (heads : List HeadCode) (p : PointId) (states : List (Bor State)) (i : ℕ) → length heads ≡ i → AreSoFar heads p states i
    → states_held states ≡ states_at p (map head_of heads)
far_all heads p states i e far =
    sym (append_none (states_held states)) ∙ ap (λ (ys : List Head). states_held states ++ states_at p ys) (sym (none_left heads i (omega arith))) ∙ far
