-- Lists side by side, past the end of one.
use Rattle.std.proofs.Common.{◌≡◌, ◌<◌, ◌≤◌, ◌+◌, ◌++◌, ℕ, List, [], ◌∷◌, Option, drop, get_or, length, map, refl, sym, ap, ap₂, subst, ◌∙◌}
use Rattle.std.proofs.lemmas.List.{drop_more}
use Rattle.std.specs.Prelude.{zip}
use Rattle.std.specs.List.{AllByRecursion}
use Rattle.mc_base.specs.declared.ids.NodeId.{NodeId}
use Rattle.mc_state.specs.declared.line.Side.{Side}
use Rattle.mc_state.specs.declared.terms.Term.{Term}
use Rattle.mc_pure_ops.specs.Join.Joint.{Pairs}
use Rattle.mc_joins.specs.Joinings.{known_both}
use Rattle.mc_joins.specs.Parts.{with_partners}
use Rattle.mc_replay.proofs.Finding.{drop_none}

zip_none : {X Y : Type 0} (xs : List X) → zip {K = X} {X = Y} xs [] ≡ []
zip_none [] = refl
zip_none (x ∷ xs) = refl

pub zip_past : {X Y : Type 0} (xs : List X) (ys : List Y) (i : ℕ) → length ys ≤ i → zip (drop i xs) (drop i ys) ≡ []
zip_past {X = X} {Y = Y} xs ys i l = ap (λ (z : List Y). zip (drop i xs) z) (drop_none ys i l) ∙ zip_none (drop i xs)

known_none : (xs : List (Option NodeId)) → known_both xs [] ≡ []
known_none [] = refl
known_none (x ∷ xs) = refl

pub known_past : (xs ys : List (Option NodeId)) (i : ℕ) → length ys ≤ i → known_both (drop i xs) (drop i ys) ≡ []
known_past xs ys i l = ap (λ (z : List (Option NodeId)). known_both (drop i xs) z) (drop_none ys i l) ∙ known_none (drop i xs)

partners_none : (pairs : Pairs) (side : Side) (ns : List NodeId) → with_partners pairs side ns [] ≡ []
partners_none pairs side [] = refl
partners_none pairs side (n ∷ ns) = refl

pub partners_past : (pairs : Pairs) (side : Side) (ns : List NodeId) (ts : List Term) (i : ℕ) → length ts ≤ i → with_partners pairs side (drop i ns) (drop i ts) ≡ []
partners_past pairs side ns ts i l = ap (λ (z : List Term). with_partners pairs side (drop i ns) z) (drop_none ts i l) ∙ partners_none pairs side (drop i ns)

-- ---- one place more

shift : {X : Type 0} (xs : List X) (x : X) (ys : List X) → xs ++ (x ∷ ys) ≡ (xs ++ x ∷ []) ++ ys
shift [] x ys = refl
shift {X = X} (z ∷ xs) x ys = ap (λ (r : List X). z ∷ r) (shift xs x ys)

module _ (f : NodeId → NodeId → NodeId) (ls rs : List NodeId) (i : ℕ) (l r : NodeId) where
  abbrev by_pair : NodeId × NodeId → NodeId
  by_pair p = f p.0 p.1

  pub zip_more : (whole ns more : List NodeId) (n : NodeId) → i < length ls → i < length rs → r ≡ get_or rs i r → n ≡ f (get_or ls i l) r → more ≡ ns ++ n ∷ []
      → whole ≡ ns ++ map by_pair (zip (drop i ls) (drop i rs)) → whole ≡ more ++ map by_pair (zip (drop (i + 1) ls) (drop (i + 1) rs))
  zip_more whole ns more n below within other is all h =
      let rest : List NodeId = map by_pair (zip (drop (i + 1) ls) (drop (i + 1) rs)) in
      h
      ∙ (ap₂ (λ (x y : List NodeId). ns ++ map by_pair (zip x y)) (drop_more ls i l below) (drop_more rs i r within)
      ∙ (shift ns (f (get_or ls i l) (get_or rs i r)) rest
      ∙ ap (λ (z : List NodeId). z ++ rest) (sym (all ∙ ap (λ (z : NodeId). ns ++ z ∷ []) (is ∙ ap (λ (z : NodeId). f (get_or ls i l) z) other)))))

-- ---- what holds of each

module _ {X : Type 0} (P : X → Type 0) (xs : List X) (i : ℕ) where
  pub all_more : (x : X) → i < length xs → P (get_or xs i x) → (AllByRecursion P (drop i xs) → AllByRecursion P xs) → AllByRecursion P (drop (i + 1) xs) → AllByRecursion P xs
  all_more x l here before rest = before (subst (λ (z : List X). AllByRecursion P z) (sym (drop_more xs i x l)) (here, rest))

  pub all_end : length xs ≤ i → (AllByRecursion P (drop i xs) → AllByRecursion P xs) → AllByRecursion P xs
  all_end l before = before (subst (λ (z : List X). AllByRecursion P z) (sym (drop_none xs i l)) tt)
