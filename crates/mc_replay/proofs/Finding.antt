-- Edges that are not used, and edges that a fold may use.
use Rattle.std.proofs.Common.{◌≡◌, ◌<◌, ◌≤◌, ◌+◌, ℕ, zero, suc, Bool, true, false, List, [], ◌∷◌, ◌++◌, Some, None, drop, get_or, length, refl, sym, ap, ◌∙◌, arith, eqb-true, eq-eqb}
use Rattle.std.specs.Prelude.{◌==◌, ◌&&◌, not, find, filter}
use Rattle.std.proofs.lemmas.List.{drop_more}
use Rattle.mc_base.specs.declared.ids.EdgeId.{EdgeId}
use Rattle.mc_state.specs.declared.graph.edge.Edge.{Edge}
use Rattle.mc_state.specs.Graph.Graph.{Edges, IdsAscend}
use Rattle.mc_state.specs.Named.{others, is_among}
use Rattle.mc_cover.specs.Marks.{ids_of}
use Rattle.mc_cover.specs.Search.Setting.{is_unused}
use Rattle.mc_cover.proofs.SearchLemmas.Left.{others_are, no_yes}

module _ (used : List EdgeId) (test : EdgeId × Edge → Bool) where
  -- it is not used, and passes the test
  abbrev pub both : EdgeId × Edge → Bool
  both e = not (is_among e.0 used) && test e

  find_filter : (es : Edges) → find both es ≡ find test (filter (is_unused used) es)
  find_filter [] = refl
  find_filter (e ∷ es) = at (is_among e.0 used) refl (test e) refl (find_filter es)
    where
      at : (u : Bool) → is_among e.0 used ≡ u → (t : Bool) → test e ≡ t → find both es ≡ find test (filter (is_unused used) es)
          → find both (e ∷ es) ≡ find test (filter (is_unused used) (e ∷ es))
      at true u t is rest = rw u rest
      at false u true is rest = rw (u, is) refl
      at false u false is rest = rw (u, is) rest

  pub free_found : (es : Edges) (high : ℕ) → IdsAscend 0 es high → find both es ≡ find test (others es used)
  free_found es high a = find_filter es ∙ ap (λ (z : Edges). find test z) (sym (others_are es high used a))

  filter_filter : (es : Edges) → filter both es ≡ filter test (filter (is_unused used) es)
  filter_filter [] = refl
  filter_filter (e ∷ es) = at (is_among e.0 used) refl (test e) refl (filter_filter es)
    where
      at : (u : Bool) → is_among e.0 used ≡ u → (t : Bool) → test e ≡ t → filter both es ≡ filter test (filter (is_unused used) es)
          → filter both (e ∷ es) ≡ filter test (filter (is_unused used) (e ∷ es))
      at true u t is rest = rw u rest
      at false u true is rest = rw (u, is) (ap (λ (z : Edges). e ∷ z) rest)
      at false u false is rest = rw (u, is) rest

-- an id below all others is not among them
not_later : (test : EdgeId × Edge → Bool) (id : EdgeId) (low : ℕ) (es : Edges) (high : ℕ) → id.0 < low → IdsAscend low es high → is_among id (ids_of (filter test es)) ≡ false
not_later test id low [] high l a = refl
not_later test id low (e ∷ es) high l a =
    let from = a.0 in
    at (test e) refl (not_later test id (suc e.0.0) es high (omega arith) a.2)
    (no_yes (e.0.0 == id.0) (λ t. let same = eqb-true e.0.0 id.0 t in omega arith))
  where
    at : (t : Bool) → test e ≡ t → is_among id (ids_of (filter test es)) ≡ false → (e.0.0 == id.0) ≡ false → is_among id (ids_of (filter test (e ∷ es))) ≡ false
    at true is rest differ = rw (is, differ) rest
    at false is rest differ = rw is rest

-- nor does it count among edges of greater ids
one_less : (id : EdgeId) (ids : List EdgeId) (low : ℕ) (es : Edges) (high : ℕ) → id.0 < low → IdsAscend low es high
    → filter (is_unused (id ∷ ids)) es ≡ filter (is_unused ids) es
one_less id ids low [] high l a = refl
one_less id ids low (e ∷ es) high l a =
    let from = a.0 in
    at (is_among e.0 ids) refl (one_less id ids (suc e.0.0) es high (omega arith) a.2)
    (no_yes (id.0 == e.0.0) (λ t. let same = eqb-true id.0 e.0.0 t in omega arith))
  where
    at : (u : Bool) → is_among e.0 ids ≡ u → filter (is_unused (id ∷ ids)) es ≡ filter (is_unused ids) es → (id.0 == e.0.0) ≡ false
        → filter (is_unused (id ∷ ids)) (e ∷ es) ≡ filter (is_unused ids) (e ∷ es)
    at true is rest differ = rw (differ, is) rest
    at false is rest differ = rw (differ, is) (ap (λ (z : Edges). e ∷ z) rest)

module _ (test : EdgeId × Edge → Bool) where
  -- those that fail the test
  abbrev pub failing : EdgeId × Edge → Bool
  failing e = not (test e)

  left_over : (low : ℕ) (es : Edges) (high : ℕ) → IdsAscend low es high → filter (is_unused (ids_of (filter failing es))) es ≡ filter test es
  left_over low [] high a = refl
  left_over low (e ∷ es) high a =
      at (test e) refl (left_over (suc e.0.0) es high a.2) (not_later failing e.0 (suc e.0.0) es high (omega arith) a.2)
      (one_less e.0 (ids_of (filter failing es)) (suc e.0.0) es high (omega arith) a.2) (eq-eqb e.0.0 e.0.0 refl)
    where
      stays : (ids : List EdgeId) → is_among e.0 ids ≡ false → filter (is_unused ids) (e ∷ es) ≡ e ∷ filter (is_unused ids) es
      stays ids is = rw is refl

      goes : (ids : List EdgeId) → is_among e.0 ids ≡ true → filter (is_unused ids) (e ∷ es) ≡ filter (is_unused ids) es
      goes ids is = rw is refl

      first : (id : EdgeId) (ids : List EdgeId) → (id.0 == e.0.0) ≡ true → is_among e.0 (id ∷ ids) ≡ true
      first id ids is = rw is refl

      passes : test e ≡ true → (ids_of (filter failing (e ∷ es)) ≡ ids_of (filter failing es)) × (filter test (e ∷ es) ≡ e ∷ filter test es)
      passes is = (rw is refl, rw is refl)

      fails : test e ≡ false → (ids_of (filter failing (e ∷ es)) ≡ e.0 ∷ ids_of (filter failing es)) × (filter test (e ∷ es) ≡ filter test es)
      fails is = (rw is refl, rw is refl)

      at : (t : Bool) → test e ≡ t → filter (is_unused (ids_of (filter failing es))) es ≡ filter test es → is_among e.0 (ids_of (filter failing es)) ≡ false
          → filter (is_unused (e.0 ∷ ids_of (filter failing es))) es ≡ filter (is_unused (ids_of (filter failing es))) es → (e.0.0 == e.0.0) ≡ true
          → filter (is_unused (ids_of (filter failing (e ∷ es)))) (e ∷ es) ≡ filter test (e ∷ es)
      at true is rest later less own =
          let p = passes is in
          ap (λ (ids : List EdgeId). filter (is_unused ids) (e ∷ es)) p.0 ∙ (stays (ids_of (filter failing es)) later ∙ (ap (λ (z : Edges). e ∷ z) rest ∙ sym p.1))
      at false is rest later less own =
          let p = fails is in
          ap (λ (ids : List EdgeId). filter (is_unused ids) (e ∷ es)) p.0
          ∙ (goes (e.0 ∷ ids_of (filter failing es)) (first e.0 (ids_of (filter failing es)) own) ∙ (less ∙ (rest ∙ sym p.1)))

  -- without the failing edges the others are left
  pub only_passing : (es : Edges) (high : ℕ) → IdsAscend 0 es high → others es (ids_of (filter failing es)) ≡ filter test es
  only_passing es high a = others_are es high (ids_of (filter failing es)) a ∙ left_over 0 es high a

-- of the edges that are not used, those that pass a test are left
pub foldable : (used : List EdgeId) (test : EdgeId × Edge → Bool) (es : Edges) (high : ℕ) → IdsAscend 0 es high
    → others es (ids_of (filter (failing (both used test)) es)) ≡ filter test (others es used)
foldable used test es high a =
    only_passing (both used test) es high a ∙ (filter_filter used test es ∙ ap (λ (z : Edges). filter test z) (sym (others_are es high used a)))

pub ids_push : (test : EdgeId × Edge → Bool) (es : Edges) (e : EdgeId × Edge) → ids_of (filter test (es ++ e ∷ [])) ≡ ids_of (filter test es) ++ ids_of (filter test (e ∷ []))
ids_push test [] e = refl
ids_push test (x ∷ es) e = at (test x) refl (ids_push test es e)
  where
    at : (t : Bool) → test x ≡ t → ids_of (filter test (es ++ e ∷ [])) ≡ ids_of (filter test es) ++ ids_of (filter test (e ∷ []))
        → ids_of (filter test (x ∷ (es ++ e ∷ []))) ≡ ids_of (filter test (x ∷ es)) ++ ids_of (filter test (e ∷ []))
    at true is rest = rw is (ap (λ (z : List EdgeId). x.0 ∷ z) rest)
    at false is rest = rw is rest

-- ---- a list that is gone through

pub drop_none : {X : Type 0} (xs : List X) (i : ℕ) → length xs ≤ i → drop i xs ≡ []
drop_none [] zero l = refl
drop_none [] (suc i) l = refl
drop_none (x ∷ xs) zero l = absurd (omega arith)
drop_none (x ∷ xs) (suc i) l = drop_none xs i (omega arith)

module _ {X : Type 0} (test : X → Bool) (xs : List X) (i : ℕ) where
  pub find_next : (x : X) → i < length xs → test (get_or xs i x) ≡ false → find test (drop i xs) ≡ find test (drop (i + 1) xs)
  find_next x l is = ap (λ (z : List X). find test z) (drop_more xs i x l) ∙ rw is refl

  pub find_here : (x : X) → i < length xs → test (get_or xs i x) ≡ true → find test (drop i xs) ≡ Some (get_or xs i x)
  find_here x l is = ap (λ (z : List X). find test z) (drop_more xs i x l) ∙ rw is refl

  pub find_end : length xs ≤ i → find test (drop i xs) ≡ None
  find_end l = ap (λ (z : List X). find test z) (drop_none xs i l)
