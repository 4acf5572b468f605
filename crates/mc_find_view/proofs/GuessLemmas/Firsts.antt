-- The first edge that gives something, among edges that are not used.
use Rattle.std.proofs.Common.{◌≡◌, ◌<◌, ◌≤◌, ◌+◌, ℕ, zero, suc, List, [], ◌∷◌, ◌++◌, true, false, Option, Some, None, option_map, drop, get_or, length, refl, sym, ap, ◌∙◌, arith}
use Rattle.std.specs.Prelude.{not}
use Rattle.std.specs.List.{filter}
use Rattle.std.proofs.lemmas.List.{drop_more}
use Rattle.mc_base.specs.declared.ids.EdgeId.{EdgeId}
use Rattle.mc_state.specs.declared.graph.edge.Edge.{Edge}
use Rattle.mc_state.specs.Graph.Graph.{Edges, IdsAscend, without}
use Rattle.mc_state.specs.Named.{others, is_among}
use Rattle.mc_cover.specs.Guessed.{or_else, first_edge}
use Rattle.mc_cover.specs.Search.Setting.{is_unused}
use Rattle.mc_cover.proofs.SearchLemmas.Left.{others_are}

drop_none : {X : Type 0} (xs : List X) (i : ℕ) → length xs ≤ i → drop i xs ≡ []
drop_none [] zero l = refl
drop_none [] (suc i) l = refl
drop_none (x ∷ xs) zero l = absurd (omega arith)
drop_none (x ∷ xs) (suc i) l = drop_none xs i (omega arith)

pub others_push : (es : Edges) (used : List EdgeId) (id : EdgeId) → others es (used ++ id ∷ []) ≡ without (others es used) id
others_push es [] id = refl
others_push es (other ∷ used) id = others_push (without es other) used id

pub count_end : (used : List EdgeId) (es : Edges) (high i count : ℕ) → IdsAscend 0 es high → length es ≤ i → count + length (filter (is_unused used) (drop i es)) ≡ length (filter (is_unused used) es) → count ≡ length (others es used)
count_end used es high i count a l h =
    let none : length (filter (is_unused used) (drop i es)) ≡ 0 = ap (λ (z : Edges). length (filter (is_unused used) z)) (drop_none es i l) in
    let are : length (others es used) ≡ length (filter (is_unused used) es) = ap (λ (z : Edges). length z) (others_are es high used a) in
    omega arith

module _ {X : Type 0} (used : List EdgeId) (f : Edge → Option X) where
  -- of those that are not used
  abbrev pub first_free : Edges → Option (EdgeId × X)
  first_free es = first_edge f (filter (is_unused used) es)

  abbrev entry_of : EdgeId → Option X → Option (EdgeId × X)
  entry_of id o = option_map (λ x. (id, x)) o

  unused_first : (e : EdgeId × Edge) (es : Edges) → is_among e.0 used ≡ false → filter (is_unused used) (e ∷ es) ≡ e ∷ filter (is_unused used) es
  unused_first e es u = let t : is_unused used e ≡ true = ap not u in rw t refl

  pub free_first : (es : Edges) (i : ℕ) (e : EdgeId × Edge) (o : Option X) → i < length es → e ≡ get_or es i e → is_among e.0 used ≡ false
      → o ≡ f e.1 → first_free (drop i es) ≡ or_else (entry_of e.0 o) (first_free (drop (i + 1) es))
  free_first es i e o l item u is =
      ap (λ (z : Edges). first_free z) (drop_more es i e l ∙ ap (λ (z : EdgeId × Edge). z ∷ drop (i + 1) es) (sym item))
      ∙ (ap (λ (z : Edges). first_edge f z) (unused_first e (drop (i + 1) es) u)
      ∙ ap (λ (z : Option X). or_else (entry_of e.0 z) (first_free (drop (i + 1) es))) (sym is))

  pub free_none : (es : Edges) (high i : ℕ) → IdsAscend 0 es high → length es ≤ i → first_free es ≡ first_free (drop i es) → None ≡ first_edge f (others es used)
  free_none es high i a l h =
      sym (ap (λ (z : Edges). first_edge f z) (others_are es high used a) ∙ (h ∙ ap (λ (z : Edges). first_free z) (drop_none es i l)))

  pub free_some : (es : Edges) (high i : ℕ) (e : EdgeId × Edge) (x : X) → IdsAscend 0 es high → i < length es → e ≡ get_or es i e → is_among e.0 used ≡ false
      → Some x ≡ f e.1 → first_free es ≡ first_free (drop i es) → Some (e.0, x) ≡ first_edge f (others es used)
  free_some es high i e x a l item u is h =
      sym (ap (λ (z : Edges). first_edge f z) (others_are es high used a) ∙ (h ∙ free_first es i e (Some x) l item u is))
