-- The first summary among edges that are not used.
use Rattle.std.proofs.Common.{◌≡◌, ◌<◌, ◌≤◌, ◌+◌, ℕ, zero, suc, List, [], ◌∷◌, true, false, Option, Some, None, map, option_map, drop, get_or, length, refl, sym, ap, ◌∙◌, arith}
use Rattle.std.specs.Prelude.{not}
use Rattle.std.specs.List.{filter}
use Rattle.std.proofs.lemmas.List.{drop_more}
use Rattle.mc_base.specs.declared.ids.EdgeId.{EdgeId}
use Rattle.mc_base.specs.declared.ids.NodeId.{NodeId}
use Rattle.mc_base.specs.declared.ids.PredId.{PredId}
use Rattle.mc_state.specs.declared.graph.edge.Edge.{Edge}
use Rattle.mc_state.specs.Graph.Graph.{Edges, IdsAscend}
use Rattle.mc_state.specs.declared.terms.Term.{Term}
use Rattle.mc_state.specs.Terms.{plain}
use Rattle.mc_state.specs.Known.{Test}
use Rattle.mc_state.specs.Named.{others, is_among}
use Rattle.mc_cover.specs.Guessed.{or_else, summary_of, by_summary}
use Rattle.mc_cover.specs.Search.Setting.{is_unused}
use Rattle.mc_cover.proofs.SearchLemmas.Left.{others_are}

abbrev terms_by : Option (List NodeId) → Option (List Term)
terms_by args = option_map (λ (a : List NodeId). map plain a) args

drop_none : {X : Type 0} (xs : List X) (i : ℕ) → length xs ≤ i → drop i xs ≡ []
drop_none [] zero l = refl
drop_none [] (suc i) l = refl
drop_none (x ∷ xs) zero l = absurd (omega arith)
drop_none (x ∷ xs) (suc i) l = drop_none xs i (omega arith)

module _ (know : Test) (pred : PredId) (at : Term) (used : List EdgeId) where
  -- what the edges that are not used give
  abbrev pub by_free : Edges → Option (List Term)
  by_free es = by_summary know pred at (filter (is_unused used) es)

  free_first : (e : EdgeId × Edge) (es : Edges) → is_among e.0 used ≡ false → filter (is_unused used) (e ∷ es) ≡ e ∷ filter (is_unused used) es
  free_first e es u = let t : is_unused used e ≡ true = ap not u in rw t refl

  first_by : (e : EdgeId × Edge) (es : Edges) (s : Option (List NodeId)) → summary_of know pred at e.1 ≡ s → (o : Option (List Term)) → o ≡ terms_by s → by_summary know pred at (e ∷ es) ≡ or_else o (by_summary know pred at es)
  first_by e es None q o is = rw (q, is) refl
  first_by e es (Some args) q o is = rw (q, is) refl

  pub summary_first : (es : Edges) (i : ℕ) (e : EdgeId × Edge) (o : Option (List Term)) → i < length es → e ≡ get_or es i e → is_among e.0 used ≡ false
      → o ≡ terms_by (summary_of know pred at e.1) → by_free (drop i es) ≡ or_else o (by_free (drop (i + 1) es))
  summary_first es i e o l item u is =
      ap (λ (z : Edges). by_free z) (drop_more es i e l ∙ ap (λ (z : EdgeId × Edge). z ∷ drop (i + 1) es) (sym item))
      ∙ (ap (λ (z : Edges). by_summary know pred at z) (free_first e (drop (i + 1) es) u)
      ∙ first_by e (filter (is_unused used) (drop (i + 1) es)) (summary_of know pred at e.1) refl o is)

  pub summary_none : (es : Edges) (high i : ℕ) → IdsAscend 0 es high → length es ≤ i → by_free es ≡ by_free (drop i es) → None ≡ by_summary know pred at (others es used)
  summary_none es high i a l h =
      sym (ap (λ (z : Edges). by_summary know pred at z) (others_are es high used a) ∙ (h ∙ ap (λ (z : Edges). by_free z) (drop_none es i l)))

  pub summary_some : (es : Edges) (high i : ℕ) (e : EdgeId × Edge) (ts : List Term) → IdsAscend 0 es high → i < length es → e ≡ get_or es i e → is_among e.0 used ≡ false
      → Some ts ≡ terms_by (summary_of know pred at e.1) → by_free es ≡ by_free (drop i es) → Some ts ≡ by_summary know pred at (others es used)
  summary_some es high i e ts a l item u is h =
      sym (ap (λ (z : Edges). by_summary know pred at z) (others_are es high used a) ∙ (h ∙ summary_first es i e (Some ts) l item u is))
