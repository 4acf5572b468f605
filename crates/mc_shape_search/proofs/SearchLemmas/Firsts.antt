-- The first try that meets a goal.
use Rattle.std.proofs.Common.{◌≡◌, ℕ, suc, ◌*◌, ◌≤◌, List, [], ◌∷◌, inl, inr, true, Option, Some, None, length, refl, sym, subst, arith}
use Rattle.mc_shape_search.specs.Search.Search.{Space, tries, first, first_try}
use Rattle.mc_shape_search.specs.Search.Met.{IsIn, IsMet, Leads, AllLeaveFew}
use Rattle.mc_shape_search.proofs.SearchLemmas.Bound.{bound}
use Rattle.mc_shape_search.proofs.SearchLemmas.Tries.{leads_by_try, try_by_leads, leads_within, met_by_leads, LeadsOn}

pub first_in : {X : Type 0} (xs : List (Option X)) (x : X) → first xs ≡ Some x → IsIn (Some x) xs
first_in [] x e = cc
first_in (None ∷ xs) x e = inr (first_in xs x e)
first_in (Some y ∷ xs) x e = inl (sym e)

pub first_out : {X : Type 0} (xs : List (Option X)) (x : X) → first xs ≡ None → IsIn (Some x) xs → ⊥
first_out [] x e h = elim h [ ]
first_out (None ∷ xs) x e (inl h) = cc
first_out (None ∷ xs) x e (inr h) = first_out xs x e h
first_out (Some y ∷ xs) x e h = cc

module _ {G M : Type 0} (w : Space G M) where
  -- the marks of the first try lead from the goal
  pub first_leads : (limit : ℕ) (g : G) (log : List M) → first_try w limit g ≡ Some log → Leads w limit (g ∷ []) [] log
  first_leads limit g log e = leads_by_try w limit (g ∷ []) [] log (first_in (tries w limit (g ∷ []) []) log e)

  -- the first try meets the goal, and the search may end with it
  pub first_meets : (limit : ℕ) (g : G) (log : List M) → first_try w limit g ≡ Some log → IsMet w limit g [] log × (w.ends log ≡ true)
  first_meets limit g log e =
      let m = met_by_leads w limit (g ∷ []) [] log (first_leads limit g log e) in
      (subst (λ after. IsMet w limit g [] after) (sym m.0.2) m.0.1, m.1)

  -- where no try meets the goal, no marks lead from it, where the limit leaves room for all that may be taken
  pub none_leads : (most limit : ℕ) (ids : List ℕ) → AllLeaveFew w most ids → suc (most * length ids) ≤ limit → (g : G) → first_try w limit g ≡ None → (n : ℕ) (after : List M) → Leads w n (g ∷ []) [] after → ⊥
  none_leads most limit ids few room g e n after l =
      let short = bound w most ids few n g after l in
      let within : Leads w limit (g ∷ []) [] after = leads_within w n limit (g ∷ []) [] after l (omega arith) in
      first_out (tries w limit (g ∷ []) []) after e (try_by_leads w limit (g ∷ []) [] after within)

  -- nor does any log lead on to an end
  pub none_on : (most limit : ℕ) (ids : List ℕ) → AllLeaveFew w most ids → suc (most * length ids) ≤ limit → (g : G) → first_try w limit g ≡ None → (last : List M) → w.ends last ≡ true → LeadsOn w (g ∷ []) [] last → ⊥
  none_on most limit ids few room g e last t on =
      let r = on 0 [] last (refl, t) in
      none_leads most limit ids few room g e r.0 last r.1
