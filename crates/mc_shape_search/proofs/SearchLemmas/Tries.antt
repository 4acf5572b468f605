-- What is among the tries: exactly what meets the goals.
use Rattle.std.proofs.Common.{◌≡◌, ℕ, zero, suc, ◌+◌, ◌≤◌, List, [], ◌∷◌, ◌++◌, inl, inr, Bool, true, false, Option, Some, length, refl, ◌∙◌, ap, arith, length-append}
use Rattle.mc_shape_search.specs.Search.Search.{Space, tries, options, applies, ended}
use Rattle.mc_shape_search.specs.Search.Met.{IsIn, AreMetBy, IsMet, Leads}
use Rattle.mc_shape_search.proofs.SearchLemmas.Members.{in_flat_map, from_flat_map, in_filter, from_filter}

ended_with : {M : Type 0} (b : Bool) (log after : List M) → Some after ≡ ended b log → (after ≡ log) × (b ≡ true)
ended_with true log after e = (cc, refl)
ended_with false log after e = cc

ends_here : {M : Type 0} (b : Bool) (log after : List M) → after ≡ log → b ≡ true → Some after ≡ ended b log
ends_here true log after e t = ap (λ l. Some l) e
ends_here false log after e t = cc

pub length_more : {M : Type 0} (log : List M) (m : M) → length (log ++ m ∷ []) ≡ suc (length log)
length_more log m = length-append log (m ∷ []) ∙ omega arith

module _ {G M : Type 0} (w : Space G M) where
  -- the tries after one mark of a goal
  abbrev branch : ℕ → G → List G → List M → M → List (Option (List M))
  branch n g gs log m = tries w n (w.calls g m ++ gs) (log ++ m ∷ [])

  none_left : (log after : List M) → IsIn (Some after) (ended (w.ends log) log ∷ []) → (after ≡ log) × (w.ends log ≡ true)
  none_left log after (inl e) = ended_with (w.ends log) log after e
  none_left log after (inr h) = elim h [ ]

  -- what is tried leads from the goals to its marks
  pub leads_by_try : (n : ℕ) (gs : List G) (log after : List M) → IsIn (Some after) (tries w n gs log) → Leads w n gs log after
  unfolding tries options
  leads_by_try zero [] log after h = none_left log after h
  leads_by_try (suc n) [] log after h = none_left log after h
  leads_by_try zero (g ∷ gs) log after (inl e) = cc
  leads_by_try zero (g ∷ gs) log after (inr h) = elim h [ ]
  leads_by_try (suc n) (g ∷ gs) log after (inl e) = cc
  leads_by_try (suc n) (g ∷ gs) log after (inr h) =
      let r = from_flat_map (branch n g gs log) (options w g log) (Some after) h in
      let b = from_filter (applies w g log) r.0 (w.marks g) r.1 in
      (r.0, b.0, b.1, leads_by_try n (w.calls g r.0 ++ gs) (log ++ r.0 ∷ []) after r.2)

  -- and what leads there is tried
  pub try_by_leads : (n : ℕ) (gs : List G) (log after : List M) → Leads w n gs log after → IsIn (Some after) (tries w n gs log)
  unfolding tries options
  try_by_leads zero [] log after h = inl (ends_here (w.ends log) log after h.0 h.1)
  try_by_leads (suc n) [] log after h = inl (ends_here (w.ends log) log after h.0 h.1)
  try_by_leads zero (g ∷ gs) log after h = elim h [ ]
  try_by_leads (suc n) (g ∷ gs) log after (m, i, a, r) =
      inr (in_flat_map (branch n g gs log) m (options w g log) (Some after) (in_filter (applies w g log) m (w.marks g) i a) (try_by_leads n (w.calls g m ++ gs) (log ++ m ∷ []) after r))

  -- marks one after the other are no more than the limit
  pub leads_longer : (n : ℕ) (gs : List G) (log after : List M) → Leads w n gs log after → length log ≤ length after
  leads_longer zero [] log after h = let e : length after ≡ length log = ap length h.0 in omega arith
  leads_longer (suc n) [] log after h = let e : length after ≡ length log = ap length h.0 in omega arith
  leads_longer zero (g ∷ gs) log after h = elim h [ ]
  leads_longer (suc n) (g ∷ gs) log after (m, i, a, r) =
      let l = leads_longer n (w.calls g m ++ gs) (log ++ m ∷ []) after r in
      let e = length_more log m in
      omega arith

  -- any limit that their number keeps will do
  pub leads_within : (n limit : ℕ) (gs : List G) (log after : List M) → Leads w n gs log after → length after ≤ length log + limit → Leads w limit gs log after
  leads_within zero zero [] log after h l = h
  leads_within zero (suc limit) [] log after h l = h
  leads_within (suc n) zero [] log after h l = h
  leads_within (suc n) (suc limit) [] log after h l = h
  leads_within zero limit (g ∷ gs) log after h l = elim h [ ]
  leads_within (suc n) zero (g ∷ gs) log after (m, i, a, r) l =
      let far = leads_longer n (w.calls g m ++ gs) (log ++ m ∷ []) after r in
      let e = length_more log m in
      absurd (omega arith)
  leads_within (suc n) (suc limit) (g ∷ gs) log after (m, i, a, r) l =
      let e = length_more log m in
      (m, i, a, leads_within n limit (w.calls g m ++ gs) (log ++ m ∷ []) after r (omega arith))

  all_map : (S T : G → List M → List M → Type 0) → ((g : G) (l a : List M) → S g l a → T g l a) → (gs : List G) (log after : List M) → AreMetBy S gs log after → AreMetBy T gs log after
  all_map S T f [] log after h = h
  all_map S T f (g ∷ gs) log after (mid, h, r) = (mid, f g log mid h, all_map S T f gs mid after r)

  -- one more level
  pub met_more : (k : ℕ) (g : G) (log after : List M) → IsMet w k g log after → IsMet w (suc k) g log after
  met_more zero g log after h = elim h [ ]
  met_more (suc k) g log after (m, a, r) = (m, a, all_map (IsMet w k) (IsMet w (suc k)) (λ g l a. met_more k g l a) (w.calls g m) (log ++ m ∷ []) after r)

  all_split : (S : G → List M → List M → Type 0) (gs hs : List G) (log after : List M) → AreMetBy S (gs ++ hs) log after → (mid : List M) × AreMetBy S gs log mid × AreMetBy S hs mid after
  all_split S [] hs log after h = (log, refl, h)
  all_split S (g ∷ gs) hs log after (mid, h, r) = let s = all_split S gs hs mid after r in (s.0, (mid, h, s.1), s.2)

  -- marks that lead from goals meet them, and the search may end with them
  pub met_by_leads : (n : ℕ) (gs : List G) (log after : List M) → Leads w n gs log after → AreMetBy (IsMet w n) gs log after × (w.ends after ≡ true)
  met_by_leads zero [] log after h = (h.0, ap w.ends h.0 ∙ h.1)
  met_by_leads (suc n) [] log after h = (h.0, ap w.ends h.0 ∙ h.1)
  met_by_leads zero (g ∷ gs) log after h = elim h [ ]
  met_by_leads (suc n) (g ∷ gs) log after (m, i, a, r) =
      let both = met_by_leads n (w.calls g m ++ gs) (log ++ m ∷ []) after r in
      let s = all_split (IsMet w n) (w.calls g m) gs (log ++ m ∷ []) after both.0 in
      ((s.0, (m, a, s.1), all_map (IsMet w n) (IsMet w (suc n)) (λ g l a. met_more n g l a) gs s.0 after s.2), both.1)

  -- where the marks after these goals lead on, so do those of the goals
  abbrev pub LeadsOn : List G → List M → List M → Type 0
  LeadsOn gs log mid = (n : ℕ) (rest : List G) (after : List M) → Leads w n rest mid after → (k : ℕ) × Leads w k (gs ++ rest) log after

  -- a mark that applies leads on from its goal where it does from the goals that it leaves
  pub on_by_mark : (g : G) (log mid : List M) (m : M) → IsIn m (w.marks g) → applies w g log m ≡ true → LeadsOn (w.calls g m) (log ++ m ∷ []) mid → LeadsOn (g ∷ []) log mid
  on_by_mark g log mid m i a on n rest after l = let r = on n rest after l in (suc r.0, (m, i, a, r.1))

  pub on_none : (log : List M) → LeadsOn [] log log
  on_none log n rest after l = (n, l)

  pub on_both : (g : G) (gs : List G) (log mid last : List M) → LeadsOn (g ∷ []) log mid → LeadsOn gs mid last → LeadsOn (g ∷ gs) log last
  on_both g gs log mid last first rest n more after l = let r = rest n more after l in first r.0 (gs ++ more) after r.1

  -- a mark that applies is one of the goal's
  abbrev pub AreListed : Type 0
  AreListed = (g : G) (log : List M) (m : M) → applies w g log m ≡ true → IsIn m (w.marks g)

  all_on : (S : G → List M → List M → Type 0) → ((g : G) (log mid : List M) → S g log mid → LeadsOn (g ∷ []) log mid) → (gs : List G) (log mid : List M) → AreMetBy S gs log mid → LeadsOn gs log mid
  all_on S f [] log mid h = λ n rest after l. (n, rw h at l)
  all_on S f (g ∷ gs) log mid (one, h, r) = on_both g gs log one mid (f g log one h) (all_on S f gs one mid r)

  -- what meets a goal leads on from it
  pub on_by_met : AreListed → (k : ℕ) (g : G) (log mid : List M) → IsMet w k g log mid → LeadsOn (g ∷ []) log mid
  on_by_met listed zero g log mid h = elim h [ ]
  on_by_met listed (suc k) g log mid (m, a, r) =
      on_by_mark g log mid m (listed g log m a) a (all_on (IsMet w k) (λ g l a. on_by_met listed k g l a) (w.calls g m) (log ++ m ∷ []) mid r)
