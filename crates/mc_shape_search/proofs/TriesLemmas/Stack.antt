-- The stack's tries do not change as the arena grows, nor with the log above them.
use Rattle.std.proofs.Common.{◌≡◌, ℕ, zero, suc, ◌+◌, ◌-◌, ◌<◌, ◌≤◌, ◌^◌, List, [], ◌∷◌, ◌++◌, true, false, Option, Some, None, length, take, refl, sym, ◌∙◌, ap, arith, length-append}
use Rattle.std.proofs.Math.Seq.{take-length}
use Rattle.std.proofs.lemmas.List.{length-take-le, take-append-le, take-take, append-nil}
use Rattle.std.specs.List.{filter, flat_map}
use Rattle.mc_shape_search.specs.declared.tries.Cell.{Cell}
use Rattle.mc_shape_search.specs.declared.tries.Pending.{Pending}
use Rattle.mc_shape_search.specs.Search.Search.{Space, tries, options, ended, first, first_try, is_free, applies}
use Rattle.mc_shape_search.proofs.TriesLemmas.Arena.{at_zero}
use Rattle.mc_shape_search.specs.Tries.Stack.{enough, goals_at, IsReady, IsStack, Grows, Pushes, tries_of_one, tries_of, branch}
use Rattle.mc_shape_search.specs.Tries.Thin.{Thins}
use Rattle.mc_shape_search.proofs.TriesLemmas.Thin.{thin_same}

-- what fits a word is less than any limit that is enough
pub within_limit : (n limit : ℕ) → n < 2 ^ 64 → enough ≤ limit → n < limit
unfolding enough
within_limit n limit h k = omega arith

pub within_enough : (n : ℕ) → n < 2 ^ 64 → n < enough
unfolding enough
within_enough n h = omega arith

-- where no goal is left
pub tries-done : {G M : Type 0} (w : Space G M) (n : ℕ) (gs : List G) (log : List M) → gs ≡ [] → tries w n gs log ≡ ended (w.ends log) log ∷ []
unfolding tries
tries-done w zero gs log e = rw e
tries-done w (suc n) gs log e = rw e

module _ (G M : Type 0) (takes : M → Option ℕ) where
  pub IsStack-grows : (log : List M) (m n h : ℕ) (ps : List (Pending M)) → m ≤ n → IsStack takes log m h ps → IsStack takes log n h ps
  IsStack-grows log m n h [] k s = tt
  IsStack-grows log m n h (p ∷ ps) k (a, b, r, s) = (omega arith, b, r, IsStack-grows log m n p.height ps k s)

  pub tries_of-cons : (w : Space G M) (limit : ℕ) (cs : List (Cell G)) (log : List M) (p : Pending M) (ps : List (Pending M)) → tries_of w limit cs log (p ∷ ps) ≡ tries_of_one w limit cs log p ++ tries_of w limit cs log ps
  unfolding tries_of
  tries_of-cons w limit cs log p ps = refl

  pub tries_of-grows : (w : Space G M) (limit : ℕ) (a b : List (Cell G)) (log : List M) (h : ℕ) (ps : List (Pending M)) → (old : List M) → Grows a b → IsStack takes old (length a) h ps → tries_of w limit b log ps ≡ tries_of w limit a log ps
  unfolding tries_of tries_of_one
  tries_of-grows w limit a b log h [] old g s = refl
  tries_of-grows w limit a b log h (p ∷ ps) old g (x, y, r, s) =
      rw (g.same p.goals x, tries_of-grows w limit a b log p.height ps old g s)

  pub tries_of-log : (w : Space G M) (limit : ℕ) (cs : List (Cell G)) (log more : List M) (n h : ℕ) (ps : List (Pending M)) → ((k : ℕ) → k ≤ h → take k more ≡ take k log) → IsStack takes log n h ps → tries_of w limit cs more ps ≡ tries_of w limit cs log ps
  unfolding tries_of tries_of_one
  tries_of-log w limit cs log more n h [] e s = refl
  tries_of-log w limit cs log more n h (p ∷ ps) e (x, y, r, s) =
      rw (e p.height y, tries_of-log w limit cs log more n p.height ps (λ k q. e k (omega arith)) s)

  pub IsStack-log : (log more : List M) (n h : ℕ) (ps : List (Pending M)) → ((k : ℕ) → k ≤ h → take k more ≡ take k log) → IsStack takes log n h ps → IsStack takes more n h ps
  IsStack-log log more n h [] e s = tt
  IsStack-log log more n h (p ∷ ps) e (x, y, r, s) =
      (x, y, ap (λ l. is_free takes l p.mark) (e p.height y) ∙ r, IsStack-log log more n p.height ps (λ k q. e k (omega arith)) s)

  -- a clause is pushed on the stack
  pub tries_of-push : (w : Space G M) (limit : ℕ) (log : List M) (g : G) (gs : List G) (m : M) (a b : List (Cell G)) (ps : List (Pending M)) (rest top : ℕ) → Pushes (w.calls g m) a b rest top → IsStack takes log (length a) (length log) ps → goals_at a rest ≡ gs → tries_of w limit b log (record { mark = m; goals = top; height = length log } ∷ ps) ≡ branch w (limit - suc (length log)) g gs log m ++ tries_of w limit a log ps
  tries_of-push w limit log g gs m a b ps rest top p s e =
      let one : tries_of_one w limit b log (record { mark = m; goals = top; height = length log }) ≡ branch w (limit - suc (length log)) g gs log m =
      unfold tries_of_one in rw (take-length log, p.goals, e) in
      tries_of-cons w limit b log (record { mark = m; goals = top; height = length log }) ps
      ∙ (ap (λ x. x ++ tries_of w limit b log ps) one ∙ ap (λ x. branch w (limit - suc (length log)) g gs log m ++ x) (tries_of-grows w limit a b log (length log) ps log p.grows s))

  pub IsStack-higher : (log : List M) (n h k : ℕ) (ps : List (Pending M)) → h ≤ k → IsStack takes log n h ps → IsStack takes log n k ps
  IsStack-higher log n h k [] e s = tt
  IsStack-higher log n h k (p ∷ ps) e (a, b, r, s) = (a, omega arith, r, s)

  -- the entry is there
  pub IsStack-push : (a b : List (Cell G)) (log : List M) (p : Pending M) (ps : List (Pending M)) → Grows a b → p.goals ≤ length b → p.height ≡ length log → is_free takes log p.mark ≡ true → IsStack takes log (length a) (length log) ps → IsStack takes log (length b) (length log) (p ∷ ps)
  IsStack-push a b log p ps g k e f s =
      let m : length a ≤ length b = g.more in
      (k, omega arith, ap (λ l. is_free takes l p.mark) (ap (λ n. take n log) e ∙ take-length log) ∙ f, rw e (IsStack-grows log (length a) (length b) (length log) ps m s))

  -- what is tried where the log is as long as it may be
  pub tries-full : (w : Space G M) (n : ℕ) (gs : List G) (g : G) (rest : List G) (log : List M) → n ≡ 0 → gs ≡ g ∷ rest → tries w n gs log ≡ None ∷ []
  unfolding tries
  tries-full w n gs g rest log e h = rw (e, h)

  -- and where it is not
  pub tries-more : (w : Space G M) (limit : ℕ) (gs : List G) (g : G) (rest : List G) (log : List M) → length log < limit → gs ≡ g ∷ rest → tries w (limit - length log) gs log ≡ None ∷ flat_map (branch w (limit - suc (length log)) g rest log) (filter (applies w g log) (w.marks g))
  unfolding tries options
  tries-more w limit gs g rest log h e =
      let n : limit - length log ≡ suc (limit - suc (length log)) = omega arith in
      rw (n, e)

  -- an entry is taken from the stack, and the log is cut to it
  pub record Popped (w : Space G M) (limit : ℕ) (cs : List (Cell G)) (log more : List M) (next : Pending M) (ps qs : List (Pending M)) : Type 0 where
    pub long : length more ≡ suc next.height
    pub stack : IsStack takes more (length cs) (length more) qs
    pub ready : IsReady takes log next
    pub within : next.goals ≤ length cs
    pub tried : tries_of w limit cs log ps ≡ tries w (limit - length more) (goals_at cs next.goals) more ++ tries_of w limit cs more qs

  pub popped : (w : Space G M) (limit : ℕ) (cs : List (Cell G)) (log more : List M) (next : Pending M) (ps qs : List (Pending M)) → ps ≡ next ∷ qs → IsStack takes log (length cs) (length log) ps → more ≡ take next.height log ++ next.mark ∷ [] → Popped w limit cs log more next ps qs
  unfolding tries_of_one
  popped w limit cs log more next ps qs e s m =
      let s2 : IsStack takes log (length cs) (length log) (next ∷ qs) = rw e at s in
      let h : next.height ≤ length log = s2.1 in
      let t : length (take next.height log) ≡ next.height = length-take-le next.height log h in
      let n : length more ≡ suc next.height = ap length m ∙ (length-append (take next.height log) (next.mark ∷ []) ∙ (let u : length (take next.height log) + 1 ≡ suc next.height = omega arith in u)) in
      let front : (k : ℕ) → k ≤ next.height → take k more ≡ take k log = λ k q.
      ap (take k) m ∙ (take-append-le k (take next.height log) (next.mark ∷ []) (omega arith) ∙ take-take k next.height log q) in
      record {
        long = n;
        stack = IsStack-higher more (length cs) next.height (length more) qs (omega arith) (IsStack-log log more (length cs) next.height qs front s2.3);
        ready = s2.2;
        within = s2.0;
        tried = ap (tries_of w limit cs log) e ∙ (tries_of-cons w limit cs log next qs ∙ rw (n, sym m, sym (tries_of-log w limit cs log more (length cs) next.height qs front s2.3)));
      }

  -- no goal is left: this is the first
  pub first-found : (w : Space G M) (limit : ℕ) (cs : List (Cell G)) (log more : List M) (next : Pending M) (ps qs : List (Pending M)) → Popped w limit cs log more next ps qs → next.goals ≡ 0 → w.ends more ≡ true → first (tries_of w limit cs log ps) ≡ Some more
  first-found w limit cs log more next ps qs p e t =
      let d : tries w (limit - length more) (goals_at cs next.goals) more ≡ Some more ∷ [] = tries-done w (limit - length more) (goals_at cs next.goals) more (ap (goals_at cs) e ∙ at_zero G cs) ∙ ap (λ b. ended b more ∷ []) t in
      ap first (p.tried ∙ ap (λ l. l ++ tries_of w limit cs more qs) d)

  -- no goal is left, but the log may not end the search
  pub not-ended : (w : Space G M) (limit : ℕ) (cs : List (Cell G)) (more : List M) (goals : ℕ) (qs : List (Pending M)) → goals ≡ 0 → w.ends more ≡ false → Thins (None ∷ tries_of w limit cs more qs) (tries w (limit - length more) (goals_at cs goals) more ++ tries_of w limit cs more qs)
  not-ended w limit cs more goals qs e t =
      let d : tries w (limit - length more) (goals_at cs goals) more ≡ None ∷ [] = tries-done w (limit - length more) (goals_at cs goals) more (ap (goals_at cs) e ∙ at_zero G cs) ∙ ap (λ b. ended b more ∷ []) t in
      thin_same (None ∷ tries_of w limit cs more qs) (tries w (limit - length more) (goals_at cs goals) more ++ tries_of w limit cs more qs) (ap (λ l. l ++ tries_of w limit cs more qs) (sym d))

  -- the goals of a new arena: the first alone
  pub first-started : (w : Space G M) (limit : ℕ) (g : G) (cells now : List (Cell G)) (top : ℕ) (log : List M) (none new : List (Pending M)) → none ≡ [] → log ≡ [] → Pushes (g ∷ []) [] cells 0 top
      → Thins (None ∷ tries_of w limit now log new) (tries w (limit - length log) (goals_at cells top) log ++ tries_of w limit cells log none) → first (tries_of w limit now log new) ≡ first_try w limit g
  unfolding tries_of
  first-started w limit g cells now top log none new n l p e =
      let z : limit - length log ≡ limit = (let q : length log ≡ 0 = ap length l in omega arith) in
      let gs : goals_at cells top ≡ g ∷ [] = p.goals in
      e.first ∙ (ap (λ x. first (tries w x (goals_at cells top) log ++ tries_of w limit cells log none)) z ∙ rw (gs, n, l, append-nil (tries w limit (g ∷ []) [])))

  -- and the rest is tried
  pub record Stepped (w : Space G M) (limit : ℕ) (now : List (Cell G)) (cs : List (Cell G)) (log more : List M) (ps rs : List (Pending M)) : Type 0 where
    pub same : first (tries_of w limit now more rs) ≡ first (tries_of w limit cs log ps)
    pub fewer : length (tries_of w limit now more rs) < length (tries_of w limit cs log ps)

  pub stepped : (w : Space G M) (limit : ℕ) (cs now : List (Cell G)) (log more : List M) (next : Pending M) (ps qs rs : List (Pending M)) → Popped w limit cs log more next ps qs
      → Thins (None ∷ tries_of w limit now more rs) (tries w (limit - length more) (goals_at cs next.goals) more ++ tries_of w limit cs more qs) → Stepped w limit now cs log more ps rs
  stepped w limit cs now log more next ps qs rs p e =
      let n : suc (length (tries_of w limit now more rs)) ≤ length (tries w (limit - length more) (goals_at cs next.goals) more ++ tries_of w limit cs more qs) = e.count in
      let k : length (tries_of w limit cs log ps) ≡ length (tries w (limit - length more) (goals_at cs next.goals) more ++ tries_of w limit cs more qs) = ap length p.tried in
      record { same = e.first ∙ sym (ap first p.tried); fewer = omega arith }

  -- nothing is left to try
  pub first-none : (w : Space G M) (limit : ℕ) (cs : List (Cell G)) (log : List M) (ps : List (Pending M)) → ps ≡ [] → first (tries_of w limit cs log ps) ≡ None
  unfolding tries_of
  first-none w limit cs log ps e = rw e
