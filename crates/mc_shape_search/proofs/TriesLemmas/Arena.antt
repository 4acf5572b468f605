-- The arena of goals: what a new cell adds, and what a pointer reads.
use Rattle.std.proofs.Common.{◌≡◌, ℕ, suc, ◌-◌, ◌≤◌, List, [], ◌∷◌, ◌++◌, false, nat_eq, length, reverse, get_or, refl, sym, eq-eqb, ◌∙◌, ap, arith, inl, inr, ◌<◌}
use Rattle.std.proofs.lemmas.Bool.{ne_eqb, cases_eq}
use Rattle.std.proofs.Math.Seq.{get_or-append_seam}
use Rattle.std.proofs.lemmas.Grind.{reverse_onto}
use Rattle.std.proofs.lemmas.List.{reverse-append, get_or_append_left, length-reverse, reverse-reverse}
use Rattle.mc_shape_search.specs.declared.tries.Cell.{Cell}
use Rattle.mc_shape_search.specs.Tries.Stack.{goals_at, IsArena, Grows, Pushes}

module _ (G : Type 0) where
  pub at_new : (c : Cell G) (cs : List (Cell G)) → goals_at (c ∷ cs) (suc (length cs)) ≡ c.goal ∷ goals_at cs c.next
  at_new c cs = rw (eq-eqb (suc (length cs)) (suc (length cs)) refl, goals_at)

  pub at_old : (c : Cell G) (cs : List (Cell G)) (p : ℕ) → p ≤ length cs → goals_at (c ∷ cs) p ≡ goals_at cs p
  at_old c cs p h = let e : nat_eq p (suc (length cs)) ≡ false = ne_eqb p (suc (length cs)) (λ q. omega (arith, q)) in rw (e, goals_at)

  pub Grows-refl : (cs : List (Cell G)) → IsArena cs → Grows cs cs
  Grows-refl cs a = record { arena = a; more = omega arith; same = λ p h. refl }

  pub Grows-trans : (a b c : List (Cell G)) → Grows a b → Grows b c → Grows a c
  Grows-trans a b c g h = record { arena = h.arena; more = (let m = g.more in let n = h.more in omega arith); same = λ p k. h.same p (let m = g.more in omega arith) ∙ g.same p k }

  pub Grows-cell : (c : Cell G) (cs : List (Cell G)) → IsArena cs → c.next ≤ length cs → Grows cs (c ∷ cs)
  Grows-cell c cs a h = record { arena = (h, a); more = omega arith; same = at_old c cs }

  -- nothing is pushed
  pub Pushes-none : (cs : List (Cell G)) (rest : ℕ) → IsArena cs → rest ≤ length cs → Pushes [] cs cs rest rest
  Pushes-none cs rest a h = record { grows = Grows-refl cs a; within = h; goals = refl }

  -- a goal is pushed
  pub Pushes-cell : (g : G) (cs : List (Cell G)) (rest : ℕ) → IsArena cs → rest ≤ length cs → Pushes (g ∷ []) cs (record { goal = g; next = rest } ∷ cs) rest (suc (length cs))
  Pushes-cell g cs rest a h =
      let c : Cell G = record { goal = g; next = rest } in
      record { grows = Grows-cell c cs a h; within = omega arith; goals = at_new c cs }

  -- one more goal is pushed before those that were
  pub Pushes-more : (g : G) (gs : List G) (a b c : List (Cell G)) (rest mid top : ℕ) → Pushes gs a b rest mid → Pushes (g ∷ []) b c mid top → Pushes (g ∷ gs) a c rest top
  Pushes-more g gs a b c rest mid top p q =
      record { grows = Grows-trans a b c p.grows q.grows; within = q.within; goals = q.goals ∙ ap (λ (x : List G). g ∷ x) p.goals }

  -- the same, as a `Vec` of cells has it after a push
  pub Pushes_push : (g : G) (xs : List (Cell G)) (rest n : ℕ) → IsArena (reverse xs) → rest ≤ length (reverse xs) → n ≡ length (xs ++ record { goal = g; next = rest } ∷ []) → Pushes (g ∷ []) (reverse xs) (reverse (xs ++ record { goal = g; next = rest } ∷ [])) rest n
  Pushes_push g xs rest n a h e =
      let c : Cell G = record { goal = g; next = rest } in
      let k : n ≡ suc (length (reverse xs)) = e ∙ (sym (length-reverse (xs ++ c ∷ [])) ∙ ap length (reverse-append xs (c ∷ []))) in
      rw (k, reverse-append xs (c ∷ [])) (Pushes-cell g (reverse xs) rest a h)

  -- no goals
  pub at_zero : (cs : List (Cell G)) → goals_at cs 0 ≡ []
  at_zero [] = refl
  at_zero (c ∷ cs) = at_old c cs 0 (omega arith) ∙ at_zero cs

  -- what a pointer reads
  pub read : (rs : List (Cell G)) → IsArena rs → (k : ℕ) (x : Cell G) → k < length rs → x ≡ get_or (reverse rs) k x → (goals_at rs (suc k) ≡ x.goal ∷ goals_at rs x.next) × (x.next ≤ length rs)
  read [] a k x h e = absurd (omega arith)
  read (c ∷ cs) a k x h e =
      let e2 : x ≡ get_or (reverse cs ++ c ∷ []) k x = e ∙ ap (λ (l : List (Cell G)). get_or l k x) (reverse_onto cs c []) in
      elim (cases_eq k (length cs)) as (λ _. (goals_at (c ∷ cs) (suc k) ≡ x.goal ∷ goals_at (c ∷ cs) x.next) × (x.next ≤ suc (length cs))) [
        | inl q ↦
            let e3 : x ≡ c = e2 ∙ (ap (λ n. get_or (reverse cs ++ c ∷ []) n x) (q ∙ sym (length-reverse cs)) ∙ get_or-append_seam (reverse cs) c [] x) in
            rw (e3, q) (at_new c cs ∙ ap (λ gs. c.goal ∷ gs) (sym (at_old c cs c.next a.0)), (let n : c.next ≤ length cs = a.0 in omega arith))
        | inr q ↦
            let k2 : k < length cs = omega arith in
            let e3 : x ≡ get_or (reverse cs) k x = e2 ∙ get_or_append_left (reverse cs) (c ∷ []) x k (rw (length-reverse cs) k2) in
            let r = read cs a.1 k x k2 e3 in
            (at_old c cs (suc k) (omega arith) ∙ (r.0 ∙ ap (λ gs. x.goal ∷ gs) (sym (at_old c cs x.next r.1))), (let n : x.next ≤ length cs = r.1 in omega arith))
      ]

  -- the same, as a `Vec` of cells has it
  pub read_cell : (items : List (Cell G)) (top : ℕ) (x : Cell G) → IsArena (reverse items) → 0 < top → top ≤ length (reverse items) → x ≡ get_or items (top - 1) x → (goals_at (reverse items) top ≡ x.goal ∷ goals_at (reverse items) x.next) × (x.next ≤ length (reverse items))
  read_cell items top x a p h e =
      let t : suc (top - 1) ≡ top = omega arith in
      let r = read (reverse items) a (top - 1) x (omega arith) (rw (reverse-reverse items) e) in
      (rw t at r.0, r.1)
