-- The places of what was taken tell which numbers are used.
use Rattle.std.proofs.Common.{◌≡◌, ℕ, zero, suc, List, [], ◌∷◌, ◌++◌, ◌||◌, ◌⊎◌, inl, inr, Option, Some, None, Bool, true, false, not, length, take, slice_get, refl, sym, ◌∙◌, ap}
use Rattle.std.proofs.lemmas.Bool.{eqb-true}
use Rattle.mc_shape_search.specs.Search.Search.{takes_this, uses, is_unused, is_free}
use Rattle.mc_shape_search.specs.Tries.Times.{HasTimes, SetsPlace}

or_right : (a b : Bool) → b ≡ true → (a || b) ≡ true
or_right true b h = refl
or_right false b h = h

bool_cases : (b : Bool) → (b ≡ true) ⊎ (b ≡ false)
bool_cases true = inl refl
bool_cases false = inr refl

not_true : (b : Bool) → not b ≡ true → b ≡ false
not_true true h = cc
not_true false h = refl

module _ (M : Type 0) (takes : M → Option ℕ) where
  uses_at : (log : List M) (i id : ℕ) (m : M) → slice_get log i ≡ Some m → takes_this (takes m) id ≡ true → uses takes log id ≡ true
  uses_at [] i id m h t = cc
  uses_at (x ∷ log) zero id m h t = let e : x ≡ m = cc in rw (e, t)
  uses_at (x ∷ log) (suc i) id m h t = or_right (takes_this (takes x) id) (uses takes log id) (uses_at log i id m h t)

  uses_some : (log : List M) (id : ℕ) → uses takes log id ≡ true → (i : ℕ) × (m : M) × (slice_get log i ≡ Some m) × (takes_this (takes m) id ≡ true)
  uses_some [] id h = cc
  uses_some (x ∷ log) id h =
      elim (bool_cases (takes_this (takes x) id)) [
        | inl t ↦ (0, x, refl, t)
        | inr f ↦ (let r = uses_some log id (rw f at h) in (suc r.0, r.1, r.2, r.3))
      ]

  -- a number without a place is not used
  pub not_used : (log : List M) (times : ℕ → Option ℕ) (id : ℕ) → HasTimes takes log times → times id ≡ None → false ≡ uses takes log id
  not_used log times id t n =
      elim (bool_cases (uses takes log id)) [
        | inl u ↦ (let r = uses_some log id u in let s = t.time r.0 id r.1 r.2 r.3 in cc)
        | inr f ↦ sym f
      ]

  -- nor is one whose place is past the log
  pub used_past : (log : List M) (times : ℕ → Option ℕ) (id k : ℕ) → HasTimes takes log times → times id ≡ Some k → slice_get log k ≡ None → false ≡ uses takes log id
  used_past log times id k t n p =
      elim (bool_cases (uses takes log id)) [
        | inl u ↦ (
            let r = uses_some log id u in
            let s = t.time r.0 id r.1 r.2 r.3 in
            let e : k ≡ r.0 = cc in
            let q : slice_get log k ≡ Some r.1 = ap (slice_get log) e ∙ r.2 in
            cc)
        | inr f ↦ sym f
      ]

  -- another is used where the mark at its place takes it
  pub used_at : (log : List M) (times : ℕ → Option ℕ) (id k : ℕ) (m : M) → HasTimes takes log times → times id ≡ Some k → slice_get log k ≡ Some m → takes_this (takes m) id ≡ uses takes log id
  used_at log times id k m t at p =
      elim (bool_cases (uses takes log id)) [
        | inl u ↦ (
            let r = uses_some log id u in
            let s = t.time r.0 id r.1 r.2 r.3 in
            let e : k ≡ r.0 = cc in
            let q : slice_get log k ≡ Some r.1 = ap (slice_get log) e ∙ r.2 in
            let same : m ≡ r.1 = cc in
            ap (λ x. takes_this (takes x) id) same ∙ (r.3 ∙ sym u))
        | inr f ↦ elim (bool_cases (takes_this (takes m) id)) [
          | inl y ↦ (let u = uses_at log k id m p y in cc)
          | inr n ↦ n ∙ sym f
        ]
      ]

  get_front : (log : List M) (h i : ℕ) (m : M) → slice_get (take h log) i ≡ Some m → slice_get log i ≡ Some m
  get_front [] zero i m e = cc
  get_front [] (suc h) i m e = cc
  get_front (x ∷ log) zero i m e = cc
  get_front (x ∷ log) (suc h) zero m e = e
  get_front (x ∷ log) (suc h) (suc i) m e = get_front log h i m e

  -- the front of a log
  HasTimes-take : (log : List M) (times : ℕ → Option ℕ) (h : ℕ) → HasTimes takes log times → HasTimes takes (take h log) times
  HasTimes-take log times h t = record { time = λ i id m e k. t.time i id m (get_front log h i m e) k }

  -- what stands in a log with one mark more
  get_more : (front : List M) (m x : M) (i : ℕ) → slice_get (front ++ m ∷ []) i ≡ Some x → (slice_get front i ≡ Some x) ⊎ ((i ≡ length front) × (x ≡ m))
  get_more [] m x zero e = inr (refl, cc)
  get_more [] m x (suc i) e = cc
  get_more (y ∷ front) m x zero e = inl e
  get_more (y ∷ front) m x (suc i) e = elim (get_more front m x i e) [ inl h ↦ inl h | inr h ↦ inr (ap suc h.0, h.1) ]

  -- a mark that takes nothing
  plain : (front : List M) (times : ℕ → Option ℕ) (m : M) → takes m ≡ None → HasTimes takes front times → HasTimes takes (front ++ m ∷ []) times
  plain front times m f t =
      record {
        time = λ i id x e k. elim (get_more front m x i e) [
          | inl h ↦ t.time i id x h k
          | inr h ↦ (let q : takes x ≡ None = ap takes h.1 ∙ f in let z : takes_this (takes x) id ≡ false = ap (λ o. takes_this o id) q in cc)
        ];
      }

  -- a mark that takes one
  taking : (front : List M) (times new : ℕ → Option ℕ) (m : M) (own : ℕ) → takes m ≡ Some own → uses takes front own ≡ false → (new own ≡ Some (length front)) → ((id : ℕ) → (id ≡ own → ⊥) → new id ≡ times id) → HasTimes takes front times → HasTimes takes (front ++ m ∷ []) new
  taking front times new m own f u here others t =
      record {
        time = λ i id x e k. elim (get_more front m x i e) [
          | inl h ↦ (
              let other : id ≡ own → ⊥ = λ z. (let v : uses takes front id ≡ true = uses_at front i id x h k in let w : uses takes front id ≡ false = ap (uses takes front) z ∙ u in cc) in
              others id other ∙ t.time i id x h k)
          | inr h ↦ (
              let q : takes x ≡ Some own = ap takes h.1 ∙ f in
              let y : takes_this (Some own) id ≡ true = sym (ap (λ o. takes_this o id) q) ∙ k in
              let z : own ≡ id = eqb-true own id y in
              ap new (sym z) ∙ (here ∙ ap Some (sym h.0)))
        ];
      }

  one_more : (front : List M) (times new : ℕ → Option ℕ) (m : M) (o : Option ℕ) → takes m ≡ o → is_unused takes front o ≡ true → SetsPlace o (length front) times new → HasTimes takes front times → HasTimes takes (front ++ m ∷ []) new
  one_more front times new m None q f s t = plain front new m q (record { time = λ i id x e k. s id ∙ t.time i id x e k })
  one_more front times new m (Some own) q f s t = taking front times new m own q (not_true (uses takes front own) f) s.0 s.1 t

  -- a log that is cut, with one mark more
  pub cut_more : (log cut more : List M) (times new : ℕ → Option ℕ) (h n : ℕ) (m : M) (o : Option ℕ) → HasTimes takes log times → is_free takes (take h log) m ≡ true → cut ≡ take h log → more ≡ cut ++ m ∷ [] → o ≡ takes m → n ≡ length cut → SetsPlace o n times new → HasTimes takes more new
  cut_more log cut more times new h n m o t f c e q l s =
      let at : SetsPlace (takes m) (length (take h log)) times new = rw (sym q, sym (ap length c), sym l) s in
      rw (e, c) (one_more (take h log) times new m (takes m) refl f at (HasTimes-take log times h t))

  pub HasTimes-none : (log : List M) (times : ℕ → Option ℕ) → log ≡ [] → HasTimes takes log times
  HasTimes-none log times e = record { time = λ i id m h k. (let q : slice_get [] i ≡ Some m = rw e at h in cc) }
