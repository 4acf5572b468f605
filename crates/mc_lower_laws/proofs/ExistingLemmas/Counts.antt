-- The counts of the calls of functions without recursion exist.
use Rattle.std.proofs.Common.{◌≡◌, ◌≤◌, ◌<◌, ◌+◌, ◌++◌, ℕ, zero, suc, List, [], ◌∷◌, Option, Some, None, map, length, get_or, refl, sym, ap, ◌∙◌, arith, inl, inr, Contains, slice_index}
use Rattle.std.proofs.lemmas.Bool.{cases_eq}
use Rattle.std.proofs.lemmas.List.Elements.{Contains-append_left, Contains-append_right}
use Rattle.std.proofs.lemmas.Option.{same_Some, slice_get_cases, slice_get_within}
use Rattle.std.specs.Prelude.{slice_get}
use Rattle.mc_semantics.specs.Resolved.Programs.{Right, expression, result_of, allocation, Action, assign, add, subtract, call, Simple, Initial, Start, nothing, declares, performs, Stmt, declaration, block, empty, simple, free}
use Rattle.mc_semantics.specs.Resolved.Programs.{assert, assume, assume_shape, assert_shape, assert_empty, if_only, if_else, while_loop, do_loop, for_loop, break_loop, continue_loop, returns, Stmts, no_more, then, Function, Program}
use Rattle.mc_lower_spec.specs.Length.Lengths.{assigning, acting, initializing, declaring, starting, finishing, returning, start_declared, declared, stretch, stretch_all, calling_rest, below}
use Rattle.mc_lower_laws.specs.Existing.Ranks.{right_calls, value_calls, action_calls, items_calls, start_calls, last_calls, calls_in, all_calls_in, HasRanks}

-- two tables agree on these functions
pub record Agree (t u : List ℕ) (calls : List ℕ) : Type 0 where
  pub same : (m : ℕ) → Contains calls m → slice_index t m ≡ slice_index u m

left_part : {t u : List ℕ} (xs ys : List ℕ) → Agree t u (xs ++ ys) → Agree t u xs
left_part xs ys a = record { same = λ m among. a.same m (Contains-append_left xs ys m among) }

right_part : {t u : List ℕ} (xs ys : List ℕ) → Agree t u (xs ++ ys) → Agree t u ys
right_part xs ys a = record { same = λ m among. a.same m (Contains-append_right xs ys m among) }

assigned : (t u : List ℕ) (right : Right) (n : ℕ) → Agree t u (right_calls right) → assigning t right n ≡ assigning u right n
assigned t u (expression e) zero a = refl
assigned t u (expression e) (suc n) a = refl
assigned t u (allocation shape fields) zero a = refl
assigned t u (allocation shape fields) (suc n) a = refl
assigned t u (result_of c) n a = let one = a.same c.function (zero, omega arith, refl) in omega (arith, one)

acted : (t u : List ℕ) (x : Action) → Agree t u (action_calls x) → acting t x ≡ acting u x
acted t u (assign l right) a = assigned t u right (length l.fields) a
acted t u (add l e) a = refl
acted t u (subtract l e) a = refl
acted t u (call c) a = let one = a.same c.function (zero, omega arith, refl) in omega (arith, one)

initialized : (t u : List ℕ) (value : Option Right) → Agree t u (value_calls value) → initializing t value ≡ initializing u value
initialized t u None a = refl
initialized t u (Some right) a = assigned t u right 0 a

declared_alike : (t u : List ℕ) (items : List Initial) → Agree t u (items_calls items) → declaring t items ≡ declaring u items
declared_alike t u [] a = refl
declared_alike t u (item ∷ items) a =
    let one = initialized t u item.value (left_part (value_calls item.value) (items_calls items) a) in
    let rest = declared_alike t u items (right_part (value_calls item.value) (items_calls items) a) in
    omega (arith, one, rest)

started : (t u : List ℕ) (s : Start) → Agree t u (start_calls s) → starting t s ≡ starting u s
started t u nothing a = refl
started t u (declares place items) a = declared_alike t u items a
started t u (performs x) a = acted t u x.action a

finished : (t u : List ℕ) (last : Option Simple) → Agree t u (last_calls last) → finishing t last ≡ finishing u last
finished t u None a = refl
finished t u (Some x) a = acted t u x.action a

returned : (t u : List ℕ) (right : Option Right) → Agree t u (value_calls right) → returning t right ≡ returning u right
returned t u None a = refl
returned t u (Some (expression e)) a = refl
returned t u (Some (allocation shape fields)) a = refl
returned t u (Some (result_of c)) a = let one = a.same c.function (zero, omega arith, refl) in omega (arith, one)

mutual
  stretched : (t u made blocks : List ℕ) (a : Stmt) → Agree t u (calls_in a) → stretch t made blocks a ≡ stretch u made blocks a
  stretched t u made blocks (declaration place items) g = declared_alike t u items g
  stretched t u made blocks (block xs ss) g = let one = all_stretched t u made (xs ++ blocks) ss g in omega (arith, one)
  stretched t u made blocks empty g = refl
  stretched t u made blocks (simple x) g = acted t u x.action g
  stretched t u made blocks (free place e) g = refl
  stretched t u made blocks (assert place c) g = refl
  stretched t u made blocks (assume place c) g = refl
  stretched t u made blocks (assume_shape place predicate x args) g = refl
  stretched t u made blocks (assert_shape place predicate a args) g = refl
  stretched t u made blocks (assert_empty place) g = refl
  stretched t u made blocks (if_only place c a) g = let one = stretched t u made blocks a g in omega (arith, one)
  stretched t u made blocks (if_else place c a b) g =
      let one = stretched t u made blocks a (left_part (calls_in a) (calls_in b) g) in
      let two = stretched t u (made ++ declared a) blocks b (right_part (calls_in a) (calls_in b) g) in
      omega (arith, one, two)
  stretched t u made blocks (while_loop place c a) g = let one = stretched t u made [] a g in omega (arith, one)
  stretched t u made blocks (do_loop place a c) g = let one = stretched t u made [] a g in omega (arith, one)
  stretched t u made blocks (for_loop h a) g =
      let heads : Agree t u (start_calls h.start ++ last_calls h.last) = left_part (start_calls h.start ++ last_calls h.last) (calls_in a) g in
      let one = started t u h.start (left_part (start_calls h.start) (last_calls h.last) heads) in
      let two = finished t u h.last (right_part (start_calls h.start) (last_calls h.last) heads) in
      let three = stretched t u (made ++ start_declared h.start) [] a (right_part (start_calls h.start ++ last_calls h.last) (calls_in a) g) in
      omega (arith, one, two, three)
  stretched t u made blocks (break_loop place) g = refl
  stretched t u made blocks (continue_loop place) g = refl
  stretched t u made blocks (returns place right) g = returned t u right g

  all_stretched : (t u made blocks : List ℕ) (ss : Stmts) → Agree t u (all_calls_in ss) → stretch_all t made blocks ss ≡ stretch_all u made blocks ss
  all_stretched t u made blocks no_more g = refl
  all_stretched t u made blocks (then a more) g =
      let one = stretched t u made blocks a (left_part (calls_in a) (all_calls_in more) g) in
      let two = all_stretched t u (made ++ declared a) blocks more (right_part (calls_in a) (all_calls_in more) g) in
      omega (arith, one, two)

rest_alike : (t u : List ℕ) (f : Function) → Agree t u (all_calls_in f.body) → calling_rest t f ≡ calling_rest u f
rest_alike t u f a = let one = all_stretched t u (below f.parameters) [] f.body a in omega (arith, one)

-- ---- the table, in rounds
tables : List Function → ℕ → List ℕ
tables fs zero = []
tables fs (suc k) = map (calling_rest (tables fs k)) fs

mapped_at : (h : Function → ℕ) (fs : List Function) (i : ℕ) (f : Function) → slice_get fs i ≡ Some f → get_or (map h fs) i 0 ≡ h f
mapped_at h [] i f is = absurd (cc is)
mapped_at h (g ∷ fs) zero f is = ap h (same_Some g f is)
mapped_at h (g ∷ fs) (suc i) f is = mapped_at h fs i f is

mapped_past : (h : Function → ℕ) (fs : List Function) (i : ℕ) → length fs ≤ i → get_or (map h fs) i 0 ≡ 0
mapped_past h [] i past = refl
mapped_past h (g ∷ fs) zero past = absurd (omega (arith, past))
mapped_past h (g ∷ fs) (suc i) past = mapped_past h fs i (omega (arith, past))

entry : (fs : List Function) (k i : ℕ) (f : Function) → slice_get fs i ≡ Some f → slice_index (tables fs (suc k)) i ≡ calling_rest (tables fs k) f
unfolding tables
entry fs k i f is = mapped_at (calling_rest (tables fs k)) fs i f is

no_entry : (fs : List Function) (k i : ℕ) → length fs ≤ i → slice_index (tables fs k) i ≡ 0
unfolding tables
no_entry fs zero i past = refl
no_entry fs (suc k) i past = mapped_past (calling_rest (tables fs k)) fs i past

module _ (p : Program) (r : HasRanks p) where
  settled : (k i : ℕ) → r.rank i < k → slice_index (tables p.functions (suc k)) i ≡ slice_index (tables p.functions k) i
  settled zero i low = absurd (omega (arith, low))
  settled (suc k) i low =
      elim ((slice_get_cases p.functions i).1) [
        | inl there ↦
            let (f, within, is, same) = there in
            let agree : Agree (tables p.functions (suc k)) (tables p.functions k) (all_calls_in f.body) =
            record { same = λ m among. let falls = r.falls i m f is among in settled k m (omega (arith, falls, low)) } in
            entry p.functions (suc k) i f is ∙ rest_alike (tables p.functions (suc k)) (tables p.functions k) f agree ∙ sym (entry p.functions k i f is)
        | inr past ↦ no_entry p.functions (suc (suc k)) i past.0 ∙ sym (no_entry p.functions (suc k) i past.0)
      ]

  -- above the ranks of the first so many functions
  bound : ℕ → ℕ
  bound zero = 0
  bound (suc n) = bound n + suc (r.rank n)

  bounded : (n i : ℕ) → i < n → r.rank i < bound n
  unfolding bound
  bounded zero i less = absurd (omega (arith, less))
  bounded (suc n) i less =
      elim (cases_eq i n) [
        | inl same ↦ let e = ap r.rank same in omega (arith, e)
        | inr apart ↦ let low = bounded n i (omega (arith, less, apart)) in omega (arith, low)
      ]

  -- a table that is exactly right
  pub table : List ℕ
  table = tables p.functions (bound (length p.functions))

  pub exact : (i : ℕ) (f : Function) → slice_get p.functions i ≡ Some f → slice_index table i ≡ calling_rest table f
  unfolding table
  exact i f is =
      let within : i < length p.functions = slice_get_within p.functions i f is in
      sym (settled (bound (length p.functions)) i (bounded (length p.functions) i within)) ∙ entry p.functions (bound (length p.functions)) i f is
