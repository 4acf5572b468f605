-- The constants of the operands of points, ascending.
use Rattle.std.proofs.Common.{◌≡◌, ◌⊎◌, ℕ, zero, suc, ℤ, pos, negsuc, ◌<ℤ◌, ◌≤ℤ◌, List, [], ◌∷◌, Some, refl, sym, ap, subst, arith, inl, inr, le→leb, ltb→lt, le_of_lt}
use lib.Signed.{<ℤ-≤ℤ_trans}
use Rattle.std.proofs.lemmas.Cmp.{by_ranked, int_ranked}
use Rattle.std.proofs.lemmas.List.Elements.{All-contains, Contains-get_or}
use Rattle.std.proofs.lemmas.List.Kept.{AllPairs-cons}
use Rattle.std.proofs.lemmas.Option.{same_Some}
use Rattle.std.specs.Ordering.{int_cmp}
use Rattle.std.specs.Prelude.{All, AllPairs, Contains, slice_get}
use Rattle.mc_flow.specs.declared.instr.Operand.{Operand}
use Rattle.mc_flow.specs.declared.instr.Operand.TheVariants.{Var, Const}
use Rattle.mc_flow.specs.declared.graph.Point.{Point}
use Rattle.mc_lower_spec.specs.Lowering.{AreThresholds, operands}
use Rattle.mc_lower_laws.proofs.ScopedLemmas.Lists.{contains_tail, contains_cases, contains_none}

cases_z : (a b : ℤ) → (a <ℤ b) ⊎ (a ≡ b) ⊎ (b <ℤ a)
cases_z a b = by_ranked (a <ℤ b) (a ≡ b) (b <ℤ a) (int_cmp a b) (int_ranked a b (int_cmp a b) refl) (λ is less. inl less) (λ is same. inr (inl same)) (λ is more. inr (inr more))

no_more : (a b : ℤ) → a <ℤ b → a ≤ℤ b
no_more (pos a) (pos b) less = record { le = le→leb a b (le_of_lt (ltb→lt a b less.lt)) }
no_more (pos a) (negsuc b) less = absurd less.lt
no_more (negsuc a) (pos b) less = record { le = tt }
no_more (negsuc a) (negsuc b) less = record { le = le→leb b a (le_of_lt (ltb→lt b a less.lt)) }

less_on : (a b c : ℤ) → a <ℤ b → b <ℤ c → a <ℤ c
less_on a b c low high = <ℤ-≤ℤ_trans low (no_more b c high)

each : (P : ℤ → Type 0) (cs : List ℤ) → ((c : ℤ) → Contains cs c → P c) → All P cs
each P cs from k d within = from _ (Contains-get_or cs k d within)

-- an ascending list with one more
record With (c : ℤ) (cs : List ℤ) : Type 0 where
  list : List ℤ
  ascending : AllPairs (λ a b. a <ℤ b) list
  has : Contains list c
  keeps : (d : ℤ) → Contains cs d → Contains list d
  only : (d : ℤ) → Contains list d → (c ≡ d) ⊎ Contains cs d

above_first : (h : ℤ) (cs : List ℤ) → AllPairs (λ a b. a <ℤ b) (h ∷ cs) → All (λ b. h <ℤ b) cs
above_first h cs pairs k d within = pairs zero (suc k) d (omega arith) (omega (arith, within))

rest_of : (h : ℤ) (cs : List ℤ) → AllPairs (λ a b. a <ℤ b) (h ∷ cs) → AllPairs (λ a b. a <ℤ b) cs
rest_of h cs pairs i j d less within = pairs (suc i) (suc j) d (omega (arith, less)) (omega (arith, within))

inserted : (c : ℤ) (cs : List ℤ) → AllPairs (λ a b. a <ℤ b) cs → With c cs
inserted c [] pairs =
    record {
      list = c ∷ [];
      ascending = AllPairs-cons (λ a b. a <ℤ b) c [] (λ k d within. absurd (omega (arith, within))) pairs;
      has = (zero, omega arith, refl);
      keeps = λ d among. absurd (contains_none d among);
      only = λ d among. elim (contains_cases c [] d among) [ inl same ↦ inl same | inr more ↦ inr more ];
    }
inserted c (h ∷ cs) pairs =
    elim (cases_z c h) [
      | inl less ↦ record {
        list = c ∷ h ∷ cs;
        ascending = AllPairs-cons (λ a b. a <ℤ b) c (h ∷ cs)
            (each (λ b. c <ℤ b) (h ∷ cs) (λ d among. elim (contains_cases h cs d among) [
              | inl same ↦ subst (λ z. c <ℤ z) same less
              | inr more ↦ less_on c h d less (All-contains (λ b. h <ℤ b) cs d (above_first h cs pairs) more)
            ])) pairs;
        has = (zero, omega arith, refl);
        keeps = λ d among. contains_tail c (h ∷ cs) d among;
        only = λ d among. contains_cases c (h ∷ cs) d among;
      }
      | inr other ↦ elim other [
        | inl same ↦ record {
          list = h ∷ cs;
          ascending = pairs;
          has = (zero, omega arith, sym same);
          keeps = λ d among. among;
          only = λ d among. inr among;
        }
        | inr more ↦ further more (inserted c cs (rest_of h cs pairs))
      ]
    ]
  where
    further : h <ℤ c → With c cs → With c (h ∷ cs)
    further more w =
        record {
          list = h ∷ w.list;
          ascending = AllPairs-cons (λ a b. a <ℤ b) h w.list
              (each (λ b. h <ℤ b) w.list (λ d among. elim (w.only d among) [
                | inl same ↦ subst (λ z. h <ℤ z) same more
                | inr old ↦ All-contains (λ b. h <ℤ b) cs d (above_first h cs pairs) old
              ])) w.ascending;
          has = contains_tail h w.list c w.has;
          keeps = λ d among. elim (contains_cases h cs d among) [
            | inl same ↦ (zero, omega arith, same)
            | inr old ↦ contains_tail h w.list d (w.keeps d old)
          ];
          only = λ d among. elim (contains_cases h w.list d among) [
            | inl same ↦ inr (zero, omega arith, same)
            | inr later ↦ elim (w.only d later) [
              | inl is ↦ inl is
              | inr old ↦ inr (contains_tail h cs d old)
            ]
          ];
        }

-- with the constants of some operands
record WithAll (os : List Operand) (cs : List ℤ) : Type 0 where
  list : List ℤ
  ascending : AllPairs (λ a b. a <ℤ b) list
  has : (c : ℤ) → Contains os (Const c) → Contains list c
  keeps : (d : ℤ) → Contains cs d → Contains list d
  only : (d : ℤ) → Contains list d → Contains os (Const d) ⊎ Contains cs d

abbrev const_in : Operand → ℤ
const_in (Var x) = pos 0
const_in (Const c) = c

all_inserted : (os : List Operand) (cs : List ℤ) → AllPairs (λ a b. a <ℤ b) cs → WithAll os cs
all_inserted [] cs pairs = record { list = cs; ascending = pairs; has = λ c among. absurd (contains_none (Const c) among); keeps = λ d among. among; only = λ d among. inr among }
all_inserted (Var x ∷ os) cs pairs =
    let w = all_inserted os cs pairs in
    record {
      list = w.list;
      ascending = w.ascending;
      has = λ c among. elim (contains_cases (Var x) os (Const c) among) [ inl same ↦ absurd (cc same) | inr more ↦ w.has c more ];
      keeps = w.keeps;
      only = λ d among. elim (w.only d among) [ inl here ↦ inl (contains_tail (Var x) os (Const d) here) | inr old ↦ inr old ];
    }
all_inserted (Const k ∷ os) cs pairs =
    let w = all_inserted os cs pairs in
    let v = inserted k w.list w.ascending in
    record {
      list = v.list;
      ascending = v.ascending;
      has = λ c among. elim (contains_cases (Const k) os (Const c) among) [
        | inl same ↦ subst (λ z. Contains v.list z) (ap const_in same) v.has
        | inr more ↦ v.keeps c (w.has c more)
      ];
      keeps = λ d among. v.keeps d (w.keeps d among);
      only = λ d among. elim (v.only d among) [
        | inl same ↦ inl (zero, omega arith, ap Const same)
        | inr later ↦ elim (w.only d later) [ inl here ↦ inl (contains_tail (Const k) os (Const d) here) | inr old ↦ inr old ]
      ];
    }

record Collected (points : List Point) : Type 0 where
  list : List ℤ
  ascending : AllPairs (λ a b. a <ℤ b) list
  has : (n : ℕ) (p : Point) (c : ℤ) → slice_get points n ≡ Some p → Contains (operands p.code) (Const c) → Contains list c
  only : (c : ℤ) → Contains list c → (n : ℕ) × (p : Point) × (slice_get points n ≡ Some p) × Contains (operands p.code) (Const c)

collected : (points : List Point) → Collected points
collected [] = record { list = []; ascending = λ i j d less within. absurd (omega (arith, less, within)); has = λ n p c there among. absurd (cc there); only = λ c among. absurd (contains_none c among) }
collected (p ∷ points) =
    let rest = collected points in
    let w = all_inserted (operands p.code) rest.list rest.ascending in
    record {
      list = w.list;
      ascending = w.ascending;
      has = at_each rest w;
      only = λ c among. elim (w.only c among) [
        | inl here ↦ (zero, p, refl, here)
        | inr later ↦ let (n, q, there, inside) = rest.only c later in (suc n, q, there, inside)
      ];
    }
  where
    at_each : (rest : Collected points) (w : WithAll (operands p.code) rest.list) (n : ℕ) (q : Point) (c : ℤ) → slice_get (p ∷ points) n ≡ Some q → Contains (operands q.code) (Const c) → Contains w.list c
    at_each rest w zero q c there among = w.has c (subst (λ (z : Point). Contains (operands z.code) (Const c)) (sym (same_Some p q there)) among)
    at_each rest w (suc n) q c there among = w.keeps c (rest.has n q c there among)

pub thresholds_of : (points : List Point) → (cs : List ℤ) × AreThresholds points cs
thresholds_of points =
    let c = collected points in
    (c.list, record { ascending = c.ascending; all = c.has; only = each (λ c. (n : ℕ) × (p : Point) × (slice_get points n ≡ Some p) × Contains (operands p.code) (Const c)) c.list c.only })
