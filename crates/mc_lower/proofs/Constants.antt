-- The constants of operands, gathered one point after the other.
use Rattle.std.proofs.Common.{◌≡◌, ◌<◌, ◌≤◌, ◌+◌, ◌++◌, ℕ, ℤ, List, [], ◌∷◌, Some, None, Option, refl, sym, ap, ◌∙◌, subst, length, map, option_map, arith, inl, inr, Less}
use Rattle.std.specs.Int.Signed.{◌<ℤ◌}
use Rattle.std.proofs.lemmas.Bool.{cases_lt}
use Rattle.std.proofs.lemmas.Bool.Decides.{Decides-int_eq}
use Rattle.std.proofs.lemmas.Cmp.{by_ranked, int_ranked, int_cmp_total, int_eq_equiv}
use Rattle.std.proofs.lemmas.List.Elements.{All-nil, All-cons, All-append, All-weaker, All-contains, Contains-append_left, Contains-append_right, Contains-append_cases, Contains-get_or}
use Rattle.std.proofs.lemmas.List.Filters.{All-dedup}
use Rattle.std.proofs.lemmas.List.Kept.{Contains-dedup, IsStrictlySortedBy-dedup}
use Rattle.std.proofs.lemmas.List.Sorted.{All-permutation, Contains-permutation}
use Rattle.std.proofs.lemmas.Map.Keys.{Less-from_sorted}
use Rattle.std.proofs.lemmas.Option.{same_Some, slice_get_within, slice_get-map}
use Rattle.std.specs.List.{dedup}
use Rattle.std.specs.List.Sorted.{IsPermutation, IsSorted, IsStrictlySortedBy}
use Rattle.std.specs.Ordering.{int_cmp, int_eq}
use Rattle.std.specs.Prelude.{All, AllPairs, Contains, slice_get}
use Rattle.mc_flow.specs.declared.graph.Point.{Point}
use Rattle.mc_flow.specs.declared.instr.Instr.{Instr}
use Rattle.mc_flow.specs.declared.instr.Instr.TheVariants.{Skip, Copy, Undef, Input, Add, Sub, Mul, Load, Store, Malloc, Free, TestEq, TestLe, AssumeShape, AssertShape, AssertEmpty, End, Fail}
use Rattle.mc_flow.specs.declared.instr.Operand.{Operand}
use Rattle.mc_flow.specs.declared.instr.Operand.TheVariants.{Var, Const}
use Rattle.mc_lower_spec.specs.Lowering.{AreThresholds, operands}
use Rattle.mc_lower.specs.declared.builder.Draft.{Draft}
use Rattle.mc_lower.specs.Finished.{AreConstants, constants}
use Rattle.mc_lower.specs.Worlds.{point_in, settled}

-- ---- one instruction
head_constant : (o : Operand) (os : List Operand) (c : ℤ) → o ≡ Const c → Contains (constants (o ∷ os)) c
head_constant (Const d) os c is = subst (λ (p : Operand). Contains (constants (p ∷ os)) c) (sym is) (Contains-append_left (c ∷ []) (constants os) c (Contains-get_or (c ∷ []) 0 c (omega arith)))
head_constant (Var x) os c is = absurd (cc is)

later_constant : (o : Operand) (os : List Operand) (c : ℤ) → Contains (constants os) c → Contains (constants (o ∷ os)) c
later_constant (Const d) os c there = Contains-append_right (d ∷ []) (constants os) c there
later_constant (Var x) os c there = there

only_item : (o p : Operand) → Contains (o ∷ []) p → o ≡ p
only_item o p there = All-contains (λ q. o ≡ q) (o ∷ []) p (All-cons (λ q. o ≡ q) o [] refl (All-nil (λ q. o ≡ q))) there

pub all_constants : (os : List Operand) (c : ℤ) → Contains os (Const c) → Contains (constants os) c
all_constants [] c there = absurd (omega arith)
all_constants (o ∷ os) c there = elim (Contains-append_cases (o ∷ []) os (Const c) there) [
  | inl first ↦ head_constant o os c (only_item o (Const c) first)
  | inr later ↦ later_constant o os c (all_constants os c later)
]

pub only_constants : (os : List Operand) → All (λ c. Contains os (Const c)) (constants os)
only_constants [] = All-nil (λ c. Contains [] (Const c))
only_constants (Const d ∷ os) = All-cons (λ c. Contains (Const d ∷ os) (Const c)) d (constants os)
    (Contains-append_left (Const d ∷ []) os (Const d) (Contains-get_or (Const d ∷ []) 0 (Const d) (omega arith)))
    (All-weaker (λ c. Contains os (Const c)) (λ c. Contains (Const d ∷ os) (Const c)) (λ c there. Contains-append_right (Const d ∷ []) os (Const c) there) (constants os) (only_constants os))
only_constants (Var x ∷ os) =
    All-weaker (λ c. Contains os (Const c)) (λ c. Contains (Var x ∷ os) (Const c)) (λ c there. Contains-append_right (Var x ∷ []) os (Const c) there) (constants os) (only_constants os)

-- ---- one point after the other
-- of the first n points, these are the constants of their operands
pub record Collects (drafts : List Draft) (n : ℕ) (cs : List ℤ) : Type 0 where
  pub all : (j : ℕ) (d : Draft) (c : ℤ) → j < n → slice_get drafts j ≡ Some d → Contains (operands d.code) (Const c) → Contains cs c
  pub only : All (λ c. (j : ℕ) × (d : Draft) × (slice_get drafts j ≡ Some d) × Contains (operands d.code) (Const c)) cs

pub collected_none : (drafts : List Draft) (cs : List ℤ) → cs ≡ [] → Collects drafts 0 cs
collected_none drafts cs is =
    subst (λ l. Collects drafts 0 l) (sym is)
    (record {
      all = λ j d c lt there among. absurd (omega arith);
      only = All-nil (λ c. (j : ℕ) × (d : Draft) × (slice_get drafts j ≡ Some d) × Contains (operands d.code) (Const c));
    })

pub collected_more : (drafts : List Draft) (n : ℕ) (cs ds : List ℤ) (d : Draft) → slice_get drafts n ≡ Some d → ds ≡ cs ++ constants (operands d.code)
    → Collects drafts n cs → Collects drafts (n + 1) ds
collected_more drafts n cs ds d there is g =
    let more = constants (operands d.code) in
    subst (λ l. Collects drafts (n + 1) l) (sym is)
    (record {
      all = λ j u c lt is_there among. elim (cases_lt j n) [
        | inl low ↦ Contains-append_left cs more c (g.all j u c low is_there among)
        | inr high ↦ let same : n ≡ j = omega arith in
            let one : u ≡ d = same_Some u d (sym is_there ∙ ap (λ m. slice_get drafts m) (sym same) ∙ there) in
            Contains-append_right cs more c (all_constants (operands d.code) c (subst (λ (x : Draft). Contains (operands x.code) (Const c)) one among))
      ];
      only = All-append (λ c. (j : ℕ) × (x : Draft) × (slice_get drafts j ≡ Some x) × Contains (operands x.code) (Const c)) cs more g.only
          (All-weaker (λ c. Contains (operands d.code) (Const c)) (λ c. (j : ℕ) × (x : Draft) × (slice_get drafts j ≡ Some x) × Contains (operands x.code) (Const c))
          (λ c among. (n, d, there, among)) more (only_constants (operands d.code)));
    })

pub collected : (drafts : List Draft) (n : ℕ) (cs : List ℤ) → length drafts ≤ n → Collects drafts n cs → AreConstants drafts cs
collected drafts n cs past g =
    record {
      all = λ j d c there among. let inside = slice_get_within drafts j d there in g.all j d c (omega arith) there among;
      only = g.only;
    }

-- ---- in order, each once
below : (x y : ℤ) → int_cmp x y ≡ Less → x <ℤ y
below x y less = by_ranked (x <ℤ y) (x ≡ y) (y <ℤ x) (int_cmp x y) (int_ranked x y (int_cmp x y) refl)
    (λ is lt. lt) (λ is same. absurd (cc (sym less ∙ is))) (λ is gt. absurd (cc (sym less ∙ is)))

pub ascending : (cs : List ℤ) → IsStrictlySortedBy int_cmp cs → AllPairs (λ c d. c <ℤ d) cs
ascending cs sorted = λ i j d lt within. below _ _ (Less-from_sorted int_cmp cs i j d sorted lt within)

pub once_ascending : (cs : List ℤ) → IsSorted int_cmp cs → AllPairs (λ c d. c <ℤ d) (dedup int_eq cs)
once_ascending cs sorted = ascending (dedup int_eq cs) (IsStrictlySortedBy-dedup int_cmp_total (λ x y. refl) cs sorted)

pub same_constants : (drafts : List Draft) (cs ds es : List ℤ) → IsPermutation cs ds → es ≡ dedup int_eq ds → AreConstants drafts cs → AreConstants drafts es
same_constants drafts cs ds es moved is g =
    subst (λ l. AreConstants drafts l) (sym is)
    (record {
      all = λ n d c there among. Contains-dedup int_eq_equiv (λ x y same. (Decides-int_eq x y).0 same) ds c (Contains-permutation cs ds c moved (g.all n d c there among));
      only = All-dedup int_eq (λ c. (n : ℕ) × (d : Draft) × (slice_get drafts n ≡ Some d) × Contains (operands d.code) (Const c)) ds
          (All-permutation (λ c. (n : ℕ) × (d : Draft) × (slice_get drafts n ≡ Some d) × Contains (operands d.code) (Const c)) cs ds moved g.only);
    })

-- ---- with points in place of labels
pub operands_settled : (at : ℕ → ℕ) (code : Instr) → operands (settled at code) ≡ operands code
operands_settled at (Skip q) = refl
operands_settled at (Copy x o q) = refl
operands_settled at (Undef xs q) = refl
operands_settled at (Input x q) = refl
operands_settled at (Add x a b q) = refl
operands_settled at (Sub x a b q) = refl
operands_settled at (Mul x a b q) = refl
operands_settled at (Load x y s f q) = refl
operands_settled at (Store y s f o q) = refl
operands_settled at (Malloc x s q) = refl
operands_settled at (Free o q) = refl
operands_settled at (TestEq a b t f) = refl
operands_settled at (TestLe a b t f) = refl
operands_settled at (AssumeShape p x os q) = refl
operands_settled at (AssertShape p o os q) = refl
operands_settled at (AssertEmpty q) = refl
operands_settled at End = refl
operands_settled at Fail = refl

settled_from : (at : ℕ → ℕ) (drafts : List Draft) (n : ℕ) (p : Point) (o : Option Draft) → slice_get drafts n ≡ o → option_map (point_in at) o ≡ Some p
    → (d : Draft) × (slice_get drafts n ≡ Some d) × (point_in at d ≡ p)
settled_from at drafts n p (Some d) is same = (d, is, same_Some _ _ same)
settled_from at drafts n p None is same = absurd (cc same)

pub thresholds_settled : (at : ℕ → ℕ) (drafts : List Draft) (cs : List ℤ) → AllPairs (λ c d. c <ℤ d) cs → AreConstants drafts cs
    → AreThresholds (map (point_in at) drafts) cs
thresholds_settled at drafts cs up g =
    record {
      ascending = up;
      all = λ n p c there among.
          let from = settled_from at drafts n p (slice_get drafts n) refl (sym (slice_get-map (point_in at) drafts n) ∙ there) in
          g.all n from.0 c from.1 (subst (λ os. Contains os (Const c)) (operands_settled at from.0.code)
          (subst (λ (x : Point). Contains (operands x.code) (Const c)) (sym from.2) among));
      only = All-weaker (λ c. (n : ℕ) × (d : Draft) × (slice_get drafts n ≡ Some d) × Contains (operands d.code) (Const c))
          (λ c. (n : ℕ) × (p : Point) × (slice_get (map (point_in at) drafts) n ≡ Some p) × Contains (operands p.code) (Const c))
          (λ c found. (
            found.0,
            point_in at found.1,
            slice_get-map (point_in at) drafts found.0 ∙ ap (option_map (point_in at)) found.2,
            subst (λ os. Contains os (Const c)) (sym (operands_settled at found.1.code)) found.3,
          )) cs g.only;
    }
