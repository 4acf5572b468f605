-- The variables of an occurrence of a function, gathered one after the other.
use Rattle.std.proofs.Common.{◌≡◌, ◌<◌, ◌+◌, ◌++◌, ℕ, List, [], ◌∷◌, Some, sym, ap, ◌∙◌, subst, length, arith, inl, inr}
use Rattle.std.proofs.lemmas.Bool.{cases_lt}
use Rattle.std.proofs.lemmas.List.Elements.{All-nil, All-push, All-weaker, Contains-append_left, Contains-push}
use Rattle.std.proofs.lemmas.List.Quantifiers.{all_pairs_push}
use Rattle.std.proofs.lemmas.Option.{same_Some, slice_get_within, slice_get_cases}
use Rattle.std.specs.Prelude.{All, AllPairs, Contains, slice_get}
use Rattle.mc_base.specs.declared.ids.VarId.{VarId}
use Rattle.mc_lower_spec.specs.Graphs.{Graph, Owner, local, stage, var, IsMade, is_made, AreMade}
use Rattle.mc_lower.specs.declared.builder.Builder.{Builder}
use Rattle.mc_lower.specs.declared.variables.Owner.{Owner as OwnerCode}
use Rattle.mc_lower.specs.declared.variables.Variable.{Variable}
use Rattle.mc_lower.specs.Owned.{IsLocalOf}
use Rattle.mc_lower.specs.Worlds.{World, Agrees, owner_of, stage_of}

-- of the first n variables, these are those that are meant, ascending
pub record Gathers (Meant : ℕ → Type 0) (i : ℕ) (variables : List Variable) (n : ℕ) (vs : List VarId) : Type 0 where
  pub ascending : AllPairs (λ v w. v.0 < w.0) vs
  pub below : All (λ v. v.0 < n) vs
  pub all : (j : ℕ) (v : Variable) → j < n → slice_get variables j ≡ Some v → IsLocalOf Meant i v.owner → Contains vs (var j)
  pub only : All (λ u. (v : Variable) × (slice_get variables u.0 ≡ Some v) × IsLocalOf Meant i v.owner) vs

pub gathered_none : (Meant : ℕ → Type 0) (i : ℕ) (variables : List Variable) (vs : List VarId) → vs ≡ [] → Gathers Meant i variables 0 vs
gathered_none Meant i variables vs is =
    subst (λ l. Gathers Meant i variables 0 l) (sym is)
    (record {
      ascending = λ a b d lt within. absurd (omega arith);
      below = All-nil (λ v. v.0 < 0);
      all = λ j v lt there meant. absurd (omega arith);
      only = All-nil (λ u. (v : Variable) × (slice_get variables u.0 ≡ Some v) × IsLocalOf Meant i v.owner);
    })

pub gathered_more : (Meant : ℕ → Type 0) (i n : ℕ) (variables : List Variable) (vs ws : List VarId) (v : Variable)
    → slice_get variables n ≡ Some v → IsLocalOf Meant i v.owner → ws ≡ vs ++ var n ∷ [] → Gathers Meant i variables n vs
    → Gathers Meant i variables (n + 1) ws
gathered_more Meant i n variables vs ws v there meant is g =
    subst (λ l. Gathers Meant i variables (n + 1) l) (sym is)
    (record {
      ascending = all_pairs_push (λ a b. a.0 < b.0) vs (var n) g.ascending (λ k d lt. g.below k d lt);
      below = All-push (λ a. a.0 < n + 1) vs (var n) (All-weaker (λ a. a.0 < n) (λ a. a.0 < n + 1) (λ a lt. omega arith) vs g.below) (omega arith);
      all = λ j u lt is_there is_meant. elim (cases_lt j n) [
        | inl low ↦ Contains-append_left vs (var n ∷ []) (var j) (g.all j u low is_there is_meant)
        | inr high ↦ let same : n ≡ j = omega arith in subst (λ m. Contains (vs ++ var n ∷ []) (var m)) same (Contains-push vs (var n))
      ];
      only = All-push (λ u. (x : Variable) × (slice_get variables u.0 ≡ Some x) × IsLocalOf Meant i x.owner) vs (var n) g.only (v, there, meant);
    })

pub gathered_same : (Meant : ℕ → Type 0) (i n : ℕ) (variables : List Variable) (vs : List VarId) (v : Variable)
    → slice_get variables n ≡ Some v → (IsLocalOf Meant i v.owner → ⊥) → Gathers Meant i variables n vs → Gathers Meant i variables (n + 1) vs
gathered_same Meant i n variables vs v there not_meant g =
    record {
      ascending = g.ascending;
      below = All-weaker (λ a. a.0 < n) (λ a. a.0 < n + 1) (λ a lt. omega arith) vs g.below;
      all = λ j u lt is_there is_meant. elim (cases_lt j n) [
        | inl low ↦ g.all j u low is_there is_meant
        | inr high ↦ let same : n ≡ j = omega arith in
            let one : u ≡ v = same_Some u v (sym is_there ∙ ap (λ m. slice_get variables m) (sym same) ∙ there) in
            absurd (not_meant (subst (λ x. IsLocalOf Meant i x.owner) one is_meant))
      ];
      only = g.only;
    }

-- ---- in the finished flow graph
made_of : (g : Graph) (owner : Owner) (v : VarId) (a n k : ℕ) → IsMade g owner v (stage a n k) → (slice_get g.owners v.0 ≡ Some owner) × (v.0 < k)
made_of g owner v a n k (is_made there within) = (there, within)

abbrev out_in : Owner → ℕ
out_in (local out x) = out
out_in (Owner.result out) = 0
out_in (Owner.temporary j kind) = 0

abbrev number_in : Owner → ℕ
number_in (local out x) = x
number_in (Owner.result out) = 0
number_in (Owner.temporary j kind) = 0

meant_of : (w : World) (Meant : ℕ → Type 0) (i x : ℕ) (o : OwnerCode) → owner_of w.out o ≡ local (w.out i) x → Meant x → IsLocalOf Meant i o
meant_of w Meant i x (OwnerCode.Local j y) is meant = (w.apart j i (ap out_in is), subst Meant (sym (ap number_in is)) meant)
meant_of w Meant i x (OwnerCode.Result j) is meant = absurd (cc is)
meant_of w Meant i x (OwnerCode.Temporary j kind) is meant = absurd (cc is)

local_of : (w : World) (Meant : ℕ → Type 0) (i : ℕ) (o : OwnerCode) → IsLocalOf Meant i o → (x : ℕ) × Meant x × (owner_of w.out o ≡ local (w.out i) x)
local_of w Meant i (OwnerCode.Local j x) is = (x, is.1, ap (λ n. local (w.out n) x) is.0)
local_of w Meant i (OwnerCode.Result j) is = absurd is
local_of w Meant i (OwnerCode.Temporary j kind) is = absurd is

all_made : (w : World) (b : Builder) (Meant : ℕ → Type 0) (i x : ℕ) (vs : List VarId) (v : VarId)
    → Gathers Meant i b.variables.list.items (length b.variables.list.items) vs → Agrees w b → Meant x → IsMade w.graph (local (w.out i) x) v (stage_of w b)
    → Contains vs v
all_made w b Meant i x vs v g agrees meant made =
    let is = made_of w.graph (local (w.out i) x) v _ _ _ made in
    elim (slice_get_cases b.variables.list.items v.0).1 [
      | inl found ↦ g.all v.0 found.0 is.1 found.2 (meant_of w Meant i x found.0.owner (same_Some _ _ (sym (agrees.owners v.0 found.0 found.2) ∙ is.0)) meant)
      | inr past ↦ absurd (omega arith)
    ]

only_made : (w : World) (b : Builder) (Meant : ℕ → Type 0) (i : ℕ) → Agrees w b → (v : VarId)
    → (u : Variable) × (slice_get b.variables.list.items v.0 ≡ Some u) × IsLocalOf Meant i u.owner
    → (x : ℕ) × Meant x × IsMade w.graph (local (w.out i) x) v (stage_of w b)
only_made w b Meant i agrees v found =
    let is = local_of w Meant i found.0.owner found.2 in
    (is.0, is.1, is_made (agrees.owners v.0 found.0 found.1 ∙ ap (λ o. Some o) is.2) (slice_get_within b.variables.list.items v.0 found.0 found.1))

pub gathered : (w : World) (b : Builder) (Meant : ℕ → Type 0) (i : ℕ) (vs : List VarId) → Gathers Meant i b.variables.list.items (length b.variables.list.items) vs
    → Agrees w b → AreMade w.graph (w.out i) Meant (stage_of w b) vs
gathered w b Meant i vs g agrees =
    record {
      ascending = g.ascending;
      all = λ x v meant made. all_made w b Meant i x vs v g agrees meant made;
      only = All-weaker (λ u. (v : Variable) × (slice_get b.variables.list.items u.0 ≡ Some v) × IsLocalOf Meant i v.owner)
          (λ v. (x : ℕ) × Meant x × IsMade w.graph (local (w.out i) x) v (stage_of w b)) (λ v found. only_made w b Meant i agrees v found) vs g.only;
    }
