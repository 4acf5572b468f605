-- Kinds that are looked up node by node.
use Rattle.std.proofs.Common.{◌≡◌, ◌≤◌, ◌&&◌, ℕ, suc, Bool, true, false, Option, Some, [], ◌∷◌, map, refl, ap, ◌∙◌, eqb-true, eq-eqb, arith}
use Rattle.std.specs.Prelude.{◌==◌, if◌then◌else◌}
use Rattle.std.specs.List.{list_all}
use Rattle.mc_base.specs.declared.ids.NodeId.{NodeId}
use Rattle.mc_base.specs.declared.plain.Kind.{Kind}
use Rattle.mc_pure.specs.Nodes.{RiseFrom}
use Rattle.mc_pure.specs.Pure.{Kinds, kind_of}
use Rattle.mc_state.specs.Lists.{on_some}

-- numbers that differ are known apart
apart : (b : Bool) → (b ≡ true → ⊥) → b ≡ false
apart true h = absurd (h refl)
apart false h = refl

-- the kind of the first pair's node
here : (k : NodeId × Kind) (kinds : Kinds) → kind_of (k ∷ kinds) k.0 ≡ Some k.1
here k kinds = ap (λ b. if b then Some k.1 else kind_of kinds k.0) (eq-eqb k.0.0 k.0.0 refl)

-- the kind of another node
behind : (k : NodeId × Kind) (kinds : Kinds) (n : NodeId) → suc k.0.0 ≤ n.0 → kind_of (k ∷ kinds) n ≡ kind_of kinds n
behind k kinds n above =
    ap (λ b. if b then Some k.1 else kind_of kinds n)
    (apart (k.0.0 == n.0) (λ e. let same = eqb-true k.0.0 n.0 e in absurd (omega arith)))

-- what is asked of each node and the kind that is found for it is asked of each pair, where nodes ascend
pub each_found : (test : NodeId × Kind → Bool) (look : NodeId → Option Kind) (low : ℕ) (kinds : Kinds) → RiseFrom low kinds
    → ((n : NodeId) → low ≤ n.0 → look n ≡ kind_of kinds n)
    → list_all (λ n. on_some (λ kind. test (n, kind)) (look n)) (map (λ k. k.0) kinds) ≡ list_all test kinds
each_found test look low [] rise same = refl
each_found test look low (k ∷ kinds) rise same =
    let first : look k.0 ≡ Some k.1 = same k.0 rise.0 ∙ here k kinds in
    let least : low ≤ k.0.0 = rise.0 in
    let others : (n : NodeId) → suc k.0.0 ≤ n.0 → look n ≡ kind_of kinds n =
    λ n above. let beyond : low ≤ n.0 = omega arith in same n beyond ∙ behind k kinds n above in
    ap (λ o. on_some (λ kind. test (k.0, kind)) o && list_all (λ n. on_some (λ kind. test (n, kind)) (look n)) (map (λ (e : NodeId × Kind). e.0) kinds)) first
    ∙ ap (λ b. test k && b) (each_found test look (suc k.0.0) kinds rise.1 others)
