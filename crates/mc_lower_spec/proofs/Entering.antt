-- Blocks and loops are entered and left.
use Rattle.std.proofs.Common.{◌<◌, ◌≤◌, ◌≡◌, ◌++◌, inl, inr, ℕ, List, [], ◌∷◌, Some, None, arith}
use Rattle.std.specs.Prelude.{Contains, slice_get}
use Rattle.mc_semantics.specs.Resolved.Configs.{Values, held}
use Rattle.mc_lower_spec.specs.Graphs.{Graph, local, AreMade, Stage, stage, IsMade, is_made}
use Rattle.mc_base.specs.declared.ids.VarId.{VarId}
use Rattle.mc_lower_spec.specs.Lowering.{Around, in_block}
use Rattle.mc_lower_spec.specs.Scopes.{AreNew}
use Rattle.mc_lower_spec.proofs.Stepping.{Vars}
use Rattle.mc_lower_spec.proofs.Holding.{Limit, limit, IsLate, Held, rescoped, among, in_right, in_either, neither_in, AreTheirs}
use Rattle.mc_lower_spec.proofs.Stages.{variables_of}
use Rattle.mc_lower_spec.proofs.Following.{frame_of, around_loop, outer_limits, no_late, late_raised}
use Rattle.std.proofs.Math.Decide.{dec_lt}

-- ---- blocks
entered_late : (g : Graph) (out : ℕ) (scope blocks xs : List ℕ) (k : ℕ) (values : Values) → AreNew xs scope → ((x : ℕ) → (Contains scope x → ⊥) → held values x ≡ None)
    → IsLate g out values (limit k blocks) → IsLate g out values (limit k (xs ++ blocks))
entered_late g out scope blocks xs k values new scoped late x v there owned from = elim (in_either xs blocks x there) [
  | inl is ↦ scoped x (λ in_scope. new x is in_scope)
  | inr is ↦ late x v is owned from
]

pub block_entered : (g : Graph) (c : Around) (scope xs : List ℕ) (late : List Limit) (callers : List Rattle.mc_lower_spec.proofs.Holding.Frame) (k : ℕ) (values : Values) (vars : Vars) → AreNew xs scope
    → Held g (frame_of c scope late k values ∷ callers) vars → Held g (frame_of (in_block c xs) (xs ++ scope) late k values ∷ callers) vars
block_entered g c scope xs late callers k values vars new h =
    rescoped g (frame_of c scope late k values) callers vars (xs ++ scope) (limit k (xs ++ c.blocks) ∷ late) (λ x absent. h.all.0.scoped x (λ is. absent (in_right xs scope x is)))
    (entered_late g c.out scope c.blocks xs k values new h.all.0.scoped h.all.0.late.0, h.all.0.late.1) h

-- the variables of the block are undefined
pub block_left : (g : Graph) (c : Around) (scope xs : List ℕ) (late : List Limit) (callers : List Rattle.mc_lower_spec.proofs.Holding.Frame) (k j : ℕ) (values : Values) (vars : Vars) → k ≤ j
    → ((x : ℕ) → Contains xs x → held values x ≡ None)
    → Held g (frame_of (in_block c xs) (xs ++ scope) late k values ∷ callers) vars → Held g (frame_of c scope late j values ∷ callers) vars
block_left g c scope xs late callers k j values vars less none h =
    rescoped g (frame_of (in_block c xs) (xs ++ scope) late k values) callers vars scope (limit j c.blocks ∷ late)
    (λ x absent. elim (among x xs) [
      | inl is ↦ none x is
      | inr also ↦ h.all.0.scoped x (λ there. neither_in xs scope x also absent there)
    ])
    (λ x v there owned from. h.all.0.late.0 x v (in_right xs c.blocks x there) owned (omega (arith, less, from)), h.all.0.late.1) h

-- ---- loops
pub loop_entered : (g : Graph) (c : Around) (scope xs : List ℕ) (late : List Limit) (callers : List Rattle.mc_lower_spec.proofs.Holding.Frame) (k j first : ℕ) (values : Values) (vars : Vars) → AreNew xs scope → k ≤ first
    → Held g (frame_of c scope late k values ∷ callers) vars → Held g (frame_of (around_loop c) (xs ++ scope) (outer_limits c xs first late) j values ∷ callers) vars
loop_entered g c scope xs late callers k j first values vars new less h =
    rescoped g (frame_of c scope late k values) callers vars (xs ++ scope) (limit j [] ∷ outer_limits c xs first late) (λ x absent. h.all.0.scoped x (λ is. absent (in_right xs scope x is))) (
      no_late g c.out values j,
      (late_raised g c.out values k first (xs ++ c.blocks) less (entered_late g c.out scope c.blocks xs k values new h.all.0.scoped h.all.0.late.0), h.all.0.late.1),
    ) h

pub loop_left : (g : Graph) (c : Around) (scope xs : List ℕ) (late : List Limit) (callers : List Rattle.mc_lower_spec.proofs.Holding.Frame) (k first : ℕ) (values : Values) (vars : Vars)
    → ((x : ℕ) → Contains xs x → held values x ≡ None)
    → Held g (frame_of (around_loop c) (xs ++ scope) (outer_limits c xs first late) k values ∷ callers) vars → Held g (frame_of c scope late first values ∷ callers) vars
loop_left g c scope xs late callers k first values vars none h =
    rescoped g (frame_of (around_loop c) (xs ++ scope) (outer_limits c xs first late) k values) callers vars scope (limit first c.blocks ∷ late)
    (λ x absent. elim (among x xs) [
      | inl is ↦ none x is
      | inr also ↦ h.all.0.scoped x (λ there. neither_in xs scope x also absent there)
    ])
    (λ x v there owned from. h.all.0.late.1.0 x v (in_right xs c.blocks x there) owned from, h.all.0.late.1.1) h

-- ---- what a Undef names
made_then : (g : Graph) (out x : ℕ) (v : VarId) (s : Stage) → slice_get g.owners v.0 ≡ Some (local out x) → v.0 < variables_of s → IsMade g (local out x) v s
made_then g out x v (stage a n k) owned less = is_made owned less

made_owner : (g : Graph) (out x : ℕ) (v : VarId) (s : Stage) → IsMade g (local out x) v s → slice_get g.owners v.0 ≡ Some (local out x)
made_owner g out x v s (is_made owned less) = owned

-- those that are made later are undefined already
pub theirs : (g : Graph) (out : ℕ) (values : Values) (xs : List ℕ) (vs : List VarId) (s : Stage) (k : ℕ) → AreMade g out (λ x. Contains xs x) s vs
    → ((x v : ℕ) → Contains xs x → slice_get g.owners v ≡ Some (local out x) → k ≤ v → held values x ≡ None) → k ≤ variables_of s → AreTheirs g out values xs vs
theirs g out values xs vs s k made late less = record {
  all = λ x v there owned. elim (dec_lt v.0 (variables_of s)) [
    | yes before ↦ inl (made.all x v there (made_then g out x v s owned before))
    | no after ↦ inr (late x v.0 there owned (omega (arith, less, after)))
  ];
  only = λ v there. owned_by v (only_of v there);
}
  where
    only_of : (v : VarId) → Contains vs v → (x : ℕ) × Contains xs x × IsMade g (local out x) v s
    only_of v there = Rattle.std.proofs.Common.subst (λ z. (x : ℕ) × Contains xs x × IsMade g (local out x) z s) there.2 (made.only there.0 v there.1)

    owned_by : (v : VarId) → ((x : ℕ) × Contains xs x × IsMade g (local out x) v s) → (x : ℕ) × Contains xs x × (slice_get g.owners v.0 ≡ Some (local out x))
    owned_by v one = (one.0, one.1, made_owner g out one.0 v s one.2)
