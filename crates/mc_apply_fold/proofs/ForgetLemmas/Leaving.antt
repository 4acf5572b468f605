-- The kinds of the nodes that are left.
use Rattle.std.proofs.Common.{◌≡◌, ◌≢◌, ◌<◌, ◌≤◌, ◌+◌, ◌-◌, ℕ, zero, suc, List, [], ◌∷◌, ◌++◌, Bool, true, false, Some, None, nat_eq, nat_lt, get_or, length, map, take, refl, sym, ◌∙◌, ap, subst, inl, inr, arith}
use Rattle.std.specs.Prelude.{if◌then◌else◌}
use Rattle.std.specs.List.{AllByRecursion}
use Rattle.std.proofs.lemmas.Bool.Decides.{nat_tests}
use Rattle.mc_base.specs.declared.ids.NodeId.{NodeId}
use Rattle.mc_base.specs.declared.plain.Kind.{Kind}
use Rattle.mc_base.specs.Nodes.{null}
use Rattle.mc_pure.specs.Pure.{Kinds, Pure, IsNode, HasKind, kind_of}
use Rattle.mc_pure.specs.Rows.{nodes_of}
use Rattle.mc_pure.specs.Nodes.{RiseFrom, with_kind}
use Rattle.mc_pure.specs.Known.{with_node}
use Rattle.mc_pure.specs.Whole.{kinds_without}
use Rattle.mc_apply_fold.specs.Forget.Left.{only_kinds, first_kinds}
use Rattle.mc_pure.proofs.Changing.{no, number, yes}

some_none : {x : Kind} → Some x ≡ None → ⊥
some_none e = cc

-- ---- one entry of the kinds

abbrev AreBelow : ℕ → Kinds → Type 0
AreBelow high kinds = AllByRecursion (λ k. k.0.0 < high) kinds

record EntryAt (low : ℕ) (kinds : Kinds) (n : NodeId) (j : ℕ) : Type 0 where
  pub kind : Kind
  pub has : kind_of kinds n ≡ Some kind
  pub next : take (suc j) kinds ≡ take j kinds ++ (n, kind) ∷ []
  pub least : low ≤ n.0
  pub below : AreBelow n.0 (take j kinds)

entry : (low : ℕ) (kinds : Kinds) → RiseFrom low kinds → (j : ℕ) (d : NodeId) → j < length kinds → EntryAt low kinds (get_or (map (λ k. k.0) kinds) j d) j
entry low [] r j d l = absurd (omega arith)
entry low (k ∷ kinds) r zero d l = record { kind = k.1; has = rw (yes k.0.0 k.0.0 refl) refl; next = refl; least = r.0; below = tt }
entry low (k ∷ kinds) r (suc j) d l =
    let h = entry (suc k.0.0) kinds r.1 j d (omega arith) in
    let n : NodeId = get_or (map (λ k. k.0) kinds) j d in
    let first : low ≤ k.0.0 = r.0 in
    let later : suc k.0.0 ≤ n.0 = h.least in
    record { kind = h.kind; has = rw (no k.0.0 n.0 (omega arith)) h.has; next = ap (λ (z : Kinds). k ∷ z) h.next; least = omega arith; below = (omega arith, h.below) }

-- a number below the least has no kind
below_none : (low : ℕ) (kinds : Kinds) (n : NodeId) → RiseFrom low kinds → n.0 < low → kind_of kinds n ≡ None
below_none low [] n r l = refl
below_none low (k ∷ kinds) n r l =
    let first : low ≤ k.0.0 = r.0 in
    rw (no k.0.0 n.0 (omega arith)) (below_none (suc k.0.0) kinds n r.1 (omega arith))

above_none : (kinds : Kinds) (n : NodeId) → AreBelow n.0 kinds → kind_of kinds n ≡ None
above_none [] n b = refl
above_none (k ∷ kinds) n b =
    let first : k.0.0 < n.0 = b.0 in
    rw (no k.0.0 n.0 (omega arith)) (above_none kinds n b.1)

-- a greatest node stands last
last_kind : (kinds : Kinds) (n : NodeId) (kind : Kind) → AreBelow n.0 kinds → with_kind kinds n kind ≡ kinds ++ (n, kind) ∷ []
last_kind [] n kind b = refl
last_kind (k ∷ kinds) n kind b =
    let first : k.0.0 < n.0 = b.0 in
    let later : nat_lt n.0 k.0.0 ≡ false = grind (arith, nat_tests) in
    rw later (ap (λ (z : Kinds). k ∷ z) (last_kind kinds n kind b.1))

-- ---- without a node

module _ (lost : NodeId) where
  lost_last : (kinds : Kinds) (n : NodeId) (kind : Kind) → n.0 ≡ lost.0 → kinds_without (kinds ++ (n, kind) ∷ []) lost ≡ kinds_without kinds lost
  lost_last [] n kind e = rw (yes n.0 lost.0 e) refl
  lost_last (k ∷ kinds) n kind e = at (lost_last kinds n kind e) (nat_eq k.0.0 lost.0)
    where
      at : kinds_without (kinds ++ (n, kind) ∷ []) lost ≡ kinds_without kinds lost → (b : Bool)
          → (if b then kinds_without (kinds ++ (n, kind) ∷ []) lost else k ∷ kinds_without (kinds ++ (n, kind) ∷ []) lost) ≡ (if b then kinds_without kinds lost else k ∷ kinds_without kinds lost)
      at h true = h
      at h false = ap (λ (z : Kinds). k ∷ z) h

  kept_last : (kinds : Kinds) (n : NodeId) (kind : Kind) → n.0 ≢ lost.0 → kinds_without (kinds ++ (n, kind) ∷ []) lost ≡ kinds_without kinds lost ++ (n, kind) ∷ []
  kept_last [] n kind e = rw (no n.0 lost.0 e) refl
  kept_last (k ∷ kinds) n kind e = at (kept_last kinds n kind e) (nat_eq k.0.0 lost.0)
    where
      at : kinds_without (kinds ++ (n, kind) ∷ []) lost ≡ kinds_without kinds lost ++ (n, kind) ∷ [] → (b : Bool)
          → (if b then kinds_without (kinds ++ (n, kind) ∷ []) lost else k ∷ kinds_without (kinds ++ (n, kind) ∷ []) lost) ≡ (if b then kinds_without kinds lost else k ∷ kinds_without kinds lost) ++ (n, kind) ∷ []
      at h true = h
      at h false = ap (λ (z : Kinds). k ∷ z) h

  kept_below : (kinds : Kinds) (high : ℕ) → AreBelow high kinds → AreBelow high (kinds_without kinds lost)
  kept_below [] high b = tt
  kept_below (k ∷ kinds) high b = at (kept_below kinds high b.1) (nat_eq k.0.0 lost.0)
    where
      at : AreBelow high (kinds_without kinds lost) → (c : Bool) → AreBelow high (if c then kinds_without kinds lost else k ∷ kinds_without kinds lost)
      at h true = h
      at h false = (b.0, h)

-- ---- the loop

module _ (kinds : Kinds) (rise : RiseFrom 1 kinds) (lost : NodeId) (ns : List NodeId) (all : ns ≡ nodes_of kinds) where
  abbrev Done : ℕ → Kinds
  Done i = kinds_without (first_kinds i kinds) lost

  abbrev one : ℕ → NodeId → NodeId
  one i d = get_or ns i d

  null_kind : (d : NodeId) → kind_of kinds (one 0 d) ≡ None
  null_kind d = rw all (below_none 1 kinds null rise (omega arith))

  -- the kinds up to a node
  record Taken (i : ℕ) (n : NodeId) : Type 0 where
    pub kind : Kind
    pub has : kind_of kinds n ≡ Some kind
    pub next : first_kinds (i + 1) kinds ≡ first_kinds i kinds ++ (n, kind) ∷ []
    pub positive : 0 < n.0
    pub below : AreBelow n.0 (first_kinds i kinds)

  taken : (j : ℕ) (d : NodeId) → suc j < length ns → Taken (suc j) (one (suc j) d)
  taken j d l =
      let size : length ns ≡ suc (length kinds) = ap (λ (z : List NodeId). length z) all ∙ ap suc (long kinds) in
      let h = entry 1 kinds rise j d (omega arith) in
      let node : one (suc j) d ≡ get_or (map (λ k. k.0) kinds) j d = ap (λ (z : List NodeId). get_or z (suc j) d) all in
      let here : suc j - 1 ≡ j = omega arith in
      let there : (suc j + 1) - 1 ≡ suc j = omega arith in
      rw node (record { kind = h.kind; has = h.has; next = rw (there, here) h.next; positive = h.least; below = rw here h.below })
    where
      long : (ks : Kinds) → length (map (λ k. k.0) ks) ≡ length ks
      long [] = refl
      long (k ∷ ks) = ap suc (long ks)

  taken_at : (i : ℕ) (d : NodeId) (kind : Kind) → i < length ns → kind_of kinds (one i d) ≡ Some kind → Taken i (one i d)
  taken_at zero d kind l has = absurd (some_none (sym has ∙ null_kind d))
  taken_at (suc j) d kind l has = taken j d l

  abbrev left : ℕ → Pure
  left i = only_kinds (Done i)

  -- a node without a kind
  pub node_skip : (i : ℕ) (d : NodeId) (rest : Pure) → i < length ns → kind_of kinds (one i d) ≡ None → rest ≡ left i → rest ≡ left (i + 1)
  node_skip zero d rest l e h =
      let none : 0 - 1 ≡ (0 + 1) - 1 = omega arith in
      h ∙ ap (λ (z : ℕ). only_kinds (kinds_without (take z kinds) lost)) none
  node_skip (suc j) d rest l e h = let t = taken j d l in absurd (some_none (sym t.has ∙ e))

  -- the node that is lost
  pub node_lost : (i : ℕ) (d : NodeId) (kind : Kind) (rest : Pure) → i < length ns → kind_of kinds (one i d) ≡ Some kind → (one i d).0 ≡ lost.0 → rest ≡ left i → rest ≡ left (i + 1)
  node_lost i d kind rest l has e h =
      let t = taken_at i d kind l has in
      h ∙ ap only_kinds (sym (ap (λ (z : Kinds). kinds_without z lost) t.next ∙ lost_last lost (first_kinds i kinds) (one i d) t.kind e))

  -- another node
  below : (i : ℕ) (d : NodeId) (kind : Kind) → i < length ns → kind_of kinds (one i d) ≡ Some kind → AreBelow (one i d).0 (Done i)
  below i d kind l has = let t = taken_at i d kind l has in kept_below lost (first_kinds i kinds) (one i d).0 t.below

  pub node_new : (i : ℕ) (d : NodeId) (kind : Kind) (rest : Pure) → i < length ns → kind_of kinds (one i d) ≡ Some kind → rest ≡ left i → IsNode rest.kinds (one i d) → ⊥
  node_new i d kind rest l has h is = at (subst (λ (z : Pure). HasKind z.kinds is.0 (one i d)) h is.1)
    where
      at : HasKind (Done i) is.0 (one i d) → ⊥
      at (inl e) =
          let t = taken_at i d kind l has in
          let positive : 0 < (one i d).0 = t.positive in
          let zero_is : (one i d).0 ≡ 0 = number e in
          omega arith
      at (inr e) = some_none (sym e ∙ above_none (Done i) (one i d) (below i d kind l has))

  pub node_more : (i : ℕ) (d : NodeId) (kind : Kind) (rest new : Pure) → i < length ns → kind_of kinds (one i d) ≡ Some kind → (one i d).0 ≢ lost.0 → rest ≡ left i → new ≡ with_node rest (one i d) kind → new ≡ left (i + 1)
  node_more i d kind rest new l has e h is =
      let t = taken_at i d kind l has in
      let same : t.kind ≡ kind = one_kind t.kind kind (sym t.has ∙ has) in
      let last = last_kind (Done i) (one i d) kind (below i d kind l has) in
      let next : first_kinds (i + 1) kinds ≡ first_kinds i kinds ++ (one i d, kind) ∷ [] = t.next ∙ ap (λ (z : Kind). first_kinds i kinds ++ (one i d, z) ∷ []) same in
      let more : Done (i + 1) ≡ Done i ++ (one i d, kind) ∷ [] = ap (λ (z : Kinds). kinds_without z lost) next ∙ kept_last lost (first_kinds i kinds) (one i d) kind e in
      is ∙ (ap (λ (z : Pure). with_node z (one i d) kind) h ∙ ap only_kinds (last ∙ sym more))
    where
      one_kind : (a b : Kind) → Some a ≡ Some b → a ≡ b
      one_kind a b e = cc
