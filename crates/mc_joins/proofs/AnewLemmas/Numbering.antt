-- Nodes that are numbered in order.
use Rattle.std.proofs.Common.{◌≡◌, ◌↔◌, inl, inr, ℕ, zero, suc, ◌<◌, ◌≤◌, ◌+◌, ◌-◌, List, [], ◌∷◌, ◌++◌, Option, Some, None, Bool, true, false, nat_eq, get_or, length, map, take, option_map, refl, sym, ◌∙◌, ap, subst, arith}
use Rattle.std.specs.Prelude.{if◌then◌else◌}
use Rattle.std.specs.List.{AllByRecursion}
use Rattle.mc_base.specs.declared.ids.NodeId.{NodeId}
use Rattle.mc_base.specs.declared.plain.Kind.{Kind}
use Rattle.mc_base.specs.Nodes.{null, moved}
use Rattle.mc_pure.specs.Pure.{Kinds, kind_of}
use Rattle.mc_pure.specs.Rows.{nodes_of}
use Rattle.mc_pure.specs.Nodes.{RiseFrom}
use Rattle.mc_pure_ops.specs.Renaming.Images.{Images, image_of, HasOther, IsWith}
use Rattle.mc_state.specs.State.{State, unknown, with_nodes, next_node}
use Rattle.mc_state.specs.Laws.{moved_kinds}
use Rattle.mc_joins.specs.Same.Same.{place_from}
use Rattle.mc_joins.specs.Anew.Numbers.{AreNumbers, number_of, numbered_nodes, first_kinds}
use Rattle.mc_joins.proofs.AnewLemmas.Lists.{decide, take_all, long_map}
use Rattle.mc_pure.proofs.Changing.{no, yes}

some_none : {X : Type 0} {x : X} → Some x ≡ None → ⊥
some_none e = cc

abbrev AreBelow : ℕ → Kinds → Type 0
AreBelow high kinds = AllByRecursion (λ k. k.0.0 < high) kinds

-- ---- one entry of the kinds

record EntryAt (low place : ℕ) (kinds : Kinds) (n : NodeId) (j : ℕ) : Type 0 where
  pub kind : Kind
  pub has : kind_of kinds n ≡ Some kind
  pub next : take (suc j) kinds ≡ take j kinds ++ (n, kind) ∷ []
  pub size : length (take j kinds) ≡ j
  pub place_is : place_from place kinds n.0 ≡ place + j
  pub least : low ≤ n.0
  pub below : AreBelow n.0 (take j kinds)

entry : (low place : ℕ) (kinds : Kinds) → RiseFrom low kinds → (j : ℕ) (d : NodeId) → j < length kinds → EntryAt low place kinds (get_or (map (λ k. k.0) kinds) j d) j
entry low place [] r j d l = absurd (omega arith)
entry low place (k ∷ kinds) r zero d l =
    let same = yes k.0.0 k.0.0 refl in
    let here : place ≡ place + 0 = omega arith in
    record { kind = k.1; has = rw same refl; next = refl; size = refl; place_is = rw same here; least = r.0; below = tt }
entry low place (k ∷ kinds) r (suc j) d l =
    let h = entry (suc k.0.0) (suc place) kinds r.1 j d (omega arith) in
    let n : NodeId = get_or (map (λ k. k.0) kinds) j d in
    let first : low ≤ k.0.0 = r.0 in
    let later : suc k.0.0 ≤ n.0 = h.least in
    let other = no k.0.0 n.0 (omega arith) in
    let there : suc place + j ≡ place + suc j = omega arith in
    record {
      kind = h.kind;
      has = rw other h.has;
      next = ap (λ (z : Kinds). k ∷ z) h.next;
      size = ap suc h.size;
      place_is = rw other (h.place_is ∙ there);
      least = omega arith;
      below = (omega arith, h.below);
    }

pub below_none : (low : ℕ) (kinds : Kinds) (n : NodeId) → RiseFrom low kinds → n.0 < low → kind_of kinds n ≡ None
below_none low [] n r l = refl
below_none low (k ∷ kinds) n r l =
    let first : low ≤ k.0.0 = r.0 in
    rw (no k.0.0 n.0 (omega arith)) (below_none (suc k.0.0) kinds n r.1 (omega arith))

above_none : (kinds : Kinds) (n : NodeId) → AreBelow n.0 kinds → kind_of kinds n ≡ None
above_none [] n b = refl
above_none (k ∷ kinds) n b =
    let first : k.0.0 < n.0 = b.0 in
    rw (no k.0.0 n.0 (omega arith)) (above_none kinds n b.1)

-- ---- one number more

abbrev node_at : ℕ → NodeId
node_at n = record { 0 = n }

abbrev numb : ℕ → Kinds → NodeId → Option NodeId
numb place kinds n = option_map (λ kind. moved (place_from place kinds) n) (kind_of kinds n)

numb_last : (place : ℕ) (kinds : Kinds) (m n : NodeId) (kind : Kind) → AreBelow m.0 kinds
    → numb place (kinds ++ (m, kind) ∷ []) n ≡ (if nat_eq n.0 m.0 then Some (node_at (place + length kinds)) else numb place kinds n)
numb_last place [] m n kind b = elim (decide m.0 n.0) [
  | inl e ↦ let here : place ≡ place + 0 = omega arith in rw (yes m.0 n.0 e, yes n.0 m.0 (sym e)) (ap (λ (z : ℕ). Some (node_at z)) here)
  | inr e ↦ rw (no m.0 n.0 e, no n.0 m.0 (λ x. e (sym x))) refl
]
numb_last place (k ∷ kinds) m n kind b = elim (decide k.0.0 n.0) [
  | inl e ↦ let first : k.0.0 < m.0 = b.0 in rw (yes k.0.0 n.0 e, no n.0 m.0 (omega arith)) refl
  | inr e ↦
      let there : suc place + length kinds ≡ place + suc (length kinds) = omega arith in
      rw (no k.0.0 n.0 e)
      (numb_last (suc place) kinds m n kind b.1 ∙ ap (λ (z : ℕ). if nat_eq n.0 m.0 then Some (node_at z) else numb (suc place) kinds n) there)
]

moved_last : (f : ℕ → ℕ) (kinds : Kinds) (n : NodeId) (kind : Kind) → moved_kinds f (kinds ++ (n, kind) ∷ []) ≡ moved_kinds f kinds ++ (moved f n, kind) ∷ []
moved_last f [] n kind = refl
moved_last f (k ∷ kinds) n kind = ap (λ (z : Kinds). (moved f k.0, k.1) ∷ z) (moved_last f kinds n kind)

long_last : (kinds : Kinds) (k : NodeId × Kind) → length (kinds ++ k ∷ []) ≡ suc (length kinds)
long_last [] k = refl
long_last (x ∷ kinds) k = ap suc (long_last kinds k)

-- an image that is added
add_yes : (added : Bool) (old new : Images) (m to : NodeId) → (added ≡ true → IsWith old m to new) → ((added ≡ false) ↔ HasOther old m to) → image_of old m ≡ None → IsWith old m to new
add_yes true old new m to y o none = y refl
add_yes false old new m to y o none = let h = o.0 refl in absurd (some_none (sym h.1 ∙ none))

-- ---- the loop

-- a state of nodes alone
abbrev nodes_of_kinds : ℕ → Kinds → ℕ → State
nodes_of_kinds vars ks n = record (unknown vars) { kinds = ks; next = n }

module _ (vars : ℕ) (kinds : Kinds) where
  -- the state with some nodes
  abbrev first_at : Kinds → State
  first_at first = record (unknown vars) { kinds = moved_kinds (place_from 1 kinds) first; next = suc (length first) }

  -- the state with the first nodes
  abbrev pub partial : ℕ → State
  partial i = first_at (first_kinds i kinds)

  pub record Numbering (i : ℕ) (fresh : State) (renaming : Images) : Type 0 where
    pub nodes : fresh ≡ partial i
    pub numbers : AreNumbers (first_kinds i kinds) renaming

  module _ (rise : RiseFrom 1 kinds) (ns : List NodeId) (all : ns ≡ nodes_of kinds) where
    abbrev one : ℕ → NodeId → NodeId
    one i d = get_or ns i d

    null_kind : (d : NodeId) → kind_of kinds (one 0 d) ≡ None
    null_kind d = rw all (below_none 1 kinds null rise (omega arith))

    record Taken (i : ℕ) (n : NodeId) : Type 0 where
      pub kind : Kind
      pub has : kind_of kinds n ≡ Some kind
      pub next : first_kinds (i + 1) kinds ≡ first_kinds i kinds ++ (n, kind) ∷ []
      pub place_is : place_from 1 kinds n.0 ≡ suc (length (first_kinds i kinds))
      pub below : AreBelow n.0 (first_kinds i kinds)

    taken : (j : ℕ) (d : NodeId) → suc j < length ns → Taken (suc j) (one (suc j) d)
    taken j d l =
        let size : length ns ≡ suc (length kinds) = ap (λ (z : List NodeId). length z) all ∙ ap suc (long_map (λ (k : NodeId × Kind). k.0) kinds) in
        let h = entry 1 1 kinds rise j d (omega arith) in
        let node : one (suc j) d ≡ get_or (map (λ k. k.0) kinds) j d = ap (λ (z : List NodeId). get_or z (suc j) d) all in
        let here : suc j - 1 ≡ j = omega arith in
        let there : (suc j + 1) - 1 ≡ suc j = omega arith in
        let long : 1 + j ≡ suc (length (take j kinds)) = let e = h.size in omega arith in
        rw node (record { kind = h.kind; has = h.has; next = rw (there, here) h.next; place_is = rw here (h.place_is ∙ long); below = rw here h.below })

    taken_at : (i : ℕ) (d : NodeId) (kind : Kind) → i < length ns → kind_of kinds (one i d) ≡ Some kind → Taken i (one i d)
    taken_at zero d kind l has = absurd (some_none (sym has ∙ null_kind d))
    taken_at (suc j) d kind l has = taken j d l

    pub numbering_skip : (i : ℕ) (d : NodeId) (fresh : State) (renaming : Images) → i < length ns → kind_of kinds (one i d) ≡ None → Numbering i fresh renaming → Numbering (i + 1) fresh renaming
    numbering_skip zero d fresh renaming l e h =
        let none : 0 - 1 ≡ (0 + 1) - 1 = omega arith in
        record {
          nodes = h.nodes ∙ ap (λ (z : ℕ). first_at (take z kinds)) none;
          numbers = subst (λ (z : ℕ). AreNumbers (take z kinds) renaming) none h.numbers;
        }
    numbering_skip (suc j) d fresh renaming l e h = let t = taken j d l in absurd (some_none (sym t.has ∙ e))

    pub numbering_more : (i : ℕ) (d : NodeId) (kind : Kind) (fresh new : State) (old images : Images) (to : NodeId) (added : Bool)
        → i < length ns → kind_of kinds (one i d) ≡ Some kind → new ≡ with_nodes fresh (kind ∷ []) → to ≡ next_node fresh
        → (added ≡ true → IsWith old (one i d) to images) → ((added ≡ false) ↔ HasOther old (one i d) to)
        → Numbering i fresh old → Numbering (i + 1) new images
    numbering_more i d kind fresh new old images to added l has is goes y o h =
        let t = taken_at i d kind l has in
        let first : Kinds = first_kinds i kinds in
        let m : NodeId = one i d in
        let same : t.kind ≡ kind = one_kind t.kind kind (sym t.has ∙ has) in
        let next : first_kinds (i + 1) kinds ≡ first ++ (m, kind) ∷ [] = t.next ∙ ap (λ (z : Kind). first ++ (m, z) ∷ []) same in
        let nodes_is = ap (λ (z : State). with_nodes z (kind ∷ [])) h.nodes in
        let kinds_is : moved_kinds (place_from 1 kinds) (first_kinds (i + 1) kinds) ≡ moved_kinds (place_from 1 kinds) first ++ (node_at (suc (length first)), kind) ∷ [] =
        ap (λ (z : Kinds). moved_kinds (place_from 1 kinds) z) next
        ∙ (moved_last (place_from 1 kinds) first m kind ∙ ap (λ (z : ℕ). moved_kinds (place_from 1 kinds) first ++ (node_at z, kind) ∷ []) t.place_is) in
        let long = long_last first (m, kind) in
        let size : suc (length (first_kinds (i + 1) kinds)) ≡ suc (length first) + 1 = let e = ap (λ (z : Kinds). length z) next in omega arith in
        let gone : image_of old m ≡ None = h.numbers m ∙ ap (λ (z : Option Kind). option_map (λ kind. moved (place_from 1 first) m) z) (above_none first m t.below) in
        let with = add_yes added old images m to y o gone in
        let to_is : to ≡ node_at (1 + length first) = goes ∙ (ap next_node h.nodes ∙ ap node_at (one_more (length first))) in
        record {
          nodes = is ∙ (nodes_is ∙ sym (made kinds_is size));
          numbers = λ n.
              with n
              ∙ (ap (λ (z : Option NodeId). if nat_eq n.0 m.0 then Some to else z) (h.numbers n)
              ∙ (ap (λ (z : NodeId). if nat_eq n.0 m.0 then Some z else number_of first n) to_is
              ∙ (sym (numb_last 1 first m n kind t.below) ∙ ap (λ (z : Kinds). number_of z n) (sym next))));
        }
      where
        one_kind : (a b : Kind) → Some a ≡ Some b → a ≡ b
        one_kind a b e = cc

        one_more : (k : ℕ) → suc k ≡ 1 + k
        one_more k = omega arith

        made : {ks ls : Kinds} {a b : ℕ} → ks ≡ ls → a ≡ b → nodes_of_kinds vars ks a ≡ nodes_of_kinds vars ls b
        made p q = rw (p, q) refl

    pub numbering_all : (i : ℕ) (fresh : State) (renaming : Images) → length ns ≤ i → Numbering i fresh renaming → (fresh ≡ numbered_nodes vars kinds) × AreNumbers kinds renaming
    numbering_all i fresh renaming l h =
        let size : length ns ≡ suc (length kinds) = ap (λ (z : List NodeId). length z) all ∙ ap suc (long_map (λ (k : NodeId × Kind). k.0) kinds) in
        let whole : first_kinds i kinds ≡ kinds = take_all kinds (i - 1) (omega arith) in (
          h.nodes ∙ ap first_at whole,
          subst (λ (z : Kinds). AreNumbers z renaming) whole h.numbers,
        )
