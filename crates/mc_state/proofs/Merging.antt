-- Renamings of which no two nodes have one image, and one node in place of another.
use Rattle.std.proofs.Common.{◌≡◌, ◌≢◌, ℕ, [], ◌∷◌, true, false, Some, sym, ap, ◌∙◌, subst, inl, inr, arith, ℤ, pos, eq-eqb}
use Rattle.std.specs.Prelude.{◌==◌, if◌then◌else◌}
use Rattle.std.specs.List.{AllByRecursion}
use Rattle.std.proofs.lemmas.Bool.{cases_eq, ne_eqb}
use Rattle.std.proofs.lemmas.Int.{ints}
use mathlib.Core.Path.{fun_ext}
use Rattle.mc_base.specs.declared.ids.NodeId.{NodeId}
use Rattle.mc_base.specs.declared.plain.Kind.{Kind}
use Rattle.mc_base.specs.declared.plain.Kind.TheVariants.{Int, Ptr}
use Rattle.mc_base.specs.Kinds.{InKind}
use Rattle.mc_base.specs.Nodes.{Valuation, null, moved}
use Rattle.mc_pure.specs.Pure.{Kinds, HasKind, IsNode, kind_of}
use Rattle.mc_state.specs.Facts.{CanMerge, instead}
use Rattle.mc_pure.specs.Whole.{kinds_without}
use Rattle.mc_state.specs.Stands.{StandsBy}
use Rattle.mc_state.specs.Laws.{StandsRenamed, StandsMerged, MergedStands, moved_kinds}
use Rattle.mc_state.proofs.Lists.{all_map, all_of_map}
use Rattle.mc_state.proofs.Nodes.{same_node, first_or, listed_there, listed_once, kind_at, kind_kept, all_without_node}
use Rattle.mc_state.proofs.Images.{moved_gone, moved_other}
use Rattle.mc_state.proofs.Renaming.{renamed_stands, renamed_forth}
use Rattle.mc_state.proofs.Standing.{stands_agree}
use Rattle.mc_state.proofs.Truth.{PureLaws, equal_value}

-- the value of the first node with this image
image : Valuation → (ℕ → ℕ) → Kinds → ℕ → ℤ
image v f [] m = pos 0
image v f (k ∷ kinds) m = if f k.0.0 == m then v k.0.0 else image v f kinds m

image_at : (v : Valuation) (f : ℕ → ℕ) (kinds : Kinds) (n : NodeId) (kind : Kind)
    → v 0 ≡ pos 0 → AllByRecursion (λ (k : NodeId × Kind). f k.0.0 ≡ f n.0 → k.0 ≡ n) kinds → HasKind kinds kind n → image v f kinds (f n.0) ≡ v n.0
unfolding image
image_at v f [] n kind zero once has = elim has [ inl e ↦ sym zero ∙ ap (λ (m : NodeId). v m.0) (sym e) | inr e ↦ cc ]
image_at v f (k ∷ kinds) n kind zero once has = elim (cases_eq (f k.0.0) (f n.0)) [
  | inl same ↦ (let here : (f k.0.0 == f n.0) ≡ true = eq-eqb (f k.0.0) (f n.0) same in rw here (ap (λ (m : NodeId). v m.0) (once.0 same)))
  | inr differ ↦ (
      let there : (f k.0.0 == f n.0) ≡ false = ne_eqb (f k.0.0) (f n.0) differ in
      let rest : HasKind kinds kind n = elim has [
        | inl e ↦ inl e
        | inr e ↦ elim (first_or k kinds n kind e) [ inl is ↦ absurd (differ (ap f is.0)) | inr more ↦ inr more ]
      ] in
      rw there (image_at v f kinds n kind zero once.1 rest))
]

pub stands_renamed : StandsRenamed
stands_renamed defs values region s f next bounded fixed injective stands =
    let v = stands.0 in
    let st = stands.1 in
    let w : Valuation = image v f s.kinds in
    let agree : (n : NodeId) → IsNode s.kinds n → w (f n.0) ≡ v n.0 = λ n there.
    image_at v f s.kinds n there.0 st.null
    (all_map (λ (k : NodeId × Kind). IsNode s.kinds k.0) (λ (k : NodeId × Kind). f k.0.0 ≡ f n.0 → k.0 ≡ n) (λ k listed e. injective k.0 n listed there e) s.kinds (listed_there s.kinds)) there.1 in
    let own = stands_agree defs v (λ n. w (f n)) values region s bounded agree st in (
      w,
      renamed_forth defs w values region s f (moved_kinds f s.kinds) next (ap w (sym fixed) ∙ own.null)
          (all_of_map (λ (k : NodeId × Kind). InKind k.1 (w k.0.0)) (λ (k : NodeId × Kind). (moved f k.0, k.1)) s.kinds own.kinds) own,
    )

-- ---- merging

instead_same : (v : Valuation) (keep gone : NodeId) → v keep.0 ≡ v gone.0 → (n : ℕ) → v n ≡ v (instead keep.0 gone.0 n)
instead_same v keep gone same n =
    let m : NodeId = record { 0 = n } in
    elim (cases_eq n gone.0) [
      | inl e ↦ ap v e ∙ sym same ∙ ap (λ (k : NodeId). v k.0) (sym (moved_gone keep gone m e))
      | inr e ↦ ap (λ (k : NodeId). v k.0) (sym (moved_other keep gone m e))
    ]

pub stands_merged : PureLaws → StandsMerged
stands_merged laws defs v values region s keep gone addresses equal st =
    let same = equal_value laws defs v values region s keep gone addresses st equal in
    renamed_forth defs v values region s (instead keep.0 gone.0) (kinds_without s.kinds gone) s.next st.null
    (all_without_node (λ (k : NodeId × Kind). InKind k.1 (v k.0.0)) s.kinds gone st.kinds)
    (subst (λ (u : Valuation). StandsBy defs u values region s) (fun_ext (instead_same v keep gone same)) st)

zero_in_kind : (kind : Kind) → InKind kind (pos 0)
zero_in_kind Int = (omega (arith, ints), omega (arith, ints))
zero_in_kind Ptr = (omega (arith, ints), omega (arith, ints))

module _ (v : Valuation) (kinds : Kinds) (keep gone : NodeId) (zero : v 0 ≡ pos 0) (merge : CanMerge kinds keep gone) (meet : AllByRecursion (λ (k : NodeId × Kind). InKind k.1 (v k.0.0)) (kinds_without kinds gone)) where
  -- a node that stays has a value of its kind
  kept_in_kind : (n : NodeId) (kind : Kind) → n.0 ≢ gone.0 → kind_of kinds n ≡ Some kind → InKind kind (v n.0)
  kept_in_kind n kind differ e = kind_at (λ (k : NodeId × Kind). InKind k.1 (v k.0.0)) (kinds_without kinds gone) n kind (kind_kept kinds gone n kind differ e) meet

  keep_in_kind : (kind : Kind) → HasKind kinds kind keep → InKind kind (v keep.0)
  keep_in_kind kind has = elim has [
    | inl e ↦ subst (InKind kind) (sym (ap (λ (m : NodeId). v m.0) e ∙ zero)) (zero_in_kind kind)
    | inr e ↦ kept_in_kind keep kind (λ same. merge.differ (same_node keep gone same)) e
  ]

  -- and so has each node, with the value of the one that is kept for the other
  each_in_kind : (k : NodeId × Kind) → kind_of kinds k.0 ≡ Some k.1 → InKind k.1 (v (instead keep.0 gone.0 k.0.0))
  each_in_kind k e = elim (cases_eq k.0.0 gone.0) [
    | inl same ↦ (
        let is = same_node k.0 gone same in
        let kind : kind_of kinds gone ≡ Some merge.kind.0 = elim merge.kind.2 [ inl none ↦ absurd (merge.not_null none) | inr h ↦ h ] in
        let one : merge.kind.0 ≡ k.1 = (let both : Some merge.kind.0 ≡ Some k.1 = sym kind ∙ ap (kind_of kinds) (sym is) ∙ e in cc) in
        subst (InKind k.1) (ap (λ (m : NodeId). v m.0) (sym (moved_gone keep gone k.0 same))) (subst (λ (j : Kind). InKind j (v keep.0)) one (keep_in_kind merge.kind.0 merge.kind.1)))
    | inr other ↦ subst (InKind k.1) (ap (λ (m : NodeId). v m.0) (sym (moved_other keep gone k.0 other))) (kept_in_kind k.0 k.1 other e)
  ]

pub merged_stands : MergedStands
merged_stands defs values region s keep gone bounded merge stands =
    let v = stands.0 in
    let st = stands.1 in
    let f = instead keep.0 gone.0 in
    let zero : NodeId = null in
    let fixed : f 0 ≡ 0 = ap (λ (n : NodeId). n.0) (moved_other keep gone zero (λ e. merge.not_null (same_node gone zero (sym e)))) in (
      λ n. v (f n),
      renamed_stands defs v values region s f (kinds_without s.kinds gone) s.next fixed
          (all_map (λ (k : NodeId × Kind). kind_of s.kinds k.0 ≡ Some k.1) (λ (k : NodeId × Kind). InKind k.1 (v (f k.0.0))) (each_in_kind v s.kinds keep gone st.null merge st.kinds) s.kinds
          (listed_once 1 s.kinds s.next bounded.kinds)) st,
    )
