-- States with a node more or one for another fit where the states before do.
use Rattle.std.proofs.Common.{◌≡◌, inl, inr, ℕ, suc, ℤ, ◌-ℤ◌, ◌≤ℤ◌, ◌<ℤ◌, pos, List, [], ◌∷◌, Bool, true, false, Option, Some, None, length, map, option_map, slice_get, refl, sym, ◌∙◌, ap, subst, arith, eqb-true, eq-eqb}
use Rattle.std.proofs.lemmas.Int.{ints}
use Rattle.std.specs.Prelude.{◌==◌, if◌then◌else◌}
use Rattle.std.specs.List.{AllByRecursion}
use Rattle.mc_base.specs.declared.ids.EdgeId.{EdgeId}
use Rattle.mc_base.specs.declared.ids.NodeId.{NodeId}
use Rattle.mc_base.specs.declared.plain.Atom.{Atom}
use Rattle.mc_base.specs.declared.plain.Atom.TheVariants.{Eq, Ne, In}
use Rattle.mc_base.specs.declared.plain.Kind.{Kind}
use Rattle.mc_base.specs.declared.plain.Kind.TheVariants.{Int, Ptr}
use Rattle.mc_base.specs.declared.plain.VarInfo.{VarInfo}
use Rattle.mc_base.specs.Atoms.{moved_atom}
use Rattle.mc_base.specs.Nodes.{moved}
use Rattle.mc_flow.specs.declared.defs.rules.Def.{Def}
use Rattle.mc_flow.specs.declared.defs.shapes.StructInfo.{StructInfo}
use Rattle.mc_state.specs.declared.graph.edge.Edge.{Edge}
use Rattle.mc_state.specs.declared.graph.edge.Edge.TheVariants.{Block, Ind, Seg}
use Rattle.mc_state.specs.Graph.Edges.{known_nodes, nodes_of, moved_edge}
use Rattle.mc_state.specs.Graph.Graph.{Edges}
use Rattle.mc_pure.specs.Derived as pure
use Rattle.mc_pure.specs.Derived.{Follows, IsFalse}
use Rattle.mc_pure.specs.Pure as known
use Rattle.mc_pure.specs.Pure.{Kinds, Pure, HasKind, IsNode, IsOffset, IsWellFormed, kind_of, low_of, high_of}
use Rattle.mc_state.specs.State.{State, next_node, pure_of, with_nodes}
use Rattle.mc_state.specs.Facts.{CanMerge, instead}
use Rattle.mc_pure.specs.Whole.{kinds_without}
use Rattle.mc_state.specs.Fits.{IsBounded, HaveKinds, MayHaveKinds, EdgeFitsDefs, EdgeFitsStructs, FitsProgram}
use Rattle.mc_state.specs.Laws.{NewNodesHaveKinds}
use Rattle.mc_rules_logic.specs.Fold.Laws.{LawOfSpare, LawOfMerge}
use Rattle.mc_rules_logic.specs.Fold.MadeLaws.{SpareStaysMade, MergeStaysMade}
use Rattle.mc_state.proofs.Lists.{all_append, all_left, all_right}

-- ---- kinds that nodes keep

module _ {X : Type 0} where
  pub all_more : (P Q : X → Type 0) → ((x : X) → P x → Q x) → (xs : List X) → AllByRecursion P xs → AllByRecursion Q xs
  all_more P Q f [] a = tt
  all_more P Q f (x ∷ xs) a = (f x a.0, all_more P Q f xs a.1)

  pub all_true : (P : X → Type 0) → ((x : X) → P x) → (xs : List X) → AllByRecursion P xs
  all_true P f [] = tt
  all_true P f (x ∷ xs) = (f x, all_true P f xs)

-- nodes of a sort have their kinds in another list too
module _ (kinds others : Kinds) (Q : NodeId → Type 0) (more : (kind : Kind) (n : NodeId) → Q n → HasKind kinds kind n → HasKind others kind n) where
  have_more : (ks : List Kind) (ns : List NodeId) → AllByRecursion Q ns → HaveKinds kinds ks ns → HaveKinds others ks ns
  have_more [] [] q h = tt
  have_more [] (n ∷ ns) q h = absurd h
  have_more (k ∷ ks) [] q h = absurd h
  have_more (k ∷ ks) (n ∷ ns) q h = (more k n q.0 h.0, have_more ks ns q.1 h.1)

  pub may_more : (ks : List Kind) (ns : List (Option NodeId)) → AllByRecursion Q (known_nodes ns) → MayHaveKinds kinds ks ns → MayHaveKinds others ks ns
  may_more [] [] q h = tt
  may_more [] (n ∷ ns) q h = absurd h
  may_more (k ∷ ks) [] q h = absurd h
  may_more (k ∷ ks) (None ∷ ns) q h = (tt, may_more ks ns q h.1)
  may_more (k ∷ ks) (Some n ∷ ns) q h = (more k n q.0 h.0, may_more ks ns q.1 h.1)

  pub defs_more : (defs : List Def) (e : Edge) → AllByRecursion Q (nodes_of e) → EdgeFitsDefs defs kinds e → EdgeFitsDefs defs others e
  defs_more defs (Block at shape fields) q f = (more Ptr at q.0 f.0, f.1)
  defs_more defs (Ind at pred args) q f = (more Ptr at q.0 f.0, (f.1.0, f.1.1, have_more f.1.0.params args q.1 f.1.2))
  defs_more defs (Seg at args pred stop ends) q f =
      let left = all_left Q args (stop ∷ ends) q.1 in
      let right = all_right Q args (stop ∷ ends) q.1 in (
        more Ptr at q.0 f.0,
        (f.1.0, f.1.1, have_more f.1.0.params args left f.1.2),
        more Ptr stop right.0 f.2,
        (f.3.0, f.3.1, have_more f.3.0.params ends right.1 f.3.2),
      )

  pub structs_more : (structs : List StructInfo) (e : Edge) → AllByRecursion Q (nodes_of e) → EdgeFitsStructs structs kinds e → EdgeFitsStructs structs others e
  structs_more structs (Block at shape fields) q f = (f.0, f.1, may_more (map (λ x. x.kind) f.0.fields) fields q.1 f.2)
  structs_more structs (Ind at pred args) q f = tt
  structs_more structs (Seg at args pred stop ends) q f = tt

-- all nodes have their kinds
module _ (kinds others : Kinds) (more : (kind : Kind) (n : NodeId) → HasKind kinds kind n → HasKind others kind n) where
  well_more : (a : Atom) → IsWellFormed kinds a → IsWellFormed others a
  well_more (Eq a b c) w = ((w.0.0, more w.0.0 a w.0.1, more w.0.0 b w.0.2), w.1)
  well_more (Ne a b c) w = ((w.0.0, more w.0.0 a w.0.1, more w.0.0 b w.0.2), w.1)
  well_more (In a lo hi) w = ((w.0.0, more w.0.0 a w.0.1), w.1, w.2)

  abbrev any_node : NodeId → Type 0
  any_node n = Unit {0}

  any_more : (kind : Kind) (n : NodeId) → any_node n → HasKind kinds kind n → HasKind others kind n
  any_more kind n q h = more kind n h

  pub program_more : (vars : List VarInfo) (structs : List StructInfo) (s : State) → FitsProgram vars structs (record s { kinds = kinds }) → FitsProgram vars structs (record s { kinds = others })
  program_more vars structs s f =
      record {
        vars_fit = may_more kinds others any_node any_more (map (λ x. x.kind) vars) s.env (all_true any_node (λ n. tt) (known_nodes s.env)) f.vars_fit;
        blocks_fit =
            all_more (λ (e : EdgeId × Edge). EdgeFitsStructs structs kinds e.1) (λ (e : EdgeId × Edge). EdgeFitsStructs structs others e.1)
            (λ e. structs_more kinds others any_node any_more structs e.1 (all_true any_node (λ n. tt) (nodes_of e.1))) s.graph.edges f.blocks_fit;
      }

  pub all_defs_more : (defs : List Def) (es : Edges) → AllByRecursion (λ e. EdgeFitsDefs defs kinds e.1) es → AllByRecursion (λ e. EdgeFitsDefs defs others e.1) es
  all_defs_more defs es f =
      all_more (λ (e : EdgeId × Edge). EdgeFitsDefs defs kinds e.1) (λ (e : EdgeId × Edge). EdgeFitsDefs defs others e.1)
      (λ e. defs_more kinds others any_node any_more defs e.1 (all_true any_node (λ n. tt) (nodes_of e.1))) es f

-- ---- numbers that are not too large

pub not_below : (a b : ℤ) → (b <ℤ a → ⊥) → a ≤ℤ b
not_below a b n = grind (arith, ints)

-- two ranges of a node meet, where nothing false follows
pub overlap : (p : Pure) (n : NodeId) (lo hi m k : ℤ) → (IsFalse p → ⊥) → Follows p (In n lo hi) → Follows p (In n m k) → (lo ≤ℤ k) × (m ≤ℤ hi)
overlap p n lo hi m k consistent h g = (
  not_below lo k (λ less. consistent (pure.apart (pure.disjoint {c = pos 0} h g (inr (omega (arith, ints)))))),
  not_below m hi (λ less. consistent (pure.apart (pure.disjoint {c = pos 0} h g (inl (omega (arith, ints)))))),
)

-- a kind that is listed stands at a place
kind_place : (kinds : Kinds) (n : NodeId) (kind : Kind) → kind_of kinds n ≡ Some kind → (place : ℕ) × (slice_get kinds place ≡ Some (n, kind))
kind_place [] n kind e = absurd (cc e)
kind_place (k ∷ kinds) n kind e = at (k.0.0 == n.0) refl (kind_place kinds n kind) e
  where
    at : (b : Bool) → (k.0.0 == n.0) ≡ b → (kind_of kinds n ≡ Some kind → (place : ℕ) × (slice_get kinds place ≡ Some (n, kind))) → (if b then Some k.1 else kind_of kinds n) ≡ Some kind → (place : ℕ) × (slice_get (k ∷ kinds) place ≡ Some (n, kind))
    at true is rest e =
        let node : k.0 ≡ n = ap (λ (m : ℕ). record { 0 = m }) (eqb-true k.0.0 n.0 is) in
        let same : k.1 ≡ kind = cc e in
        (0, ap (λ (m : NodeId). Some (m, k.1)) node ∙ ap (λ (x : Kind). Some (n, x)) same)
    at false is rest e = let r = rest e in (suc r.0, r.1)

-- a node lies in the range of its kind
pub in_kind : (p : Pure) (n : NodeId) (kind : Kind) → HasKind p.kinds kind n → Follows p (In n (low_of kind) (high_of kind))
in_kind p n Int (inl e) = rw e (pure.widened {lo = pos 0} {hi = pos 0} {m = low_of Int} {k = high_of Int} (pure.base known.zero) (omega (arith, ints)) (omega (arith, ints)))
in_kind p n Ptr (inl e) = rw e (pure.widened {lo = pos 0} {hi = pos 0} {m = low_of Ptr} {k = high_of Ptr} (pure.base known.zero) (omega (arith, ints)) (omega (arith, ints)))
in_kind p n kind (inr e) = let at = kind_place p.kinds n kind e in pure.base (known.kind at.0 at.1)

-- what moves a number of a kind to one of the kind is an offset
small : (kind : Kind) (add : ℤ) → ((low_of kind -ℤ add) ≤ℤ high_of kind) × (low_of kind ≤ℤ (high_of kind -ℤ add)) → IsOffset add
small Int add h = let low = h.0 in let high = h.1 in (omega (arith, ints), omega (arith, ints))
small Ptr add h = let low = h.0 in let high = h.1 in (omega (arith, ints), omega (arith, ints))

-- ---- a node more

pub spare_made : LawOfSpare → NewNodesHaveKinds → SpareStaysMade
spare_made law new_kinds defs vars structs node add kind s next i w =
    let wide : State = with_nodes s (kind ∷ []) in
    let fresh = new_kinds s (kind ∷ []) w.bounded in
    let more = fresh.1 in
    let bounded = subst (AllByRecursion IsBounded) i.gives (law defs node add kind s next w.bounded i).1 in
    let lies : Follows (pure_of s) (In node (low_of kind -ℤ add) (high_of kind -ℤ add)) = elim i.lies [
      | inl h ↦ h
      | inr wrong ↦ absurd (i.consistent wrong)
    ] in
    let meet = overlap (pure_of s) node (low_of kind -ℤ add) (high_of kind -ℤ add) (low_of kind) (high_of kind) i.consistent lies (in_kind (pure_of s) node kind i.one_kind) in
    let offset : IsOffset add = small kind add meet in
    let atom : IsWellFormed wide.kinds (Eq (next_node s) node add) = ((kind, fresh.0.0, more kind node i.one_kind), offset) in
    rw i.gives (
      record {
        bounded = bounded.0;
        atoms =
            all_append (IsWellFormed wide.kinds) s.atoms (Eq (next_node s) node add ∷ [])
            (all_more (IsWellFormed s.kinds) (IsWellFormed wide.kinds) (well_more s.kinds wide.kinds more) s.atoms w.atoms) (atom, tt);
        fits_defs = all_defs_more s.kinds wide.kinds more defs s.graph.edges w.fits_defs;
        fits_program = record {
          vars_fit = (program_more s.kinds wide.kinds more vars structs s w.fits_program).vars_fit;
          blocks_fit = (program_more s.kinds wide.kinds more vars structs s w.fits_program).blocks_fit;
        };
      },
      tt,
    )

-- ---- one node for another

-- another node keeps its kind
pub kept_kind : (kinds : Kinds) (gone n : NodeId) → (n.0 == gone.0) ≡ false → kind_of (kinds_without kinds gone) n ≡ kind_of kinds n
kept_kind [] gone n differ = refl
kept_kind (k ∷ kinds) gone n differ = at (kept_kind kinds gone n differ) (k.0.0 == gone.0) refl
  where
    at : kind_of (kinds_without kinds gone) n ≡ kind_of kinds n → (here : Bool) → (k.0.0 == gone.0) ≡ here → kind_of (if here then kinds_without kinds gone else k ∷ kinds_without kinds gone) n ≡ (if k.0.0 == n.0 then Some k.1 else kind_of kinds n)
    at rest true is =
        let same : k.0.0 ≡ gone.0 = eqb-true k.0.0 gone.0 is in
        rest ∙ ap (λ b. if b then Some k.1 else kind_of kinds n) (sym (flip k.0.0 n.0 (λ q. clash (sym q ∙ same)))) where
          clash : n.0 ≡ gone.0 → ⊥
          clash q = let shown : (n.0 == gone.0) ≡ true = eq-eqb n.0 gone.0 q in cc (shown, differ)

          flip : (a b : ℕ) → (a ≡ b → ⊥) → (a == b) ≡ false
          flip a b no' = grind arith
    at rest false is = ap (λ o. if k.0.0 == n.0 then Some k.1 else o) rest

-- nodes that are moved have their kinds there
module _ (f : ℕ → ℕ) (kinds others : Kinds) (more : (kind : Kind) (n : NodeId) → HasKind kinds kind n → HasKind others kind (moved f n)) where
  pub have_moved : (ks : List Kind) (ns : List NodeId) → HaveKinds kinds ks ns → HaveKinds others ks (map (moved f) ns)
  have_moved [] [] h = tt
  have_moved [] (n ∷ ns) h = absurd h
  have_moved (k ∷ ks) [] h = absurd h
  have_moved (k ∷ ks) (n ∷ ns) h = (more k n h.0, have_moved ks ns h.1)

  pub may_moved : (ks : List Kind) (ns : List (Option NodeId)) → MayHaveKinds kinds ks ns → MayHaveKinds others ks (map (option_map (moved f)) ns)
  may_moved [] [] h = tt
  may_moved [] (n ∷ ns) h = absurd h
  may_moved (k ∷ ks) [] h = absurd h
  may_moved (k ∷ ks) (None ∷ ns) h = (tt, may_moved ks ns h.1)
  may_moved (k ∷ ks) (Some n ∷ ns) h = (more k n h.0, may_moved ks ns h.1)

  pub count_moved : (ns : List (Option NodeId)) → length (map (option_map (moved f)) ns) ≡ length ns
  count_moved [] = refl
  count_moved (n ∷ ns) = ap suc (count_moved ns)

  pub defs_moved : (defs : List Def) (e : Edge) → EdgeFitsDefs defs kinds e → EdgeFitsDefs defs others (moved_edge f e)
  defs_moved defs (Block at shape fields) h = (more Ptr at h.0, λ p r def rule d l b. count_moved fields ∙ h.1 p r def rule d l b)
  defs_moved defs (Ind at pred args) h = (more Ptr at h.0, (h.1.0, h.1.1, have_moved h.1.0.params args h.1.2))
  defs_moved defs (Seg at args pred stop ends) h = (
    more Ptr at h.0,
    (h.1.0, h.1.1, have_moved h.1.0.params args h.1.2),
    more Ptr stop h.2,
    (h.3.0, h.3.1, have_moved h.3.0.params ends h.3.2),
  )

  pub structs_moved : (structs : List StructInfo) (e : Edge) → EdgeFitsStructs structs kinds e → EdgeFitsStructs structs others (moved_edge f e)
  structs_moved structs (Block at shape fields) h = (h.0, h.1, may_moved (map (λ x. x.kind) h.0.fields) fields h.2)
  structs_moved structs (Ind at pred args) h = tt
  structs_moved structs (Seg at args pred stop ends) h = tt

  well_moved : (a : Atom) → IsWellFormed kinds a → IsWellFormed others (moved_atom f a)
  well_moved (Eq a b c) w = ((w.0.0, more w.0.0 a w.0.1, more w.0.0 b w.0.2), w.1)
  well_moved (Ne a b c) w = ((w.0.0, more w.0.0 a w.0.1, more w.0.0 b w.0.2), w.1)
  well_moved (In a lo hi) w = ((w.0.0, more w.0.0 a w.0.1), w.1, w.2)

  all_moved : {X : Type 0} (P Q : X → Type 0) (g : X → X) → ((x : X) → P x → Q (g x)) → (xs : List X) → AllByRecursion P xs → AllByRecursion Q (map g xs)
  all_moved P Q g step [] a = tt
  all_moved P Q g step (x ∷ xs) a = (step x a.0, all_moved P Q g step xs a.1)

merged_kind : (kinds : Kinds) (keep gone : NodeId) → CanMerge kinds keep gone → (kind : Kind) (n : NodeId) → HasKind kinds kind n → HasKind (kinds_without kinds gone) kind (moved (instead keep.0 gone.0) n)
merged_kind kinds keep gone can kind n has = at (n.0 == gone.0) refl
  where
    apart : (keep.0 == gone.0) ≡ false
    apart = test (keep.0 == gone.0) refl
      where
        test : (b : Bool) → (keep.0 == gone.0) ≡ b → b ≡ false
        test false e = refl
        test true e = absurd (can.differ (ap (λ (k : ℕ). record { 0 = k }) (eqb-true keep.0 gone.0 e)))

    -- the one that goes has the kind
    gone_has : n ≡ gone → kind_of kinds gone ≡ Some kind
    gone_has same = elim has [
      | inl e ↦ absurd (can.not_null (sym same ∙ e))
      | inr e ↦ ap (kind_of kinds) (sym same) ∙ e
    ]

    -- the one that stays has the same kind
    keep_has : kind_of kinds gone ≡ Some kind → HasKind (kinds_without kinds gone) kind keep
    keep_has e = elim can.kind.2 [
      | inl null_is ↦ absurd (can.not_null null_is)
      | inr own ↦ let one : can.kind.0 ≡ kind = cc (own, e) in
          elim can.kind.1 [
            | inl null_is ↦ inl null_is
            | inr k ↦ inr (kept_kind kinds gone keep apart ∙ k ∙ ap (λ (x : Kind). Some x) one)
          ]
    ]

    at : (b : Bool) → (n.0 == gone.0) ≡ b → HasKind (kinds_without kinds gone) kind (record { 0 = if b then keep.0 else n.0 })
    at true is = keep_has (gone_has (ap (λ (k : ℕ). record { 0 = k }) (eqb-true n.0 gone.0 is)))
    at false is = elim has [
      | inl e ↦ inl e
      | inr e ↦ inr (kept_kind kinds gone n is ∙ e)
    ]

pub merge_made : LawOfMerge → MergeStaysMade
merge_made law defs vars structs keep gone s next i w =
    let f : ℕ → ℕ = instead keep.0 gone.0 in
    let others : Kinds = kinds_without s.kinds gone in
    let more = merged_kind s.kinds keep gone i.can in
    let bounded = subst (AllByRecursion IsBounded) i.gives (law defs keep gone s next w.bounded i).0.1 in
    let move : EdgeId × Edge → EdgeId × Edge = λ e. (e.0, moved_edge f e.1) in
    rw i.gives (
      record {
        bounded = bounded.0;
        atoms = all_moved f s.kinds others more (IsWellFormed s.kinds) (IsWellFormed others) (moved_atom f) (well_moved f s.kinds others more) s.atoms w.atoms;
        fits_defs =
            all_moved f s.kinds others more (λ (e : EdgeId × Edge). EdgeFitsDefs defs s.kinds e.1) (λ (e : EdgeId × Edge). EdgeFitsDefs defs others e.1) move
            (λ e h. defs_moved f s.kinds others more defs e.1 h) s.graph.edges w.fits_defs;
        fits_program = record {
          vars_fit = may_moved f s.kinds others more (map (λ x. x.kind) vars) s.env w.fits_program.vars_fit;
          blocks_fit =
              all_moved f s.kinds others more (λ (e : EdgeId × Edge). EdgeFitsStructs structs s.kinds e.1) (λ (e : EdgeId × Edge). EdgeFitsStructs structs others e.1) move
              (λ e h. structs_moved f s.kinds others more structs e.1 h) s.graph.edges w.fits_program.blocks_fit;
        };
      },
      tt,
    )
