-- One node in place of another.
use Rattle.std.proofs.Common.{◌≡◌, inl, inr, ℕ, suc, List, [], ◌∷◌, Bool, true, false, Option, Some, map, option_map, refl, sym, ap, subst, ◌∙◌, arith, eqb-true, eq-eqb}
use Rattle.std.specs.Prelude.{◌==◌, if◌then◌else◌}
use Rattle.std.specs.List.{AllByRecursion}
use Rattle.mc_base.specs.declared.ids.NodeId.{NodeId}
use Rattle.mc_base.specs.declared.plain.Kind.{Kind}
use Rattle.mc_base.specs.declared.plain.Atom.{Atom}
use Rattle.mc_base.specs.declared.plain.Atom.TheVariants.{Eq, Ne, In}
use Rattle.mc_base.specs.Atoms.{moved_atom}
use Rattle.mc_base.specs.Nodes.{null, moved}
use Rattle.mc_state.specs.declared.graph.edge.Edge.TheVariants.{Block, Ind, Seg}
use Rattle.mc_state.specs.Graph.Edges.{moved_edge}
use Rattle.mc_state.specs.Graph.Graph.{Graph, Edges, block_starts, moved_graph, no_edges}
use Rattle.mc_pure.specs.Pure.{Pure, Kinds, HasKind, IsWellFormed, kind_of}
use Rattle.mc_pure_ops.specs.Renamed.Renamed as renamed
use Rattle.mc_state.specs.State.{State}
use Rattle.mc_state.specs.Facts.{CanMerge, merged, instead}
use Rattle.mc_state.specs.Fits.{IsBounded}
use Rattle.mc_state.specs.Laws.{MergedStaysBounded}
use Rattle.mc_symbolic.specs.Starts.{how_many, HaveSameNodes}

-- ---- kinds

-- the nodes that are left
abbrev pub left : Kinds → NodeId → Kinds
left kinds gone = (merged null gone (record { env = []; kinds = kinds; graph = no_edges; atoms = []; next = 0; whole = true })).kinds

abbrev pub renamed_left : Kinds → NodeId → Kinds
renamed_left kinds gone = (renamed.merged null gone (record { kinds = kinds; written = []; starts = [] })).kinds

pub same_left : (kinds : Kinds) (gone : NodeId) → renamed_left kinds gone ≡ left kinds gone
same_left [] gone = refl
same_left (k ∷ kinds) gone = at (renamed_left kinds gone) (left kinds gone) (same_left kinds gone) (k.0.0 == gone.0)
  where
    at : (a b : Kinds) → a ≡ b → (h : Bool) → (if h then a else k ∷ a) ≡ (if h then b else k ∷ b)
    at a b e true = e
    at a b e false = ap (λ (z : Kinds). k ∷ z) e

differ : (a b : ℕ) → (a ≡ b → ⊥) → (a == b) ≡ false
differ a b n = grind arith

pub kept_kind : (kinds : Kinds) (gone n : NodeId) → (n.0 == gone.0) ≡ false → kind_of (left kinds gone) n ≡ kind_of kinds n
kept_kind [] gone n e = refl
kept_kind (k ∷ kinds) gone n e = at (kept_kind kinds gone n e) (k.0.0 == gone.0) refl
  where
    at : kind_of (left kinds gone) n ≡ kind_of kinds n → (h : Bool) → (k.0.0 == gone.0) ≡ h → kind_of (if h then left kinds gone else k ∷ left kinds gone) n ≡ (if k.0.0 == n.0 then Some k.1 else kind_of kinds n)
    at rest true is =
        let same : k.0.0 ≡ gone.0 = eqb-true k.0.0 gone.0 is in
        let other : (k.0.0 == n.0) ≡ false = differ k.0.0 n.0 (λ q. clash (sym q ∙ same)) in
        rw other rest
      where
        clash : n.0 ≡ gone.0 → ⊥
        clash q = let shown : (n.0 == gone.0) ≡ true = eq-eqb n.0 gone.0 q in cc (shown, e)
    at rest false is = ap (λ (o : Option Kind). if k.0.0 == n.0 then Some k.1 else o) rest

same_node : (a b : NodeId) → a.0 ≡ b.0 → a ≡ b
same_node a b e = ap (λ (z : ℕ). record { 0 = z }) e

not_same : (a b : NodeId) → (a ≡ b → ⊥) → (a.0 == b.0) ≡ false
not_same a b n = differ a.0 b.0 (λ e. n (same_node a b e))

module _ (kinds : Kinds) (keep gone : NodeId) (can : CanMerge kinds keep gone) where
  abbrev into : ℕ → ℕ
  into = instead keep.0 gone.0

  keep_has : (kind : Kind) → HasKind kinds kind keep → HasKind (left kinds gone) kind keep
  keep_has kind (inl e) = inl e
  keep_has kind (inr e) = inr (kept_kind kinds gone keep (not_same keep gone can.differ) ∙ e)

  gone_kind : (kind : Kind) → HasKind kinds kind gone → kind ≡ can.kind.0
  gone_kind kind h = elim h [
    | inl e ↦ absurd (can.not_null e)
    | inr e ↦ elim can.kind.2 [
      | inl f ↦ absurd (can.not_null f)
      | inr f ↦ one (sym e ∙ f)
    ]
  ]
    where
      one : Some kind ≡ Some can.kind.0 → kind ≡ can.kind.0
      one q = cc

  pub has_moved : (kind : Kind) (n : NodeId) → HasKind kinds kind n → HasKind (left kinds gone) kind (moved into n)
  has_moved kind n h = at (n.0 == gone.0) refl
    where
      at : (b : Bool) → (n.0 == gone.0) ≡ b → HasKind (left kinds gone) kind (record { 0 = if b then keep.0 else n.0 })
      at true is =
          let q : n ≡ gone = same_node n gone (eqb-true n.0 gone.0 is) in
          let k = gone_kind kind (subst (λ (z : NodeId). HasKind kinds kind z) q h) in
          keep_has kind (subst (λ (z : Kind). HasKind kinds z keep) (sym k) can.kind.1)
      at false is = elim h [
        | inl e ↦ inl e
        | inr e ↦ inr (kept_kind kinds gone n is ∙ e)
      ]

  pub formed_moved : (a : Atom) → IsWellFormed kinds a → IsWellFormed (left kinds gone) (moved_atom into a)
  formed_moved (Eq a b c) w = ((w.0.0, has_moved w.0.0 a w.0.1, has_moved w.0.0 b w.0.2), w.1)
  formed_moved (Ne a b c) w = ((w.0.0, has_moved w.0.0 a w.0.1, has_moved w.0.0 b w.0.2), w.1)
  formed_moved (In a lo hi) w = ((w.0.0, has_moved w.0.0 a w.0.1), w.1, w.2)

  pub all_formed_moved : (atoms : List Atom) → AllByRecursion (IsWellFormed kinds) atoms → AllByRecursion (IsWellFormed (left kinds gone)) (map (moved_atom into) atoms)
  all_formed_moved [] w = tt
  all_formed_moved (a ∷ atoms) w = (formed_moved a w.0, all_formed_moved atoms w.1)

-- ---- starts

many_map : (test : NodeId → Bool) (g : NodeId → NodeId) (xs : List NodeId) → how_many test (map g xs) ≡ how_many (λ x. test (g x)) xs
many_map test g [] = refl
many_map test g (x ∷ xs) = ap (λ (z : ℕ). if test (g x) then suc z else z) (many_map test g xs)

starts_moved : (f : ℕ → ℕ) (es : Edges) → block_starts (map (λ e. (e.0, moved_edge f e.1)) es) ≡ map (moved f) (block_starts es)
starts_moved f [] = refl
starts_moved f ((id, Block at shape fields) ∷ es) = ap (λ (z : List NodeId). moved f at ∷ z) (starts_moved f es)
starts_moved f ((id, Ind at pred args) ∷ es) = starts_moved f es
starts_moved f ((id, Seg at args pred stop ends) ∷ es) = starts_moved f es

pub same_moved : (f : ℕ → ℕ) (starts : List NodeId) (g : Graph) → HaveSameNodes starts (block_starts g.edges) → HaveSameNodes (map (moved f) starts) (block_starts (moved_graph f g).edges)
same_moved f starts g same test =
    rw (starts_moved f g.edges) (many_map test (moved f) starts ∙ (same (λ x. test (moved f x)) ∙ sym (many_map test (moved f) (block_starts g.edges))))

-- ---- the merged state is kept

pub record Merges (keep gone : NodeId) (s : State) (env : List (Option NodeId)) (graph : Graph) (pure : Pure) : Type 0 where
  pub bounded : IsBounded (record { env = env; kinds = pure.kinds; graph = graph; atoms = pure.written; next = s.next; whole = s.whole })
  pub same : HaveSameNodes pure.starts (block_starts graph.edges)
  pub formed : AllByRecursion (IsWellFormed pure.kinds) pure.written
  pub is : (let t : State = record { env = env; kinds = pure.kinds; graph = graph; atoms = pure.written; next = s.next; whole = s.whole } in t ≡ merged keep gone s)

pub merges : MergedStaysBounded → (keep gone : NodeId) (s : State) (p : Pure) (env : List (Option NodeId)) (graph : Graph) (pure : Pure) → CanMerge s.kinds keep gone → IsBounded s → p.kinds ≡ s.kinds
    → p.written ≡ s.atoms → AllByRecursion (IsWellFormed s.kinds) s.atoms → HaveSameNodes p.starts (block_starts s.graph.edges) → env ≡ map (option_map (moved (instead keep.0 gone.0))) s.env
    → graph ≡ moved_graph (instead keep.0 gone.0) s.graph → pure ≡ renamed.merged keep gone p → Merges keep gone s env graph pure
merges law keep gone s p env graph pure can b kinds written w same e g q =
    let k : pure.kinds ≡ left s.kinds gone = ap (λ (z : Pure). z.kinds) q ∙ (ap (λ (z : Kinds). renamed_left z gone) kinds ∙ same_left s.kinds gone) in
    let a : pure.written ≡ map (moved_atom (instead keep.0 gone.0)) s.atoms = ap (λ (z : Pure). z.written) q ∙ ap (λ (z : List Atom). map (moved_atom (instead keep.0 gone.0)) z) written in
    let t : pure.starts ≡ map (moved (instead keep.0 gone.0)) p.starts = ap (λ (z : Pure). z.starts) q in
    record {
      bounded = rw (e, g, k, a) (law s keep gone can b);
      same = rw (g, t) (same_moved (instead keep.0 gone.0) p.starts s.graph same);
      formed = rw (k, a) (all_formed_moved s.kinds keep gone can s.atoms w);
      is = rw (e, g, k, a) refl;
    }
