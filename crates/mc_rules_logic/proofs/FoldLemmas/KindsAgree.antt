-- Atoms that follow speak of nodes of one kind, but for numbers and for what ranges say.
use Rattle.std.proofs.Common.{◌≡◌, ◌⊎◌, inl, inr, ℤ, ◌+ℤ◌, ◌-ℤ◌, neg_ℤ, ◌<ℤ◌, pos, List, [], ◌∷◌, subst, arith}
use Rattle.std.proofs.lemmas.Int.{ints}
use Rattle.std.specs.List.{AllByRecursion}
use Rattle.mc_base.specs.declared.ids.NodeId.{NodeId}
use Rattle.mc_base.specs.declared.plain.Atom.{Atom}
use Rattle.mc_base.specs.declared.plain.Atom.TheVariants.{Eq, Ne, In}
use Rattle.mc_base.specs.declared.plain.Kind.{Kind}
use Rattle.mc_base.specs.declared.plain.Kind.TheVariants.{Ptr}
use Rattle.mc_base.specs.Nodes.{null}
use Rattle.mc_flow.specs.declared.defs.rules.Def.{Def}
use Rattle.mc_state.specs.declared.graph.edge.Edge.TheVariants.{Block, Ind, Seg}
use Rattle.mc_state.specs.Graph.Graph.{Edges, block_starts}
use Rattle.mc_pure.specs.Derived.{Follows, base, itself, turned, chained, shifted, met, widened, fixed, differs, differs_along, raised, lowered, disjoint}
use Rattle.mc_pure.specs.Pure as known
use Rattle.mc_pure.specs.Pure.{Kinds, Pure, Base, HasKind, AreOfOneKind, IsWellFormed}
use Rattle.mc_state.specs.State.{State, pure_of}
use Rattle.mc_state.specs.Fits.{EdgeFitsDefs}
use Rattle.mc_rules_logic.proofs.FoldLemmas.Reaching.{among_at, among_all}

-- ranges part two nodes that a number lies between
pub record Parted (p : Pure) (a b : NodeId) (c : ℤ) : Type 0 where
  pub lo : ℤ
  pub hi : ℤ
  pub m : ℤ
  pub k : ℤ
  pub left : Follows p (In a lo hi)
  pub right : Follows p (In b m k)
  pub apart : (hi <ℤ (m +ℤ c)) ⊎ ((k +ℤ c) <ℤ lo)

-- the node is a number
abbrev pub IsNumber : Pure → NodeId → Type 0
IsNumber p n = (c : ℤ) × Follows p (Eq n null c)

-- what an atom that follows says of the kinds of its nodes
abbrev pub KindsAgree : Pure → Atom → Type 0
KindsAgree p (Eq a b c) = AreOfOneKind p.kinds a b ⊎ IsNumber p a
KindsAgree p (Ne a b c) = AreOfOneKind p.kinds a b ⊎ (IsNumber p a ⊎ (IsNumber p b ⊎ Parted p a b c))
KindsAgree p (In n lo hi) = Unit {0}

-- nodes of the kind of one node, which is node 0 or has one kind
joined : (kinds : Kinds) (a b d : NodeId) → AreOfOneKind kinds a b → AreOfOneKind kinds b d → (b ≡ null) ⊎ AreOfOneKind kinds a d
joined kinds a b d x y = elim x.2 [
  | inl e ↦ inl e
  | inr i ↦ elim y.1 [
    | inl e ↦ inl e
    | inr j ↦ let one : y.0 ≡ x.0 = cc (i, j) in inr (x.0, x.1, subst (λ (k : Kind). HasKind kinds k d) one y.2)
  ]
]

module _ (p : Pure) where
  -- a node of a number's class is a number
  number_on : (a b : NodeId) (c : ℤ) → Follows p (Eq a b c) → IsNumber p b → IsNumber p a
  number_on a b c h n = (c +ℤ n.0, chained h n.1)

  pub number_back : (a b : NodeId) (c : ℤ) → Follows p (Eq a b c) → IsNumber p a → IsNumber p b
  number_back a b c h n = number_on b a (neg_ℤ c) (turned h) n

  is_number : (a b : NodeId) (c : ℤ) → Follows p (Eq a b c) → b ≡ null → IsNumber p a
  is_number a b c h e = (c, subst (λ n. Follows p (Eq a n c)) e h)

  agree_turned : (a b : NodeId) (c : ℤ) → Follows p (Eq a b c) → KindsAgree p (Eq a b c) → KindsAgree p (Eq b a (neg_ℤ c))
  agree_turned a b c h (inl one) = inl (one.0, one.2, one.1)
  agree_turned a b c h (inr n) = inr (number_back a b c h n)

  agree_joined : (a b d : NodeId) (c e : ℤ) → Follows p (Eq a b c) → (b ≡ null) ⊎ AreOfOneKind p.kinds a d → KindsAgree p (Eq a d (c +ℤ e))
  agree_joined a b d c e h (inl null_is) = inr (is_number a b c h null_is)
  agree_joined a b d c e h (inr one) = inl one

  agree_chained : (a b d : NodeId) (c e : ℤ) → Follows p (Eq a b c) → KindsAgree p (Eq a b c) → KindsAgree p (Eq b d e) → KindsAgree p (Eq a d (c +ℤ e))
  agree_chained a b d c e h (inr n) y = inr n
  agree_chained a b d c e h (inl x) (inr n) = inr (number_on a b c h n)
  agree_chained a b d c e h (inl x) (inl y) = agree_joined a b d c e h (joined p.kinds a b d x y)

  parted_turned : (a b : NodeId) (c : ℤ) → Parted p a b c → Parted p b a (neg_ℤ c)
  parted_turned a b c r =
      record {
        lo = r.m;
        hi = r.k;
        m = r.lo;
        k = r.hi;
        left = r.right;
        right = r.left;
        apart = elim r.apart [
          | inl less ↦ inr (omega (arith, ints))
          | inr less ↦ inl (omega (arith, ints))
        ];
      }

  agree_differs : (a b : NodeId) (c : ℤ) → KindsAgree p (Ne a b c) → KindsAgree p (Ne b a (neg_ℤ c))
  agree_differs a b c (inl one) = inl (one.0, one.2, one.1)
  agree_differs a b c (inr (inl n)) = inr (inr (inl n))
  agree_differs a b c (inr (inr (inl n))) = inr (inl n)
  agree_differs a b c (inr (inr (inr r))) = inr (inr (inr (parted_turned a b c r)))

  parted_along : (a b d : NodeId) (c e : ℤ) → Follows p (Eq b d e) → Parted p a b c → Parted p a d (c +ℤ e)
  parted_along a b d c e h r =
      record {
        lo = r.lo;
        hi = r.hi;
        m = r.m +ℤ neg_ℤ e;
        k = r.k +ℤ neg_ℤ e;
        left = r.left;
        right = shifted (turned h) r.right;
        apart = elim r.apart [
          | inl less ↦ inl (omega (arith, ints))
          | inr less ↦ inr (omega (arith, ints))
        ];
      }

  along_joined : (a b d : NodeId) (c e : ℤ) → Follows p (Eq b d e) → (b ≡ null) ⊎ AreOfOneKind p.kinds a d → KindsAgree p (Ne a d (c +ℤ e))
  along_joined a b d c e h (inl null_is) = inr (inr (inl (is_number d b (neg_ℤ e) (turned h) null_is)))
  along_joined a b d c e h (inr one) = inl one

  agree_along : (a b d : NodeId) (c e : ℤ) → Follows p (Eq b d e) → KindsAgree p (Ne a b c) → KindsAgree p (Eq b d e) → KindsAgree p (Ne a d (c +ℤ e))
  agree_along a b d c e h (inl x) (inl y) = along_joined a b d c e h (joined p.kinds a b d x y)
  agree_along a b d c e h (inl x) (inr n) = inr (inr (inl (number_back b d e h n)))
  agree_along a b d c e h (inr (inl n)) y = inr (inl n)
  agree_along a b d c e h (inr (inr (inl n))) y = inr (inr (inl (number_back b d e h n)))
  agree_along a b d c e h (inr (inr (inr r))) y = inr (inr (inr (parted_along a b d c e h r)))

  module _ (bases : (f : Atom) → Base p f → KindsAgree p f) where
    pub agree : (f : Atom) → Follows p f → KindsAgree p f
    agree f (base b) = bases f b
    agree _ (itself {a} n) = inl (n.0, n.1, n.1)
    agree _ (turned {a} {b} {c} h) = agree_turned a b c h (agree (Eq a b c) h)
    agree _ (chained {a} {b} {d} {c} {e} h k) = agree_chained a b d c e h (agree (Eq a b c) h) (agree (Eq b d e) k)
    agree _ (shifted h k) = tt
    agree _ (met h k) = tt
    agree _ (widened h low high) = tt
    agree _ (fixed {a} {b} {k} {m} h g) = inr (k -ℤ pos 0, fixed h (base known.zero))
    agree _ (differs {a} {b} {c} h) = agree_differs a b c (agree (Ne a b c) h)
    agree _ (differs_along {a} {b} {d} {c} {e} h k) = agree_along a b d c e k (agree (Ne a b c) h) (agree (Eq b d e) k)
    agree _ (raised h k m) = tt
    agree _ (lowered h k m) = tt
    agree _ (disjoint {a} {b} {c} {lo} {hi} {m} {k} h g apart) = inr (inr (inr (record { lo = lo; hi = hi; m = m; k = k; left = h; right = g; apart = apart })))

-- ---- what a well-made state knows

-- blocks start at pointers
starts_ptr : (defs : List Def) (kinds : Kinds) (es : Edges) → AllByRecursion (λ e. EdgeFitsDefs defs kinds e.1) es → AllByRecursion (HasKind kinds Ptr) (block_starts es)
starts_ptr defs kinds [] f = tt
starts_ptr defs kinds ((id, Block at shape fields) ∷ es) f = (f.0.0, starts_ptr defs kinds es f.1)
starts_ptr defs kinds ((id, Ind at pred args) ∷ es) f = starts_ptr defs kinds es f.1
starts_ptr defs kinds ((id, Seg at args pred stop ends) ∷ es) f = starts_ptr defs kinds es f.1

written_agrees : (p : Pure) (f : Atom) → IsWellFormed p.kinds f → KindsAgree p f
written_agrees p (Eq a b c) w = inl w.0
written_agrees p (Ne a b c) w = inl w.0
written_agrees p (In n lo hi) w = tt

pub base_agrees : (defs : List Def) (s : State) → AllByRecursion (IsWellFormed s.kinds) s.atoms → AllByRecursion (λ e. EdgeFitsDefs defs s.kinds e.1) s.graph.edges → (f : Atom) → Base (pure_of s) f → KindsAgree (pure_of s) f
base_agrees defs s atoms edges f (known.written place e) = written_agrees (pure_of s) f (among_all (IsWellFormed s.kinds) s.atoms f atoms (among_at s.atoms place f e))
base_agrees defs s atoms edges _ known.zero = tt
base_agrees defs s atoms edges _ (known.kind place e) = tt
base_agrees defs s atoms edges _ (known.block place e) = tt
base_agrees defs s atoms edges _ (known.apart {a} {b} i j ne x y) =
    let starts = block_starts s.graph.edges in
    let all = starts_ptr defs s.kinds s.graph.edges edges in
    inl (Ptr, among_all (HasKind s.kinds Ptr) starts a all (among_at starts i a x), among_all (HasKind s.kinds Ptr) starts b all (among_at starts j b y))
