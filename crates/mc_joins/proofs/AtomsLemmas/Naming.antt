-- A node that is named is the only thing that is new: what is known stays without contradiction.
use Rattle.std.proofs.Common.{◌≡◌, ◌≢◌, ◌⊎◌, ◌++◌, ℤ, ◌+ℤ◌, ◌-ℤ◌, ◌≤ℤ◌, [], ◌∷◌, refl, sym, ◌∙◌, ap, subst, inl, inr, arith}
use Rattle.std.proofs.lemmas.Int.{ints}
use Rattle.mc_base.specs.declared.ids.NodeId.{NodeId}
use Rattle.mc_base.specs.declared.plain.Atom.{Atom}
use Rattle.mc_base.specs.declared.plain.Atom.TheVariants.{Eq, Ne, In}
use Rattle.mc_base.specs.declared.plain.Kind.{Kind}
use Rattle.mc_base.specs.declared.plain.Kind.TheVariants.{Int}
use Rattle.mc_base.specs.Nodes.{null}
use Rattle.mc_pure.specs.declared.rows.Row.{Row}
use Rattle.mc_pure.specs.Pure as pure
use Rattle.mc_pure.specs.Pure.{Pure, Kinds, Base, IsNode, HasKind, kind_of, kind_atom, low_of, high_of}
use Rattle.mc_pure.specs.Derived.{Follows, IsFalse, base, chained, shifted, widened}
use Rattle.mc_pure.specs.Normal.{low, high, Holds, IsNormal}
use Rattle.mc_pure.specs.Classes.{NormalSaysAll}
use Rattle.mc_pure.specs.Laws.{FollowsFromMore}
use Rattle.mc_pure.proofs.Completeness.{not_false}
use Rattle.mc_pure_ops.proofs.CanonLemmas.Nodes.{in_as}
use Rattle.mc_pure.proofs.Changing.{decide}
use Rattle.mc_pure.proofs.Placing.{Entry, here_kind, later_kind}
use Rattle.mc_pure_ops.proofs.JoinLemmas.Follow.{eq_as}
use Rattle.mc_joins.proofs.AtomsLemmas.Finite.{among_left, among_right, among_either, among_cases, among_none}

-- the kind of a node among more
more_kind : (kinds : Kinds) (x : Entry) (kind : Kind) (a : NodeId) → HasKind (kinds ++ x ∷ []) kind a → (a ≡ x.0) ⊎ HasKind kinds kind a
more_kind kinds x kind a (inl e) = inr (inl e)
more_kind [] x kind a (inr e) = elim (decide x.0 a) [
  | inl same ↦ inl (sym same)
  | inr other ↦ (let none = sym (later_kind x [] a other) ∙ e in absurd (cc none))
]
more_kind (k ∷ kinds) x kind a (inr e) = elim (decide k.0 a) [
  | inl same ↦ inr (inr (here_kind k kinds a same ∙ (sym (here_kind k (kinds ++ x ∷ []) a same) ∙ e)))
  | inr other ↦ elim (more_kind kinds x kind a (inr (sym (later_kind k (kinds ++ x ∷ []) a other) ∙ e))) [
    | inl new ↦ inl new
    | inr old ↦ inr (elim old [ inl z ↦ inl z | inr h ↦ inr (later_kind k kinds a other ∙ h) ])
  ]
]

pub first_kind : (kinds : Kinds) (x : Entry) (kind : Kind) (a : NodeId) → HasKind kinds kind a → HasKind (kinds ++ x ∷ []) kind a
first_kind kinds x kind a (inl e) = inl e
first_kind [] x kind a (inr e) = absurd (cc e)
first_kind (k ∷ kinds) x kind a (inr e) = elim (decide k.0 a) [
  | inl same ↦ inr (here_kind k (kinds ++ x ∷ []) a same ∙ (sym (here_kind k kinds a same) ∙ e))
  | inr other ↦ elim (first_kind kinds x kind a (inr (sym (later_kind k kinds a other) ∙ e))) [
    | inl z ↦ inl z
    | inr h ↦ inr (later_kind k (kinds ++ x ∷ []) a other ∙ h)
  ]
]

last_kind : (kinds : Kinds) (n : NodeId) (kind : Kind) → (own : Kind) × HasKind (kinds ++ (n, kind) ∷ []) own n
last_kind [] n kind = (kind, inr (here_kind (n, kind) [] n refl))
last_kind (k ∷ kinds) n kind = elim (decide k.0 n) [
  | inl same ↦ (k.1, inr (here_kind k (kinds ++ (n, kind) ∷ []) n same))
  | inr other ↦ (let rest = last_kind kinds n kind in (rest.0, elim rest.1 [ inl z ↦ inl z | inr h ↦ inr (later_kind k (kinds ++ (n, kind) ∷ []) n other ∙ h) ]))
]

module _ (says : NormalSaysAll) (grows : FollowsFromMore) (p : Pure) (nf : NodeId → Row) (normal : IsNormal p nf) (n : NodeId) (fresh : IsNode p.kinds n → ⊥)
    (node : NodeId) (there : IsNode p.kinds node) (add : ℤ) (kind : Kind) (lies : Follows p (In node (low_of kind -ℤ add) (high_of kind -ℤ add))) where
  -- with one node more, which is another and a number more
  abbrev q : Pure
  q = record { kinds = p.kinds ++ (n, kind) ∷ []; written = p.written ++ Eq n node add ∷ []; starts = p.starts }

  node_split : (a : NodeId) → IsNode q.kinds a → (a ≡ n) ⊎ IsNode p.kinds a
  node_split a h = elim (more_kind p.kinds (n, kind) h.0 a h.1) [ inl e ↦ inl e | inr k ↦ inr (h.0, k) ]

  node_kept : (a : NodeId) → IsNode p.kinds a → IsNode q.kinds a
  node_kept a h = (h.0, first_kind p.kinds (n, kind) h.0 a h.1)

  apart : (a : NodeId) → IsNode p.kinds a → a ≢ n
  apart a h e = fresh (subst (λ (m : NodeId). IsNode p.kinds m) e h)

  -- what is known from the beginning
  data Known (f : Atom) : Type 0 where
    old : Base p f → Known f
    named : f ≡ Eq n node add → Known f
    in_kind : f ≡ kind_atom n kind → Known f

  known_by : (f : Atom) → Base q f → Known f
  known_by f (pure.written i e) = elim (among_either p.written (Eq n node add ∷ []) f (i, e)) [
    | inl m ↦ old (pure.written m.0 m.1)
    | inr m ↦ elim (among_cases (Eq n node add) [] f m) [ inl same ↦ named (sym same) | inr none ↦ absurd (among_none f none) ]
  ]
  known_by _ pure.zero = old pure.zero
  known_by _ (pure.kind {n = a} {k} i e) = elim (among_either p.kinds ((n, kind) ∷ []) (a, k) (i, e)) [
    | inl m ↦ old (pure.kind m.0 m.1)
    | inr m ↦ elim (among_cases (n, kind) [] (a, k) m) [
      | inl same ↦ in_kind (sym (ap (λ (x : Entry). kind_atom x.0 x.1) same))
      | inr none ↦ absurd (among_none (a, k) none)
    ]
  ]
  known_by _ (pure.block i e) = old (pure.block i e)
  known_by _ (pure.apart i j ne e d) = old (pure.apart i j ne e d)

  base_kept : (f : Atom) → Base p f → Follows q f
  base_kept f (pure.written i e) = let m = among_left p.written (Eq n node add ∷ []) f (i, e) in base (pure.written m.0 m.1)
  base_kept _ pure.zero = base pure.zero
  base_kept _ (pure.kind {n = a} {k} i e) = let m = among_left p.kinds ((n, kind) ∷ []) (a, k) (i, e) in base (pure.kind m.0 m.1)
  base_kept _ (pure.block i e) = base (pure.block i e)
  base_kept _ (pure.apart i j ne e d) = base (pure.apart i j ne e d)

  pub kept : (f : Atom) → Follows p f → Follows q f
  kept f d = grows p q node_kept base_kept f d

  the_name : Follows q (Eq n node add)
  the_name = let m = among_right p.written (Eq n node add ∷ []) (Eq n node add) (0, refl) in base (pure.written m.0 m.1)

  -- the row of the new node is that of the other, moved
  abbrev new_row : Row
  new_row = record { node = n; rep = (nf node).rep; off = (nf node).off +ℤ add; lo = (nf node).lo; hi = (nf node).hi }

  abbrev row_by : (a : NodeId) → (a ≡ n) ⊎ (a ≢ n) → Row
  row_by a (inl e) = new_row
  row_by a (inr other) = nf a

  nf' : NodeId → Row
  nf' a = row_by a (decide a n)

  row_here : nf' n ≡ new_row
  unfolding nf'
  row_here = at (decide n n)
    where
      at : (o : (n ≡ n) ⊎ (n ≢ n)) → row_by n o ≡ new_row
      at (inl e) = refl
      at (inr other) = absurd (other refl)

  row_there : (a : NodeId) → a ≢ n → nf' a ≡ nf a
  unfolding nf'
  row_there a other = at (decide a n)
    where
      at : (o : (a ≡ n) ⊎ (a ≢ n)) → row_by a o ≡ nf a
      at (inl e) = absurd (other e)
      at (inr x) = refl

  by_node : (T : NodeId → Row → Type 0) → T n new_row → ((a : NodeId) → IsNode p.kinds a → T a (nf a)) → (a : NodeId) → IsNode q.kinds a → T a (nf' a)
  by_node T new rest a h = elim (node_split a h) [
    | inl e ↦ subst (λ (x : NodeId). T x (nf' x)) (sym e) (subst (T n) (sym row_here) new)
    | inr k ↦ subst (T a) (sym (row_there a (apart a k))) (rest a k)
  ]

  abbrev SoundRow : NodeId → Row → Type 0
  SoundRow a r = Follows q (Eq a r.rep r.off) × Follows q (In a (low r) (high r))

  sound_new : SoundRow n new_row
  sound_new =
      let s = normal.sound node there in (
        eq_as q (chained the_name (kept _ s.equal)) refl refl (omega (arith, ints)),
        in_as q (shifted the_name (kept _ s.within)) (omega (arith, ints)) (omega (arith, ints)),
      )

  null_there : IsNode p.kinds null
  null_there = (Int, inl refl)

  null_row : nf' null ≡ nf null
  null_row = row_there null (apart null null_there)

  abbrev Coheres : Row → Row → Type 0
  Coheres r s = r.rep ≡ s.rep → (r.lo ≡ s.lo) × (r.hi ≡ s.hi)

  coheres_with : (a : NodeId) → IsNode p.kinds a → (b : NodeId) → IsNode q.kinds b → Coheres (nf a) (nf' b)
  coheres_with a h b k = by_node (λ (x : NodeId) (r : Row). Coheres (nf a) r) (normal.coherent a node h there) (λ x hx. normal.coherent a x h hx) b k

  -- of two old nodes
  both_old : (T : Row → Row → Type 0) (a b : NodeId) → IsNode p.kinds a → IsNode p.kinds b → T (nf a) (nf b) → T (nf' a) (nf' b)
  both_old T a b h k t = subst (λ (r : Row). T r (nf' b)) (sym (row_there a (apart a h))) (subst (λ (r : Row). T (nf a) r) (sym (row_there b (apart b k))) t)

  holds_eq : (a b : NodeId) (c : ℤ) → Holds p nf (Eq a b c) → Holds q nf' (Eq a b c)
  holds_eq a b c h =
      let both = both_old (λ (r s : Row). (r.rep ≡ s.rep) × (r.off ≡ s.off +ℤ c)) a b h.0 h.1 (h.2, h.3) in
      (node_kept a h.0, node_kept b h.1, both.0, both.1)

  holds_in : (a : NodeId) (l h : ℤ) → Holds p nf (In a l h) → Holds q nf' (In a l h)
  holds_in a l h k =
      let ends = subst (λ (r : Row). (l ≤ℤ low r) × (high r ≤ℤ h)) (sym (row_there a (apart a k.0))) (k.1, k.2) in
      (node_kept a k.0, ends.0, ends.1)

  new_there : IsNode q.kinds n
  new_there = last_kind p.kinds n kind

  named_holds : (a b : NodeId) (c : ℤ) → Eq a b c ≡ Eq n node add → Holds q nf' (Eq a b c)
  named_holds a b c e =
      let left : a ≡ n = left_of e in
      let right : b ≡ node = right_of e in
      let by : c ≡ add = by_of e in
      let new = subst (λ (r : Row). (r.rep ≡ (nf' node).rep) × (r.off ≡ (nf' node).off +ℤ add)) (sym row_here)
      (subst (λ (r : Row). ((nf node).rep ≡ r.rep) × ((nf node).off +ℤ add ≡ r.off +ℤ add)) (sym (row_there node (apart node there))) (refl, refl)) in
      subst (λ (x : NodeId). Holds q nf' (Eq x b c)) (sym left)
      (subst (λ (y : NodeId). Holds q nf' (Eq n y c)) (sym right) (subst (λ (z : ℤ). Holds q nf' (Eq n node z)) (sym by) (new_there, node_kept node there, new.0, new.1)))
    where
      left_of : {x y u v : NodeId} {m k : ℤ} → Eq x y m ≡ Eq u v k → x ≡ u
      left_of e = cc

      right_of : {x y u v : NodeId} {m k : ℤ} → Eq x y m ≡ Eq u v k → y ≡ v
      right_of e = cc

      by_of : {x y u v : NodeId} {m k : ℤ} → Eq x y m ≡ Eq u v k → m ≡ k
      by_of e = cc

  kind_holds : (a : NodeId) (l h : ℤ) → In a l h ≡ kind_atom n kind → Holds q nf' (In a l h)
  kind_holds a l h e =
      let k = says p nf normal (In node (low_of kind -ℤ add) (high_of kind -ℤ add)) lies in
      let ends = subst (λ (r : Row). (low_of kind ≤ℤ low r) × (high r ≤ℤ high_of kind)) (sym row_here) (omega (arith, ints, k.1), omega (arith, ints, k.2)) in
      subst (λ (f : Atom). Holds q nf' f) (sym e) (new_there, ends.0, ends.1)

  equals : (a b : NodeId) (c : ℤ) → Known (Eq a b c) → Holds q nf' (Eq a b c)
  equals a b c (old m) = holds_eq a b c (normal.equals a b c m)
  equals a b c (named e) = named_holds a b c e
  equals a b c (in_kind e) = absurd (cc e)

  ranges : (a : NodeId) (l h : ℤ) → Known (In a l h) → Holds q nf' (In a l h)
  ranges a l h (old m) = holds_in a l h (normal.ranges a l h m)
  ranges a l h (named e) = absurd (cc e)
  ranges a l h (in_kind e) = kind_holds a l h e

  differs : (a b : NodeId) (c : ℤ) → Known (Ne a b c) → Base p (Ne a b c)
  differs a b c (old m) = m
  differs a b c (named e) = absurd (cc e)
  differs a b c (in_kind e) = absurd (cc e)

  by_ne : (T : Row → Row → ℤ → Type 0) → ((a b : NodeId) (c : ℤ) → Base p (Ne a b c) → T (nf a) (nf b) c) → (a b : NodeId) (c : ℤ) → Base q (Ne a b c) → T (nf' a) (nf' b) c
  by_ne T t a b c m =
      let own = differs a b c (known_by (Ne a b c) m) in
      let nodes = normal.known a b c own in
      both_old (λ (r s : Row). T r s c) a b nodes.0 nodes.1 (t a b c own)

  extended : IsNormal q nf'
  extended = record {
    sound = λ a h. let s = by_node SoundRow sound_new (λ b k. (kept _ (normal.sound b k).equal, kept _ (normal.sound b k).within)) a h in record { equal = s.0; within = s.1 };
    coherent = λ a b h k. by_node (λ (x : NodeId) (r : Row). Coheres r (nf' b)) (coheres_with node there b k) (λ x hx. coheres_with x hx b k) a h;
    full = by_node (λ (x : NodeId) (r : Row). r.lo ≤ℤ r.hi) (normal.full node there) normal.full;
    origin = node_kept null null_there;
    pinned = λ a h e. by_node (λ (x : NodeId) (r : Row). r.lo ≡ r.hi → r.rep ≡ (nf null).rep) (normal.pinned node there) normal.pinned a h e ∙ ap (λ (r : Row). r.rep) (sym null_row);
    equals = λ a b c m. equals a b c (known_by (Eq a b c) m);
    ranges = λ a l h m. ranges a l h (known_by (In a l h) m);
    known = λ a b c m. let nodes = normal.known a b c (differs a b c (known_by (Ne a b c) m)) in (node_kept a nodes.0, node_kept b nodes.1);
    differ = by_ne (λ (r s : Row) (c : ℤ). r.rep ≡ s.rep → r.off ≢ s.off +ℤ c) normal.differ;
    narrow = by_ne (λ (r s : Row) (c : ℤ). s.lo ≡ s.hi → (low r ≢ low s +ℤ c) × (high r ≢ low s +ℤ c)) normal.narrow;
    narrow' = by_ne (λ (r s : Row) (c : ℤ). r.lo ≡ r.hi → (low r ≢ low s +ℤ c) × (low r ≢ high s +ℤ c)) normal.narrow';
  }

  pub stays_true : IsFalse q → ⊥
  stays_true w = not_false q nf' extended w

  -- and of the nodes that were there no smaller range is entailed
  pub no_new_range : (a : NodeId) (l h : ℤ) → IsNode p.kinds a → Follows q (In a l h) → Follows p (In a l h)
  no_new_range a l h there d =
      let x = says q nf' extended (In a l h) d in
      let ends = subst (λ (r : Row). (l ≤ℤ low r) × (high r ≤ℤ h)) (row_there a (apart a there)) (x.1, x.2) in
      widened (normal.sound a there).within ends.0 ends.1
