-- What is found from null and the variables is what is reached.
use Rattle.std.proofs.Common.{◌≡◌, ◌≢◌, ◌⊎◌, inl, inr, ◌<◌, ◌≤◌, ◌+◌, ◌-◌, ◌↔◌, ℕ, zero, suc, List, [], ◌∷◌, ◌++◌, Bool, true, false, Option, Some, None, pos, neg_ℤ, slice_get, get_or, replicate, length, length-append, refl, sym, ap, subst, ◌∙◌, arith}
use Rattle.std.specs.Prelude.{slice_set, Contains}
use Rattle.std.specs.List.{AllByRecursion}
use Rattle.std.proofs.lemmas.Option.{slice_get_within, slice_get-get_or}
use Rattle.mc_base.specs.declared.ids.EdgeId.{EdgeId}
use Rattle.mc_base.specs.declared.ids.NodeId.{NodeId}
use Rattle.mc_base.specs.declared.plain.Kind.TheVariants.{Ptr}
use Rattle.mc_base.specs.Nodes.{null}
use Rattle.mc_state.specs.declared.graph.edge.Edge.{Edge}
use Rattle.mc_state.specs.Graph.Edges.{start_of, nodes_of, known_nodes}
use Rattle.mc_state.specs.Graph.Graph.{Edges}
use Rattle.mc_pure.specs.Derived as pure
use Rattle.mc_pure.specs.Pure.{Kinds, IsNode}
use Rattle.mc_state.specs.State.{State}
use Rattle.mc_state.specs.Facts.{IsFalse, AreEqual, IsReached}
use Rattle.mc_state.specs.Facts as facts
use Rattle.mc_state.specs.Fits.{AreNodes, IsBounded}
use Rattle.mc_symbolic.specs.Reached.{IsAmong, AreReached, AreOpened, pending, IsOpened, Opens, Searches}

-- ---- lists

pub one_item : {X : Type 0} (xs : List X) (k : ℕ) (x y : X) → slice_get xs k ≡ Some x → slice_get xs k ≡ Some y → x ≡ y
one_item xs k x y e f = cc

still_there : {X : Type 0} (xs ys : List X) (k : ℕ) (x : X) → slice_get xs k ≡ Some x → slice_get (xs ++ ys) k ≡ Some x
still_there [] ys k x e = cc
still_there (z ∷ xs) ys zero x e = e
still_there (z ∷ xs) ys (suc k) x e = still_there xs ys k x e

behind_there : {X : Type 0} (xs ys : List X) (k : ℕ) (x : X) → slice_get ys k ≡ Some x → (j : ℕ) × (slice_get (xs ++ ys) j ≡ Some x)
behind_there [] ys k x e = (k, e)
behind_there (z ∷ xs) ys k x e = let h = behind_there xs ys k x e in (suc h.0, h.1)

parted : {X : Type 0} (xs ys : List X) (k : ℕ) (x : X) → slice_get (xs ++ ys) k ≡ Some x → (slice_get xs k ≡ Some x) ⊎ ((j : ℕ) × (slice_get ys j ≡ Some x))
parted [] ys k x e = inr (k, e)
parted (z ∷ xs) ys zero x e = inl e
parted (z ∷ xs) ys (suc k) x e = parted xs ys k x e

pub among_contains : (xs : List NodeId) (n : NodeId) → Contains xs n → IsAmong xs n
among_contains xs n c = (c.0, slice_get-get_or xs c.0 n c.1 ∙ ap (λ (z : NodeId). Some z) c.2)

contains_among : (xs : List NodeId) (n : NodeId) (k : ℕ) → slice_get xs k ≡ Some n → Contains xs n
contains_among xs n k e =
    let w = slice_get_within xs k n e in
    (k, w, one_item xs k (get_or xs k n) n (slice_get-get_or xs k n w) e)

set_there : (xs : List Bool) (i : ℕ) → i < length xs → slice_get (slice_set xs i true) i ≡ Some true
set_there [] i l = absurd (omega arith)
set_there (x ∷ xs) zero l = refl
set_there (x ∷ xs) (suc i) l = set_there xs i (omega arith)

set_still : (xs : List Bool) (i j : ℕ) → slice_get xs j ≡ Some true → slice_get (slice_set xs i true) j ≡ Some true
set_still [] i j e = e
set_still (x ∷ xs) zero zero e = refl
set_still (x ∷ xs) zero (suc j) e = e
set_still (x ∷ xs) (suc i) zero e = e
set_still (x ∷ xs) (suc i) (suc j) e = set_still xs i j e

set_back : (xs : List Bool) (i j : ℕ) → slice_get (slice_set xs i true) j ≡ Some true → (i ≡ j) ⊎ (slice_get xs j ≡ Some true)
set_back [] i j e = inr e
set_back (x ∷ xs) zero zero e = inl refl
set_back (x ∷ xs) zero (suc j) e = inr e
set_back (x ∷ xs) (suc i) zero e = inr e
set_back (x ∷ xs) (suc i) (suc j) e = elim (set_back xs i j e) [ inl q ↦ inl (ap suc q) | inr q ↦ inr q ]

set_length : (xs : List Bool) (i : ℕ) → length (slice_set xs i true) ≡ length xs
set_length [] i = refl
set_length (x ∷ xs) zero = refl
set_length (x ∷ xs) (suc i) = ap suc (set_length xs i)

pending_less : (used : List Bool) (es : Edges) (i : ℕ) (e : EdgeId × Edge) → slice_get used i ≡ Some false → slice_get es i ≡ Some e → length (nodes_of e.1) + pending (slice_set used i true) es ≡ pending used es
pending_less [] es i e u q = cc
pending_less (b ∷ used) [] i e u q = cc
pending_less (true ∷ used) (x ∷ es) zero e u q = absurd (cc u)
pending_less (false ∷ used) (x ∷ es) zero e u q = let s : x ≡ e = cc in ap (λ (z : EdgeId × Edge). length (nodes_of z.1) + pending used es) (sym s)
pending_less (true ∷ used) (x ∷ es) (suc i) e u q = pending_less used es i e u q
pending_less (false ∷ used) (x ∷ es) (suc i) e u q = let h = pending_less used es i e u q in omega arith

-- ---- one edge after the other

module _ (s : State) (node : NodeId) (f : List NodeId) (u : List Bool) where
  pub opens_start : Opens s node 0 f u f u
  opens_start = record {
    more = λ k n e. e;
    still = λ i e. e;
    sound = λ r a. a;
    opened = λ a. a;
    done = λ i e l. absurd (omega arith);
    long = refl;
    weight = refl;
  }

  split : (i place : ℕ) → i < place + 1 → (i < place) ⊎ (i ≡ place)
  split i place l = grind arith

  -- the edge is left
  opens_left : (place : ℕ) (f' : List NodeId) (u' : List Bool) → Opens s node place f u f' u' → ((e : EdgeId × Edge) → slice_get s.graph.edges place ≡ Some e → AreEqual s (start_of e.1) node → slice_get u' place ≡ Some true) → Opens s node (place + 1) f u f' u'
  opens_left place f' u' o here = record {
    more = o.more;
    still = o.still;
    sound = o.sound;
    opened = o.opened;
    done = λ i e l t q. elim (split i place l) [
      | inl x ↦ o.done i e x t q
      | inr x ↦ subst (λ (z : ℕ). slice_get u' z ≡ Some true) (sym x) (here e (subst (λ (z : ℕ). slice_get s.graph.edges z ≡ Some e) x t) q)
    ];
    long = o.long;
    weight = o.weight;
  }

  -- the edge is used
  opens_used : (place : ℕ) (f' : List NodeId) (u' : List Bool) (e : EdgeId × Edge) → Opens s node place f u f' u' → slice_get s.graph.edges place ≡ Some e → AreEqual s (start_of e.1) node → slice_get u' place ≡ Some false → Opens s node (place + 1) f u (f' ++ nodes_of e.1) (slice_set u' place true)
  opens_used place f' u' e o there q free = record {
    more = λ k n h. still_there f' (nodes_of e.1) k n (o.more k n h);
    still = λ i h. set_still u' place i (o.still i h);
    sound = λ r a k n h. elim (parted f' (nodes_of e.1) k n h) [
      | inl x ↦ o.sound r a k n x
      | inr x ↦ facts.IsReached.along_edge place e.0 e.1 there (facts.IsReached.along_equal r (turned q)) (contains_among (nodes_of e.1) n x.0 x.1)
    ];
    opened = λ a i x h t n c. elim (set_back u' place i h) [
      | inl same ↦
          let one : e ≡ x = one_item s.graph.edges i e x (subst (λ (z : ℕ). slice_get s.graph.edges z ≡ Some e) same there) t in
          let k = among_contains (nodes_of x.1) n c in
          behind_there f' (nodes_of e.1) k.0 n (subst (λ (z : EdgeId × Edge). slice_get (nodes_of z.1) k.0 ≡ Some n) (sym one) k.1)
      | inr old ↦ (let k = o.opened a i x old t n c in (k.0, still_there f' (nodes_of e.1) k.0 n k.1))
    ];
    done = λ i x l t z. elim (split i place l) [
      | inl y ↦ set_still u' place i (o.done i x y t z)
      | inr y ↦ subst (λ (w : ℕ). slice_get (slice_set u' place true) w ≡ Some true) (sym y) (set_there u' place (slice_get_within u' place false free))
    ];
    long = set_length u' place ∙ o.long;
    weight =
        let w = o.weight in
        let p = pending_less u' s.graph.edges place e free there in
        let l = length-append f' (nodes_of e.1) in
        omega arith;
  }
    where
      turned : AreEqual s (start_of e.1) node → AreEqual s node (start_of e.1)
      turned (inl h) = inl (pure.Follows.turned h)
      turned (inr w) = inr w

  pub opens_step : (place : ℕ) (f' : List NodeId) (u' : List Bool) (f'' : List NodeId) (u'' : List Bool) → Opens s node place f u f' u' → IsOpened s node place f' u' f'' u'' → Opens s node (place + 1) f u f'' u''
  opens_step place f' u' f'' u'' o (inl h) = rw (h.0, h.1) (opens_left place f' u' o here)
    where
      here : (e : EdgeId × Edge) → slice_get s.graph.edges place ≡ Some e → AreEqual s (start_of e.1) node → slice_get u' place ≡ Some true
      here e t q = elim h.2 [ inl x ↦ x | inr x ↦ absurd (x e t q) ]
  opens_step place f' u' f'' u'' o (inr h) = rw (h.4, h.5) (opens_used place f' u' h.0 o h.1 h.2 h.3)

-- ---- the search

known_at : (env : List (Option NodeId)) (place : ℕ) (n : NodeId) → slice_get env place ≡ Some (Some n) → IsAmong (known_nodes env) n
known_at [] place n e = cc
known_at (None ∷ env) zero n e = cc
known_at (Some m ∷ env) zero n e = (0, cc)
known_at (None ∷ env) (suc place) n e = known_at env place n e
known_at (Some m ∷ env) (suc place) n e = let k = known_at env place n e in (suc k.0, k.1)

known_back : (env : List (Option NodeId)) (k : ℕ) (n : NodeId) → slice_get (known_nodes env) k ≡ Some n → (place : ℕ) × (slice_get env place ≡ Some (Some n))
known_back [] k n e = cc
known_back (None ∷ env) k n e = let h = known_back env k n e in (suc h.0, h.1)
known_back (Some m ∷ env) zero n e = (0, ap (λ (z : Option NodeId). Some z) e)
known_back (Some m ∷ env) (suc k) n e = let h = known_back env k n e in (suc h.0, h.1)

none_true : (count i : ℕ) → slice_get (replicate count false) i ≡ Some true → ⊥
none_true zero i e = cc
none_true (suc count) zero e = cc
none_true (suc count) (suc i) e = none_true count i e

pub searches_start : (s : State) (goal : NodeId) → Searches s goal 0 (null ∷ known_nodes s.env) (replicate (length s.graph.edges) false)
searches_start s goal = record {
  sound = sound;
  opened = λ i e h. absurd (none_true (length s.graph.edges) i h);
  null_found = (0, refl);
  vars_found = λ place n e. let k = known_at s.env place n e in (suc k.0, k.1);
  done = λ k i p e l. absurd (omega arith);
  tried = λ k p l. absurd (omega arith);
  long = count (length s.graph.edges);
}
  where
    sound : AreReached s (null ∷ known_nodes s.env)
    sound zero n e = let q : null ≡ n = cc in subst (λ (z : NodeId). IsReached s z) q facts.IsReached.from_null
    sound (suc k) n e = let h = known_back s.env k n e in facts.IsReached.from_var h.0 h.1

    count : (n : ℕ) → length (replicate n false) ≡ n
    count zero = refl
    count (suc n) = ap suc (count n)

pub searches_step : (s : State) (goal start : NodeId) (next : ℕ) (f : List NodeId) (u : List Bool) (f' : List NodeId) (u' : List Bool) → slice_get f next ≡ Some start → (AreEqual s start goal → ⊥)
    → Searches s goal next f u → Opens s start (length s.graph.edges) f u f' u' → Searches s goal (next + 1) f' u'
searches_step s goal start next f u f' u' at other h o = record {
  sound = o.sound (h.sound next start at) h.sound;
  opened = o.opened h.opened;
  null_found = (h.null_found.0, o.more h.null_found.0 null h.null_found.1);
  vars_found = λ place n e. let k = h.vars_found place n e in (k.0, o.more k.0 n k.1);
  done = λ k i p e l t there q. elim (split k l) [
    | inl x ↦ o.still i (h.done k i p e x (before k p x t) there q)
    | inr x ↦ o.done i e (slice_get_within s.graph.edges i e there) there (subst (λ (z : NodeId). AreEqual s (start_of e.1) z) (same k p x t) q)
  ];
  tried = λ k p l t q. elim (split k l) [
    | inl x ↦ h.tried k p x (before k p x t) q
    | inr x ↦ other (subst (λ (z : NodeId). AreEqual s z goal) (same k p x t) q)
  ];
  long = o.long ∙ h.long;
}
  where
    split : (k : ℕ) → k < next + 1 → (k < next) ⊎ (k ≡ next)
    split k l = grind arith

    before : (k : ℕ) (p : NodeId) → k < next → slice_get f' k ≡ Some p → slice_get f k ≡ Some p
    before k p l t =
        let w = slice_get_within f next start at in
        let old = slice_get-get_or f k p (omega arith) in
        old ∙ ap (λ (z : NodeId). Some z) (one_item f' k (get_or f k p) p (o.more k (get_or f k p) old) t)

    same : (k : ℕ) (p : NodeId) → k ≡ next → slice_get f' k ≡ Some p → p ≡ start
    same k p x t = one_item f' next p start (subst (λ (z : ℕ). slice_get f' z ≡ Some p) x t) (o.more next start at)

-- ---- what is not found is not reached

module _ (s : State) (bounded : IsBounded s) (consistent : IsFalse s → ⊥) where
  itself : (n : NodeId) → IsNode s.kinds n → AreEqual s n n
  itself n is = inl (pure.Follows.itself is)

  joined : (a b c : NodeId) → AreEqual s a b → AreEqual s b c → AreEqual s a c
  joined a b c (inl x) (inl y) = inl (pure.Follows.chained x y)
  joined a b c (inr x) y = inr x
  joined a b c (inl x) (inr y) = inr y

  turn : (a b : NodeId) → AreEqual s a b → AreEqual s b a
  turn a b (inl x) = inl (pure.Follows.turned x)
  turn a b (inr x) = inr x

  var_there : (env : List (Option NodeId)) (place : ℕ) (n : NodeId) → AreNodes s.kinds (known_nodes env) → slice_get env place ≡ Some (Some n) → IsNode s.kinds n
  var_there [] place n a e = cc
  var_there (None ∷ env) zero n a e = cc
  var_there (Some m ∷ env) zero n a e = let q : m ≡ n = cc in subst (λ (z : NodeId). IsNode s.kinds z) q a.0
  var_there (None ∷ env) (suc place) n a e = var_there env place n a e
  var_there (Some m ∷ env) (suc place) n a e = var_there env place n a.1 e

  node_at : (ns : List NodeId) (k : ℕ) (n : NodeId) → AreNodes s.kinds ns → slice_get ns k ≡ Some n → IsNode s.kinds n
  node_at [] k n a e = cc
  node_at (m ∷ ns) zero n a e = let q : m ≡ n = cc in subst (λ (z : NodeId). IsNode s.kinds z) q a.0
  node_at (m ∷ ns) (suc k) n a e = node_at ns k n a.1 e

  edge_nodes : (es : Edges) (place : ℕ) (e : EdgeId × Edge) → AllByRecursion (λ x. AreNodes s.kinds (nodes_of x.1)) es → slice_get es place ≡ Some e → AreNodes s.kinds (nodes_of e.1)
  edge_nodes [] place e a t = cc
  edge_nodes (x ∷ es) zero e a t = let q : x ≡ e = cc in subst (λ (z : EdgeId × Edge). AreNodes s.kinds (nodes_of z.1)) q a.0
  edge_nodes (x ∷ es) (suc place) e a t = edge_nodes es place e a.1 t

  module _ (goal : NodeId) (next : ℕ) (f : List NodeId) (u : List Bool) (past : length f ≤ next) (h : Searches s goal next f u) where
    abbrev IsFound : NodeId → Type 0
    IsFound n = (k : ℕ) × (p : NodeId) × (slice_get f k ≡ Some p) × AreEqual s p n

    found : (n : NodeId) → IsReached s n → IsFound n
    found _ facts.IsReached.from_null = (h.null_found.0, null, h.null_found.1, itself null (Ptr, inl refl))
    found n (facts.IsReached.from_var place e) = let k = h.vars_found place n e in (k.0, n, k.1, itself n (var_there s.env place n bounded.vars e))
    found n (facts.IsReached.along_equal {a} {b} r q) = let k = found a r in (k.0, k.1, k.2, joined k.1 a n k.3 q)
    found n (facts.IsReached.along_edge place id e t r c) =
        let k = found (start_of e) r in
        let used = h.done k.0 place k.1 (id, e) (within k.0 k.1 k.2) k.2 t (turn k.1 (start_of e) k.3) in
        let m = h.opened place (id, e) used t n c in
        let a = among_contains (nodes_of e) n c in
        (m.0, n, m.1, itself n (node_at (nodes_of e) a.0 n (edge_nodes s.graph.edges place (id, e) bounded.edges t) a.1))
      where
        within : (k : ℕ) (p : NodeId) → slice_get f k ≡ Some p → k < next
        within k p e = let w = slice_get_within f k p e in omega arith

    pub unreached : IsReached s goal → ⊥
    unreached r = let k = found goal r in let w = slice_get_within f k.0 k.1 k.2 in h.tried k.0 k.1 (omega arith) k.2 k.3

-- ---- what the code finds

pub item_at : {X : Type 0} (xs ys : List X) (i : ℕ) (x d : X) → ys ≡ xs → i < length xs → x ≡ get_or ys i d → slice_get xs i ≡ Some x
item_at {X} xs ys i x d same l e = slice_get-get_or xs i d l ∙ ap (λ (z : X). Some z) (ap (λ (z : List X). get_or z i d) (sym same) ∙ sym e)

pub reached_false : (s : State) (n : NodeId) → IsFalse s → IsReached s n
reached_false s n w = facts.IsReached.along_equal {a = null} facts.IsReached.from_null (inr w)

pub reached_equal : (s : State) (f : List NodeId) (k : ℕ) (p n : NodeId) → AreReached s f → slice_get f k ≡ Some p → AreEqual s p n → IsReached s n
reached_equal s f k p n a e q = facts.IsReached.along_equal {a = p} (a k p e) q

pub never : false ≡ true → ⊥
never e = cc e
