-- The nodes that are reached are those of a list.
use Rattle.std.proofs.Common.{◌≡◌, ◌≤◌, ◌+◌, ◌⊎◌, inl, inr, ℕ, zero, suc, pos, List, [], ◌∷◌, ◌++◌, ◌||◌, not, Bool, true, false, cond, length, slice_get, filter, flat_map, Contains, Option, Some, None, refl, sym, ◌∙◌, ap, ap₂, subst, arith}
use Rattle.std.specs.List.{AllByRecursion, list_any}
use Rattle.mc_base.specs.declared.ids.EdgeId.{EdgeId}
use Rattle.mc_base.specs.declared.ids.NodeId.{NodeId}
use Rattle.mc_base.specs.declared.plain.Kind.TheVariants.{Int}
use Rattle.mc_base.specs.Nodes.{null}
use Rattle.mc_state.specs.declared.graph.edge.Edge.{Edge}
use Rattle.mc_state.specs.Graph.Edges.{start_of, nodes_of, known_nodes}
use Rattle.mc_state.specs.Graph.Graph.{Edges}
use Rattle.mc_pure.specs.Derived as pure
use Rattle.mc_pure.specs.Pure.{IsNode}
use Rattle.mc_state.specs.State.{State}
use Rattle.mc_state.specs.Facts.{AreEqual, IsReached, from_null, from_var, along_equal, along_edge}
use Rattle.mc_state.specs.Fits.{AreNodes, IsBounded}
use Rattle.mc_state.specs.Known.{Test, Tells, equal}
use Rattle.mc_state.proofs.Tests.{equal_from, equal_to}
use Rattle.mc_rules_logic.specs.Fold.ChangeJudges.{starts_at, reached_in, is_reached}
use Rattle.mc_rules_logic.proofs.FoldLemmas.Ordered.{among_cases, among_here, among_there, among_none}

-- ---- lists

-- one of a list
abbrev pub Among : {X : Type 0} → X → List X → Type 0
Among x [] = ⊥
Among x (y ∷ ys) = (y ≡ x) ⊎ Among x ys

module _ {X : Type 0} where
  pub among_from : (xs : List X) (x : X) → Contains xs x → Among x xs
  among_from [] x c = absurd (among_none x c)
  among_from (y ∷ ys) x c = elim (among_cases y ys x c) [
    | inl e ↦ inl e
    | inr more ↦ inr (among_from ys x more)
  ]

  pub among_to : (xs : List X) (x : X) → Among x xs → Contains xs x
  among_to [] x a = absurd a
  among_to (y ∷ ys) x (inl e) = subst (λ z. Contains (y ∷ ys) z) e (among_here y ys)
  among_to (y ∷ ys) x (inr a) = among_there y ys x (among_to ys x a)

  pub among_left : (xs ys : List X) (x : X) → Among x xs → Among x (xs ++ ys)
  among_left [] ys x a = absurd a
  among_left (y ∷ xs) ys x (inl e) = inl e
  among_left (y ∷ xs) ys x (inr a) = inr (among_left xs ys x a)

  among_right : (xs ys : List X) (x : X) → Among x ys → Among x (xs ++ ys)
  among_right [] ys x a = a
  among_right (y ∷ xs) ys x a = inr (among_right xs ys x a)

  among_parts : (xs ys : List X) (x : X) → Among x (xs ++ ys) → Among x xs ⊎ Among x ys
  among_parts [] ys x a = inr a
  among_parts (y ∷ xs) ys x (inl e) = inl (inl e)
  among_parts (y ∷ xs) ys x (inr a) = elim (among_parts xs ys x a) [
    | inl l ↦ inl (inr l)
    | inr r ↦ inr r
  ]

  -- what stands at a place
  pub among_at : (xs : List X) (place : ℕ) (x : X) → slice_get xs place ≡ Some x → Among x xs
  among_at [] place x e = absurd (cc e)
  among_at (y ∷ ys) zero x e = let same : y ≡ x = cc e in inl same
  among_at (y ∷ ys) (suc place) x e = inr (among_at ys place x e)

  pub place_of : (xs : List X) (x : X) → Among x xs → (place : ℕ) × (slice_get xs place ≡ Some x)
  place_of [] x a = absurd a
  place_of (y ∷ ys) x (inl e) = (0, ap (λ z. Some z) e)
  place_of (y ∷ ys) x (inr a) = let rest = place_of ys x a in (suc rest.0, rest.1)

  pub among_all : (P : X → Type 0) (xs : List X) (x : X) → AllByRecursion P xs → Among x xs → P x
  among_all P [] x all a = absurd a
  among_all P (y ∷ ys) x all (inl e) = subst P e all.0
  among_all P (y ∷ ys) x all (inr a) = among_all P ys x all.1 a

  module _ (test : X → Bool) where
    pub any_from : (xs : List X) → list_any test xs ≡ true → (x : X) × Among x xs × (test x ≡ true)
    any_from [] e = absurd (cc e)
    any_from (y ∷ ys) e = at (test y) refl (any_from ys) e
      where
        at : (b : Bool) → test y ≡ b → (list_any test ys ≡ true → (x : X) × Among x ys × (test x ≡ true)) → (b || list_any test ys) ≡ true → (x : X) × Among x (y ∷ ys) × (test x ≡ true)
        at true is rest e = (y, inl refl, is)
        at false is rest e = let found = rest e in (found.0, inr found.1, found.2)

    pub any_to : (xs : List X) (x : X) → Among x xs → test x ≡ true → list_any test xs ≡ true
    any_to [] x a e = absurd a
    any_to (y ∷ ys) x (inl same) e = ap (λ b. b || list_any test ys) (ap test same ∙ e)
    any_to (y ∷ ys) x (inr a) e = at (test y) (any_to ys x a e)
      where
        at : (b : Bool) → list_any test ys ≡ true → (b || list_any test ys) ≡ true
        at true rest = refl
        at false rest = rest

    filtered_from : (xs : List X) (x : X) → Among x (filter test xs) → Among x xs × (test x ≡ true)
    filtered_from [] x a = absurd a
    filtered_from (y ∷ ys) x a = at (test y) refl (filtered_from ys x) a
      where
        at : (b : Bool) → test y ≡ b → (Among x (filter test ys) → Among x ys × (test x ≡ true)) → Among x (cond b (y ∷ filter test ys) (filter test ys)) → Among x (y ∷ ys) × (test x ≡ true)
        at true is rest (inl e) = (inl e, ap test (sym e) ∙ is)
        at true is rest (inr a) = let r = rest a in (inr r.0, r.1)
        at false is rest a = let r = rest a in (inr r.0, r.1)

    filtered_to : (xs : List X) (x : X) → Among x xs → test x ≡ true → Among x (filter test xs)
    filtered_to [] x a e = absurd a
    filtered_to (y ∷ ys) x (inl same) e = subst (λ b. Among x (cond b (y ∷ filter test ys) (filter test ys))) (sym (ap test same ∙ e)) (inl same)
    filtered_to (y ∷ ys) x (inr a) e = at (test y) (filtered_to ys x a e)
      where
        at : (b : Bool) → Among x (filter test ys) → Among x (cond b (y ∷ filter test ys) (filter test ys))
        at true rest = inr rest
        at false rest = rest

    -- what passes and what does not are all
    counts : (xs : List X) → length (filter test xs) + length (filter (λ x. not (test x)) xs) ≡ length xs
    counts [] = refl
    counts (y ∷ ys) = at (test y) (counts ys)
      where
        at : (b : Bool) → length (filter test ys) + length (filter (λ x. not (test x)) ys) ≡ length ys
            → length (cond b (y ∷ filter test ys) (filter test ys)) + length (cond (not b) (y ∷ filter (λ x. not (test x)) ys) (filter (λ x. not (test x)) ys)) ≡ length (y ∷ ys)
        at true rest = omega arith
        at false rest = omega arith

    -- where none passes
    none_passes : (xs : List X) → ((x : X) → Among x xs → test x ≡ false) → filter test xs ≡ []
    none_passes [] none = refl
    none_passes (y ∷ ys) none = ap (λ b. cond b (y ∷ filter test ys) (filter test ys)) (none y (inl refl)) ∙ none_passes ys (λ x a. none x (inr a))

    all_stay : (xs : List X) → ((x : X) → Among x xs → test x ≡ false) → filter (λ x. not (test x)) xs ≡ xs
    all_stay [] none = refl
    all_stay (y ∷ ys) none =
        ap (λ b. cond (not b) (y ∷ filter (λ x. not (test x)) ys) (filter (λ x. not (test x)) ys)) (none y (inl refl)) ∙ ap (λ l. y ∷ l) (all_stay ys (λ x a. none x (inr a)))

flat_from : {X Y : Type 0} (f : X → List Y) (xs : List X) (y : Y) → Among y (flat_map f xs) → (x : X) × Among x xs × Among y (f x)
flat_from f [] y a = absurd a
flat_from f (x ∷ xs) y a = elim (among_parts (f x) (flat_map f xs) y a) [
  | inl l ↦ (x, inl refl, l)
  | inr r ↦ let rest = flat_from f xs y r in (rest.0, inr rest.1, rest.2)
]

flat_to : {X Y : Type 0} (f : X → List Y) (xs : List X) (x : X) (y : Y) → Among x xs → Among y (f x) → Among y (flat_map f xs)
flat_to f [] x y a b = absurd a
flat_to f (z ∷ xs) x y (inl e) b = among_left (f z) (flat_map f xs) y (subst (λ w. Among y (f w)) (sym e) b)
flat_to f (z ∷ xs) x y (inr a) b = among_right (f z) (flat_map f xs) y (flat_to f xs x y a b)

append_none : {X : Type 0} (xs : List X) → xs ++ [] ≡ xs
append_none [] = refl
append_none (x ∷ xs) = ap (λ l. x ∷ l) (append_none xs)

-- ---- the nodes that are reached

module _ (know : Test) where
  abbrev live : List NodeId → Edges → Edges
  live ns es = filter (starts_at know ns) es

  abbrev idle : List NodeId → Edges → Edges
  idle ns es = filter (λ e. not (starts_at know ns e)) es

  abbrev theirs : Edges → List NodeId
  theirs es = flat_map (λ e. nodes_of e.1) es

  -- what is reached stays so
  grows : (rounds : ℕ) (es : Edges) (ns : List NodeId) (n : NodeId) → Among n ns → Among n (reached_in know rounds es ns)
  grows zero es ns n a = a
  grows (suc rounds) es ns n a = grows rounds (idle ns es) (ns ++ theirs (live ns es)) n (among_left ns (theirs (live ns es)) n a)

  -- where no edge starts at one of the nodes, no more are reached
  settled : (rounds : ℕ) (es : Edges) (ns : List NodeId) → ((e : EdgeId × Edge) → Among e es → starts_at know ns e ≡ false) → reached_in know rounds es ns ≡ ns
  settled zero es ns none = refl
  settled (suc rounds) es ns none =
      ap₂ (λ l m. reached_in know rounds l (ns ++ theirs m)) (all_stay (starts_at know ns) es none) (none_passes (starts_at know ns) es none)
      ∙ ap (λ l. reached_in know rounds es l) (append_none ns)
      ∙ settled rounds es ns none

  -- an edge that starts at one of the nodes has its nodes among them
  abbrev IsClosed : Edges → List NodeId → Type 0
  IsClosed es ns = (e : EdgeId × Edge) → Among e es → starts_at know ns e ≡ true → (n : NodeId) → Among n (nodes_of e.1) → Among n ns

  module _ (rounds : ℕ) (es : Edges) (ns : List NodeId) (less : length es ≤ suc rounds) (next : length (idle ns es) ≤ rounds → IsClosed (idle ns es) (reached_in know rounds (idle ns es) (ns ++ theirs (live ns es)))) where
    -- where no edge starts at one of the nodes
    none_live : live ns es ≡ [] → (x : EdgeId × Edge) → Among x es → starts_at know ns x ≡ false
    none_live is x c = test (starts_at know ns x) refl
      where
        test : (t : Bool) → starts_at know ns x ≡ t → t ≡ false
        test false e = refl
        test true e = let wrong : Among x [] = subst (Among x) is (filtered_to (starts_at know ns) es x c e) in absurd wrong

    -- where some edge does
    fewer : (x : EdgeId × Edge) (xs : Edges) → live ns es ≡ x ∷ xs → length (idle ns es) ≤ rounds
    fewer x xs is =
        let all = counts (starts_at know ns) es in
        let some : length (live ns es) ≡ suc (length xs) = ap length is in
        omega arith

    one_more : (e : EdgeId × Edge) → Among e es → starts_at know (reached_in know (suc rounds) es ns) e ≡ true → (n : NodeId) → Among n (nodes_of e.1) → length (idle ns es) ≤ rounds → (t : Bool) → starts_at know ns e ≡ t → Among n (reached_in know (suc rounds) es ns)
    one_more e a starts n b short true is =
        grows rounds (idle ns es) (ns ++ theirs (live ns es)) n (among_right ns (theirs (live ns es)) n (flat_to (λ (x : EdgeId × Edge). nodes_of x.1) (live ns es) e n (filtered_to (starts_at know ns) es e a is) b))
    one_more e a starts n b short false is = next short e (filtered_to (λ x. not (starts_at know ns x)) es e a (ap not is)) starts n b

    closes_more : IsClosed es (reached_in know (suc rounds) es ns)
    closes_more e a starts n b = at (live ns es) refl
      where
        at : (l : Edges) → live ns es ≡ l → Among n (reached_in know (suc rounds) es ns)
        at [] is =
            let same : reached_in know (suc rounds) es ns ≡ ns = settled (suc rounds) es ns (none_live is) in
            let wrong : starts_at know ns e ≡ true = subst (λ ms. starts_at know ms e ≡ true) same starts in
            absurd (cc (wrong, none_live is e a))
        at (x ∷ xs) is = one_more e a starts n b (fewer x xs is) (starts_at know ns e) refl

  -- with as many rounds as edges, that is so
  closes : (rounds : ℕ) (es : Edges) (ns : List NodeId) → length es ≤ rounds → IsClosed es (reached_in know rounds es ns)
  closes zero [] ns less e a starts n b = absurd a
  closes zero (x ∷ es) ns less e a starts n b = absurd (too_many less) where
    too_many : length (x ∷ es) ≤ 0 → ⊥
    too_many less = omega arith
  closes (suc rounds) es ns less e a starts n b = closes_more rounds es ns less (closes rounds (idle ns es) (ns ++ theirs (live ns es))) e a starts n b

  module _ (s : State) (tells : Tells know s) where
    -- what is listed is reached
    sound_in : (rounds : ℕ) (es : Edges) (ns : List NodeId) → ((e : EdgeId × Edge) → Among e es → Among e s.graph.edges) → ((n : NodeId) → Among n ns → IsReached s n) → (n : NodeId) → Among n (reached_in know rounds es ns) → IsReached s n
    sound_in zero es ns within reached n a = reached n a
    sound_in (suc rounds) es ns within reached n a =
        sound_in rounds (idle ns es) (ns ++ theirs (live ns es)) (λ e b. within e (filtered_from (λ x. not (starts_at know ns x)) es e b).0) more n a
      where
        by_edge : (e : EdgeId × Edge) → Among e (live ns es) → (m : NodeId) → Among m (nodes_of e.1) → IsReached s m
        by_edge e b m c =
            let f = filtered_from (starts_at know ns) es e b in
            let start = any_from (λ k. equal know k (start_of e.1)) ns f.1 in
            let there = along_equal (reached start.0 start.1) (equal_from know s tells start.0 (start_of e.1) start.2) in
            let place = place_of s.graph.edges e (within e f.0) in
            along_edge place.0 e.0 e.1 place.1 there (among_to (nodes_of e.1) m c)

        more : (m : NodeId) → Among m (ns ++ theirs (live ns es)) → IsReached s m
        more m b = elim (among_parts ns (theirs (live ns es)) m b) [
          | inl l ↦ reached m l
          | inr r ↦ let e = flat_from (λ (x : EdgeId × Edge). nodes_of x.1) (live ns es) m r in by_edge e.0 e.1 m e.2
        ]

    var_of : (env : List (Option NodeId)) (n : NodeId) → Among n (known_nodes env) → (place : ℕ) × (slice_get env place ≡ Some (Some n))
    var_of [] n a = absurd a
    var_of (None ∷ env) n a = let rest = var_of env n a in (suc rest.0, rest.1)
    var_of (Some m ∷ env) n (inl e) = (0, ap (λ k. Some (Some k)) e)
    var_of (Some m ∷ env) n (inr a) = let rest = var_of env n a in (suc rest.0, rest.1)

    pub reached_from : (n : NodeId) → is_reached know s n ≡ true → IsReached s n
    reached_from n e =
        let m = any_from (λ k. equal know k n) (reached_in know (length s.graph.edges) s.graph.edges (null ∷ known_nodes s.env)) e in
        along_equal (sound_in (length s.graph.edges) s.graph.edges (null ∷ known_nodes s.env) (λ e a. a) first m.0 m.1) (equal_from know s tells m.0 n m.2)
      where
        first : (k : NodeId) → Among k (null ∷ known_nodes s.env) → IsReached s k
        first k (inl is) = subst (IsReached s) is from_null
        first k (inr a) = let var = var_of s.env k a in from_var var.0 var.1

    -- equal nodes in a row
    equal_on : (a b c : NodeId) → AreEqual s a b → AreEqual s b c → AreEqual s a c
    equal_on a b c p q = elim p [
      | inl h ↦ elim q [
        | inl k ↦ inl (pure.chained {c = pos 0} {e = pos 0} h k)
        | inr wrong ↦ inr wrong
      ]
      | inr wrong ↦ inr wrong
    ]

    known_var : (env : List (Option NodeId)) (place : ℕ) (n : NodeId) → slice_get env place ≡ Some (Some n) → Among n (known_nodes env)
    known_var [] place n e = absurd (cc e)
    known_var (None ∷ env) zero n e = absurd (cc e)
    known_var (Some m ∷ env) zero n e = let same : m ≡ n = cc e in inl same
    known_var (None ∷ env) (suc place) n e = known_var env place n e
    known_var (Some m ∷ env) (suc place) n e = inr (known_var env place n e)

    module _ (bounded : IsBounded s) where
      abbrev all : List NodeId
      all = reached_in know (length s.graph.edges) s.graph.edges (null ∷ known_nodes s.env)

      -- what is reached is equal to one that is listed
      reached_among : (n : NodeId) → IsReached s n → (m : NodeId) × Among m all × AreEqual s m n
      reached_among _ from_null = (null, grows (length s.graph.edges) s.graph.edges (null ∷ known_nodes s.env) null (inl refl), inl (pure.itself (Int, inl refl)))
      reached_among n (from_var place e) =
          let known = known_var s.env place n e in
          (n, grows (length s.graph.edges) s.graph.edges (null ∷ known_nodes s.env) n (inr known), inl (pure.itself (among_all (IsNode s.kinds) (known_nodes s.env) n bounded.vars known)))
      reached_among _ (along_equal {a} {b} r same) = let m = reached_among a r in (m.0, m.1, equal_on m.0 a b m.2 same)
      reached_among n (along_edge place id e there r c) =
          let m = reached_among (start_of e) r in
          let here = among_at s.graph.edges place (id, e) there in
          let starts : starts_at know all (id, e) ≡ true = any_to (λ k. equal know k (start_of e)) all m.0 m.1 (equal_to know s tells m.0 (start_of e) m.2) in
          let among = among_from (nodes_of e) n c in
          let node : IsNode s.kinds n = among_all (IsNode s.kinds) (nodes_of e) n (among_all (λ (x : EdgeId × Edge). AreNodes s.kinds (nodes_of x.1)) s.graph.edges (id, e) bounded.edges here) among in
          (n, closes (length s.graph.edges) s.graph.edges (null ∷ known_nodes s.env) (omega arith) (id, e) here starts n among, inl (pure.itself node))

      pub reached_to : (n : NodeId) → IsReached s n → is_reached know s n ≡ true
      reached_to n r =
          let m = reached_among n r in
          any_to (λ k. equal know k n) all m.0 m.1 (equal_to know s tells m.0 n m.2)
