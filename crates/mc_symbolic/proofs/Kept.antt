-- States stay as they are kept.
use Rattle.std.proofs.Common.{◌≡◌, ◌≢◌, ◌<◌, ◌≤◌, ◌+◌, ℕ, zero, suc, List, [], ◌∷◌, ◌++◌, Bool, true, false, Option, Some, None, cond, nat_lt, length, get_or, drop, replicate, refl, sym, ap, subst, ◌∙◌, arith}
use Rattle.std.specs.Prelude.{◌==◌, if◌then◌else◌, option_and_then, option_to_list, slice_set}
use Rattle.std.specs.List.{AllByRecursion}
use Rattle.std.proofs.lemmas.Bool.Decides.{nat_tests}
use Rattle.std.proofs.lemmas.List.{drop_more}
use Rattle.mc_base.specs.declared.ids.EdgeId.{EdgeId}
use Rattle.mc_base.specs.declared.ids.NodeId.{NodeId}
use Rattle.mc_base.specs.declared.ids.VarId.{VarId}
use Rattle.mc_base.specs.declared.plain.Kind.{Kind}
use Rattle.mc_base.specs.declared.plain.Atom.{Atom}
use Rattle.mc_base.specs.declared.plain.Atom.TheVariants.{Eq, Ne, In}
use Rattle.mc_base.specs.Atoms.{nodes_of_atom}
use Rattle.mc_state.specs.declared.graph.edge.Edge.{Edge}
use Rattle.mc_state.specs.declared.graph.edge.Edge.TheVariants.{Block, Ind, Seg}
use Rattle.mc_state.specs.Graph.Edges.{known_nodes, nodes_of, with_field_node}
use Rattle.mc_state.specs.Graph.Graph.{Graph, Edges, edge_with, without, replaced, with_only, block_starts, no_edges}
use Rattle.mc_pure.specs.Pure.{Pure, Kinds, HasKind, IsNode, IsWellFormed}
use Rattle.mc_pure.specs.Known.{nothing}
use Rattle.mc_pure.specs.Nodes.{with_kind}
use Rattle.mc_pure.specs.Firsts.{without_first}
use Rattle.mc_state.specs.State.{State, with_only_edges}
use Rattle.mc_state.specs.Facts.{AreEqual, AreAllEqual}
use Rattle.mc_state.specs.Fits.{NodesAscend, AreNodes, IsBounded}
use Rattle.mc_state.specs.Laws.{UnknownIsBounded, FewerEdgesStayBounded, ReplacedStaysBounded, PickedNodesAreThere}
use Rattle.mc_symbolic.specs.Starts.{how_many, HaveSameNodes, block_start}
use Rattle.mc_symbolic.proofs.Starts.{is_node, is_itself, is_that}

-- ---- nodes

pub option_there : (kinds : Kinds) (o : Option NodeId) → ((n : NodeId) → o ≡ Some n → IsNode kinds n) → AreNodes kinds (known_nodes (o ∷ []))
option_there kinds None h = tt
option_there kinds (Some n) h = (h n refl, tt)

-- a new greatest node stands last
pub last_kind : (low high : ℕ) (kinds : Kinds) (n : NodeId) (kind : Kind) → NodesAscend low kinds high → high ≤ n.0 → with_kind kinds n kind ≡ kinds ++ (n, kind) ∷ []
last_kind low high [] n kind a l = refl
last_kind low high (k ∷ kinds) n kind a l =
    let second = a.1 in
    let later : nat_lt n.0 k.0.0 ≡ false = grind (arith, nat_tests) in
    rw later (ap (λ (z : Kinds). k ∷ z) (last_kind (suc k.0.0) high kinds n kind a.2 l))

-- the nodes of an atom that may be written are there
pub atom_there : (kinds : Kinds) (a : Atom) → IsWellFormed kinds a → AreNodes kinds (nodes_of_atom a)
atom_there kinds (Eq a b c) w = ((w.0.0, w.0.1), ((w.0.0, w.0.2), tt))
atom_there kinds (Ne a b c) w = ((w.0.0, w.0.1), ((w.0.0, w.0.2), tt))
atom_there kinds (In a lo hi) w = (w.0, tt)

-- ---- starts

abbrev pub bump : Bool → ℕ → ℕ
bump b n = if b then suc n else n

pub bump_one : (b : Bool) (m n : ℕ) → bump b m ≡ bump b n → m ≡ n
bump_one true m n e = omega arith
bump_one false m n e = e

bump_bump : (a b : Bool) (n : ℕ) → bump a (bump b n) ≡ bump b (bump a n)
bump_bump true true n = refl
bump_bump true false n = refl
bump_bump false true n = refl
bump_bump false false n = refl

many_append : (test : NodeId → Bool) (xs ys zs : List NodeId) → how_many test xs ≡ how_many test ys → how_many test (xs ++ zs) ≡ how_many test (ys ++ zs)
many_append test xs ys zs e = split xs ∙ (sum e ∙ sym (split ys))
  where
    sum : how_many test xs ≡ how_many test ys → how_many test xs + how_many test zs ≡ how_many test ys + how_many test zs
    sum e = omega arith

    split : (xs : List NodeId) → how_many test (xs ++ zs) ≡ how_many test xs + how_many test zs
    split [] = omega arith
    split (x ∷ xs) = at (split xs) (test x)
      where
        at : how_many test (xs ++ zs) ≡ how_many test xs + how_many test zs → (b : Bool) → (if b then suc (how_many test (xs ++ zs)) else how_many test (xs ++ zs)) ≡ (if b then suc (how_many test xs) else how_many test xs) + how_many test zs
        at e true = omega arith
        at e false = e

pub starts_more : (es : Edges) (id : EdgeId) (e : Edge) → block_starts (es ++ (id, e) ∷ []) ≡ block_starts es ++ option_to_list (block_start e)
starts_more [] id (Block at shape fields) = refl
starts_more [] id (Ind at pred args) = refl
starts_more [] id (Seg at args pred «end» ends) = refl
starts_more ((i, Block at shape fields) ∷ es) id e = ap (λ (z : List NodeId). at ∷ z) (starts_more es id e)
starts_more ((i, Ind at pred args) ∷ es) id e = starts_more es id e
starts_more ((i, Seg at args pred «end» ends) ∷ es) id e = starts_more es id e

pub same_more : (starts : List NodeId) (es : Edges) (id : EdgeId) (e : Edge) (at : NodeId) → block_start e ≡ Some at → HaveSameNodes starts (block_starts es) → HaveSameNodes (starts ++ at ∷ []) (block_starts (es ++ (id, e) ∷ []))
same_more starts es id e at is same test =
    let q : option_to_list (block_start e) ≡ at ∷ [] = ap option_to_list is in
    rw (starts_more es id e, q) (many_append test starts (block_starts es) (at ∷ []) (same test))

pub same_still : (starts : List NodeId) (es : Edges) (id : EdgeId) (e : Edge) → block_start e ≡ None → HaveSameNodes starts (block_starts es) → HaveSameNodes starts (block_starts (es ++ (id, e) ∷ []))
same_still starts es id e is same test =
    let q : option_to_list (block_start e) ≡ [] = ap option_to_list is in
    rw (starts_more es id e, q, none (block_starts es)) (same test)
  where
    none : (xs : List NodeId) → xs ++ [] ≡ xs
    none [] = refl
    none (x ∷ xs) = ap (λ (z : List NodeId). x ∷ z) (none xs)

-- a node less
pub many_first : (test : NodeId → Bool) (xs : List NodeId) (a : NodeId) → 0 < how_many (is_node a) xs → how_many test xs ≡ bump (test a) (how_many test (without_first xs a))
many_first test [] a l = absurd (omega arith)
many_first test (x ∷ xs) a l = at (many_first test xs a) (is_node a x) refl l
  where
    at : (0 < how_many (is_node a) xs → how_many test xs ≡ bump (test a) (how_many test (without_first xs a))) → (yes : Bool) → is_node a x ≡ yes
        → 0 < (if yes then suc (how_many (is_node a) xs) else how_many (is_node a) xs) → how_many test (x ∷ xs) ≡ bump (test a) (how_many test (cond yes xs (x ∷ without_first xs a)))
    at h true e l = ap (λ (z : NodeId). bump (test z) (how_many test xs)) (is_that a x e)
    at h false e l = ap (λ (z : ℕ). bump (test x) z) (h l) ∙ bump_bump (test x) (test a) (how_many test (without_first xs a))

pub starts_less : (test : NodeId → Bool) (es : Edges) (id : EdgeId) (e : Edge) (at : NodeId) → edge_with es id ≡ Some e → block_start e ≡ Some at → how_many test (block_starts es) ≡ bump (test at) (how_many test (block_starts (without es id)))
starts_less test [] id e at there is = cc
starts_less test ((i, x) ∷ es) id e at there is = here (starts_less test es id e at) (i.0 == id.0) there
  where
    one : (x y : Edge) → Some x ≡ Some y → x ≡ y
    one x y e = cc

    first : (x : Edge) → block_start x ≡ Some at → how_many test (block_starts ((i, x) ∷ es)) ≡ bump (test at) (how_many test (block_starts es))
    first (Block n shape fields) e = let q : n ≡ at = cc in ap (λ (z : NodeId). bump (test z) (how_many test (block_starts es))) q
    first (Ind n pred args) e = cc
    first (Seg n args pred «end» ends) e = cc

    later : (x : Edge) (ys : Edges) → how_many test (block_starts es) ≡ bump (test at) (how_many test (block_starts ys)) → how_many test (block_starts ((i, x) ∷ es)) ≡ bump (test at) (how_many test (block_starts ((i, x) ∷ ys)))
    later (Block n shape fields) ys h = ap (λ (z : ℕ). bump (test n) z) h ∙ bump_bump (test n) (test at) (how_many test (block_starts ys))
    later (Ind n pred args) ys h = h
    later (Seg n args pred «end» ends) ys h = h

    here : (edge_with es id ≡ Some e → block_start e ≡ Some at → how_many test (block_starts es) ≡ bump (test at) (how_many test (block_starts (without es id)))) → (yes : Bool)
        → (if yes then Some x else edge_with es id) ≡ Some e → how_many test (block_starts ((i, x) ∷ es)) ≡ bump (test at) (how_many test (block_starts (if yes then es else (i, x) ∷ without es id)))
    here h true q = first x (ap block_start (one x e q) ∙ is)
    here h false q = later x (without es id) (h q is)

pub same_less : (starts : List NodeId) (es : Edges) (id : EdgeId) (e : Edge) (at : NodeId) → edge_with es id ≡ Some e → block_start e ≡ Some at → HaveSameNodes starts (block_starts es) → HaveSameNodes (without_first starts at) (block_starts (without es id))
same_less starts es id e at there is same test =
    let l = starts_less test es id e at there is in
    let k = starts_less (is_node at) es id e at there is in
    let p : how_many (is_node at) (block_starts es) ≡ suc (how_many (is_node at) (block_starts (without es id))) = k ∙ ap (λ (z : Bool). bump z (how_many (is_node at) (block_starts (without es id)))) (is_itself at) in
    let s = same (is_node at) in
    let f = many_first test starts at (omega arith) in
    bump_one (test at) (how_many test (without_first starts at)) (how_many test (block_starts (without es id))) (sym f ∙ (same test ∙ l))

-- an edge that is no block, or is not there
pub starts_without : (es : Edges) (id : EdgeId) → option_and_then block_start (edge_with es id) ≡ None → block_starts (without es id) ≡ block_starts es
starts_without [] id q = refl
starts_without ((i, x) ∷ es) id q = here (starts_without es id) (i.0 == id.0) q
  where
    first : (x : Edge) → block_start x ≡ None → block_starts es ≡ block_starts ((i, x) ∷ es)
    first (Block n shape fields) e = cc
    first (Ind n pred args) e = refl
    first (Seg n args pred «end» ends) e = refl

    later : (x : Edge) (ys : Edges) → block_starts ys ≡ block_starts es → block_starts ((i, x) ∷ ys) ≡ block_starts ((i, x) ∷ es)
    later (Block n shape fields) ys h = ap (λ (z : List NodeId). n ∷ z) h
    later (Ind n pred args) ys h = h
    later (Seg n args pred «end» ends) ys h = h

    here : (option_and_then block_start (edge_with es id) ≡ None → block_starts (without es id) ≡ block_starts es) → (yes : Bool) → option_and_then block_start (if yes then Some x else edge_with es id) ≡ None → block_starts (if yes then es else (i, x) ∷ without es id) ≡ block_starts ((i, x) ∷ es)
    here h true q = first x q
    here h false q = later x (without es id) (h q)

pub same_without : (starts : List NodeId) (es : Edges) (id : EdgeId) → option_and_then block_start (edge_with es id) ≡ None → HaveSameNodes starts (block_starts es) → HaveSameNodes starts (block_starts (without es id))
same_without starts es id q same = rw (starts_without es id q) same

-- the block with an id
pub block_there : (o : Option Edge) (at : NodeId) → option_and_then block_start o ≡ Some at → (e : Edge) × (o ≡ Some e) × (block_start e ≡ Some at)
block_there None at q = cc
block_there (Some e) at q = (e, refl, q)

-- ---- an edge less

pub bounded_without : FewerEdgesStayBounded → (s : State) (id : EdgeId) → IsBounded s → IsBounded (with_only_edges s (without s.graph.edges id))
bounded_without law s id b = at (edge_with s.graph.edges id) refl
  where
    gone : (es : Edges) → edge_with es id ≡ None → without es id ≡ es
    gone [] q = refl
    gone (e ∷ es) q = here (gone es) (e.0.0 == id.0) q
      where
        here : (edge_with es id ≡ None → without es id ≡ es) → (yes : Bool) → (if yes then Some e.1 else edge_with es id) ≡ None → (if yes then es else e ∷ without es id) ≡ e ∷ es
        here h true q = cc
        here h false q = ap (λ (z : Edges). e ∷ z) (h q)

    at : (o : Option Edge) → edge_with s.graph.edges id ≡ o → IsBounded (with_only_edges s (without s.graph.edges id))
    at None q = law s [] [] (without s.graph.edges id) (refl, gone s.graph.edges q) b
    at (Some e) q = law s (id ∷ []) (e ∷ []) (without s.graph.edges id) (q, (refl, refl)) b

-- ---- another field

field_start : (f : ℕ) (n : NodeId) (e : Edge) → block_start (with_field_node f n e) ≡ block_start e
field_start f n (Block at shape fields) = refl
field_start f n (Ind at pred args) = refl
field_start f n (Seg at args pred «end» ends) = refl

fields_there : (kinds : Kinds) (fields : List (Option NodeId)) (f : ℕ) (n : NodeId) → IsNode kinds n → AreNodes kinds (known_nodes fields) → AreNodes kinds (known_nodes (slice_set fields f (Some n)))
fields_there kinds [] f n is h = h
fields_there kinds (None ∷ fields) zero n is h = (is, h)
fields_there kinds (Some m ∷ fields) zero n is h = (is, h.1)
fields_there kinds (None ∷ fields) (suc f) n is h = fields_there kinds fields f n is h
fields_there kinds (Some m ∷ fields) (suc f) n is h = (h.0, fields_there kinds fields f n is h.1)

field_there : (kinds : Kinds) (f : ℕ) (n : NodeId) (e : Edge) → IsNode kinds n → AreNodes kinds (nodes_of e) → AreNodes kinds (nodes_of (with_field_node f n e))
field_there kinds f n (Block at shape fields) is h = (h.0, fields_there kinds fields f n is h.1)
field_there kinds f n (Ind at pred args) is h = h
field_there kinds f n (Seg at args pred «end» ends) is h = h

starts_replaced : (es : Edges) (id : EdgeId) (e new : Edge) → edge_with es id ≡ Some e → block_start new ≡ block_start e → block_starts (replaced es id new) ≡ block_starts es
starts_replaced [] id e new q is = refl
starts_replaced ((i, x) ∷ es) id e new q is = here (starts_replaced es id e new) (i.0 == id.0) q
  where
    one : (x y : Edge) → Some x ≡ Some y → x ≡ y
    one x y e = cc

    first : (x y : Edge) → block_start y ≡ block_start x → block_starts ((i, y) ∷ es) ≡ block_starts ((i, x) ∷ es)
    first (Block n shape fields) (Block m other more) e = let q : m ≡ n = cc in ap (λ (z : NodeId). z ∷ block_starts es) q
    first (Block n shape fields) (Ind m pred args) e = cc
    first (Block n shape fields) (Seg m args pred «end» ends) e = cc
    first (Ind n pred args) (Block m other more) e = cc
    first (Ind n pred args) (Ind m other more) e = refl
    first (Ind n pred args) (Seg m more other «end» ends) e = refl
    first (Seg n args pred «end» ends) (Block m other more) e = cc
    first (Seg n args pred «end» ends) (Ind m other more) e = refl
    first (Seg n args pred «end» ends) (Seg m more other stop stops) e = refl

    later : (x : Edge) (ys : Edges) → block_starts ys ≡ block_starts es → block_starts ((i, x) ∷ ys) ≡ block_starts ((i, x) ∷ es)
    later (Block n shape fields) ys h = ap (λ (z : List NodeId). n ∷ z) h
    later (Ind n pred args) ys h = h
    later (Seg n args pred «end» ends) ys h = h

    here : (edge_with es id ≡ Some e → block_start new ≡ block_start e → block_starts (replaced es id new) ≡ block_starts es) → (yes : Bool) → (if yes then Some x else edge_with es id) ≡ Some e → block_starts (if yes then (i, new) ∷ es else (i, x) ∷ replaced es id new) ≡ block_starts ((i, x) ∷ es)
    here h true q = first x new (is ∙ ap block_start (sym (one x e q)))
    here h false q = later x (replaced es id new) (h q is)

pub record Stays (s : State) (starts : List NodeId) (new : Graph) : Type 0 where
  pub bounded : IsBounded (record s { graph = new })
  pub same : HaveSameNodes starts (block_starts new.edges)

pub kept_field : ReplacedStaysBounded → PickedNodesAreThere → (s : State) (starts : List NodeId) (id : EdgeId) (f : ℕ) (node : NodeId) (new : Graph) → IsBounded s
    → HaveSameNodes starts (block_starts s.graph.edges) → IsNode s.kinds node → ((e : Edge) → edge_with s.graph.edges id ≡ Some e
    → new ≡ with_only s.graph (replaced s.graph.edges id (with_field_node f node e))) → (edge_with s.graph.edges id ≡ None → new ≡ s.graph) → Stays s starts new
kept_field law nodes s starts id f node new b same is there absent = at (edge_with s.graph.edges id) refl
  where
    at : (o : Option Edge) → edge_with s.graph.edges id ≡ o → Stays s starts new
    at None q = rw (absent q) (record { bounded = b; same = same })
    at (Some e) q =
        let n = (nodes s (id ∷ []) (e ∷ []) (without s.graph.edges id) (q, (refl, refl)) b).0 in
        let more = law s id (with_field_node f node e) b (field_there s.kinds f node e is n) in
        let k = starts_replaced s.graph.edges id e (with_field_node f node e) q (field_start f node e) in
        rw (there e q) (record { bounded = more; same = rw k same })

-- ---- lists of nodes that are equal

pub lengths_equal : (s : State) (xs ys : List NodeId) → AreAllEqual s xs ys → length xs ≡ length ys
lengths_equal s [] [] a = refl
lengths_equal s [] (y ∷ ys) a = absurd a
lengths_equal s (x ∷ xs) [] a = absurd a
lengths_equal s (x ∷ xs) (y ∷ ys) a = ap suc (lengths_equal s xs ys a.1)

pub equal_at : (s : State) (xs ys : List NodeId) (i : ℕ) (d e : NodeId) → i < length xs → i < length ys → AreAllEqual s (drop i xs) (drop i ys) → AreEqual s (get_or xs i d) (get_or ys i e) × AreAllEqual s (drop (i + 1) xs) (drop (i + 1) ys)
equal_at s xs ys i d e l m a = subst (λ (z : List NodeId × List NodeId). AreAllEqual s z.0 z.1) (pair (drop_more xs i d l) (drop_more ys i e m)) a
  where
    pair : {a b c d : List NodeId} → a ≡ b → c ≡ d → (let x : List NodeId × List NodeId = (a, c) in let y : List NodeId × List NodeId = (b, d) in x ≡ y)
    pair p q = rw (p, q) refl

pub equal_before : (s : State) (xs ys : List NodeId) (i : ℕ) (d e : NodeId) → i < length xs → i < length ys → AreEqual s (get_or xs i d) (get_or ys i e) → AreAllEqual s (drop (i + 1) xs) (drop (i + 1) ys) → AreAllEqual s (drop i xs) (drop i ys)
equal_before s xs ys i d e l m q a = rw (drop_more xs i d l, drop_more ys i e m) (q, a)

-- ---- the beginning

pub record Begins (vars : ℕ) (env : List (Option NodeId)) (graph : Graph) (pure : Pure) : Type 0 where
  pub bounded : IsBounded (record { env = env; kinds = pure.kinds; graph = graph; atoms = pure.written; next = 1; whole = true })
  pub same : HaveSameNodes pure.starts (block_starts graph.edges)
  pub formed : AllByRecursion (IsWellFormed pure.kinds) pure.written

pub begins : UnknownIsBounded → (vars : ℕ) (env : List (Option NodeId)) (graph : Graph) (pure : Pure) → env ≡ replicate vars None → graph ≡ no_edges → pure ≡ nothing → Begins vars env graph pure
begins law vars env graph pure e g p = rw (e, g, p) (record { bounded = law vars; same = λ t. refl; formed = tt })

-- ---- atoms that may be written

module _ (kinds more : Kinds) (grows : (kind : Kind) (n : NodeId) → HasKind kinds kind n → HasKind more kind n) where
  pub formed_more : (a : Atom) → IsWellFormed kinds a → IsWellFormed more a
  formed_more (Eq a b c) w = ((w.0.0, grows w.0.0 a w.0.1, grows w.0.0 b w.0.2), w.1)
  formed_more (Ne a b c) w = ((w.0.0, grows w.0.0 a w.0.1, grows w.0.0 b w.0.2), w.1)
  formed_more (In a lo hi) w = ((w.0.0, grows w.0.0 a w.0.1), w.1, w.2)

  pub all_formed_more : (atoms : List Atom) → AllByRecursion (IsWellFormed kinds) atoms → AllByRecursion (IsWellFormed more) atoms
  all_formed_more [] w = tt
  all_formed_more (a ∷ atoms) w = (formed_more a w.0, all_formed_more atoms w.1)

pub formed_pushed : (kinds : Kinds) (atoms : List Atom) (a : Atom) → AllByRecursion (IsWellFormed kinds) atoms → IsWellFormed kinds a → AllByRecursion (IsWellFormed kinds) (atoms ++ a ∷ [])
formed_pushed kinds [] a w h = (h, tt)
formed_pushed kinds (b ∷ atoms) a w h = (w.0, formed_pushed kinds atoms a w.1 h)
