-- Whether two well-made states are the same under some renaming is decided: all ways to lead nodes to nodes are tried.
use Rattle.std.proofs.Common.{◌≡◌, inl, inr, ◌⊎◌, ℕ, zero, suc, List, [], ◌∷◌, Bool, true, false, Option, Some, None, map, option_map}
use Rattle.std.proofs.Common.{slice_get, refl, ap, ap₂, sym, subst, ◌∙◌, eqb-true, eq-eqb}
use Rattle.std.specs.Prelude.{◌==◌, if◌then◌else◌}
use Rattle.std.specs.List.{AllByRecursion}
use Rattle.mc_base.specs.declared.ids.EdgeId.{EdgeId}
use Rattle.mc_base.specs.declared.ids.NodeId.{NodeId}
use Rattle.mc_base.specs.declared.ids.PredId.{PredId}
use Rattle.mc_base.specs.declared.ids.StructId.{StructId}
use Rattle.mc_base.specs.declared.plain.Kind.{Kind}
use Rattle.mc_base.specs.declared.plain.Kind.TheVariants.{Int, Ptr}
use Rattle.mc_base.specs.declared.plain.Atom.{Atom}
use Rattle.mc_base.specs.Atoms.{moved_atom}
use Rattle.mc_base.specs.Nodes.{moved}
use Rattle.mc_flow.specs.declared.defs.rules.Def.{Def}
use Rattle.mc_flow.specs.declared.graph.Flow.{Flow}
use Rattle.mc_pure.specs.Pure.{Kinds, IsNode, kind_of}
use Rattle.mc_pure.specs.Rows.{nodes_of}
use Rattle.mc_state.specs.declared.graph.edge.Edge.{Edge}
use Rattle.mc_state.specs.declared.graph.edge.Edge.TheVariants.{Block, Ind, Seg}
use Rattle.mc_state.specs.Facts.{Derives}
use Rattle.mc_state.specs.Fits.{IsBounded}
use Rattle.mc_state.specs.Known.{Test}
use Rattle.mc_state.specs.State.{State}
use Rattle.mc_kernel.proofs.OracleLemmas.Decided.{Or, all_three_or, and_or, as_or, same_or}
use Rattle.mc_joins.specs.Alike.Alike.{AllGo, AreKnown, Goes, IsBijection, moved_edges, way_back}
use Rattle.mc_joins.specs.Same.Laws.{FalseRenamed, FollowsRenamed}
use Rattle.mc_joins.specs.Same.Same.{AreSameUnder}
use Rattle.mc_joins.specs.Chains.Chains.{KnowsStates}
use Rattle.mc_joins.specs.Chains.Laws.{Made}
use Rattle.mc_joins.proofs.Agree.{atom_same, entries_same, env_same}
use Rattle.mc_joins.proofs.AlikeLemmas.Places.{node_goes, place_kind, place_of}
use Rattle.mc_joins.proofs.AlikeLemmas.Same.{Parts, parts_from_same, same_from_parts}
use Rattle.mc_joins.proofs.ChainsLemmas.TidyOr.{places_or, told_or}

-- ---- equal or not

module _ {X : Type 0} (each : (x y : X) → Or (x ≡ y)) where
  list_or : (xs ys : List X) → Or (xs ≡ ys)
  list_or [] [] = inl refl
  list_or [] (y ∷ ys) = inr (λ e. cc e)
  list_or (x ∷ xs) [] = inr (λ e. cc e)
  list_or (x ∷ xs) (y ∷ ys) =
      as_or (λ (k : (x ≡ y) × (xs ≡ ys)). cc (k.0, k.1)) (λ (e : x ∷ xs ≡ y ∷ ys). let first : x ≡ y = cc e in let rest : xs ≡ ys = cc e in (first, rest))
      (and_or (each x y) (list_or xs ys))

  option_or' : (o p : Option X) → Or (o ≡ p)
  option_or' None None = inl refl
  option_or' None (Some y) = inr (λ e. cc e)
  option_or' (Some x) None = inr (λ e. cc e)
  option_or' (Some x) (Some y) = as_or (λ (e : x ≡ y). ap (λ (z : X). Some z) e) (λ (e : Some x ≡ Some y). let is : x ≡ y = cc e in is) (each x y)

flag_or : (a b : Bool) → Or (a ≡ b)
flag_or true true = inl refl
flag_or false false = inl refl
flag_or true false = inr (λ e. cc e)
flag_or false true = inr (λ e. cc e)

kind_or : (a b : Kind) → Or (a ≡ b)
kind_or Int Int = inl refl
kind_or Ptr Ptr = inl refl
kind_or Int Ptr = inr (λ e. cc e)
kind_or Ptr Int = inr (λ e. cc e)

node_or : (a b : NodeId) → Or (a ≡ b)
node_or a b = as_or (λ (e : a.0 ≡ b.0). ap (λ (z : ℕ). let x : NodeId = record { 0 = z } in x) e) (λ (e : a ≡ b). ap (λ (x : NodeId). x.0) e) (same_or a.0 b.0)

id_or : (a b : EdgeId) → Or (a ≡ b)
id_or a b = as_or (λ (e : a.0 ≡ b.0). ap (λ (z : ℕ). let x : EdgeId = record { 0 = z } in x) e) (λ (e : a ≡ b). ap (λ (x : EdgeId). x.0) e) (same_or a.0 b.0)

pred_or : (a b : PredId) → Or (a ≡ b)
pred_or a b = as_or (λ (e : a.0 ≡ b.0). ap (λ (z : ℕ). let x : PredId = record { 0 = z } in x) e) (λ (e : a ≡ b). ap (λ (x : PredId). x.0) e) (same_or a.0 b.0)

struct_or : (a b : StructId) → Or (a ≡ b)
struct_or a b =
    as_or (λ (e : a.0 ≡ b.0). ap (λ (z : ℕ). let x : StructId = record { 0 = z } in x) e) (λ (e : a ≡ b). ap (λ (x : StructId). x.0) e) (same_or a.0 b.0)

edge_or : (a b : Edge) → Or (a ≡ b)
edge_or (Block at shape fields) (Block at' shape' fields') =
    as_or (λ (k : (at ≡ at') × (shape ≡ shape') × (fields ≡ fields')). cc (k.0, k.1, k.2))
    (λ (e : Block at shape fields ≡ Block at' shape' fields'). let a : at ≡ at' = cc e in let b : shape ≡ shape' = cc e in let c : fields ≡ fields' = cc e in
    (a, b, c))
    (all_three_or (node_or at at') (struct_or shape shape') (list_or (option_or' node_or) fields fields'))
edge_or (Ind at pred args) (Ind at' pred' args') =
    as_or (λ (k : (at ≡ at') × (pred ≡ pred') × (args ≡ args')). cc (k.0, k.1, k.2))
    (λ (e : Ind at pred args ≡ Ind at' pred' args'). let a : at ≡ at' = cc e in let b : pred ≡ pred' = cc e in let c : args ≡ args' = cc e in (a, b, c))
    (all_three_or (node_or at at') (pred_or pred pred') (list_or node_or args args'))
edge_or (Seg at args pred stop ends) (Seg at' args' pred' stop' ends') =
    as_or (λ (k : ((at ≡ at') × (args ≡ args') × (pred ≡ pred')) × ((stop ≡ stop') × (ends ≡ ends'))). cc (k.0.0, k.0.1, k.0.2, k.1.0, k.1.1))
    (λ (e : Seg at args pred stop ends ≡ Seg at' args' pred' stop' ends').
    let a : at ≡ at' = cc e in let b : args ≡ args' = cc e in let c : pred ≡ pred' = cc e in let d : stop ≡ stop' = cc e in let f : ends ≡ ends' = cc e in
    ((a, b, c), (d, f)))
    (and_or (all_three_or (node_or at at') (list_or node_or args args') (pred_or pred pred')) (and_or (node_or stop stop') (list_or node_or ends ends')))
edge_or (Block at shape fields) (Ind at' pred' args') = inr (λ e. cc e)
edge_or (Block at shape fields) (Seg at' args' pred' stop' ends') = inr (λ e. cc e)
edge_or (Ind at pred args) (Block at' shape' fields') = inr (λ e. cc e)
edge_or (Ind at pred args) (Seg at' args' pred' stop' ends') = inr (λ e. cc e)
edge_or (Seg at args pred stop ends) (Block at' shape' fields') = inr (λ e. cc e)
edge_or (Seg at args pred stop ends) (Ind at' pred' args') = inr (λ e. cc e)

entry_or : (a b : EdgeId × Edge) → Or (a ≡ b)
entry_or (i, a) (j, b) =
    as_or (λ (k : (i ≡ j) × (a ≡ b)). ap₂ (λ (x : EdgeId) (y : Edge). let p : EdgeId × Edge = (x, y) in p) k.0 k.1)
    (λ e. (ap (λ (p : EdgeId × Edge). p.0) e, ap (λ (p : EdgeId × Edge). p.1) e)) (and_or (id_or i j) (edge_or a b))

-- ---- under one renaming

module _ (know : State → Test) (flow : Flow) (defs : List Def) (knows : KnowsStates flow defs know) (f : ℕ → ℕ) (s t : State)
    (made : Made flow defs s) (made' : Made flow defs t) where
  goes_or : (g back : ℕ → ℕ) (kinds others : Kinds) (n : NodeId) → Or (Goes g back kinds others n)
  goes_or g back kinds others n =
      as_or (λ k. record { kind = k.0; comes_back = k.1 }) (λ k. (k.kind, k.comes_back))
      (and_or (option_or' kind_or (kind_of others (moved g n)) (kind_of kinds n)) (same_or (back (g n.0)) n.0))

  all_go_or : (g back : ℕ → ℕ) (kinds others : Kinds) → Or (AllGo g back kinds others)
  all_go_or g back kinds others = places_or (Goes g back kinds others) (goes_or g back kinds others) (nodes_of kinds)

  bijection_or : Or (IsBijection f s t)
  bijection_or =
      as_or (λ k. record { null_stays = k.0; there = k.1; again = k.2 }) (λ b. (b.null_stays, b.there, b.again))
      (all_three_or (same_or (f 0) 0) (all_go_or f (way_back f s) s.kinds t.kinds) (all_go_or (way_back f s) f t.kinds s.kinds))

  known_or : (g : ℕ → ℕ) (atoms : List Atom) (u : State) → Made flow defs u → Or (AreKnown g atoms u)
  known_or g atoms u u_made = places_or (λ a. Derives u (moved_atom g a)) (λ a. told_or (know u (moved_atom g a)) (knows u u_made (moved_atom g a))) atoms

  parts_or : Or (Parts f s t)
  parts_or =
      as_or (λ k. record { nodes = k.0.0; whole = k.0.1; env = k.0.2; edges = k.1.0; there = k.1.1; again = k.1.2 })
      (λ p. ((p.nodes, p.whole, p.env), (p.edges, p.there, p.again)))
      (and_or (all_three_or bijection_or (flag_or s.whole t.whole) (list_or (option_or' node_or) (map (option_map (moved f)) s.env) t.env))
      (all_three_or (list_or entry_or (moved_edges f s.graph.edges) t.graph.edges) (known_or f s.atoms t made') (known_or (way_back f s) t.atoms s made)))

-- ---- all renamings of a state's nodes

-- the images of nodes, one by one
abbrev leads_from : Kinds → List ℕ → ℕ → ℕ
leads_from [] ms n = 0
leads_from (k ∷ kinds) [] n = 0
leads_from (k ∷ kinds) (m ∷ ms) n = if k.0.0 == n then m else leads_from kinds ms n

-- node 0 stays
abbrev leads : Kinds → List ℕ → ℕ → ℕ
leads kinds ms n = if n == 0 then 0 else leads_from kinds ms n

-- the number is one of a list
abbrev Among : List ℕ → ℕ → Type 0
Among [] m = ⊥
Among (x ∷ xs) m = (x ≡ m) ⊎ Among xs m

-- so is each image
abbrev AllAmong : List ℕ → Kinds → List ℕ → Type 0
AllAmong xs [] ms = ms ≡ []
AllAmong xs (k ∷ kinds) [] = ⊥
AllAmong xs (k ∷ kinds) (m ∷ ms) = Among xs m × AllAmong xs kinds ms

-- one number of a list has it, or none
one_or_none : (xs : List ℕ) (P Q : ℕ → Type 0) → ((m : ℕ) → P m ⊎ (Q m → ⊥)) → ((m : ℕ) × P m) ⊎ ((m : ℕ) → Among xs m → Q m → ⊥)
one_or_none [] P Q each = inr (λ m among q. among)
one_or_none (x ∷ xs) P Q each = at (each x) (one_or_none xs P Q each)
  where
    at : P x ⊎ (Q x → ⊥) → ((m : ℕ) × P m) ⊎ ((m : ℕ) → Among xs m → Q m → ⊥) → ((m : ℕ) × P m) ⊎ ((m : ℕ) → Among (x ∷ xs) m → Q m → ⊥)
    at (inl p) rest = inl (x, p)
    at (inr never) (inl found) = inl found
    at (inr never) (inr none) = inr (λ m among q. elim among [ inl e ↦ never (subst Q (sym e) q) | inr later ↦ none m later q ])

-- one list of images has it, or none
images_or_none : (xs : List ℕ) (kinds : Kinds) (P : List ℕ → Type 0) → ((ms : List ℕ) → Or (P ms))
    → ((ms : List ℕ) × P ms) ⊎ ((ms : List ℕ) → AllAmong xs kinds ms → P ms → ⊥)
images_or_none xs [] P each = at (each [])
  where
    at : Or (P []) → ((ms : List ℕ) × P ms) ⊎ ((ms : List ℕ) → ms ≡ [] → P ms → ⊥)
    at (inl p) = inl ([], p)
    at (inr never) = inr (λ ms e p. never (subst P e p))
images_or_none xs (k ∷ kinds) P each =
    back
    (one_or_none xs (λ m. (ms : List ℕ) × P (m ∷ ms)) (λ m. (ms : List ℕ) × AllAmong xs kinds ms × P (m ∷ ms))
    (λ m. turned m (images_or_none xs kinds (λ ms. P (m ∷ ms)) (λ ms. each (m ∷ ms)))))
  where
    turned : (m : ℕ) → ((ms : List ℕ) × P (m ∷ ms)) ⊎ ((ms : List ℕ) → AllAmong xs kinds ms → P (m ∷ ms) → ⊥)
        → ((ms : List ℕ) × P (m ∷ ms)) ⊎ (((ms : List ℕ) × AllAmong xs kinds ms × P (m ∷ ms)) → ⊥)
    turned m (inl found) = inl found
    turned m (inr none) = inr (λ (ms, all, p). none ms all p)

    last : ((m : ℕ) → Among xs m → ((ms : List ℕ) × AllAmong xs kinds ms × P (m ∷ ms)) → ⊥) → (ms : List ℕ) → AllAmong xs (k ∷ kinds) ms → P ms → ⊥
    last none [] all p = all
    last none (m ∷ ms) all p = none m all.0 (ms, all.1, p)

    back : ((m : ℕ) × ((ms : List ℕ) × P (m ∷ ms))) ⊎ ((m : ℕ) → Among xs m → ((ms : List ℕ) × AllAmong xs kinds ms × P (m ∷ ms)) → ⊥)
        → ((ms : List ℕ) × P ms) ⊎ ((ms : List ℕ) → AllAmong xs (k ∷ kinds) ms → P ms → ⊥)
    back (inl found) = inl (found.0 ∷ found.1.0, found.1.1)
    back (inr none) = inr (last none)

-- ---- a renaming agrees with its images

among_place : (ns : List NodeId) (place : ℕ) (n : NodeId) → slice_get ns place ≡ Some n → Among (map (λ (m : NodeId). m.0) ns) n.0
among_place [] place n e = absurd (cc e)
among_place (m ∷ ns) zero n e = let is : m ≡ n = cc e in inl (ap (λ (x : NodeId). x.0) is)
among_place (m ∷ ns) (suc place) n e = inr (among_place ns place n e)

module _ (f : ℕ → ℕ) where
  abbrev images_by : Kinds → List ℕ
  images_by kinds = map (λ (k : NodeId × Kind). f k.0.0) kinds

  leads_there : (kinds : Kinds) (n : NodeId) (kind : Kind) → kind_of kinds n ≡ Some kind → leads_from kinds (images_by kinds) n.0 ≡ f n.0
  leads_there [] n kind e = absurd (cc e)
  leads_there (k ∷ kinds) n kind e = at (k.0.0 == n.0) refl (λ e'. leads_there kinds n kind e') e
    where
      at : (b : Bool) → (k.0.0 == n.0) ≡ b → (kind_of kinds n ≡ Some kind → leads_from kinds (images_by kinds) n.0 ≡ f n.0)
          → (if b then Some k.1 else kind_of kinds n) ≡ Some kind → (if b then f k.0.0 else leads_from kinds (images_by kinds) n.0) ≡ f n.0
      at true is rest e = ap f (eqb-true k.0.0 n.0 is)
      at false is rest e = rest e

  leads_same : (kinds : Kinds) → f 0 ≡ 0 → (n : NodeId) → IsNode kinds n → leads kinds (images_by kinds) n.0 ≡ f n.0
  leads_same kinds stays n is = at (n.0 == 0) refl
    where
      there : (IsNode kinds n) → (n.0 == 0) ≡ false → leads_from kinds (images_by kinds) n.0 ≡ f n.0
      there is apart = elim is.1 [
        | inl e ↦ absurd (let yes : (n.0 == 0) ≡ true = eq-eqb n.0 0 (ap (λ (x : NodeId). x.0) e) in cc (yes, apart))
        | inr e ↦ leads_there kinds n is.0 e
      ]

      at : (b : Bool) → (n.0 == 0) ≡ b → (if b then 0 else leads_from kinds (images_by kinds) n.0) ≡ f n.0
      at true e = sym (ap f (eqb-true n.0 0 e) ∙ stays)
      at false e = there is e

module _ (s t : State) (bounded : IsBounded s) (f back : ℕ → ℕ) (same : AreSameUnder f back s t) where
  abbrev h : ℕ → ℕ
  h = leads s.kinds (images_by f s.kinds)

  agrees : (n : NodeId) → IsNode s.kinds n → h n.0 ≡ f n.0
  agrees n is = leads_same f s.kinds same.there.null_stays n is

  moves : (n : NodeId) → IsNode s.kinds n → moved h n ≡ moved f n
  moves n is = ap (λ (z : ℕ). let x : NodeId = record { 0 = z } in x) (agrees n is)

  all_among : (kinds : Kinds) → AllByRecursion (λ (k : NodeId × Kind). IsNode s.kinds k.0) kinds
      → AllAmong (map (λ (m : NodeId). m.0) (nodes_of t.kinds)) kinds (images_by f kinds)
  all_among [] a = refl
  all_among (k ∷ kinds) a =
      let place = place_of t.kinds (moved f k.0) (node_goes f back s.kinds t.kinds same.there k.0 a.0) in
      (among_place (nodes_of t.kinds) place.0 (moved f k.0) place.1, all_among kinds a.1)

  -- the images make a renaming under which both are the same
  by_images : AreSameUnder h back s t
  by_images = record {
    there = record {
      null_stays = refl;
      kind = λ n kind e. ap (kind_of t.kinds) (moves n (kind, inr e)) ∙ same.there.kind n kind e;
      comes_back = λ n is. ap back (agrees n is) ∙ same.there.comes_back n is;
    };
    again = record {
      null_stays = same.again.null_stays;
      kind = same.again.kind;
      comes_back = λ n is. agrees (moved back n) (node_goes back f t.kinds s.kinds same.again n is) ∙ same.again.comes_back n is;
    };
    env = env_same s.kinds h f moves s.env bounded.vars ∙ same.env;
    edges = entries_same s.kinds h f moves s.graph.edges bounded.edges ∙ same.edges;
    whole = same.whole;
    derived = λ a nodes. subst (λ (x : Atom). (Derives s a → Derives t x) × (Derives t x → Derives s a)) (sym (atom_same s.kinds h f moves a nodes))
        (same.derived a nodes);
  }

-- ---- under some renaming

-- each node that has a kind is there
all_nodes : (kinds more : Kinds) → ((k : NodeId × Kind) (place : ℕ) → slice_get more place ≡ Some k → IsNode kinds k.0)
    → AllByRecursion (λ (k : NodeId × Kind). IsNode kinds k.0) more
all_nodes kinds [] there = tt
all_nodes kinds (k ∷ more) there = (there k 0 refl, all_nodes kinds more (λ j place e. there j (suc place) e))

pub same_state_or : FollowsRenamed → FalseRenamed → (know : State → Test) (flow : Flow) (defs : List Def) → KnowsStates flow defs know → (s t : State)
    → Made flow defs s → Made flow defs t
    → Or ((f : ℕ → ℕ) × (back : ℕ → ℕ) × AreSameUnder f back s t)
same_state_or follows wrong know flow defs knows s t made made' =
    at (images_or_none (map (λ (m : NodeId). m.0) (nodes_of t.kinds)) s.kinds (λ ms. Parts (leads s.kinds ms) s t)
    (λ ms. parts_or know flow defs knows (leads s.kinds ms) s t made made'))
  where
    nodes : AllByRecursion (λ (k : NodeId × Kind). IsNode s.kinds k.0) s.kinds
    nodes = all_nodes s.kinds s.kinds (λ k place e. (k.1, inr (place_kind 1 s.kinds s.next place k.0 k.1 made.bounded.kinds e)))

    at : ((ms : List ℕ) × Parts (leads s.kinds ms) s t) ⊎
        ((ms : List ℕ) → AllAmong (map (λ (m : NodeId). m.0) (nodes_of t.kinds)) s.kinds ms → Parts (leads s.kinds ms) s t → ⊥)
        → Or ((f : ℕ → ℕ) × (back : ℕ → ℕ) × AreSameUnder f back s t)
    at (inl found) =
        let same = same_from_parts follows wrong (leads s.kinds found.0) s t made.bounded made'.bounded found.1 in
        inl (leads s.kinds found.0, same.0, same.1)
    at (inr none) =
        inr (λ (f, back, same).
        none (images_by f s.kinds) (all_among s t made.bounded f back same s.kinds nodes)
        (parts_from_same (leads s.kinds (images_by f s.kinds)) s t made.bounded made'.bounded (back, by_images s t made.bounded f back same)))
