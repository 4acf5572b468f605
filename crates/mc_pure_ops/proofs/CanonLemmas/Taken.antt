-- What loops over atoms and pairs of nodes have written.
use Rattle.std.proofs.Common.{◌≡◌, ◌≢◌, ℕ, ◌⊎◌, ◌<◌, ◌≤◌, ◌+◌, ◌++◌, ◌∷◌, ℤ, pos, List, [], Option, Some, None, slice_get, get_or, length, Bool, refl, sym, ◌∙◌, ap, subst, inl, inr, arith}
use Rattle.std.proofs.lemmas.Option.{slice_get_within, slice_get-get_or, get_or_from_slice_get}
use Rattle.mc_base.specs.declared.ids.NodeId.{NodeId}
use Rattle.mc_base.specs.declared.plain.Atom.{Atom}
use Rattle.mc_base.specs.declared.plain.Atom.TheVariants.{Ne}
use Rattle.mc_pure.specs.Pure.{Pure, IsNode, Base, address_atom, written, block}
use Rattle.mc_pure.specs.Derived.{base}
use Rattle.mc_pure.specs.Rows.{nodes_of}
use Rattle.mc_pure.specs.Classes.{HasNormalForm, NormalSaysAll}
use Rattle.mc_pure_ops.specs.Canon.Order.{Added, GivesAtMost}
use Rattle.mc_pure_ops.specs.Canon.Gaps.{AreNodes, ArePair, IsMoved, StartGives, AtomGives, WrittenGives, PairGives, PairsGiveAt, PairsGiveOf, PairsGive, DifferenceLeft}
use Rattle.mc_pure_ops.specs.declared.canon.gaps.Gap.{Gap}
use Rattle.mc_pure_ops.proofs.CanonLemmas.Lists.{added_as, added_both, at_most_as, Below, Upto, upto_all}
use Rattle.mc_pure_ops.proofs.CanonLemmas.Nodes.{node_there}

-- the nodes of a written disequality are there
pub known_at : (p : Pure) → HasNormalForm p → (xs : List Atom) (i : ℕ) (d : Atom) → xs ≡ p.written → i < length xs → (x y : NodeId) (c : ℤ) → get_or xs i d ≡ Ne x y c → IsNode p.kinds x × IsNode p.kinds y
known_at p form xs i d e l x y c s =
    let m = subst (λ (z : List Atom). slice_get z i ≡ Some (get_or xs i d)) e (slice_get-get_or xs i d l) in
    form.normal.known x y c (subst (λ (z : Atom). Base p z) s (written i m))

pub written_all : (p : Pure) (lost : Option NodeId) (starts : List NodeId) (inside : Bool) (xs : List Atom) → xs ≡ p.written → (i : ℕ) (a b : List Atom) → length xs ≤ i → Added (Upto (AtomGives p lost starts inside) xs i) a b → Added (WrittenGives p lost starts inside) a b
written_all p lost starts inside xs e i a b l h =
    subst (λ (z : List Atom). Added (λ f. (w : Atom) × ((k : ℕ) × (slice_get z k ≡ Some w)) × AtomGives p lost starts inside w f) a b) e
    (upto_all (AtomGives p lost starts inside) xs i a b l h)

pub pairs_of_all : (p : Pure) (lost : Option NodeId) (starts : List NodeId) (inside : Bool) (nodes : List NodeId) (i n : ℕ) (a b : List Atom) → length nodes ≤ n → Added (Below (PairsGiveAt p lost starts inside nodes i) n) a b → Added (PairsGiveOf p lost starts inside nodes i) a b
pairs_of_all p lost starts inside nodes i n a b l h =
    added_as (Below (PairsGiveAt p lost starts inside nodes i) n) (PairsGiveOf p lost starts inside nodes i) a b
    (λ f k. (let u = k.1.2 in let w = slice_get_within nodes k.0 k.1.1 u.second in (k.0, omega arith, k.1)))
    (λ f k. (k.0, k.2))
    h

pub pairs_all : (p : Pure) (lost : Option NodeId) (starts : List NodeId) (inside : Bool) (nodes : List NodeId) (n : ℕ) (a b : List Atom) → length nodes ≤ n → Added (Below (PairsGiveOf p lost starts inside nodes) n) a b → Added (PairsGive p lost starts inside nodes) a b
pairs_all p lost starts inside nodes n a b l h =
    added_as (Below (PairsGiveOf p lost starts inside nodes) n) (PairsGive p lost starts inside nodes) a b
    (λ f k. (let u = k.1.1.2 in let w = slice_get_within nodes k.0 k.1.1.0 u.first in (k.0, omega arith, k.1)))
    (λ f k. (k.0, k.2))
    h

pub differences_all : (p : Pure) (lost : Option NodeId) (starts : List NodeId) (inside : Bool) (nodes : List NodeId) (a b c : List Atom) → Added (WrittenGives p lost starts inside) a b → Added (PairsGive p lost starts inside nodes) b c → Added (DifferenceLeft p lost starts inside nodes) a c
differences_all p lost starts inside nodes a b c x y = added_both (WrittenGives p lost starts inside) (PairsGive p lost starts inside nodes) (DifferenceLeft p lost starts inside nodes) a b c (λ f k. k) (λ f k. k) x y

-- blocks start at nodes
pub starts_there : (law : NormalSaysAll) (p : Pure) → HasNormalForm p → (xs : List NodeId) → xs ≡ p.starts → AreNodes p xs
starts_there law p form xs e i n m = (law p form.nf form.normal (address_atom n) (base (block i (subst (λ (z : List NodeId). slice_get z i ≡ Some n) e m)))).0

pub node_at : (p : Pure) (xs : List NodeId) (i : ℕ) (d : NodeId) → AreNodes p xs → i < length xs → IsNode p.kinds (get_or xs i d)
node_at p xs i d h l = h i (get_or xs i d) (slice_get-get_or xs i d l)

pub pair_at : (xs : List NodeId) (i j : ℕ) (d : NodeId) → i < length xs → j < length xs → i ≢ j → ArePair xs i j (get_or xs i d) (get_or xs j d)
pair_at xs i j d l m ne = record { differ = ne; first = slice_get-get_or xs i d l; second = slice_get-get_or xs j d m }

pub listed_at : (p : Pure) (xs : List NodeId) (i : ℕ) (d : NodeId) → xs ≡ nodes_of p.kinds → i < length xs → IsNode p.kinds (get_or xs i d)
listed_at p xs i d e l = node_there p.kinds i (get_or xs i d) (subst (λ (z : List NodeId). slice_get z i ≡ Some (get_or xs i d)) e (slice_get-get_or xs i d l))

pub itself_none : (p : Pure) (lost : Option NodeId) (starts : List NodeId) (inside : Bool) (nodes : List NodeId) (i j : ℕ) → i ≡ j → GivesAtMost (PairsGiveAt p lost starts inside nodes i j) None
itself_none p lost starts inside nodes i j e f k = k.2.differ e

pub pair_of_places : (p : Pure) (lost : Option NodeId) (starts : List NodeId) (inside : Bool) (nodes : List NodeId) (i j : ℕ) (d : NodeId) (o : Option Atom) → i < length nodes → j < length nodes → i ≢ j → GivesAtMost (PairGives p lost starts inside (get_or nodes i d) (get_or nodes j d) (pos 0)) o → GivesAtMost (PairsGiveAt p lost starts inside nodes i j) o
pair_of_places p lost starts inside nodes i j d o li lj ne m =
    at_most_as (PairGives p lost starts inside (get_or nodes i d) (get_or nodes j d) (pos 0)) (PairsGiveAt p lost starts inside nodes i j) o
    (λ f k. (get_or nodes i d, get_or nodes j d, pair_at nodes i j d li lj ne, k))
    (λ f k.
    let ex = get_or_from_slice_get nodes i k.0 d k.2.first in
    let ey = get_or_from_slice_get nodes j k.1 d k.2.second in
    subst (λ (z : NodeId). PairGives p lost starts inside z (get_or nodes j d) (pos 0) f) (sym ex) (subst (λ (z : NodeId). PairGives p lost starts inside k.0 z (pos 0) f) (sym ey) k.3))
    m
