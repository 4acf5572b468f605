-- What is known grows.
use Rattle.std.proofs.Common.{◌≡◌, ◌≢◌, ◌↔◌, ℕ, zero, suc, ◌⊎◌, List, [], ◌∷◌, ◌++◌, Some, slice_get, length, take, drop, Bool, true, false, IsTrue, pos, refl, sym, ap, subst, inl, inr, arith}
use Rattle.std.proofs.lemmas.Int.{ints}
use Rattle.mc_base.specs.declared.ids.NodeId.{NodeId}
use Rattle.mc_base.specs.declared.plain.Atom.{Atom}
use Rattle.mc_base.specs.declared.plain.Atom.TheVariants.{Eq, Ne, In}
use Rattle.mc_base.specs.Nodes.{null}
use Rattle.mc_pure.specs.declared.rows.Row.{Row}
use Rattle.mc_pure.specs.Pure as begin
use Rattle.mc_pure.specs.Pure.{Pure, Kinds, IsNode, IsWellFormed, Base, written, kind, block, apart, kind_atom, address_atom}
use Rattle.mc_pure.specs.Derived.{Follows, IsFalse, Derived, HasRange, base}
use Rattle.mc_pure.specs.Rows.{row_at, RowSound, IsSound, Settled, Over}
use Rattle.mc_pure.specs.Steps.{IsStable}
use Rattle.mc_pure.specs.Known.{IsFit, IsClosed, SettledBut}
use Rattle.mc_pure.specs.declared.scope.Scope.TheVariants.{Class}
use Rattle.mc_pure.specs.Scopes.{Touches, SettledElsewhereBut}
use Rattle.mc_pure.proofs.True.{follows_from_more, false_from_more}
use Rattle.mc_base.specs.Ranges.Ends.{IsEnd}
use Rattle.mc_pure.specs.Normal.{low, high}
use Rattle.mc_pure.proofs.Changing.{in_at}
use Rattle.mc_pure.proofs.Stepping.{here}
use Rattle.mc_pure.proofs.Deciding.{consistent, holds}

-- a list with one more at its end
pub pushed : {X : Type 0} (xs : List X) (x : X) (i : ℕ) (y : X) → slice_get (xs ++ x ∷ []) i ≡ Some y → (slice_get xs i ≡ Some y) ⊎ ((i ≡ length xs) × (y ≡ x))
pushed [] x zero y e = inr (refl, cc)
pushed [] x (suc i) y e = cc
pushed (z ∷ xs) x zero y e = inl e
pushed (z ∷ xs) x (suc i) y e = later (pushed xs x i y e)
  where
    later : (slice_get xs i ≡ Some y) ⊎ ((i ≡ length xs) × (y ≡ x)) → (slice_get xs i ≡ Some y) ⊎ ((suc i ≡ suc (length xs)) × (y ≡ x))
    later (inl k) = inl k
    later (inr k) = inr (ap suc k.0, k.1)

pub still_there : {X : Type 0} (xs : List X) (x : X) (i : ℕ) (y : X) → slice_get xs i ≡ Some y → slice_get (xs ++ x ∷ []) i ≡ Some y
still_there [] x i y e = cc
still_there (z ∷ xs) x zero y e = e
still_there (z ∷ xs) x (suc i) y e = still_there xs x i y e

pub last_there : {X : Type 0} (xs : List X) (x : X) → slice_get (xs ++ x ∷ []) (length xs) ≡ Some x
last_there [] x = refl
last_there (z ∷ xs) x = last_there xs x

-- more is known of the same nodes
module _ (kinds : Kinds) (w w' : List Atom) (s s' : List NodeId) where
  abbrev less : Pure
  less = record { kinds = kinds; written = w; starts = s }

  abbrev more : Pure
  more = record { kinds = kinds; written = w'; starts = s' }

  pub settled_still : (rows : List Row) (f : Atom) → Settled less rows f → Settled more rows f
  settled_still rows (Eq a b c) h = h
  settled_still rows (In a l u) h = h
  settled_still rows (Ne a b c) h = h

  module _ (grows : (f : Atom) → Base less f → Base more f) where
    still : (f : Atom) → Follows less f → Follows more f
    still f d = follows_from_more less more (λ n h. h) (λ g b. base (grows g b)) f d

    pub false_still : IsFalse less → IsFalse more
    false_still d = false_from_more less more (λ n h. h) (λ g b. base (grows g b)) d

    row_still : (r : Row) → RowSound less r → RowSound more r
    row_still r o = record {
      node = o.node;
      equal = still (Eq r.node r.rep r.off) o.equal;
      within = still _ o.within;
      full = o.full;
      above = o.above;
      below = o.below;
      above' = o.above';
      below' = o.below';
      least = o.least;
      pinned = o.pinned;
      zero = o.zero;
    }

    pub sound_still : (rows : List Row) → ((f : Atom) → Base more f → Over (IsNode kinds) f) → IsSound less rows → IsSound more rows
    sound_still rows over h = record {
      each = λ r at. row_still r (h.each r at);
      coherent = h.coherent;
      all = h.all;
      once = h.once;
      known = over;
      aligned = h.aligned;
    }

over_fit : (kinds : Kinds) (f : Atom) → IsWellFormed kinds f → Over (IsNode kinds) f
over_fit kinds (Eq a b c) w = ((w.0.0, w.0.1), (w.0.0, w.0.2))
over_fit kinds (Ne a b c) w = ((w.0.0, w.0.1), (w.0.0, w.0.2))
over_fit kinds (In a l h) w = w.0

-- one more atom
module _ (kinds : Kinds) (w : List Atom) (s : List NodeId) (atom : Atom) where
  abbrev before : Pure
  before = record { kinds = kinds; written = w; starts = s }

  abbrev after : Pure
  after = record { kinds = kinds; written = w ++ atom ∷ []; starts = s }

  atom_grows : (f : Atom) → Base before f → Base after f
  atom_grows f (written place e) = written place (still_there w atom place f e)
  atom_grows _ begin.zero = begin.zero
  atom_grows _ (kind place e) = kind place e
  atom_grows _ (block place e) = block place e
  atom_grows _ (apart i j ne x y) = apart i j ne x y

  atom_split : (f : Atom) → Base after f → Base before f ⊎ (f ≡ atom)
  atom_split f (written place e) = elim (pushed w atom place f e) [ inl k ↦ inl (written place k) | inr k ↦ inr k.1 ]
  atom_split _ begin.zero = inl begin.zero
  atom_split _ (kind place e) = inl (kind place e)
  atom_split _ (block place e) = inl (block place e)
  atom_split _ (apart i j ne x y) = inl (apart i j ne x y)

  pub atom_base : Base after atom
  atom_base = written (length w) (last_there w atom)

  pub atom_sound : (rows : List Row) → IsWellFormed kinds atom → IsSound before rows → IsSound after rows
  atom_sound rows fit h = sound_still kinds w (w ++ atom ∷ []) s s atom_grows rows over h
    where
      over : (f : Atom) → Base after f → Over (IsNode kinds) f
      over f b = elim (atom_split f b) [ inl k ↦ h.known f k | inr k ↦ subst (λ (z : Atom). Over (IsNode kinds) z) (sym k) (over_fit kinds atom fit) ]

  pub atom_rest : (rows : List Row) → IsStable before rows → SettledBut after rows atom
  atom_rest rows t f b = elim (atom_split f b) [ inl k ↦ inl (settled_still kinds w (w ++ atom ∷ []) s s rows f (t f k)) | inr k ↦ inr k ]

  pub atom_false : IsFalse before → IsFalse after
  atom_false d = false_still kinds w (w ++ atom ∷ []) s s atom_grows d

  pub atom_fit : IsWellFormed kinds atom → IsFit before → IsFit after
  atom_fit fit h = record {
    written = λ i f e. elim (pushed w atom i f e) [ inl k ↦ h.written i f k | inr k ↦ subst (λ (z : Atom). IsWellFormed kinds z) (sym k.1) fit ];
    starts = h.starts;
  }

-- one more block
module _ (kinds : Kinds) (w : List Atom) (s : List NodeId) (start : NodeId) where
  abbrev without : Pure
  without = record { kinds = kinds; written = w; starts = s }

  abbrev with : Pure
  with = record { kinds = kinds; written = w; starts = s ++ start ∷ [] }

  start_grows : (f : Atom) → Base without f → Base with f
  start_grows f (written place e) = written place e
  start_grows _ begin.zero = begin.zero
  start_grows _ (kind place e) = kind place e
  start_grows _ (block {a} place e) = block place (still_there s start place a e)
  start_grows _ (apart {a} {b} i j ne x y) = apart i j ne (still_there s start i a x) (still_there s start j b y)

  pub start_base : Base with (address_atom start)
  start_base = block (length s) (last_there s start)

  pub start_sound : (rows : List Row) → IsNode kinds start → IsSound without rows → IsSound with rows
  start_sound rows node h = sound_still kinds w w s (s ++ start ∷ []) start_grows rows over h
    where
      one : (i : ℕ) (a : NodeId) → slice_get (s ++ start ∷ []) i ≡ Some a → ((j : ℕ) (b : NodeId) → slice_get s j ≡ Some b → IsNode kinds b) → IsNode kinds a
      one i a e nodes = elim (pushed s start i a e) [ inl k ↦ nodes i a k | inr k ↦ subst (λ (z : NodeId). IsNode kinds z) (sym k.1) node ]

      nodes : (j : ℕ) (b : NodeId) → slice_get s j ≡ Some b → IsNode kinds b
      nodes j b e = h.known (address_atom b) (block j e)

      over : (f : Atom) → Base with f → Over (IsNode kinds) f
      over f (written place e) = h.known f (written place e)
      over _ begin.zero = h.known (In null (pos 0) (pos 0)) begin.zero
      over _ (kind {n} {k} place e) = h.known (kind_atom n k) (kind place e)
      over _ (block {a} place e) = one place a e nodes
      over _ (apart {a} {b} i j ne x y) = (one i a x nodes, one j b y nodes)

  -- a pair of blocks, of which the last may be one
  start_pair : (rows : List Row) → IsStable without rows → (i j : ℕ) (a b : NodeId) → i ≢ j → (slice_get s i ≡ Some a) ⊎ ((i ≡ length s) × (a ≡ start)) → (slice_get s j ≡ Some b) ⊎ ((j ≡ length s) × (b ≡ start)) → Settled with rows (Ne a b (pos 0)) ⊎ (Touches rows (Class (row_at rows start).rep) (Ne a b (pos 0)) ⊎ (Ne a b (pos 0) ≡ address_atom start))
  start_pair rows t i j a b ne (inl x) (inl y) = inl (settled_still kinds w w s (s ++ start ∷ []) rows (Ne a b (pos 0)) (t (Ne a b (pos 0)) (apart i j ne x y)))
  start_pair rows t i j a b ne (inr x) y = inr (inl (inl (ap (λ (z : NodeId). (row_at rows z).rep) x.1)))
  start_pair rows t i j a b ne (inl x) (inr y) = inr (inl (inr (ap (λ (z : NodeId). (row_at rows z).rep) y.1)))

  pub start_rest : (rows : List Row) → IsStable without rows → SettledElsewhereBut with rows (Class (row_at rows start).rep) (address_atom start)
  start_rest rows t f (written place e) = inl (settled_still kinds w w s (s ++ start ∷ []) rows f (t f (written place e)))
  start_rest rows t _ begin.zero = inl (settled_still kinds w w s (s ++ start ∷ []) rows (In null (pos 0) (pos 0)) (t (In null (pos 0) (pos 0)) begin.zero))
  start_rest rows t _ (kind {n} {k} place e) = inl (settled_still kinds w w s (s ++ start ∷ []) rows (kind_atom n k) (t (kind_atom n k) (kind place e)))
  start_rest rows t _ (block {a} place e) = elim (pushed s start place a e) [
    | inl k ↦ inl (settled_still kinds w w s (s ++ start ∷ []) rows (address_atom a) (t (address_atom a) (block place k)))
    | inr k ↦ inr (inr (ap (λ (z : NodeId). address_atom z) k.1))
  ]
  start_rest rows t _ (apart {a} {b} i j ne x y) = start_pair rows t i j a b ne (pushed s start i a x) (pushed s start j b y)

  pub start_false : IsFalse without → IsFalse with
  start_false d = false_still kinds w w s (s ++ start ∷ []) start_grows d

  pub start_fit : IsNode kinds start → IsFit without → IsFit with
  start_fit node h = record {
    written = h.written;
    starts = λ i a e. elim (pushed s start i a e) [ inl k ↦ h.starts i a k | inr k ↦ subst (λ (z : NodeId). IsNode kinds z) (sym k.1) node ];
  }

-- what the flag says
pub closed_false : (p : Pure) (rows : List Row) (b : Bool) → IsClosed p rows b → b ≡ false → IsSound p rows × IsStable p rows
closed_false p rows true k e = cc
closed_false p rows false k e = k

pub closed_true : (p : Pure) (rows : List Row) (b : Bool) → IsClosed p rows b → b ≡ true → IsFalse p
closed_true p rows true k e = k
closed_true p rows false k e = cc

pub closed_as : (p : Pure) (rows : List Row) (b : Bool) → b ≡ true → IsFalse p → IsClosed p rows b
closed_as p rows true e k = k
closed_as p rows false e k = cc

pub flag : (p : Pure) (rows : List Row) (b : Bool) → IsClosed p rows b → IsTrue b ↔ IsFalse p
flag p rows true k = ((λ _. k), (λ _. refl))
flag p rows false k = ((λ e. cc), (λ f. absurd (consistent p rows k.0 k.1 f)))

pub answer : (p : Pure) (f : Atom) (b : Bool) → (IsFalse p → ⊥) → (b ≡ true → Follows p f) → (b ≡ false → Follows p f → ⊥) → IsTrue b ↔ Derived p f
answer p f true n y o = ((λ e. inl (y refl)), (λ _. refl))
answer p f false n y o = ((λ e. cc), (λ d. elim d [ inl k ↦ absurd (o refl k) | inr k ↦ absurd (n k) ]))

-- a slice written back whole
pub whole : (n : ℕ) (ys zs : List Row) → n ≡ length ys → take n (ys ++ drop (length ys) zs) ≡ ys
whole n ys zs e = subst (λ (k : ℕ). take k (ys ++ drop (length ys) zs) ≡ ys) (sym e) (front ys (drop (length ys) zs))
  where
    front : (xs vs : List Row) → take (length xs) (xs ++ vs) ≡ xs
    front [] vs = refl
    front (x ∷ xs) vs = ap (λ (z : List Row). x ∷ z) (front xs vs)

-- one block less
pub less_fit : (kinds : Kinds) (w : List Atom) (s s' : List NodeId) → ((i : ℕ) (a : NodeId) → slice_get s' i ≡ Some a → (j : ℕ) × (slice_get s j ≡ Some a)) → IsFit (record { kinds = kinds; written = w; starts = s }) → IsFit (record { kinds = kinds; written = w; starts = s' })
less_fit kinds w s s' from h = record { written = h.written; starts = λ i a e. let k = from i a e in h.starts k.0 a k.1 }

pub closed_by_not : (p : Pure) (rows : List Row) (b : Bool) → IsClosed p rows b → (IsFalse p → ⊥) → IsSound p rows × IsStable p rows
closed_by_not p rows true k n = absurd (n k)
closed_by_not p rows false k n = k

pub range_of : (p : Pure) (rows : List Row) (a : NodeId) (r : Row) → IsSound p rows → IsStable p rows → IsNode p.kinds a → r ≡ row_at rows a → HasRange p a (low r) (high r)
range_of p rows a r s t n e =
    let k = here p rows a s n in
    let o = s.each (row_at rows a) k.0 in
    let is : HasRange p a (low (row_at rows a)) (high (row_at rows a)) =
    record { follows = in_at p o.within k.1 refl refl; least = λ m u d. let h = holds p rows (In a m u) s t d in (h.1, h.2) } in
    rw e is

pub range_ends : (p : Pure) (rows : List Row) (a : NodeId) (r : Row) → IsSound p rows → IsNode p.kinds a → r ≡ row_at rows a → IsEnd (low r) × IsEnd (high r)
range_ends p rows a r s n e =
    let o : RowSound p r = rw e (s.each (row_at rows a) (here p rows a s n).0) in
    let f = o.full in
    let x = o.above' in
    let y = o.below' in
    ((omega (arith, ints), omega (arith, ints)), (omega (arith, ints), omega (arith, ints)))

pub closed_as_false : (p : Pure) (rows : List Row) (b : Bool) → b ≡ false → IsSound p rows × IsStable p rows → IsClosed p rows b
closed_as_false p rows true e k = cc
closed_as_false p rows false e k = k
