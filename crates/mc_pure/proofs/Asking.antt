-- What answers to questions say.
use Rattle.std.proofs.Common.{◌≡◌, ◌≢◌, ℕ, ℤ, pos, ◌+ℤ◌, neg_ℤ, ◌≤ℤ◌, ◌<ℤ◌, ◌<◌, ◌≤◌, ◌+◌, ◌⊎◌, List, Some, slice_get, get_or, length, true, refl, sym, ◌∙◌, ap, subst, inl, inr, arith}
use Rattle.std.proofs.lemmas.Int.{ints}
use Rattle.std.proofs.lemmas.Option.{slice_get_within, slice_get-get_or}
use Rattle.mc_base.specs.declared.ids.NodeId.{NodeId}
use Rattle.mc_base.specs.declared.plain.Atom.{Atom}
use Rattle.mc_base.specs.declared.plain.Atom.TheVariants.{Eq, Ne, In}
use Rattle.mc_pure.specs.declared.rows.Row.{Row}
use Rattle.mc_pure.specs.declared.rows.Span.{Span}
use Rattle.mc_pure.specs.Pure as begin
use Rattle.mc_pure.specs.Pure.{Pure, IsNode, Base, written, kind, block, apart, address_atom}
use Rattle.mc_pure.specs.Derived.{Follows}
use Rattle.mc_pure.specs.Normal.{low, high, Apart}
use Rattle.mc_pure.specs.Rows.{row_at, IsSound}
use Rattle.mc_pure.specs.Steps.{IsStable, MovedRows, MovedAtom, IsGiven, IsGivenByWritten, IsGivenByPair, IsGivenByStart, IsGivenByStarts, DiffersAt}
use Rattle.mc_pure.specs.Atoms.{is_apart, apart_of}
use Rattle.mc_pure.proofs.Parting.{from_apart, to_apart}
use Rattle.mc_pure.proofs.Looping.{split, at_index, start_at}
use Rattle.mc_pure.proofs.Deciding.{follows, holds, listed_to, listed_from}

-- written atoms
pub written_at : (p : Pure) (rows : List Row) (xs : List Atom) (i : ℕ) (d : Atom) (a b : Row) (c : ℤ) → xs ≡ apart_of p.written → i < length xs → MovedAtom rows (get_or xs i d) a b c → IsGivenByWritten p rows a b c
written_at p rows xs i d a b c e lt m = (i, get_or xs i d, subst (λ (z : List Atom). slice_get z i ≡ Some (get_or xs i d)) e (slice_get-get_or xs i d lt), m)

pub none_more : (p : Pure) (rows : List Row) (xs : List Atom) (i : ℕ) (d : Atom) (a b : Row) (c : ℤ) → xs ≡ apart_of p.written → i < length xs → ((k : ℕ) (f : Atom) → k < i → slice_get (apart_of p.written) k ≡ Some f → MovedAtom rows f a b c → ⊥) → (MovedAtom rows (get_or xs i d) a b c → ⊥) → (k : ℕ) (f : Atom) → k < i + 1 → slice_get (apart_of p.written) k ≡ Some f → MovedAtom rows f a b c → ⊥
none_more p rows xs i d a b c e lt below here k f l g m = elim (split k i l) [
  | inl y ↦ below k f y g m
  | inr y ↦ here (subst (λ (z : Atom). MovedAtom rows z a b c) (sym (at_index xs k i f d lt y (subst (λ (z : List Atom). slice_get z k ≡ Some f) (sym e) g))) m)
]

pub none_all : (p : Pure) (rows : List Row) (xs : List Atom) (i : ℕ) (a b : Row) (c : ℤ) → xs ≡ apart_of p.written → length xs ≤ i → ((k : ℕ) (f : Atom) → k < i → slice_get (apart_of p.written) k ≡ Some f → MovedAtom rows f a b c → ⊥) → IsGivenByWritten p rows a b c → ⊥
none_all p rows xs i a b c e le below g =
    let w = slice_get_within (apart_of p.written) g.0 g.1 g.2 in
    let l : length (apart_of p.written) ≤ i = subst (λ (z : List Atom). length z ≤ i) e le in
    below g.0 g.1 (omega arith) g.2 g.3

-- pairs of blocks
pub start_node : (p : Pure) (rows : List Row) (xs : List NodeId) (i : ℕ) (d : NodeId) → IsSound p rows → xs ≡ p.starts → i < length xs → IsNode p.kinds (get_or xs i d)
start_node p rows xs i d s e lt = s.known (address_atom (get_or xs i d)) (block i (start_at p xs i d e lt))

same_start : (p : Pure) (xs : List NodeId) (i : ℕ) (d x : NodeId) → xs ≡ p.starts → i < length xs → slice_get p.starts i ≡ Some x → get_or xs i d ≡ x
same_start p xs i d x e lt g = at_index xs i i x d lt refl (subst (λ (z : List NodeId). slice_get z i ≡ Some x) (sym e) g)

pub pair_yes : (p : Pure) (rows : List Row) (xs : List NodeId) (i j : ℕ) (d : NodeId) (q r a b : Row) (c : ℤ) → xs ≡ p.starts → i < length xs → j < length xs → i ≢ j → q ≡ row_at rows (get_or xs i d) → r ≡ row_at rows (get_or xs j d) → MovedRows q r (pos 0) a b c → IsGivenByPair p rows i j a b c
pair_yes p rows xs i j d q r a b c e li lj ne eq er m = (get_or xs i d, get_or xs j d, ne, start_at p xs i d e li, start_at p xs j d e lj, rw (← eq, ← er) m)

pub pair_no : (p : Pure) (rows : List Row) (xs : List NodeId) (i j : ℕ) (d : NodeId) (q r a b : Row) (c : ℤ) → xs ≡ p.starts → i < length xs → j < length xs → q ≡ row_at rows (get_or xs i d) → r ≡ row_at rows (get_or xs j d) → (MovedRows q r (pos 0) a b c → ⊥) → IsGivenByPair p rows i j a b c → ⊥
pair_no p rows xs i j d q r a b c e li lj eq er none g =
    let x = same_start p xs i d g.0 e li g.3 in
    let y = same_start p xs j d g.1 e lj g.4 in
    none (rw (eq, er, x, y) g.5)

pub class_no : (p : Pure) (rows : List Row) (xs : List NodeId) (i : ℕ) (d rep : NodeId) (a : Row) → xs ≡ p.starts → i < length xs → rep ≡ (row_at rows (get_or xs i d)).rep → (rep ≡ a.rep → ⊥) → (x : NodeId) → slice_get p.starts i ≡ Some x → (row_at rows x).rep ≢ a.rep
class_no p rows xs i d rep a e li eq none x g h =
    let s = same_start p xs i d x e li g in
    none (eq ∙ ap (λ (z : NodeId). (row_at rows z).rep) s ∙ h)

pub start_none : (p : Pure) (rows : List Row) (i : ℕ) (a b : Row) (c : ℤ) → ((x : NodeId) → slice_get p.starts i ≡ Some x → (row_at rows x).rep ≢ a.rep) → IsGivenByStart p rows i a b c → ⊥
start_none p rows i a b c none g = none g.1.0 g.1.3 g.1.5.0

pub pairs_more : (p : Pure) (rows : List Row) (i n : ℕ) (a b : Row) (c : ℤ) → ((j : ℕ) → j < n → IsGivenByPair p rows i j a b c → ⊥) → (IsGivenByPair p rows i n a b c → ⊥) → (j : ℕ) → j < n + 1 → IsGivenByPair p rows i j a b c → ⊥
pairs_more p rows i n a b c below here j l g = elim (split j n l) [ inl y ↦ below j y g | inr y ↦ here (subst (λ (z : ℕ). IsGivenByPair p rows i z a b c) y g) ]

pub pairs_all : (p : Pure) (rows : List Row) (i n : ℕ) (a b : Row) (c : ℤ) → length p.starts ≤ n → ((j : ℕ) → j < n → IsGivenByPair p rows i j a b c → ⊥) → IsGivenByStart p rows i a b c → ⊥
pairs_all p rows i n a b c le below g = let w = slice_get_within p.starts g.0 g.1.1 g.1.4 in below g.0 (omega arith) g.1

pub starts_more : (p : Pure) (rows : List Row) (n : ℕ) (a b : Row) (c : ℤ) → ((i : ℕ) → i < n → IsGivenByStart p rows i a b c → ⊥) → (IsGivenByStart p rows n a b c → ⊥) → (i : ℕ) → i < n + 1 → IsGivenByStart p rows i a b c → ⊥
starts_more p rows n a b c below here i l g = elim (split i n l) [ inl y ↦ below i y g | inr y ↦ here (subst (λ (z : ℕ). IsGivenByStart p rows z a b c) y g) ]

pub starts_all : (p : Pure) (rows : List Row) (n : ℕ) (a b : Row) (c : ℤ) → length p.starts ≤ n → ((i : ℕ) → i < n → IsGivenByStart p rows i a b c → ⊥) → IsGivenByStarts p rows a b c → ⊥
starts_all p rows n a b c le below g = let w = slice_get_within p.starts g.0 g.1.1.0 g.1.1.3 in below g.0 (omega arith) g.1

-- both together
pub by_written : (p : Pure) (rows : List Row) (a b : Row) (c : ℤ) → IsGivenByWritten p rows a b c → IsGiven p rows a b c
by_written p rows a b c g = let k = from_apart p.written g.0 g.1 g.2 in (g.1, written k.0 k.1, g.3)

pub by_starts : (p : Pure) (rows : List Row) (a b : Row) (c : ℤ) → IsGivenByStarts p rows a b c → IsGiven p rows a b c
by_starts p rows a b c g =
    let k = g.1.1 in
    (Ne k.0 k.1 (pos 0), apart g.0 g.1.0 k.2 k.3 k.4, inl k.5)

turned_rows : (x y a b : Row) (c : ℤ) → MovedRows x y (pos 0) b a (neg_ℤ c) → MovedRows y x (pos 0) a b c
turned_rows x y a b c m = (m.1, m.0, omega (arith, ints, m.2))

moved_apart : (rows : List Row) (f : Atom) (a b : Row) (c : ℤ) → MovedAtom rows f a b c → is_apart f ≡ true
moved_apart rows (Ne x y d) a b c m = refl
moved_apart rows (Eq x y d) a b c m = absurd m
moved_apart rows (In x l h) a b c m = absurd m

given_at : (p : Pure) (rows : List Row) (a b : Row) (c : ℤ) → (f : Atom) → Base p f → MovedAtom rows f a b c → IsGivenByWritten p rows a b c ⊎ IsGivenByStarts p rows a b c
given_at p rows a b c f (written place e) m = let k = to_apart p.written place f (moved_apart rows f a b c m) e in inl (k.0, f, k.1, m)
given_at p rows a b c _ begin.zero m = absurd m
given_at p rows a b c _ (kind place e) m = absurd m
given_at p rows a b c _ (block place e) m = absurd m
given_at p rows a b c _ (apart {a = x} {b = y} i j ne ex ey) m = inr (elim m [
  | inl k ↦ (i, (j, (x, y, ne, ex, ey, k)))
  | inr k ↦ (j, (i, (y, x, (λ z. ne (sym z)), ey, ex, turned_rows (row_at rows x) (row_at rows y) a b c k)))
])

pub not_given : (p : Pure) (rows : List Row) (a b : Row) (c : ℤ) → (IsGivenByWritten p rows a b c → ⊥) → (IsGivenByStarts p rows a b c → ⊥) → IsGiven p rows a b c → ⊥
not_given p rows a b c w s g = elim (given_at p rows a b c g.0 g.1 g.2) [ inl k ↦ w k | inr k ↦ s k ]

-- ranges
pub apart_to : (l r : Row) (m o : Span) (c : ℤ) → m.lo ≡ low l → m.hi ≡ high l → o.lo ≡ low r → o.hi ≡ high r → (m.hi <ℤ (o.lo +ℤ c)) ⊎ ((o.hi +ℤ c) <ℤ m.lo) → Apart l r c
apart_to l r m o c a b d e (inl k) = inl (omega (arith, ints))
apart_to l r m o c a b d e (inr k) = inr (omega (arith, ints))

pub apart_from : (l r : Row) (m o : Span) (c : ℤ) → m.lo ≡ low l → m.hi ≡ high l → o.lo ≡ low r → o.hi ≡ high r → Apart l r c → (m.hi <ℤ (o.lo +ℤ c)) ⊎ ((o.hi +ℤ c) <ℤ m.lo)
apart_from l r m o c a b d e (inl k) = inl (omega (arith, ints))
apart_from l r m o c a b d e (inr k) = inr (omega (arith, ints))

-- what follows
module _ (p : Pure) (rows : List Row) (s : IsSound p rows) (t : IsStable p rows) where
  pub eq_yes : (a b : NodeId) (c : ℤ) (l r : Row) → IsNode p.kinds a → IsNode p.kinds b → l ≡ row_at rows a → r ≡ row_at rows b → (l.rep ≡ r.rep) × (l.off ≡ r.off +ℤ c) → Follows p (Eq a b c)
  eq_yes a b c l r na nb el er k =
      let k' : ((row_at rows a).rep ≡ (row_at rows b).rep) × ((row_at rows a).off ≡ (row_at rows b).off +ℤ c) = rw (← el, ← er) k in
      follows p rows (Eq a b c) s t (na, nb, k'.0, k'.1)

  pub eq_no : (a b : NodeId) (c : ℤ) (l r : Row) → l ≡ row_at rows a → r ≡ row_at rows b → (l.rep ≡ r.rep → l.off ≢ r.off +ℤ c) → Follows p (Eq a b c) → ⊥
  eq_no a b c l r el er k d =
      let h = holds p rows (Eq a b c) s t d in
      let k' : (row_at rows a).rep ≡ (row_at rows b).rep → (row_at rows a).off ≢ (row_at rows b).off +ℤ c = rw (← el, ← er) k in
      k' h.2 h.3

  pub ne_yes : (a b : NodeId) (c : ℤ) (l r : Row) → IsNode p.kinds a → IsNode p.kinds b → l ≡ row_at rows a → r ≡ row_at rows b → DiffersAt p rows l r c → Follows p (Ne a b c)
  ne_yes a b c l r na nb el er k =
      let k' : DiffersAt p rows (row_at rows a) (row_at rows b) c = rw (← el, ← er) k in
      follows p rows (Ne a b c) s t (na, nb, elim k' [ inl x ↦ inl x | inr x ↦ inr (listed_to p rows x.0 a b c x.1 x.2) ])

  pub ne_no : (a b : NodeId) (c : ℤ) (l r : Row) → l ≡ row_at rows a → r ≡ row_at rows b → (DiffersAt p rows l r c → ⊥) → Follows p (Ne a b c) → ⊥
  ne_no a b c l r el er k d =
      let h = holds p rows (Ne a b c) s t d in
      let k' : DiffersAt p rows (row_at rows a) (row_at rows b) c → ⊥ = rw (← el, ← er) k in
      k' (elim h.2 [ inl x ↦ inl x | inr x ↦ inr (listed_from p rows a b c x) ])

  pub in_yes : (a : NodeId) (lo hi : ℤ) (l : Row) (m : Span) → IsNode p.kinds a → l ≡ row_at rows a → m.lo ≡ low l → m.hi ≡ high l → (lo ≤ℤ m.lo) × (m.hi ≤ℤ hi) → Follows p (In a lo hi)
  in_yes a lo hi l m na el ml mh k =
      let k' : (lo ≤ℤ low l) × (high l ≤ℤ hi) = rw (← ml, ← mh) k in
      let k'' : (lo ≤ℤ low (row_at rows a)) × (high (row_at rows a) ≤ℤ hi) = rw (← el) k' in
      follows p rows (In a lo hi) s t (na, k''.0, k''.1)

  pub in_no : (a : NodeId) (lo hi : ℤ) (l : Row) (m : Span) → l ≡ row_at rows a → m.lo ≡ low l → m.hi ≡ high l → ((lo ≤ℤ m.lo) × (m.hi ≤ℤ hi) → ⊥) → Follows p (In a lo hi) → ⊥
  in_no a lo hi l m el ml mh k d =
      let h = holds p rows (In a lo hi) s t d in
      let h' : (lo ≤ℤ low l) × (high l ≤ℤ hi) = rw el (h.1, h.2) in
      k (rw (ml, mh) h')

  pub no_left : (a b : NodeId) (c : ℤ) → (IsNode p.kinds a → ⊥) → (Follows p (Eq a b c) → ⊥) × (Follows p (Ne a b c) → ⊥)
  no_left a b c n = ((λ d. n (holds p rows (Eq a b c) s t d).0), (λ d. n (holds p rows (Ne a b c) s t d).0))

  pub no_right : (a b : NodeId) (c : ℤ) → (IsNode p.kinds b → ⊥) → (Follows p (Eq a b c) → ⊥) × (Follows p (Ne a b c) → ⊥)
  no_right a b c n = ((λ d. n (holds p rows (Eq a b c) s t d).1), (λ d. n (holds p rows (Ne a b c) s t d).1))

  pub no_node : (a : NodeId) (lo hi : ℤ) → (IsNode p.kinds a → ⊥) → Follows p (In a lo hi) → ⊥
  no_node a lo hi n d = n (holds p rows (In a lo hi) s t d).0
