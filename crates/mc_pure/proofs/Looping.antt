-- What loops over atoms and starts of blocks leave settled.
use Rattle.std.proofs.Common.{◌≡◌, ◌≢◌, ℕ, pos, ◌<◌, ◌≤◌, ◌+◌, ◌⊎◌, List, Some, slice_get, get_or, length, Bool, true, false, not, refl, sym, ◌∙◌, subst, inl, inr, arith}
use Rattle.std.proofs.lemmas.Int.{ints}
use Rattle.std.proofs.lemmas.Option.{slice_get_within, slice_get-get_or}
use Rattle.mc_base.specs.declared.ids.NodeId.{NodeId}
use Rattle.mc_base.specs.declared.plain.Atom.{Atom}
use Rattle.mc_base.specs.declared.plain.Atom.TheVariants.{Eq, Ne, In}
use Rattle.mc_base.specs.Nodes.{null}
use Rattle.mc_pure.specs.declared.rows.Row.{Row}
use Rattle.mc_pure.specs.Pure as begin
use Rattle.mc_pure.specs.Pure.{Pure, IsNode, Base, written, kind, block, apart, kind_atom, address_atom}
use Rattle.mc_pure.specs.Derived.{IsFalse}
use Rattle.mc_pure.specs.Known.{IsClosed, SettledBut}
use Rattle.mc_pure.specs.declared.rows.Outcome.{Outcome}
use Rattle.mc_pure.specs.declared.rows.Outcome.TheVariants.{Same, Changed, False}
use Rattle.mc_pure.specs.declared.scope.Scope.{Scope}
use Rattle.mc_pure.specs.declared.scope.Scope.TheVariants.{All, Class}
use Rattle.mc_pure.specs.Atoms.{apart_of}
use Rattle.mc_pure.proofs.Parting.{from_apart, to_apart}
use Rattle.mc_pure.specs.Scopes.{IsWithin, Touches, SettledElsewhere, SettledElsewhereBut}
use Rattle.mc_pure.specs.Rows.{row_at, Over, IsSound, IsTie, Keeps, Settled, Lighter, Stepped}
use Rattle.mc_pure.specs.Steps.{IsStable, HasTies, HasKinds, Enforced, TiesBelow, Ties, AddressesBelow, Addresses, WrittenBelow, Written, PairSettled, StartBelow, StartSettled, StartWithin, StartsBelow, Starts}

pub split : (i n : ℕ) → i < n + 1 → (i < n) ⊎ (i ≡ n)
split i n l = grind arith

pub at_index : {X : Type 0} (xs : List X) (i n : ℕ) (x d : X) → n < length xs → i ≡ n → slice_get xs i ≡ Some x → get_or xs n d ≡ x
at_index xs i n x d lt e g =
    let m = slice_get-get_or xs n d lt in
    let h : slice_get xs n ≡ Some x = subst (λ (z : ℕ). slice_get xs z ≡ Some x) e g in
    cc

pub more : {X : Type 0} (xs : List X) (P : X → Type 0) (n : ℕ) (d : X) → n < length xs → ((i : ℕ) (x : X) → i < n → slice_get xs i ≡ Some x → P x) → P (get_or xs n d) → (i : ℕ) (x : X) → i < n + 1 → slice_get xs i ≡ Some x → P x
more xs P n d lt below here i x l g = elim (split i n l) [
  | inl y ↦ below i x y g
  | inr y ↦ subst P (at_index xs i n x d lt y g) here
]

pub all : {X : Type 0} (xs : List X) (P : X → Type 0) (n : ℕ) → length xs ≤ n → ((i : ℕ) (x : X) → i < n → slice_get xs i ≡ Some x → P x) → (i : ℕ) (x : X) → slice_get xs i ≡ Some x → P x
all xs P n le below i x g = let w = slice_get_within xs i x g in below i x (omega arith) g

-- the atoms at places
pub base_at : (p : Pure) (xs : List Atom) (i : ℕ) (d : Atom) → xs ≡ p.written → i < length xs → Base p (get_or xs i d)
base_at p xs i d e lt = written i (subst (λ (z : List Atom). slice_get z i ≡ Some (get_or xs i d)) e (slice_get-get_or xs i d lt))

pub apart_base : (p : Pure) (xs : List Atom) (i : ℕ) (d : Atom) → xs ≡ apart_of p.written → i < length xs → Base p (get_or xs i d)
apart_base p xs i d e lt =
    let k = from_apart p.written i (get_or xs i d) (subst (λ (z : List Atom). slice_get z i ≡ Some (get_or xs i d)) e (slice_get-get_or xs i d lt)) in
    written k.0 k.1

pub start_at : (p : Pure) (xs : List NodeId) (i : ℕ) (d : NodeId) → xs ≡ p.starts → i < length xs → slice_get p.starts i ≡ Some (get_or xs i d)
start_at p xs i d e lt = subst (λ (z : List NodeId). slice_get z i ≡ Some (get_or xs i d)) e (slice_get-get_or xs i d lt)

pub pair_at : (p : Pure) (xs : List NodeId) (i j : ℕ) (d : NodeId) → xs ≡ p.starts → i < length xs → j < length xs → i ≢ j → Base p (Ne (get_or xs i d) (get_or xs j d) (pos 0))
pair_at p xs i j d e li lj ne = apart i j ne (start_at p xs i d e li) (start_at p xs j d e lj)

pub same_start : (p : Pure) (xs : List NodeId) (i : ℕ) (d x : NodeId) → xs ≡ p.starts → i < length xs → slice_get p.starts i ≡ Some x → get_or xs i d ≡ x
same_start p xs i d x e lt g = at_index xs i i x d lt refl (subst (λ (z : List NodeId). slice_get z i ≡ Some x) (sym e) g)

-- loops that look
pub written_more : (p : Pure) (rows now new : List Row) (xs : List Atom) (i : ℕ) (d : Atom) → xs ≡ apart_of p.written → i < length xs → (now ≡ rows) × WrittenBelow p rows i → (new ≡ now) × Settled p now (get_or xs i d) → (new ≡ rows) × WrittenBelow p rows (i + 1)
written_more p rows now new xs i d e lt a b =
    let here : Settled p rows (get_or xs i d) = subst (λ (z : List Row). Settled p z (get_or xs i d)) a.0 b.1 in
    (b.0 ∙ a.0, subst (λ (z : List Atom). (k : ℕ) (f : Atom) → k < i + 1 → slice_get z k ≡ Some f → Settled p rows f) e (more xs (λ f. Settled p rows f) i d lt (subst (λ (z : List Atom). (k : ℕ) (f : Atom) → k < i → slice_get z k ≡ Some f → Settled p rows f) (sym e) a.1) here))

pub written_all : (p : Pure) (rows now : List Row) (xs : List Atom) (i : ℕ) → xs ≡ apart_of p.written → length xs ≤ i → (now ≡ rows) × WrittenBelow p rows i → (now ≡ rows) × Written p rows
written_all p rows now xs i e le a = (a.0, all (apart_of p.written) (λ f. Settled p rows f) i (subst (λ (z : List Atom). length z ≤ i) e le) a.1)

pub pair_settled : (p : Pure) (rows : List Row) (xs : List NodeId) (i j : ℕ) (d : NodeId) → xs ≡ p.starts → i < length xs → j < length xs → Settled p rows (Ne (get_or xs i d) (get_or xs j d) (pos 0)) → PairSettled p rows i j
pair_settled p rows xs i j d e li lj h a b ne f g =
    let s = same_start p xs i d a e li f in
    let t = same_start p xs j d b e lj g in
    rw (← s, ← t) h

pub pair_more : (p : Pure) (rows now new : List Row) (i j : ℕ) → (now ≡ rows) × StartBelow p rows i j → (new ≡ now) × PairSettled p now i j → (new ≡ rows) × StartBelow p rows i (j + 1)
pair_more p rows now new i j a b = (b.0 ∙ a.0, at)
  where
    at : StartBelow p rows i (j + 1)
    at k l = elim (split k j l) [
      | inl z ↦ a.1 k z
      | inr z ↦ subst (λ (n : ℕ). PairSettled p rows i n) (sym z) (subst (λ (r : List Row). PairSettled p r i j) a.0 b.1)
    ]

pub pairs_all : (p : Pure) (rows now : List Row) (i j : ℕ) → length p.starts ≤ j → (now ≡ rows) × StartBelow p rows i j → (now ≡ rows) × StartSettled p rows i
pairs_all p rows now i j le a = (a.0, λ k x y ne f g. let w = slice_get_within p.starts k y g in a.1 k (omega arith) x y ne f g)

pub start_outside : (p : Pure) (rows : List Row) (scope : Scope) (xs : List NodeId) (i : ℕ) (d : NodeId) (q : Row) → xs ≡ p.starts → i < length xs → q ≡ row_at rows (get_or xs i d) → (IsWithin scope q → ⊥) → StartWithin p rows scope i
start_outside p rows scope xs i d q e lt eq none a f w =
    let s = same_start p xs i d a e lt f in
    absurd (none (rw (eq, s) w))

pub starts_more : (p : Pure) (rows now new : List Row) (scope : Scope) (i : ℕ) → (now ≡ rows) × StartsBelow p rows scope i → (new ≡ now) × StartWithin p now scope i → (new ≡ rows) × StartsBelow p rows scope (i + 1)
starts_more p rows now new scope i a b = (b.0 ∙ a.0, at)
  where
    at : StartsBelow p rows scope (i + 1)
    at k l = elim (split k i l) [
      | inl z ↦ a.1 k z
      | inr z ↦ subst (λ (n : ℕ). StartWithin p rows scope n) (sym z) (subst (λ (r : List Row). StartWithin p r scope i) a.0 b.1)
    ]

pub starts_all : (p : Pure) (rows now : List Row) (scope : Scope) (i : ℕ) → length p.starts ≤ i → (now ≡ rows) × StartsBelow p rows scope i → (now ≡ rows) × Starts p rows scope
starts_all p rows now scope i le a = (a.0, λ k x f w. let l = slice_get_within p.starts k x f in a.1 k (omega arith) x f w)

-- a disequality without a number, turned round
swapped : (p : Pure) (rows : List Row) (a b : NodeId) → Settled p rows (Ne a b (pos 0)) → Settled p rows (Ne b a (pos 0))
swapped p rows a b h = (
  λ e o. h.0 (sym e) (omega (arith, ints)),
  λ e. let k = h.2 e in ((λ o. k.0 (omega (arith, ints))), (λ o. k.1 (omega (arith, ints)))),
  λ e. let k = h.1 e in ((λ o. k.0 (omega (arith, ints))), (λ o. k.1 (omega (arith, ints)))),
)

-- what is settled where a disequality that is looked at is
module _ (p : Pure) (rows : List Row) (scope : Scope) (rest : SettledElsewhere p rows scope) (s : Starts p rows scope) where
  tied : (f : Atom) → IsTie f → Base p f → Settled p rows f
  tied (Eq a b c) t x = elim (rest (Eq a b c) x) [ inl k ↦ k | inr k ↦ absurd k ]
  tied (In a l h) t x = elim (rest (In a l h) x) [ inl k ↦ k | inr k ↦ absurd k ]
  tied (Ne a b c) t x = absurd t

  written_at : Written p rows → (place : ℕ) (f : Atom) → slice_get p.written place ≡ Some f → Settled p rows f
  written_at w place (Eq a b c) e = tied (Eq a b c) tt (written place e)
  written_at w place (In a l h) e = tied (In a l h) tt (written place e)
  written_at w place (Ne a b c) e = let k = to_apart p.written place (Ne a b c) refl e in w k.0 (Ne a b c) k.1

  stable_at : Written p rows → (f : Atom) → Base p f → Settled p rows f
  stable_at w f (written place e) = written_at w place f e
  stable_at w _ begin.zero = tied (In null (pos 0) (pos 0)) tt begin.zero
  stable_at w _ (kind {n} {k} place e) = tied (kind_atom n k) tt (kind place e)
  stable_at w _ (block {a} place e) = tied (address_atom a) tt (block place e)
  stable_at w _ (apart {a} {b} i j ne x y) = elim (rest (Ne a b (pos 0)) (apart i j ne x y)) [
    | inl k ↦ k
    | inr k ↦ elim k [
      | inl l ↦ s i a x l j a b ne x y
      | inr l ↦ swapped p rows b a (s j b y l i b a (λ z. ne (sym z)) y x)
    ]
  ]

pub stepped_map : (p : Pure) (rows now : List Row) (P Q : Type 0) (out : Outcome) → (P → Q) → Stepped p rows now P out → Stepped p rows now Q out
stepped_map p rows now P Q Same f k = (k.0, f k.1)
stepped_map p rows now P Q (Changed class) f k = k
stepped_map p rows now P Q False f k = k

pub all_done : (p : Pure) (rows now new : List Row) (scope : Scope) (out : Outcome) → SettledElsewhere p rows scope → (now ≡ rows) × Written p rows → Stepped p now new (Starts p now scope) out → Stepped p rows new (IsStable p rows) out
all_done p rows now new scope out rest a b = stepped_map p rows new (Starts p rows scope) (IsStable p rows) out (λ s. stable_at p rows scope rest s a.1) (subst (λ (z : List Row). Stepped p z new (Starts p z scope) out) a.0 b)

pub stable_by : (p : Pure) (rows now : List Row) → IsSound p rows → (now ≡ rows) × IsStable p rows → IsSound p now × IsStable p now
stable_by p rows now s k = subst (λ (z : List Row). IsSound p z × IsStable p z) (sym k.0) (s, k.1)

-- a change leaves what does not touch its class as it was
module _ (p : Pure) (rows now : List Row) (class : NodeId) (scope scope' : Scope) (s : IsSound p rows) (l : Lighter p rows now class) (before : (r : Row) → IsWithin scope r → IsWithin scope' r) (more : (r : Row) → r.rep ≡ class → IsWithin scope' r) where
  touch_step : (f : Atom) → Over (IsNode p.kinds) f → Settled p rows f ⊎ Touches rows scope f → Settled p now f ⊎ Touches now scope' f
  touch_step (Eq a b c) n (inl k) = inl (l.keeps (Eq a b c) tt k)
  touch_step (Eq a b c) n (inr k) = absurd k
  touch_step (In a x y) n (inl k) = inl (l.keeps (In a x y) tt k)
  touch_step (In a x y) n (inr k) = absurd k
  touch_step (Ne a b c) n k = elim (l.within a n.0) [
    | inr x ↦ inr (inl (more (row_at now a) x))
    | inl x ↦ elim (l.within b n.1) [
      | inr y ↦ inr (inr (more (row_at now b) y))
      | inl y ↦ elim k [
        | inl h ↦ inl (rw (x, y) h)
        | inr h ↦ inr (elim h [ inl u ↦ inl (rw x (before (row_at rows a) u)) | inr u ↦ inr (rw y (before (row_at rows b) u)) ])
      ]
    ]
  ]

  pub elsewhere_step : SettledElsewhere p rows scope → SettledElsewhere p now scope'
  elsewhere_step rest f b = touch_step f (s.known f b) (rest f b)

  pub but_step : (g : Atom) → SettledElsewhereBut p rows scope g → SettledElsewhereBut p now scope' g
  but_step g rest f b = elim (rest f b) [
    | inl k ↦ split_step (touch_step f (s.known f b) (inl k))
    | inr k ↦ elim k [
      | inl h ↦ split_step (touch_step f (s.known f b) (inr h))
      | inr h ↦ inr (inr h)
    ]
  ]
    where
      split_step : Settled p now f ⊎ Touches now scope' f → Settled p now f ⊎ (Touches now scope' f ⊎ (f ≡ g))
      split_step (inl k) = inl k
      split_step (inr k) = inr (inl k)

pub all_looked_at : (p : Pure) (rows : List Row) → HasTies p rows → SettledElsewhere p rows All
all_looked_at p rows t (Eq a b c) x = inl (t (Eq a b c) tt x)
all_looked_at p rows t (In a l h) x = inl (t (In a l h) tt x)
all_looked_at p rows t (Ne a b c) x = inr (inl tt)

-- loops that change
pub keeps_both : (p : Pure) (a b c : List Row) → Keeps p a b → Keeps p b c → Keeps p a c
keeps_both p a b c x y f t h = y f t (x f t h)

pub tie_more : (p : Pure) (first rows new : List Row) (xs : List Atom) (i : ℕ) (d : Atom) → xs ≡ p.written → i < length xs → Enforced p first rows (TiesBelow p rows i) → Enforced p rows new (Settled p new (get_or xs i d)) → Enforced p first new (TiesBelow p new (i + 1))
tie_more p first rows new xs i d e lt a b = record {
  sound = b.sound;
  keeps = keeps_both p first rows new a.keeps b.keeps;
  settled = subst (λ (z : List Atom). (k : ℕ) (f : Atom) → k < i + 1 → slice_get z k ≡ Some f → IsTie f → Settled p new f) e (more xs (λ f. IsTie f → Settled p new f) i d lt (subst (λ (z : List Atom). (k : ℕ) (f : Atom) → k < i → slice_get z k ≡ Some f → IsTie f → Settled p new f) (sym e) (λ k f l g t. b.keeps f t (a.settled k f l g t))) (λ t. b.settled));
}

pub ties_all : (p : Pure) (first rows : List Row) (xs : List Atom) (i : ℕ) → xs ≡ p.written → length xs ≤ i → Enforced p first rows (TiesBelow p rows i) → Enforced p first rows (Ties p rows)
ties_all p first rows xs i e le a = record { sound = a.sound; keeps = a.keeps; settled = all p.written (λ f. IsTie f → Settled p rows f) i (subst (λ (z : List Atom). length z ≤ i) e le) a.settled }

pub address_more : (p : Pure) (first rows new : List Row) (xs : List NodeId) (i : ℕ) (d : NodeId) (g : Atom) → xs ≡ p.starts → i < length xs → g ≡ address_atom (get_or xs i d) → Enforced p first rows (AddressesBelow p rows i) → Enforced p rows new (Settled p new g) → Enforced p first new (AddressesBelow p new (i + 1))
address_more p first rows new xs i d g e lt is a b = record {
  sound = b.sound;
  keeps = keeps_both p first rows new a.keeps b.keeps;
  settled = subst (λ (z : List NodeId). (k : ℕ) (n : NodeId) → k < i + 1 → slice_get z k ≡ Some n → Settled p new (address_atom n)) e (more xs (λ n. Settled p new (address_atom n)) i d lt (subst (λ (z : List NodeId). (k : ℕ) (n : NodeId) → k < i → slice_get z k ≡ Some n → Settled p new (address_atom n)) (sym e) (λ k n l h. b.keeps (address_atom n) tt (a.settled k n l h))) (subst (λ (f : Atom). Settled p new f) is b.settled));
}

pub addresses_all : (p : Pure) (first rows : List Row) (xs : List NodeId) (i : ℕ) → xs ≡ p.starts → length xs ≤ i → Enforced p first rows (AddressesBelow p rows i) → Enforced p first rows (Addresses p rows)
addresses_all p first rows xs i e le a = record { sound = a.sound; keeps = a.keeps; settled = all p.starts (λ n. Settled p rows (address_atom n)) i (subst (λ (z : List NodeId). length z ≤ i) e le) a.settled }

ties_at : (p : Pure) (rows now new : List Row) → HasKinds p rows → Enforced p rows now (Ties p now) → Enforced p now new (Addresses p new) → (f : Atom) → IsTie f → Base p f → Settled p new f
ties_at p rows now new k a b f t (written place e) = b.keeps f t (a.settled place f e t)
ties_at p rows now new k a b _ t begin.zero = b.keeps (In null (pos 0) (pos 0)) tt (a.keeps (In null (pos 0) (pos 0)) tt k.zero)
ties_at p rows now new h a b _ t (kind {n} {k} place e) = b.keeps (kind_atom n k) tt (a.keeps (kind_atom n k) tt (h.kinds place n k e))
ties_at p rows now new k f g _ t (block {a} place e) = g.settled place a e
ties_at p rows now new k a b _ t (apart i j ne x y) = absurd t

pub has_ties : (p : Pure) (rows now new : List Row) → HasKinds p rows → Enforced p rows now (Ties p now) → Enforced p now new (Addresses p new) → HasTies p new
has_ties p rows now new k a b f t x = ties_at p rows now new k a b f t x

pub closed_by : (p : Pure) (rows : List Row) (b : Bool) → (b ≡ true → IsSound p rows × IsStable p rows) → (b ≡ false → IsFalse p) → IsClosed p rows (not b)
closed_by p rows true y n = y refl
closed_by p rows false y n = n refl

pub address_base : (p : Pure) (xs : List NodeId) (i : ℕ) (d : NodeId) (g : Atom) → xs ≡ p.starts → i < length xs → g ≡ address_atom (get_or xs i d) → Base p g
address_base p xs i d g e lt is = subst (λ (z : Atom). Base p z) (sym is) (block i (start_at p xs i d e lt))

settled_or : (p : Pure) (rows : List Row) (f g : Atom) → Settled p rows g → Settled p rows f ⊎ (f ≡ g) → Settled p rows f
settled_or p rows f g h (inl k) = k
settled_or p rows f g h (inr e) = subst (λ (z : Atom). Settled p rows z) (sym e) h

pub but_settled : (p : Pure) (rows now : List Row) (scope : Scope) (g : Atom) → SettledElsewhereBut p rows scope g → (now ≡ rows) × Settled p rows g → SettledElsewhere p now scope
but_settled p rows now scope g rest k = subst (λ (z : List Row). SettledElsewhere p z scope) (sym k.0) at
  where
    at : SettledElsewhere p rows scope
    at f b = elim (rest f b) [
      | inl h ↦ inl h
      | inr h ↦ elim h [ inl t ↦ inr t | inr e ↦ inl (subst (λ (z : Atom). Settled p rows z) (sym e) k.1) ]
    ]

pub all_settled : (p : Pure) (rows now : List Row) (g : Atom) → IsSound p rows → SettledBut p rows g → (now ≡ rows) × Settled p rows g → IsSound p now × IsStable p now
all_settled p rows now g s t k = subst (λ (z : List Row). IsSound p z × IsStable p z) (sym k.0) (s, (λ f b. settled_or p rows f g k.1 (t f b)))

pub class_but : (p : Pure) (rows now : List Row) (g : Atom) (class : NodeId) → IsSound p rows → SettledBut p rows g → Lighter p rows now class → SettledElsewhereBut p now (Class class) g
class_but p rows now g class s t l = but_step p rows now class (Class class) (Class class) s l (λ r h. h) (λ r h. h) g (λ f b. elim (t f b) [ inl k ↦ inl k | inr k ↦ inr (inr k) ])
