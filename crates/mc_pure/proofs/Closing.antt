-- What is known is false, or has rows that say all of it: while an atom is not settled, a lighter list of rows is sound.
use Rattle.std.proofs.Common.{◌≡◌, ◌≢◌, ◌⊎◌, ℕ, zero, suc, ℤ, pos, ◌+ℤ◌, ◌-ℤ◌, neg_ℤ, ◌≤ℤ◌, ◌<ℤ◌, ◌<◌, List, [], ◌∷◌, Some, slice_get, map, refl, subst, inl, inr, arith}
use Rattle.std.proofs.lemmas.Int.{ints}
use Rattle.std.specs.Int.{int_max, int_min}
use Rattle.mc_base.specs.declared.ids.NodeId.{NodeId}
use Rattle.mc_base.specs.declared.plain.Kind.{Kind}
use Rattle.mc_base.specs.declared.plain.Atom.{Atom}
use Rattle.mc_base.specs.declared.plain.Atom.TheVariants.{Eq, Ne, In}
use Rattle.mc_base.specs.Nodes.{null}
use Rattle.mc_pure.specs.declared.rows.Row.{Row}
use Rattle.mc_pure.specs.declared.rows.Span.{Span}
use Rattle.mc_pure.specs.declared.rows.Change.{Change}
use Rattle.mc_pure.specs.declared.rows.Outcome.{Outcome}
use Rattle.mc_pure.specs.declared.rows.Outcome.TheVariants.{Same, Changed, False}
use Rattle.mc_pure.specs.declared.steps.Split.{Split}
use Rattle.mc_pure.specs.declared.steps.Split.TheVariants.{Nothing, Clash, Left, Right}
use Rattle.mc_pure.specs.declared.steps.Step.{Step}
use Rattle.mc_pure.specs.declared.steps.Step.TheVariants.{Stay, Empty, To}
use Rattle.mc_pure.specs.Pure as begin
use Rattle.mc_pure.specs.Pure.{Pure, IsNode, Base, written, kind, block, apart, kind_atom, address_atom}
use Rattle.mc_pure.specs.Derived.{Follows, IsFalse, base}
use Rattle.mc_pure.specs.Nodes.{RiseFrom}
use Rattle.mc_pure.specs.Known.{IsFit}
use Rattle.mc_pure.specs.Rows.{row_at, weight, changed_by, IsSound, Settled, Lighter, Stepped}
use Rattle.mc_pure.specs.Steps.{CutTo, JoinTo, JoinIs, LinkIs, SplitIs, WithoutIs, ActIs, IsStable, start_rows}
use Rattle.mc_pure.proofs.Changing.{same_node, decide}
use Rattle.mc_pure.proofs.Stepping.{node_off, cut_done, link_done, part_nothing, part_clash, left_in, left_done, right_in, right_done}
use Rattle.mc_pure.proofs.Starting.{start_sound}

pub less_or : (a b : ℤ) → (a <ℤ b) ⊎ (b ≤ℤ a)
less_or a b = grind (arith, ints)

pub same_or : (a b : ℤ) → (a ≡ b) ⊎ (a ≢ b)
same_or a b = grind (arith, ints)

pub places : (i j : ℕ) → (i ≡ j) ⊎ (i ≢ j)
places i j = grind arith

order : (a b : ℕ) → a ≢ b → (b < a) ⊎ (a < b)
order a b ne = grind arith

node_order : (a b : NodeId) → a ≢ b → (b.0 < a.0) ⊎ (a.0 < b.0)
node_order a b ne = order a.0 b.0 (λ e. ne (same_node a b e))

-- the step of a range
sticks : (r : Row) (lo hi : ℤ) → ((r.lo <ℤ lo) ⊎ (hi <ℤ r.hi)) ⊎ ((lo ≤ℤ r.lo) × (r.hi ≤ℤ hi))
sticks r lo hi = elim (less_or r.lo lo) [
  | inl x ↦ inl (inl x)
  | inr x ↦ elim (less_or hi r.hi) [ inl y ↦ inl (inr y) | inr y ↦ inr (x, y) ]
]

cut_change : (r : Row) (lo hi : ℤ) → lo ≤ℤ hi → ((r.lo <ℤ lo) ⊎ (hi <ℤ r.hi)) → (lo ≡ hi) ⊎ (lo ≢ hi) → (c : Change) × CutTo r lo hi (To c)
cut_change r lo hi x y (inl e) =
    let c : Change = record { gone = r.rep; keep = null; by = lo; lo = pos 0; hi = pos 0 } in
    (c, (x, y, inl (e, record { gone_is = refl; keep_is = refl; by_is = refl; lo_is = refl; hi_is = refl })))
cut_change r lo hi x y (inr e) =
    let c : Change = record { gone = r.rep; keep = r.rep; by = pos 0; lo = lo; hi = hi } in
    (c, (x, y, inr (e, record { gone_is = refl; keep_is = refl; by_is = refl; lo_is = refl; hi_is = refl })))

cut_to : (r : Row) (lo hi : ℤ) → (step : Step) × CutTo r lo hi step
cut_to r lo hi = elim (less_or hi lo) [
  | inl x ↦ (Empty, x)
  | inr x ↦ elim (sticks r lo hi) [
    | inl y ↦ let k = cut_change r lo hi x y (same_or lo hi) in (To k.0, k.1)
    | inr y ↦ (Stay, y)
  ]
]

-- the step of an equality
pinned_or : (down : Row) (lo hi : ℤ) → ((lo ≡ hi) × (down.rep ≢ null)) ⊎ ((lo ≡ hi) → down.rep ≡ null)
pinned_or down lo hi = elim (decide down.rep null) [
  | inl x ↦ inr (λ _. x)
  | inr x ↦ elim (same_or lo hi) [ inl y ↦ inl (y, x) | inr y ↦ inr (λ e. absurd (y e)) ]
]

join_change : (up down : Row) (b lo hi : ℤ) → lo ≤ℤ hi → ((lo ≡ hi) × (down.rep ≢ null)) ⊎ ((lo ≡ hi) → down.rep ≡ null) → (c : Change) × JoinTo up down b lo hi (To c)
join_change up down b lo hi x (inl e) =
    let c : Change = record { gone = up.rep; keep = null; by = lo +ℤ b; lo = pos 0; hi = pos 0 } in
    (c, (x, inl (e.0, e.1, record { gone_is = refl; keep_is = refl; by_is = refl; lo_is = refl; hi_is = refl })))
join_change up down b lo hi x (inr e) =
    let c : Change = record { gone = up.rep; keep = down.rep; by = b; lo = lo; hi = hi } in
    (c, (x, inr (e, record { gone_is = refl; keep_is = refl; by_is = refl; lo_is = refl; hi_is = refl })))

join_to : (up down : Row) (b lo hi : ℤ) → (step : Step) × JoinTo up down b lo hi step
join_to up down b lo hi = elim (less_or hi lo) [
  | inl x ↦ (Empty, x)
  | inr x ↦ let k = join_change up down b lo hi x (pinned_or down lo hi) in (To k.0, k.1)
]

left_link : (r t : Row) (c : ℤ) (step : Step) → t.rep.0 < r.rep.0 → JoinIs r t ((t.off +ℤ c) -ℤ r.off) step → LinkIs r t c step
left_link r t c Stay l k = absurd k
left_link r t c Empty l k = inr (inl k)
left_link r t c (To g) l k = inl (l, k)

right_link : (r t : Row) (c : ℤ) (step : Step) → r.rep.0 < t.rep.0 → JoinIs t r (neg_ℤ ((t.off +ℤ c) -ℤ r.off)) step → LinkIs r t c step
right_link r t c Stay l k = absurd k
right_link r t c Empty l k = inr (inr k)
right_link r t c (To g) l k = inr (l, k)

link_to : (r t : Row) (c : ℤ) → (step : Step) × LinkIs r t c step
link_to r t c = elim (decide r.rep t.rep) [
  | inl e ↦ elim (same_or r.off (t.off +ℤ c)) [ inl o ↦ (Stay, (e, o)) | inr o ↦ (Empty, inl (e, o)) ]
  | inr ne ↦
      let b = (t.off +ℤ c) -ℤ r.off in
      elim (node_order r.rep t.rep ne) [
        | inl l ↦ let k = join_to r t b (int_max t.lo (r.lo -ℤ b)) (int_min t.hi (r.hi -ℤ b)) in (k.0, left_link r t c k.0 l k.1)
        | inr l ↦ let k = join_to t r (neg_ℤ b) (int_max r.lo (t.lo -ℤ neg_ℤ b)) (int_min r.hi (t.hi -ℤ neg_ℤ b)) in (k.0, right_link r t c k.0 l k.1)
      ]
]

-- the step of a disequality
without_to : (s : Span) (v : ℤ) → (g : Span) × WithoutIs s v g
without_to s v = elim (same_or v s.lo) [
  | inl e ↦ (let g : Span = record { lo = s.lo +ℤ pos 1; hi = s.hi } in (g, inl (e, refl, refl)))
  | inr ne ↦ elim (same_or v s.hi) [
    | inl e ↦ (let g : Span = record { lo = s.lo; hi = s.hi -ℤ pos 1 } in (g, inr (inl (e, refl, refl))))
    | inr nf ↦ (s, inr (inr (ne, nf, refl, refl)))
  ]
]

split_to : (r t : Row) (c : ℤ) → (split : Split) × SplitIs r t c split
split_to r t c = elim (decide r.rep t.rep) [
  | inl e ↦ elim (same_or r.off (t.off +ℤ c)) [ inl o ↦ (Clash, (e, o)) | inr o ↦ (Nothing, inl (e, o)) ]
  | inr ne ↦ elim (same_or t.lo t.hi) [
    | inl x ↦ let k = without_to (record { lo = r.lo +ℤ r.off; hi = r.hi +ℤ r.off }) ((t.lo +ℤ t.off) +ℤ c) in (Left k.0, (ne, x, k.1))
    | inr x ↦ elim (same_or r.lo r.hi) [
      | inl y ↦ let k = without_to (record { lo = t.lo +ℤ t.off; hi = t.hi +ℤ t.off }) ((r.lo +ℤ r.off) -ℤ c) in (Right k.0, (ne, x, y, k.1))
      | inr y ↦ (Nothing, inr (ne, x, y))
    ]
  ]
]

-- P is settled, or there are lighter rows, or what is known is false
abbrev pub Next : Pure → List Row → Type 0 → Type 0
Next p rows P = P ⊎ (((now : List Row) × (class : NodeId) × Lighter p rows now class) ⊎ IsFalse p)

next_of : (p : Pure) (rows now : List Row) (P : Type 0) (out : Outcome) → Stepped p rows now P out → Next p rows P
next_of p rows now P Same k = inl k.1
next_of p rows now P (Changed class) k = inr (inl (now, class, k))
next_of p rows now P False k = inr (inr k)

next_then : (p : Pure) (rows : List Row) (P Q : Type 0) → Next p rows P → (P → Next p rows Q) → Next p rows Q
next_then p rows P Q (inl k) f = f k
next_then p rows P Q (inr k) f = inr k

next_map : (p : Pure) (rows : List Row) (P Q : Type 0) → (P → Q) → Next p rows P → Next p rows Q
next_map p rows P Q f (inl k) = inl (f k)
next_map p rows P Q f (inr k) = inr k

acted : (step : Step) (rows : List Row) → (now : List Row) × (out : Outcome) × ActIs step rows now out
acted Stay rows = (rows, Same, refl)
acted Empty rows = (rows, False, tt)
acted (To c) rows = (map (changed_by c) rows, Changed c.keep, (refl, refl))

module _ (p : Pure) (rows : List Row) (s : IsSound p rows) where
  pub restrict_next : (a : NodeId) (l h : ℤ) → Follows p (In a l h) → IsNode p.kinds a → Next p rows (Settled p rows (In a l h))
  restrict_next a l h d n =
      let r = row_at rows a in
      let k = cut_to r (int_max r.lo (l -ℤ r.off)) (int_min r.hi (h -ℤ r.off)) in
      let x = acted k.0 rows in
      next_of p rows x.0 (Settled p rows (In a l h)) x.1 (cut_done p rows x.0 a l h r k.0 x.1 s d n refl (node_off p rows a r s n refl) k.1 x.2)

  pub equate_next : (a b : NodeId) (c : ℤ) → Follows p (Eq a b c) → IsNode p.kinds a → IsNode p.kinds b → Next p rows (Settled p rows (Eq a b c))
  equate_next a b c d na nb =
      let r = row_at rows a in
      let t = row_at rows b in
      let k = link_to r t c in
      let x = acted k.0 rows in
      next_of p rows x.0 (Settled p rows (Eq a b c)) x.1 (link_done p rows x.0 a b c r t s d na nb refl refl k.0 x.1 k.1 x.2)

  part_at : (a b : NodeId) (c : ℤ) → Follows p (Ne a b c) → IsNode p.kinds a → IsNode p.kinds b → (split : Split) → SplitIs (row_at rows a) (row_at rows b) c split → Next p rows (Settled p rows (Ne a b c))
  part_at a b c d na nb Nothing k = inl (part_nothing p rows a b c (row_at rows a) (row_at rows b) s d na nb refl refl k)
  part_at a b c d na nb Clash k = inr (inr (part_clash p rows a b c (row_at rows a) (row_at rows b) s d na nb refl refl k))
  part_at a b c d na nb (Left g) k =
      next_map p rows (Settled p rows (In a g.lo g.hi)) (Settled p rows (Ne a b c)) (left_done p rows a b c (row_at rows a) (row_at rows b) s d na nb refl refl g k) (restrict_next a g.lo g.hi (left_in p rows a b c (row_at rows a) (row_at rows b) s d na nb refl refl g k) na)
  part_at a b c d na nb (Right g) k =
      next_map p rows (Settled p rows (In b g.lo g.hi)) (Settled p rows (Ne a b c)) (right_done p rows a b c (row_at rows a) (row_at rows b) s d na nb refl refl g k) (restrict_next b g.lo g.hi (right_in p rows a b c (row_at rows a) (row_at rows b) s d na nb refl refl g k) nb)

  pub part_next : (a b : NodeId) (c : ℤ) → Follows p (Ne a b c) → IsNode p.kinds a → IsNode p.kinds b → Next p rows (Settled p rows (Ne a b c))
  part_next a b c d na nb = let k = split_to (row_at rows a) (row_at rows b) c in part_at a b c d na nb k.0 k.1

  pub atom_next : (f : Atom) → Base p f → Next p rows (Settled p rows f)
  atom_next (Eq a b c) m = let n = s.known (Eq a b c) m in equate_next a b c (base m) n.0 n.1
  atom_next (Ne a b c) m = let n = s.known (Ne a b c) m in part_next a b c (base m) n.0 n.1
  atom_next (In a l h) m = restrict_next a l h (base m) (s.known (In a l h) m)

-- each element of a list, by its place
cons_all : {X : Type 0} (x : X) (xs : List X) (P : ℕ → X → Type 0) → P 0 x → ((i : ℕ) (y : X) → slice_get xs i ≡ Some y → P (suc i) y) → (i : ℕ) (y : X) → slice_get (x ∷ xs) i ≡ Some y → P i y
cons_all x xs P a b zero y e = let k : x ≡ y = cc in subst (P 0) k a
cons_all x xs P a b (suc i) y e = b i y e

each_next : (p : Pure) (rows : List Row) {X : Type 0} (xs : List X) (P : ℕ → X → Type 0) → ((i : ℕ) (x : X) → slice_get xs i ≡ Some x → Next p rows (P i x)) → Next p rows ((i : ℕ) (x : X) → slice_get xs i ≡ Some x → P i x)
each_next p rows [] P h = inl (λ i x e. cc)
each_next p rows {X} (x ∷ xs) P h =
    let All : Type 0 = (i : ℕ) (y : X) → slice_get (x ∷ xs) i ≡ Some y → P i y in
    let Rest : Type 0 = (i : ℕ) (y : X) → slice_get xs i ≡ Some y → P (suc i) y in
    next_then p rows (P 0 x) All (h 0 x refl) (λ a. next_map p rows Rest All (λ b. cons_all x xs P a b) (each_next p rows xs (λ i y. P (suc i) y) (λ i y e. h (suc i) y e)))

-- all that is known
module _ (p : Pure) (rows : List Row) (s : IsSound p rows) where
  abbrev AllWritten : Type 0
  AllWritten = (i : ℕ) (f : Atom) → slice_get p.written i ≡ Some f → Settled p rows f

  abbrev AllKinds : Type 0
  AllKinds = (i : ℕ) (k : NodeId × Kind) → slice_get p.kinds i ≡ Some k → Settled p rows (kind_atom k.0 k.1)

  abbrev AllStarts : Type 0
  AllStarts = (i : ℕ) (a : NodeId) → slice_get p.starts i ≡ Some a → Settled p rows (address_atom a)

  abbrev Beside : ℕ → NodeId → Type 0
  Beside i a = (j : ℕ) (b : NodeId) → slice_get p.starts j ≡ Some b → i ≢ j → Settled p rows (Ne a b (pos 0))

  abbrev AllPairs : Type 0
  AllPairs = (i : ℕ) (a : NodeId) → slice_get p.starts i ≡ Some a → Beside i a

  abbrev ZeroSettled : Type 0
  ZeroSettled = Settled p rows (In null (pos 0) (pos 0))

  stable_by_parts : AllWritten → ZeroSettled → AllKinds → AllStarts → AllPairs → (f : Atom) → Base p f → Settled p rows f
  stable_by_parts w z q o t f (written place e) = w place f e
  stable_by_parts w z q o t _ begin.zero = z
  stable_by_parts w z q o t _ (kind {n} {k} place e) = q place (n, k) e
  stable_by_parts w z q o t _ (block {a} place e) = o place a e
  stable_by_parts w z q o t _ (apart {a} {b} i j ne x y) = t i a x j b y ne

  pair_next : (i j : ℕ) (a b : NodeId) → slice_get p.starts i ≡ Some a → slice_get p.starts j ≡ Some b → (i ≡ j) ⊎ (i ≢ j) → Next p rows (i ≢ j → Settled p rows (Ne a b (pos 0)))
  pair_next i j a b x y (inl e) = inl (λ ne. absurd (ne e))
  pair_next i j a b x y (inr ne) = next_map p rows (Settled p rows (Ne a b (pos 0))) (i ≢ j → Settled p rows (Ne a b (pos 0))) (λ k _. k) (atom_next p rows s (Ne a b (pos 0)) (apart i j ne x y))

  pairs_next : Next p rows AllPairs
  pairs_next = each_next p rows p.starts Beside (λ i a x. each_next p rows p.starts (λ j b. i ≢ j → Settled p rows (Ne a b (pos 0))) (λ j b y. pair_next i j a b x y (places i j)))

  pub stable_next : Next p rows (IsStable p rows)
  stable_next =
      next_then p rows AllWritten (IsStable p rows) (each_next p rows p.written (λ i f. Settled p rows f) (λ i f e. atom_next p rows s f (written i e))) (λ w.
      next_then p rows ZeroSettled (IsStable p rows) (atom_next p rows s (In null (pos 0) (pos 0)) begin.zero) (λ z.
      next_then p rows AllKinds (IsStable p rows) (each_next p rows p.kinds (λ i k. Settled p rows (kind_atom k.0 k.1)) (λ i k e. atom_next p rows s (kind_atom k.0 k.1) (kind i e))) (λ k.
      next_then p rows AllStarts (IsStable p rows) (each_next p rows p.starts (λ i a. Settled p rows (address_atom a)) (λ i a e. atom_next p rows s (address_atom a) (block i e))) (λ b.
      next_map p rows AllPairs (IsStable p rows) (λ t. stable_by_parts w z k b t) pairs_next))))

-- by the weight of the rows
abbrev pub Closes : Pure → Type 0
Closes p = IsFalse p ⊎ ((rows : List Row) × IsSound p rows × IsStable p rows)

close_at : (p : Pure) (n : ℕ) (rows : List Row) → weight rows < n → IsSound p rows → Closes p
close_at p zero rows l s = absurd (omega arith)
close_at p (suc n) rows l s = elim (stable_next p rows s) [
  | inl t ↦ inr (rows, s, t)
  | inr k ↦ elim k [
    | inl w ↦ (let x = w.2.less in close_at p n w.0 (omega arith) w.2.sound)
    | inr f ↦ inl f
  ]
]

pub closes : (p : Pure) → RiseFrom 1 p.kinds → IsFit p → Closes p
closes p rise fit = close_at p (suc (weight (start_rows p.kinds))) (start_rows p.kinds) (omega arith) (start_sound p fit rise)
