-- A legal change keeps the rows sound, makes them lighter and keeps what is settled.
use Rattle.std.proofs.Common.{◌≡◌, ◌≢◌, ℕ, zero, suc, ℤ, pos, negsuc, ◌+ℤ◌, ◌-ℤ◌, neg_ℤ, ◌≤ℤ◌, ◌<ℤ◌, ◌⊎◌, ◌≤◌, ◌<◌, ◌+◌, List, [], ◌∷◌, Some, slice_get, slice_set, get_or, length, take, drop, ◌++◌, map, cond, nat_eq, Bool, true, false, refl, sym, ◌∙◌, ap, subst, inl, inr, arith}
use Rattle.std.proofs.lemmas.Int.{ints, clamps}
use Rattle.std.proofs.lemmas.Bool.Decides.{nat_tests}
use Rattle.std.specs.Int.{int_max, int_min}
use Rattle.mc_base.specs.declared.ids.NodeId.{NodeId}
use Rattle.mc_base.specs.declared.plain.Atom.TheVariants.{Eq, Ne, In}
use Rattle.mc_base.specs.Nodes.{null}
use Rattle.mc_pure.specs.declared.rows.Row.{Row}
use Rattle.mc_pure.specs.Pure as begin
use Rattle.mc_pure.specs.Pure.{Pure, IsNode, Base}
use Rattle.mc_pure.specs.Derived.{Follows, IsFalse, base, turned, chained, shifted, met, widened, fixed, empty, more}
use Rattle.mc_pure.specs.Normal.{low, high}
use Rattle.mc_pure.specs.Rows.{row_at, At, Has, RowSound, IsSound, changed, span, weight, CanPut, Keeps}

-- a row of a mapped list comes from one of the list
pub at_map : (f : Row → Row) (rows : List Row) (r : Row) (i : ℕ) → slice_get (map f rows) i ≡ Some r → (q : Row) × (slice_get rows i ≡ Some q) × (r ≡ f q)
at_map f [] r i e = cc
at_map f (q ∷ rows) r zero e = (q, refl, cc)
at_map f (q ∷ rows) r (suc i) e = at_map f rows r i e

pub map_nodes : (f : Row → Row) → ((r : Row) → (f r).node ≡ r.node) → (rows : List Row) → map (λ r. r.node) (map f rows) ≡ map (λ r. r.node) rows
map_nodes f h [] = refl
map_nodes f h (r ∷ rows) = cc (h r, map_nodes f h rows)

pub map_at : (f : Row → Row) (rows : List Row) (q : Row) (i : ℕ) → slice_get rows i ≡ Some q → slice_get (map f rows) i ≡ Some (f q)
map_at f [] q i e = cc
map_at f (r ∷ rows) q zero e = let k : r ≡ q = cc in ap (λ x. Some (f x)) k
map_at f (r ∷ rows) q (suc i) e = map_at f rows q i e

pick_true : {A : Type 0} (b : Bool) (x y : A) → b ≡ true → cond b x y ≡ x
pick_true true x y e = refl
pick_true false x y e = cc

pick_false : {A : Type 0} (b : Bool) (x y : A) → b ≡ false → cond b x y ≡ y
pick_false true x y e = cc
pick_false false x y e = refl

pub yes : (a b : ℕ) → a ≡ b → nat_eq a b ≡ true
yes a b e = grind (arith, nat_tests)

pub no : (a b : ℕ) → a ≢ b → nat_eq a b ≡ false
no a b e = grind (arith, nat_tests)

numbers : (a b : ℕ) → (a ≡ b) ⊎ (a ≢ b)
numbers a b = grind (arith)

pub same_node : (a b : NodeId) → a.0 ≡ b.0 → a ≡ b
same_node a b e = ap (λ (n : ℕ). let x : NodeId = record { 0 = n } in x) e

pub number : {a b : NodeId} → a ≡ b → a.0 ≡ b.0
number e = ap (λ (n : NodeId). n.0) e

pub same_true : (a b : NodeId) → a ≡ b → nat_eq a.0 b.0 ≡ true
same_true a b e = yes a.0 b.0 (number e)

pub same_false : (a b : NodeId) → a ≢ b → nat_eq a.0 b.0 ≡ false
same_false a b e = no a.0 b.0 (λ x. e (same_node a b x))

pub decide : (a b : NodeId) → (a ≡ b) ⊎ (a ≢ b)
decide a b = elim (numbers a.0 b.0) [ inl x ↦ inl (same_node a b x) | inr x ↦ inr (λ e. x (number e)) ]

-- the row of a node that has one
pub row_there : (rows : List Row) (a : NodeId) (i : ℕ) (r : Row) → slice_get rows i ≡ Some r → r.node ≡ a → At rows (row_at rows a) × ((row_at rows a).node ≡ a)
row_there [] a i r e n = cc
row_there (q ∷ rows) a zero r e n =
    let k : q ≡ r = cc in
    let same : q.node ≡ a = ap (λ (x : Row). x.node) k ∙ n in
    rw (pick_true (nat_eq q.node.0 a.0) q (row_at rows a) (same_true q.node a same)) ((zero, refl), same)
row_there (q ∷ rows) a (suc i) r e n =
    let k = row_there rows a i r e n in
    elim (decide q.node a) [
      | inl same ↦ rw (pick_true (nat_eq q.node.0 a.0) q (row_at rows a) (same_true q.node a same)) ((zero, refl), same)
      | inr other ↦ rw (pick_false (nat_eq q.node.0 a.0) q (row_at rows a) (same_false q.node a other)) ((suc k.0.0, k.0.1), k.1)
    ]

pub has_row : (rows : List Row) (a : NodeId) → Has rows a → At rows (row_at rows a) × ((row_at rows a).node ≡ a)
has_row rows a h = row_there rows a h.1.0 h.0 h.1.1 h.2

pub record Gone (gone keep : NodeId) (by l h : ℤ) (q r : Row) : Type 0 where
  pub was : q.rep ≡ gone
  pub node : r.node ≡ q.node
  pub rep : r.rep ≡ keep
  pub off : r.off ≡ q.off +ℤ by
  pub lo : r.lo ≡ l
  pub hi : r.hi ≡ h

pub record Kept (gone keep : NodeId) (l h : ℤ) (q r : Row) : Type 0 where
  pub not_gone : q.rep ≢ gone
  pub was : q.rep ≡ keep
  pub node : r.node ≡ q.node
  pub rep : r.rep ≡ keep
  pub off : r.off ≡ q.off
  pub lo : r.lo ≡ l
  pub hi : r.hi ≡ h

pub record Other (gone keep : NodeId) (q r : Row) : Type 0 where
  pub not_gone : q.rep ≢ gone
  pub not_keep : q.rep ≢ keep
  pub is : r ≡ q

abbrev pub Case : NodeId → NodeId → ℤ → ℤ → ℤ → Row → Row → Type 0
Case gone keep by lo hi q r = Gone gone keep by lo hi q r ⊎ (Kept gone keep lo hi q r ⊎ Other gone keep q r)

pub cases : (gone keep : NodeId) (by lo hi : ℤ) (q : Row) → Case gone keep by lo hi q (changed gone keep by lo hi q)
cases gone keep by lo hi q =
    let whole : Row = record { node = q.node; rep = keep; off = q.off +ℤ by; lo = lo; hi = hi } in
    let part : Row = record { node = q.node; rep = q.rep; off = q.off; lo = lo; hi = hi } in
    elim (decide q.rep gone) [
      | inl x ↦
          let e = pick_true (nat_eq q.rep.0 gone.0) whole (cond (nat_eq q.rep.0 keep.0) part q) (same_true q.rep gone x) in
          inl (record { was = x; node = ap (λ (r : Row). r.node) e; rep = ap (λ (r : Row). r.rep) e; off = ap (λ (r : Row). r.off) e; lo = ap (λ (r : Row). r.lo) e; hi = ap (λ (r : Row). r.hi) e })
      | inr x ↦
          let e = pick_false (nat_eq q.rep.0 gone.0) whole (cond (nat_eq q.rep.0 keep.0) part q) (same_false q.rep gone x) in
          elim (decide q.rep keep) [
            | inl y ↦
                let f = e ∙ pick_true (nat_eq q.rep.0 keep.0) part q (same_true q.rep keep y) in
                inr (inl (record { not_gone = x; was = y; node = ap (λ (r : Row). r.node) f; rep = ap (λ (r : Row). r.rep) f ∙ y; off = ap (λ (r : Row). r.off) f; lo = ap (λ (r : Row). r.lo) f; hi = ap (λ (r : Row). r.hi) f }))
            | inr y ↦
                let f = e ∙ pick_false (nat_eq q.rep.0 keep.0) part q (same_false q.rep keep y) in
                inr (inr (record { not_gone = x; not_keep = y; is = f }))
          ]
    ]

pub eq_at : (facts : Pure) {a b a' b' : NodeId} {c c' : ℤ} → Follows facts (Eq a b c) → a ≡ a' → b ≡ b' → c ≡ c' → Follows facts (Eq a' b' c')
eq_at facts {a} {b} {a'} {b'} {c} {c'} x p q r = rw (← p) (rw (← q) (rw (← r) x))

pub in_at : (facts : Pure) {a a' : NodeId} {l h l' h' : ℤ} → Follows facts (In a l h) → a ≡ a' → l ≡ l' → h ≡ h' → Follows facts (In a' l' h')
in_at facts {a} {a'} {l} {h} {l'} {h'} x p q r = rw (← p) (rw (← q) (rw (← r) x))

module _ (facts : Pure) (rows : List Row) (s : IsSound facts rows) (gone keep : NodeId) (by lo hi : ℤ) (p : CanPut facts rows gone keep by lo hi) where
  sound_case : (q r : Row) → At rows q → Case gone keep by lo hi q r → RowSound facts r
  sound_case q r at (inl g) =
      let o = s.each q at in
      let fit = p.gone_fits q at g.was in
      let equal = chained o.equal (eq_at facts p.equal (sym g.was) refl refl) in
      record {
        node = rw g.node o.node;
        equal = eq_at facts equal (sym g.node) (sym g.rep) (sym g.off);
        within = in_at facts (shifted equal p.within) (sym g.node) (omega (arith, ints, g.lo, g.off)) (omega (arith, ints, g.hi, g.off));
        full = omega (arith, ints, g.lo, g.hi, p.full);
        above = omega (arith, ints, g.lo, p.above);
        below = omega (arith, ints, g.hi, p.below);
        above' = omega (arith, ints, g.lo, g.off, fit.0, o.above');
        below' = omega (arith, ints, g.hi, g.off, fit.1, o.below');
        least = let m = o.least in let q' = p.order in omega (arith, number g.rep, number g.node, number g.was);
        pinned = λ e. g.rep ∙ p.pinned (sym g.lo ∙ e ∙ g.hi);
        zero = λ e. let k = p.zero (sym g.rep ∙ e) in (g.lo ∙ k.0, g.hi ∙ k.1);
      }
  sound_case q r at (inr (inl g)) =
      let o = s.each q at in
      let fit = p.keep_fits q at g.was in
      record {
        node = rw g.node o.node;
        equal = eq_at facts o.equal (sym g.node) (g.was ∙ sym g.rep) (sym g.off);
        within = in_at facts (shifted (eq_at facts o.equal refl g.was refl) p.within) (sym g.node) (omega (arith, ints, g.lo, g.off)) (omega (arith, ints, g.hi, g.off));
        full = omega (arith, ints, g.lo, g.hi, p.full);
        above = omega (arith, ints, g.lo, p.above);
        below = omega (arith, ints, g.hi, p.below);
        above' = omega (arith, ints, g.lo, g.off, fit.0, o.above');
        below' = omega (arith, ints, g.hi, g.off, fit.1, o.below');
        least = let m = o.least in let q' = p.order in omega (arith, number g.rep, number g.node, number g.was);
        pinned = λ e. g.rep ∙ p.pinned (sym g.lo ∙ e ∙ g.hi);
        zero = λ e. let k = p.zero (sym g.rep ∙ e) in (g.lo ∙ k.0, g.hi ∙ k.1);
      }
  sound_case q r at (inr (inr g)) = subst (λ (x : Row). RowSound facts x) (sym g.is) (s.each q at)

  -- what a changed row's class and range are
  class_case : (q r : Row) → Case gone keep by lo hi q r → ((r.rep ≡ keep) × (r.lo ≡ lo) × (r.hi ≡ hi)) ⊎ ((r.rep ≢ keep) × (r ≡ q))
  class_case q r (inl g) = inl (g.rep, g.lo, g.hi)
  class_case q r (inr (inl g)) = inl (g.rep, g.lo, g.hi)
  class_case q r (inr (inr g)) = inr ((λ e. g.not_keep (ap (λ (x : Row). x.rep) (sym g.is) ∙ e)), g.is)

  joint : (q r q' r' : Row) → At rows q → At rows r → ((q'.rep ≡ keep) × (q'.lo ≡ lo) × (q'.hi ≡ hi)) ⊎ ((q'.rep ≢ keep) × (q' ≡ q)) → ((r'.rep ≡ keep) × (r'.lo ≡ lo) × (r'.hi ≡ hi)) ⊎ ((r'.rep ≢ keep) × (r' ≡ r)) → q'.rep ≡ r'.rep → (q'.lo ≡ r'.lo) × (q'.hi ≡ r'.hi)
  joint q r q' r' aq ar (inl x) (inl y) e = (x.1 ∙ sym y.1, x.2 ∙ sym y.2)
  joint q r q' r' aq ar (inl x) (inr y) e = absurd (y.0 (sym e ∙ x.0))
  joint q r q' r' aq ar (inr x) (inl y) e = absurd (x.0 (e ∙ y.0))
  joint q r q' r' aq ar (inr x) (inr y) e =
      let k = s.coherent q r aq ar (ap (λ (z : Row). z.rep) (sym x.1) ∙ e ∙ ap (λ (z : Row). z.rep) y.1) in
      (ap (λ (z : Row). z.lo) x.1 ∙ k.0 ∙ ap (λ (z : Row). z.lo) (sym y.1), ap (λ (z : Row). z.hi) x.1 ∙ k.1 ∙ ap (λ (z : Row). z.hi) (sym y.1))

  node_case : (q r : Row) → Case gone keep by lo hi q r → r.node ≡ q.node
  node_case q r (inl g) = g.node
  node_case q r (inr (inl g)) = g.node
  node_case q r (inr (inr g)) = ap (λ (z : Row). z.node) g.is

  pub put_sound : IsSound facts (map (changed gone keep by lo hi) rows)
  put_sound = record {
    each = λ r at. let m = at_map f rows r at.0 at.1 in subst (λ (x : Row). RowSound facts x) (sym m.2) (sound_case m.0 (f m.0) (at.0, m.1) (cases gone keep by lo hi m.0));
    coherent = λ q r aq ar e.
        let m = at_map f rows q aq.0 aq.1 in
        let n = at_map f rows r ar.0 ar.1 in
        let k = joint m.0 n.0 (f m.0) (f n.0) (aq.0, m.1) (ar.0, n.1) (class_case m.0 (f m.0) (cases gone keep by lo hi m.0)) (class_case n.0 (f n.0) (cases gone keep by lo hi n.0)) (ap (λ (z : Row). z.rep) (sym m.2) ∙ e ∙ ap (λ (z : Row). z.rep) n.2) in
        (ap (λ (z : Row). z.lo) m.2 ∙ k.0 ∙ ap (λ (z : Row). z.lo) (sym n.2), ap (λ (z : Row). z.hi) m.2 ∙ k.1 ∙ ap (λ (z : Row). z.hi) (sym n.2));
    all = λ a n. let h = s.all a n in (f h.0, (h.1.0, map_at f rows h.0 h.1.0 h.1.1), node_case h.0 (f h.0) (cases gone keep by lo hi h.0) ∙ h.2);
    once = λ q r aq ar e.
        let m = at_map f rows q aq.0 aq.1 in
        let n = at_map f rows r ar.0 ar.1 in
        let node = λ (z : Row). node_case z (f z) (cases gone keep by lo hi z) in
        let same = s.once m.0 n.0 (aq.0, m.1) (ar.0, n.1) (sym (node m.0) ∙ ap (λ (z : Row). z.node) (sym m.2) ∙ e ∙ ap (λ (z : Row). z.node) n.2 ∙ node n.0) in
        m.2 ∙ ap f same ∙ sym n.2;
    known = s.known;
    aligned = map_nodes f (λ z. node_case z (f z) (cases gone keep by lo hi z)) rows ∙ s.aligned;
  }
    where
      f : Row → Row
      f = changed gone keep by lo hi

-- the weight
span_le : (a b : ℤ) → a ≤ℤ b → span a ≤ span b
span_le (pos a) (pos b) h = omega (arith, ints)
span_le (pos a) (negsuc b) h = absurd (omega (arith, ints))
span_le (negsuc a) (pos b) h = omega arith
span_le (negsuc a) (negsuc b) h = omega arith

span_lt : (a b : ℤ) → pos 0 ≤ℤ a → a <ℤ b → span a < span b
span_lt (pos a) (pos b) p h = omega (arith, ints)
span_lt (pos a) (negsuc b) p h = absurd (omega (arith, ints))
span_lt (negsuc a) (pos b) p h = absurd (omega (arith, ints))
span_lt (negsuc a) (negsuc b) p h = absurd (omega (arith, ints))

abbrev cost : Row → ℕ
cost r = r.rep.0 + span (r.hi -ℤ r.lo)

not_heavier : (f : Row → Row) (rows : List Row) → ((q : Row) → At rows q → cost (f q) ≤ cost q) → weight (map f rows) ≤ weight rows
not_heavier f [] h = omega arith
not_heavier f (q ∷ rows) h =
    let a = h q (zero, refl) in
    let b = not_heavier f rows (λ r at. h r (suc at.0, at.1)) in
    omega arith

lighter : (f : Row → Row) (rows : List Row) (i : ℕ) (r : Row) → slice_get rows i ≡ Some r → cost (f r) < cost r → ((q : Row) → At rows q → cost (f q) ≤ cost q) → weight (map f rows) < weight rows
lighter f [] i r e l h = cc
lighter f (q ∷ rows) zero r e l h =
    let k : r ≡ q = cc in
    let l' : cost (f q) < cost q = subst (λ (x : Row). cost (f x) < cost x) k l in
    let b = not_heavier f rows (λ r at. h r (suc at.0, at.1)) in
    omega arith
lighter f (q ∷ rows) (suc i) r e l h =
    let a = h q (zero, refl) in
    let b = lighter f rows i r e l (λ r at. h r (suc at.0, at.1)) in
    omega arith

cost_le : (r q : Row) → r.rep.0 ≤ q.rep.0 → (r.hi -ℤ r.lo) ≤ℤ (q.hi -ℤ q.lo) → cost r ≤ cost q
cost_le r q a b = let k = span_le (r.hi -ℤ r.lo) (q.hi -ℤ q.lo) b in omega arith

module _ (facts : Pure) (rows : List Row) (s : IsSound facts rows) (gone keep : NodeId) (by lo hi : ℤ) (p : CanPut facts rows gone keep by lo hi) where
  case_le : (q r : Row) → At rows q → Case gone keep by lo hi q r → cost r ≤ cost q
  case_le q r at (inl g) = let fit = p.gone_fits q at g.was in let o = p.order in cost_le r q (omega (arith, number g.was, number g.rep)) (omega (arith, ints, g.lo, g.hi, fit.0, fit.1))
  case_le q r at (inr (inl g)) = let fit = p.keep_fits q at g.was in cost_le r q (omega (arith, number g.was, number g.rep)) (omega (arith, ints, g.lo, g.hi, fit.0, fit.1))
  case_le q r at (inr (inr g)) = rw (g.is) (omega arith)

  case_lt : (q r : Row) → At rows q → q.rep ≡ gone → ((keep.0 < gone.0) ⊎ ((q.lo <ℤ (lo +ℤ by)) ⊎ ((hi +ℤ by) <ℤ q.hi))) → Case gone keep by lo hi q r → cost r < cost q
  case_lt q r at is w (inr (inl g)) =
      let fit = p.gone_fits q at is in
      let fit' = p.keep_fits q at g.was in
      let full = p.full in
      let narrower : (r.hi -ℤ r.lo) ≤ℤ (q.hi -ℤ q.lo) = omega (arith, ints, g.lo, g.hi, fit'.0, fit'.1) in
      case_lt' q r w is g.was g.rep g.lo g.hi fit
    where
      case_lt' : (q r : Row) → ((keep.0 < gone.0) ⊎ ((q.lo <ℤ (lo +ℤ by)) ⊎ ((hi +ℤ by) <ℤ q.hi))) → q.rep ≡ gone → q.rep ≡ keep → r.rep ≡ keep → r.lo ≡ lo → r.hi ≡ hi → (q.lo ≤ℤ (lo +ℤ by)) × ((hi +ℤ by) ≤ℤ q.hi) → cost r < cost q
      case_lt' q r (inl x) a b c l h fit = absurd (omega (arith, number a, number b))
      case_lt' q r (inr (inl x)) a b c l h fit =
          let k = span_lt (r.hi -ℤ r.lo) (q.hi -ℤ q.lo) (omega (arith, ints, p.full)) (omega (arith, ints, fit.1)) in omega (arith, number a, number c, number b)
      case_lt' q r (inr (inr x)) a b c l h fit =
          let k = span_lt (r.hi -ℤ r.lo) (q.hi -ℤ q.lo) (omega (arith, ints, p.full)) (omega (arith, ints, fit.0)) in omega (arith, number a, number c, number b)
  case_lt q r at is w (inr (inr g)) = absurd (g.not_gone is)
  case_lt q r at is w (inl g) =
      let fit = p.gone_fits q at is in
      let order = p.order in
      elim w [
        | inl x ↦ let k = span_le (r.hi -ℤ r.lo) (q.hi -ℤ q.lo) (omega (arith, ints, g.lo, g.hi, fit.0, fit.1)) in omega (arith, number g.rep, number is)
        | inr x ↦ let k = span_lt (r.hi -ℤ r.lo) (q.hi -ℤ q.lo) (omega (arith, ints, g.lo, g.hi, p.full)) (elim x [ inl y ↦ omega (arith, ints, g.lo, g.hi, fit.1) | inr y ↦ omega (arith, ints, g.lo, g.hi, fit.0) ]) in omega (arith, number g.rep, number is)
      ]

  pub put_lighter : weight (map (changed gone keep by lo hi) rows) < weight rows
  put_lighter =
      let f = λ (q : Row). changed gone keep by lo hi q in
      let w = p.less in
      lighter f rows w.1.0 w.0 w.1.1 (case_lt w.0 (f w.0) w.1 w.2 w.3 (cases gone keep by lo hi w.0)) (λ q at. case_le q (f q) at (cases gone keep by lo hi q))

-- an offset of a sound row
pub offset_small : (facts : Pure) (r : Row) → RowSound facts r → (negsuc 18446744073709551615 ≤ℤ r.off) × (r.off ≤ℤ pos 18446744073709551616)
offset_small facts r o = (omega (arith, ints, o.above, o.below, o.above', o.below', o.full), omega (arith, ints, o.above, o.below, o.above', o.below', o.full))

self_eq : (facts : Pure) (r : Row) → RowSound facts r → Follows facts (Eq r.rep r.rep (pos 0))
self_eq facts r o = eq_at facts (chained (turned o.equal) o.equal) refl refl (omega (arith, ints))

-- the class's own range
rep_in : (facts : Pure) (r : Row) → RowSound facts r → Follows facts (In r.rep r.lo r.hi)
rep_in facts r o = in_at facts (shifted (turned o.equal) o.within) refl (omega (arith, ints)) (omega (arith, ints))

-- a class that is one number goes into null's
pin_put : (facts : Pure) (rows : List Row) → IsSound facts rows → (r : Row) → At rows r → (v : ℤ) → Follows facts (In r.rep v v) → r.lo ≤ℤ v → v ≤ℤ r.hi → r.rep ≢ null → CanPut facts rows r.rep null v (pos 0) (pos 0)
pin_put facts rows s r at v d from to ne = record {
  equal = eq_at facts (fixed d (base begin.zero)) refl refl (omega (arith, ints));
  within = base begin.zero;
  full = omega (arith, ints);
  above = omega (arith, ints);
  below = omega (arith, ints);
  gone_fits = λ q aq e. let k = s.coherent q r aq at e in (omega (arith, ints, k.0), omega (arith, ints, k.1));
  keep_fits = λ q aq e. let k = (s.each q aq).zero e in (omega (arith, ints, k.0), omega (arith, ints, k.1));
  order = omega arith;
  pinned = λ e. refl;
  zero = λ e. (refl, refl);
  less = (r, at, refl, inl (positive r.rep ne));
}
  where
    not_zero : (n : ℕ) → n ≢ 0 → 0 < n
    not_zero n h = omega arith

    positive : (a : NodeId) → a ≢ null → 0 < a.0
    positive a h = not_zero a.0 (λ e. h (same_node a null e))

module _ (facts : Pure) (rows : List Row) (s : IsSound facts rows) (r : Row) (at : At rows r) (l h : ℤ) (d : Follows facts (In r.node l h)) where
  pub restrict_empty : (lo hi : ℤ) → lo ≡ int_max r.lo (l -ℤ r.off) → hi ≡ int_min r.hi (h -ℤ r.off) → hi <ℤ lo → IsFalse facts
  restrict_empty lo hi p q x = let o = s.each r at in empty (omega (arith, ints, clamps)) (met o.within d)

  restrict_within : (lo hi : ℤ) → lo ≡ int_max r.lo (l -ℤ r.off) → hi ≡ int_min r.hi (h -ℤ r.off) → Follows facts (In r.rep lo hi)
  restrict_within lo hi p q =
      let o = s.each r at in
      widened (shifted (turned o.equal) (met o.within d)) (omega (arith, ints, clamps)) (omega (arith, ints, clamps))

  restrict_not_null : (lo hi : ℤ) → lo ≡ int_max r.lo (l -ℤ r.off) → hi ≡ int_min r.hi (h -ℤ r.off) → lo ≤ℤ hi → ((r.lo <ℤ lo) ⊎ (hi <ℤ r.hi)) → r.rep ≢ null
  restrict_not_null lo hi p q x w e =
      let k = (s.each r at).zero e in
      elim w [ inl y ↦ omega (arith, ints, clamps, k.0, k.1) | inr y ↦ omega (arith, ints, clamps, k.0, k.1) ]

  pub restrict_put : (lo hi : ℤ) → lo ≡ int_max r.lo (l -ℤ r.off) → hi ≡ int_min r.hi (h -ℤ r.off) → lo ≤ℤ hi → ((r.lo <ℤ lo) ⊎ (hi <ℤ r.hi)) → lo ≢ hi → CanPut facts rows r.rep r.rep (pos 0) lo hi
  restrict_put lo hi p q x w ne =
      let o = s.each r at in
      let from : r.lo ≤ℤ lo = omega (arith, ints, clamps) in
      let to : hi ≤ℤ r.hi = omega (arith, ints, clamps) in
      record {
        equal = self_eq facts r o;
        within = restrict_within lo hi p q;
        full = x;
        above = omega (arith, ints, o.above);
        below = omega (arith, ints, o.below);
        gone_fits = λ q' aq e. let k = s.coherent q' r aq at e in (omega (arith, ints, k.0), omega (arith, ints, k.1));
        keep_fits = λ q' aq e. let k = s.coherent q' r aq at e in (omega (arith, ints, k.0), omega (arith, ints, k.1));
        order = omega arith;
        pinned = λ e. absurd (ne e);
        zero = λ e. absurd (restrict_not_null lo hi p q x w e);
        less = (r, at, refl, elim w [ inl y ↦ inr (inl (omega (arith, ints))) | inr y ↦ inr (inr (omega (arith, ints))) ]);
      }

  pub restrict_pin : (lo hi : ℤ) → lo ≡ int_max r.lo (l -ℤ r.off) → hi ≡ int_min r.hi (h -ℤ r.off) → lo ≤ℤ hi → ((r.lo <ℤ lo) ⊎ (hi <ℤ r.hi)) → lo ≡ hi → CanPut facts rows r.rep null lo (pos 0) (pos 0)
  restrict_pin lo hi p q x w e =
      let o = s.each r at in
      let from : r.lo ≤ℤ lo = omega (arith, ints, clamps) in
      let to : hi ≤ℤ r.hi = omega (arith, ints, clamps) in
      pin_put facts rows s r at lo (in_at facts (restrict_within lo hi p q) refl refl (sym e)) from (omega (arith, ints, e)) (restrict_not_null lo hi p q x w)

module _ (facts : Pure) (rows : List Row) (s : IsSound facts rows) (up down : Row) (au : At rows up) (ad : At rows down) (by : ℤ) (d : Follows facts (Eq up.rep down.rep by)) where
  pub merge_empty : (lo hi : ℤ) → lo ≡ int_max down.lo (up.lo -ℤ by) → hi ≡ int_min down.hi (up.hi -ℤ by) → hi <ℤ lo → IsFalse facts
  merge_empty lo hi p q x =
      let u = rep_in facts up (s.each up au) in
      let v = rep_in facts down (s.each down ad) in
      empty (omega (arith, ints, clamps)) (met v (shifted (turned d) u))

  merge_within : (lo hi : ℤ) → lo ≡ int_max down.lo (up.lo -ℤ by) → hi ≡ int_min down.hi (up.hi -ℤ by) → Follows facts (In down.rep lo hi)
  merge_within lo hi p q =
      let u = rep_in facts up (s.each up au) in
      let v = rep_in facts down (s.each down ad) in
      widened (met v (shifted (turned d) u)) (omega (arith, ints, clamps)) (omega (arith, ints, clamps))

  pub merge_put : (lo hi : ℤ) → lo ≡ int_max down.lo (up.lo -ℤ by) → hi ≡ int_min down.hi (up.hi -ℤ by) → lo ≤ℤ hi → ((lo ≡ hi) → down.rep ≡ null) → down.rep.0 < up.rep.0 → CanPut facts rows up.rep down.rep by lo hi
  merge_put lo hi p q x one w =
      let o = s.each down ad in
      let from : down.lo ≤ℤ lo = omega (arith, ints, clamps) in
      let to : hi ≤ℤ down.hi = omega (arith, ints, clamps) in
      let from' : up.lo ≤ℤ (lo +ℤ by) = omega (arith, ints, clamps) in
      let to' : (hi +ℤ by) ≤ℤ up.hi = omega (arith, ints, clamps) in
      record {
        equal = d;
        within = merge_within lo hi p q;
        full = x;
        above = omega (arith, ints, o.above);
        below = omega (arith, ints, o.below);
        gone_fits = λ q' aq e. let k = s.coherent q' up aq au e in (omega (arith, ints, k.0), omega (arith, ints, k.1));
        keep_fits = λ q' aq e. let k = s.coherent q' down aq ad e in (omega (arith, ints, k.0), omega (arith, ints, k.1));
        order = omega arith;
        pinned = one;
        zero = λ e. let k = o.zero e in (omega (arith, ints, k.0, k.1), omega (arith, ints, k.0, k.1));
        less = (up, au, refl, inl w);
      }

  pub merge_pin : (lo hi : ℤ) → lo ≡ int_max down.lo (up.lo -ℤ by) → hi ≡ int_min down.hi (up.hi -ℤ by) → lo ≤ℤ hi → lo ≡ hi → down.rep.0 < up.rep.0 → CanPut facts rows up.rep null (lo +ℤ by) (pos 0) (pos 0)
  merge_pin lo hi p q x e w =
      let from' : up.lo ≤ℤ (lo +ℤ by) = omega (arith, ints, clamps) in
      let to' : (hi +ℤ by) ≤ℤ up.hi = omega (arith, ints, clamps) in
      let k = shifted d (in_at facts (merge_within lo hi p q) refl refl (sym e)) in
      pin_put facts rows s up au (lo +ℤ by) k from' (omega (arith, ints, e)) (λ z. omega (arith, number z))

-- two nodes' offset, when their classes are one
pub clash : (facts : Pure) (a b : NodeId) (r t : Row) (c : ℤ) → RowSound facts r → RowSound facts t → r.node ≡ a → t.node ≡ b → r.rep ≡ t.rep → r.off ≢ t.off +ℤ c → Follows facts (Eq a b c) → IsFalse facts
clash facts a b r t c o u na nb e ne d =
    let x = eq_at facts o.equal na e refl in
    let y = eq_at facts u.equal nb refl refl in
    more {c = r.off +ℤ (neg_ℤ t.off +ℤ neg_ℤ c)} (λ z. ne (omega (arith, ints))) (eq_at facts (chained x (chained (turned y) (turned d))) refl refl refl)

-- writing the rows one after the other
pub map_step : (f : Row → Row) (rows : List Row) (i : ℕ) (r : Row) → slice_get rows i ≡ Some r → slice_set (map f (take i rows) ++ drop i rows) i (f r) ≡ map f (take (suc i) rows) ++ drop (suc i) rows
map_step f [] i r e = cc
map_step f (q ∷ rows) zero r e = let k : q ≡ r = cc in ap (λ (x : Row). f x ∷ rows) (sym k)
map_step f (q ∷ rows) (suc i) r e = ap (λ (x : List Row). f q ∷ x) (map_step f rows i r e)

pub map_rest : (f : Row → Row) (rows : List Row) (i : ℕ) (r : Row) → slice_get (map f (take i rows) ++ drop i rows) i ≡ Some r → slice_get rows i ≡ Some r
map_rest f [] zero r e = e
map_rest f [] (suc i) r e = e
map_rest f (q ∷ rows) zero r e = e
map_rest f (q ∷ rows) (suc i) r e = map_rest f rows i r e

pub there : (rows : List Row) (i : ℕ) (d : Row) → i < length rows → slice_get rows i ≡ Some (get_or rows i d)
there [] i d h = absurd (omega arith)
there (q ∷ rows) zero d h = refl
there (q ∷ rows) (suc i) d h = there rows i d (omega arith)

-- the first rows stay as they are
pub still_first : (f : Row → Row) (rows : List Row) (n : ℕ) → ((i : ℕ) (r : Row) → i < n → slice_get rows i ≡ Some r → f r ≡ r) → rows ≡ map f (take n rows) ++ drop n rows
still_first f [] zero h = refl
still_first f [] (suc n) h = refl
still_first f (q ∷ rows) zero h = refl
still_first f (q ∷ rows) (suc n) h =
    let here : f q ≡ q = h zero q (omega arith) refl in
    let rest : rows ≡ map f (take n rows) ++ drop n rows = still_first f rows n (λ i r l e. h (suc i) r (omega arith) e) in
    cc

-- a row of another class
pub not_changed : (gone keep : NodeId) (by lo hi : ℤ) (q : Row) → q.rep ≢ gone → q.rep ≢ keep → changed gone keep by lo hi q ≡ q
not_changed gone keep by lo hi q a b = elim (cases gone keep by lo hi q) [ inl g ↦ absurd (a g.was) | inr g ↦ elim g [ inl h ↦ absurd (b h.was) | inr h ↦ h.is ] ]

-- what stays settled
module _ (facts : Pure) (rows : List Row) (s : IsSound facts rows) (gone keep : NodeId) (by lo hi : ℤ) (p : CanPut facts rows gone keep by lo hi) where
  abbrev after : Row → Row
  after q = changed gone keep by lo hi q

  -- the row of a node after the change
  row_after : (a : NodeId) → IsNode facts.kinds a → row_at (map (changed gone keep by lo hi) rows) a ≡ after (row_at rows a)
  row_after a n =
      let k = has_row rows a (s.all a n) in
      let node : (after (row_at rows a)).node ≡ a = case_node (row_at rows a) ∙ k.1 in
      let there : At (map (changed gone keep by lo hi) rows) (after (row_at rows a)) = (k.0.0, map_at (changed gone keep by lo hi) rows (row_at rows a) k.0.0 k.0.1) in
      let other = has_row (map (changed gone keep by lo hi) rows) a (after (row_at rows a), there, node) in
      (put_sound facts rows s gone keep by lo hi p).once (row_at (map (changed gone keep by lo hi) rows) a) (after (row_at rows a)) other.0 there (other.1 ∙ sym node)
    where
      case_node : (q : Row) → (changed gone keep by lo hi q).node ≡ q.node
      case_node q = elim (cases gone keep by lo hi q) [ inl g ↦ g.node | inr g ↦ elim g [ inl h ↦ h.node | inr h ↦ ap (λ (z : Row). z.node) h.is ] ]

  -- rows of one class stay so, at the same distance
  eq_after : (q r u v : Row) (c : ℤ) → Case gone keep by lo hi q u → Case gone keep by lo hi r v → q.rep ≡ r.rep → q.off ≡ r.off +ℤ c → (u.rep ≡ v.rep) × (u.off ≡ v.off +ℤ c)
  eq_after q r u v c (inl g) (inl h) e o = (g.rep ∙ sym h.rep, omega (arith, ints, g.off, h.off, o))
  eq_after q r u v c (inl g) (inr (inl h)) e o = absurd (h.not_gone (sym e ∙ g.was))
  eq_after q r u v c (inl g) (inr (inr h)) e o = absurd (h.not_gone (sym e ∙ g.was))
  eq_after q r u v c (inr (inl g)) (inl h) e o = absurd (g.not_gone (e ∙ h.was))
  eq_after q r u v c (inr (inl g)) (inr (inl h)) e o = (g.rep ∙ sym h.rep, omega (arith, ints, g.off, h.off, o))
  eq_after q r u v c (inr (inl g)) (inr (inr h)) e o = absurd (h.not_keep (sym e ∙ g.was))
  eq_after q r u v c (inr (inr g)) (inl h) e o = absurd (g.not_gone (e ∙ h.was))
  eq_after q r u v c (inr (inr g)) (inr (inl h)) e o = absurd (g.not_keep (e ∙ h.was))
  eq_after q r u v c (inr (inr g)) (inr (inr h)) e o =
      let x = ap (λ (z : Row). z.off) g.is in
      let y = ap (λ (z : Row). z.off) h.is in
      (ap (λ (z : Row). z.rep) g.is ∙ e ∙ ap (λ (z : Row). z.rep) (sym h.is), omega (arith, ints, x, y, o))

  -- ranges only get narrower
  in_after : (q u : Row) → At rows q → Case gone keep by lo hi q u → (low q ≤ℤ low u) × (high u ≤ℤ high q)
  in_after q u at (inl g) = let k = p.gone_fits q at g.was in (omega (arith, ints, k.0, g.lo, g.off), omega (arith, ints, k.1, g.hi, g.off))
  in_after q u at (inr (inl g)) = let k = p.keep_fits q at g.was in (omega (arith, ints, k.0, g.lo, g.off), omega (arith, ints, k.1, g.hi, g.off))
  in_after q u at (inr (inr g)) =
      let l = ap (λ (z : Row). low z) g.is in
      let h = ap (λ (z : Row). high z) g.is in
      (omega (arith, ints, l), omega (arith, ints, h))

  pub put_keeps : Keeps facts rows (map (changed gone keep by lo hi) rows)
  put_keeps (Eq a b c) t x =
      let q = row_at rows a in
      let r = row_at rows b in
      let k = eq_after q r (after q) (after r) c (cases gone keep by lo hi q) (cases gone keep by lo hi r) x.2 x.3 in
      let ea = row_after a x.0 in
      let eb = row_after b x.1 in
      (x.0, x.1, ap (λ (z : Row). z.rep) ea ∙ k.0 ∙ ap (λ (z : Row). z.rep) (sym eb), ap (λ (z : Row). z.off) ea ∙ k.1 ∙ ap (λ (z : Row). z.off +ℤ c) (sym eb))
  put_keeps (In a l h) t x =
      let q = row_at rows a in
      let k = in_after q (after q) (has_row rows a (s.all a x.0)).0 (cases gone keep by lo hi q) in
      let ea = row_after a x.0 in
      let el = ap (λ (z : Row). low z) ea in
      let eh = ap (λ (z : Row). high z) ea in
      (x.0, omega (arith, ints, x.1, k.0, el), omega (arith, ints, x.2, k.1, eh))
  put_keeps (Ne a b c) t x = absurd t

  -- a row that differs is of the class that is kept
  pub put_within : (a : NodeId) → IsNode facts.kinds a → (row_at (map (changed gone keep by lo hi) rows) a ≡ row_at rows a) ⊎ ((row_at (map (changed gone keep by lo hi) rows) a).rep ≡ keep)
  put_within a n =
      let e = row_after a n in
      elim (cases gone keep by lo hi (row_at rows a)) [
        | inl g ↦ inr (ap (λ (z : Row). z.rep) e ∙ g.rep)
        | inr g ↦ elim g [ inl h ↦ inr (ap (λ (z : Row). z.rep) e ∙ h.rep) | inr h ↦ inl (e ∙ h.is) ]
      ]
