-- What the steps do.
use Rattle.std.proofs.Common.{◌≡◌, ◌≢◌, ℤ, pos, negsuc, ◌+ℤ◌, ◌-ℤ◌, neg_ℤ, ◌≤ℤ◌, ◌<◌, List, map, refl, sym, ◌∙◌, ap, subst, inl, inr, arith}
use Rattle.std.proofs.lemmas.Int.{ints, clamps}
use Rattle.std.specs.Int.{int_max, int_min}
use Rattle.mc_base.specs.declared.ids.NodeId.{NodeId}
use Rattle.mc_base.specs.declared.plain.Atom.{Atom}
use Rattle.mc_base.specs.declared.plain.Atom.TheVariants.{Eq, Ne, In}
use Rattle.mc_base.specs.Nodes.{null}
use Rattle.mc_pure.specs.declared.rows.Row.{Row}
use Rattle.mc_pure.specs.declared.rows.Span.{Span}
use Rattle.mc_pure.specs.declared.rows.Change.{Change}
use Rattle.mc_pure.specs.declared.steps.Split.TheVariants.{Nothing, Clash, Left, Right}
use Rattle.mc_pure.specs.declared.rows.Outcome.{Outcome}
use Rattle.mc_pure.specs.declared.rows.Outcome.TheVariants.{Same, Changed, False}
use Rattle.mc_pure.specs.declared.steps.Step.{Step}
use Rattle.mc_pure.specs.declared.steps.Step.TheVariants.{Stay, Empty, To}
use Rattle.mc_pure.specs.Pure.{Pure, IsNode, Base}
use Rattle.mc_pure.specs.Derived.{Follows, IsFalse, base, turned, chained, differs, differs_along, raised, lowered, apart}
use Rattle.mc_pure.specs.Normal.{low, high}
use Rattle.mc_pure.specs.Rows.{row_at, At, RowSound, Over, IsSound, IsSmall, IsShort, IsLongRow, StayLong, changed_by, CanPut, Settled, Stepped, Lighter}
use Rattle.mc_pure.specs.Steps.{CutIs, JoinIs, ActIs, SmallStep, StepStaysLong, WithoutIs, SplitIs, IsTame, IsDownward, LinkIs}
use Rattle.mc_pure.proofs.Changing.{has_row, number, map_at, put_sound, put_lighter, put_keeps, put_within, offset_small, restrict_empty, restrict_put, restrict_pin, merge_empty, merge_put, merge_pin, clash, eq_at, in_at}

-- the row of a node
pub here : (facts : Pure) (rows : List Row) (a : NodeId) → IsSound facts rows → IsNode facts.kinds a → At rows (row_at rows a) × ((row_at rows a).node ≡ a)
here facts rows a s n = has_row rows a (s.all a n)

pub offs : (facts : Pure) (rows : List Row) → IsSound facts rows → (r : Row) → At rows r → IsSmall r.off
offs facts rows s r at = let k = offset_small facts r (s.each r at) in (omega (arith, ints, k.0), omega (arith, ints, k.1))

pub node_off : (facts : Pure) (rows : List Row) (a : NodeId) (r : Row) → IsSound facts rows → IsNode facts.kinds a → r ≡ row_at rows a → IsSmall r.off
node_off facts rows a r s n e = rw e (offs facts rows s (row_at rows a) (here facts rows a s n).0)

pub node_lo : (facts : Pure) (rows : List Row) (a : NodeId) (r : Row) → IsSound facts rows → IsNode facts.kinds a → r ≡ row_at rows a → IsSmall r.lo
node_lo facts rows a r s n e = rw e (let o = s.each (row_at rows a) (here facts rows a s n).0 in (omega (arith, ints, o.above, o.below, o.full), omega (arith, ints, o.above, o.below, o.full)))

pub node_hi : (facts : Pure) (rows : List Row) (a : NodeId) (r : Row) → IsSound facts rows → IsNode facts.kinds a → r ≡ row_at rows a → IsSmall r.hi
node_hi facts rows a r s n e = rw e (let o = s.each (row_at rows a) (here facts rows a s n).0 in (omega (arith, ints, o.above, o.below, o.full), omega (arith, ints, o.above, o.below, o.full)))

-- a sound row's numbers have 64 bits
row_long : (facts : Pure) (r : Row) → RowSound facts r → IsLongRow r
row_long facts r o = (
  (omega (arith, ints, o.above, o.below, o.above', o.below', o.full), omega (arith, ints, o.above, o.below, o.above', o.below', o.full)),
  (omega (arith, ints, o.above), omega (arith, ints, o.below, o.full)),
  (omega (arith, ints, o.above, o.full), omega (arith, ints, o.below)),
)

-- and stay so by a legal change
change_long : (facts : Pure) (rows : List Row) (c : Change) → IsSound facts rows → CanPut facts rows c.gone c.keep c.by c.lo c.hi → StayLong c rows
change_long facts rows c s p r at =
    let now = put_sound facts rows s c.gone c.keep c.by c.lo c.hi p in
    row_long facts (changed_by c r) (now.each (changed_by c r) (at.0, map_at (changed_by c) rows r at.0 at.1))

-- a legal change was made
change_done : (facts : Pure) (rows now : List Row) (c : Change) (class : NodeId) → IsSound facts rows → CanPut facts rows c.gone c.keep c.by c.lo c.hi → (now ≡ map (changed_by c) rows) × (class ≡ c.keep) → Lighter facts rows now class
change_done facts rows now c class s p e =
    rw (e.0, e.1) (record { sound = put_sound facts rows s c.gone c.keep c.by c.lo c.hi p; less = put_lighter facts rows s c.gone c.keep c.by c.lo c.hi p; keeps = put_keeps facts rows s c.gone c.keep c.by c.lo c.hi p; within = put_within facts rows s c.gone c.keep c.by c.lo c.hi p })

can_at : (facts : Pure) (rows : List Row) (gone gone' keep keep' : NodeId) (by by' lo lo' hi hi' : ℤ) → gone' ≡ gone → keep' ≡ keep → by' ≡ by → lo' ≡ lo → hi' ≡ hi → CanPut facts rows gone keep by lo hi → CanPut facts rows gone' keep' by' lo' hi'
can_at facts rows gone gone' keep keep' by by' lo lo' hi hi' a b c d e p = rw (a, b, c, d, e) p

cut_can : (facts : Pure) (rows : List Row) (a : NodeId) (l h : ℤ) (r : Row) (g : Change) → IsSound facts rows → Follows facts (In a l h) → IsNode facts.kinds a → r ≡ row_at rows a → CutIs r l h (To g) → CanPut facts rows g.gone g.keep g.by g.lo g.hi
cut_can facts rows a l h r g s d n e c =
    let k = here facts rows a s n in
    let at : At rows r = rw e k.0 in
    let is : r.node ≡ a = ap (λ (x : Row). x.node) e ∙ k.1 in
    let d' = in_at facts d (sym is) refl refl in
    let lo = int_max r.lo (l -ℤ r.off) in
    let hi = int_min r.hi (h -ℤ r.off) in
    elim c.2 [
      | inl x ↦ can_at facts rows r.rep g.gone null g.keep lo g.by (pos 0) g.lo (pos 0) g.hi x.1.gone_is x.1.keep_is x.1.by_is x.1.lo_is x.1.hi_is (restrict_pin facts rows s r at l h d' lo hi refl refl c.0 c.1 x.0)
      | inr x ↦ can_at facts rows r.rep g.gone r.rep g.keep (pos 0) g.by lo g.lo hi g.hi x.1.gone_is x.1.keep_is x.1.by_is x.1.lo_is x.1.hi_is (restrict_put facts rows s r at l h d' lo hi refl refl c.0 c.1 x.0)
    ]

pub cut_done : (facts : Pure) (rows now : List Row) (a : NodeId) (l h : ℤ) (r : Row) (step : Step) (out : Outcome) → IsSound facts rows → Follows facts (In a l h) → IsNode facts.kinds a → r ≡ row_at rows a → IsSmall r.off → CutIs r l h step → ActIs step rows now out → Stepped facts rows now (Settled facts rows (In a l h)) out
cut_done facts rows now a l h r Stay Same s d n e small c t =
    let low_in : l ≤ℤ low r = omega (arith, ints, clamps, c.0) in
    let high_in : high r ≤ℤ h = omega (arith, ints, clamps, c.1) in
    (t, (n, rw (← e) low_in, rw (← e) high_in))
cut_done facts rows now a l h r Stay (Changed class) s d n e small c t = absurd t
cut_done facts rows now a l h r Stay False s d n e small c t = absurd t
cut_done facts rows now a l h r Empty Same s d n e small c t = absurd t
cut_done facts rows now a l h r Empty (Changed class) s d n e small c t = absurd t
cut_done facts rows now a l h r Empty False s d n e small c t =
    let k = here facts rows a s n in
    let at : At rows r = rw e k.0 in
    let is : r.node ≡ a = ap (λ (x : Row). x.node) e ∙ k.1 in
    restrict_empty facts rows s r at l h (in_at facts d (sym is) refl refl) _ _ refl refl c
cut_done facts rows now a l h r (To g) Same s d n e small c t = absurd t
cut_done facts rows now a l h r (To g) False s d n e small c t = absurd t
cut_done facts rows now a l h r (To g) (Changed class) s d n e small c t =
    change_done facts rows now g class s (cut_can facts rows a l h r g s d n e c) t

pub cut_long : (facts : Pure) (rows : List Row) (a : NodeId) (l h : ℤ) (r : Row) (step : Step) → IsSound facts rows → Follows facts (In a l h) → IsNode facts.kinds a → r ≡ row_at rows a → CutIs r l h step → StepStaysLong step rows
cut_long facts rows a l h r Stay s d n e c = tt
cut_long facts rows a l h r Empty s d n e c = tt
cut_long facts rows a l h r (To g) s d n e c = change_long facts rows g s (cut_can facts rows a l h r g s d n e c)

join_can : (facts : Pure) (rows : List Row) (up down : Row) (b : ℤ) (g : Change) → IsSound facts rows → Follows facts (Eq up.rep down.rep b) → At rows up → At rows down → down.rep.0 < up.rep.0 → JoinIs up down b (To g) → CanPut facts rows g.gone g.keep g.by g.lo g.hi
join_can facts rows up down b g s d au ad w c =
    let lo = int_max down.lo (up.lo -ℤ b) in
    let hi = int_min down.hi (up.hi -ℤ b) in
    elim c.1 [
      | inl x ↦ can_at facts rows up.rep g.gone null g.keep (lo +ℤ b) g.by (pos 0) g.lo (pos 0) g.hi x.2.gone_is x.2.keep_is x.2.by_is x.2.lo_is x.2.hi_is (merge_pin facts rows s up down au ad b d lo hi refl refl c.0 x.0 w)
      | inr x ↦ can_at facts rows up.rep g.gone down.rep g.keep b g.by lo g.lo hi g.hi x.1.gone_is x.1.keep_is x.1.by_is x.1.lo_is x.1.hi_is (merge_put facts rows s up down au ad b d lo hi refl refl c.0 x.0 w)
    ]

pub join_done : (facts : Pure) (rows now : List Row) (up down : Row) (b : ℤ) (P : Type 0) (step : Step) (out : Outcome) → IsSound facts rows → Follows facts (Eq up.rep down.rep b) → At rows up → At rows down → down.rep.0 < up.rep.0 → JoinIs up down b step → ActIs step rows now out → Stepped facts rows now P out
join_done facts rows now up down b P Stay out s d au ad w c t = absurd c
join_done facts rows now up down b P Empty Same s d au ad w c t = absurd t
join_done facts rows now up down b P Empty (Changed class) s d au ad w c t = absurd t
join_done facts rows now up down b P Empty False s d au ad w c t = merge_empty facts rows s up down au ad b d _ _ refl refl c
join_done facts rows now up down b P (To g) Same s d au ad w c t = absurd t
join_done facts rows now up down b P (To g) False s d au ad w c t = absurd t
join_done facts rows now up down b P (To g) (Changed class) s d au ad w c t =
    change_done facts rows now g class s (join_can facts rows up down b g s d au ad w c) t

pub small_cut : (r : Row) (l h : ℤ) (step : Step) → IsTame r → CutIs r l h step → SmallStep step (λ b. IsSmall b)
small_cut r l h Stay t c = tt
small_cut r l h Empty t c = tt
small_cut r l h (To g) t c =
    let lo = t.lo in
    let hi = t.hi in
    let full = c.0 in
    elim c.2 [
      | inl x ↦ (let e = x.1.by_is in (omega (arith, ints, clamps), omega (arith, ints, clamps)))
      | inr x ↦ (let e = x.1.by_is in (omega (arith, ints), omega (arith, ints)))
    ]

small_join : (up down : Row) (b : ℤ) (step : Step) → IsTame up → IsSmall b → JoinIs up down b step → SmallStep step (λ x. IsSmall x)
small_join up down b Stay t s c = absurd c
small_join up down b Empty t s c = tt
small_join up down b (To g) t s c =
    let lo = t.lo in
    let hi = t.hi in
    let full = c.0 in
    elim c.1 [
      | inl x ↦ (let e = x.2.by_is in (omega (arith, ints, clamps), omega (arith, ints, clamps)))
      | inr x ↦ (let e = x.1.by_is in (omega (arith, ints), omega (arith, ints)))
    ]

-- classes go downward
abbrev IsZero : Row → Type 0
IsZero r = r.rep ≡ null → (r.lo ≡ pos 0) × (r.hi ≡ pos 0)

pub node_zero : (facts : Pure) (rows : List Row) (a : NodeId) (r : Row) → IsSound facts rows → IsNode facts.kinds a → r ≡ row_at rows a → IsZero r
node_zero facts rows a r s n e = let o : RowSound facts r = rw e (s.each (row_at rows a) (here facts rows a s n).0) in o.zero

pub cut_downward : (r : Row) (l h : ℤ) (step : Step) → IsZero r → CutIs r l h step → IsDownward step
cut_downward r l h Stay z c = tt
cut_downward r l h Empty z c = tt
cut_downward r l h (To g) z c = elim c.2 [
  | inl x ↦ (omega (arith, number x.1.keep_is), λ e. (x.1.lo_is, x.1.hi_is))
  | inr x ↦
      let full = c.0 in
      let wide = c.1 in
      (omega (arith, number x.1.keep_is, number x.1.gone_is), λ e. let k = z (sym x.1.keep_is ∙ e) in (omega (arith, ints, clamps, k.0, k.1, x.1.lo_is), omega (arith, ints, clamps, k.0, k.1, x.1.hi_is)))
]

join_downward : (up down : Row) (b : ℤ) (g : Change) → IsZero down → down.rep.0 < up.rep.0 → JoinIs up down b (To g) → IsDownward (To g)
join_downward up down b g z w c = elim c.1 [
  | inl x ↦ (omega (arith, number x.2.keep_is), λ e. (x.2.lo_is, x.2.hi_is))
  | inr x ↦
      let full = c.0 in
      (omega (arith, w, number x.1.keep_is, number x.1.gone_is), λ e. let k = z (sym x.1.keep_is ∙ e) in (omega (arith, ints, clamps, k.0, k.1, x.1.lo_is), omega (arith, ints, clamps, k.0, k.1, x.1.hi_is)))
]

pub link_downward : (r t : Row) (c : ℤ) (step : Step) → IsZero r → IsZero t → LinkIs r t c step → IsDownward step
link_downward r t c Stay z y k = tt
link_downward r t c Empty z y k = tt
link_downward r t c (To g) z y (inl k) = join_downward r t _ g y k.0 k.1
link_downward r t c (To g) z y (inr k) = join_downward t r _ g z k.0 k.1

-- the representatives' offset
pub reps_offset : (facts : Pure) (rows : List Row) (a b : NodeId) (c : ℤ) (r t : Row) → IsSound facts rows → IsNode facts.kinds a → IsNode facts.kinds b → r ≡ row_at rows a → t ≡ row_at rows b → Follows facts (Eq a b c) → Follows facts (Eq r.rep t.rep ((t.off +ℤ c) -ℤ r.off))
reps_offset facts rows a b c r t s na nb e f d =
    let ka = here facts rows a s na in
    let kb = here facts rows b s nb in
    let oa : RowSound facts r = rw e (s.each (row_at rows a) ka.0) in
    let ob : RowSound facts t = rw f (s.each (row_at rows b) kb.0) in
    let ia : r.node ≡ a = ap (λ (x : Row). x.node) e ∙ ka.1 in
    let ib : t.node ≡ b = ap (λ (x : Row). x.node) f ∙ kb.1 in
    eq_at facts (chained (turned (eq_at facts oa.equal ia refl refl)) (chained d (eq_at facts ob.equal ib refl refl))) refl refl (omega (arith, ints))

pub tame : (facts : Pure) (rows : List Row) (a : NodeId) (r : Row) → IsSound facts rows → IsNode facts.kinds a → r ≡ row_at rows a → IsTame r
tame facts rows a r s n e =
    let o : RowSound facts r = rw e (s.each (row_at rows a) (here facts rows a s n).0) in
    let k = offset_small facts r o in
    record { off = k; lo = (omega (arith, ints, o.above), omega (arith, ints, o.below, o.full)); hi = (omega (arith, ints, o.above, o.full), omega (arith, ints, o.below)) }

pub small_by : (r t : Row) (c : ℤ) → IsTame r → IsTame t → IsShort c → IsSmall ((t.off +ℤ c) -ℤ r.off)
small_by r t c p q s = let x = p.off in let y = q.off in (omega (arith, ints), omega (arith, ints))

pub small_link : (r t : Row) (c : ℤ) (step : Step) → IsTame r → IsTame t → IsShort c → LinkIs r t c step → SmallStep step (λ b. IsSmall b)
small_link r t c Stay p q s k = tt
small_link r t c Empty p q s k = tt
small_link r t c (To g) p q s (inl k) = small_join r t ((t.off +ℤ c) -ℤ r.off) (To g) p (small_by r t c p q s) k.1
small_link r t c (To g) p q s (inr k) =
    let x = small_by r t c p q s in
    small_join t r (neg_ℤ ((t.off +ℤ c) -ℤ r.off)) (To g) q (omega (arith, ints), omega (arith, ints)) k.1

-- a step on two rows, of which each is a node's
module _ (facts : Pure) (rows now : List Row) (a b : NodeId) (c : ℤ) (r t : Row) (s : IsSound facts rows) (d : Follows facts (Eq a b c)) (na : IsNode facts.kinds a) (nb : IsNode facts.kinds b) (e : r ≡ row_at rows a) (f : t ≡ row_at rows b) where
  link_at : At rows r × At rows t
  link_at = (rw e (here facts rows a s na).0, rw f (here facts rows b s nb).0)

  link_far : Follows facts (Eq r.rep t.rep ((t.off +ℤ c) -ℤ r.off))
  link_far = reps_offset facts rows a b c r t s na nb e f d

  link_clash : (r.rep ≡ t.rep) × (r.off ≢ t.off +ℤ c) → IsFalse facts
  link_clash k = clash facts a b r t c (s.each r link_at.0) (s.each t link_at.1) (ap (λ (x : Row). x.node) e ∙ (here facts rows a s na).1) (ap (λ (x : Row). x.node) f ∙ (here facts rows b s nb).1) k.0 k.1 d

  pub link_long : (step : Step) → LinkIs r t c step → StepStaysLong step rows
  link_long Stay k = tt
  link_long Empty k = tt
  link_long (To g) k = change_long facts rows g s (elim k [
    | inl y ↦ join_can facts rows r t ((t.off +ℤ c) -ℤ r.off) g s link_far link_at.0 link_at.1 y.0 y.1
    | inr y ↦ join_can facts rows t r (neg_ℤ ((t.off +ℤ c) -ℤ r.off)) g s (turned link_far) link_at.1 link_at.0 y.0 y.1
  ])

  pub link_done : (step : Step) (out : Outcome) → LinkIs r t c step → ActIs step rows now out → Stepped facts rows now (Settled facts rows (Eq a b c)) out
  link_done Stay Same k x = (x, (na, nb, ap (λ (z : Row). z.rep) (sym e) ∙ k.0 ∙ ap (λ (z : Row). z.rep) f, rw (← e, ← f) k.1))
  link_done Stay (Changed class) k x = absurd x
  link_done Stay False k x = absurd x
  link_done Empty Same k x = absurd x
  link_done Empty (Changed class) k x = absurd x
  link_done Empty False k x = elim k [
    | inl y ↦ link_clash y
    | inr y ↦ elim y [
      | inl z ↦ merge_empty facts rows s r t link_at.0 link_at.1 ((t.off +ℤ c) -ℤ r.off) link_far _ _ refl refl z
      | inr z ↦ merge_empty facts rows s t r link_at.1 link_at.0 (neg_ℤ ((t.off +ℤ c) -ℤ r.off)) (turned link_far) _ _ refl refl z
    ]
  ]
  link_done (To g) Same k x = absurd x
  link_done (To g) False k x = absurd x
  link_done (To g) (Changed class) k x = elim k [
    | inl y ↦ join_done facts rows now r t ((t.off +ℤ c) -ℤ r.off) (Unit {0}) (To g) (Changed class) s link_far link_at.0 link_at.1 y.0 y.1 x
    | inr y ↦ join_done facts rows now t r (neg_ℤ ((t.off +ℤ c) -ℤ r.off)) (Unit {0}) (To g) (Changed class) s (turned link_far) link_at.1 link_at.0 y.0 y.1 x
  ]

pub without_at : (m s : Span) (v w l h : ℤ) → m.lo ≡ l → m.hi ≡ h → w ≡ v → WithoutIs m w s → WithoutIs (record { lo = l; hi = h }) v s
without_at m s v w l h p q e (inl k) = inl (sym e ∙ k.0 ∙ p, omega (arith, ints, k.1, p), k.2 ∙ q)
without_at m s v w l h p q e (inr (inl k)) = inr (inl (sym e ∙ k.0 ∙ q, k.1 ∙ p, omega (arith, ints, k.2, q)))
without_at m s v w l h p q e (inr (inr k)) = inr (inr ((λ x. k.0 (e ∙ x ∙ sym p)), (λ x. k.1 (e ∙ x ∙ sym q)), k.2 ∙ p, k.3 ∙ q))

-- disequalities
abbrev NeAt : Row → Row → ℤ → Type 0
NeAt r t c =
    (r.rep ≡ t.rep → r.off ≢ t.off +ℤ c)
    × (t.lo ≡ t.hi → (low r ≢ low t +ℤ c) × (high r ≢ low t +ℤ c))
    × (r.lo ≡ r.hi → (low r ≢ low t +ℤ c) × (low r ≢ high t +ℤ c))

single : (r : Row) → low r ≡ high r → r.lo ≡ r.hi
single r e = omega (arith, ints)

module _ (facts : Pure) (rows : List Row) (a b : NodeId) (c : ℤ) (r t : Row) (s : IsSound facts rows) (d : Follows facts (Ne a b c)) (na : IsNode facts.kinds a) (nb : IsNode facts.kinds b) (e : r ≡ row_at rows a) (f : t ≡ row_at rows b) where
  part_a : RowSound facts r × (r.node ≡ a) × At rows r
  part_a = let k = here facts rows a s na in (rw e (s.each (row_at rows a) k.0), ap (λ (x : Row). x.node) e ∙ k.1, rw e k.0)

  part_b : RowSound facts t × (t.node ≡ b) × At rows t
  part_b = let k = here facts rows b s nb in (rw f (s.each (row_at rows b) k.0), ap (λ (x : Row). x.node) f ∙ k.1, rw f k.0)

  in_a : Follows facts (In a (low r) (high r))
  in_a = in_at facts part_a.0.within part_a.1 refl refl

  in_b : Follows facts (In b (low t) (high t))
  in_b = in_at facts part_b.0.within part_b.1 refl refl

  settle_ne : NeAt r t c → Settled facts rows (Ne a b c)
  settle_ne k = rw (← e, ← f) k

  pub part_nothing : SplitIs r t c Nothing → Settled facts rows (Ne a b c)
  part_nothing (inl k) =
      let o = s.coherent r t part_a.2 part_b.2 k.0 in
      let ne = k.1 in
      settle_ne ((λ x. ne), (λ x. ((λ y. ne (omega (arith, ints, o.0))), (λ y. ne (omega (arith, ints, o.0, o.1, x))))), (λ x. ((λ y. ne (omega (arith, ints, o.0))), (λ y. ne (omega (arith, ints, o.0, o.1, x))))))
  part_nothing (inr k) = settle_ne ((λ x. absurd (k.0 x)), (λ x. absurd (k.1 x)), (λ x. absurd (k.2 x)))

  pub part_clash : SplitIs r t c Clash → IsFalse facts
  part_clash k =
      let x : Follows facts (Eq b t.rep t.off) = eq_at facts part_b.0.equal part_b.1 refl refl in
      let y : Follows facts (Eq t.rep a (neg_ℤ r.off)) = eq_at facts (turned part_a.0.equal) k.0 part_a.1 refl in
      apart (subst (λ (z : ℤ). Follows facts (Ne a a z)) (omega (arith, ints, k.1)) (differs_along d (chained x y)))

  pub left_in : (g : Span) → SplitIs r t c (Left g) → Follows facts (In a g.lo g.hi)
  left_in g k = elim k.2 [
    | inl w ↦ in_at facts (raised d (in_at facts in_b refl refl (omega (arith, ints, k.1))) (in_at facts in_a refl (sym w.0) refl)) refl (omega (arith, ints, w.0, w.1)) (sym w.2)
    | inr v ↦ elim v [
      | inl w ↦ in_at facts (lowered d (in_at facts in_b refl refl (omega (arith, ints, k.1))) (in_at facts in_a refl refl (sym w.0))) refl (sym w.1) (omega (arith, ints, w.0, w.2))
      | inr w ↦ in_at facts in_a refl (sym w.2) (sym w.3)
    ]
  ]

  pub left_done : (g : Span) → SplitIs r t c (Left g) → Settled facts rows (In a g.lo g.hi) → Settled facts rows (Ne a b c)
  left_done g k h =
      let l : g.lo ≤ℤ low r = rw e h.1 in
      let m : high r ≤ℤ g.hi = rw e h.2 in
      elim k.2 [
        | inl w ↦ absurd (omega (arith, ints, w.1))
        | inr v ↦ elim v [
          | inl w ↦ absurd (omega (arith, ints, w.2))
          | inr w ↦ settle_ne ((λ x. absurd (k.0 x)), (λ x. ((λ y. w.0 (sym y)), (λ y. w.1 (sym y)))), (λ x. ((λ y. w.0 (sym y)), (λ y. w.0 (omega (arith, ints, y, k.1))))))
        ]
      ]

  pub right_in : (g : Span) → SplitIs r t c (Right g) → Follows facts (In b g.lo g.hi)
  right_in g k = elim k.3 [
    | inl w ↦ in_at facts (raised (differs d) (in_at facts in_a refl refl (omega (arith, ints, k.2))) (in_at facts in_b refl (omega (arith, ints, w.0)) refl)) refl (omega (arith, ints, w.0, w.1)) (sym w.2)
    | inr v ↦ elim v [
      | inl w ↦ in_at facts (lowered (differs d) (in_at facts in_a refl refl (omega (arith, ints, k.2))) (in_at facts in_b refl refl (omega (arith, ints, w.0)))) refl (sym w.1) (omega (arith, ints, w.0, w.2))
      | inr w ↦ in_at facts in_b refl (sym w.2) (sym w.3)
    ]
  ]

  pub right_done : (g : Span) → SplitIs r t c (Right g) → Settled facts rows (In b g.lo g.hi) → Settled facts rows (Ne a b c)
  right_done g k h =
      let l : g.lo ≤ℤ low t = rw f h.1 in
      let m : high t ≤ℤ g.hi = rw f h.2 in
      elim k.3 [
        | inl w ↦ absurd (omega (arith, ints, w.1))
        | inr v ↦ elim v [
          | inl w ↦ absurd (omega (arith, ints, w.2))
          | inr w ↦ settle_ne ((λ x. absurd (k.0 x)), (λ x. absurd (k.1 x)), (λ x. ((λ y. w.0 (omega (arith, ints, y))), (λ y. w.1 (omega (arith, ints, y))))))
        ]
      ]

  small_without : (q : Row) (g : Span) (v : ℤ) → RowSound facts q → WithoutIs (record { lo = low q; hi = high q }) v g → IsSmall g.lo × IsSmall g.hi
  small_without q g v o k =
      let x : (negsuc 4611686018427387903 ≤ℤ low q) × (low q ≤ℤ pos 4611686018427387903) = (o.above', omega (arith, ints, o.below', o.full)) in
      let y : (negsuc 4611686018427387903 ≤ℤ high q) × (high q ≤ℤ pos 4611686018427387903) = (omega (arith, ints, o.above', o.full), o.below') in
      small_end q g v x y k
    where
      small_end : (q : Row) (g : Span) (v : ℤ) → (negsuc 4611686018427387903 ≤ℤ low q) × (low q ≤ℤ pos 4611686018427387903) → (negsuc 4611686018427387903 ≤ℤ high q) × (high q ≤ℤ pos 4611686018427387903) → WithoutIs (record { lo = low q; hi = high q }) v g → IsSmall g.lo × IsSmall g.hi
      small_end q g v x y (inl k) = ((omega (arith, ints, x.0, k.1), omega (arith, ints, x.1, k.1)), (omega (arith, ints, y.0, k.2), omega (arith, ints, y.1, k.2)))
      small_end q g v x y (inr (inl k)) = ((omega (arith, ints, x.0, k.1), omega (arith, ints, x.1, k.1)), (omega (arith, ints, y.0, k.2), omega (arith, ints, y.1, k.2)))
      small_end q g v x y (inr (inr k)) = ((omega (arith, ints, x.0, k.2), omega (arith, ints, x.1, k.2)), (omega (arith, ints, y.0, k.3), omega (arith, ints, y.1, k.3)))

  pub left_small : (g : Span) → SplitIs r t c (Left g) → IsSmall g.lo × IsSmall g.hi
  left_small g k = small_without r g _ part_a.0 k.2

  pub right_small : (g : Span) → SplitIs r t c (Right g) → IsSmall g.lo × IsSmall g.hi
  right_small g k = small_without t g _ part_b.0 k.3

-- the nodes of an atom
pub known_eq : (facts : Pure) (rows : List Row) (f : Atom) (a b : NodeId) (c : ℤ) → IsSound facts rows → Base facts f → f ≡ Eq a b c → IsNode facts.kinds a × IsNode facts.kinds b
known_eq facts rows f a b c s m e = subst (λ (x : Atom). Over (IsNode facts.kinds) x) e (s.known f m)

pub known_ne : (facts : Pure) (rows : List Row) (f : Atom) (a b : NodeId) (c : ℤ) → IsSound facts rows → Base facts f → f ≡ Ne a b c → IsNode facts.kinds a × IsNode facts.kinds b
known_ne facts rows f a b c s m e = subst (λ (x : Atom). Over (IsNode facts.kinds) x) e (s.known f m)

pub base_is : (facts : Pure) (f g : Atom) → Base facts f → f ≡ g → Follows facts g
base_is facts f g m e = subst (λ (x : Atom). Follows facts x) e (base m)
