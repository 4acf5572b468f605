-- Where lines that change the states of cuts may stand.
use Rattle.std.proofs.Common.{◌≡◌, ◌⊎◌, inl, inr, ℕ, zero, suc, List, [], ◌∷◌, Bool, true, false, Option, Some, None, refl, ap, ◌∙◌, subst, arith, eqb-true, eq-eqb}
use Rattle.std.specs.Prelude.{◌&&◌, ◌||◌, ◌==◌, not, is_some, Contains}
use Rattle.mc_base.specs.declared.ids.PointId.{PointId}
use Rattle.mc_state.specs.declared.goal.Goal.{Goal}
use Rattle.mc_state.specs.declared.line.Form.{Form}
use Rattle.mc_state.specs.declared.line.Form.TheVariants.{Certificate, Chain}
use Rattle.mc_kernel.specs.Branches.{Path, Setting}
use Rattle.mc_kernel.specs.Judges.{is_plain, is_cut, may_cut, is_chain}
use Rattle.mc_joins.specs.Chains.Judges.{may_change}
use Rattle.mc_joins.specs.Chains.Opened.{MayChange}

pub and_both : (a b : Bool) → (a && b) ≡ true → (a ≡ true) × (b ≡ true)
and_both true b e = (refl, e)
and_both false b e = absurd (cc e)

pub and_yes : (a b : Bool) → a ≡ true → b ≡ true → (a && b) ≡ true
and_yes a b p q = ap (λ (x : Bool). x && b) p ∙ q

pub no_from : (b : Bool) → not b ≡ true → b ≡ false
no_from true e = absurd (cc e)
no_from false e = refl

pub no_to : (b : Bool) → b ≡ false → not b ≡ true
no_to b e = ap not e

pub not_yes : (b : Bool) → (b ≡ true → ⊥) → not b ≡ true
not_yes true never = absurd (never refl)
not_yes false never = refl

pub clash : (b : Bool) → not b ≡ true → b ≡ true → ⊥
clash true n e = cc n
clash false n e = cc e

plain_from : (goal : Option Goal) → not (is_some goal) ≡ true → goal ≡ None
plain_from None e = refl
plain_from (Some g) e = absurd (cc e)

plain_to : (goal : Option Goal) → goal ≡ None → not (is_some goal) ≡ true
plain_to goal e = ap (λ (g : Option Goal). not (is_some g)) e

here : (x : PointId) (xs : List PointId) → Contains (x ∷ xs) x
here x xs = (0, omega arith, refl)

later : (x y : PointId) (ys : List PointId) → Contains ys x → Contains (y ∷ ys) x
later x y ys c = let below = c.1 in (suc c.0, omega arith, c.2)

nothing : (x : PointId) → Contains [] x → ⊥
nothing x c = let below = c.1 in omega arith

case : (ys : List PointId) (x y : PointId) → Contains (y ∷ ys) x → (y ≡ x) ⊎ Contains ys x
case ys x y (zero, less, e) = inl e
case ys x y (suc i, less, e) = inr (i, omega arith, e)

cut_from : (cuts : List PointId) (p : PointId) → is_cut cuts p ≡ true → Contains cuts p
cut_from [] p e = absurd (cc e)
cut_from (q ∷ cuts) p e = at (λ f. cut_from cuts p f) (q.0 == p.0) refl e
  where
    at : (is_cut cuts p ≡ true → Contains cuts p) → (b : Bool) → (q.0 == p.0) ≡ b → (b || is_cut cuts p) ≡ true → Contains (q ∷ cuts) p
    at rest true is e = subst (λ (r : PointId). Contains (q ∷ cuts) r) (ap (λ (j : ℕ). let r : PointId = record { 0 = j } in r) (eqb-true q.0 p.0 is)) (here q cuts)
    at rest false is e = later p q cuts (rest e)

or_left : (a b : Bool) → a ≡ true → (a || b) ≡ true
or_left true b e = refl
or_left false b e = absurd (cc e)

or_right : (a b : Bool) → b ≡ true → (a || b) ≡ true
or_right true b e = refl
or_right false b e = e

cut_to : (cuts : List PointId) (p : PointId) → Contains cuts p → is_cut cuts p ≡ true
cut_to [] p c = absurd (nothing p c)
cut_to (q ∷ cuts) p c = elim (case cuts p q c) [
  | inl e ↦ or_left (q.0 == p.0) (is_cut cuts p) (eq-eqb q.0 p.0 (ap (λ (r : PointId). r.0) e))
  | inr rest ↦ or_right (q.0 == p.0) (is_cut cuts p) (cut_to cuts p rest)
]

chain_from : (form : Form) → is_chain form ≡ true → form ≡ Chain
chain_from Certificate e = absurd (cc e)
chain_from Chain e = refl

chain_to : (form : Form) → form ≡ Chain → is_chain form ≡ true
chain_to form e = ap is_chain e

pub may_from : (g : Setting) (b : Path) → may_change g b ≡ true → MayChange g b
may_from g b e =
    let outer = and_both (is_chain g.form && may_cut g b) (not b.closing) e in
    let front = and_both (is_chain g.form) (may_cut g b) outer.0 in
    let cut = and_both (is_plain b && is_cut g.cuts b.point) b.moved front.1 in
    let place = and_both (is_plain b) (is_cut g.cuts b.point) cut.0 in
    record {
      chain = chain_from g.form front.0;
      cut = record { plain = plain_from b.goal place.0; at_cut = cut_from g.cuts b.point place.1; has_moved = cut.1 };
      open_still = no_from b.closing outer.1;
    }

pub may_to : (g : Setting) (b : Path) → MayChange g b → may_change g b ≡ true
may_to g b m =
    and_yes (is_chain g.form && may_cut g b) (not b.closing)
    (and_yes (is_chain g.form) (may_cut g b) (chain_to g.form m.chain)
    (and_yes (is_plain b && is_cut g.cuts b.point) b.moved
    (and_yes (is_plain b) (is_cut g.cuts b.point) (plain_to b.goal m.cut.plain) (cut_to g.cuts b.point m.cut.at_cut)) m.cut.has_moved))
    (no_to b.closing m.open_still)
