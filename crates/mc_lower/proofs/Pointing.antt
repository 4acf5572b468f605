-- The table of the points that the ways of labels end at.
use Rattle.std.proofs.Common.{◌≡◌, ◌+◌, ◌⊎◌, ℕ, zero, suc, List, [], ◌∷◌, Some, refl, sym, ap, ◌∙◌, map, get_or, arith, inl, inr}
use Rattle.std.proofs.lemmas.Option.{same_Some}
use Rattle.std.specs.Prelude.{slice_get}
use Rattle.mc_lower.specs.declared.builder.Label.{Label}
use Rattle.mc_lower.specs.declared.builder.Mark.{Mark}
use Rattle.mc_lower.specs.declared.lines.Awaited.{Awaited}
use Rattle.mc_lower.specs.declared.settling.Way.{Way}
use Rattle.mc_lower.specs.Finished.{AreApart, point_at}
use Rattle.mc_lower.specs.Lines.{AreLined, subject}
use Rattle.mc_lower.specs.Settled.{AreWays, HasPoint, Settles, point_of_way, way_at, way_of}
use Rattle.mc_lower.specs.Worlds.{AllAt, IsMarked}
use Rattle.mc_lower.proofs.Marked.{out_low, out_not_joined, out_once, point_low, point_once}
use Rattle.mc_lower.proofs.Ways.{point_stays}

mapped : (ways : List Way) (l : ℕ) → get_or (map point_of_way ways) l 0 ≡ point_of_way (way_at ways l)
mapped [] l = refl
mapped (w ∷ ways) zero = refl
mapped (w ∷ ways) (suc l) = mapped ways l

-- the label that two ways lead on to is one
same_on : (l m : Label) → Way.On l ≡ Way.On m → l ≡ m
same_on l m same = cc same

module _ {count labels : ℕ} {marks : List Mark} {old new : List Way} (ways : AreWays count labels marks old) (settles : Settles old new)
    (table : List ℕ) (is_table : table ≡ map point_of_way new) where
  of_way : (l n : ℕ) → way_at new l ≡ Way.Point n → point_at table l ≡ n
  of_way l n is = ap (λ t. point_at t l) is_table ∙ mapped new l ∙ ap point_of_way is

  of_old : (l n : ℕ) → way_at old l ≡ Way.Point n → point_at table l ≡ n
  of_old l n is = of_way l n (point_stays settles l n is)

  -- a label that is the point of another
  of_same : (l m : Label) → HasPoint new l.0 → way_at old l.0 ≡ Way.On m → point_at table l.0 ≡ point_at table m.0
  of_same l m has on =
      elim (settles.each l.0) [
        | inl same ↦ let point = has.1 in let still = same ∙ on in absurd (cc (point, still))
        | inr step ↦ of_way l.0 step.1 step.3
            ∙ sym (ap (λ (k : Label). point_at table k.0) (same_on m step.0 (sym on ∙ step.2)) ∙ of_way step.0.0 step.1 step.4)
      ]

  of_mark : (m : Mark) → HasPoint new (subject m).0 → way_at old (subject m).0 ≡ way_of m → IsMarked (point_at table) m
  of_mark (Mark.At l n) has is = of_old l.0 n is
  of_mark (Mark.Same l m) has is = of_same l m has is

  -- all that is known of labels holds
  pub marks_hold : ((l : ℕ) → HasPoint new l) → AllAt (λ i m. IsMarked (point_at table) m) marks
  marks_hold points i m there = of_mark m (points (subject m).0) (ways.marked i m there)

  -- ---- where `return`s go
  module _ {outs : List Label} {waiting : List Awaited} {goal : Label} (lined : AreLined count marks outs waiting labels goal) where
    -- the point of such a label is its own, or known by a mark
    abbrev HasOwn : Label → Type 0
    HasOwn l = (point_at table l.0 ≡ count + l.0)
        ⊎ ((k : ℕ) × (q : Label) × (n : ℕ) × (slice_get marks k ≡ Some (Mark.At q n)) × (q.0 ≡ l.0) × (point_at table l.0 ≡ n))

    of_known : (i : ℕ) (l : Label) → slice_get outs i ≡ Some l → (k : ℕ) (m : Mark) → slice_get marks k ≡ Some m → (subject m).0 ≡ l.0
        → way_at old l.0 ≡ way_of m → HasOwn l
    of_known i l at_i k (Mark.At q n) at_k same is = inr (k, q, n, at_k, same, of_old l.0 n is)
    of_known i l at_i k (Mark.Same q r) at_k same is = absurd (out_not_joined lined i k l q r at_i at_k same)

    of_out : (i : ℕ) (l : Label) → slice_get outs i ≡ Some l → HasOwn l
    of_out i l there =
        elim (ways.others l.0 (out_low lined i l there)) [
          | inl open_way ↦ inl (of_old l.0 (count + l.0) open_way)
          | inr known ↦ of_known i l there known.0 known.1 known.2 known.3 known.4
        ]

    one_label : (i j : ℕ) (l m : Label) → HasOwn l → HasOwn m → point_at table l.0 ≡ point_at table m.0 → l.0 ≡ m.0
    one_label i j l m own_l own_m same =
        elim own_l [
          | inl a ↦ elim own_m [
            | inl b ↦ omega arith
            | inr b ↦ let low = point_low lined b.0 b.1 b.2 b.3 in let is = b.5 in absurd (omega arith)
          ]
          | inr a ↦ elim own_m [
            | inl b ↦ let low = point_low lined a.0 a.1 a.2 a.3 in let is = a.5 in absurd (omega arith)
            | inr b ↦ let point : b.2 ≡ a.2 = sym b.5 ∙ sym same ∙ a.5 in
                let at_b : slice_get marks b.0 ≡ Some (Mark.At b.1 a.2) = b.3 ∙ ap (λ n. Some (Mark.At b.1 n)) point in
                let number : a.0 ≡ b.0 = point_once lined a.0 b.0 a.1 b.1 a.2 a.3 at_b in
                let mark : Mark.At a.1 a.2 ≡ Mark.At b.1 a.2 = same_Some _ _ (sym a.3 ∙ ap (λ k. slice_get marks k) number ∙ at_b) in
                let label : a.1 ≡ b.1 = cc mark in
                sym a.4 ∙ ap (λ (x : Label). x.0) label ∙ b.4
          ]
        ]

    -- are apart
    pub outs_apart : AreApart (point_at table) outs
    outs_apart i j l m at_i at_j same = out_once lined i j l m at_i at_j (one_label i j l m (of_out i l at_i) (of_out j m at_j) same)
