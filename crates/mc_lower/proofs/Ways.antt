-- Walks from label to label, and the points that they end at.
use Rattle.std.proofs.Common.{◌≡◌, ◌<◌, ◌≤◌, ◌+◌, ◌++◌, ◌⊎◌, ℕ, List, [], ◌∷◌, refl, sym, ap, ◌∙◌, subst, length, set}
use Rattle.std.proofs.Common.{arith, inl, inr}
use Rattle.std.proofs.lemmas.Bool.{cases_eq, cases_lt}
use Rattle.std.proofs.lemmas.List.{get_or-set_other, get_or-set_same, get_or_past, length-set}
use Rattle.std.proofs.lemmas.List.Elements.{Contains-append_left, Contains-push, Contains-push_cases}
use Rattle.std.specs.Prelude.{Contains}
use Rattle.mc_lower.specs.declared.builder.Label.{Label}
use Rattle.mc_lower.specs.declared.settling.Way.{Way}
use Rattle.mc_lower.specs.Settled.{AreNoneMet, HasPoint, IsEnd, IsFilled, Settles, Walks, way_at}

-- ---- the way of a label, where one has another way
-- what leads on or is met is there
on_there : (ways : List Way) (l : ℕ) (m : Label) → way_at ways l ≡ Way.On m → l < length ways
on_there ways l m is =
    elim (cases_lt l (length ways)) [
      | inl low ↦ low
      | inr past ↦ let point : way_at ways l ≡ Way.Point 0 = get_or_past ways l (Way.Point 0) past in absurd (cc (is, point))
    ]

met_there : (ways : List Way) (l : ℕ) → way_at ways l ≡ Way.Met → l < length ways
met_there ways l is =
    elim (cases_lt l (length ways)) [
      | inl low ↦ low
      | inr past ↦ let point : way_at ways l ≡ Way.Point 0 = get_or_past ways l (Way.Point 0) past in absurd (cc (is, point))
    ]

-- ---- a walk
pub walk_none : (ways : List Way) (path : List ℕ) (start : ℕ) → AreNoneMet ways → path ≡ [] → Walks ways ways path start start
walk_none ways path start none is =
    record {
      each = λ l. inl refl;
      only = λ l met. absurd (none l met);
      met = λ l within. let nothing : Contains [] l = subst (λ p. Contains p l) is within in absurd (omega (arith, nothing.1));
      first = inl refl;
      size = refl;
    }

module _ {old mid : List Way} {path : List ℕ} {start at : ℕ} (walk : Walks old mid path start at) where
  module _ (m : Label) (on : way_at mid at ≡ Way.On m) (new : List Way) (longer : List ℕ) (is_new : new ≡ set mid at Way.Met)
      (is_longer : longer ≡ path ++ at ∷ []) where
    met_now : way_at new at ≡ Way.Met
    met_now = ap (λ ws. way_at ws at) is_new ∙ get_or-set_same mid at Way.Met (Way.Point 0) (on_there mid at m on)

    same_now : (l : ℕ) → (l ≡ at → ⊥) → way_at new l ≡ way_at mid l
    same_now l other = ap (λ ws. way_at ws l) is_new ∙ get_or-set_other mid at l Way.Met (Way.Point 0) other

    met_still : (l : ℕ) → way_at mid l ≡ Way.Met → way_at new l ≡ Way.Met
    met_still l met = same_now l (λ same. let not_met : way_at mid at ≡ Way.Met = ap (λ k. way_at mid k) (sym same) ∙ met in cc (not_met, on)) ∙ met

    on_before : way_at old at ≡ Way.On m
    on_before =
        elim (walk.each at) [
          | inl same ↦ sym same ∙ on
          | inr step ↦ let met = step.2 in absurd (cc (met, on))
        ]

    each_now : (l : ℕ) → (way_at new l ≡ way_at old l)
        ⊎ ((k : Label) × (way_at old l ≡ Way.On k) × (way_at new l ≡ Way.Met) × ((k.0 ≡ m.0) ⊎ (way_at new k.0 ≡ Way.Met)))
    each_now l =
        elim (cases_eq l at) [
          | inl same ↦ inr (m, ap (λ k. way_at old k) same ∙ on_before, ap (λ k. way_at new k) same ∙ met_now, inl refl)
          | inr other ↦ elim (walk.each l) [
            | inl is ↦ inl (same_now l other ∙ is)
            | inr step ↦ inr (
              step.0,
              step.1,
              met_still l step.2,
              elim step.3 [
                | inl here ↦ inr (ap (λ k. way_at new k) here ∙ met_now)
                | inr met ↦ inr (met_still step.0.0 met)
              ],
            )
          ]
        ]

    pub walk_more : Walks old new longer start m.0
    walk_more =
        record {
          each = each_now;
          only = λ l met. subst (λ p. Contains p l) (sym is_longer)
              (elim (cases_eq l at) [
                | inl same ↦ subst (λ k. Contains (path ++ at ∷ []) k) (sym same) (Contains-push path at)
                | inr other ↦ Contains-append_left path (at ∷ []) l (walk.only l (sym (same_now l other) ∙ met))
              ]);
          met = λ l within.
              elim (Contains-push_cases path at l (subst (λ p. Contains p l) is_longer within)) [
                | inl before ↦ met_still l (walk.met l before)
                | inr same ↦ ap (λ k. way_at new k) (sym same) ∙ met_now
              ];
          first =
              elim walk.first [
                | inl same ↦ inr (ap (λ k. way_at new k) same ∙ met_now)
                | inr met ↦ inr (met_still start met)
              ];
          size = ap length is_new ∙ length-set mid at Way.Met ∙ walk.size;
        }

  -- ---- the labels that it has met get its point
  module _ (none : AreNoneMet old) (point : ℕ) (end : IsEnd (way_at mid at) point) (new : List Way) (filled : IsFilled mid new path point) where
    of_met : (l : ℕ) → way_at mid l ≡ Way.Met → way_at new l ≡ Way.Point point
    of_met l met = filled.there l (walk.only l met) (met_there mid l met)

    of_other : (l : ℕ) → (way_at mid l ≡ Way.Met → ⊥) → way_at new l ≡ way_at mid l
    of_other l other = filled.others l (λ within. other (walk.met l within))

    of_end : (w : Way) → way_at mid at ≡ w → IsEnd w point → way_at new at ≡ Way.Point point
    of_end (Way.On l) is ends = absurd ends
    of_end Way.Met is ends = of_met at is
    of_end (Way.Point n) is ends = of_other at (λ met. cc (met, is)) ∙ is ∙ ap (λ k. Way.Point k) ends

    ended : way_at new at ≡ Way.Point point
    ended = of_end (way_at mid at) refl end

    pub walk_settles : Settles old new
    walk_settles =
        record {
          each = λ l.
              elim (walk.each l) [
                | inl same ↦ inl (of_other l (λ met. none l (sym same ∙ met)) ∙ same)
                | inr step ↦ inr (
                  step.0,
                  point,
                  step.1,
                  of_met l step.2,
                  elim step.3 [
                    | inl here ↦ ap (λ k. way_at new k) here ∙ ended
                    | inr met ↦ of_met step.0.0 met
                  ],
                )
              ];
          size = filled.size ∙ walk.size;
        }

    pub walk_first : HasPoint new start
    walk_first =
        elim walk.first [
          | inl same ↦ (point, ap (λ k. way_at new k) same ∙ ended)
          | inr met ↦ (point, of_met start met)
        ]

-- ---- one walk after the other
pub settles_none : (ways : List Way) → Settles ways ways
settles_none ways = record { each = λ l. inl refl; size = refl }

-- a label that has its point keeps it
pub point_stays : {old new : List Way} → Settles old new → (l n : ℕ) → way_at old l ≡ Way.Point n → way_at new l ≡ Way.Point n
point_stays settles l n is =
    elim (settles.each l) [
      | inl same ↦ same ∙ is
      | inr step ↦ let on = step.2 in absurd (cc (on, is))
    ]

pub none_met_still : {old new : List Way} → Settles old new → AreNoneMet old → AreNoneMet new
none_met_still settles none l met =
    elim (settles.each l) [
      | inl same ↦ none l (sym same ∙ met)
      | inr step ↦ let point = step.3 in cc (point, met)
    ]

pub settles_more : {old mid new : List Way} → Settles old mid → Settles mid new → Settles old new
settles_more before after =
    record {
      each = λ l.
          elim (after.each l) [
            | inl same ↦ elim (before.each l) [
              | inl is ↦ inl (same ∙ is)
              | inr step ↦ inr (step.0, step.1, step.2, same ∙ step.3, point_stays after step.0.0 step.1 step.4)
            ]
            | inr step ↦ elim (before.each l) [
              | inl is ↦ inr (step.0, step.1, sym is ∙ step.2, step.3, step.4)
              | inr earlier ↦ let point = earlier.3 in let on = step.2 in absurd (cc (point, on))
            ]
          ];
      size = after.size ∙ before.size;
    }

-- ---- all labels, one after the other
pub points_more : {old new : List Way} → Settles old new → (n : ℕ) → ((k : ℕ) → k < n → HasPoint old k) → HasPoint new n → (k : ℕ) → k < n + 1
    → HasPoint new k
points_more {old} {new} settles n before now k low =
    elim (cases_lt k n) [
      | inl earlier ↦ let point = before k earlier in (point.0, point_stays settles k point.0 point.1)
      | inr last ↦ let same : n ≡ k = omega arith in subst (λ l. HasPoint new l) same now
    ]

pub points_all : (ways : List Way) (n : ℕ) → length ways ≤ n → ((k : ℕ) → k < n → HasPoint ways k) → (l : ℕ) → HasPoint ways l
points_all ways n past points l =
    elim (cases_lt l n) [
      | inl low ↦ points l low
      | inr high ↦ (0, get_or_past ways l (Way.Point 0) (omega arith))
    ]
