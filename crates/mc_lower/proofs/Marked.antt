-- What is known of labels that hold together: each is known once, has one point, and where a `return` goes is never joined.
use Rattle.std.proofs.Common.{◌≡◌, ◌<◌, ◌≤◌, ◌+◌, ◌⊎◌, ℕ, zero, suc, List, [], ◌∷◌, Option, Some, None, refl, sym, ap, ◌∙◌, subst}
use Rattle.std.proofs.Common.{length, map, set, cond, arith, inl, inr}
use Rattle.std.proofs.lemmas.Bool.{cases_eq, cases_lt, cases_order, eq-eqb}
use Rattle.std.proofs.lemmas.List.{get_or-set_other, get_or-set_same, length-set}
use Rattle.std.proofs.lemmas.Option.{same_Some, slice_get_within}
use Rattle.std.specs.List.{cons_option}
use Rattle.std.specs.Prelude.{filter_map, slice_get}
use Rattle.mc_lower.specs.declared.builder.Label.{Label}
use Rattle.mc_lower.specs.declared.builder.Mark.{Mark}
use Rattle.mc_lower.specs.declared.lines.Awaited.{Awaited}
use Rattle.mc_lower.specs.declared.settling.Way.{Way}
use Rattle.mc_lower.specs.Lines.{AreLined, joined, joined_or_out, known_point, subject, used}
use Rattle.mc_lower.specs.Settled.{AreOpen, AreWays, way_at, way_of}
use Rattle.mc_lower.proofs.Lined.{apart_times, joins, marked, one, outs_at, points_at, times, times-cons, used_times}

-- ---- items whose number is there once at most
abbrev one_of : Option ℕ → ℕ → ℕ
one_of None n = 0
one_of (Some m) n = one m n

option_times : (n : ℕ) (o : Option ℕ) (ns : List ℕ) → times n (cons_option o ns) ≡ one_of o n + times n ns
option_times n None ns = omega arith
option_times n (Some m) ns = times-cons n m ns

one_here : (n : ℕ) (o : Option ℕ) → o ≡ Some n → one_of o n ≡ 1
one_here n o is = ap (λ p. one_of p n) is ∙ ap (λ b. cond b 1 0) (eq-eqb n n refl)

module _ {A : Type 0} (h : A → Option ℕ) (n : ℕ) where
  here : (xs : List A) (i : ℕ) (x : A) → slice_get xs i ≡ Some x → h x ≡ Some n → 1 ≤ times n (filter_map h xs)
  here [] i x there is = absurd (cc there)
  here (y ∷ ys) zero x there is =
      let a = option_times n (h y) (filter_map h ys) in
      let b : one_of (h y) n ≡ 1 = one_here n (h y) (ap h (same_Some y x there) ∙ is) in omega arith
  here (y ∷ ys) (suc i) x there is = let a = option_times n (h y) (filter_map h ys) in let b = here ys i x there is in omega arith

  twice : (xs : List A) (i j : ℕ) (x y : A) → i < j → slice_get xs i ≡ Some x → slice_get xs j ≡ Some y → h x ≡ Some n → h y ≡ Some n
      → 2 ≤ times n (filter_map h xs)
  twice [] i j x y less at_i at_j is_x is_y = absurd (cc at_i)
  twice (z ∷ zs) i zero x y less at_i at_j is_x is_y = absurd (omega arith)
  twice (z ∷ zs) zero (suc j) x y less at_i at_j is_x is_y =
      let a = option_times n (h z) (filter_map h zs) in
      let b : one_of (h z) n ≡ 1 = one_here n (h z) (ap h (same_Some z x at_i) ∙ is_x) in let c = here zs j y at_j is_y in omega arith
  twice (z ∷ zs) (suc i) (suc j) x y less at_i at_j is_x is_y =
      let a = option_times n (h z) (filter_map h zs) in let b = twice zs i j x y (omega arith) at_i at_j is_x is_y in omega arith

  single : (xs : List A) → times n (filter_map h xs) ≤ 1 → (i j : ℕ) (x y : A) → slice_get xs i ≡ Some x → slice_get xs j ≡ Some y → h x ≡ Some n
      → h y ≡ Some n → i ≡ j
  single xs once i j x y at_i at_j is_x is_y =
      elim (cases_order i j) [
        | inl same ↦ same
        | inr differ ↦ elim differ [
          | inl less ↦ let two = twice xs i j x y less at_i at_j is_x is_y in absurd (omega arith)
          | inr more ↦ let two = twice xs j i y x more at_j at_i is_y is_x in absurd (omega arith)
        ]
      ]

-- a map is a filter that keeps all
all_kept : {A : Type 0} (f : A → ℕ) (xs : List A) → map f xs ≡ filter_map (λ x. Some (f x)) xs
all_kept f [] = refl
all_kept f (x ∷ xs) = ap (λ ns. f x ∷ ns) (all_kept f xs)

here_map : {A : Type 0} (f : A → ℕ) (xs : List A) (i : ℕ) (x : A) → slice_get xs i ≡ Some x → 1 ≤ times (f x) (map f xs)
here_map f xs i x there = subst (λ ns. 1 ≤ times (f x) ns) (sym (all_kept f xs)) (here (λ y. Some (f y)) (f x) xs i x there refl)

single_map : {A : Type 0} (f : A → ℕ) (xs : List A) (i j : ℕ) (x y : A) → times (f x) (map f xs) ≤ 1 → slice_get xs i ≡ Some x → slice_get xs j ≡ Some y
    → f x ≡ f y → i ≡ j
single_map f xs i j x y once at_i at_j same =
    single (λ z. Some (f z)) (f x) xs (subst (λ ns. times (f x) ns ≤ 1) (all_kept f xs) once) i j x y at_i at_j refl (ap (λ n. Some n) (sym same))

-- ---- the ways of labels, of which the first n marks are known
pub record WaysTo (count labels : ℕ) (marks : List Mark) (n : ℕ) (ways : List Way) : Type 0 where
  pub marked : (k : ℕ) (m : Mark) → k < n → slice_get marks k ≡ Some m → way_at ways (subject m).0 ≡ way_of m
  pub others : (l : ℕ) → l < labels → (way_at ways l ≡ Way.Point (count + l))
      ⊎ ((k : ℕ) × (m : Mark) × (slice_get marks k ≡ Some m) × ((subject m).0 ≡ l) × (way_at ways l ≡ way_of m))
  pub size : length ways ≡ labels

pub ways_none : {count labels : ℕ} {ways : List Way} (marks : List Mark) → AreOpen count labels ways → WaysTo count labels marks 0 ways
ways_none marks open_ways =
    record {
      marked = λ k m low there. absurd (omega arith);
      others = λ l low. inl (open_ways.points l low);
      size = open_ways.size;
    }

pub ways_all : {count labels n : ℕ} {ways : List Way} {marks : List Mark} → length marks ≤ n → WaysTo count labels marks n ways
    → AreWays count labels marks ways
ways_all {marks = marks} past so_far =
    record {
      marked = λ k m there. let low = slice_get_within marks k m there in so_far.marked k m (omega arith) there;
      others = so_far.others;
      size = so_far.size;
    }

-- ---- labels that hold together
module _ {count : ℕ} {marks : List Mark} {outs : List Label} {waiting : List Awaited} {labels : ℕ} {goal : Label}
    (lined : AreLined count marks outs waiting labels goal) where
  marked_once : (n : ℕ) → marked n marks ≤ 1
  marked_once n = let a = used_times marks outs waiting goal n in let b : times n (used marks outs waiting goal) ≤ 1 = lined.used.once n in omega arith

  -- what is known of a label is known once
  pub known_once : (i j : ℕ) (m p : Mark) → slice_get marks i ≡ Some m → slice_get marks j ≡ Some p → (subject m).0 ≡ (subject p).0 → i ≡ j
  known_once i j m p at_i at_j same = single_map (λ x. (subject x).0) marks i j m p (marked_once (subject m).0) at_i at_j same

  pub known_low : (i : ℕ) (m : Mark) → slice_get marks i ≡ Some m → (subject m).0 < labels
  known_low i m there =
      elim (cases_lt (subject m).0 labels) [
        | inl low ↦ low
        | inr high ↦ let n : ℕ = (subject m).0 in let a = used_times marks outs waiting goal n in
            let b : times n (used marks outs waiting goal) ≡ 0 = lined.used.below n high in
            let c : 1 ≤ marked n marks = here_map (λ x. (subject x).0) marks i m there in absurd (omega arith)
      ]

  -- labels where a `return` goes
  apart_once : (n : ℕ) → joins n marks + outs_at n outs ≤ 1
  apart_once n =
      let a = apart_times marks outs waiting goal n in let b : times n (joined_or_out marks outs waiting goal) ≤ 1 = lined.apart.once n in omega arith

  pub out_once : (i j : ℕ) (l m : Label) → slice_get outs i ≡ Some l → slice_get outs j ≡ Some m → l.0 ≡ m.0 → i ≡ j
  out_once i j l m at_i at_j same =
      let a = apart_once l.0 in let b : outs_at l.0 outs ≤ 1 = omega arith in single_map (λ x. x.0) outs i j l m b at_i at_j same

  pub out_low : (i : ℕ) (l : Label) → slice_get outs i ≡ Some l → l.0 < labels
  out_low i l there =
      elim (cases_lt l.0 labels) [
        | inl low ↦ low
        | inr high ↦ let a = apart_times marks outs waiting goal l.0 in
            let b : times l.0 (joined_or_out marks outs waiting goal) ≡ 0 = lined.apart.below l.0 high in
            let c : 1 ≤ outs_at l.0 outs = here_map (λ x. x.0) outs i l there in absurd (omega arith)
      ]

  pub out_not_joined : (i k : ℕ) (l q r : Label) → slice_get outs i ≡ Some l → slice_get marks k ≡ Some (Mark.Same q r) → q.0 ≡ l.0 → ⊥
  out_not_joined i k l q r at_i at_k same =
      let a = apart_once l.0 in let b : 1 ≤ outs_at l.0 outs = here_map (λ x. x.0) outs i l at_i in
      let c : 1 ≤ joins l.0 marks = here joined l.0 marks k (Mark.Same q r) at_k (ap (λ n. Some n) same) in omega arith

  -- points that are known
  pub point_once : (i j : ℕ) (l m : Label) (n : ℕ) → slice_get marks i ≡ Some (Mark.At l n) → slice_get marks j ≡ Some (Mark.At m n) → i ≡ j
  point_once i j l m n at_i at_j = single known_point n marks (lined.points.once n) i j (Mark.At l n) (Mark.At m n) at_i at_j refl refl

  pub point_low : (i : ℕ) (l : Label) (n : ℕ) → slice_get marks i ≡ Some (Mark.At l n) → n < count
  point_low i l n there =
      elim (cases_lt n count) [
        | inl low ↦ low
        | inr high ↦ let a : points_at n marks ≡ 0 = lined.points.below n high in
            let b : 1 ≤ points_at n marks = here known_point n marks i (Mark.At l n) there refl in absurd (omega arith)
      ]

  -- a mark more
  module _ (n : ℕ) (ways new : List Way) (mark : Mark) (there : slice_get marks n ≡ Some mark)
      (is_new : new ≡ set ways (subject mark).0 (way_of mark)) (so_far : WaysTo count labels marks n ways) where
    here_now : (l : ℕ) → l ≡ (subject mark).0 → way_at new l ≡ way_of mark
    here_now l is =
        let low = known_low n mark there in let size = so_far.size in
        ap (λ ws. way_at ws l) is_new ∙ ap (λ k. way_at (set ways (subject mark).0 (way_of mark)) k) is
        ∙ get_or-set_same ways (subject mark).0 (way_of mark) (Way.Point 0) (omega arith)

    other_now : (l : ℕ) → (l ≡ (subject mark).0 → ⊥) → way_at new l ≡ way_at ways l
    other_now l other = ap (λ ws. way_at ws l) is_new ∙ get_or-set_other ways (subject mark).0 l (way_of mark) (Way.Point 0) other

    pub ways_more : WaysTo count labels marks (n + 1) new
    ways_more =
        record {
          marked = λ k m low at_k.
              elim (cases_lt k n) [
                | inl before ↦ other_now (subject m).0 (λ same. let twice : k ≡ n = known_once k n m mark at_k there same in absurd (omega arith))
                    ∙ so_far.marked k m before at_k
                | inr past ↦ let last : k ≡ n = omega arith in
                    let one : mark ≡ m = same_Some mark m (sym there ∙ ap (λ i. slice_get marks i) (sym last) ∙ at_k) in
                    here_now (subject m).0 (ap (λ x. (subject x).0) (sym one)) ∙ ap way_of one
              ];
          others = λ l low.
              elim (cases_eq l (subject mark).0) [
                | inl same ↦ inr (n, mark, there, sym same, here_now l same)
                | inr other ↦ elim (so_far.others l low) [
                  | inl open_way ↦ inl (other_now l other ∙ open_way)
                  | inr known ↦ inr (known.0, known.1, known.2, known.3, other_now l other ∙ known.4)
                ]
              ];
          size = ap length is_new ∙ length-set ways (subject mark).0 (way_of mark) ∙ so_far.size;
        }
