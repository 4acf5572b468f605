-- Points, marks and labels that wait, one more or one less of them.
use Rattle.std.proofs.Common.{◌≡◌, ◌<◌, ◌≤◌, ◌+◌, ◌++◌, ℕ, zero, suc, List, [], ◌∷◌, Some, refl, sym, ap, ◌∙◌, subst, length, map, cond, add-zero, arith, inl, inr, true, false, Option, None, Result, Ok, Err}
use Rattle.std.proofs.lemmas.Bool.{cases_eq, ne_eqb}
use Rattle.std.proofs.lemmas.List.{get_or_append_left, get_or_push, length_push, map_push}
use Rattle.std.proofs.lemmas.List.Elements.{filter_map-append}
use Rattle.std.proofs.lemmas.List.Sums.{sum_by-append, sum_by-cons, sum_by_push}
use Rattle.std.proofs.lemmas.Option.{same_Some}
use Rattle.std.specs.Prelude.{MatchOption, OnErr, OnOk, ◌==◌, count_by, filter_map, slice_get}
use Rattle.mc_lower.specs.declared.builder.Label.{Label}
use Rattle.mc_lower.specs.declared.builder.Mark.{Mark}
use Rattle.mc_lower.specs.declared.lines.Awaited.{Awaited}
use Rattle.mc_lower.specs.Lines.{AreFew, AreLined, awaited_goal, joined, joined_or_out, known_point, label_of, subject, used}

-- ---- how often a number is there
abbrev pub times : ℕ → List ℕ → ℕ
times n xs = count_by (λ m. m == n) xs

abbrev pub one : ℕ → ℕ → ℕ
one m n = cond (m == n) 1 0

pub times-append : (n : ℕ) (xs ys : List ℕ) → times n (xs ++ ys) ≡ times n xs + times n ys
times-append n xs ys = sum_by-append (λ m. one m n) xs ys

pub times-cons : (n x : ℕ) (xs : List ℕ) → times n (x ∷ xs) ≡ one x n + times n xs
times-cons n x xs = sum_by-cons (λ m. one m n) x xs

pub times_push : (n : ℕ) (xs : List ℕ) (x : ℕ) → times n (xs ++ x ∷ []) ≡ times n xs + one x n
times_push n xs x = sum_by_push (λ m. one m n) xs x

one_other : (m n : ℕ) → (m ≡ n → ⊥) → one m n ≡ 0
one_other m n other = ap (λ b. cond b 1 0) (ne_eqb m n other)

one_small : (m n : ℕ) → one m n ≤ 1
one_small m n = elim (m == n) as (λ b. cond b 1 0 ≤ 1) [ true ↦ omega arith | false ↦ omega arith ]

-- ---- few numbers stay few
pub few_less : (old new : List ℕ) (bound : ℕ) → ((n : ℕ) → times n new ≤ times n old) → AreFew old bound → AreFew new bound
few_less old new bound less few =
    record {
      once = λ n. let a : times n new ≤ times n old = less n in let b : times n old ≤ 1 = few.once n in omega arith;
      below = λ n high. let a : times n new ≤ times n old = less n in let b : times n old ≡ 0 = few.below n high in omega arith;
    }

pub few_more : (old new : List ℕ) (bound after : ℕ) → after ≡ bound + 1 → ((n : ℕ) → times n new ≤ times n old + one bound n)
    → AreFew old bound → AreFew new after
few_more old new bound after is more few =
    record {
      once = λ n. let a : times n new ≤ times n old + one bound n = more n in
          elim (cases_eq bound n) [
            | inl same ↦ let b : times n old ≡ 0 = few.below n (omega arith) in let c : one bound n ≤ 1 = one_small bound n in omega arith
            | inr other ↦ let b : times n old ≤ 1 = few.once n in let c : one bound n ≡ 0 = one_other bound n other in omega arith
          ];
      below = λ n high. let a : times n new ≤ times n old + one bound n = more n in
          let b : times n old ≡ 0 = few.below n (omega arith) in
          let c : one bound n ≡ 0 = one_other bound n (λ same. absurd (omega arith)) in omega arith;
    }

pub few_within : (ns : List ℕ) (bound more : ℕ) → bound ≤ more → AreFew ns bound → AreFew ns more
few_within ns bound more wider few = record { once = few.once; below = λ n high. few.below n (omega arith) }

-- ---- how often a label is used
abbrev pub marked : ℕ → List Mark → ℕ
marked n marks = times n (map (λ m. (subject m).0) marks)

abbrev pub awaited : ℕ → List Label → List Awaited → ℕ
awaited n outs waiting = times n (map (λ a. (label_of outs a).0) waiting)

abbrev pub joins : ℕ → List Mark → ℕ
joins n marks = times n (filter_map joined marks)

abbrev pub goals : ℕ → List Awaited → ℕ
goals n waiting = times n (filter_map awaited_goal waiting)

abbrev pub outs_at : ℕ → List Label → ℕ
outs_at n outs = times n (map (λ l. l.0) outs)

abbrev pub points_at : ℕ → List Mark → ℕ
points_at n marks = times n (filter_map known_point marks)

pub used_times : (marks : List Mark) (outs : List Label) (waiting : List Awaited) (goal : Label) (n : ℕ)
    → times n (used marks outs waiting goal) ≡ marked n marks + (one goal.0 n + awaited n outs waiting)
used_times marks outs waiting goal n =
    times-append n (map (λ m. (subject m).0) marks) (goal.0 ∷ map (λ a. (label_of outs a).0) waiting)
    ∙ ap (λ k. marked n marks + k) (times-cons n goal.0 (map (λ a. (label_of outs a).0) waiting))

pub apart_times : (marks : List Mark) (outs : List Label) (waiting : List Awaited) (goal : Label) (n : ℕ)
    → times n (joined_or_out marks outs waiting goal) ≡ (joins n marks + (one goal.0 n + goals n waiting)) + outs_at n outs
apart_times marks outs waiting goal n =
    times-append n (filter_map joined marks ++ goal.0 ∷ filter_map awaited_goal waiting) (map (λ l. l.0) outs)
    ∙ ap (λ k. k + outs_at n outs) (times-append n (filter_map joined marks) (goal.0 ∷ filter_map awaited_goal waiting)
    ∙ ap (λ k. joins n marks + k) (times-cons n goal.0 (filter_map awaited_goal waiting)))

marked_push : (n : ℕ) (marks : List Mark) (m : Mark) → marked n (marks ++ m ∷ []) ≡ marked n marks + one (subject m).0 n
marked_push n marks m = ap (λ ns. times n ns) (map_push (λ x. (subject x).0) marks m) ∙ times_push n (map (λ x. (subject x).0) marks) (subject m).0

joins_push_at : (n : ℕ) (marks : List Mark) (l : Label) (p : ℕ) → joins n (marks ++ Mark.At l p ∷ []) ≡ joins n marks
joins_push_at n marks l p = ap (λ ns. times n ns) (filter_map-append joined marks (Mark.At l p ∷ [])) ∙ times-append n (filter_map joined marks) [] ∙ add-zero (joins n marks)

joins_push_same : (n : ℕ) (marks : List Mark) (l m : Label) → joins n (marks ++ Mark.Same l m ∷ []) ≡ joins n marks + one l.0 n
joins_push_same n marks l m = ap (λ ns. times n ns) (filter_map-append joined marks (Mark.Same l m ∷ [])) ∙ times_push n (filter_map joined marks) l.0

points_push_at : (n : ℕ) (marks : List Mark) (l : Label) (p : ℕ) → points_at n (marks ++ Mark.At l p ∷ []) ≡ points_at n marks + one p n
points_push_at n marks l p = ap (λ ns. times n ns) (filter_map-append known_point marks (Mark.At l p ∷ [])) ∙ times_push n (filter_map known_point marks) p

points_push_same : (n : ℕ) (marks : List Mark) (l m : Label) → points_at n (marks ++ Mark.Same l m ∷ []) ≡ points_at n marks
points_push_same n marks l m =
    ap (λ ns. times n ns) (filter_map-append known_point marks (Mark.Same l m ∷ [])) ∙ times-append n (filter_map known_point marks) [] ∙ add-zero (points_at n marks)

outs_push : (n : ℕ) (outs : List Label) (l : Label) → outs_at n (outs ++ l ∷ []) ≡ outs_at n outs + one l.0 n
outs_push n outs l = ap (λ ns. times n ns) (map_push (λ (x : Label). x.0) outs l) ∙ times_push n (map (λ (x : Label). x.0) outs) l.0

awaited_goal_times : (n : ℕ) (l : Label) (rest : List Awaited) → goals n (Awaited.Goal l ∷ rest) ≡ one l.0 n + goals n rest
awaited_goal_times n l rest = times-cons n l.0 (filter_map awaited_goal rest)

-- where one more waits, no fewer goals wait
goals_rest : (n : ℕ) (a : Awaited) (rest : List Awaited) → goals n rest ≤ goals n (a ∷ rest)
goals_rest n (Awaited.Goal l) rest = let a = awaited_goal_times n l rest in omega arith
goals_rest n (Awaited.Out i) rest = omega arith

-- labels that wait are the same with a `return` more
kept_labels : (outs : List Label) (l : Label) (waiting : List Awaited) → ((k i : ℕ) → slice_get waiting k ≡ Some (Awaited.Out i) → i < length outs)
    → map (λ a. (label_of (outs ++ l ∷ []) a).0) waiting ≡ map (λ a. (label_of outs a).0) waiting
kept_labels outs l [] there = refl
kept_labels outs l (Awaited.Goal m ∷ rest) there = ap (λ ns. m.0 ∷ ns) (kept_labels outs l rest (λ k i is. there (suc k) i is))
kept_labels outs l (Awaited.Out j ∷ rest) there =
    ap (λ (x : Label). x.0 ∷ map (λ a. (label_of (outs ++ l ∷ []) a).0) rest) (get_or_append_left outs (l ∷ []) (record { 0 = 0 }) j (there 0 j refl))
    ∙ ap (λ ns. (label_of outs (Awaited.Out j)).0 ∷ ns) (kept_labels outs l rest (λ k i is. there (suc k) i is))

-- ---- what holds together still does, where a point, a mark or a label is new
module _ {count : ℕ} {marks : List Mark} {outs : List Label} {waiting : List Awaited} {labels : ℕ} {goal : Label}
    (lined : AreLined count marks outs waiting labels goal) where
  -- points more
  pub lined_points : (points : ℕ) → count ≤ points → AreLined points marks outs waiting labels goal
  lined_points points more =
      record {
        used = lined.used;
        apart = lined.apart;
        points = few_within (filter_map known_point marks) count points more lined.points;
        there = lined.there;
      }

  -- the first that waits does no more
  pub lined_rest : (a : Awaited) (rest : List Awaited) → waiting ≡ a ∷ rest → AreLined count marks outs rest labels goal
  lined_rest a rest is =
      record {
        used = few_less (used marks outs waiting goal) (used marks outs rest goal) labels
            (λ n. let b = used_times marks outs waiting goal n in let c = used_times marks outs rest goal n in
            let d : awaited n outs waiting ≡ awaited n outs (a ∷ rest) = ap (λ w. awaited n outs w) is in
            let e = times-cons n (label_of outs a).0 (map (λ x. (label_of outs x).0) rest) in omega arith)
            lined.used;
        apart = few_less (joined_or_out marks outs waiting goal) (joined_or_out marks outs rest goal) labels
            (λ n. let b = apart_times marks outs waiting goal n in let c = apart_times marks outs rest goal n in
            let d : goals n waiting ≡ goals n (a ∷ rest) = ap (λ w. goals n w) is in
            let e = goals_rest n a rest in omega arith)
            lined.apart;
        points = lined.points;
        there = λ k i here. lined.there (suc k) i (ap (λ w. slice_get w (suc k)) is ∙ here);
      }

  -- what pops does no more
  pub lined_pop : (result : Option Awaited) (rest : List Awaited) → MatchOption result ((waiting ≡ []) × (rest ≡ [])) (λ a. waiting ≡ a ∷ rest)
      → AreLined count marks outs rest labels goal
  lined_pop None rest none = subst (λ w. AreLined count marks outs w labels goal) (none.0 ∙ sym none.1) lined
  lined_pop (Some a) rest is = lined_rest a rest is

  -- the goal has the point that is new
  module _ (points at : ℕ) (more : List Mark) (has_points : points ≡ count + 1) (is_at : at ≡ count) (has_marks : more ≡ marks ++ Mark.At goal at ∷ []) where
    marked_put : (n : ℕ) → marked n more ≡ marked n marks + one goal.0 n
    marked_put n = ap (λ ms. marked n ms) has_marks ∙ marked_push n marks (Mark.At goal at)

    joins_put : (n : ℕ) → joins n more ≡ joins n marks
    joins_put n = ap (λ ms. joins n ms) has_marks ∙ joins_push_at n marks goal at

    points_put : AreFew (filter_map known_point more) points
    points_put = few_more (filter_map known_point marks) (filter_map known_point more) count points has_points
        (λ n. let c : points_at n more ≡ points_at n marks + one count n =
        ap (λ ms. points_at n ms) has_marks ∙ points_push_at n marks goal at ∙ ap (λ k. points_at n marks + one k n) is_at in omega arith)
        lined.points

    -- and is a new label then
    pub lined_put : (total : ℕ) (next : Label) → total ≡ labels + 1 → next.0 ≡ labels → AreLined points more outs waiting total next
    lined_put total next has_labels is_next =
        record {
          used = few_more (used marks outs waiting goal) (used more outs waiting next) labels total has_labels
              (λ n. let a = used_times marks outs waiting goal n in let b = used_times more outs waiting next n in
              let c = marked_put n in let d : one next.0 n ≡ one labels n = ap (λ k. one k n) is_next in omega arith)
              lined.used;
          apart = few_more (joined_or_out marks outs waiting goal) (joined_or_out more outs waiting next) labels total has_labels
              (λ n. let a = apart_times marks outs waiting goal n in let b = apart_times more outs waiting next n in
              let c = joins_put n in let d : one next.0 n ≡ one labels n = ap (λ k. one k n) is_next in omega arith)
              lined.apart;
          points = points_put;
          there = lined.there;
        }

    -- and is the label that waited first then
    pub lined_put_last : (next : Label) (rest : List Awaited) → waiting ≡ Awaited.Goal next ∷ rest → AreLined points more outs rest labels next
    lined_put_last next rest is =
        record {
          used = few_less (used marks outs waiting goal) (used more outs rest next) labels
              (λ n. let a = used_times marks outs waiting goal n in let b = used_times more outs rest next n in
              let c = marked_put n in let d : awaited n outs waiting ≡ awaited n outs (Awaited.Goal next ∷ rest) = ap (λ w. awaited n outs w) is in
              let e = times-cons n next.0 (map (λ x. (label_of outs x).0) rest) in omega arith)
              lined.used;
          apart = few_less (joined_or_out marks outs waiting goal) (joined_or_out more outs rest next) labels
              (λ n. let a = apart_times marks outs waiting goal n in let b = apart_times more outs rest next n in
              let c = joins_put n in let d : goals n waiting ≡ goals n (Awaited.Goal next ∷ rest) = ap (λ w. goals n w) is in
              let e = awaited_goal_times n next rest in omega arith)
              lined.apart;
          points = points_put;
          there = (lined_rest (Awaited.Goal next) rest is).there;
        }

  -- the goal is the point of another label
  module _ (label : Label) (more : List Mark) (has_marks : more ≡ marks ++ Mark.Same goal label ∷ []) where
    marked_go : (n : ℕ) → marked n more ≡ marked n marks + one goal.0 n
    marked_go n = ap (λ ms. marked n ms) has_marks ∙ marked_push n marks (Mark.Same goal label)

    joins_go : (n : ℕ) → joins n more ≡ joins n marks + one goal.0 n
    joins_go n = ap (λ ms. joins n ms) has_marks ∙ joins_push_same n marks goal label

    points_go : AreFew (filter_map known_point more) count
    points_go = few_less (filter_map known_point marks) (filter_map known_point more) count
        (λ n. let c : points_at n more ≡ points_at n marks = ap (λ ms. points_at n ms) has_marks ∙ points_push_same n marks goal label in omega arith)
        lined.points

    -- and is a new label then
    pub lined_go : (total : ℕ) (next : Label) → total ≡ labels + 1 → next.0 ≡ labels → AreLined count more outs waiting total next
    lined_go total next has_labels is_next =
        record {
          used = few_more (used marks outs waiting goal) (used more outs waiting next) labels total has_labels
              (λ n. let a = used_times marks outs waiting goal n in let b = used_times more outs waiting next n in
              let c = marked_go n in let d : one next.0 n ≡ one labels n = ap (λ k. one k n) is_next in omega arith)
              lined.used;
          apart = few_more (joined_or_out marks outs waiting goal) (joined_or_out more outs waiting next) labels total has_labels
              (λ n. let a = apart_times marks outs waiting goal n in let b = apart_times more outs waiting next n in
              let c = joins_go n in let d : one next.0 n ≡ one labels n = ap (λ k. one k n) is_next in omega arith)
              lined.apart;
          points = points_go;
          there = lined.there;
        }

    -- and is the label that waited first then
    pub lined_go_last : (next : Label) (rest : List Awaited) → waiting ≡ Awaited.Goal next ∷ rest → AreLined count more outs rest labels next
    lined_go_last next rest is =
        record {
          used = few_less (used marks outs waiting goal) (used more outs rest next) labels
              (λ n. let a = used_times marks outs waiting goal n in let b = used_times more outs rest next n in
              let c = marked_go n in let d : awaited n outs waiting ≡ awaited n outs (Awaited.Goal next ∷ rest) = ap (λ w. awaited n outs w) is in
              let e = times-cons n next.0 (map (λ x. (label_of outs x).0) rest) in omega arith)
              lined.used;
          apart = few_less (joined_or_out marks outs waiting goal) (joined_or_out more outs rest next) labels
              (λ n. let a = apart_times marks outs waiting goal n in let b = apart_times more outs rest next n in
              let c = joins_go n in let d : goals n waiting ≡ goals n (Awaited.Goal next ∷ rest) = ap (λ w. goals n w) is in
              let e = awaited_goal_times n next rest in omega arith)
              lined.apart;
          points = points_go;
          there = (lined_rest (Awaited.Goal next) rest is).there;
        }

    -- and is a new label then, and the other label, which waited first, has the point that is new
    pub lined_land : (a : Awaited) (rest : List Awaited) (points at : ℕ) (all : List Mark) (total : ℕ) (next : Label) → waiting ≡ a ∷ rest
        → label ≡ label_of outs a → points ≡ count + 1 → at ≡ count → all ≡ more ++ Mark.At label at ∷ [] → total ≡ labels + 1 → next.0 ≡ labels
        → AreLined points all outs rest total next
    lined_land a rest points at all total next is is_label has_points is_at has_all has_labels is_next =
        record {
          used = few_more (used marks outs waiting goal) (used all outs rest next) labels total has_labels
              (λ n. let b = used_times marks outs waiting goal n in let c = used_times all outs rest next n in
              let d = marked_go n in
              let e : marked n all ≡ marked n more + one (label_of outs a).0 n =
              ap (λ ms. marked n ms) has_all ∙ marked_push n more (Mark.At label at) ∙ ap (λ (l : Label). marked n more + one l.0 n) is_label in
              let f : one next.0 n ≡ one labels n = ap (λ k. one k n) is_next in
              let g : awaited n outs waiting ≡ awaited n outs (a ∷ rest) = ap (λ w. awaited n outs w) is in
              let h = times-cons n (label_of outs a).0 (map (λ x. (label_of outs x).0) rest) in omega arith)
              lined.used;
          apart = few_more (joined_or_out marks outs waiting goal) (joined_or_out all outs rest next) labels total has_labels
              (λ n. let b = apart_times marks outs waiting goal n in let c = apart_times all outs rest next n in
              let d = joins_go n in
              let e : joins n all ≡ joins n more = ap (λ ms. joins n ms) has_all ∙ joins_push_at n more label at in
              let f : one next.0 n ≡ one labels n = ap (λ k. one k n) is_next in
              let g : goals n waiting ≡ goals n (a ∷ rest) = ap (λ w. goals n w) is in
              let h = goals_rest n a rest in omega arith)
              lined.apart;
          points = few_more (filter_map known_point more) (filter_map known_point all) count points has_points
              (λ n. let c : points_at n all ≡ points_at n more + one count n =
              ap (λ ms. points_at n ms) has_all ∙ points_push_at n more label at ∙ ap (λ k. points_at n more + one k n) is_at in omega arith)
              points_go;
          there = (lined_rest a rest is).there;
        }

  -- a label more
  module _ (total : ℕ) (has_labels : total ≡ labels + 1) (next : Label) (is_next : next.0 ≡ labels) where
    -- which waits first, or nothing waits any more
    lined_wait_ok : (waits : List Awaited) → waits ≡ Awaited.Goal next ∷ waiting → AreLined count marks outs waits total goal
    lined_wait_ok waits is =
        record {
          used = few_more (used marks outs waiting goal) (used marks outs waits goal) labels total has_labels
              (λ n. let b = used_times marks outs waiting goal n in let c = used_times marks outs waits goal n in
              let d : one next.0 n ≡ one labels n = ap (λ k. one k n) is_next in
              let e : awaited n outs waits ≡ awaited n outs (Awaited.Goal next ∷ waiting) = ap (λ w. awaited n outs w) is in
              let f = times-cons n next.0 (map (λ x. (label_of outs x).0) waiting) in omega arith)
              lined.used;
          apart = few_more (joined_or_out marks outs waiting goal) (joined_or_out marks outs waits goal) labels total has_labels
              (λ n. let b = apart_times marks outs waiting goal n in let c = apart_times marks outs waits goal n in
              let d : one next.0 n ≡ one labels n = ap (λ k. one k n) is_next in
              let e : goals n waits ≡ goals n (Awaited.Goal next ∷ waiting) = ap (λ w. goals n w) is in
              let f = awaited_goal_times n next waiting in omega arith)
              lined.apart;
          points = lined.points;
          there = λ k i here. waited k i (ap (λ w. slice_get w k) (sym is) ∙ here);
        }
      where
        waited : (k i : ℕ) → slice_get (Awaited.Goal next ∷ waiting) k ≡ Some (Awaited.Out i) → i < length outs
        waited zero i here = let never : Awaited.Goal next ≡ Awaited.Out i = same_Some _ _ here in absurd (cc never)
        waited (suc k) i here = lined.there k i here

    lined_wait_none : (waits : List Awaited) → waits ≡ [] → AreLined count marks outs waits total goal
    lined_wait_none waits is =
        record {
          used = few_more (used marks outs waiting goal) (used marks outs waits goal) labels total has_labels
              (λ n. let b = used_times marks outs waiting goal n in let c = used_times marks outs waits goal n in
              let d : awaited n outs waits ≡ 0 = ap (λ w. awaited n outs w) is in omega arith)
              lined.used;
          apart = few_more (joined_or_out marks outs waiting goal) (joined_or_out marks outs waits goal) labels total has_labels
              (λ n. let b = apart_times marks outs waiting goal n in let c = apart_times marks outs waits goal n in
              let d : goals n waits ≡ 0 = ap (λ w. goals n w) is in omega arith)
              lined.apart;
          points = lined.points;
          there = λ k i here. none_there k i (ap (λ w. slice_get w k) (sym is) ∙ here);
        }
      where
        none_there : (k i : ℕ) → slice_get {X = Awaited} [] k ≡ Some (Awaited.Out i) → i < length outs
        none_there k i here = absurd (cc here)

    pub lined_wait : {T E : Type 0} (result : Result T E) (waits : List Awaited) → OnOk result (waits ≡ Awaited.Goal next ∷ waiting)
        → OnErr result (waits ≡ []) → AreLined count marks outs waits total goal
    lined_wait (Ok x) waits first none = lined_wait_ok waits first
    lined_wait (Err e) waits first none = lined_wait_none waits none

    -- which is where a `return` goes
    module _ (more : List Label) (has_outs : more ≡ outs ++ next ∷ []) where
      outs_more : (n : ℕ) → outs_at n more ≡ outs_at n outs + one labels n
      outs_more n = ap (λ ls. outs_at n ls) has_outs ∙ outs_push n outs next ∙ ap (λ k. outs_at n outs + one k n) is_next

      lined_occur_ok : (waits : List Awaited) → waits ≡ Awaited.Out (length outs) ∷ waiting → AreLined count marks more waits total goal
      lined_occur_ok waits is =
          record {
            used = few_more (used marks outs waiting goal) (used marks more waits goal) labels total has_labels
                (λ n. let b = used_times marks outs waiting goal n in let c = used_times marks more waits goal n in
                let d = awaited_more n in omega arith)
                lined.used;
            apart = few_more (joined_or_out marks outs waiting goal) (joined_or_out marks more waits goal) labels total has_labels
                (λ n. let b = apart_times marks outs waiting goal n in let c = apart_times marks more waits goal n in
                let d = outs_more n in let e : goals n waits ≡ goals n waiting = ap (λ w. goals n w) is in omega arith)
                lined.apart;
            points = lined.points;
            there = λ k i here. waited k i (ap (λ w. slice_get w k) (sym is) ∙ here);
          }
        where
          awaited_more : (n : ℕ) → awaited n more waits ≡ one labels n + awaited n outs waiting
          awaited_more n =
              ap (λ ls. awaited n ls waits) has_outs ∙ ap (λ w. awaited n (outs ++ next ∷ []) w) is
              ∙ times-cons n (label_of (outs ++ next ∷ []) (Awaited.Out (length outs))).0 (map (λ a. (label_of (outs ++ next ∷ []) a).0) waiting)
              ∙ ap (λ (l : Label). one l.0 n + awaited n (outs ++ next ∷ []) waiting) (get_or_push outs next (record { 0 = 0 }) (length outs) refl)
              ∙ ap (λ k. one k n + awaited n (outs ++ next ∷ []) waiting) is_next
              ∙ ap (λ ns. one labels n + times n ns) (kept_labels outs next waiting lined.there)

          waited : (k i : ℕ) → slice_get (Awaited.Out (length outs) ∷ waiting) k ≡ Some (Awaited.Out i) → i < length more
          waited zero i here =
              let same : Awaited.Out (length outs) ≡ Awaited.Out i = same_Some _ _ here in let number : length outs ≡ i = cc same in
              let longer : length more ≡ length outs + 1 = ap length has_outs ∙ length_push outs next in omega arith
          waited (suc k) i here =
              let low = lined.there k i here in let longer : length more ≡ length outs + 1 = ap length has_outs ∙ length_push outs next in omega arith

      lined_occur_none : (waits : List Awaited) → waits ≡ [] → AreLined count marks more waits total goal
      lined_occur_none waits is =
          record {
            used = few_more (used marks outs waiting goal) (used marks more waits goal) labels total has_labels
                (λ n. let b = used_times marks outs waiting goal n in let c = used_times marks more waits goal n in
                let d : awaited n more waits ≡ 0 = ap (λ w. awaited n more w) is in omega arith)
                lined.used;
            apart = few_more (joined_or_out marks outs waiting goal) (joined_or_out marks more waits goal) labels total has_labels
                (λ n. let b = apart_times marks outs waiting goal n in let c = apart_times marks more waits goal n in
                let d = outs_more n in let e : goals n waits ≡ 0 = ap (λ w. goals n w) is in omega arith)
                lined.apart;
            points = lined.points;
            there = λ k i here. none_there k i (ap (λ w. slice_get w k) (sym is) ∙ here);
          }
        where
          none_there : (k i : ℕ) → slice_get {X = Awaited} [] k ≡ Some (Awaited.Out i) → i < length more
          none_there k i here = absurd (cc here)

      pub lined_occur : {T E : Type 0} (result : Result T E) (waits : List Awaited) → OnOk result (waits ≡ Awaited.Out (length outs) ∷ waiting)
          → OnErr result (waits ≡ []) → AreLined count marks more waits total goal
      lined_occur (Ok x) waits first none = lined_occur_ok waits first
      lined_occur (Err e) waits first none = lined_occur_none waits none
