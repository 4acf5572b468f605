-- Lists of tries from which some are left out.
use Rattle.std.proofs.Common.{◌≡◌, ℕ, zero, suc, ◌<◌, ◌≤◌, List, [], ◌∷◌, ◌++◌, inl, inr, Bool, ◌&&◌, true, false, Option, Some, None, length, get_or, take, refl, sym, ◌∙◌, ap, arith, append_assoc, length-append}
use Rattle.std.specs.List.{filter, flat_map}
use Rattle.mc_shape_search.specs.Search.Met.{IsIn}
use Rattle.mc_shape_search.specs.Search.Search.{Space, first, applies, is_free}
use Rattle.mc_shape_search.specs.Tries.Stack.{branch}
use Rattle.mc_shape_search.specs.Tries.Thin.{Thins, IsSpare}
use Rattle.mc_shape_search.proofs.SearchLemmas.Members.{filter_yes, filter_no, bool_cases}

module _ {X : Type 0} where
  pub thin_same : (xs ys : List (Option X)) → xs ≡ ys → Thins xs ys
  thin_same xs ys e = let n : length xs ≡ length ys = ap length e in record { first = ap first e; count = omega arith }

  pub thin_both : (xs ys zs : List (Option X)) → Thins xs ys → Thins ys zs → Thins xs zs
  thin_both xs ys zs a b = let m = a.count in let n = b.count in record { first = a.first ∙ b.first; count = omega arith }

  pub thin_front : (xs ys : List (Option X)) → Thins xs ys → Thins (None ∷ xs) (None ∷ ys)
  thin_front xs ys t = let n = t.count in record { first = t.first; count = omega arith }

  -- the first of two lists
  first_left : (xs ys : List (Option X)) (x : X) → first xs ≡ Some x → first (xs ++ ys) ≡ Some x
  first_left [] ys x e = cc
  first_left (None ∷ xs) ys x e = first_left xs ys x e
  first_left (Some y ∷ xs) ys x e = e

  first_right : (xs ys : List (Option X)) → first xs ≡ None → first (xs ++ ys) ≡ first ys
  first_right [] ys e = refl
  first_right (None ∷ xs) ys e = first_right xs ys e
  first_right (Some y ∷ xs) ys e = cc

  first_none_left : (xs ys : List (Option X)) → first (xs ++ ys) ≡ None → first xs ≡ None
  first_none_left [] ys e = refl
  first_none_left (None ∷ xs) ys e = first_none_left xs ys e
  first_none_left (Some y ∷ xs) ys e = e

  first_none_right : (xs ys : List (Option X)) → first (xs ++ ys) ≡ None → first ys ≡ None
  first_none_right [] ys e = e
  first_none_right (None ∷ xs) ys e = first_none_right xs ys e
  first_none_right (Some y ∷ xs) ys e = cc

  -- what has no first where what stands before has none may be left out
  leave_out : (before spare after : List (Option X)) → (first before ≡ None → first spare ≡ None) → Thins (before ++ after) ((before ++ spare) ++ after)
  leave_out before spare after h =
      let e = append_assoc before spare after in
      let n = length-append before after in
      let m = length-append before (spare ++ after) in
      let k = length-append spare after in
      let l : length ((before ++ spare) ++ after) ≡ length (before ++ (spare ++ after)) = ap length e in
      record { first = at (first before) refl ∙ ap first (sym e); count = omega arith }
    where
      at : (o : Option X) → first before ≡ o → first (before ++ after) ≡ first (before ++ (spare ++ after))
      at (Some x) is = first_left before after x is ∙ sym (first_left before (spare ++ after) x is)
      at None is = first_right before after is ∙ (sym (first_right spare after (h is)) ∙ sym (first_right before (spare ++ after) is))

module _ {X M : Type 0} (F : M → List X) (p : M → Bool) where
  pub tried_last : (ms : List M) (m : M) → p m ≡ true → flat_map F (filter p (ms ++ m ∷ [])) ≡ flat_map F (filter p ms) ++ F m
  tried_last [] m t = ap (flat_map F) (filter_yes p m [] t) ∙ append_none (F m)
    where
      append_none : (xs : List X) → xs ++ [] ≡ xs
      append_none [] = refl
      append_none (x ∷ xs) = ap (λ l. x ∷ l) (append_none xs)
  tried_last (x ∷ ms) m t =
      elim (bool_cases (p x)) [
        | inl u ↦ ap (flat_map F) (filter_yes p x (ms ++ m ∷ []) u) ∙ (ap (λ l. F x ++ l) (tried_last ms m t) ∙ (sym (append_assoc (F x) (flat_map F (filter p ms)) (F m)) ∙ ap (λ l. l ++ F m) (sym (ap (flat_map F) (filter_yes p x ms u)))))
        | inr u ↦ ap (flat_map F) (filter_no p x (ms ++ m ∷ []) u) ∙ (tried_last ms m t ∙ ap (λ l. l ++ F m) (sym (ap (flat_map F) (filter_no p x ms u))))
      ]

  pub not_tried_last : (ms : List M) (m : M) → p m ≡ false → flat_map F (filter p (ms ++ m ∷ [])) ≡ flat_map F (filter p ms)
  not_tried_last [] m t = ap (flat_map F) (filter_no p m [] t)
  not_tried_last (x ∷ ms) m t =
      elim (bool_cases (p x)) [
        | inl u ↦ ap (flat_map F) (filter_yes p x (ms ++ m ∷ []) u) ∙ (ap (λ l. F x ++ l) (not_tried_last ms m t) ∙ sym (ap (flat_map F) (filter_yes p x ms u)))
        | inr u ↦ ap (flat_map F) (filter_no p x (ms ++ m ∷ []) u) ∙ (not_tried_last ms m t ∙ sym (ap (flat_map F) (filter_no p x ms u)))
      ]

-- where nothing is found, nothing is found by any of the marks
none_by : {X M : Type 0} (F : M → List (Option X)) (p : M → Bool) (ms : List M) (m : M) → IsIn m ms → p m ≡ true → first (flat_map F (filter p ms)) ≡ None → first (F m) ≡ None
none_by F p [] m i t e = elim i [ ]
none_by F p (x ∷ ms) m (inl same) t e =
    let u : p x ≡ true = ap p (sym same) ∙ t in
    let f : first (F x ++ flat_map F (filter p ms)) ≡ None = ap first (sym (ap (flat_map F) (filter_yes p x ms u))) ∙ e in
    ap (λ y. first (F y)) same ∙ first_none_left (F x) (flat_map F (filter p ms)) f
none_by F p (x ∷ ms) m (inr i) t e =
    elim (bool_cases (p x)) [
      | inl u ↦ (let f : first (F x ++ flat_map F (filter p ms)) ≡ None = ap first (sym (ap (flat_map F) (filter_yes p x ms u))) ∙ e in none_by F p ms m i t (first_none_right (F x) (flat_map F (filter p ms)) f))
      | inr u ↦ none_by F p ms m i t (ap first (sym (ap (flat_map F) (filter_no p x ms u))) ∙ e)
    ]

-- what a mark takes was taken before
pub not_free : {G M : Type 0} (w : Space G M) (g : G) (log : List M) (m : M) → is_free w.takes log m ≡ false → applies w g log m ≡ false
not_free w g log m e = ap (λ b. w.fits g m && b) e ∙ no_right (w.fits g m)
  where
    no_right : (b : Bool) → (b && false) ≡ false
    no_right true = refl
    no_right false = refl

-- one mark more of the front of a list
pub take_last : {M : Type 0} (all : List M) (i : ℕ) (m : M) → i < length all → m ≡ get_or all i m → take (suc i) all ≡ take i all ++ m ∷ []
take_last [] i m l e = absurd (omega arith)
take_last (x ∷ all) zero m l e = ap (λ y. y ∷ []) (sym e)
take_last (x ∷ all) (suc i) m l e = ap (λ l. x ∷ l) (take_last all i m (omega arith) e)

pub in_take : {M : Type 0} (all : List M) (i j : ℕ) (m : M) → j < i → i ≤ length all → m ≡ get_or all j m → IsIn m (take i all)
in_take all zero j m l k e = absurd (omega arith)
in_take [] (suc i) j m l k e = absurd (omega arith)
in_take (x ∷ all) (suc i) zero m l k e = inl e
in_take (x ∷ all) (suc i) (suc j) m l k e = inr (in_take all i j m (omega arith) (omega arith) e)

pub take_all : {M : Type 0} (all : List M) → take (length all) all ≡ all
take_all [] = refl
take_all (x ∷ all) = ap (λ l. x ∷ l) (take_all all)

module _ {G M : Type 0} (w : Space G M) (n : ℕ) (g : G) (gs : List G) (log : List M) where
  -- the tries by marks of the goal, those that apply
  abbrev pub by : List M → List (Option (List M))
  by ms = flat_map (branch w n g gs log) (filter (applies w g log) ms)

  -- the last of the marks is gone through: what was left to try is the same, or has the tries of this mark before it
  pub thin_kept : (ms more : List M) (m : M) (now new all : List (Option (List M))) → more ≡ ms ++ m ∷ [] → applies w g log m ≡ true → new ≡ branch w n g gs log m ++ now → Thins (by more ++ now) all → Thins (by ms ++ new) all
  thin_kept ms more m now new all e t s h =
      let same : by ms ++ new ≡ by more ++ now =
      ap (λ l. by ms ++ l) s ∙ (sym (append_assoc (by ms) (branch w n g gs log m) now) ∙ ap (λ l. l ++ now) (sym (tried_last (branch w n g gs log) (applies w g log) ms m t) ∙ ap by (sym e))) in
      thin_both (by ms ++ new) (by more ++ now) all (thin_same (by ms ++ new) (by more ++ now) same) h

  pub thin_not : (ms more : List M) (m : M) (now new all : List (Option (List M))) → more ≡ ms ++ m ∷ [] → applies w g log m ≡ false → new ≡ now → Thins (by more ++ now) all → Thins (by ms ++ new) all
  thin_not ms more m now new all e t s h =
      let same : by ms ++ new ≡ by more ++ now =
      ap (λ l. by ms ++ l) s ∙ ap (λ l. l ++ now) (sym (not_tried_last (branch w n g gs log) (applies w g log) ms m t) ∙ ap by (sym e)) in
      thin_both (by ms ++ new) (by more ++ now) all (thin_same (by ms ++ new) (by more ++ now) same) h

  pub thin_spare : (ms more : List M) (m : M) (now all : List (Option (List M))) → more ≡ ms ++ m ∷ [] → IsSpare w ms log m → Thins (by more ++ now) all → Thins (by ms ++ now) all
  thin_spare ms more m now all e spare h =
      elim (bool_cases (applies w g log m)) [
        | inr no' ↦ thin_not ms more m now now all e no' refl h
        | inl t ↦ (
            let s = spare.stands n g gs log spare.free t in
            let out : Thins (by ms ++ now) ((by ms ++ branch w n g gs log m) ++ now) = leave_out (by ms) (branch w n g gs log m) now (λ none. s.1 (none_by (branch w n g gs log) (applies w g log) ms spare.one spare.listed s.0 none)) in
            let same : (by ms ++ branch w n g gs log m) ++ now ≡ by more ++ now = ap (λ l. l ++ now) (sym (tried_last (branch w n g gs log) (applies w g log) ms m t) ∙ ap by (sym e)) in
            thin_both (by ms ++ now) ((by ms ++ branch w n g gs log m) ++ now) all out (thin_both ((by ms ++ branch w n g gs log m) ++ now) (by more ++ now) all (thin_same ((by ms ++ branch w n g gs log m) ++ now) (by more ++ now) same) h))
      ]
