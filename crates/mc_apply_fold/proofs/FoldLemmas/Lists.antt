-- Lists that are compared in two parts.
use Rattle.std.proofs.Common.{◌≡◌, ◌<◌, ◌≤◌, ◌+◌, ◌-◌, ℕ, suc, Bool, true, false, List, [], ◌∷◌, ◌++◌, take, drop, length, refl, sym, ◌∙◌, ap, arith, ◌&&◌, get_or, remove, add-one}
use Rattle.std.specs.List.{list_all}
use Rattle.std.proofs.lemmas.List.{length-drop, length-take, drop_more}
use Rattle.mc_state.specs.Lists.{all_both}
use Rattle.mc_state.proofs.ListLemmas.{all_both_yes}

module _ {X : Type 0} where
  -- all of a list is taken, also after a place
  whole : (xs : List X) → take (length xs) xs ≡ xs
  whole [] = refl
  whole (x ∷ xs) = ap (λ l. x ∷ l) (whole xs)

  pub rest_whole : (xs : List X) (n : ℕ) → take (length xs - n) (drop n xs) ≡ drop n xs
  rest_whole xs n = ap (λ m. take m (drop n xs)) (sym (length-drop n xs)) ∙ whole (drop n xs)

and_both : (a b c : Bool) → (a && (b && c)) ≡ ((a && b) && c)
and_both true b c = refl
and_both false b c = refl

-- a list of two parts is compared part by part
pub both_split : {A B : Type 0} (test : A → B → Bool) (xs zs : List A) (ys : List B) → length xs ≤ length ys → all_both test (xs ++ zs) ys ≡ (all_both test xs (take (length xs) ys) && all_both test zs (drop (length xs) ys))
both_split test [] zs ys fits = refl
both_split test (x ∷ xs) zs [] fits = absurd (omega arith)
both_split test (x ∷ xs) zs (y ∷ ys) fits =
    let less : length xs ≤ length ys = omega arith in
    ap (λ b. test x y && b) (both_split test xs zs ys less) ∙ and_both (test x y) (all_both test xs (take (length xs) ys)) (all_both test zs (drop (length xs) ys))

-- where two items meet a test, the lists meet it from the next place on
pub both_later : {A B : Type 0} (test : A → B → Bool) (xs : List A) (ys : List B) (i : ℕ) (x : A) (d : B)
    → i < length xs → i < length ys → x ≡ get_or xs i x → test x (get_or ys i d) ≡ true
    → all_both test (drop i xs) (drop i ys) ≡ all_both test (drop (i + 1) xs) (drop (i + 1) ys)
both_later test xs ys i x d m n is met = all_both_yes test xs ys i x d m n (ap (λ z. test z (get_or ys i d)) (sym is) ∙ met)

module _ {A : Type 0} (test : A → Bool) (xs : List A) (i : ℕ) (d : A) where
  -- where an item meets a test, all do from its place on as from the next
  pub all_later : i < length xs → true ≡ test (get_or xs i d) → list_all test (drop i xs) ≡ list_all test (drop (i + 1) xs)
  all_later m met = ap (list_all test) (drop_more xs i d m) ∙ ap (λ b. b && list_all test (drop (i + 1) xs)) (sym met)

  -- where one fails it, not all meet it
  pub not_all : i < length xs → false ≡ test (get_or xs i d) → list_all test (drop i xs) ≡ false
  not_all m failed = ap (list_all test) (drop_more xs i d m) ∙ ap (λ b. b && list_all test (drop (i + 1) xs)) (sym failed)

module _ {A B : Type 0} (test : A → B → Bool) (xs : List A) (ys : List B) (i : ℕ) where
  -- a list without an item is compared in two parts, that before the item and that after it
  others_split : i < length xs → i ≤ length ys → all_both test (remove xs i) ys ≡ (all_both test (take i xs) (take i ys) && all_both test (drop (i + 1) xs) (drop i ys))
  others_split inside fits =
      let long : length (take i xs) ≡ i = length-take i xs ∙ omega arith in
      let short : length (take i xs) ≤ length ys = omega arith in
      both_split test (take i xs) (drop (suc i) xs) ys short
      ∙ ap (λ n. all_both test (take i xs) (take n ys) && all_both test (drop (suc i) xs) (drop n ys)) long
      ∙ ap (λ n. all_both test (take i xs) (take i ys) && all_both test (drop n xs) (drop i ys)) (sym (add-one i))

  -- where the first part fails, they fail
  pub others_fail : i < length xs → i ≤ length ys → false ≡ all_both test (take i xs) (take i ys) → false ≡ all_both test (remove xs i) ys
  others_fail inside fits failed = sym (others_split inside fits ∙ ap (λ b. b && all_both test (drop (i + 1) xs) (drop i ys)) (sym failed))

  -- where it holds, the other part decides
  pub others_rest : i < length xs → i ≤ length ys → true ≡ all_both test (take i xs) (take i ys) → all_both test (drop (i + 1) xs) (drop i ys) ≡ all_both test (remove xs i) ys
  others_rest inside fits met = sym (others_split inside fits ∙ ap (λ b. b && all_both test (drop (i + 1) xs) (drop i ys)) (sym met))
