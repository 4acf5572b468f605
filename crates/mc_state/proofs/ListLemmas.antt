-- Lists that are compared item by item.
use Rattle.std.proofs.Common.{◌≡◌, ◌≢◌, ◌<◌, ◌≤◌, ◌+◌, ℕ, suc, Bool, true, false, List, [], ◌∷◌, length, get_or, drop, refl, ap, ◌∙◌, arith, ◌&&◌}
use Rattle.std.proofs.lemmas.List.{drop_more}
use Rattle.std.proofs.Math.ListN.{drop_of_length-le}
use Rattle.mc_state.specs.Lists.{all_both}

module _ {A B : Type 0} (test : A → B → Bool) where
  -- one step on
  pub all_both_more : (xs : List A) (ys : List B) (i : ℕ) (d : A) (e : B) → i < length xs → i < length ys → all_both test (drop i xs) (drop i ys) ≡ (test (get_or xs i d) (get_or ys i e) && all_both test (drop (i + 1) xs) (drop (i + 1) ys))
  all_both_more xs ys i d e in_xs in_ys =
      ap (λ l. all_both test l (drop i ys)) (drop_more xs i d in_xs) ∙ ap (λ l. all_both test (get_or xs i d ∷ drop (i + 1) xs) l) (drop_more ys i e in_ys)

  -- one step on, where the test fails
  pub all_both_no : (xs : List A) (ys : List B) (i : ℕ) (d : A) (e : B) → i < length xs → i < length ys → test (get_or xs i d) (get_or ys i e) ≡ false → all_both test (drop i xs) (drop i ys) ≡ false
  all_both_no xs ys i d e in_xs in_ys fails =
      all_both_more xs ys i d e in_xs in_ys ∙ ap (λ b. b && all_both test (drop (i + 1) xs) (drop (i + 1) ys)) fails

  -- one step on, where the test holds
  pub all_both_yes : (xs : List A) (ys : List B) (i : ℕ) (d : A) (e : B) → i < length xs → i < length ys → test (get_or xs i d) (get_or ys i e) ≡ true → all_both test (drop i xs) (drop i ys) ≡ all_both test (drop (i + 1) xs) (drop (i + 1) ys)
  all_both_yes xs ys i d e in_xs in_ys holds =
      all_both_more xs ys i d e in_xs in_ys ∙ ap (λ b. b && all_both test (drop (i + 1) xs) (drop (i + 1) ys)) holds

  -- at the end
  pub all_both_end : (xs : List A) (ys : List B) (i : ℕ) → length xs ≡ length ys → length xs ≤ i → all_both test (drop i xs) (drop i ys) ≡ true
  all_both_end xs ys i same past =
      let other : length ys ≤ i = omega arith in
      ap (λ l. all_both test l (drop i ys)) (drop_of_length-le xs past) ∙ ap (λ l. all_both test [] l) (drop_of_length-le ys other)

  -- lists of other lengths
  pub all_both_lengths : (xs : List A) (ys : List B) → length xs ≢ length ys → all_both test xs ys ≡ false
  all_both_lengths [] [] differ = absurd (differ refl)
  all_both_lengths [] (y ∷ ys) differ = refl
  all_both_lengths (x ∷ xs) [] differ = refl
  all_both_lengths (x ∷ xs) (y ∷ ys) differ =
      let rest : length xs ≢ length ys = λ e. differ (ap suc e) in
      ap (λ b. test x y && b) (all_both_lengths xs ys rest) ∙ false_end (test x y) where
        false_end : (b : Bool) → (b && false) ≡ false
        false_end true = refl
        false_end false = refl

pub ruleset all_both_steps = (all_both_no, all_both_yes, all_both_end, all_both_lengths)

-- what holds of two lists by recursion, from a test of each two items
pub both_from : {A B : Type 0} (test : A → B → Bool) (P : List A → List B → Type 0) → P [] [] → ((x : A) (y : B) (xs : List A) (ys : List B) → test x y ≡ true → P xs ys → P (x ∷ xs) (y ∷ ys)) → (xs : List A) (ys : List B) → all_both test xs ys ≡ true → P xs ys
both_from test P start step [] [] e = start
both_from test P start step [] (y ∷ ys) e = absurd (cc e)
both_from test P start step (x ∷ xs) [] e = absurd (cc e)
both_from test P start step (x ∷ xs) (y ∷ ys) e =
    let both = and_parts (test x y) (all_both test xs ys) e in
    step x y xs ys both.0 (both_from test P start step xs ys both.1) where
      and_parts : (a b : Bool) → (a && b) ≡ true → (a ≡ true) × (b ≡ true)
      and_parts true b e = (refl, e)
      and_parts false b e = absurd (cc e)

-- and back
pub both_to : {A B : Type 0} (test : A → B → Bool) (P : List A → List B → Type 0) → ((x : A) (y : B) (xs : List A) (ys : List B) → P (x ∷ xs) (y ∷ ys) → (test x y ≡ true) × P xs ys) → ((y : B) (ys : List B) → P [] (y ∷ ys) → ⊥) → ((x : A) (xs : List A) → P (x ∷ xs) [] → ⊥) → (xs : List A) (ys : List B) → P xs ys → all_both test xs ys ≡ true
both_to test P step left right [] [] p = refl
both_to test P step left right [] (y ∷ ys) p = absurd (left y ys p)
both_to test P step left right (x ∷ xs) [] p = absurd (right x xs p)
both_to test P step left right (x ∷ xs) (y ∷ ys) p =
    let parts = step x y xs ys p in
    ap (λ b. b && all_both test xs ys) parts.0 ∙ both_to test P step left right xs ys parts.1
