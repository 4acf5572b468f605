-- Texts cut into lines.
use Rattle.std.proofs.Common.{◌≡◌, ◌≢◌, ◌⊎◌, inl, inr, ℕ, zero, suc, ◌+◌, ◌-◌, ◌<◌, ◌≤◌, true, false, nat_eq, List, [], ◌∷◌, ◌++◌, take, drop, length, get_or, refl, sym, ap, subst, arith}
use Rattle.std.proofs.lemmas.Bool.Decides.{nat_tests}
use Rattle.std.proofs.lemmas.List.{take_all, length-drop}
use Rattle.mc_lines.specs.Cert.Lines.{line_len}
use Rattle.mc_judge.specs.Judge.Cuts.{HasNoFeed}

yes : (a b : ℕ) → a ≡ b → nat_eq a b ≡ true
yes a b e = grind (arith, nat_tests)

pub no : (a b : ℕ) → a ≢ b → nat_eq a b ≡ false
no a b e = grind (arith, nat_tests)

same_or : (a b : ℕ) → (a ≡ b) ⊎ (a ≢ b)
same_or a b = grind arith

-- ---- line feeds

pub none_has : HasNoFeed []
none_has c = let less = c.1 in omega arith

pub first_has : (b : ℕ) (bs : List ℕ) → b ≢ 10 → HasNoFeed bs → HasNoFeed (b ∷ bs)
first_has b bs ne none c = at c.0 c.1 c.2
  where
    at : (k : ℕ) → k < length (b ∷ bs) → get_or (b ∷ bs) k 10 ≡ 10 → ⊥
    at zero less e = ne e
    at (suc k) less e = none (k, omega arith, e)

pub begins_otherwise : (b : ℕ) (bs : List ℕ) → HasNoFeed (b ∷ bs) → b ≢ 10
begins_otherwise b bs none e = none (0, omega arith, e)

pub rest_has : (b : ℕ) (bs : List ℕ) → HasNoFeed (b ∷ bs) → HasNoFeed bs
rest_has b bs none c = let less = c.1 in none (suc c.0, omega arith, c.2)

len_there : (b : ℕ) (bs : List ℕ) → b ≡ 10 → line_len (b ∷ bs) ≡ 0
len_there b bs e = rw (yes b 10 e) refl

len_later : (b : ℕ) (bs : List ℕ) → b ≢ 10 → line_len (b ∷ bs) ≡ suc (line_len bs)
len_later b bs ne = rw (no b 10 ne) refl

-- no line feed stands before the end of the first line
pub before_has_none : (bytes : List ℕ) → HasNoFeed (take (line_len bytes) bytes)
before_has_none [] = none_has
before_has_none (b ∷ bs) = elim (same_or b 10) [
  | inl e ↦ subst (λ (n : ℕ). HasNoFeed (take n (b ∷ bs))) (sym (len_there b bs e)) none_has
  | inr ne ↦ subst (λ (n : ℕ). HasNoFeed (take n (b ∷ bs))) (sym (len_later b bs ne)) (first_has b (take (line_len bs) bs) ne (before_has_none bs))
]

-- where the first line has all bytes there is none
pub all_has_none : (bytes : List ℕ) → length bytes ≤ line_len bytes → HasNoFeed bytes
all_has_none [] l = none_has
all_has_none (b ∷ bs) l = elim (same_or b 10) [
  | inl e ↦ (let z = len_there b bs e in absurd (omega arith))
  | inr ne ↦ (let z = len_later b bs ne in first_has b bs ne (all_has_none bs (omega arith)))
]

-- else one stands after it
pub cut_at : (bytes : List ℕ) → line_len bytes < length bytes → bytes ≡ take (line_len bytes) bytes ++ (10 ∷ drop (suc (line_len bytes)) bytes)
cut_at [] l = absurd (omega arith)
cut_at (b ∷ bs) l = elim (same_or b 10) [
  | inl e ↦ subst (λ (n : ℕ). b ∷ bs ≡ take n (b ∷ bs) ++ (10 ∷ drop (suc n) (b ∷ bs))) (sym (len_there b bs e)) (ap (λ (z : ℕ). z ∷ bs) e)
  | inr ne ↦ (let z = len_later b bs ne in
      subst (λ (n : ℕ). b ∷ bs ≡ take n (b ∷ bs) ++ (10 ∷ drop (suc n) (b ∷ bs))) (sym z)
      (ap (λ (zs : List ℕ). b ∷ zs) (cut_at bs (omega arith))))
]

-- the bytes before the first line feed, and those after it
pub whole : (bytes : List ℕ) (n : ℕ) → n ≡ line_len bytes → n < length bytes → HasNoFeed (take n bytes) × (bytes ≡ take n bytes ++ (10 ∷ take (length bytes - (n + 1)) (drop (n + 1) bytes)))
whole bytes n e l = (
  subst (λ (m : ℕ). HasNoFeed (take m bytes)) (sym e) (before_has_none bytes),
  rw (take_all (length bytes - (n + 1)) (drop (n + 1) bytes) (let d = length-drop (n + 1) bytes in omega arith))
      (subst (λ (m : ℕ). bytes ≡ take m bytes ++ (10 ∷ drop (m + 1) bytes)) (sym e) (rw (one_more (line_len bytes)) (cut_at bytes (omega arith)))),
)
  where
    one_more : (m : ℕ) → m + 1 ≡ suc m
    one_more m = omega arith
