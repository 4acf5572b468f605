-- What the first bytes of a text say.
use Rattle.std.proofs.Common.{◌≡◌, ◌+◌, ◌≤◌, ◌<◌, ℕ, List, [], ◌∷◌, length, get_or, take, drop, refl, ap, sym, ◌∙◌, arith, length-drop}
use Rattle.std.proofs.lemmas.List.{get_or-drop}

-- two bytes that a text begins with, by index
pub begins_two : (text : List ℕ) (a b : ℕ) → 2 ≤ length text → get_or text 0 0 ≡ a → get_or text 1 0 ≡ b → take 2 text ≡ a ∷ b ∷ []
begins_two [] a b long p q = absurd (omega arith)
begins_two (x ∷ []) a b long p q = absurd (omega arith)
begins_two (x ∷ y ∷ text) a b long p q = cc

pub record Reads (text : List ℕ) (a b : ℕ) : Type 0 where
  pub long : 2 ≤ length text
  pub one : get_or text 0 0 ≡ a
  pub two : get_or text 1 0 ≡ b

pub reads_two : (text : List ℕ) (a b : ℕ) → take 2 text ≡ a ∷ b ∷ [] → Reads text a b
reads_two [] a b e = cc
reads_two (x ∷ []) a b e = cc
reads_two (x ∷ y ∷ text) a b e = record { long = omega arith; one = cc; two = cc }

-- the same of what is left of a text
pub begins_at : (text : List ℕ) (k a b : ℕ) → k + 2 ≤ length text → get_or text k 0 ≡ a → get_or text (k + 1) 0 ≡ b → take 2 (drop k text) ≡ a ∷ b ∷ []
begins_at text k a b long p q =
    begins_two (drop k text) a b (omega (arith, length-drop k text)) (get_or-drop k text 0 0 ∙ ap (λ i. get_or text i 0) (let e : k + 0 ≡ k = omega arith in e) ∙ p) (get_or-drop k text 1 0 ∙ q)

pub record ReadsAt (text : List ℕ) (k a b : ℕ) : Type 0 where
  pub long : k + 2 ≤ length text
  pub one : get_or text k 0 ≡ a
  pub two : get_or text (k + 1) 0 ≡ b

pub reads_at : (text : List ℕ) (k a b : ℕ) → take 2 (drop k text) ≡ a ∷ b ∷ [] → ReadsAt text k a b
reads_at text k a b e =
    let r = reads_two (drop k text) a b e in
    record {
      long = omega (arith, r.long, length-drop k text);
      one = sym (ap (λ i. get_or text i 0) (let e : k + 0 ≡ k = omega arith in e)) ∙ sym (get_or-drop k text 0 0) ∙ r.one;
      two = sym (get_or-drop k text 1 0) ∙ r.two;
    }

pub empty_text : (text : List ℕ) → length text < 1 → text ≡ []
empty_text [] short = refl
empty_text (b ∷ text) short = absurd (omega arith)
