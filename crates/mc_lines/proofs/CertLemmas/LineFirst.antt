-- The first line of a document.
use Rattle.std.proofs.Common.{◌≡◌, ◌≢◌, ℕ, suc, List, [], ◌∷◌, Bool, true, false, cond, eqb, take, drop, refl, ap}
use Rattle.mc_lines.specs.Cert.Lines.{onto_first, lines_of, line_len}

last_line : (b : ℕ) (v : Bool) → cond v ([] ∷ []) ((b ∷ []) ∷ []) ≡ take (cond v 0 1) (b ∷ []) ∷ lines_of (drop (suc (cond v 0 1)) (b ∷ []))
last_line b true = refl
last_line b false = refl

onto : (b : ℕ) (bs : List ℕ) (v : Bool) → lines_of bs ≡ take (line_len bs) bs ∷ lines_of (drop (suc (line_len bs)) bs) → cond v ([] ∷ lines_of bs) (onto_first b (lines_of bs)) ≡ take (cond v 0 (suc (line_len bs))) (b ∷ bs) ∷ lines_of (drop (suc (cond v 0 (suc (line_len bs)))) (b ∷ bs))
onto b bs true e = refl
onto b bs false e = ap (onto_first b) e

line_of_cons : (b : ℕ) (bs : List ℕ) → lines_of (b ∷ bs) ≡ take (line_len (b ∷ bs)) (b ∷ bs) ∷ lines_of (drop (suc (line_len (b ∷ bs))) (b ∷ bs))
line_of_cons b [] = last_line b (eqb b 10)
line_of_cons b (c ∷ bs) = onto b (c ∷ bs) (eqb b 10) (line_of_cons c bs)

-- the first line of what is not empty
pub line_first : (t : List ℕ) → t ≢ [] → lines_of t ≡ take (line_len t) t ∷ lines_of (drop (suc (line_len t)) t)
line_first [] h = absurd (h refl)
line_first (b ∷ bs) h = line_of_cons b bs
