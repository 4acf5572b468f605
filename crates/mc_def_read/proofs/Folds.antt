-- Lists that are judged one by one.
use Rattle.std.proofs.Common.{◌≡◌, ℕ, zero, suc, ◌+◌, ◌<◌, ◌≤◌, List, [], ◌∷◌, ◌++◌, length, take, drop, get_or, refl, ap, sym, ◌∙◌, append_assoc}
use native.Mathlib.Omega.{arith}
use Rattle.std.specs.Prelude.{Result, Ok, Err}
use Rattle.mc_def_parse.specs.declared.fault.Refusal.{Refusal}
use Rattle.mc_def_parse.specs.declared.fault.DefFault.{DefFault}
use Rattle.mc_def_parse.specs.declared.fault.DefFault.TheVariants.{Refused, NoMemory}
use Rattle.mc_def_read.specs.Judging.{Judged, ◌>>=◌, Finds}

-- what is after some items, with these before it
abbrev pub behind : {X : Type 0} → List X → Judged (List X) → Judged (List X)
behind done (Ok more) = Ok (done ++ more)
behind done (Err fault) = Err fault

-- the first item after a place
pub drop_at : {X : Type 0} (xs : List X) (i : ℕ) (x : X) → i < length xs → x ≡ get_or xs i x → drop i xs ≡ x ∷ drop (i + 1) xs
drop_at [] i x below is = absurd (omega arith)
drop_at (y ∷ xs) zero x below is = rw is refl
drop_at (y ∷ xs) (suc i) x below is = let below' : i < length xs = omega arith in let e : suc i + 1 ≡ suc (i + 1) = omega arith in rw e (drop_at xs i x below' is)

pub drop_all : {X : Type 0} (xs : List X) (i : ℕ) → length xs ≤ i → drop i xs ≡ []
drop_all [] zero above = refl
drop_all [] (suc i) above = refl
drop_all (x ∷ xs) zero above = absurd (omega arith)
drop_all (x ∷ xs) (suc i) above = let above' : length xs ≤ i = omega arith in drop_all xs i above'

-- ---- states that go through a list
pub fold_step : {S X : Type 0} (fold : S → List X → Judged S) (step : S → X → Judged S) → ((s : S) (x : X) (xs : List X) → fold s (x ∷ xs) ≡ (step s x >>= (λ n. fold n xs))) → (s next : S) (x : X) (list rest : List X) → list ≡ x ∷ rest → step s x ≡ Ok next → fold s list ≡ fold next rest
fold_step fold step eq s next x list rest e f = ap (fold s) e ∙ eq s x rest ∙ ap (λ j. j >>= (λ n. fold n rest)) f

pub fold_fails : {S X : Type 0} (fold : S → List X → Judged S) (step : S → X → Judged S) → ((s : S) (x : X) (xs : List X) → fold s (x ∷ xs) ≡ (step s x >>= (λ n. fold n xs))) → {B C : Type 0} (s : S) (x : X) (list rest : List X) (whole : Judged S) (of : B → S) (of' : C → S) (fault : DefFault) → whole ≡ fold s list → list ≡ x ∷ rest → Finds (step s x) of (Err fault) → Finds whole of' (Err fault)
fold_fails fold step eq s x list rest whole of of' (Refused r) w e f = w ∙ ap (fold s) e ∙ eq s x rest ∙ ap (λ j. j >>= (λ n. fold n rest)) f
fold_fails fold step eq s x list rest whole of of' NoMemory w e f = tt

-- ---- lists of what is said of each
pub list_step : {X Y : Type 0} (all : List X → Judged (List Y)) (one : X → Judged Y) → ((x : X) (xs : List X) → all (x ∷ xs) ≡ (one x >>= (λ y. all xs >>= (λ ys. Ok (y ∷ ys))))) → (done : List Y) (x : X) (y : Y) (list rest : List X) → list ≡ x ∷ rest → one x ≡ Ok y → behind done (all list) ≡ behind (done ++ y ∷ []) (all rest)
list_step {X} {Y} all one eq done x y list rest e f = ap (λ l. behind done (all l)) e ∙ ap (behind done) (eq x rest) ∙ ap (λ j. behind done (j >>= (λ z. all rest >>= (λ ys. Ok (z ∷ ys))))) f ∙ join (all rest) where
  join : (j : Judged (List Y)) → behind done (j >>= (λ ys. Ok (y ∷ ys))) ≡ behind (done ++ y ∷ []) j
  join (Ok ys) = ap (λ zs. Ok zs) (sym (append_assoc done (y ∷ []) ys))
  join (Err r) = refl

pub list_fails : {X Y : Type 0} (all : List X → Judged (List Y)) (one : X → Judged Y) → ((x : X) (xs : List X) → all (x ∷ xs) ≡ (one x >>= (λ y. all xs >>= (λ ys. Ok (y ∷ ys))))) → {B C : Type 0} (done : List Y) (x : X) (list rest : List X) (whole : Judged (List Y)) (of : B → Y) (of' : C → List Y) (fault : DefFault) → whole ≡ behind done (all list) → list ≡ x ∷ rest → Finds (one x) of (Err fault) → Finds whole of' (Err fault)
list_fails all one eq done x list rest whole of of' (Refused r) w e f = w ∙ ap (λ l. behind done (all l)) e ∙ ap (behind done) (eq x rest) ∙ ap (λ j. behind done (j >>= (λ z. all rest >>= (λ ys. Ok (z ∷ ys))))) f
list_fails all one eq done x list rest whole of of' NoMemory w e f = tt

pub behind_nothing : {X : Type 0} (j : Judged (List X)) → j ≡ behind [] j
behind_nothing (Ok xs) = refl
behind_nothing (Err r) = refl

pub behind_all : {X : Type 0} (done : List X) → behind done (Ok []) ≡ Ok done
behind_all {X} done = ap (λ xs. Ok xs) (nil done) where
  nil : (xs : List X) → xs ++ [] ≡ xs
  nil [] = refl
  nil (x ∷ xs) = ap (λ ys. x ∷ ys) (nil xs)
