-- Two machines run alike where each pair that matches goes on together: for any two machines of which each has one next step at most.
use Rattle.std.proofs.Common.{◌≡◌, ◌<◌, inl, inr, ℕ, zero, suc, List, refl, sym, subst, arith}
use Rattle.std.specs.Prelude.{◌↔◌}
use Rattle.mc_flow.specs.Runs.{Final, Outcome, next, last, Reaches}
use Rattle.mc_lower_spec.specs.Runs.{ComesTo}

abbrev pub Machine : Type 0 → Type 0 → Type 1
Machine C K = C → List K → Outcome C K → Type 0

-- there is one next step at most
abbrev pub IsOnce : {C K : Type 0} → Machine C K → Type 0
IsOnce {C} {K} Steps = (c : C) (choices : List K) (r s : Outcome C K) → Steps c choices r → Steps c choices s → r ≡ s

-- one step or more
pub data Goes {D K : Type 0} (Steps : Machine D K) : D → List K → Outcome D K → Type 0 where
  one : {d : D} {choices : List K} {r : Outcome D K} → Steps d choices r → Goes Steps d choices r
  more : {d e : D} {choices rest : List K} {r : Outcome D K} → Steps d choices (next e rest) → Goes Steps e rest r → Goes Steps d choices r

-- two outcomes that match
pub data Alike {C D K : Type 0} (Match : C → D → Type 0) : Outcome C K → Outcome D K → Type 0 where
  alike_next : {c : C} {d : D} {rest : List K} → Match c d → Alike Match (next c rest) (next d rest)
  alike_last : {f : Final} → Alike Match (last f) (last f)

-- What a matching pair does: both go on to a pair that matches, the source with one step and the other machine with one or more;
-- or the source alone goes on, or has the step of another configuration, and comes closer to its next point;
-- or the other machine alone goes on; or both come to the same end; or neither goes on;
-- or each next step of one has one of the other that is alike, which need not be decided.
pub data Paired {C D K : Type 0} (S : Machine C K) (F : Machine D K) (Match : C → D → Type 0) (weight : C → ℕ) (c : C) (choices : List K) : D → Type 0 where
  both_go : {c_later : C} {d d_later : D} {rest : List K} → S c choices (next c_later rest) → Goes F d choices (next d_later rest) → Match c_later d_later → Paired S F Match weight c choices d
  source_goes : {c_later : C} {d : D} → S c choices (next c_later choices) → Match c_later d → weight c_later < weight c → Paired S F Match weight c choices d
  source_moves : {c_later : C} {d : D} → ((r : Outcome C K) → S c choices r → S c_later choices r) → ((r : Outcome C K) → S c_later choices r → S c choices r) → Match c_later d → weight c_later < weight c
      → Paired S F Match weight c choices d
  flow_goes : {d e : D} → F d choices (next e choices) → Paired S F Match weight c choices e → Paired S F Match weight c choices d
  both_end : {d : D} {f : Final} → S c choices (last f) → Goes F d choices (last f) → Paired S F Match weight c choices d
  both_wait : {d : D} → ((r : Outcome C K) → S c choices r → ⊥) → ((n : ℕ) (f : Final) → Reaches F n d choices f → ⊥) → Paired S F Match weight c choices d
  both_choose : {d : D} → ((r : Outcome C K) → S c choices r → (s : Outcome D K) × F d choices s × Alike Match r s) → ((s : Outcome D K) → F d choices s → (r : Outcome C K) × S c choices r × Alike Match r s)
      → Paired S F Match weight c choices d

-- ---- what is left of a run after steps that are known
-- a run of n steps at most from there, or that end
abbrev pub Left : {D K : Type 0} → Machine D K → ℕ → Outcome D K → Final → Type 0
Left F n (next d rest) f = (m : ℕ) × (m < n) × Reaches F m d rest f
Left F n (last e) f = f ≡ e

pub left_of_one : {D K : Type 0} (F : Machine D K) → IsOnce F → (d : D) (choices : List K) (r : Outcome D K) (n : ℕ) (f : Final) → F d choices r → Reaches F n d choices f → Left F n r f
left_of_one F once d choices r zero f step run = absurd run
left_of_one F once d choices r (suc n) f step (inl s) =
    let P : Outcome _ _ → Type 0 = λ x. Left F (suc n) x f in subst P (once d choices (last f) r s step) refl
left_of_one F once d choices r (suc n) f step (inr h) =
    let P : Outcome _ _ → Type 0 = λ x. Left F (suc n) x f in
    let less : n < suc n = omega arith in
    subst P (once d choices (next h.0 h.1) r h.2 step) (n, less, h.3)

left_longer : {D K : Type 0} (F : Machine D K) (m n : ℕ) (r : Outcome D K) (f : Final) → m < n → Left F m r f → Left F n r f
left_longer F m n (next d rest) f less left = (left.0, omega (arith, left.1, less), left.2)
left_longer F m n (last e) f less left = left

pub left_of : {D K : Type 0} (F : Machine D K) → IsOnce F → {d : D} {choices : List K} {r : Outcome D K} (n : ℕ) (f : Final) → Goes F d choices r → Reaches F n d choices f → Left F n r f
left_of F once n f (one {d = d} {choices = choices} {r = r} step) run = left_of_one F once d choices r n f step run
left_of F once n f (more {d = d} {e = e} {choices = choices} {rest = rest} {r = r} step goes) run =
    let left : (m : ℕ) × (m < n) × Reaches F m e rest f = left_of_one F once d choices (next e rest) n f step run in
    left_longer F left.0 n r f left.1 (left_of F once left.0 f goes left.2)

-- ---- runs with steps before them
pub longer : {D K : Type 0} (F : Machine D K) {d e : D} {choices rest : List K} (f : Final) → F d choices (next e rest) → ComesTo F e rest f → ComesTo F d choices f
longer F {d} {e} {choices} {rest} f step run = (suc run.0, inr (e, rest, step, run.1))

-- the run comes to its end from there on, or this is it
abbrev After : {D K : Type 0} → Machine D K → Outcome D K → Final → Type 0
After F (next d rest) f = ComesTo F d rest f
After F (last e) f = f ≡ e

after_one : {D K : Type 0} (F : Machine D K) (d : D) (choices : List K) (r : Outcome D K) (f : Final) → F d choices r → After F r f → ComesTo F d choices f
after_one F d choices (next e rest) f step run = longer F f step run
after_one F d choices (last e) f step same = (1, inl (let P : Final → Type 0 = λ x. F d choices (last x) in subst P (sym same) step))

after : {D K : Type 0} (F : Machine D K) {d : D} {choices : List K} {r : Outcome D K} (f : Final) → Goes F d choices r → After F r f → ComesTo F d choices f
after F f (one {d = d} {choices = choices} {r = r} step) run = after_one F d choices r f step run
after F f (more step goes) run = longer F f step (after F f goes run)

-- a run of a configuration that has the steps of another one
moved_run : {C K : Type 0} (S : Machine C K) (c d : C) (choices : List K) (n : ℕ) (f : Final) → ((r : Outcome C K) → S c choices r → S d choices r) → Reaches S n c choices f → Reaches S n d choices f
moved_run S c d choices zero f into run = absurd run
moved_run S c d choices (suc n) f into (inl s) = inl (into (last f) s)
moved_run S c d choices (suc n) f into (inr h) = inr (h.0, h.1, into (next h.0 h.1) h.2, h.3)

-- ---- both ways
abbrev AllPaired : {C D K : Type 0} → Machine C K → Machine D K → (C → D → Type 0) → (C → ℕ) → Type 0
AllPaired {C} {D} {K} S F Match weight = (c : C) (d : D) (choices : List K) → Match c d → Paired S F Match weight c choices d

-- runs of less than n steps of one machine have runs of the other
abbrev Forth : {C D K : Type 0} → Machine C K → Machine D K → (C → D → Type 0) → ℕ → Final → Type 0
Forth {C} {D} {K} S F Match n f = (m : ℕ) → m < n → (c : C) (d : D) (choices : List K) → Match c d → Reaches S m c choices f → ComesTo F d choices f

abbrev Back : {C D K : Type 0} → Machine C K → Machine D K → (C → D → Type 0) → ℕ → Final → Type 0
Back {C} {D} {K} S F Match n f = (m : ℕ) → m < n → (c : C) (d : D) (choices : List K) → Match c d → Reaches F m d choices f → ComesTo S c choices f

-- the same for runs of m steps of configurations that are this close to their next point
abbrev NearForth : {C D K : Type 0} → Machine C K → Machine D K → (C → D → Type 0) → (C → ℕ) → ℕ → ℕ → Final → Type 0
NearForth {C} {D} {K} S F Match weight w m f = (c : C) (d : D) (choices : List K) → weight c < w → Match c d → Reaches S m c choices f → ComesTo F d choices f

abbrev NearBack : {C D K : Type 0} → Machine C K → Machine D K → (C → D → Type 0) → (C → ℕ) → ℕ → ℕ → Final → Type 0
NearBack {C} {D} {K} S F Match weight w m f = (c : C) (d : D) (choices : List K) → weight c < w → Match c d → Reaches F m d choices f → ComesTo S c choices f

joined_last : {C D K : Type 0} (F : Machine D K) (Match : C → D → Type 0) (d : D) (choices : List K) (f : Final) (s : Outcome D K) → F d choices s → Alike {C = C} Match (last f) s → ComesTo F d choices f
joined_last F Match d choices f s step alike_last = (1, inl step)

joined_next : {C D K : Type 0} (F : Machine D K) (Match : C → D → Type 0) (d : D) (choices : List K) (f : Final) (c : C) (rest : List K) (s : Outcome D K) → F d choices s → Alike Match (next c rest) s
    → ((e : D) → Match c e → ComesTo F e rest f) → ComesTo F d choices f
joined_next F Match d choices f c rest s step (alike_next {d = e} m) later = longer F f step (later e m)

rejoined_last : {C D K : Type 0} (S : Machine C K) (Match : C → D → Type 0) (c : C) (choices : List K) (f : Final) (r : Outcome C K) → S c choices r → Alike {D = D} Match r (last f) → ComesTo S c choices f
rejoined_last S Match c choices f r step alike_last = (1, inl step)

rejoined_next : {C D K : Type 0} (S : Machine C K) (Match : C → D → Type 0) (c : C) (choices : List K) (f : Final) (d : D) (rest : List K) (r : Outcome C K) → S c choices r → Alike Match r (next d rest)
    → ((e : C) → Match e d → ComesTo S e rest f) → ComesTo S c choices f
rejoined_next S Match c choices f d rest r step (alike_next {c = e} m) later = longer S f step (later e m)

forth_by : {C D K : Type 0} (S : Machine C K) (F : Machine D K) (Match : C → D → Type 0) (weight : C → ℕ) (w n : ℕ) (f : Final) → IsOnce S → Forth S F Match n f → NearForth S F Match weight w n f
    → (c : C) (choices : List K) → weight c < suc w → {d : D} → Paired S F Match weight c choices d → Reaches S n c choices f → ComesTo F d choices f
forth_by S F Match weight w n f once ih near c choices close (both_go {c_later = e} {d_later = d_later} {rest = rest} step goes later) run =
    let left : (k : ℕ) × (k < n) × Reaches S k e rest f = left_of_one S once c choices (next e rest) n f step run in
    after F f goes (ih left.0 left.1 e d_later rest later left.2)
forth_by S F Match weight w n f once ih near c choices close (source_goes {c_later = e} {d = d} step later less) run =
    let left : (k : ℕ) × (k < n) × Reaches S k e choices f = left_of_one S once c choices (next e choices) n f step run in
    ih left.0 left.1 e d choices later left.2
forth_by S F Match weight w n f once ih near c choices close (source_moves {c_later = e} {d = d} into out later less) run =
    near e d choices (omega (arith, less, close)) later (moved_run S c e choices n f into run)
forth_by S F Match weight w n f once ih near c choices close (flow_goes step inner) run = longer F f step (forth_by S F Match weight w n f once ih near c choices close inner run)
forth_by S F Match weight w n f once ih near c choices close (both_end {f = e} step goes) run = after F f goes (left_of_one S once c choices (last e) n f step run)
forth_by S F Match weight w zero f once ih near c choices close (both_wait waits never) run = absurd run
forth_by S F Match weight w (suc n) f once ih near c choices close (both_wait waits never) (inl s) = absurd (waits (last f) s)
forth_by S F Match weight w (suc n) f once ih near c choices close (both_wait waits never) (inr h) = absurd (waits (next h.0 h.1) h.2)
forth_by S F Match weight w zero f once ih near c choices close (both_choose into out) run = absurd run
forth_by S F Match weight w (suc n) f once ih near c choices close (both_choose {d = d} into out) (inl s) = let k = into (last f) s in joined_last F Match d choices f k.0 k.1 k.2
forth_by S F Match weight w (suc n) f once ih near c choices close (both_choose {d = d} into out) (inr h) =
    let k = into (next h.0 h.1) h.2 in joined_next F Match d choices f h.0 h.1 k.0 k.1 k.2 (λ e m. ih n (omega arith) h.0 e h.1 m h.3)

near_forth : {C D K : Type 0} (S : Machine C K) (F : Machine D K) (Match : C → D → Type 0) (weight : C → ℕ) → IsOnce S → AllPaired S F Match weight → (m : ℕ) (f : Final) → Forth S F Match m f → (w : ℕ) → NearForth S F Match weight w m f
near_forth S F Match weight once pairs m f ih zero c d choices close match run = absurd (omega (arith, close))
near_forth S F Match weight once pairs m f ih (suc w) c d choices close match run =
    forth_by S F Match weight w m f once ih (near_forth S F Match weight once pairs m f ih w) c choices close (pairs c d choices match) run

forth : {C D K : Type 0} (S : Machine C K) (F : Machine D K) (Match : C → D → Type 0) (weight : C → ℕ) → IsOnce S → AllPaired S F Match weight → (n : ℕ) (f : Final) → Forth S F Match n f
forth S F Match weight once pairs zero f m less c d choices match run = absurd (omega (arith, less))
forth S F Match weight once pairs (suc n) f m less c d choices match run =
    let smaller : Forth S F Match m f = λ k k_less. forth S F Match weight once pairs n f k (omega (arith, k_less, less)) in
    near_forth S F Match weight once pairs m f smaller (suc (weight c)) c d choices (omega arith) match run

back_by : {C D K : Type 0} (S : Machine C K) (F : Machine D K) (Match : C → D → Type 0) (weight : C → ℕ) (c : C) (choices : List K) (w m : ℕ) (f : Final) → IsOnce F → Back S F Match m f → NearBack S F Match weight w m f
    → weight c < suc w → {d : D} → Paired S F Match weight c choices d → Reaches F m d choices f → ComesTo S c choices f
back_by S F Match weight c choices w m f once ih near close (both_go {c_later = c_later} {d_later = e} {rest = rest} step goes later) run =
    let left : (k : ℕ) × (k < m) × Reaches F k e rest f = left_of F once m f goes run in
    longer S f step (ih left.0 left.1 c_later e rest later left.2)
back_by S F Match weight c choices w m f once ih near close (source_goes {c_later = c_later} {d = d} step later less) run =
    longer S f step (near c_later d choices (omega (arith, less, close)) later run)
back_by S F Match weight c choices w m f once ih near close (source_moves {c_later = e} {d = d} into out later less) run =
    let there : ComesTo S e choices f = near e d choices (omega (arith, less, close)) later run in
    (there.0, moved_run S e c choices there.0 f out there.1)
back_by S F Match weight c choices w m f once ih near close (flow_goes {d = d} {e = e} step inner) run =
    let left : (k : ℕ) × (k < m) × Reaches F k e choices f = left_of_one F once d choices (next e choices) m f step run in
    back_by S F Match weight c choices w left.0 f once (λ j less. ih j (omega (arith, less, left.1))) (λ x y more near_there match later. ih left.0 left.1 x y more match later) close inner left.2
back_by S F Match weight c choices w m f once ih near close (both_end {f = e} step goes) run = after_one S c choices (last e) f step (left_of F once m f goes run)
back_by S F Match weight c choices w m f once ih near close (both_wait waits never) run = absurd (never m f run)
back_by S F Match weight c choices w zero f once ih near close (both_choose into out) run = absurd run
back_by S F Match weight c choices w (suc m) f once ih near close (both_choose into out) (inl s) = let k = out (last f) s in rejoined_last S Match c choices f k.0 k.1 k.2
back_by S F Match weight c choices w (suc m) f once ih near close (both_choose into out) (inr h) =
    let k = out (next h.0 h.1) h.2 in rejoined_next S Match c choices f h.0 h.1 k.0 k.1 k.2 (λ e match. ih m (omega arith) e h.0 h.1 match h.3)

near_back : {C D K : Type 0} (S : Machine C K) (F : Machine D K) (Match : C → D → Type 0) (weight : C → ℕ) → IsOnce F → AllPaired S F Match weight → (m : ℕ) (f : Final) → Back S F Match m f → (w : ℕ) → NearBack S F Match weight w m f
near_back S F Match weight once pairs m f ih zero c d choices close match run = absurd (omega (arith, close))
near_back S F Match weight once pairs m f ih (suc w) c d choices close match run =
    back_by S F Match weight c choices w m f once ih (near_back S F Match weight once pairs m f ih w) close (pairs c d choices match) run

back : {C D K : Type 0} (S : Machine C K) (F : Machine D K) (Match : C → D → Type 0) (weight : C → ℕ) → IsOnce F → AllPaired S F Match weight → (n : ℕ) (f : Final) → Back S F Match n f
back S F Match weight once pairs zero f m less c d choices match run = absurd (omega (arith, less))
back S F Match weight once pairs (suc n) f m less c d choices match run =
    let smaller : Back S F Match m f = λ k k_less. back S F Match weight once pairs n f k (omega (arith, k_less, less)) in
    near_back S F Match weight once pairs m f smaller (suc (weight c)) c d choices (omega arith) match run

pub alike : {C D K : Type 0} (S : Machine C K) (F : Machine D K) (Match : C → D → Type 0) (weight : C → ℕ) → IsOnce S → IsOnce F → AllPaired S F Match weight
    → (c : C) (d : D) (choices : List K) (f : Final) → Match c d → ComesTo S c choices f ↔ ComesTo F d choices f
alike S F Match weight source_once flow_once pairs c d choices f match = (
  λ run. forth S F Match weight source_once pairs (suc run.0) f run.0 (omega arith) c d choices match run.1,
  λ run. back S F Match weight flow_once pairs (suc run.0) f run.0 (omega arith) c d choices match run.1,
)
