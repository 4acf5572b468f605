-- Rows of statements are passed over, and values are passed.
use Rattle.std.proofs.Common.{◌≡◌, ℕ, ◌-◌, ◌+◌, ◌<◌, ◌≤◌, ℤ, List, [], ◌∷◌, ◌++◌, length, map, drop, Option, Some, None, zero, suc, refl, sym, ap, ◌∙◌, append_assoc, add-one, get_or, arith}
use Rattle.mc_semantics.specs.Resolved.Programs.{Local, Stmts, no_more, then}
use Rattle.mc_semantics.specs.Resolved.Configs.{Values, Tasks}
use Rattle.mc_semantics.specs.Resolved.Moves.{in_a_row, behind_loop, at_turn}
use Rattle.mc_semantics.specs.Resolved.Steps.{passed, returning}
use Rattle.mc_semantics.specs.Resolved.Views.{statement_of, stmts_of}
use Rattle.mc_run_values.specs.Tasks.Left.{left}
use Rattle.mc_run_values.specs.declared.tasks.tasks.Task.{Task}

pub behind_row : (values : Values) (ss : Stmts) (rest : Tasks) → behind_loop values (in_a_row ss rest) ≡ behind_loop values rest
behind_row values no_more rest = refl
behind_row values (then a more) rest = behind_row values more rest

pub turn_row : (values : Values) (ss : Stmts) (rest : Tasks) → at_turn values (in_a_row ss rest) ≡ at_turn values rest
turn_row values no_more rest = refl
turn_row values (then a more) rest = turn_row values more rest

pub returning_row : (ss : Stmts) (rest : Tasks) (v : Option ℤ) → returning (in_a_row ss rest) v ≡ returning rest v
returning_row no_more rest v = refl
returning_row (then a more) rest v = returning_row more rest v

-- ---- a row on top of the stack
pub behind_passes : (values : Values) (before after : List Task) (t : Task) (a : _) (more : _) → before ≡ t ∷ after → t ≡ Task.Perform a more
    → behind_loop values (left before) ≡ behind_loop values (left after)
behind_passes values before after t a more top is =
    ap (λ (ts : List Task). behind_loop values (left ts)) (top ∙ ap (λ (u : Task). u ∷ after) is)
    ∙ behind_row values (stmts_of (map statement_of more.now)) (left after)

pub turn_passes : (values : Values) (before after : List Task) (t : Task) (a : _) (more : _) → before ≡ t ∷ after → t ≡ Task.Perform a more
    → at_turn values (left before) ≡ at_turn values (left after)
turn_passes values before after t a more top is =
    ap (λ (ts : List Task). at_turn values (left ts)) (top ∙ ap (λ (u : Task). u ∷ after) is)
    ∙ turn_row values (stmts_of (map statement_of more.now)) (left after)

pub returning_passes : (v : Option ℤ) (before after : List Task) (t : Task) (a : _) (more : _) → before ≡ t ∷ after → t ≡ Task.Perform a more
    → returning (left before) v ≡ returning (left after) v
returning_passes v before after t a more top is =
    ap (λ (ts : List Task). returning (left ts) v) (top ∙ ap (λ (u : Task). u ∷ after) is)
    ∙ returning_row (stmts_of (map statement_of more.now)) (left after) v

-- ---- the passing of arguments
pub passed_none : (n : ℕ) (x : Local) (xs : List Local) (vs : List ℤ) → n ≡ 0 → passed n (x ∷ xs) vs ≡ None ∷ passed n xs vs
passed_none zero x xs vs h = refl
passed_none (suc n) x xs vs h = absurd (omega arith)

pub passed_missing : (n : ℕ) (x : Local) (xs : List Local) → 0 < n → passed n (x ∷ xs) [] ≡ None ∷ passed (n - 1) xs []
passed_missing zero x xs h = absurd (omega arith)
passed_missing (suc n) x xs h = let e : suc n - 1 ≡ n = omega arith in rw e refl

pub passed_given : (n : ℕ) (x : Local) (xs : List Local) (v : ℤ) (vs : List ℤ) → 0 < n → passed n (x ∷ xs) (v ∷ vs) ≡ Some v ∷ passed (n - 1) xs vs
passed_given zero x xs v vs h = absurd (omega arith)
passed_given (suc n) x xs v vs h = let e : suc n - 1 ≡ n = omega arith in rw e refl

rest_of : (xs : List Local) (i : ℕ) (n m : ℕ) (vs ws : List ℤ) (v : Option ℤ) → i < length xs
    → ((x : Local) (more : List Local) → passed n (x ∷ more) vs ≡ v ∷ passed m more ws)
    → passed n (drop i xs) vs ≡ v ∷ passed m (drop (suc i) xs) ws
rest_of [] i n m vs ws v inside one = absurd (omega arith)
rest_of (x ∷ xs) zero n m vs ws v inside one = one x xs
rest_of (x ∷ xs) (suc i) n m vs ws v inside one = rest_of xs i n m vs ws v (omega arith) one

-- one more value is there
pub passing_step : (xs : List Local) (i : ℕ) (before all : Values) (n m : ℕ) (vs ws : List ℤ) (v : Option ℤ) → i < length xs
    → ((x : Local) (more : List Local) → passed n (x ∷ more) vs ≡ v ∷ passed m more ws) → before ++ passed n (drop i xs) vs ≡ all
    → (before ++ v ∷ []) ++ passed m (drop (i + 1) xs) ws ≡ all
passing_step xs i before all n m vs ws v inside one h = rw add-one (
    append_assoc before (v ∷ []) (passed m (drop (suc i) xs) ws)
    ∙ (ap (λ (more : Values). before ++ more) (sym (rest_of xs i n m vs ws v inside one)) ∙ h))

-- ---- the first item of several
pub first_of : {A : Type 0} (xs : List A) (x : A) → 1 ≤ length xs → x ≡ get_or xs 0 x → xs ≡ x ∷ drop 1 xs
first_of [] x some here = absurd (omega arith)
first_of (y ∷ ys) x some here = ap (λ (z : _). z ∷ ys) (sym here)
