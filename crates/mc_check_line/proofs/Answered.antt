-- What is answered, as each family of rules has it.
use Rattle.std.proofs.Common.{◌≡◌, ℕ, Bool, true, false, List, [], Some, None, Ok, Err, refl, sym, ◌∙◌, ap, subst}
use Rattle.std.specs.Prelude.{Result, map, not, slice_get}
use Rattle.mc_base.specs.declared.ids.EdgeId.{EdgeId}
use Rattle.mc_base.specs.declared.ids.NodeId.{NodeId}
use Rattle.mc_check_line.specs.Jump.Fitting.{JumpsAreFits, fitting_to, unmet}
use Rattle.mc_kernel.specs.Branches.{Path, Setting, closes_by, with_state}
use Rattle.mc_kernel.specs.Judges.{and_need, by_folding, by_forgetting, by_logic, by_unfolding, ends, goal_is_free, jumping_to}
use Rattle.mc_state.specs.Known.{Test, is_false}
use Rattle.mc_state.specs.Premises.{Judged, have, need, then_give}
use Rattle.mc_state.specs.State.{State}
use Rattle.mc_check_line.specs.declared.branch.Next.{Next}
use Rattle.mc_check_line.specs.declared.branch.Refused.{Refused}
use Rattle.mc_check_line.specs.Judging.{IsLineAnswer}

-- a line that may stand
pub stands : (judged : Judged (List Path)) (b : Path) (answer : Result Next Refused) (may : Bool) → may ≡ true
    → IsLineAnswer judged b answer → IsLineAnswer (need 1 may judged) b answer
stands judged b answer may e h = subst (λ m. IsLineAnswer (need 1 m judged) b answer) (sym e) h

-- a rule that unfolds, where the branch is not closing
pub open_still : (judged : Judged (List State)) (b : Path) (answer : Result Next Refused) → b.closing ≡ false
    → IsLineAnswer (by_logic judged b) b answer → IsLineAnswer (by_unfolding judged b) b answer
open_still judged b answer e h = subst (λ closing. IsLineAnswer (need 1 (not closing) (by_logic judged b)) b answer) (sym e) h

-- a rule that folds, where it gives states
pub folds_to : (judged : Judged (List State)) (g : Setting) (b closed : Path) (states : List State) (list : List Path)
    → judged ≡ Ok states → closed ≡ record b { closing = closes_by g.form b.goal b.closing }
    → list ≡ map (with_state closed) states → by_folding judged g b ≡ Ok list
folds_to judged g b closed states list e same made =
    let given : List Path → Judged (List Path) = λ l. Ok l in
    ap (λ j. by_folding j g b) e ∙ sym (ap given made ∙ ap (λ c. given (map (with_state c) states)) same)

-- a premise after those of a rule, which is met
met_too : (judged : Judged (List Path)) → and_need 4 true judged ≡ judged
met_too (Ok next) = refl
met_too (Err k) = refl

-- a node that is forgotten, where no goal names it
pub forgets : (judged : Judged (List State)) (node : NodeId) (b : Path) (answer : Result Next Refused) → goal_is_free node b.goal ≡ true
    → IsLineAnswer (by_logic judged b) b answer → IsLineAnswer (by_forgetting judged node b) b answer
forgets judged node b answer free h =
    subst (λ j. IsLineAnswer j b answer) (sym (ap (λ f. and_need 4 f (by_logic judged b)) free ∙ met_too (by_logic judged b))) h

-- all premises of fitting are met
pub fitted : (judged : Judged (Unit {0})) → None ≡ unmet judged → then_give ends judged ≡ Ok []
fitted (Ok done) e = refl
fitted (Err k) e = absurd (cc e)

-- or one is the first that is not
pub unfitted : (judged : Judged (Unit {0})) (k : ℕ) → Some k ≡ unmet judged → then_give ends judged ≡ Err k
unfitted (Ok done) k e = absurd (cc e)
unfitted (Err m) k e = cc e

-- a jump whose premises up to 3 are met
pub jumps_fit : JumpsAreFits → (know : Test) (heads : List State) (j : ℕ) (images : List NodeId) (ids : List EdgeId) (b : Path)
    (answer : Result Next Refused) (may : Bool) (t : State) → may ≡ true → is_false know ≡ false → slice_get heads j ≡ Some t
    → IsLineAnswer (then_give ends (fitting_to know t images ids b.state)) b answer
    → IsLineAnswer (need 1 may (jumping_to know heads j images ids b.state)) b answer
jumps_fit law know heads j images ids b answer may t stood told there h =
    let s = b.state in
    let rest : State → Judged (List Path) = λ t. then_give ends (fitting_to know t images ids s) in
    let same : need 1 may (jumping_to know heads j images ids s) ≡ rest t =
    ap (λ m. need 1 m (jumping_to know heads j images ids s)) stood
    ∙ law know heads j images ids s
    ∙ ap (λ f. need 2 (not f) (have 3 (slice_get heads j) rest)) told
    ∙ ap (λ o. have 3 o rest) there in
    subst (λ judged. IsLineAnswer judged b answer) (sym same) h
