-- Where ways meet, in the finished flow graph.
use Rattle.std.proofs.Common.{◌≡◌, ℕ, suc, List, [], ◌∷◌, Some, None, refl, sym, ap, ◌∙◌, subst, length, map}
use Rattle.mc_base.specs.declared.ids.PointId.{PointId}
use Rattle.mc_base.specs.declared.ids.VarId.{VarId}
use Rattle.mc_base.specs.declared.text.place.Place.{Place}
use Rattle.mc_flow.specs.declared.instr.Instr.{Instr}
use Rattle.mc_flow.specs.declared.instr.Instr.TheVariants.{End, Fail, Skip}
use Rattle.mc_semantics.specs.Resolved.Programs.{Cond, Head, Right, Stmt, assert, assume, break_loop, continue_loop, returns, if_only, if_else, while_loop, do_loop, for_loop}
use Rattle.mc_lower_spec.specs.Graphs.{Graph, Role, plain, head, merge, stop, result, IsMade, Stage, stage, IsPoint, Appends, appends, Leaves}
use Rattle.mc_lower_spec.specs.Values.{Tests}
use Rattle.mc_lower_spec.specs.Lowering.{Around, Loop, SetsTo, breaks, continues, returns_nothing, returns_value, asserts, assumes, in_loop, Starts, Finishes, Lowers, ifs, ifs_else, whiles, dos, fors}
use Rattle.mc_lower.specs.Left.{EndsCall, ends_call, Checks, checks, Merges, merges, Otherwise, otherwise, ExitsTo, exits, EndsDo, ends_do, EndsFor, ends_for, TurnsFor, turns_for}
use Rattle.mc_lower.specs.Owned.{Forgets}
use Rattle.mc_lower.specs.Valued.{TestsOn, tests_on, TestsPerhapsOn, tests_perhaps_on}
use Rattle.mc_lower.specs.Worlds.{GoesTo, goes_to}

pub mapped_length : {A B : Type 0} (f : A → B) (xs : List A) → length (map f xs) ≡ length xs
mapped_length f [] = refl
mapped_length f (x ∷ xs) = ap suc (mapped_length f xs)

-- a point is appended where it is
pub appended_at : (g : Graph) (role : Role) (place : Place) (code : PointId → Instr) (a n k : ℕ) (u : Stage) → Appends g role place code (stage a n k) u → a ≡ n
appended_at g role place code _ _ _ _ (appends there) = refl

pub ended : (g : Graph) (out : ℕ) (place : Place) (count at k : ℕ) (s u : Stage) → at ≡ out → s ≡ stage at at k → Forgets g out place count s u
    → EndsCall g out place count s u
ended g out place count at k s u is from f =
    let here : s ≡ stage out out k = from ∙ ap (λ x. stage x x k) is in
    subst (λ x. EndsCall g out place count x u) (sym here) (ends_call (subst (λ x. Forgets g out place count x u) here f))

pub merged : (g : Graph) (place : Place) (at k : ℕ) (s u : Stage) → s ≡ stage at at k → Appends g merge place (λ q. Skip q) (stage at at k) u → Merges g place at s u
merged g place at k s u from there = subst (λ x. Merges g place at x u) (sym from) (merges there)

exited : (g : Graph) (place : Place) (b e n k : ℕ) (u : Stage) → Appends g plain place (λ q. Skip q) (stage e n k) u → ExitsTo g place b e (stage b n k) u
exited g place b _ _ _ _ (appends there) = exits (appends there)

pub exits_there : (g : Graph) (place : Place) (b e a n k : ℕ) (s u : Stage) → a ≡ e → GoesTo b s (stage a n k) → Appends g plain place (λ q. Skip q) (stage a n k) u
    → ExitsTo g place b e s u
exits_there g place b e _ _ _ _ u is (goes_to {a = a} {n = n} {k = k}) there =
    exited g place b e n k u (subst (λ x. Appends g plain place (λ q. Skip q) (stage x n k) u) is there)

pub otherwise_there : (other join a n k : ℕ) (s : Stage) → a ≡ other → GoesTo join s (stage a n k) → Otherwise other join s (stage a n k)
otherwise_there other join _ _ _ _ is (goes_to {a = a} {n = n} {k = k}) =
    subst (λ x. Otherwise other join (stage join n k) (stage x n k)) (sym is) otherwise

did : (g : Graph) (out : ℕ) (place : Place) (d : Cond) (b a n j e p l : ℕ) (m u : Stage) → Appends g plain place (λ q. Skip q) (stage a n j) m
    → Tests g out d m b e p l → Appends g plain place (λ q. Skip q) (stage e p l) u → EndsDo g out place d b a e (stage a n j) u
did g out place d b _ _ _ _ _ _ _ _ (appends there) tests (appends last) = ends_do (appends there) tests (appends last)

pub did_there : (g : Graph) (out : ℕ) (place : Place) (d : Cond) (b at j e a p l : ℕ) (s m u : Stage) → s ≡ stage at at j → Appends g plain place (λ q. Skip q) (stage at at j) m
    → Tests g out d m b e p l → a ≡ e → Appends g plain place (λ q. Skip q) (stage a p l) u → EndsDo g out place d b at e s u
did_there g out place d b at j e a p l s m u from there tests is last =
    subst (λ x. EndsDo g out place d b at e x u) (sym from)
    (did g out place d b at at j e p l m u there tests (subst (λ x. Appends g plain place (λ q. Skip q) (stage x p l) u) is last))

pub checked : (g : Graph) (out : ℕ) (role : Role) (place : Place) (code : Instr) (d : Cond) (s : Stage) (b f n m k j : ℕ) → Tests g out d s b f n k
    → f ≡ n → m ≡ suc n → j ≡ k → IsPoint g n role place code → Checks g out role place code d s (stage b m j)
checked g out role place code d s b f n m k j tests at more same there =
    subst (λ x. Checks g out role place code d s (stage b x j)) (sym more)
    (subst (λ x. Checks g out role place code d s (stage b (suc n) x)) (sym same)
    (checks (subst (λ x. Tests g out d s b x n k) at tests) there))

turned : (g : Graph) (out : ℕ) (h : Head) (b a n k e : ℕ) (r m u : Stage) → Appends g plain h.place (λ q. Skip q) (stage a n k) r
    → Finishes g out h.last r m → EndsFor g out h b e m u → TurnsFor g out h b a e (stage a n k) u
turned g out h b _ _ _ e r m u (appends there) last ends = turns_for (appends there) last ends

pub turned_there : (g : Graph) (out : ℕ) (h : Head) (b at k e : ℕ) (s r m u : Stage) → s ≡ stage at at k → Appends g plain h.place (λ q. Skip q) (stage at at k) r
    → Finishes g out h.last r m → EndsFor g out h b e m u → TurnsFor g out h b at e s u
turned_there g out h b at k e s r m u from there last ends =
    subst (λ x. TurnsFor g out h b at e x u) (sym from) (turned g out h b at at k e r m u there last ends)

-- ---- jumps
pub broken : (g : Graph) (c : Around) (place : Place) (l : Loop) (s m u : Stage) → c.loop ≡ Some l → Leaves g c.out place c.blocks s m → GoesTo l.exit m u
    → Lowers g c (break_loop place) s u
broken g c place l s _ _ is left goes_to = breaks is left

pub continued : (g : Graph) (c : Around) (place : Place) (l : Loop) (s m u : Stage) → c.loop ≡ Some l → Leaves g c.out place c.blocks s m → GoesTo l.turn m u
    → Lowers g c (continue_loop place) s u
continued g c place l s _ _ is left goes_to = continues is left

pub returned_nothing : (g : Graph) (c : Around) (place : Place) (s u : Stage) → GoesTo c.out s u → Lowers g c (returns place None) s u
returned_nothing g c place _ _ goes_to = returns_nothing

pub returned_value : (g : Graph) (c : Around) (place : Place) (right : Right) (v : VarId) (s m u : Stage) → IsMade g (result c.out) v s
    → SetsTo g c.out place v right s m → GoesTo c.out m u → Lowers g c (returns place (Some right)) s u
returned_value g c place right v s _ _ made set goes_to = returns_value made set

pub checked_fail : (g : Graph) (c : Around) (place : Place) (d : Cond) (s u : Stage) → Checks g c.out plain place Fail d s u → Lowers g c (assert place d) s u
checked_fail g c place d s _ (checks tests there) = asserts tests there

pub checked_end : (g : Graph) (c : Around) (place : Place) (d : Cond) (s u : Stage) → Checks g c.out stop place End d s u → Lowers g c (assume place d) s u
checked_end g c place d s _ (checks tests there) = assumes tests there

-- ---- statements with statements inside
pub if_met : (g : Graph) (c : Around) (place : Place) (d : Cond) (a : Stmt) (n : ℕ) (s r m u : Stage) → TestsOn g c.out d n s r → Lowers g c a r m
    → Merges g place n m u → Lowers g c (if_only place d a) s u
if_met g c place d a _ _ _ _ _ (tests_on tests) body (merges last) = ifs tests body last

pub if_else_met : (g : Graph) (c : Around) (place : Place) (d : Cond) (a b : Stmt) (f n : ℕ) (s r m i j u : Stage) → TestsOn g c.out d f s r
    → Lowers g c a r m → Otherwise f n m i → Lowers g c b i j → Merges g place n j u → Lowers g c (if_else place d a b) s u
if_else_met g c place d a b _ _ _ _ _ _ _ _ (tests_on tests) body otherwise other (merges last) = ifs_else tests body other last

pub while_met : (g : Graph) (c : Around) (place : Place) (d : Cond) (a : Stmt) (b n k e : ℕ) (s r m u : Stage)
    → Appends g head place (λ q. Skip q) (stage b n k) s → TestsOn g c.out d e s r → Lowers g (in_loop c e b) a r m → ExitsTo g place b e m u
    → Lowers g c (while_loop place d a) (stage b n k) u
while_met g c place d a _ _ _ _ _ _ _ _ (appends there) (tests_on tests) body (exits last) = whiles (appends there) tests body last

pub do_met : (g : Graph) (c : Around) (place : Place) (d : Cond) (a : Stmt) (b n k i e : ℕ) (s m u : Stage)
    → Appends g head place (λ q. Skip q) (stage b n k) s → Lowers g (in_loop c e i) a s m → EndsDo g c.out place d b i e m u
    → Lowers g c (do_loop place a d) (stage b n k) u
do_met g c place d a _ _ _ _ _ _ _ _ (appends there) body (ends_do turn tests last) = dos (appends there) body turn tests last

pub for_met : (g : Graph) (c : Around) (h : Head) (a : Stmt) (b n k i e : ℕ) (r s m t u : Stage) → Starts g c.function c.out h.start r (stage b n k)
    → Appends g head h.place (λ q. Skip q) (stage b n k) s → TestsPerhapsOn g c.out h.condition e s m → Lowers g (in_loop c e i) a m t
    → TurnsFor g c.out h b i e t u → Lowers g c (for_loop h a) r u
for_met g c h a _ _ _ _ _ _ _ _ _ _ starts (appends there) (tests_perhaps_on tests) body (turns_for turn last (ends_for (exits last_point) gone)) =
    fors starts (appends there) tests body turn last last_point gone
