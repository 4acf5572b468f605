-- Each point goes on to points after it, or to loop heads; loop heads and the points where ways meet are Skips.
use Rattle.std.proofs.Common.{◌≡◌, ◌<◌, ◌≤◌, ◌⊎◌, ℕ, suc, List, [], ◌∷◌, Option, Some, refl, sym, ap, ◌∙◌, subst, length, option_map, arith, inl, inr}
use Rattle.std.proofs.lemmas.Bool.{cases_lt}
use Rattle.std.proofs.lemmas.List.Elements.{All-nil, All-cons, All-weaker}
use Rattle.std.proofs.lemmas.Option.{same_Some, slice_get_within}
use Rattle.std.specs.Prelude.{All, Contains, slice_get}
use Rattle.mc_base.specs.declared.ids.PointId.{PointId}
use Rattle.mc_base.specs.declared.ids.VarId.{VarId}
use Rattle.mc_base.specs.declared.plain.Kind.{Kind}
use Rattle.mc_base.specs.declared.plain.VarInfo.{VarInfo}
use Rattle.mc_c_syntax.specs.declared.ast.trees.Comparison.{Comparison}
use Rattle.mc_c_syntax.specs.declared.ast.trees.Comparison.TheVariants.{Equal, Unequal, Below, AtMost, Above, AtLeast}
use Rattle.mc_base.specs.declared.text.place.Place.{Place}
use Rattle.mc_flow.specs.declared.graph.Flow.{Flow}
use Rattle.mc_flow.specs.declared.graph.Point.{Point}
use Rattle.mc_flow.specs.declared.instr.Instr.{Instr}
use Rattle.mc_flow.specs.declared.instr.Instr.TheVariants.{Skip, End}
use Rattle.mc_flow.specs.declared.instr.Operand.{Operand}
use Rattle.mc_flow.specs.Valid.{GoesOn, IsSkip, targets}
use Rattle.mc_semantics.specs.Resolved.Programs.{FieldAt, Left, Expr, Cond, Call, Right, Action, Simple, Initial, Start, Stmt, Stmts, Function}
use Rattle.mc_lower_spec.proofs.Stages.{goal_of, points_of}
use Rattle.mc_lower_spec.specs.Graphs.{Graph, Owner, Role, plain, head, merge, stop, Stage, stage, point, IsPoint, Appends, appends, Undefines, undefines_none, undefines, Creates, creates, Uses, uses_first, uses_again, Leaves, leaves}
use Rattle.mc_lower_spec.specs.Values.{Operation, an_input, a_field, a_sum, a_difference, a_product, sets, decides, Takes, takes, Walks, walks_none, walks, Evaluates, of_number, of_variable, of_operation, Computes, of_input, of_field, of_minus, of_times, of_plus, of_difference, EvaluatesAll, evaluates_none, evaluates_next, Compares, compares, Tests, tests_plain, tests_compare, tests_negation, tests_both, tests_either, TestsPerhaps, tests_always, tests_once, Puts, puts_variable, puts_field}
use Rattle.mc_lower_spec.specs.Lowering.{Around, Loop, in_body, in_block, in_loop, SetsTo, sets_operand, sets_computed, sets_allocated, Assigns, assigns_variable, assigns_field, assigns_allocated, Changes, changes_variable, changes_field}
use Rattle.mc_lower_spec.specs.Lowering.{Receives, receives_none, receives, Passes, passes_none, passes, Awaits, awaits_none, awaits, Calls, calls, Performs, performs_assign, performs_result, performs_add, performs_subtract, performs_call}
use Rattle.mc_lower_spec.specs.Lowering.{Declares, declares_none, declares_undefined, declares_value, Starts, starts_nothing, starts_declaring, starts_performing, Finishes, finishes_none, finishes}
use Rattle.mc_lower_spec.specs.Lowering.{Lowers, declarations, blocks, empties, simples, frees, asserts, assumes, shapes_assumed, shapes_asserted, emptiness_asserted, ifs, ifs_else, whiles, dos, fors, breaks, continues, returns_nothing, returns_value, returns_result, LowersAll, lowers_none, lowers_next}
use Rattle.mc_lower_spec.specs.Lowering.{Answers, answers_none, answers, Falls, falls_in_main, falls, Makes, makes, AreOfRole, IsLowering}
use Rattle.mc_lower_spec.proofs.Growing as grown

-- there is a first point, each point goes on to points after it or to loop heads, and loop heads and the points where
-- ways meet are Skips
pub record GoesOnWell (flow : Flow) : Type 0 where
  pub begins : 0 < length flow.points
  pub follows : (p : ℕ) (point : Point) → slice_get flow.points p ≡ Some point → All (GoesOn flow p) (targets point.code)
  pub heads : All (IsSkip flow.points) flow.heads
  pub merges : All (IsSkip flow.points) flow.merges

-- ---- points
-- loop heads and the points where ways meet are Skips
abbrev SkipsAs : Role → Instr → Type 0
SkipsAs plain code = Unit {0}
SkipsAs head code = (q : PointId) × (code ≡ Skip q)
SkipsAs merge code = (q : PointId) × (code ≡ Skip q)
SkipsAs stop code = Unit {0}

-- a point is as it should be
record GoesAt (g : Graph) (n : ℕ) : Type 0 where
  role : Role
  place : Place
  code : Instr
  is : IsPoint g n role place code
  follows : All (GoesOn g.flow n) (targets code)
  skips : SkipsAs role code

-- whatever is before n may go on to q
record Reaches (g : Graph) (n q : ℕ) : Type 0 where
  inside : q < length g.flow.points
  forward : (n ≤ q) ⊎ Contains g.flow.heads (point q)

record Between (g : Graph) (n m : ℕ) : Type 0 where
  at : (p : ℕ) → n ≤ p → p < m → GoesAt g p

-- whatever is before n may go on to a, and the points from n to m are as they should be
record Goes (g : Graph) (a n m : ℕ) : Type 0 where
  reaches : Reaches g n a
  points : Between g n m

abbrev Onward : Graph → Stage → Stage → Type 0
Onward g s u = Reaches g (points_of u) (goal_of u) → Goes g (goal_of s) (points_of s) (points_of u)

earlier : {g : Graph} {n m q : ℕ} → n ≤ m → Reaches g m q → Reaches g n q
earlier le r =
    record {
      inside = r.inside;
      forward = elim r.forward [
        | inl behind ↦ inl (omega arith)
        | inr is_head ↦ inr is_head
      ];
    }

goes_on : {g : Graph} {n b : ℕ} → Reaches g (suc n) b → GoesOn g.flow n (point b)
goes_on r = (
  r.inside,
  elim r.forward [
    | inl behind ↦ inl (omega arith)
    | inr is_head ↦ inr is_head
  ],
)

both_between : {g : Graph} {n m l : ℕ} → Between g n m → Between g m l → Between g n l
both_between {m = m} first second =
    record {
      at = λ p le lt. elim (cases_lt p m) [
        | inl low ↦ first.at p le low
        | inr high ↦ second.at p (omega arith) lt
      ];
    }

none_between : {g : Graph} {n : ℕ} → Between g n n
none_between = record { at = λ p le lt. absurd (omega arith) }

one_between : {g : Graph} {n : ℕ} → GoesAt g n → Between g n (suc n)
one_between {g = g} {n = n} is = record { at = λ p le lt. let same : n ≡ p = omega arith in subst (λ i. GoesAt g i) same is }

on : {g : Graph} {a n m l : ℕ} → Goes g a n m → Between g m l → Goes g a n l
on first rest = record { reaches = first.reaches; points = both_between first.points rest }

same : {g : Graph} (s : Stage) → Onward g s s
same (stage a n k) r = record { reaches = r; points = none_between }

there : {g : Graph} {n : ℕ} {role : Role} {place : Place} {code : Instr} → IsPoint g n role place code → Reaches g n n
there {g = g} {n = n} is = record { inside = slice_get_within g.flow.points n _ is.there; forward = inl (omega arith) }

-- one point, which goes on to one
abbrev GoesToOne : Role → (PointId → Instr) → Type 0
GoesToOne role code = (q : PointId) → (targets (code q) ≡ q ∷ []) × SkipsAs role (code q)

appended : {g : Graph} {role : Role} {place : Place} {code : PointId → Instr} {s u : Stage} → GoesToOne role code → Appends g role place code s u → Onward g s u
appended {g = g} {role = role} {place = place} {code = code} one (appends {n = n} {b = b} is) r =
    record {
      reaches = there is;
      points = one_between (record {
        role = role;
        place = place;
        code = code (point b);
        is = is;
        follows = subst (λ qs. All (GoesOn g.flow n) qs) (sym (one (point b)).0)
            (All-cons (GoesOn g.flow n) (point b) [] (goes_on r) (All-nil (GoesOn g.flow n)));
        skips = (one (point b)).1;
      });
    }

-- one point that nothing follows
ended : {g : Graph} {n : ℕ} {role : Role} {place : Place} {code : Instr} → targets code ≡ [] → SkipsAs role code → IsPoint g n role place code → Between g n (suc n)
ended {g = g} {n = n} {role = role} {place = place} {code = code} none skips is =
    one_between (record {
      role = role;
      place = place;
      code = code;
      is = is;
      follows = subst (λ qs. All (GoesOn g.flow n) qs) (sym none) (All-nil (GoesOn g.flow n));
      skips = skips;
    })

undefined : {g : Graph} {place : Place} {vs : List VarId} {s u : Stage} → Undefines g place vs s u → Onward g s u
undefined {s = s} undefines_none r = same s r
undefined (undefines is) r = appended (λ q. (refl, tt)) is r

left : {g : Graph} {out : ℕ} {place : Place} {xs : List ℕ} {s u : Stage} → Leaves g out place xs s u → Onward g s u
left (leaves made undone) r = undefined undone r

-- ---- variables alone
created : {g : Graph} {owner : Owner} {info : VarInfo} {s u : Stage} {v : VarId} {l : ℕ} → Creates g owner info s v u
    → Goes g (goal_of u) (points_of u) l → Goes g (goal_of s) (points_of s) l
created (creates owned info) rest = rest

used : {g : Graph} {j : ℕ} {kind : Kind} {s u : Stage} {v : VarId} {l : ℕ} → Uses g j kind s v u
    → Goes g (goal_of u) (points_of u) l → Goes g (goal_of s) (points_of s) l
used (uses_first is) rest = created is rest
used (uses_again is) rest = rest

received : {g : Graph} {f : Function} {out x parameters : ℕ} {s u : Stage} {vs : List VarId} {l : ℕ} → Receives g f out x parameters s vs u
    → Goes g (goal_of u) (points_of u) l → Goes g (goal_of s) (points_of s) l
received receives_none rest = rest
received (receives is creating more) rest = created creating (received more rest)

-- ---- expressions
one_sets : (operation : Operation) (x : VarId) → GoesToOne plain (λ q. sets operation x q)
one_sets an_input x q = (refl, tt)
one_sets (a_field y f) x q = (refl, tt)
one_sets (a_sum a b) x q = (refl, tt)
one_sets (a_difference a b) x q = (refl, tt)
one_sets (a_product a b) x q = (refl, tt)

taken : {g : Graph} {place : Place} {kind : Kind} {operation : Operation} {ts us : List VarId} {s u : Stage} {t : VarId} → Takes g place kind operation ts s t us u → Onward g s u
taken {operation = operation} {t = t} (takes uses is) r = used uses (appended (one_sets operation t) is r)

walked : {g : Graph} {place : Place} {y z : VarId} {fs : List FieldAt} {ts us : List VarId} {s u : Stage} {last : FieldAt} → Walks g place y fs ts s z last us u → Onward g s u
walked {s = s} walks_none r = same s r
walked (walks kind first rest) r = let two = walked rest r in on (taken first two.reaches) two.points

mutual
  evaluated : {g : Graph} {out : ℕ} {place : Place} {e : Expr} {ts us : List VarId} {s u : Stage} {o : Operand} → Evaluates g out place e ts s o us u → Onward g s u
  evaluated {s = s} of_number r = same s r
  evaluated {s = s} (of_variable made) r = same s r
  evaluated (of_operation first rest) r = let two = taken rest r in on (computed first two.reaches) two.points

  computed : {g : Graph} {out : ℕ} {place : Place} {e : Expr} {ts us : List VarId} {s u : Stage} {kind : Kind} {operation : Operation} → Computes g out place e ts s kind operation us u → Onward g s u
  computed {s = s} of_input r = same s r
  computed (of_field made walk kind) r = walked walk r
  computed (of_minus first) r = evaluated first r
  computed (of_times first second) r = let two = evaluated second r in on (evaluated first two.reaches) two.points
  computed (of_plus first second) r = let two = evaluated second r in on (evaluated first two.reaches) two.points
  computed (of_difference first second) r = let two = evaluated second r in on (evaluated first two.reaches) two.points

all_evaluated : {g : Graph} {out : ℕ} {place : Place} {es : List Expr} {ts us : List VarId} {s u : Stage} {os : List Operand} → EvaluatesAll g out place es ts s os us u → Onward g s u
all_evaluated {s = s} evaluates_none r = same s r
all_evaluated (evaluates_next first rest) r = let two = all_evaluated rest r in on (evaluated first two.reaches) two.points

-- ---- conditions
pair_follows : (P : PointId → Type 0) (x y : PointId) → P x → P y → All P (x ∷ y ∷ [])
pair_follows P x y first second = All-cons P x (y ∷ []) first (All-cons P y [] second (All-nil P))

two_follow : (g : Graph) (n y z : ℕ) (c : Comparison) (a b : Operand) → GoesOn g.flow n (point y) → GoesOn g.flow n (point z)
    → All (GoesOn g.flow n) (targets (decides c a b (point y) (point z)))
two_follow g n y z Equal a b t f = pair_follows (GoesOn g.flow n) (point y) (point z) t f
two_follow g n y z Unequal a b t f = pair_follows (GoesOn g.flow n) (point z) (point y) f t
two_follow g n y z Below a b t f = pair_follows (GoesOn g.flow n) (point z) (point y) f t
two_follow g n y z AtMost a b t f = pair_follows (GoesOn g.flow n) (point y) (point z) t f
two_follow g n y z Above a b t f = pair_follows (GoesOn g.flow n) (point z) (point y) f t
two_follow g n y z AtLeast a b t f = pair_follows (GoesOn g.flow n) (point y) (point z) t f

compared : {g : Graph} {place : Place} {c : Comparison} {a b : Operand} {ts : List VarId} {s : Stage} {t f n k : ℕ} → Compares g place c a b ts s t f n k
    → Reaches g n t → Reaches g n f → Goes g (goal_of s) (points_of s) n
compared {g = g} {place = place} {c = c} {a = a} {b = b} (compares {n = n} {y = y} {z = z} is first second) rt rf =
    let false_side = undefined second rf in
    let second_grows = grown.undefined second in
    let first_grows = grown.undefined first in
    let true_side = undefined first (earlier second_grows.points rt) in
    record {
      reaches = there is;
      points = both_between (one_between (record {
        role = plain;
        place = place;
        code = decides c a b (point y) (point z);
        is = is;
        follows = two_follow g n y z c a b (goes_on true_side.reaches) (goes_on (earlier first_grows.points false_side.reaches));
        skips = tt;
      })) (both_between true_side.points false_side.points);
    }

tested : {g : Graph} {out : ℕ} {c : Cond} {s : Stage} {t f n k : ℕ} → Tests g out c s t f n k → Reaches g n t → Reaches g n f → Goes g (goal_of s) (points_of s) n
tested (tests_plain first test) rt rf = let two = compared test rt rf in on (evaluated first two.reaches) two.points
tested (tests_compare first second test) rt rf =
    let three = compared test rt rf in
    let two = evaluated second three.reaches in
    on (on (evaluated first two.reaches) two.points) three.points
tested (tests_negation test) rt rf = tested test rf rt
tested (tests_both {a = a} {m = m} {j = j} first second) rt rf =
    let two = tested second rt rf in
    let grows = grown.tested second in
    on (tested first two.reaches (earlier grows.points rf)) two.points
tested (tests_either {a = a} {m = m} {j = j} first second) rt rf =
    let two = tested second rt rf in
    let grows = grown.tested second in
    on (tested first (earlier grows.points rt) two.reaches) two.points

tested_perhaps : {g : Graph} {out : ℕ} {c : Option Cond} {s : Stage} {t f n k : ℕ} → TestsPerhaps g out c s t f n k → Reaches g n t → Reaches g n f
    → Goes g (goal_of s) (points_of s) n
tested_perhaps {s = s} tests_always rt rf = same s rt
tested_perhaps (tests_once test) rt rf = tested test rt rf

-- ---- assignments
put : {g : Graph} {out : ℕ} {place : Place} {l : Left} {o : Operand} {ts : List VarId} {s u : Stage} → Puts g out place l o ts s u → Onward g s u
put (puts_variable made is undone) r =
    let two = undefined undone r in on (appended (λ q. (refl, tt)) is two.reaches) two.points
put (puts_field made walk is undone) r =
    let three = undefined undone r in
    let two = appended (λ q. (refl, tt)) is three.reaches in
    on (on (walked walk two.reaches) two.points) three.points

set : {g : Graph} {out : ℕ} {place : Place} {v : VarId} {right : Right} {s u : Stage} → SetsTo g out place v right s u → Onward g s u
set (sets_operand value is) r = appended (λ q. (refl, tt)) is r
set {v = v} (sets_computed {operation = operation} value is undone) r =
    let three = undefined undone r in
    let two = appended (one_sets operation v) is three.reaches in
    on (on (computed value two.reaches) two.points) three.points
set (sets_allocated count is) r = appended (λ q. (refl, tt)) is r

assigned : {g : Graph} {out : ℕ} {place : Place} {l : Left} {right : Right} {s u : Stage} → Assigns g out place l right s u → Onward g s u
assigned (assigns_variable made sets) r = set sets r
assigned (assigns_field value puts) r = let two = put puts r in on (evaluated value two.reaches) two.points
assigned (assigns_allocated count uses is puts) r =
    let two = put puts r in used uses (on (appended (λ q. (refl, tt)) is two.reaches) two.points)

changed : {g : Graph} {out : ℕ} {place : Place} {operation : Operand → Operand → Operation} {l : Left} {e : Expr} {s u : Stage}
    → Changes g out place operation l e s u → Onward g s u
changed (changes_variable value made is undone) r =
    let three = undefined undone r in
    let two = appended (one_sets _ _) is three.reaches in
    on (on (evaluated value two.reaches) two.points) three.points
changed (changes_field value made walk kind loads computes is undone) r =
    let six = undefined undone r in
    let five = appended (λ q. (refl, tt)) is six.reaches in
    let four = taken computes five.reaches in
    let three = taken loads four.reaches in
    let two = walked walk three.reaches in
    on (on (on (on (on (evaluated value two.reaches) two.points) three.points) four.points) five.points) six.points

-- ---- calls
passed : {g : Graph} {place : Place} {vs : List VarId} {os : List Operand} {s u : Stage} → Passes g place vs os s u → Onward g s u
passed {s = s} passes_none r = same s r
passed (passes is rest) r = let two = passed rest r in on (appended (λ q. (refl, tt)) is two.reaches) two.points

awaited : {g : Graph} {out : ℕ} {place : Place} {kind : Option Kind} {s u : Stage} {v : Option VarId} → Awaits g out place kind s v u → Onward g s u
awaited {s = s} awaits_none r = same s r
awaited (awaits creating is) r = created creating (appended (λ q. (refl, tt)) is r)

-- where statements may jump to
record Jumps (g : Graph) (c : Around) (n : ℕ) : Type 0 where
  out : Reaches g n c.out
  exit : (l : Loop) → c.loop ≡ Some l → Reaches g n l.exit
  turn : (l : Loop) → c.loop ≡ Some l → Reaches g n l.turn

jumps_earlier : {g : Graph} {c : Around} {n m : ℕ} → n ≤ m → Jumps g c m → Jumps g c n
jumps_earlier le j = record { out = earlier le j.out; exit = λ l is. earlier le (j.exit l is); turn = λ l is. earlier le (j.turn l is) }

jumps_in_body : {g : Graph} (f : Function) {out n : ℕ} → Reaches g n out → Jumps g (in_body f out) n
jumps_in_body f r = record { out = r; exit = λ l is. absurd (cc is); turn = λ l is. absurd (cc is) }

jumps_in_block : {g : Graph} {c : Around} {n : ℕ} (xs : List ℕ) → Jumps g c n → Jumps g (in_block c xs) n
jumps_in_block xs j = record { out = j.out; exit = j.exit; turn = j.turn }

jumps_in_loop : {g : Graph} {c : Around} {n e t : ℕ} → Reaches g n e → Reaches g n t → Jumps g c n → Jumps g (in_loop c e t) n
jumps_in_loop {g = g} {n = n} {e = e} {t = t} re rt j =
    record {
      out = j.out;
      exit = λ l is. subst (λ (x : Loop). Reaches g n x.exit) (same_Some _ _ is) re;
      turn = λ l is. subst (λ (x : Loop). Reaches g n x.turn) (same_Some _ _ is) rt;
    }

abbrev Heads : Graph → Type 0
Heads g = AreOfRole g head g.flow.heads

-- a loop's head may follow whatever point
head_reached : {g : Graph} {n m : ℕ} {place : Place} {code : Instr} → Heads g → IsPoint g n head place code → Reaches g m n
head_reached {n = n} heads is = record { inside = (there is).inside; forward = inr (heads.all n is.is) }

head_point : {g : Graph} {role : Role} {place : Place} {code : PointId → Instr} {r s : Stage} → Appends g role place code r s
    → (b : ℕ) × IsPoint g (points_of r) role place (code (point b))
head_point (appends {b = b} is) = (b, is)

mutual
  called : {g : Graph} {out : ℕ} {place : Place} {c : Call} {s u : Stage} {ret : Option VarId} → Heads g → Calls g out place c s ret u → Onward g s u
  called heads (calls {f = f} is parameters values copies undone waiting body made ends) r =
      let seven = appended (λ q. (refl, tt)) ends r in
      let six = all_lowered heads body (jumps_in_body f seven.reaches) seven.reaches in
      let five = awaited waiting six.reaches in
      let four = undefined undone five.reaches in
      let three = passed copies four.reaches in
      let two = all_evaluated values three.reaches in
      received parameters (on (on (on (on (on two three.points) four.points) five.points) six.points) seven.points)

  performed : {g : Graph} {out : ℕ} {place : Place} {action : Action} {s u : Stage} → Heads g → Performs g out place action s u → Onward g s u
  performed heads (performs_assign assigns) r = assigned assigns r
  performed heads (performs_result inner puts undone) r =
      let three = undefined undone r in
      let two = put puts three.reaches in
      on (on (called heads inner two.reaches) two.points) three.points
  performed heads (performs_add changes) r = changed changes r
  performed heads (performs_subtract changes) r = changed changes r
  performed heads (performs_call inner) r = called heads inner r

  declared : {g : Graph} {f : Function} {out : ℕ} {place : Place} {items : List Initial} {s u : Stage} → Heads g → Declares g f out place items s u → Onward g s u
  declared {s = s} heads declares_none r = same s r
  declared heads (declares_undefined is creating undone rest) r =
      let two = declared heads rest r in created creating (on (appended (λ q. (refl, tt)) undone two.reaches) two.points)
  declared heads (declares_value is creating performs rest) r =
      let two = declared heads rest r in created creating (on (performed heads performs two.reaches) two.points)

  started : {g : Graph} {f : Function} {out : ℕ} {start : Start} {s u : Stage} → Heads g → Starts g f out start s u → Onward g s u
  started {s = s} heads starts_nothing r = same s r
  started heads (starts_declaring declares) r = declared heads declares r
  started heads (starts_performing performs) r = performed heads performs r

  finished : {g : Graph} {out : ℕ} {last : Option Simple} {s u : Stage} → Heads g → Finishes g out last s u → Onward g s u
  finished {s = s} heads finishes_none r = same s r
  finished heads (finishes performs) r = performed heads performs r

  lowered : {g : Graph} {c : Around} {a : Stmt} {s u : Stage} → Heads g → Lowers g c a s u → Jumps g c (points_of u) → Onward g s u
  lowered heads (declarations declares) j r = declared heads declares r
  lowered heads (blocks {xs = xs} body leave) j r =
      let two = left leave r in
      let grows = grown.left leave in
      on (all_lowered heads body (jumps_in_block xs (jumps_earlier grows.points j)) two.reaches) two.points
  lowered {s = s} heads empties j r = same s r
  lowered heads (simples performs) j r = performed heads performs r
  lowered heads (frees value is undone) j r =
      let three = undefined undone r in
      let two = appended (λ q. (refl, tt)) is three.reaches in
      on (on (evaluated value two.reaches) two.points) three.points
  lowered heads (asserts test is) j r = on (tested test (earlier (omega arith) r) (there is)) (ended refl tt is)
  lowered heads (assumes test is) j r = on (tested test (earlier (omega arith) r) (there is)) (ended refl tt is)
  lowered heads (shapes_assumed made args is) j r = appended (λ q. (refl, tt)) is r
  lowered heads (shapes_asserted value args is) j r = appended (λ q. (refl, tt)) is r
  lowered heads (emptiness_asserted is) j r = appended (λ q. (refl, tt)) is r
  lowered heads (ifs test body is) j r =
      let three = appended (λ q. (refl, (q, refl))) is r in
      let grows = grown.appended is in
      let two = lowered heads body (jumps_earlier grows.points j) three.reaches in
      let inner = grown.lowered body in
      on (on (tested test two.reaches (earlier inner.points three.reaches)) two.points) three.points
  lowered heads (ifs_else test first second is) j r =
      let four = appended (λ q. (refl, (q, refl))) is r in
      let grows = grown.appended is in
      let late = jumps_earlier grows.points j in
      let three = lowered heads second late four.reaches in
      let second_grows = grown.lowered second in
      let two = lowered heads first (jumps_earlier second_grows.points late) (earlier second_grows.points four.reaches) in
      let first_grows = grown.lowered first in
      on (on (on (tested test two.reaches (earlier first_grows.points three.reaches)) two.points) three.points) four.points
  lowered {g = g} heads (whiles {e = e} is test body ends) j r =
      let four = appended (λ q. (refl, tt)) ends r in
      let grows = grown.appended ends in
      let back = head_reached {m = e} heads (head_point is).1 in
      let three = lowered heads body (jumps_in_loop four.reaches back (jumps_earlier grows.points j)) back in
      let inner = grown.lowered body in
      let two = tested test three.reaches (earlier inner.points four.reaches) in
      let one = appended (λ q. (refl, (q, refl))) is two.reaches in
      on (on (on one two.points) three.points) four.points
  lowered {g = g} heads (dos {e = e} is body turn test ends) j r =
      let five = appended (λ q. (refl, tt)) ends r in
      let grows = grown.appended ends in
      let back = head_reached {m = e} heads (head_point is).1 in
      let four = tested test back five.reaches in
      let three = appended (λ q. (refl, tt)) turn four.reaches in
      let test_grows = grown.tested test in
      let turn_grows = grown.appended turn in
      let late = earlier turn_grows.points (earlier test_grows.points five.reaches) in
      let two = lowered heads body
      (jumps_in_loop late three.reaches (jumps_earlier turn_grows.points (jumps_earlier test_grows.points (jumps_earlier grows.points j)))) three.reaches in
      let one = appended (λ q. (refl, (q, refl))) is two.reaches in
      on (on (on (on one two.points) three.points) four.points) five.points
  lowered {g = g} heads (fors {e = e} start is test body turn last ends leave) j r =
      let eight = left leave r in
      let leave_grows = grown.left leave in
      let seven = appended (λ q. (refl, tt)) ends eight.reaches in
      let ends_grow = grown.appended ends in
      let back = head_reached {m = e} heads (head_point is).1 in
      let six = finished heads last back in
      let last_grows = grown.finished last in
      let five = appended (λ q. (refl, tt)) turn six.reaches in
      let turn_grows = grown.appended turn in
      let late = earlier turn_grows.points (earlier last_grows.points seven.reaches) in
      let jumps = jumps_earlier turn_grows.points (jumps_earlier last_grows.points (jumps_earlier ends_grow.points (jumps_earlier leave_grows.points j))) in
      let four = lowered heads body (jumps_in_loop late five.reaches jumps) five.reaches in
      let body_grows = grown.lowered body in
      let three = tested_perhaps test four.reaches (earlier body_grows.points late) in
      let two = appended (λ q. (refl, (q, refl))) is three.reaches in
      let one = started heads start two.reaches in
      on (on (on (on (on (on (on one two.points) three.points) four.points) five.points) six.points) seven.points) eight.points
  lowered heads (breaks {l = l} is leave) j r = left leave (j.exit l is)
  lowered heads (continues {l = l} is leave) j r = left leave (j.turn l is)
  lowered heads returns_nothing j r = record { reaches = j.out; points = none_between }
  lowered heads (returns_value made sets) j r = set sets j.out
  lowered heads (returns_result made inner is undone) j r =
      let three = undefined undone j.out in
      let two = appended (λ q. (refl, tt)) is three.reaches in
      on (on (called heads inner two.reaches) two.points) three.points

  all_lowered : {g : Graph} {c : Around} {ss : Stmts} {s u : Stage} → Heads g → LowersAll g c ss s u → Jumps g c (points_of u) → Onward g s u
  all_lowered {s = s} heads lowers_none j r = same s r
  all_lowered heads (lowers_next first rest) j r =
      let two = all_lowered heads rest j r in
      let grows = grown.all_lowered rest in
      on (lowered heads first (jumps_earlier grows.points j) two.reaches) two.points

-- ---- the whole
answered : {g : Graph} {out : ℕ} {kind : Option Kind} {s u : Stage} {l : ℕ} → Answers g out kind s u → Goes g (goal_of u) (points_of u) l → Goes g (goal_of s) (points_of s) l
answered answers_none rest = rest
answered (answers creating) rest = created creating rest

fallen : {g : Graph} {f : Function} {out : ℕ} {s u : Stage} → Falls g f out s u → Onward g s u
fallen (falls_in_main is made copies) r = appended (λ q. (refl, tt)) copies r
fallen {s = s} (falls other) r = same s r

fallen_grows : {g : Graph} {f : Function} {out : ℕ} {s u : Stage} → Falls g f out s u → points_of s ≤ points_of u
fallen_grows (falls_in_main is made copies) = (grown.appended copies).points
fallen_grows (falls other) = omega arith

made : {g : Graph} {f : Function} {out count : ℕ} → Heads g → Makes g f out count → Between g 0 (suc out)
made {f = f} {out = out} heads (makes begins result body falling is) =
    let five = ended {code = End} refl tt is in
    let four = fallen falling (there is) in
    let three = all_lowered heads body (jumps_in_body f (earlier (fallen_grows falling) (there is))) four.reaches in
    let two = answered result three in
    let one = appended (λ q. (refl, tt)) begins two.reaches in
    (on (on (on one two.points) four.points) five).points

-- ---- from the points to the flow graph
same_point : {g : Graph} (n : ℕ) (p : Point) → slice_get g.flow.points n ≡ Some p → (at : GoesAt g n) → at.code ≡ p.code
same_point n p is at = ap (λ x. x.code) (same_Some _ _ (sym at.is.there ∙ is))

skipped : {g : Graph} (n : ℕ) (role : Role) → ((code : Instr) → SkipsAs role code → (q : PointId) × (code ≡ Skip q)) → slice_get g.roles n ≡ Some role → GoesAt g n
    → IsSkip g.flow.points (point n)
skipped n role tells is at =
    let same = same_Some _ _ (sym at.is.is ∙ is) in
    let found = tells at.code (subst (λ x. SkipsAs x at.code) same at.skips) in
    record { next = found.0; skips = ap (option_map (λ x. x.code)) at.is.there ∙ ap (λ x. Some x) found.1 }

pub goes_on_well : (g : Graph) (entry : Function) (out count : ℕ) → IsLowering g entry out count → GoesOnWell g.flow
goes_on_well g entry out count lowering =
    let between = made lowering.heads lowering.made in
    let points = lowering.points in
    let roles = lowering.roles in
    record {
      begins = omega arith;
      follows = λ p x is.
          let inside = slice_get_within g.flow.points p x is in
          let here = between.at p (omega arith) (omega arith) in
          subst (λ code. All (GoesOn g.flow p) (targets code)) (same_point p x is here) here.follows;
      heads = All-weaker _ _ (λ p is.
          let inside = slice_get_within g.roles p.0 head is in
          skipped p.0 head (λ code skips. skips) is (between.at p.0 (omega arith) (omega arith))) g.flow.heads lowering.heads.only;
      merges = All-weaker _ _ (λ p is.
          let inside = slice_get_within g.roles p.0 merge is in
          skipped p.0 merge (λ code skips. skips) is (between.at p.0 (omega arith) (omega arith))) g.flow.merges lowering.merges.only;
    }
