-- A call begins: its arguments are passed, and its body stands before the end of the call.
use Rattle.std.proofs.Common.{◌<◌, ◌≤◌, ◌+◌, ◌≡◌, ◌⊎◌, inl, inr, ℕ, suc, ℤ, List, [], ◌∷◌, Option, Some, None, length, refl, sym, ap, ◌∙◌, subst, arith}
use Rattle.std.specs.Prelude.{slice_get, slice_index_or, map}
use Rattle.std.proofs.lemmas.Option.{slice_get_within}
use Rattle.std.proofs.lemmas.List.{get_or-set_other}
use Rattle.std.proofs.Math.Decide.{dec_lt}
use Rattle.mc_base.specs.declared.ids.PointId.{PointId}
use Rattle.mc_base.specs.declared.ids.VarId.{VarId}
use Rattle.mc_base.specs.declared.plain.FaultKind.TheVariants.{Uninit}
use Rattle.mc_base.specs.declared.plain.Kind.{Kind}
use Rattle.mc_flow.specs.Runs.{next, last as finished_run, fault}
use Rattle.mc_base.specs.declared.text.place.Place.{Place}
use Rattle.mc_flow.specs.Heap.Heap.{Heap}
use Rattle.mc_flow.specs.Heap.Choices.{Choice}
use Rattle.mc_flow.specs.Values.{value_in, value_of as operand_value, with_value, without as flow_without, all_there}
use Rattle.mc_flow.specs.declared.instr.Instr.{Instr}
use Rattle.mc_flow.specs.declared.instr.Instr.TheVariants.{Copy, Undef}
use Rattle.mc_flow.specs.declared.instr.Operand.{Operand}
use Rattle.mc_flow.specs.declared.instr.Operand.TheVariants.{Var}
use Rattle.mc_flow.specs.Steps as flow
use Rattle.mc_semantics.specs.Steps.{no_arguments, arguments}
use Rattle.mc_semantics.specs.Resolved.Configs.{Values, Target, returned, held, end_call, take_result, Tasks, task, Result}
use Rattle.mc_semantics.specs.Resolved.Moves.{in_a_row}
use Rattle.mc_semantics.specs.Resolved.Programs.{Call, Function}
use Rattle.mc_semantics.specs.Resolved.Steps.{Step, Passes as SourcePasses, AfterArguments, begun, EvaluateAll, gone_back, passed}
use Rattle.mc_lower_spec.specs.Graphs.{Graph, Role, local, result, plain, Stage, point, Appends, appends, Undefines, undefines_none, undefines, creates, IsMade, is_made}
use Rattle.mc_lower_spec.specs.Values.{EvaluatesAll, evaluates_none, evaluates_next}
use Rattle.mc_lower_spec.specs.Lowering.{Around, in_body, Receives, receives_none, receives, Passes, passes_none, Awaits, awaits_none, awaits, Calls, calls}
use Rattle.mc_lower_spec.specs.Runs.{FlowStep}
use Rattle.mc_lower_spec.specs.Scopes.{IsScoped, AreScoped}
use Rattle.mc_lower_spec.proofs.Simulating.{Goes, one, more, both_go, source_goes, both_end, both_wait}
use Rattle.mc_lower_spec.proofs.Stepping.{Vars, at, step_at}
use Rattle.mc_lower_spec.proofs.Stages.{goal_of, points_of, variables_of}
use Rattle.mc_lower_spec.proofs.Evaluating.{AreTemporaries, no_temporaries, set_here}
use Rattle.mc_lower_spec.proofs.Changing.{IsClean, length_set}
use Rattle.mc_lower_spec.proofs.Holding.{AreOnce, Limit, limit, Frame, AllHeld, Held, IsInside, AreNested, IsNone, inside_none, same_out, no_temporary}
use Rattle.mc_lower_spec.proofs.Growing.{IsGrown, all_lowered, on, passed as passed_grown, undefined, awaited as awaited_grown, all_evaluated}
use Rattle.mc_lower_spec.proofs.Following.{below, frame_of, IsResult, no_result, a_result, Wants, IsWithin, Follows, ends_call, match, follows_in_a_row, no_late, weight}
use Rattle.mc_lower_spec.proofs.Leaving.{ending, ending_set, ending_other, frames_result, result_no_local, result_no_temporary, another_result}
use Rattle.mc_lower_spec.proofs.Passing.{AllEnded, all_waits, all_faults, all_gives, evaluating_all, all_temporaries, outer_operands, AreOwned, received_owned, Copied, copied_none, copied_all, copied_same, copying, put_all, put_elsewhere, length_put_all, frames_put, put_cleaned, passed_beyond, passed_length, received_agree, received_low}
use Rattle.mc_lower_spec.proofs.Walking.{to_out}
use Rattle.mc_lower_spec.proofs.Pairing.{config, PairOf, here_of, does_step, goes_further}
use Rattle.mc_lower_spec.proofs.Calling.{point_of, out_pair, one_undone}

-- ---- what holds when the body begins
record Begun (g : Graph) (inner : ℕ) (values : Values) (fs : List Frame) (vars : Vars) : Type 0 where
  agree : (y v : ℕ) → slice_get g.owners v ≡ Some (local inner y) → held values y ≡ slice_index_or vars v None
  all : AllHeld g fs vars
  clear : (v out x : ℕ) → slice_get g.owners v ≡ Some (local out x) → (inner ≡ out → ⊥) → IsNone out fs → slice_index_or vars v None ≡ None
  clean : IsClean g vars
  long : length vars ≡ length g.owners

same_number_of : (n : ℕ) → n ≡ 0 + n
same_number_of n = omega arith

parameters_begun : {g : Graph} {f : Function} {inner : ℕ} {s u : Stage} {vs : List VarId} (fs : List Frame) (zs : List ℤ) (vars : Vars) → AreOnce g → Receives g f inner 0 f.parameters s vs u → f.parameters ≤ length f.locals → IsNone inner fs → Held g fs vars
    → Begun g inner (passed f.parameters f.locals zs) fs (put_all vs zs vars)
parameters_begun {g} {f} {inner} {vs = vs} fs zs vars once receives_at counted none h = record {
  agree = λ y v owns. received_agree f.locals zs vars once receives_at counted h.long (λ n w own. h.clear w inner (0 + n) own none) y v (subst (λ n. slice_get g.owners v ≡ Some (local inner n)) (same_number_of y) owns);
  all = frames_put g inner fs vs zs vars owned none h.all;
  clear = λ v out x owns apart others. put_elsewhere g inner vs zs vars (record { 0 = v }) owned (λ y own. apart (same_out g v inner y out x own owns)) ∙ h.clear v out x owns others;
  clean = λ v j kind owns. put_elsewhere g inner vs zs vars v owned (λ y own. no_temporary g v.0 v.0 inner y j kind own owns refl) ∙ h.clean v j kind owns;
  long = length_put_all vs zs vars ∙ h.long;
}
  where
    owned : AreOwned g inner vs
    owned = received_owned receives_at

result_begun : (g : Graph) (inner : ℕ) (values : Values) (fs : List Frame) (vars : Vars) (v : VarId) → slice_get g.owners v.0 ≡ Some (result inner) → IsNone inner fs → Begun g inner values fs vars → Begun g inner values fs (with_value vars v None)
result_begun g inner values fs vars v owned none b = record {
  agree = λ y u owns. b.agree y u owns ∙ sym (get_or-set_other vars v.0 u None None (result_no_local g v.0 u inner inner y owned owns));
  all = frames_result g fs vars v inner None owned none b.all;
  clear = λ u out y owns apart others. get_or-set_other vars v.0 u None None (result_no_local g v.0 u inner out y owned owns) ∙ b.clear u out y owns apart others;
  clean = λ u j kind owns. get_or-set_other vars v.0 u.0 None None (result_no_temporary g v.0 u.0 inner j kind owned owns) ∙ b.clean u j kind owns;
  long = length_set vars v.0 None ∙ b.long;
}

inside_less : (n m : ℕ) (fs : List Frame) → n < m → IsInside m fs → IsInside n fs
inside_less n m [] less inside = tt
inside_less n m (f ∷ fs) less inside = (omega (arith, less, inside.0), inside_less n m fs less inside.1)

begun_held : {g : Graph} {f : Function} {inner top : ℕ} {s u : Stage} {vs : List VarId} (fs : List Frame) (zs : List ℤ) (vars : Vars) → AreOnce g → (scoped : IsScoped f) → Receives g f inner 0 f.parameters s vs u → variables_of u ≤ top → IsInside inner fs → AreNested fs
    → Begun g inner (passed f.parameters f.locals zs) fs vars
    → ((kind : Kind) → f.result ≡ Some kind → (v : ℕ) → slice_get g.owners v ≡ Some (result inner) → slice_index_or vars v None ≡ None)
    → Held g (frame_of (in_body f inner) scoped.own (limit top (below (length f.locals)) ∷ []) 0 (passed f.parameters f.locals zs) ∷ fs) vars
begun_held {g} {f} {inner} {top} fs zs vars once scoped receives_at low inside nested b quiet = record {
  all = (
    record {
      agree = record { same = b.agree };
      long = passed_length f.parameters f.locals zs;
      scoped = λ x absent. elim (dec_lt x f.parameters) [
        | yes less ↦ absurd (absent (scoped.parameters x less))
        | no past ↦ passed_beyond f.parameters f.locals zs x (omega (arith, past))
      ];
      late = (
        no_late g inner (passed f.parameters f.locals zs) 0,
        (
          λ x v is_in owned from. elim (dec_lt x f.parameters) [
            | yes less ↦ absurd (omega (arith, from, low, received_low once receives_at x v (subst (λ n. slice_get g.owners v ≡ Some (local inner n)) (same_number_of x) owned) less))
            | no past ↦ passed_beyond f.parameters f.locals zs x (omega (arith, past))
          ],
          tt,
        ),
      );
      quiet = quiet;
    },
    b.all,
  );
  nested = (inside, nested);
  clear = λ v out x owns none. b.clear v out x owns none.0 none.1;
  clean = b.clean;
  long = b.long;
}

-- ---- the result is undefined at the begin
data Awaited (g : Graph) (f : Function) (inner : ℕ) (ret : Option VarId) (a b : ℕ) (vars : Vars) (heap : Heap) (choices : List Choice) : Type 0 where
  awaited_nothing : f.result ≡ None → ret ≡ None → a ≡ b → Awaited g f inner ret a b vars heap choices
  awaited : {kind : Kind} (v : VarId) → f.result ≡ Some kind → ret ≡ Some v → slice_get g.owners v.0 ≡ Some (result inner) → FlowStep g (at a vars heap) choices (next (at b (with_value vars v None) heap) choices)
      → Awaited g f inner ret a b vars heap choices

awaiting : {g : Graph} {f : Function} {inner : ℕ} {place : Place} {res : Option Kind} {ret : Option VarId} {s u : Stage} (vars : Vars) (heap : Heap) (choices : List Choice) → f.result ≡ res → Awaits g inner place res s ret u
    → Awaited g f inner ret (goal_of s) (goal_of u) vars heap choices
awaiting vars heap choices e awaits_none = awaited_nothing e refl refl
awaiting {g} {place = place} vars heap choices e (awaits (creates {k = k} owned info) is) = awaited (record { 0 = k }) e refl owned (undef_step is)
  where
    undef_step : {i j : Stage} → Appends g plain place (λ q. Undef (record { 0 = k } ∷ []) q) i j → FlowStep g (at (goal_of i) vars heap) choices (next (at (goal_of j) (with_value vars (record { 0 = k }) None) heap) choices)
    undef_step (appends {n = n} {b = b} there) = step_at g n place (Undef (record { 0 = k } ∷ []) (point b)) vars heap choices (next (at b (with_value vars (record { 0 = k }) None) heap) choices) there refl

awaited_result : {g : Graph} {f : Function} {inner : ℕ} {ret : Option VarId} {a b : ℕ} {vars : Vars} {heap : Heap} {choices : List Choice} → Awaited g f inner ret a b vars heap choices → IsResult g f inner ret
awaited_result {g} {f} {inner} (awaited_nothing e same there) = subst (λ z. IsResult g f inner z) (sym same) no_result
awaited_result {g} {f} {inner} (awaited v e same owned step) = subst (λ z. IsResult g f inner z) (sym same) (a_result e owned)

-- ---- after the copies: the temporaries and the result become undefined
undoes_then : {g : Graph} {place : Place} {ts : List VarId} {s u : Stage} (vars : Vars) (heap : Heap) (choices : List Choice) (r : flow.Result) → Undefines g place ts s u
    → Goes (FlowStep g) (at (goal_of u) (flow_without vars ts) heap) choices r → Goes (FlowStep g) (at (goal_of s) vars heap) choices r
undoes_then vars heap choices r undefines_none goes = goes
undoes_then {g} {place} vars heap choices r (undefines {v = v} {vs = vs} (appends {n = n} {b = b} is)) goes =
    more (step_at g n place (Undef (v ∷ vs) (point b)) vars heap choices (next (at b (flow_without vars (v ∷ vs)) heap) choices) is refl) goes

goes_undone : {g : Graph} {place : Place} {ts : List VarId} {s u : Stage} (d : flow.Config) (some : List Choice) (vars : Vars) (heap : Heap) (choices : List Choice) → Undefines g place ts s u
    → Goes (FlowStep g) d some (next (at (goal_of s) vars heap) choices) → Goes (FlowStep g) d some (next (at (goal_of u) (flow_without vars ts) heap) choices)
goes_undone d some vars heap choices undefines_none goes = goes
goes_undone {g} {place} d some vars heap choices (undefines {v = v} {vs = vs} (appends {n = n} {b = b} is)) goes =
    goes_further g (at n vars heap) goes (one (step_at g n place (Undef (v ∷ vs) (point b)) vars heap choices (next (at b (flow_without vars (v ∷ vs)) heap) choices) is refl))

none_received : {g : Graph} {f : Function} {inner x more_of : ℕ} {s u : Stage} {vs : List VarId} → Receives g f inner x more_of s vs u → vs ≡ [] → more_of ≡ 0
none_received receives_none e = refl
none_received (receives is makes_it rest) e = absurd (cc)

received_goal : {g : Graph} {f : Function} {inner x more_of : ℕ} {s u : Stage} {vs : List VarId} → Receives g f inner x more_of s vs u → goal_of s ≡ goal_of u
received_goal receives_none = refl
received_goal (receives is (creates owned info) rest) = received_goal rest

more_points : {g : Graph} {role : Role} {place : Place} {code : PointId → Instr} {s u : Stage} → Appends g role place code s u → suc (points_of s) ≤ points_of u
more_points (appends is) = omega arith

-- ---- the whole call
-- there is a parameter or a result
abbrev IsNoticed : Function → Type 0
IsNoticed f = (0 < f.parameters) ⊎ ((kind : Kind) × (f.result ≡ Some kind))

call_of : {g : Graph} {scope : List ℕ} {late : List Limit} {callers : List Frame} {k inner top n_goal : ℕ} {place : Place} {f : Function} {vs ts : List VarId} {os : List Operand} {ret : Option VarId} {s m i q r : Stage}
    (c : Around) (d : Call) (target : Target) (rest tasks : Tasks) (values : Values) (vars : Vars) (heap : Heap) (choices : List Choice)
    → AreOnce g → (scoped : IsScoped f) → IsNoticed f → slice_get g.program.functions d.function ≡ Some f → Receives g f inner 0 f.parameters s vs m → AreTemporaries g ts → Undefines g place ts i q
    → Awaits g inner place f.result q ret r → variables_of m ≤ top → inner < c.out
    → ((zs : List ℤ) → IsResult g f inner ret → Follows g (in_body f inner) scoped.own (limit top (below (length f.locals)) ∷ []) (frame_of c scope late k values ∷ callers) 0 (in_a_row f.body (task (end_call values target) rest)) (goal_of r))
    → ((r : Result) → SourcePasses g.program (here_of values heap) d target place rest choices r → Step g.program (config tasks values heap) choices r)
    → ((r : Result) → Step g.program (config tasks values heap) choices r → SourcePasses g.program (here_of values heap) d target place rest choices r)
    → Held g (frame_of c scope late k values ∷ callers) vars
    → ((later : Vars) (left : List Choice) → Copied g place vs (map (operand_value later) os) n_goal (goal_of i) later heap left)
    → AllEnded g (here_of values heap) d.arguments place [] ts os (goal_of m) n_goal vars choices
    → PairOf g (config tasks values heap) (goal_of m) vars heap choices
call_of c d target rest tasks values vars heap choices once scoped noticed is receives_at are undone waiting low inside follows into out h copied (all_waits none never) =
    both_wait (λ r s. let q = out r s in none q.0 q.1) never
call_of c d target rest tasks values vars heap choices once scoped noticed is receives_at are undone waiting low inside follows into out h copied (all_faults kind comes goes) =
    both_end (into _ (no_arguments kind, comes, refl)) goes
call_of {g} {scope} {late} {callers} {k} {inner = inner} {top = top} {n_goal = n_goal} {place = place} {f = f} {vs = vs} {ts = ts} {os = os} {ret = ret} {m = m} {i = i} {q = q} {r = r} c d target rest tasks values vars heap choices once scoped noticed is receives_at are undone waiting low inside follows into out h copied (all_gives later ws left comes leads new gave) =
    copied_call (copied later left)
  where
    fs : List Frame
    fs = frame_of c scope late k values ∷ callers

    inside_all : IsInside inner fs
    inside_all = (inside, inside_less inner c.out callers inside h.nested.0)

    given_all : (o : Option (List ℤ)) → all_there (map (operand_value later) os) ≡ o → (res : Result) → res ≡ begun (here_of values heap) f target place rest left o → Step g.program (config tasks values heap) choices res
    given_all o e res k_is =
        into res (
          arguments ws left,
          comes,
          subst (λ z. AfterArguments (here_of values heap) z target place rest (arguments ws left) res) (sym is)
              (k_is ∙ ap (begun (here_of values heap) f target place rest left) (sym (sym (ap all_there gave) ∙ e))),
        )

    begun_vars : (zs : List ℤ) → Begun g inner (passed f.parameters f.locals zs) fs (put_all vs zs vars)
    begun_vars zs = parameters_begun fs zs vars once receives_at scoped.counted (inside_none inner fs inside_all) h

    cleaned_all : (zs : List ℤ) → flow_without (put_all vs zs later) ts ≡ put_all vs zs vars
    cleaned_all zs = put_cleaned g inner ts vs zs vars later are new h.clean (received_owned receives_at) h.long

    no_kind : (kind : Kind) → f.result ≡ None → f.result ≡ Some kind → ⊥
    no_kind kind e also = let both : None ≡ Some kind = sym e ∙ also in absurd (cc)

    begins_at : (zs : List ℤ) (final : Vars) → all_there (map (operand_value later) os) ≡ Some zs → IsResult g f inner ret → Begun g inner (passed f.parameters f.locals zs) fs final
        → ((kind : Kind) → f.result ≡ Some kind → (v : ℕ) → slice_get g.owners v ≡ Some (result inner) → slice_index_or final v None ≡ None)
        → Goes (FlowStep g) (at n_goal later heap) left (next (at (goal_of r) final heap) left) → PairOf g (config tasks values heap) (goal_of m) vars heap choices
    begins_at zs final e res b quiet goes =
        both_go (given_all (Some zs) e (next (config (in_a_row f.body (task (end_call values target) rest)) (passed f.parameters f.locals zs) heap) left) refl) (leads.goes _ goes)
        (match (follows zs res) (begun_held fs zs final once scoped receives_at low inside_all h.nested b quiet))

    -- after the copies there is the Undef of the temporaries, and that of the result
    with_result : (zs : List ℤ) (v : VarId) → all_there (map (operand_value later) os) ≡ Some zs → IsResult g f inner ret → slice_get g.owners v.0 ≡ Some (result inner)
        → Goes (FlowStep g) (at n_goal later heap) left (next (at (goal_of r) (with_value (put_all vs zs vars) v None) heap) left) → PairOf g (config tasks values heap) (goal_of m) vars heap choices
    with_result zs v e res owned goes =
        begins_at zs (with_value (put_all vs zs vars) v None) e res (result_begun g inner (passed f.parameters f.locals zs) fs (put_all vs zs vars) v owned (inside_none inner fs inside_all) (begun_vars zs))
        (λ kind is_kind u owns. ap (λ z. slice_index_or (with_value (put_all vs zs vars) v None) z None) (once (result inner) u v.0 owns owned) ∙ Rattle.mc_lower_spec.proofs.Changing.set_none (put_all vs zs vars) v) goes

    awaited_call : (zs : List ℤ) → all_there (map (operand_value later) os) ≡ Some zs
        → ((res : flow.Result) → Goes (FlowStep g) (at (goal_of q) (put_all vs zs vars) heap) left res → Goes (FlowStep g) (at n_goal later heap) left res)
        → (f.result ≡ None → Goes (FlowStep g) (at n_goal later heap) left (next (at (goal_of q) (put_all vs zs vars) heap) left))
        → IsResult g f inner ret → Awaited g f inner ret (goal_of q) (goal_of r) (put_all vs zs vars) heap left → PairOf g (config tasks values heap) (goal_of m) vars heap choices
    awaited_call zs e on_ways direct res (awaited_nothing none same_ret same_goal) =
        begins_at zs (put_all vs zs vars) e res (begun_vars zs) (λ kind is_kind u owns. absurd (no_kind kind none is_kind))
        (subst (λ z. Goes (FlowStep g) (at n_goal later heap) left (next (at z (put_all vs zs vars) heap) left)) same_goal (direct none))
    awaited_call zs e on_ways direct res (awaited v is_kind same_ret owned step) =
        with_result zs v e res owned (on_ways _ (one step))

    copied_call : Copied g place vs (map (operand_value later) os) n_goal (goal_of i) later heap left → PairOf g (config tasks values heap) (goal_of m) vars heap choices
    copied_call (copied_none none goes) = both_end (given_all None none (finished_run (fault Uninit place)) refl) (leads.goes _ goes)
    copied_call (copied_all zs some goes) =
        let way : Goes (FlowStep g) (at n_goal later heap) left (next (at (goal_of q) (put_all vs zs vars) heap) left) =
        subst (λ z. Goes (FlowStep g) (at n_goal later heap) left (next (at (goal_of q) z heap) left)) (cleaned_all zs) (goes_undone (at n_goal later heap) left (put_all vs zs later) heap left undone goes) in
        awaited_call zs some (λ res on_goes. goes_further g (at (goal_of q) (put_all vs zs vars) heap) way on_goes) (λ none. way) (awaited_result (awaiting (put_all vs zs vars) heap left refl waiting)) (awaiting (put_all vs zs vars) heap left refl waiting)
    copied_call (copied_same empty some same) =
        awaited_call [] some
        (λ res on_goes. subst (λ z. Goes (FlowStep g) (at z later heap) left res) (sym same)
        (undoes_then later heap left res undone (subst (λ z. Goes (FlowStep g) (at (goal_of q) z heap) left res) (sym (no_puts empty)) on_goes)))
        (λ none. absurd (never_noticed none empty)) (awaited_result (awaiting (put_all vs [] vars) heap left refl waiting)) (awaiting (put_all vs [] vars) heap left refl waiting)
      where
        no_put : (ps : List VarId) (some_vars : Vars) → put_all ps [] some_vars ≡ some_vars
        no_put [] some_vars = refl
        no_put (p ∷ ps) some_vars = refl

        no_puts : vs ≡ [] → flow_without later ts ≡ put_all vs [] vars
        no_puts e = ap (λ z. flow_without z ts) (sym (no_put vs later)) ∙ cleaned_all []

        never_noticed : f.result ≡ None → vs ≡ [] → ⊥
        never_noticed none e = elim noticed [
          | inl some_parameters ↦ omega (arith, some_parameters, none_received receives_at e)
          | inr a_kind ↦ no_kind a_kind.0 none a_kind.1
        ]

-- without a parameter and a result the call has no point before those of the body
record HasNone (s r : Stage) (es : List Rattle.mc_semantics.specs.Resolved.Programs.Expr) (vs : List VarId) (ret : Option VarId) : Type 0 where
  goal : goal_of s ≡ goal_of r
  values : es ≡ []
  result_none : ret ≡ None

has_none : {g : Graph} {f : Function} {out inner p : ℕ} {place : Place} {es : List Rattle.mc_semantics.specs.Resolved.Programs.Expr} {res : Option Kind} {vs ts : List VarId} {os : List Operand} {ret : Option VarId} {s m n i q r : Stage}
    → Receives g f inner 0 p s vs m → EvaluatesAll g out place es [] m os ts n → Passes g place vs os n i → Undefines g place ts i q → Awaits g inner place res q ret r → p ≡ 0 → res ≡ None → HasNone s r es vs ret
has_none receives_none evaluates_none passes_none undefines_none awaits_none e k = record { goal = refl; values = refl; result_none = refl }
has_none receives_none (evaluates_next first others) copies undone waiting e k = elim copies [ ]
has_none (receives is makes_it rest) values_at copies undone waiting e k = absurd (omega (arith, e))
has_none receives_none evaluates_none passes_none undefines_none (awaits makes_it is) e k = absurd (cc)

abbrev IsThere : Function → Type 0
IsThere f = IsNoticed f ⊎ ((f.parameters ≡ 0) × (f.result ≡ None))

result_or_none : (o : Option Kind) → ((kind : Kind) × (o ≡ Some kind)) ⊎ (o ≡ None)
result_or_none None = inr refl
result_or_none (Some kind) = inl (kind, refl)

is_noticed : (f : Function) → IsThere f
is_noticed f = elim (result_or_none f.result) [
  | inl some ↦ inl (inr some)
  | inr none ↦ elim (dec_lt 0 f.parameters) [
    | yes less ↦ inl (inl less)
    | no past ↦ inr (omega (arith, past), none)
  ]
]

no_puts_at : (vs : List VarId) (vars : Vars) → put_all vs [] vars ≡ vars
no_puts_at [] vars = refl
no_puts_at (v ∷ vs) vars = refl

silent_call : {g : Graph} {scope : List ℕ} {late : List Limit} {callers : List Frame} {k inner top : ℕ} {place : Place} {f : Function} {vs : List VarId} {ret : Option VarId} {s m r : Stage}
    (c : Around) (d : Call) (target : Target) (rest tasks : Tasks) (values : Values) (vars : Vars) (heap : Heap) (choices : List Choice)
    → AreOnce g → (scoped : IsScoped f) → slice_get g.program.functions d.function ≡ Some f → Receives g f inner 0 f.parameters s vs m → variables_of m ≤ top → inner < c.out → f.result ≡ None → HasNone s r d.arguments vs ret
    → (IsResult g f inner ret → Follows g (in_body f inner) scoped.own (limit top (below (length f.locals)) ∷ []) (frame_of c scope late k values ∷ callers) 0 (in_a_row f.body (task (end_call values target) rest)) (goal_of r))
    → ((r : Result) → SourcePasses g.program (here_of values heap) d target place rest choices r → Step g.program (config tasks values heap) choices r)
    → weight g (in_a_row f.body (task (end_call values target) rest)) < weight g tasks
    → Held g (frame_of c scope late k values ∷ callers) vars → PairOf g (config tasks values heap) (goal_of s) vars heap choices
silent_call {g} {scope} {late} {callers} {k} {inner} {top} {place} {f} {vs} {ret} {s} {m} {r} c d target rest tasks values vars heap choices once scoped is receives_at low inside none has follows into light h =
    let fs : List Frame = frame_of c scope late k values ∷ callers in
    let inside_all : IsInside inner fs = (inside, inside_less inner c.out callers inside h.nested.0) in
    let body : Result = next (config (in_a_row f.body (task (end_call values target) rest)) (passed f.parameters f.locals []) heap) choices in
    let evaluates : EvaluateAll (here_of values heap) d.arguments choices (arguments [] choices) = subst (λ es. EvaluateAll (here_of values heap) es choices (arguments [] choices)) (sym has.values) refl in
    let begun_now : Begun g inner (passed f.parameters f.locals []) fs vars =
    subst (λ z. Begun g inner (passed f.parameters f.locals []) fs z) (no_puts_at vs vars) (parameters_begun fs [] vars once receives_at scoped.counted (inside_none inner fs inside_all) h) in
    subst (λ z. PairOf g (config tasks values heap) z vars heap choices) (sym has.goal)
    (source_goes (into body (arguments [] choices, evaluates, subst (λ z. AfterArguments (here_of values heap) z target place rest (arguments [] choices) body) (sym is) refl))
    (match (follows (subst (λ z. IsResult g f inner z) (sym has.result_none) no_result))
    (begun_held fs [] vars once scoped receives_at low inside_all h.nested begun_now (λ kind is_kind u owns. absurd (never kind is_kind)))) light)
  where
    never : (kind : Kind) → f.result ≡ Some kind → ⊥
    never kind is_kind = let both : None ≡ Some kind = sym none ∙ is_kind in absurd (cc)

pub call_pair : {g : Graph} {c : Around} {scope : List ℕ} {late : List Limit} {callers : List Frame} {k j b : ℕ} {place : Place} {d : Call} {ret : Option VarId} {target : Target} {rest : Tasks} {s u : Stage} (tasks : Tasks) (values : Values) (vars : Vars) (heap : Heap) (choices : List Choice)
    → AreOnce g → AreScoped g.program → (ret ≡ None → (f : Function) → slice_get g.program.functions d.function ≡ Some f → weight g (in_a_row f.body (task (end_call values target) rest)) < weight g tasks) → Calls g c.out place d s ret u
    → ((r : Result) → SourcePasses g.program (here_of values heap) d target place rest choices r → Step g.program (config tasks values heap) choices r)
    → ((r : Result) → Step g.program (config tasks values heap) choices r → SourcePasses g.program (here_of values heap) d target place rest choices r)
    → Wants g c scope target ret u j b → points_of u ≤ c.out → k ≤ j → IsWithin j late → Follows g c scope late callers j rest b
    → Held g (frame_of c scope late k values ∷ callers) vars → PairOf g (config tasks values heap) (goal_of s) vars heap choices
call_pair {g} {c} {scope} {late} {callers} {k} {place = place} {d = d} {target = target} {rest = rest} tasks values vars heap choices once all_scoped light
    (calls {f = f} {vs = vs} {ts = ts} {os = os} {inner = inner} {k = top} {s = s} {m = m} {n = n} {i = i} {j = q} {r = r} is receives_at values_at copies undone waiting body made ends) into out wanted bound low within later h =
    let scoped : IsScoped f = all_scoped d.function f is in
    let inside : inner < c.out = omega (arith, bound, more_points ends) in
    let apart : c.out ≡ inner → ⊥ = λ e. omega (arith, e, inside) in
    let grew : IsGrown (points_of m) (variables_of m) inner top = on (all_evaluated values_at) (on (passed_grown copies) (on (undefined undone) (on (awaited_grown waiting) (all_lowered body)))) in
    elim (is_noticed f) [
      | inl noticed ↦ subst (λ z. PairOf g (config tasks values heap) z vars heap choices) (sym (received_goal receives_at))
          (call_of c d target rest tasks values vars heap choices once scoped noticed is receives_at (all_temporaries values_at (no_temporaries g)) undone waiting grew.variables inside
          (λ zs res. follows_in_a_row f.body 0 body scoped.body (omega arith) (omega arith, tt) (omega arith) (ends_call (point_of ends) made res inside wanted low within later))
          into out h (λ now left. copying inner now heap left copies (received_owned receives_at) (outer_operands inner apart values_at))
          (evaluating_all (here_of values heap) vars choices values_at (no_temporaries g) h.long h.all.0.agree))
      | inr silent ↦
          let has = has_none receives_at values_at copies undone waiting silent.0 silent.1 in
          silent_call c d target rest tasks values vars heap choices once scoped is receives_at grew.variables inside silent.1 has
          (λ res. follows_in_a_row f.body 0 body scoped.body (omega arith) (omega arith, tt) (omega arith) (ends_call (point_of ends) made res inside wanted low within later))
          into (light has.result_none f is) h
    ]

-- ---- a result that is returned on
pub returned_pair : {g : Graph} {c : Around} {scope : List ℕ} {late : List Limit} {callers : List Frame} {k j b inner : ℕ} {place : Place} {v ret : VarId} {rest : Tasks} {s m u : Stage} (w : Option ℤ) (values : Values) (vars : Vars) (heap : Heap) (choices : List Choice)
    → AreOnce g → IsMade g (result c.out) v s → Appends g plain place (λ q. Copy v (Var ret) q) s m → Undefines g place (ret ∷ []) m u → goal_of u ≡ c.out
    → slice_get g.owners ret.0 ≡ Some (result inner) → inner < c.out → value_in vars ret ≡ w → Follows g c scope late callers j rest b
    → Held g (frame_of c scope late k values ∷ callers) vars → PairOf g (config (task (take_result (returned place) w) rest) values heap) (goal_of s) vars heap choices
returned_pair {g} {place = place} {v = v} {ret = ret} {rest = rest} None values vars heap choices once made (appends {n = n} {b = b} is) undone same owned inside value later h =
    both_end (does_step g (task (take_result (returned place) None) rest) values heap choices (finished_run (fault Uninit place)) refl refl)
    (one (step_at g n place (Copy v (Var ret) (point b)) vars heap choices (finished_run (fault Uninit place)) is (sym (ap (flow.copied v (point b) place (at n vars heap) choices) value))))
returned_pair {g} {c} {scope} {late} {callers} {k} {inner = inner} {place = place} {v = v} {ret = ret} {rest = rest} (Some w) values vars heap choices once (is_made own before) (appends {n = n} {b = b} is) undone same owned inside value later h =
    let frame : Frame = frame_of c scope late k values in
    let mid : Vars = with_value vars v (Some w) in
    let known : v.0 < length g.owners = slice_get_within g.owners v.0 (result c.out) own in
    out_pair (config (task (take_result (returned place) (Some w)) rest) values heap) frame (Some w) vars (with_value mid ret None) heap heap choices choices refl refl (to_out later) h.all.0.late.1
    (does_step g (task (take_result (returned place) (Some w)) rest) values heap choices (gone_back heap rest (Some w) choices) refl refl)
    (subst (λ z. Goes (FlowStep g) (at n vars heap) choices (next (at z (with_value mid ret None) heap) choices)) same
    (one_undone (at n vars heap) choices mid heap choices undone
    (one (step_at g n place (Copy v (Var ret) (point b)) vars heap choices (next (at b mid heap) choices) is (sym (ap (flow.copied v (point b) place (at n vars heap) choices) value))))))
    (λ m_of late_of. ending_other g frame callers m_of mid ret inner None owned inside (ending_set g frame callers m_of vars v (Some w) own (ending g frame callers m_of vars late_of h)))
    (λ kind is_kind u owns.
    get_or-set_other mid ret.0 u None None (another_result g ret.0 u inner c.out owned owns (λ e. omega (arith, e, inside)))
    ∙ ap (λ z. slice_index_or mid z None) (once (result c.out) u v.0 owns own) ∙ set_here vars v (Some w) (omega (arith, known, h.long)))
