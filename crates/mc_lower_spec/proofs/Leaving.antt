-- A function that was called is left: its variables become undefined, and its result stays for the caller.
use Rattle.std.proofs.Common.{◌<◌, ◌≤◌, ◌≡◌, ◌⊎◌, inl, inr, ℕ, zero, suc, ℤ, List, [], ◌∷◌, Option, Some, None, length, refl, sym, ap, ◌∙◌, subst, arith}
use Rattle.std.specs.Prelude.{slice_get, slice_index_or, Contains}
use Rattle.std.proofs.lemmas.List.{get_or-set_other}
use Rattle.std.proofs.Math.Decide.{dec_lt}
use Rattle.mc_base.specs.declared.ids.VarId.{VarId}
use Rattle.mc_base.specs.declared.plain.Kind.{Kind}
use Rattle.mc_flow.specs.Heap.Heap.{Heap}
use Rattle.mc_flow.specs.Values.{value_in, with_value, without as flow_without}
use Rattle.mc_semantics.specs.Resolved.Configs.{Values, Target, held, Tasks}
use Rattle.mc_semantics.specs.Resolved.Moves.{given}
use Rattle.mc_semantics.specs.Resolved.Programs.{Function}
use Rattle.mc_lower_spec.specs.Graphs.{Graph, local, result, temporary, Stage, stage, AreMade, IsMade, is_made}
use Rattle.mc_lower_spec.specs.Lowering.{Around}
use Rattle.mc_lower_spec.proofs.Stepping.{Vars, at}
use Rattle.mc_lower_spec.proofs.Stages.{goal_of}
use Rattle.mc_lower_spec.proofs.Evaluating.{Agree}
use Rattle.mc_lower_spec.proofs.Changing.{IsClean, length_set, length_without, in_or_not, without_in, without_out, same_number, past_none}
use Rattle.mc_lower_spec.proofs.Holding.{Limit, limit, IsLate, Frame, FrameHeld, AllHeld, IsInside, AreNested, IsNone, Held, inside_none, AreTheirs, frames_kept, kept_apart, same_out, no_result, no_temporary, one_owner, out_of, sort_of, var_at}
use Rattle.mc_lower_spec.proofs.Following.{below, frame_of, IsResult, takes_stored, takes_returned, Wants, wants_nothing, wants, IsWithin, Follows, Match, match, match_taking, held_raised}

-- ---- the numbers below another one
pub in_below : (n x : ℕ) → x < n → Contains (below n) x
in_below zero x less = absurd (omega (arith, less))
in_below (suc n) x less = elim (same_number n x) [
  | inl e ↦ (0, omega arith, e)
  | inr apart ↦ let inside : Contains (below n) x = in_below n x (omega (arith, less, apart)) in (suc inside.0, omega (arith, inside.1), inside.2)
]

from_below : (n x : ℕ) → Contains (below n) x → x < n
from_below zero x inside = absurd (omega (arith, inside.1))
from_below (suc n) x (zero, less, e) = omega (arith, e)
from_below (suc n) x (suc i, less, e) = let inside : x < n = from_below n x (i, omega (arith, less), e) in omega (arith, inside)

-- ---- results
pub another_result : (g : Graph) (v u o p : ℕ) → slice_get g.owners v ≡ Some (result o) → slice_get g.owners u ≡ Some (result p) → (p ≡ o → ⊥) → u ≡ v → ⊥
another_result g v u o p owned owns apart same = apart (ap out_of (one_owner g v (result p) (result o) (subst (λ z. slice_get g.owners z ≡ Some (result p)) same owns) owned))

pub result_no_local : (g : Graph) (v u o out x : ℕ) → slice_get g.owners v ≡ Some (result o) → slice_get g.owners u ≡ Some (local out x) → u ≡ v → ⊥
result_no_local g v u o out x owned owns same = no_result g u v out x o owns owned (sym same)

pub result_no_temporary : (g : Graph) (v u o j : ℕ) (kind : Kind) → slice_get g.owners v ≡ Some (result o) → slice_get g.owners u ≡ Some (temporary j kind) → u ≡ v → ⊥
result_no_temporary g v u o j kind owned owns same =
    let d : 1 ≡ 2 = ap sort_of (one_owner g v (result o) (temporary j kind) owned (subst (λ z. slice_get g.owners z ≡ Some (temporary j kind)) same owns)) in
    omega (arith, d)

frame_result : (g : Graph) (f : Frame) (vars : Vars) (v : VarId) (o : ℕ) (w : Option ℤ) → slice_get g.owners v.0 ≡ Some (result o) → (f.out ≡ o → ⊥) → FrameHeld g f vars → FrameHeld g f (with_value vars v w)
frame_result g f vars v o w owned apart h = record {
  agree = record { same = λ y u owns. h.agree.same y u owns ∙ sym (get_or-set_other vars v.0 u w None (result_no_local g v.0 u o f.out y owned owns)) };
  long = h.long;
  scoped = h.scoped;
  late = h.late;
  quiet = λ kind is u owns. get_or-set_other vars v.0 u w None (another_result g v.0 u o f.out owned owns apart) ∙ h.quiet kind is u owns;
}

pub frames_result : (g : Graph) (fs : List Frame) (vars : Vars) (v : VarId) (o : ℕ) (w : Option ℤ) → slice_get g.owners v.0 ≡ Some (result o) → IsNone o fs → AllHeld g fs vars → AllHeld g fs (with_value vars v w)
frames_result g [] vars v o w owned none all = tt
frames_result g (f ∷ fs) vars v o w owned none all = (frame_result g f vars v o w owned none.0 all.0, frames_result g fs vars v o w owned none.1 all.1)

-- the result of no function that runs is set
pub result_set : (g : Graph) (fs : List Frame) (vars : Vars) (v : VarId) (o : ℕ) (w : Option ℤ) → slice_get g.owners v.0 ≡ Some (result o) → IsNone o fs → Held g fs vars → Held g fs (with_value vars v w)
result_set g fs vars v o w owned none h = record {
  all = frames_result g fs vars v o w owned none h.all;
  nested = h.nested;
  clear = λ u out y owns apart. get_or-set_other vars v.0 u w None (result_no_local g v.0 u o out y owned owns) ∙ h.clear u out y owns apart;
  clean = λ u j kind owns. get_or-set_other vars v.0 u.0 w None (result_no_temporary g v.0 u.0 o j kind owned owns) ∙ h.clean u j kind owns;
  long = length_set vars v.0 w ∙ h.long;
}

-- ---- a function that ends: its result may be there
pub record Ending (g : Graph) (f : Frame) (fs : List Frame) (m : ℕ) (vars : Vars) : Type 0 where
  pub agree : Agree g f.out f.values vars
  pub mine : length f.values ≡ length f.function.locals
  pub late : IsLate g f.out f.values (limit m (below (length f.function.locals)))
  pub others : AllHeld g fs vars
  pub nested : AreNested (f ∷ fs)
  pub clear : (v out x : ℕ) → slice_get g.owners v ≡ Some (local out x) → IsNone out (f ∷ fs) → slice_index_or vars v None ≡ None
  pub clean : IsClean g vars
  pub long : length vars ≡ length g.owners

pub ending : (g : Graph) (f : Frame) (fs : List Frame) (m : ℕ) (vars : Vars) → IsLate g f.out f.values (limit m (below (length f.function.locals))) → Held g (f ∷ fs) vars → Ending g f fs m vars
ending g f fs m vars late h = record { agree = h.all.0.agree; mine = h.all.0.long; late = late; others = h.all.1; nested = h.nested; clear = h.clear; clean = h.clean; long = h.long }

pub ending_set : (g : Graph) (f : Frame) (fs : List Frame) (m : ℕ) (vars : Vars) (v : VarId) (w : Option ℤ) → slice_get g.owners v.0 ≡ Some (result f.out) → Ending g f fs m vars → Ending g f fs m (with_value vars v w)
ending_set g f fs m vars v w owned h = record {
  agree = record { same = λ y u owns. h.agree.same y u owns ∙ sym (get_or-set_other vars v.0 u w None (result_no_local g v.0 u f.out f.out y owned owns)) };
  mine = h.mine;
  late = h.late;
  others = frames_result g fs vars v f.out w owned (inside_none f.out fs h.nested.0) h.others;
  nested = h.nested;
  clear = λ u out y owns apart. get_or-set_other vars v.0 u w None (result_no_local g v.0 u f.out out y owned owns) ∙ h.clear u out y owns apart;
  clean = λ u j kind owns. get_or-set_other vars v.0 u.0 w None (result_no_temporary g v.0 u.0 f.out j kind owned owns) ∙ h.clean u j kind owns;
  long = length_set vars v.0 w ∙ h.long;
}

-- an inner function's result is set where another one ends
pub ending_other : (g : Graph) (f : Frame) (fs : List Frame) (m : ℕ) (vars : Vars) (v : VarId) (o : ℕ) (w : Option ℤ) → slice_get g.owners v.0 ≡ Some (result o) → o < f.out → Ending g f fs m vars → Ending g f fs m (with_value vars v w)
ending_other g f fs m vars v o w owned less h = record {
  agree = record { same = λ y u owns. h.agree.same y u owns ∙ sym (get_or-set_other vars v.0 u w None (result_no_local g v.0 u o f.out y owned owns)) };
  mine = h.mine;
  late = h.late;
  others = frames_result g fs vars v o w owned (none_inside fs h.nested.0) h.others;
  nested = h.nested;
  clear = λ u out y owns apart. get_or-set_other vars v.0 u w None (result_no_local g v.0 u o out y owned owns) ∙ h.clear u out y owns apart;
  clean = λ u j kind owns. get_or-set_other vars v.0 u.0 w None (result_no_temporary g v.0 u.0 o j kind owned owns) ∙ h.clean u j kind owns;
  long = length_set vars v.0 w ∙ h.long;
}
  where
    none_inside : (es : List Frame) → IsInside f.out es → IsNone o es
    none_inside [] inside = tt
    none_inside (e ∷ es) inside = (λ k. omega (arith, k, inside.0, less), none_inside es inside.1)

their_own : (g : Graph) (out n m : ℕ) (values : Values) (us : List VarId) (s : Stage) → AreMade g out (λ x. x < n) (stage out out m) us → IsLate g out values (limit m (below n)) → AreTheirs g out values (below n) us
their_own g out n m values us s made late = record {
  all = λ x v inside owned. elim (dec_lt v.0 m) [
    | yes before ↦ inl (made.all x v (from_below n x inside) (is_made owned before))
    | no after ↦ inr (late x v.0 inside owned (omega (arith, after)))
  ];
  only = λ v there. own_of v (only_of v there);
}
  where
    only_of : (v : VarId) → Contains us v → (x : ℕ) × (x < n) × IsMade g (local out x) v (stage out out m)
    only_of v there = subst (λ z. (x : ℕ) × (x < n) × IsMade g (local out x) z (stage out out m)) there.2 (made.only there.0 v there.1)

    owner_of : (x : ℕ) (v : VarId) → IsMade g (local out x) v (stage out out m) → slice_get g.owners v.0 ≡ Some (local out x)
    owner_of x v (is_made owned before) = owned

    own_of : (v : VarId) → ((x : ℕ) × (x < n) × IsMade g (local out x) v (stage out out m)) → (x : ℕ) × Contains (below n) x × (slice_get g.owners v.0 ≡ Some (local out x))
    own_of v one_is = (one_is.0, in_below n one_is.0 one_is.1, owner_of one_is.0 v one_is.2)

pub left : (g : Graph) (f : Frame) (fs : List Frame) (m : ℕ) (us : List VarId) (vars : Vars) → AreMade g f.out (λ x. x < length f.function.locals) (stage f.out f.out m) us → Ending g f fs m vars → Held g fs (flow_without vars us)
left g f fs m us vars made h = record {
  all = frames_kept g fs f.out f.values (below n) us vars theirs (inside_none f.out fs h.nested.0) h.others;
  nested = h.nested.1;
  clear = λ u out y owns none. elim (same_number f.out out) [
    | inl e ↦ mine_clear u y (subst (λ z. slice_get g.owners u ≡ Some (local z y)) (sym e) owns)
    | inr apart ↦ kept_apart g f.out f.values (below n) us vars u theirs (λ x owned. apart (same_out g u f.out x out y owned owns)) ∙ h.clear u out y owns (apart, none)
  ];
  clean = λ u j kind owns. kept_apart g f.out f.values (below n) us vars u.0 theirs (λ x owned. no_temporary g u.0 u.0 f.out x j kind owned owns refl) ∙ h.clean u j kind owns;
  long = length_without us vars ∙ h.long;
}
  where
    n : ℕ
    n = length f.function.locals

    theirs : AreTheirs g f.out f.values (below n) us
    theirs = their_own g f.out n m f.values us (stage 0 0 0) made h.late

    none_of : (u y : ℕ) → Contains us (var_at u) ⊎ (held f.values y ≡ None) → (Contains us (var_at u) → ⊥) → held f.values y ≡ None
    none_of u y (inl is) absent = absurd (absent is)
    none_of u y (inr none) absent = none

    mine_clear : (u y : ℕ) → slice_get g.owners u ≡ Some (local f.out y) → slice_index_or (flow_without vars us) u None ≡ None
    mine_clear u y owns = elim (in_or_not (var_at u) us) [
      | inl is ↦ without_in us vars (var_at u) is
      | inr absent ↦ without_out us vars (var_at u) absent ∙ sym (h.agree.same y u owns) ∙ elim (dec_lt y n) [
        | yes less ↦ none_of u y (theirs.all y (var_at u) (in_below n y less) owns) absent
        | no past ↦ past_none f.values y (omega (arith, past, h.mine))
      ]
    ]

-- the result is still there
pub result_stays : (g : Graph) (f : Frame) (m : ℕ) (us : List VarId) (vars : Vars) (ret : VarId) → AreMade g f.out (λ x. x < length f.function.locals) (stage f.out f.out m) us → IsLate g f.out f.values (limit m (below (length f.function.locals)))
    → slice_get g.owners ret.0 ≡ Some (result f.out) → value_in (flow_without vars us) ret ≡ value_in vars ret
result_stays g f m us vars ret made late owned =
    kept_apart g f.out f.values (below (length f.function.locals)) us vars ret.0 (their_own g f.out (length f.function.locals) m f.values us (stage 0 0 0) made late)
    (λ x owns. no_result g ret.0 ret.0 f.out x f.out owns owned refl)

-- ---- the caller goes on
pub given_match : {g : Graph} {c : Around} {scope : List ℕ} {late : List Limit} {callers : List Frame} {k j b inner : ℕ} {f : Function} {target : Target} {ret : Option VarId} {rest : Tasks} {s : Stage} (w : Option ℤ) (values : Values) (vars : Vars) (heap : Heap)
    → Wants g c scope target ret s j b → IsResult g f inner ret → inner < c.out → ((v : VarId) → ret ≡ Some v → value_in vars v ≡ w) → k ≤ j → IsWithin j late → Follows g c scope late callers j rest b
    → Held g (frame_of c scope late k values ∷ callers) vars → Match g (record { tasks = given target w rest; values = values; heap = heap }) (at (goal_of s) vars heap)
given_match {g} {c} {scope} {late} {callers} {k} {j} w values vars heap wants_nothing res inside value low within later h = match later (held_raised g c scope late callers k j values vars low h)
given_match w values vars heap (wants (takes_stored puts undone is_in less)) (Rattle.mc_lower_spec.proofs.Following.a_result is owned) inside value low within later h =
    match_taking (takes_stored puts undone is_in less) owned inside (value _ refl) low within later h
given_match w values vars heap (wants (takes_returned made copy undone same)) (Rattle.mc_lower_spec.proofs.Following.a_result is owned) inside value low within later h =
    match_taking (takes_returned made copy undone same) owned inside (value _ refl) low within later h
