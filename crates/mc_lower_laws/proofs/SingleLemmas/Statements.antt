-- Statements that are made alike.
use Rattle.std.proofs.Common.{◌≡◌, ◌≤◌, ◌<◌, ◌++◌, ℕ, suc, List, [], ◌∷◌, Option, Some, length, refl, sym, ap, ◌∙◌, subst, inl, inr, arith}
use Rattle.std.proofs.lemmas.Option.{same_Some}
use Rattle.std.specs.Prelude.{slice_get}
use Rattle.mc_base.specs.declared.ids.VarId.{VarId}
use Rattle.mc_base.specs.declared.text.place.Place.{Place}
use Rattle.mc_flow.specs.declared.instr.Operand.TheVariants.{Var}
use Rattle.mc_flow.specs.declared.instr.Instr.TheVariants.{Copy, Undef, Free, AssumeShape, AssertShape}
use Rattle.mc_semantics.specs.Resolved.Programs.{Call, Action, Simple, Initial, Start, Stmt, Stmts, Function, Program}
use Rattle.mc_lower_spec.specs.Graphs.{Graph, Stage, stage, AreMade, Leaves}
use Rattle.mc_lower_spec.specs.Lowering.{Loop, Around, in_block, in_loop, in_body, Receives, Awaits, Calls, calls, Performs, performs_assign, performs_result, performs_add, performs_subtract, performs_call}
use Rattle.mc_lower_spec.specs.Lowering.{Declares, declares_none, declares_undefined, declares_value, Starts, starts_nothing, starts_declaring, starts_performing, Finishes, finishes_none, finishes}
use Rattle.mc_lower_spec.specs.Lowering.{Lowers, declarations, blocks, empties, simples, frees, asserts, assumes, shapes_assumed, shapes_asserted, emptiness_asserted, ifs, ifs_else, whiles, dos, fors, breaks, continues, returns_nothing, returns_value, returns_result, LowersAll, lowers_none, lowers_next}
use Rattle.mc_lower_spec.proofs.Stages.{points_of, variables_of}
use Rattle.mc_lower_laws.proofs.SingleLemmas.Alike.{local_seen, Setting, Alike, Meets, Goes, on, stays, through}
use Rattle.mc_lower_laws.proofs.SingleLemmas.Variables.{local_once, result_once, appended, undefined, created}
use Rattle.mc_lower_laws.proofs.SingleLemmas.Values.{evaluated, all_evaluated, tested, tested_perhaps, put}
use Rattle.mc_lower_laws.proofs.SingleLemmas.Actions.{Comes, set_to, assigned, changed, info_once, received, passed, awaited, argument_once, arguments_once}
use Rattle.mc_lower_laws.proofs.SingleLemmas.Ascending.{made_same, left_alike}
use Rattle.mc_lower_laws.proofs.SingleLemmas.Entering.{Inside, first_part, second_part, NoneOf, elsewhere, none_yet, viewed}
use Rattle.mc_lower_laws.proofs.SingleLemmas.Joining.{jumps, test_jumps, told_then, leads_away, at_goal, sets_no_call, assigns_no_call}
use Rattle.mc_lower_spec.proofs.Owning as owning
use Rattle.mc_lower_spec.proofs.Owning.{occurrence, IsOwned, on as and_then}

abbrev pub Within : Graph → ℕ → Stage → Stage → Type 0
Within g out s u = Inside g out (points_of s) (variables_of s) (points_of u)

-- two places in the same function, inside the same blocks
pub record Stand (c d : Around) : Type 0 where
  pub function : c.function ≡ d.function
  pub blocks : c.blocks ≡ d.blocks

-- in the same occurrence, inside the same loop
abbrev pub IsSame : Around → Around → Type 0
IsSame c d = (c.out ≡ d.out) × (c.loop ≡ d.loop)

abbrev looped : ℕ → ℕ → Option Loop
looped e i = Some (record { exit = e; turn = i })

same_loop : {e f i j : ℕ} → e ≡ f → i ≡ j → looped e i ≡ looped f j
same_loop {f = f} {i = i} exits turns = ap (λ z. looped z i) exits ∙ ap (λ z. looped f z) turns

-- what is made by others
none_of : {g : Graph} {out at p v n k : ℕ} → IsOwned occurrence g at p v n k → (at ≡ out → ⊥) → n ≤ out → NoneOf g out v k
none_of {out = out} made other bound = λ i x is of low high.
    elim (made.owned i out x is of low high) [
      | inl own ↦ other (sym own)
      | inr inner ↦ omega (arith, inner.1, bound)
    ]

pub freely : {g h : Graph} {out left : ℕ} {Same : Type 0} {s u r w : Stage} → Goes g h out left (Unit {0}) s u r w → Goes g h out left Same s u r w
freely steps = through (λ same. tt) steps

mutual
  called : {g h : Graph} {out left : ℕ} {place : Place} {c : Call} {s u r w : Stage} {ret other : Option VarId} → Setting g h → Meets g h out left s r → Within g out s u → Within h left r w
      → Calls g out place c s ret u → Calls h left place c r other w → Comes g h out left (Unit {0}) ret other s u r w
  called {g = g} {h = h} {out = out} {left = left} {place = place} {c = c} {s = s} {u = u} {r = r} {w = w} set m fits fits_too
      (calls {f = f} {inner = inner} {k = k} {m = ms} {j = js} {r = bs} is parameters values copies undone waiting body made ends)
      (calls {f = e} {vs = vvs} {us = uus} {ret = rret} {inner = within} {k = kk} {m = mr} {j = jr} {r = br} is_too parameters_e values_too copies_too undone_too waiting_e body_e made_e ends_too) =
      let same : e ≡ f = sym (same_Some f e (sym is ∙ ap (λ (z : Program). slice_get z.functions c.function) set.program ∙ is_too)) in
      let parameters_too = subst (λ (z : Function). Receives h z within 0 z.parameters r vvs mr) same parameters_e in
      let waiting_too = subst (λ (z : Function). Awaits h within place z.result jr rret br) same waiting_e in
      let body_too = subst (λ (z : Function). LowersAll h (in_body z within) z.body br (stage within within kk)) same body_e in
      let made_too = subst (λ (z : Function). AreMade h within (λ x. x < length z.locals) (stage within within kk) uus) same made_e in
      let end = owning.ended ends in
      let end_too = owning.ended ends_too in
      let first = owning.received parameters in
      let first_too = owning.received parameters_too in
      let middle = and_then (owning.all_evaluated {out = suc inner} values) (and_then (owning.passed copies) (owning.undefined undone)) in
      let middle_too = and_then (owning.all_evaluated {out = suc within} values_too) (and_then (owning.passed copies_too) (owning.undefined undone_too)) in
      let before = and_then first (and_then (owning.all_evaluated values) (and_then (owning.passed copies) (and_then (owning.undefined undone) (owning.awaited waiting)))) in
      let before_too = and_then first_too (and_then (owning.all_evaluated values_too) (and_then (owning.passed copies_too) (and_then (owning.undefined undone_too) (owning.awaited waiting_too)))) in
      let last = owning.all_lowered body in
      let last_too = owning.all_lowered body_too in
      let wait = owning.awaited waiting in
      let wait_too = owning.awaited waiting_too in
      let bound : suc inner ≤ out = omega (arith, fits.bound, end.0) in
      let bound_too : suc within ≤ left = omega (arith, fits_too.bound, end_too.0) in
      let fresh : NoneOf g inner 0 (variables_of s) = λ i x is of low high. fits.free i inner x is of high (omega (arith, before.points, last.points)) (omega (arith, end.0)) in
      let fresh_too : NoneOf h within 0 (variables_of s) = λ i x is of low high. fits_too.free i within x is of (omega (arith, high, m.variables)) (omega (arith, before_too.points, last_too.points)) (omega (arith, end_too.0)) in
      let enters : Meets g h inner within s r = record { points = m.points; variables = m.variables; alike = elsewhere none_yet m.alike fresh fresh_too } in
      let a = received {Same = Unit {0}} refl enters parameters parameters_too in
      let known = a.steps.meets in
      let there : Alike g h out left (variables_of ms) = elsewhere m.alike known.alike
      (none_of first (λ z. omega (arith, z, bound)) (omega (arith, middle.points, wait.points, last.points, bound)))
      (λ i x is of low high. none_of first_too (λ z. omega (arith, z, bound_too)) (omega (arith, middle_too.points, wait_too.points, last_too.points, bound_too)) i x is of (omega (arith, low, m.variables)) (omega (arith, high, known.variables))) in
      let b = all_evaluated {Same = Unit {0}} set (record { points = known.points; variables = known.variables; alike = there }) refl values values_too in
      let d = passed {Same = Unit {0}} b.steps.meets a.value b.value copies copies_too in
      let x = undefined {Same = Unit {0}} d.meets b.list undone undone_too in
      let arrived = x.meets in
      let inside : Alike g h inner within (variables_of js) = elsewhere known.alike arrived.alike
      (none_of middle (λ z. omega (arith, z)) (omega (arith, wait.points, last.points)))
      (λ i y is of low high. none_of middle_too (λ z. omega (arith, z)) (omega (arith, wait_too.points, last_too.points)) i y is of (omega (arith, low, known.variables)) (omega (arith, high, arrived.variables))) in
      let y = awaited {Same = Unit {0}} (record { points = arrived.points; variables = arrived.variables; alike = inside }) waiting waiting_too in
      let part : Inside g inner (points_of s) (variables_of s) inner = record { free = λ i o x is of less low high. fits.free i o x is of less low (omega (arith, high, end.0)); bound = omega arith } in
      let part_too : Inside h within (points_of r) (variables_of r) within = record { free = λ i o x is of less low high. fits_too.free i o x is of less low (omega (arith, high, end_too.0)); bound = omega arith } in
      let z = all_lowered {c = in_body f inner} {d = in_body f within} set (record { function = refl; blocks = refl }) y.steps.meets (second_part part before) (second_part part_too before_too) body body_too in
      let us = made_same z.meets made made_too in
      let v = appended {Same = Unit {0}} z.meets (λ q. ap (λ l. Undef l q) us) ends ends_too in
      let inner_steps = on y.steps (jumps z v refl (λ same goal. ((z.meets.points, refl), z.meets.points))) in
      let outer = owning.called {out = suc out} (calls is parameters values copies undone waiting body made ends) in
      let outer_too = owning.called {out = suc left} (calls is_too parameters_e values_too copies_too undone_too waiting_e body_e made_e ends_too) in
      let after : Alike g h out left (variables_of u) = elsewhere m.alike v.meets.alike
      (none_of outer (λ z. omega (arith, z)) fits.bound)
      (λ i y is of low high. none_of outer_too (λ z. omega (arith, z)) fits_too.bound i y is of (omega (arith, low, m.variables)) (omega (arith, high, v.meets.variables))) in
      record {
        value = y.value;
        steps = on (viewed there a.steps) (on b.steps (on d (on x (viewed after inner_steps))));
      }

  performed : {g h : Graph} {out left : ℕ} {place : Place} {action : Action} {s u r w : Stage} → Setting g h → Meets g h out left s r → Within g out s u → Within h left r w
      → Performs g out place action s u → Performs h left place action r w → Goes g h out left (Unit {0}) s u r w
  performed set m fits fits_too (performs_assign assigns) (performs_assign assigns_too) = assigned set m assigns assigns_too
  performed set m fits fits_too (performs_assign assigns) (performs_result inner puts undone) = absurd (assigns_no_call assigns)
  performed set m fits fits_too (performs_result inner puts undone) (performs_assign assigns) = absurd (assigns_no_call assigns)
  performed set m fits fits_too (performs_result {ret = ret} inner puts undone) (performs_result {ret = other} inner_too puts_too undone_too) =
      let more = and_then (owning.put {out = 0} puts) (owning.undefined undone) in
      let more_too = and_then (owning.put {out = 0} puts_too) (owning.undefined undone_too) in
      let a = called set m (first_part fits more.points) (first_part fits_too more_too.points) inner inner_too in
      let same : ret ≡ other = same_Some ret other a.value in
      let b = put set a.steps.meets (ap (λ z. Var z) same) refl puts puts_too in
      on a.steps (on b (undefined b.meets (ap (λ z. z ∷ []) same) undone undone_too))
  performed set m fits fits_too (performs_add changes) (performs_add changes_too) = changed set m changes changes_too
  performed set m fits fits_too (performs_subtract changes) (performs_subtract changes_too) = changed set m changes changes_too
  performed set m fits fits_too (performs_call inner) (performs_call inner_too) = let a = called set m fits fits_too inner inner_too in a.steps

  declared : {g h : Graph} {f e : Function} {out left : ℕ} {place : Place} {items : List Initial} {s u r w : Stage} → Setting g h → f ≡ e → Meets g h out left s r → Within g out s u → Within h left r w
      → Declares g f out place items s u → Declares h e left place items r w → Goes g h out left (Unit {0}) s u r w
  declared set same m fits fits_too declares_none declares_none = stays m
  declared {out = out} {left = left} set same m fits fits_too (declares_undefined {x = x} is makes undone rest) (declares_undefined is_too makes_too undone_too rest_too) =
      let a = created m (local_seen out x ∙ sym (local_seen left x)) (info_once x same is is_too) makes makes_too in
      let b = appended a.steps.meets (λ q. ap (λ z. Undef (z ∷ []) q) a.variable) undone undone_too in
      let d = declared set same b.meets (second_part fits (and_then (owning.made_local makes) (owning.appended undone))) (second_part fits_too (and_then (owning.made_local makes_too) (owning.appended undone_too))) rest rest_too in
      on a.steps (on b d)
  declared {out = out} {left = left} set same m fits fits_too (declares_value {x = x} is makes performs rest) (declares_value is_too makes_too performs_too rest_too) =
      let more = owning.declared rest in
      let more_too = owning.declared rest_too in
      let a = created m (local_seen out x ∙ sym (local_seen left x)) (info_once x same is is_too) makes makes_too in
      let b = performed set a.steps.meets (first_part (second_part fits (owning.made_local makes)) more.points) (first_part (second_part fits_too (owning.made_local makes_too)) more_too.points) performs performs_too in
      let d = declared set same b.meets (second_part fits (and_then (owning.made_local makes) (owning.performed performs))) (second_part fits_too (and_then (owning.made_local makes_too) (owning.performed performs_too))) rest rest_too in
      on a.steps (on b d)

  started : {g h : Graph} {f e : Function} {out left : ℕ} {start : Start} {s u r w : Stage} → Setting g h → f ≡ e → Meets g h out left s r → Within g out s u → Within h left r w
      → Starts g f out start s u → Starts h e left start r w → Goes g h out left (Unit {0}) s u r w
  started set same m fits fits_too starts_nothing starts_nothing = stays m
  started set same m fits fits_too (starts_declaring declares) (starts_declaring declares_too) = declared set same m fits fits_too declares declares_too
  started set same m fits fits_too (starts_performing performs) (starts_performing performs_too) = performed set m fits fits_too performs performs_too

  finished : {g h : Graph} {out left : ℕ} {last : Option Simple} {s u r w : Stage} → Setting g h → Meets g h out left s r → Within g out s u → Within h left r w
      → Finishes g out last s u → Finishes h left last r w → Goes g h out left (Unit {0}) s u r w
  finished set m fits fits_too finishes_none finishes_none = stays m
  finished set m fits fits_too (finishes performs) (finishes performs_too) = performed set m fits fits_too performs performs_too

  lowered : {g h : Graph} {c d : Around} {a : Stmt} {s u r w : Stage} → Setting g h → Stand c d → Meets g h c.out d.out s r → Within g c.out s u → Within h d.out r w
      → Lowers g c a s u → Lowers h d a r w → Goes g h c.out d.out (IsSame c d) s u r w
  lowered set stand m fits fits_too (declarations declares) (declarations declares_too) = freely (declared set stand.function m fits fits_too declares declares_too)
  lowered {c = c} {d = d} set stand m fits fits_too (blocks {xs = xs} body leave) (blocks body_too leave_too) =
      let after = owning.left {out = 0} leave in
      let after_too = owning.left {out = 0} leave_too in
      let a = all_lowered {c = in_block c xs} {d = in_block d xs} set (record { function = stand.function; blocks = ap (λ z. xs ++ z) stand.blocks }) m (first_part fits after.points) (first_part fits_too after_too.points) body body_too in
      on a (left_alike a.meets leave leave_too)
  lowered set stand m fits fits_too empties empties = stays m
  lowered set stand m fits fits_too (simples performs) (simples performs_too) = freely (performed set m fits fits_too performs performs_too)
  lowered set stand m fits fits_too (frees value is undone) (frees value_too is_too undone_too) =
      let a = evaluated set m refl value value_too in
      let b = appended a.steps.meets (λ q. ap (λ z. Free z q) a.value) is is_too in
      on a.steps (on b (undefined b.meets a.list undone undone_too))
  lowered set stand m fits fits_too (asserts test is) (asserts test_too is_too) = told_then (tested set m test test_too) is is_too
  lowered set stand m fits fits_too (assumes test is) (assumes test_too is_too) = told_then (tested set m test test_too) is is_too
  lowered set stand m fits fits_too (shapes_assumed {predicate = predicate} {os = os} made args is) (shapes_assumed {v = x} made_too args_too is_too) =
      appended m (λ q. ap (λ z. AssumeShape predicate z os q) (local_once set m made made_too) ∙ ap (λ z. AssumeShape predicate x z q) (arguments_once set m args args_too)) is is_too
  lowered set stand m fits fits_too (shapes_asserted {predicate = predicate} {os = os} value args is) (shapes_asserted {o = p} value_too args_too is_too) =
      appended m (λ q. ap (λ z. AssertShape predicate z os q) (argument_once set m value value_too) ∙ ap (λ z. AssertShape predicate p z q) (arguments_once set m args args_too)) is is_too
  lowered set stand m fits fits_too (emptiness_asserted is) (emptiness_asserted is_too) = appended m (λ q. refl) is is_too
  lowered {c = c} {d = d} set stand m fits fits_too (ifs test body is) (ifs test_too body_too is_too) =
      let end = owning.appended {out = 0} is in
      let end_too = owning.appended {out = 0} is_too in
      let x = tested {Same = IsSame c d} set m test test_too in
      let a = lowered set stand x.meets (first_part (second_part fits (owning.tested test)) end.points) (first_part (second_part fits_too (owning.tested test_too)) end_too.points) body body_too in
      let rest = on a (appended a.meets (λ q. refl) is is_too) in
      test_jumps x rest refl (λ same goal. ((rest.back same goal).0, a.meets.points))
  lowered {c = c} {d = d} set stand m fits fits_too (ifs_else test first second is) (ifs_else test_too first_too second_too is_too) =
      let end = owning.appended {out = 0} is in
      let end_too = owning.appended {out = 0} is_too in
      let more = owning.lowered second in
      let more_too = owning.lowered second_too in
      let x = tested {Same = IsSame c d} set m test test_too in
      let behind = second_part fits (owning.tested test) in
      let behind_too = second_part fits_too (owning.tested test_too) in
      let a = lowered set stand x.meets (first_part behind (omega (arith, more.points, end.points))) (first_part behind_too (omega (arith, more_too.points, end_too.points))) first first_too in
      let b = lowered set stand (at_goal a.meets) (first_part (second_part behind (owning.lowered first)) end.points) (first_part (second_part behind_too (owning.lowered first_too)) end_too.points) second second_too in
      let last = on b (appended b.meets (λ q. refl) is is_too) in
      let rest = jumps a last refl (λ same goal. (same, b.meets.points)) in
      test_jumps x rest refl (λ same goal. ((rest.back same goal).0, (last.back same goal).0))
  lowered {c = c} {d = d} set stand m fits fits_too (whiles {n = n} {e = e} is test body ends) (whiles {n = nn} {e = ee} is_too test_too body_too ends_too) =
      let end = owning.appended {out = 0} ends in
      let end_too = owning.appended {out = 0} ends_too in
      let y = appended {Same = IsSame c d} m (λ q. refl) is is_too in
      let x = tested {Same = IsSame c d} set y.meets test test_too in
      let a = lowered {c = in_loop c e n} {d = in_loop d ee nn} set (record { function = stand.function; blocks = refl }) x.meets
      (first_part (second_part fits (and_then (owning.appended is) (owning.tested test))) end.points) (first_part (second_part fits_too (and_then (owning.appended is_too) (owning.tested test_too))) end_too.points) body body_too in
      let rest = jumps a (appended (at_goal a.meets) (λ q. refl) ends ends_too) refl (λ same goal. ((same.0, same_loop a.meets.points m.points), m.points)) in
      on y (test_jumps x rest refl (λ same goal. ((rest.back same goal).0, a.meets.points)))
  lowered {c = c} {d = d} set stand m fits fits_too (dos {i = i} {e = e} is body turn test ends) (dos {i = ii} {e = ee} is_too body_too turn_too test_too ends_too) =
      let after = and_then (owning.appended {out = 0} turn) (and_then (owning.tested test) (owning.appended ends)) in
      let after_too = and_then (owning.appended {out = 0} turn_too) (and_then (owning.tested test_too) (owning.appended ends_too)) in
      let y = appended {Same = IsSame c d} m (λ q. refl) is is_too in
      let a = lowered {c = in_loop c e i} {d = in_loop d ee ii} set (record { function = stand.function; blocks = refl }) y.meets
      (first_part (second_part fits (owning.appended is)) after.points) (first_part (second_part fits_too (owning.appended is_too)) after_too.points) body body_too in
      let z = appended {Same = IsSame c d} a.meets (λ q. refl) turn turn_too in
      let x = tested {Same = IsSame c d} set z.meets test test_too in
      let last = test_jumps x (appended (at_goal x.meets) (λ q. refl) ends ends_too) refl (λ same goal. (m.points, x.meets.points)) in
      on y (jumps a (on z last) refl (λ same goal. ((same.0, same_loop x.meets.points a.meets.points), a.meets.points)))
  lowered {c = c} {d = d} set stand m fits fits_too (fors {i = i} {e = e} start is test body turn last ends leave) (fors {i = ii} {e = ee} start_too is_too test_too body_too turn_too last_too ends_too leave_too) =
      let one = owning.started start in
      let one_too = owning.started start_too in
      let two = and_then (owning.appended {out = c.out} is) (owning.tested_perhaps test) in
      let two_too = and_then (owning.appended {out = d.out} is_too) (owning.tested_perhaps test_too) in
      let three = owning.lowered body in
      let three_too = owning.lowered body_too in
      let four = owning.appended {out = c.out} turn in
      let four_too = owning.appended {out = d.out} turn_too in
      let five = owning.finished {out = c.out} last in
      let five_too = owning.finished {out = d.out} last_too in
      let six = and_then (owning.appended {out = 0} ends) (owning.left leave) in
      let six_too = and_then (owning.appended {out = 0} ends_too) (owning.left leave_too) in
      let b = freely {Same = IsSame c d} (started set stand.function m (first_part fits (omega (arith, two.points, three.points, four.points, five.points, six.points))) (first_part fits_too (omega (arith, two_too.points, three_too.points, four_too.points, five_too.points, six_too.points))) start start_too) in
      let y = appended {Same = IsSame c d} b.meets (λ q. refl) is is_too in
      let x = tested_perhaps {Same = IsSame c d} set y.meets test test_too in
      let behind = second_part fits (and_then one two) in
      let behind_too = second_part fits_too (and_then one_too two_too) in
      let a = lowered {c = in_loop c e i} {d = in_loop d ee ii} set (record { function = stand.function; blocks = refl }) x.meets
      (first_part behind (omega (arith, four.points, five.points, six.points))) (first_part behind_too (omega (arith, four_too.points, five_too.points, six_too.points))) body body_too in
      let z = appended {Same = IsSame c d} a.meets (λ q. refl) turn turn_too in
      let f = freely {Same = IsSame c d} (finished set z.meets (first_part (second_part behind (and_then three four)) six.points) (first_part (second_part behind_too (and_then three_too four_too)) six_too.points) last last_too) in
      let v = appended {Same = IsSame c d} (at_goal f.meets) (λ q. refl) ends ends_too in
      let final = jumps f (on v (left_alike v.meets leave leave_too)) refl (λ same goal. (same, b.meets.points)) in
      let rest = jumps a (on z final) refl (λ same goal. ((same.0, same_loop f.meets.points a.meets.points), a.meets.points)) in
      on b (on y (test_jumps x rest refl (λ same goal. ((rest.back same goal).0, f.meets.points))))
  lowered {h = h} {c = c} {d = d} {r = r} set stand m fits fits_too (breaks {l = l} is leave) (breaks {place = place} {l = n} {n = i} {k = j} is_too leave_too) =
      let leave_there = subst (λ z. Leaves h d.out place z r (stage n.exit i j)) (sym stand.blocks) leave_too in
      leads_away (left_alike m leave leave_there) (λ same. ap (λ (z : Loop). z.exit) (same_Some l n (sym is ∙ same.1 ∙ is_too)))
  lowered {h = h} {c = c} {d = d} {r = r} set stand m fits fits_too (continues {l = l} is leave) (continues {place = place} {l = n} {n = i} {k = j} is_too leave_too) =
      let leave_there = subst (λ z. Leaves h d.out place z r (stage n.turn i j)) (sym stand.blocks) leave_too in
      leads_away (left_alike m leave leave_there) (λ same. ap (λ (z : Loop). z.turn) (same_Some l n (sym is ∙ same.1 ∙ is_too)))
  lowered set stand m fits fits_too returns_nothing returns_nothing = leads_away (stays m) (λ same. same.0)
  lowered set stand m fits fits_too (returns_value made sets) (returns_value made_too sets_too) = leads_away (set_to set m (result_once set m made made_too) sets sets_too) (λ same. same.0)
  lowered set stand m fits fits_too (returns_value made sets) (returns_result made_too inner is undone) = absurd (sets_no_call sets)
  lowered set stand m fits fits_too (returns_result made inner is undone) (returns_value made_too sets) = absurd (sets_no_call sets)
  lowered set stand m fits fits_too (returns_result {ret = ret} made inner is undone) (returns_result {v = vv} {ret = other} made_too inner_too is_too undone_too) =
      let more = and_then (owning.appended {out = 0} is) (owning.undefined undone) in
      let more_too = and_then (owning.appended {out = 0} is_too) (owning.undefined undone_too) in
      let a = called set m (first_part fits more.points) (first_part fits_too more_too.points) inner inner_too in
      let same : ret ≡ other = same_Some ret other a.value in
      let b = appended a.steps.meets (λ q. ap (λ z. Copy z (Var ret) q) (result_once set m made made_too) ∙ ap (λ z. Copy vv (Var z) q) same) is is_too in
      leads_away (on (freely a.steps) (on b (undefined b.meets (ap (λ z. z ∷ []) same) undone undone_too))) (λ same. same.0)

  pub all_lowered : {g h : Graph} {c d : Around} {ss : Stmts} {s u r w : Stage} → Setting g h → Stand c d → Meets g h c.out d.out s r → Within g c.out s u → Within h d.out r w
      → LowersAll g c ss s u → LowersAll h d ss r w → Goes g h c.out d.out (IsSame c d) s u r w
  all_lowered set stand m fits fits_too lowers_none lowers_none = stays m
  all_lowered set stand m fits fits_too (lowers_next first rest) (lowers_next first_too rest_too) =
      let more = owning.all_lowered rest in
      let more_too = owning.all_lowered rest_too in
      let a = lowered set stand m (first_part fits more.points) (first_part fits_too more_too.points) first first_too in
      on a (all_lowered set stand a.meets (second_part fits (owning.lowered first)) (second_part fits_too (owning.lowered first_too)) rest rest_too)
