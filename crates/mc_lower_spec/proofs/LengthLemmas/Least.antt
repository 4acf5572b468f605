-- A flow graph has at least as many points as are counted.
use Rattle.std.proofs.Common.{◌≡◌, ◌≤◌, ◌<◌, ◌+◌, ◌++◌, ℕ, zero, suc, List, [], ◌∷◌, Option, Some, Bool, true, false, cond, eqb, length, refl, sym, ap, subst, ◌∙◌, arith, inl, inr, append_assoc, append-nil, eqb-true}
use Rattle.std.proofs.lemmas.List.Elements.{Contains-push_cases}
use Rattle.std.proofs.lemmas.Bool.{cases_lt}
use Rattle.std.proofs.lemmas.List.Folds.{Any-from_list_any}
use Rattle.std.specs.List.{list_any}
use Rattle.std.specs.Prelude.{Contains, slice_get}
use Rattle.mc_base.specs.declared.ids.VarId.{VarId}
use Rattle.mc_base.specs.declared.plain.VarInfo.{VarInfo}
use Rattle.mc_base.specs.declared.text.place.Place.{Place}
use Rattle.mc_semantics.specs.Resolved.Programs.{Call, Right, Action, Simple, Initial, Start, Stmt, Stmts, Function}
use Rattle.mc_lower_spec.specs.Graphs.{Graph, Owner, local, Stage, stage, Creates, creates, IsMade, is_made, Leaves, leaves}
use Rattle.mc_lower_spec.specs.Lowering.{Around, SetsTo, sets_operand, sets_computed, sets_allocated, Receives, receives_none, receives, Calls, calls, Performs, performs_assign, performs_result, performs_add, performs_subtract, performs_call}
use Rattle.mc_lower_spec.specs.Lowering.{Declares, declares_none, declares_undefined, declares_value, Starts, starts_nothing, starts_declaring, starts_performing, Finishes, finishes_none, finishes}
use Rattle.mc_lower_spec.specs.Lowering.{Lowers, declarations, blocks, empties, simples, frees, asserts, assumes, shapes_assumed, shapes_asserted, emptiness_asserted, ifs, ifs_else, whiles, dos, fors, breaks, continues, returns_nothing, returns_value, returns_result, LowersAll, lowers_none, lowers_next}
use Rattle.mc_lower_spec.specs.Length.Lengths.{clearing, leaving, operations, all_operations, calling, returning, acting, declaring, starting, finishing, items_declared, start_declared, declared, all_declared, stretch, stretch_all, below, IsTable}
use Rattle.mc_lower_spec.proofs.Stages.{points_of, variables_of}
use Rattle.mc_lower_spec.proofs.LengthLemmas.Counting.{IsCounted, received, appended, undefined, created, evaluated, all_evaluated, tested, tested_perhaps, put, set, assigned, changed, passed, awaited}

-- at least c points more
pub record IsAtLeast (c p v n k : ℕ) : Type 0 where
  pub points : p + c ≤ n
  pub variables : v ≤ k

abbrev pub AtLeast : ℕ → Stage → Stage → Type 0
AtLeast c s u = IsAtLeast c (points_of s) (variables_of s) (points_of u) (variables_of u)

pub at_least : {c p v n k : ℕ} → IsCounted c p v n k → IsAtLeast c p v n k
at_least x = record { points = omega (arith, x.points); variables = x.variables }

pub up : {a b c : ℕ} → a ≤ b → b ≤ c → a ≤ c
up low high = omega (arith, low, high)

-- ---- variables that are made
-- among the first k variables of the flow graph are these of an occurrence
pub record HasMade (g : Graph) (out : ℕ) (made : List ℕ) (k : ℕ) : Type 0 where
  pub has : (x : ℕ) → Contains made x → (v : VarId) × (slice_get g.owners v.0 ≡ Some (local out x)) × (v.0 < k)

pub still : {g : Graph} {out : ℕ} {made : List ℕ} {k j : ℕ} → k ≤ j → HasMade g out made k → HasMade g out made j
still low m = record { has = λ x among. let (v, there, within) = m.has x among in (v, there, omega (arith, low, within)) }

pub no_others : {g : Graph} {out : ℕ} {made : List ℕ} {k : ℕ} → HasMade g out made k → HasMade g out (made ++ []) k
no_others {g = g} {out = out} {made = made} {k = k} m = subst (λ l. HasMade g out l k) (sym (append-nil made)) m

pub in_turn : {g : Graph} {out k : ℕ} (made xs ys : List ℕ) → HasMade g out ((made ++ xs) ++ ys) k → HasMade g out (made ++ (xs ++ ys)) k
in_turn {g = g} {out = out} {k = k} made xs ys m = subst (λ l. HasMade g out l k) (append_assoc made xs ys) m

pub one_made : {g : Graph} {out x : ℕ} {info : VarInfo} {made : List ℕ} {s u : Stage} {v : VarId} → Creates g (local out x) info s v u
    → HasMade g out made (variables_of s) → HasMade g out (made ++ x ∷ []) (variables_of u)
one_made {out = out} {x = x} {made = made} (creates {k = k} owned info) m =
    record {
      has = λ y among. elim (Contains-push_cases made x y among) [
        | inl old ↦ let (v, there, within) = m.has y old in (v, there, omega (arith, within))
        | inr same ↦ (record { 0 = k }, owned ∙ ap (λ z. Some (local out z)) same, omega arith)
      ];
    }

made_at : {g : Graph} {owner : Owner} (v : VarId) (s : Stage) → slice_get g.owners v.0 ≡ Some owner → v.0 < variables_of s → IsMade g owner v s
made_at v (stage a n k) there within = is_made there within

-- ---- blocks that are left
some_cleared : (vs : List VarId) (v : VarId) → Contains vs v → clearing (length vs) ≡ 1
some_cleared [] v among = absurd (omega (arith, among.1))
some_cleared (h ∷ vs) v among = refl

any_left : {g : Graph} {out : ℕ} {place : Place} {xs : List ℕ} {s u : Stage} (made : List ℕ) (b : Bool) → list_any (λ x. list_any (eqb x) made) xs ≡ b
    → Leaves g out place xs s u → HasMade g out made (variables_of s) → AtLeast (cond b 1 0) s u
any_left made false is (leaves made_by undone) m = let x = undefined undone in record { points = omega (arith, x.points); variables = x.variables }
any_left {out = out} {xs = xs} {s = s} made true is (leaves {vs = vs} made_by undone) m =
    let (i, x, i_within, x_there, x_made) = Any-from_list_any (λ x. list_any (eqb x) made) xs is in
    let (j, y, j_within, y_there, same) = Any-from_list_any (eqb x) made x_made in
    let one : x ≡ y = eqb-true x y same in
    let (v, owned, within) = m.has y (j, j_within, y_there) in
    let among : Contains vs v = made_by.all x v (i, i_within, x_there) (made_at v s (owned ∙ ap (λ z. Some (local out z)) (sym one)) within) in
    let some : clearing (length vs) ≡ 1 = some_cleared vs v among in
    let z = undefined undone in
    record { points = omega (arith, z.points, some); variables = z.variables }

pub left : {g : Graph} {out : ℕ} {place : Place} {xs made : List ℕ} {s u : Stage} → Leaves g out place xs s u → HasMade g out made (variables_of s) → AtLeast (leaving xs made) s u
left {xs = xs} {made = made} leave m = any_left made (list_any (λ x. list_any (eqb x) made) xs) refl leave m

-- ---- parameters
pub below_low : (n x : ℕ) → Contains (below n) x → x < n
below_low zero x among = absurd (omega (arith, among.1))
below_low (suc n) x among =
    elim (Contains-push_cases (below n) n x among) [
      | inl old ↦ let low = below_low n x old in omega (arith, low)
      | inr same ↦ omega (arith, same)
    ]

-- those made from x on
received_from : {g : Graph} {f : Function} {out x parameters : ℕ} {s u : Stage} {vs : List VarId} → Receives g f out x parameters s vs u
    → (y : ℕ) → x ≤ y → y < x + parameters → (v : VarId) × (slice_get g.owners v.0 ≡ Some (local out y)) × (v.0 < variables_of u)
received_from receives_none = λ y high low. absurd (omega (arith, high, low))
received_from {out = out} {x = x} (receives is (creates {k = k} owned info) rest) = λ y high low.
    let b = received rest in
    elim (cases_lt x y) [
      | inl later ↦ received_from rest y (omega (arith, later)) (omega (arith, low))
      | inr now ↦ let same : x ≡ y = omega (arith, high, now) in (record { 0 = k }, owned ∙ ap (λ z. Some (local out z)) same, omega (arith, b.variables))
    ]

pub parameters_made : {g : Graph} {f : Function} {out parameters : ℕ} {s u : Stage} {vs : List VarId} → Receives g f out 0 parameters s vs u → HasMade g out (below parameters) (variables_of u)
parameters_made {parameters = parameters} them =
    record { has = λ x among. let low = below_low parameters x among in received_from them x (omega arith) (omega (arith, low)) }

-- ---- statements
-- at least c points more, and these variables are made then
pub record Least (g : Graph) (out : ℕ) (xs : List ℕ) (c p v n k : ℕ) : Type 0 where
  pub points : p + c ≤ n
  pub variables : v ≤ k
  pub made : HasMade g out xs k

abbrev pub Leads : Graph → (out : ℕ) → List ℕ → ℕ → Stage → Stage → Type 0
Leads g out made c s u = Least g out made c (points_of s) (variables_of s) (points_of u) (variables_of u)

-- where nothing is declared
plainly : {g : Graph} {out : ℕ} {made : List ℕ} {c p v n k : ℕ} → IsAtLeast c p v n k → HasMade g out made v → Least g out (made ++ []) c p v n k
plainly x m = record { points = x.points; variables = x.variables; made = no_others (still x.variables m) }

-- a value that is returned
returned : {g : Graph} {out : ℕ} {place : Place} {v : VarId} {right : Right} {a n k : ℕ} {s : Stage} (table : List ℕ) → SetsTo g out place v right s (stage a n k)
    → IsAtLeast (returning table (Some right)) (points_of s) (variables_of s) n k
returned {out = out} table (sets_operand value is) = at_least (set {out = out} table (sets_operand value is))
returned {out = out} table (sets_computed value is undone) = at_least (set {out = out} table (sets_computed value is undone))
returned {out = out} table (sets_allocated count is) = at_least (set {out = out} table (sets_allocated count is))

mutual
  called : {g : Graph} {out : ℕ} {place : Place} {c : Call} {s u : Stage} {ret : Option VarId} (table : List ℕ) → IsTable table g.program.functions → Calls g out place c s ret u → AtLeast (calling table c) s u
  called table right (calls {c = c} {f = f} {ts = ts} {os = os} is parameters values copies undone waiting body made ends) =
      let a = received parameters in
      let b = all_evaluated values in
      let x = b.evaluated in
      let d = passed copies in
      let e = undefined undone in
      let w = awaited waiting in
      let low = up x.variables (up d.variables (up e.variables w.variables)) in
      let i = all_lowered table right (below f.parameters) body (still low (parameters_made parameters)) in
      let j = appended ends in
      let entry = (right c.function f is).least in
      let same : length ts ≡ all_operations c.arguments = omega (arith, x.temporaries) in
      let clear : clearing (length ts) ≡ clearing (all_operations c.arguments) = ap clearing same in
      record {
        points = omega (arith, a.points, x.points, b.operands, d.points, e.points, w.points, i.points, j.points, entry, clear);
        variables = omega (arith, a.variables, x.variables, d.variables, e.variables, w.variables, i.variables, j.variables);
      }

  performed : {g : Graph} {out : ℕ} {place : Place} {action : Action} {s u : Stage} (table : List ℕ) → IsTable table g.program.functions → Performs g out place action s u → AtLeast (acting table action) s u
  performed table right (performs_assign assigns) = at_least (assigned table assigns)
  performed table right (performs_result inner puts undone) =
      let a = called table right inner in
      let b = put puts in
      let d = undefined undone in
      record { points = omega (arith, a.points, b.points, d.points); variables = omega (arith, a.variables, b.variables, d.variables) }
  performed table right (performs_add changes) = at_least (changed changes)
  performed table right (performs_subtract changes) = at_least (changed changes)
  performed table right (performs_call inner) = called table right inner

  declares_least : {g : Graph} {f : Function} {out : ℕ} {place : Place} {items : List Initial} {s u : Stage} (table : List ℕ) → IsTable table g.program.functions → (made : List ℕ)
      → Declares g f out place items s u → HasMade g out made (variables_of s) → Leads g out (made ++ items_declared items) (declaring table items) s u
  declares_least table right made declares_none m = plainly (record { points = omega arith; variables = omega arith }) m
  declares_least table right made (declares_undefined {x = x} {items = items} is makes undone rest) m =
      let a = created makes in
      let b = appended undone in
      let d = declares_least table right (made ++ x ∷ []) rest (still b.variables (one_made makes m)) in
      record { points = omega (arith, a.points, b.points, d.points); variables = omega (arith, a.variables, b.variables, d.variables); made = in_turn made (x ∷ []) (items_declared items) d.made }
  declares_least table right made (declares_value {x = x} {items = items} is makes performs rest) m =
      let a = created makes in
      let b = performed table right performs in
      let d = declares_least table right (made ++ x ∷ []) rest (still b.variables (one_made makes m)) in
      record { points = omega (arith, a.points, b.points, d.points); variables = omega (arith, a.variables, b.variables, d.variables); made = in_turn made (x ∷ []) (items_declared items) d.made }

  started : {g : Graph} {f : Function} {out : ℕ} {start : Start} {s u : Stage} (table : List ℕ) → IsTable table g.program.functions → (made : List ℕ)
      → Starts g f out start s u → HasMade g out made (variables_of s) → Leads g out (made ++ start_declared start) (starting table start) s u
  started table right made starts_nothing m = plainly (record { points = omega arith; variables = omega arith }) m
  started table right made (starts_declaring declares) m = declares_least table right made declares m
  started table right made (starts_performing performs) m = plainly (performed table right performs) m

  finished : {g : Graph} {out : ℕ} {last : Option Simple} {s u : Stage} (table : List ℕ) → IsTable table g.program.functions → Finishes g out last s u → AtLeast (finishing table last) s u
  finished table right finishes_none = record { points = omega arith; variables = omega arith }
  finished table right (finishes performs) = performed table right performs

  lowered : {g : Graph} {c : Around} {a : Stmt} {s u : Stage} (table : List ℕ) → IsTable table g.program.functions → (made : List ℕ) → Lowers g c a s u → HasMade g c.out made (variables_of s)
      → Leads g c.out (made ++ declared a) (stretch table made c.blocks a) s u
  lowered table right made (declarations declares) m = declares_least table right made declares m
  lowered table right made (blocks body leave) m =
      let a = all_lowered table right made body m in
      let b = left leave a.made in
      record { points = omega (arith, a.points, b.points); variables = omega (arith, a.variables, b.variables); made = still b.variables a.made }
  lowered table right made empties m = plainly (record { points = omega arith; variables = omega arith }) m
  lowered table right made (simples performs) m = plainly (performed table right performs) m
  lowered table right made (frees {e = e} {ts = ts} value is undone) m =
      let x = evaluated value in
      let y = appended is in
      let z = undefined undone in
      let same : length ts ≡ operations e = omega (arith, x.temporaries) in
      let clear : clearing (length ts) ≡ clearing (operations e) = ap clearing same in
      plainly (record { points = omega (arith, x.points, y.points, z.points, clear); variables = omega (arith, x.variables, y.variables, z.variables) }) m
  lowered table right made (asserts test is) m =
      let t = tested test in
      plainly (record { points = omega (arith, t.points); variables = t.variables }) m
  lowered table right made (assumes test is) m =
      let t = tested test in
      plainly (record { points = omega (arith, t.points); variables = t.variables }) m
  lowered table right made (shapes_assumed made_by args is) m = plainly (at_least (appended is)) m
  lowered table right made (shapes_asserted value args is) m = plainly (at_least (appended is)) m
  lowered table right made (emptiness_asserted is) m = plainly (at_least (appended is)) m
  lowered table right made (ifs {t = t} {m = n} {k = k} test body is) m =
      let x = tested test in
      let a = lowered table right made body (still x.variables m) in
      let y = appended is in
      record { points = omega (arith, x.points, a.points, y.points); variables = omega (arith, x.variables, a.variables, y.variables); made = still y.variables a.made }
  lowered table right made (ifs_else {a = p} {b = q} {t = t} {f = f} {m = n} {k = k} {i = i} {j = j} test first second is) m =
      let x = tested test in
      let a = lowered table right made first (still x.variables m) in
      let b = lowered table right (made ++ declared p) second a.made in
      let y = appended is in
      record {
        points = omega (arith, x.points, a.points, b.points, y.points);
        variables = omega (arith, x.variables, a.variables, b.variables, y.variables);
        made = still y.variables (in_turn made (declared p) (declared q) b.made);
      }
  lowered table right made (whiles {t = t} {m = n} {i = i} is test body ends) m =
      let w = appended is in
      let x = tested test in
      let low = up w.variables x.variables in
      let a = lowered table right made body (still low m) in
      let y = appended ends in
      record { points = omega (arith, w.points, x.points, a.points, y.points); variables = omega (arith, w.variables, x.variables, a.variables, y.variables); made = still y.variables a.made }
  lowered table right made (dos {e = e} {l = l} is body turn test ends) m =
      let w = appended is in
      let a = lowered table right made body (still w.variables m) in
      let r = appended turn in
      let x = tested test in
      let y = appended ends in
      let low = up r.variables (up x.variables y.variables) in
      record {
        points = omega (arith, w.points, a.points, r.points, x.points, y.points);
        variables = omega (arith, w.variables, a.variables, r.variables, x.variables, y.variables);
        made = still low a.made;
      }
  lowered table right made (fors {h = h} {a = part} {t = t} {p = p} {y = y} start is test body turn last ends leave) m =
      let b = started table right made start m in
      let w = appended is in
      let x = tested_perhaps test in
      let low = up w.variables x.variables in
      let a = lowered table right (made ++ start_declared h.start) body (still low b.made) in
      let r = appended turn in
      let f = finished table right last in
      let e = appended ends in
      let later = up r.variables (up f.variables e.variables) in
      let z = left leave (still later a.made) in
      let last_of_all = up later z.variables in
      record {
        points = omega (arith, b.points, w.points, x.points, a.points, r.points, f.points, e.points, z.points);
        variables = omega (arith, b.variables, w.variables, x.variables, a.variables, r.variables, f.variables, e.variables, z.variables);
        made = in_turn made (start_declared h.start) (declared part) (still last_of_all a.made);
      }
  lowered table right made (breaks is leave) m =
      let h = left leave m in
      plainly (record { points = h.points; variables = h.variables }) m
  lowered table right made (continues is leave) m =
      let h = left leave m in
      plainly (record { points = h.points; variables = h.variables }) m
  lowered table right made returns_nothing m = plainly (record { points = omega arith; variables = omega arith }) m
  lowered table right made (returns_value made_by sets) m =
      plainly (returned table sets) m
  lowered table right made (returns_result made_by inner is undone) m =
      let a = called table right inner in
      let b = appended is in
      let d = undefined undone in
      plainly (record { points = omega (arith, a.points, b.points, d.points); variables = omega (arith, a.variables, b.variables, d.variables) }) m

  pub all_lowered : {g : Graph} {c : Around} {ss : Stmts} {s u : Stage} (table : List ℕ) → IsTable table g.program.functions → (made : List ℕ) → LowersAll g c ss s u → HasMade g c.out made (variables_of s)
      → Leads g c.out (made ++ all_declared ss) (stretch_all table made c.blocks ss) s u
  all_lowered table right made lowers_none m = plainly (record { points = omega arith; variables = omega arith }) m
  all_lowered table right made (lowers_next {a = a} {more = more} first rest) m =
      let x = lowered table right made first m in
      let y = all_lowered table right (made ++ declared a) rest x.made in
      record { points = omega (arith, x.points, y.points); variables = omega (arith, x.variables, y.variables); made = in_turn made (declared a) (all_declared more) y.made }
