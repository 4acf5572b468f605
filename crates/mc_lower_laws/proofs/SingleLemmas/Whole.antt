-- The flow graphs of one program are the same.
use Rattle.std.proofs.Common.{◌≡◌, ◌<◌, ℕ, suc, ℤ, pos, List, [], ◌∷◌, Option, Some, length, refl, sym, ap, ◌∙◌, subst, arith}
use Rattle.std.proofs.lemmas.Int.{ints}
use Rattle.std.proofs.lemmas.List.Elements.{All-contains}
use Rattle.std.proofs.lemmas.Option.{same_Some}
use Rattle.std.specs.Int.Signed.{◌<ℤ◌}
use Rattle.std.specs.Prelude.{slice_get, Contains}
use Rattle.mc_base.specs.declared.ids.PointId.{PointId}
use Rattle.mc_base.specs.declared.plain.Kind.{Kind}
use Rattle.mc_base.specs.declared.plain.VarInfo.{VarInfo}
use Rattle.mc_flow.specs.declared.defs.shapes.Structs.{Structs}
use Rattle.mc_flow.specs.declared.graph.Flow.{Flow}
use Rattle.mc_flow.specs.declared.graph.Point.{Point}
use Rattle.mc_flow.specs.declared.instr.Operand.TheVariants.{Const}
use Rattle.mc_flow.specs.declared.instr.Instr.TheVariants.{Copy, End}
use Rattle.mc_semantics.specs.Resolved.Programs.{Function, Program}
use Rattle.mc_lower_spec.specs.Graphs.{Graph, Role, plain, Stage, stage, nowhere, IsPoint}
use Rattle.mc_lower_spec.specs.Lowering.{in_body, Answers, answers_none, answers, Falls, falls_in_main, falls, Makes, makes, AreOfRole, operands, AreThresholds, IsLowering}
use Rattle.mc_lower_spec.proofs.Stages.{points_of}
use Rattle.mc_lower_laws.proofs.SingleLemmas.Alike.{result_seen, Setting, Meets, SamePoints, Goes, on, stays, same_point}
use Rattle.mc_lower_laws.proofs.SingleLemmas.Variables.{result_once, appended, created}
use Rattle.mc_lower_laws.proofs.SingleLemmas.Ascending.{ascending_same}
use Rattle.mc_lower_laws.proofs.SingleLemmas.Entering.{Inside, second_part, none_yet}
use Rattle.mc_lower_laws.proofs.SingleLemmas.Joining.{joined}
use Rattle.mc_lower_laws.proofs.SingleLemmas.Statements.{IsSame, all_lowered}
use Rattle.mc_lower_spec.proofs.Owning as owning
use Rattle.mc_lower_spec.proofs.Owning.{Owns, on as and_then, same as no_more}

-- ---- the entry
answered : {g h : Graph} {out left : ℕ} {Same : Type 0} {kind : Option Kind} {s u r w : Stage} → Meets g h out left s r → Answers g out kind s u → Answers h left kind r w → Goes g h out left Same s u r w
answered m answers_none answers_none = stays m
answered {out = out} {left = left} m (answers is) (answers is_too) = let a = created m (result_seen out ∙ sym (result_seen left)) refl is is_too in a.steps

answer_owned : {g : Graph} {out : ℕ} {kind : Option Kind} {s u : Stage} → Answers g out kind s u → Owns g out s u
answer_owned {s = s} answers_none = no_more s
answer_owned (answers is) = owning.made_result is

fallen : {g h : Graph} {f : Function} {out left : ℕ} {Same : Type 0} {s u r w : Stage} → Setting g h → Meets g h out left s r → Falls g f out s u → Falls h f left r w → Goes g h out left Same s u r w
fallen set m (falls_in_main is made sets) (falls_in_main is_too made_too sets_too) = appended m (λ q. ap (λ z. Copy z (Const (pos 0)) q) (result_once set m made made_too)) sets sets_too
fallen set m (falls_in_main is made sets) (falls never) = absurd (never is)
fallen set m (falls never) (falls_in_main is made sets) = absurd (never is)
fallen set m (falls never) (falls never_too) = stays m

fall_owned : {g : Graph} {f : Function} {out : ℕ} {s u : Stage} → Falls g f out s u → Owns g out s u
fall_owned (falls_in_main is made sets) = owning.appended sets
fall_owned {s = s} (falls never) = no_more s

pub record AreOne (g h : Graph) (out count left more : ℕ) : Type 0 where
  pub ends : out ≡ left
  pub counts : count ≡ more
  pub infos : (i : ℕ) → i < count → slice_get g.flow.vars i ≡ slice_get h.flow.vars i
  pub points : SamePoints g h 0 (suc out)

made_one : {g h : Graph} {f : Function} {out count left more : ℕ} → Setting g h → Makes g f out count → Makes h f left more → AreOne g h out count left more
made_one {g = g} {h = h} {f = f} {out = out} {count = count} {left = left} {more = more} set (makes {m = m} {n = n} first result body falls_at end) (makes {m = i} {n = l} first_too result_too body_too falls_too end_too) =
    let begin : Meets g h out left (stage 0 0 0) (stage 0 0 0) = record { points = refl; variables = refl; alike = none_yet } in
    let a = appended {Same = IsSame (in_body f out) (in_body f left)} begin (λ q. refl) first first_too in
    let b = answered {Same = IsSame (in_body f out) (in_body f left)} a.meets result result_too in
    let last = fall_owned falls_at in
    let last_too = fall_owned falls_too in
    let all : Inside g out 0 0 (points_of n) = record { free = λ i o x is of less low high. omega (arith, less); bound = last.points } in
    let all_too : Inside h left 0 0 (points_of l) = record { free = λ i o x is of less low high. omega (arith, less); bound = last_too.points } in
    let before : Owns g out (stage 0 0 0) m = and_then (owning.appended first) (answer_owned result) in
    let before_too : Owns h left (stage 0 0 0) i = and_then (owning.appended first_too) (answer_owned result_too) in
    let d = all_lowered {c = in_body f out} {d = in_body f left} set (record { function = refl; blocks = refl }) b.meets (second_part all before) (second_part all_too before_too) body body_too in
    let e = fallen set d.meets falls_at falls_too in
    let whole = on a (on b (on d e)) in
    let same : out ≡ left = whole.meets.points in
    let (goal, points) = whole.back (same, refl) same in
    let there = subst (λ z. IsPoint h z plain nowhere End) (sym same) end_too in
    record {
      ends = same;
      counts = whole.meets.variables;
      infos = whole.meets.alike.infos;
      points = joined points (λ i low high. same_point end there refl (omega (arith, low, high)));
    }

-- ---- lists
same_items : {X : Type 0} (xs ys : List X) → length xs ≡ length ys → ((i : ℕ) → i < length xs → slice_get xs i ≡ slice_get ys i) → xs ≡ ys
same_items [] [] long all = refl
same_items [] (y ∷ ys) long all = absurd (omega (arith, long))
same_items (x ∷ xs) [] long all = absurd (omega (arith, long))
same_items (x ∷ xs) (y ∷ ys) long all =
    let one : x ≡ y = same_Some x y (all 0 (omega arith)) in
    let more : xs ≡ ys = same_items xs ys (omega (arith, long)) (λ i less. all (suc i) (omega (arith, less))) in
    ap (λ z. z ∷ xs) one ∙ ap (λ z. y ∷ z) more

of_role_same : {g h : Graph} {role : Role} {ps qs : List PointId} → g.roles ≡ h.roles → AreOfRole g role ps → AreOfRole h role qs → ps ≡ qs
of_role_same {g = g} {h = h} {role = role} {ps = ps} {qs = qs} same a b =
    ascending_same (λ p q. p.0 < q.0) (λ p q below above. omega (arith, below, above)) ps qs a.ascending b.ascending
    (λ p among. b.all p.0 (ap (λ z. slice_get z p.0) (sym same) ∙ All-contains (λ p. slice_get g.roles p.0 ≡ Some role) ps p a.only among))
    (λ p among. a.all p.0 (ap (λ z. slice_get z p.0) same ∙ All-contains (λ p. slice_get h.roles p.0 ≡ Some role) qs p b.only among))

apart : (c d : ℤ) → c <ℤ d → d <ℤ c → ⊥
apart c d below above = grind (arith, ints)

thresholds_same : {points : List Point} {cs ds : List ℤ} → AreThresholds points cs → AreThresholds points ds → cs ≡ ds
thresholds_same {points = points} {cs = cs} {ds = ds} a b =
    ascending_same (λ c d. c <ℤ d) apart cs ds a.ascending b.ascending
    (λ c among. let (n, p, is, has) = All-contains (λ c. (n : ℕ) × (p : Point) × (slice_get points n ≡ Some p) × Contains (operands p.code) (Const c)) cs c a.only among in b.all n p c is has)
    (λ c among. let (n, p, is, has) = All-contains (λ c. (n : ℕ) × (p : Point) × (slice_get points n ≡ Some p) × Contains (operands p.code) (Const c)) ds c b.only among in a.all n p c is has)

abbrev flow_of : List Point → List VarInfo → List PointId → List PointId → List ℤ → Structs → Flow
flow_of points vars heads merges thresholds structs = record { points = points; vars = vars; heads = heads; merges = merges; thresholds = thresholds; structs = structs }

flow_same : (a b : Flow) → a.points ≡ b.points → a.vars ≡ b.vars → a.heads ≡ b.heads → a.merges ≡ b.merges → a.thresholds ≡ b.thresholds → a.structs ≡ b.structs → a ≡ b
flow_same a b points vars heads merges thresholds structs =
    ap (λ z. flow_of z a.vars a.heads a.merges a.thresholds a.structs) points
    ∙ ap (λ z. flow_of b.points z a.heads a.merges a.thresholds a.structs) vars
    ∙ ap (λ z. flow_of b.points b.vars z a.merges a.thresholds a.structs) heads
    ∙ ap (λ z. flow_of b.points b.vars b.heads z a.thresholds a.structs) merges
    ∙ ap (λ z. flow_of b.points b.vars b.heads b.merges z a.structs) thresholds
    ∙ ap (λ z. flow_of b.points b.vars b.heads b.merges b.thresholds z) structs

-- ---- the whole
pub whole : (g h : Graph) (entry start : Function) (out count left more : ℕ) → g.program ≡ h.program → g.flow.structs ≡ h.flow.structs → IsLowering g entry out count → IsLowering h start left more
    → (g.flow ≡ h.flow) × (g.stops ≡ h.stops)
whole g h entry start out count left more program structs a b =
    let same : start ≡ entry = sym (same_Some entry start (sym a.there ∙ ap (λ (p : Program). slice_get p.functions p.entry) program ∙ b.there)) in
    let made_too = subst (λ f. Makes h f left more) same b.made in
    let set : Setting g h = record { program = program; structs = structs; once = a.once; once_too = b.once } in
    let one = made_one set a.made made_too in
    let points : g.flow.points ≡ h.flow.points = same_items g.flow.points h.flow.points (a.points ∙ ap suc one.ends ∙ sym b.points)
    (λ i less. let p = one.points i (omega arith) (omega (arith, less, a.points)) in p.point) in
    let roles : g.roles ≡ h.roles = same_items g.roles h.roles (a.roles ∙ ap suc one.ends ∙ sym b.roles)
    (λ i less. let p = one.points i (omega arith) (omega (arith, less, a.roles)) in p.role) in
    let vars : g.flow.vars ≡ h.flow.vars = same_items g.flow.vars h.flow.vars (a.variables ∙ one.counts ∙ sym b.variables) (λ i less. one.infos i (omega (arith, less, a.variables))) in
    let thresholds : g.flow.thresholds ≡ h.flow.thresholds = thresholds_same a.thresholds (subst (λ z. AreThresholds z h.flow.thresholds) (sym points) b.thresholds) in
    (flow_same g.flow h.flow points vars (of_role_same roles a.heads b.heads) (of_role_same roles a.merges b.merges) thresholds structs, of_role_same roles a.stops b.stops)
