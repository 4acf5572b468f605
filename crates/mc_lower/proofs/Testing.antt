-- What tests come to in the finished flow graph.
use Rattle.std.proofs.Common.{◌≡◌, ℕ, suc, pos, List, [], ◌∷◌, Some, None, refl, sym, ap, ◌∙◌, subst, length}
use Rattle.mc_base.specs.declared.ids.PointId.{PointId}
use Rattle.mc_base.specs.declared.ids.VarId.{VarId}
use Rattle.mc_base.specs.declared.text.place.Place.{Place}
use Rattle.mc_c_syntax.specs.declared.ast.trees.Comparison.{Comparison}
use Rattle.mc_flow.specs.declared.instr.Instr.{Instr}
use Rattle.mc_flow.specs.declared.instr.Operand.{Operand}
use Rattle.mc_flow.specs.declared.instr.Operand.TheVariants.{Const}
use Rattle.mc_semantics.specs.Resolved.Programs.{Expr, Cond, plain as plain_cond, compare, negation, both, either}
use Rattle.mc_semantics.specs.Resolved.Views.{condition_of}
use Rattle.mc_lower_spec.specs.Graphs.{Graph, plain, Stage, stage, point, IsPoint, appends, Undefines, undefines, undefines_none}
use Rattle.mc_lower_spec.specs.Values.{Evaluates, decides, Compares, compares, Tests, tests_plain, tests_compare, tests_negation, tests_both, tests_either, tests_always, tests_once}
use Rattle.mc_lower.specs.declared.builder.Builder.{Builder}
use Rattle.mc_lower.specs.declared.builder.Label.{Label}
use Rattle.mc_lower.specs.declared.builder.Role.{Role as RoleCode}
use Rattle.mc_lower.specs.declared.conditions.Work.{Work}
use Rattle.mc_lower.specs.Valued.{Testing, TestsOn, tests_on, TestsPerhapsOn, tests_perhaps_on}
use Rattle.mc_lower.specs.Worlds.{World, IsPut, settled, target, stage_of}

-- ---- comparisons
settled_decides : (at : ℕ → ℕ) (c : Comparison) (a b : Operand) (t f : PointId)
    → settled at (decides c a b t f) ≡ decides c a b (target at t) (target at f)
settled_decides at Comparison.Equal a b t f = refl
settled_decides at Comparison.Unequal a b t f = refl
settled_decides at Comparison.AtMost a b t f = refl
settled_decides at Comparison.Above a b t f = refl
settled_decides at Comparison.AtLeast a b t f = refl
settled_decides at Comparison.Below a b t f = refl

-- no variable is made where variables become undefined
same_variables : (g : Graph) (place : Place) (ts : List VarId) (a n k b m j : ℕ) → Undefines g place ts (stage a n k) (stage b m j) → k ≡ j
same_variables g place _ _ _ _ _ _ _ undefines_none = refl
same_variables g place _ _ _ _ _ _ _ (undefines (appends there)) = refl

comparing : (g : Graph) (place : Place) (c : Comparison) (a b : Operand) (ts : List VarId) (n k y z t f n1 k1 m k2 l k3 : ℕ)
    → n1 ≡ suc n → k1 ≡ k → IsPoint g n plain place (decides c a b (point y) (point z))
    → Undefines g place ts (stage y n1 k1) (stage t m k2) → Undefines g place ts (stage z m k2) (stage f l k3)
    → Compares g place c a b ts (stage n n k) t f l k3
comparing g place c a b ts n k y z t f n1 k1 m k2 l k3 points variables there hit miss =
    let same : k ≡ k2 = sym variables ∙ same_variables g place ts y n1 k1 t m k2 hit in
    let again : k ≡ k3 = same ∙ same_variables g place ts z m k2 f l k3 miss in
    subst (λ j. Compares g place c a b ts (stage n n k) t f l j) again
    (compares there
    (subst (λ j. Undefines g place ts (stage y (suc n) k) (stage t m j)) (sym same)
    (subst (λ x. Undefines g place ts (stage y x k) (stage t m k2)) points
    (subst (λ x. Undefines g place ts (stage y n1 x) (stage t m k2)) variables hit)))
    (subst (λ j. Undefines g place ts (stage z m k) (stage f l j)) (sym again)
    (subst (λ x. Undefines g place ts (stage z m x) (stage f l k3)) (sym same) miss)))

-- a test that was put, after which the temporaries become undefined on both ways
pub compared : (w : World) (place : Place) (c : Comparison) (a b : Operand) (ts : List VarId) (code : Instr) (hit miss : Label) (t f : ℕ) (r : Stage)
    → (b0 b1 b2 b3 : Builder) → r ≡ stage_of w b0 → IsPut w RoleCode.Plain place code b0 b1 → code ≡ decides c a b (point hit.0) (point miss.0)
    → b1.lines.goal ≡ hit → b2.lines.goal ≡ miss
    → Undefines w.graph place ts (stage_of w b1) (stage t (length b2.lines.points.items) (length b2.variables.list.items))
    → Undefines w.graph place ts (stage_of w b2) (stage f (length b3.lines.points.items) (length b3.variables.list.items))
    → Compares w.graph place c a b ts r t f (length b3.lines.points.items) (length b3.variables.list.items)
compared w place c a b ts code hit miss t f r b0 b1 b2 b3 from is_put is to_hit to_miss first second =
    let n : ℕ = length b0.lines.points.items in
    let k : ℕ = length b0.variables.list.items in
    subst (λ s. Compares w.graph place c a b ts s t f (length b3.lines.points.items) (length b3.variables.list.items)) (sym (from ∙ ap (λ x. stage x n k) is_put.at))
    (comparing w.graph place c a b ts n k (w.at hit.0) (w.at miss.0) t f _ _ _ _ _ _ is_put.points (ap (λ v. length v.list.items) is_put.variables)
    (subst (λ i. IsPoint w.graph n plain place i) (ap (λ i. settled w.at i) is ∙ settled_decides w.at c a b (point hit.0) (point miss.0)) is_put.there)
    (subst (λ (l : Label). Undefines w.graph place ts (stage (w.at l.0) (length b1.lines.points.items) (length b1.variables.list.items)) (stage t (length b2.lines.points.items) (length b2.variables.list.items))) to_hit first)
    (subst (λ (l : Label). Undefines w.graph place ts (stage (w.at l.0) (length b2.lines.points.items) (length b2.variables.list.items)) (stage f (length b3.lines.points.items) (length b3.variables.list.items))) to_miss second))

-- ---- conditions with parts
-- a condition was tested, and then what was left
abbrev pub EnteredTest : World → ℕ → Cond → Label → Label → Label → List Work → (points variables more_points more_variables : ℕ) → Type 0
EnteredTest w i d from hit miss more n k m j =
    (p : ℕ) × (q : ℕ) × Tests w.graph (w.out i) d (stage (w.at from.0) n k) (w.at hit.0) (w.at miss.0) p q × Testing w i more p q m j

pub one_tested : (w : World) (i : ℕ) (c d : Cond) (from hit miss : Label) (more : List Work) (n k p q m j : ℕ) → d ≡ c
    → Tests w.graph (w.out i) c (stage (w.at from.0) n k) (w.at hit.0) (w.at miss.0) p q → Testing w i more p q m j
    → EnteredTest w i d from hit miss more n k m j
one_tested w i c d from hit miss more n k p q m j seen is rest =
    (p, q, subst (λ x. Tests w.graph (w.out i) x (stage (w.at from.0) n k) (w.at hit.0) (w.at miss.0) p q) (sym seen) is, rest)

pub not_tested : (w : World) (i : ℕ) (c d : Cond) (from hit miss : Label) (more : List Work) (n k m j : ℕ) → d ≡ negation c
    → EnteredTest w i c from miss hit more n k m j → EnteredTest w i d from hit miss more n k m j
not_tested w i c d from hit miss more n k m j seen e = one_tested w i (negation c) d from hit miss more n k e.0 e.1 m j seen (tests_negation e.2) e.3

abbrev pub EnteredBoth : World → ℕ → Cond → Cond → (from middle hit miss other_hit other_miss : Label) → List Work
    → (points variables more_points more_variables : ℕ) → Type 0
EnteredBoth w i c d from middle hit miss other_hit other_miss more n k m j =
    (p : ℕ) × (q : ℕ) × Tests w.graph (w.out i) c (stage (w.at from.0) n k) (w.at other_hit.0) (w.at other_miss.0) p q
    × EnteredTest w i d middle hit miss more p q m j

pub both_tested : (w : World) (i : ℕ) (c d e : Cond) (from middle hit miss : Label) (more : List Work) (n k m j : ℕ) → e ≡ both c d
    → EnteredBoth w i c d from middle hit miss middle miss more n k m j → EnteredTest w i e from hit miss more n k m j
both_tested w i c d e from middle hit miss more n k m j seen f =
    one_tested w i (both c d) e from hit miss more n k f.3.0 f.3.1 m j seen (tests_both f.2 f.3.2) f.3.3

pub either_tested : (w : World) (i : ℕ) (c d e : Cond) (from middle hit miss : Label) (more : List Work) (n k m j : ℕ) → e ≡ either c d
    → EnteredBoth w i c d from middle hit miss hit middle more n k m j → EnteredTest w i e from hit miss more n k m j
either_tested w i c d e from middle hit miss more n k m j seen f =
    one_tested w i (either c d) e from hit miss more n k f.3.0 f.3.1 m j seen (tests_either f.2 f.3.2) f.3.3

-- ---- conditions without parts
pub plain_tested : (g : Graph) (out : ℕ) (place : Place) (e : Expr) (o nought : Operand) (empty ts us : List VarId) (s m : Stage) (t f n k : ℕ) → empty ≡ []
    → nought ≡ Const (pos 0) → us ≡ ts → Evaluates g out place e empty s o ts m → Compares g place Comparison.Unequal o nought us m t f n k
    → Tests g out (plain_cond place e) s t f n k
plain_tested g out place e o nought empty ts us s m t f n k none is same value compares_there =
    tests_plain (subst (λ l. Evaluates g out place e l s o ts m) none value)
    (subst (λ z. Compares g place Comparison.Unequal o z ts m t f n k) is (subst (λ l. Compares g place Comparison.Unequal o nought l m t f n k) same compares_there))

pub comparison_tested : (g : Graph) (out : ℕ) (place : Place) (c : Comparison) (a b : Expr) (o p : Operand) (empty ts us vs : List VarId) (s m u : Stage)
    → (t f n k : ℕ) → empty ≡ [] → vs ≡ us → Evaluates g out place a empty s o ts m → Evaluates g out place b ts m p us u
    → Compares g place c o p vs u t f n k → Tests g out (compare place c a b) s t f n k
comparison_tested g out place c a b o p empty ts us vs s m u t f n k none same first second compares_there =
    tests_compare (subst (λ l. Evaluates g out place a l s o ts m) none first) second (subst (λ l. Compares g place c o p l u t f n k) same compares_there)

-- ---- whole conditions
pub tested : (w : World) (i : ℕ) (t : Work) (work : List Work) (n k m j : ℕ) → work ≡ t ∷ [] → Testing w i work n k m j
    → Tests w.graph (w.out i) (condition_of t.condition.now) (stage (w.at t.from.0) n k) (w.at t.ways.yes.0) (w.at t.ways.no.0) m j
tested w i t work n k m j is f =
    let x = subst (λ l. Testing w i l n k m j) is f in
    let d = condition_of t.condition.now in
    subst (λ y. Tests w.graph (w.out i) d (stage (w.at t.from.0) n k) (w.at t.ways.yes.0) (w.at t.ways.no.0) y j) x.3.0
    (subst (λ y. Tests w.graph (w.out i) d (stage (w.at t.from.0) n k) (w.at t.ways.yes.0) (w.at t.ways.no.0) x.0 y) x.3.1 x.2)

-- ---- a condition that may be missing
pub perhaps_some : (g : Graph) (out : ℕ) (d : Cond) (f : ℕ) (s u : Stage) → TestsOn g out d f s u → TestsPerhapsOn g out (Some d) f s u
perhaps_some g out d f _ _ (tests_on there) = tests_perhaps_on (tests_once there)

pub perhaps_none : (g : Graph) (out f a n k : ℕ) → TestsPerhapsOn g out None f (stage a n k) (stage a n k)
perhaps_none g out f a n k = tests_perhaps_on tests_always
