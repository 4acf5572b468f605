-- What agrees with more agrees with less.
use Rattle.std.proofs.Common.{◌≡◌, ◌++◌, ℕ, zero, suc, List, [], ◌∷◌, Some, None, refl, sym, ap, ◌∙◌, subst, length, ◌<◌, ◌≤◌, drop, get_or, arith, Vec, Global}
use Rattle.std.proofs.lemmas.List.{append-nil}
use Rattle.std.proofs.lemmas.Option.{slice_get-get_or}
use Rattle.std.specs.Prelude.{slice_get}
use Rattle.mc_base.specs.declared.ids.PointId.{PointId}
use Rattle.mc_base.specs.declared.text.place.Place.{Place}
use Rattle.mc_base.specs.declared.ids.VarId.{VarId}
use Rattle.mc_flow.specs.declared.instr.Instr.{Instr}
use Rattle.mc_flow.specs.declared.instr.Instr.TheVariants.{Undef}
use Rattle.mc_lower_spec.specs.Graphs.{Graph, plain, Stage, stage, point, IsPoint, Appends, appends, Undefines, undefines, undefines_none}
use Rattle.mc_lower.specs.declared.builder.Builder.{Builder}
use Rattle.mc_lower.specs.declared.builder.Draft.{Draft}
use Rattle.mc_lower.specs.declared.builder.Label.{Label}
use Rattle.mc_lower.specs.declared.builder.Mark.{Mark}
use Rattle.mc_lower.specs.declared.builder.Role.{Role as RoleCode}
use Rattle.mc_lower.specs.declared.lines.Awaited.{Awaited}
use Rattle.mc_lower.specs.declared.lines.Lines.{Lines}
use Rattle.mc_lower.specs.Lines.{label_of}
use Rattle.mc_lower.specs.Worlds.{World, Agrees, AllAt, IsMarked, IsPut, Lands, lands, Lays, lays, GoesTo, goes_to, point_in, role_of, settled, stage_of}

-- ---- lists
kept : {A : Type 0} (xs ys : List A) (i : ℕ) (x : A) → slice_get xs i ≡ Some x → slice_get (xs ++ ys) i ≡ Some x
kept [] ys i x there = let never : None ≡ Some x = there in cc
kept (h ∷ xs) ys zero x there = there
kept (h ∷ xs) ys (suc i) x there = kept xs ys i x there

next_there : {A : Type 0} (xs : List A) (x : A) (ys : List A) → slice_get (xs ++ x ∷ ys) (length xs) ≡ Some x
next_there [] x ys = refl
next_there (h ∷ xs) x ys = next_there xs x ys

second_there : {A : Type 0} (xs : List A) (x y : A) → slice_get (xs ++ x ∷ y ∷ []) (suc (length xs)) ≡ Some y
second_there [] x y = refl
second_there (h ∷ xs) x y = second_there xs x y

counted : {A : Type 0} (xs : List A) (x : A) → length (xs ++ x ∷ []) ≡ suc (length xs)
counted [] x = refl
counted (h ∷ xs) x = ap suc (counted xs x)

pub one_more : {A : Type 0} (xs zs : List A) (x : A) → zs ≡ xs ++ x ∷ [] → length zs ≡ suc (length xs)
one_more xs zs x is = ap length is ∙ counted xs x

-- what holds of each item of the longer list holds of each of the shorter one, and of those after
pub shorter : {A : Type 0} (P : ℕ → A → Type 0) (xs ys zs : List A) → zs ≡ xs ++ ys → AllAt P zs → AllAt P xs
shorter P xs ys zs is all i y there = all i y (ap (λ l. slice_get l i) is ∙ kept xs ys i y there)

pub at_next : {A : Type 0} (P : ℕ → A → Type 0) (xs : List A) (x : A) (ys zs : List A) → zs ≡ xs ++ x ∷ ys → AllAt P zs → P (length xs) x
at_next P xs x ys zs is all = all (length xs) x (ap (λ l. slice_get l (length xs)) is ∙ next_there xs x ys)

pub at_second : {A : Type 0} (P : ℕ → A → Type 0) (xs : List A) (x y : A) (zs : List A) → zs ≡ xs ++ x ∷ y ∷ [] → AllAt P zs → P (suc (length xs)) y
at_second P xs x y zs is all = all (suc (length xs)) y (ap (λ l. slice_get l (suc (length xs))) is ∙ second_there xs x y)

pub before : {A : Type 0} (P : ℕ → A → Type 0) (xs zs : List A) (x : A) → zs ≡ xs ++ x ∷ [] → AllAt P zs → AllAt P xs
before P xs zs x is all = shorter P xs (x ∷ []) zs is all

pub at_last : {A : Type 0} (P : ℕ → A → Type 0) (xs zs : List A) (x : A) → zs ≡ xs ++ x ∷ [] → AllAt P zs → P (length xs) x
at_last P xs zs x is all = at_next P xs x [] zs is all

-- the first item of several
pub first_of : {A : Type 0} (xs : List A) (x : A) → 1 ≤ length xs → x ≡ get_or xs 0 x → xs ≡ x ∷ drop 1 xs
first_of [] x some here = absurd (omega arith)
first_of (y ∷ ys) x some here = ap (λ (z : _). z ∷ ys) (sym here)

-- ---- labels
abbrev pub with_lines : Builder → Lines → Builder
with_lines b l =
    record {
      alloc = b.alloc;
      program = b.program;
      structs = b.structs;
      lines = l;
      variables = b.variables;
      blocks = b.blocks;
    }

-- what holds of more points and marks holds of fewer
pub fewer : (w : World) (b : Builder) (l : Lines) (ds : List Draft) (ms : List Mark) (ls : List Label) → l.points.items ≡ b.lines.points.items ++ ds
    → l.marks.items ≡ b.lines.marks.items ++ ms → l.outs.items ≡ b.lines.outs.items ++ ls → Agrees w (with_lines b l) → Agrees w b
fewer w b l ds ms ls points marks outs agrees =
    record {
      functions = agrees.functions;
      structs = agrees.structs;
      points = shorter (λ i d. slice_get w.graph.flow.points i ≡ Some (point_in w.at d)) b.lines.points.items ds _ points agrees.points;
      roles = shorter (λ i d. slice_get w.graph.roles i ≡ Some (role_of d.role)) b.lines.points.items ds _ points agrees.roles;
      owners = agrees.owners;
      infos = agrees.infos;
      marks = shorter (λ i m. IsMarked w.at m) b.lines.marks.items ms _ marks agrees.marks;
      outs = shorter (λ i o. w.at o.0 ≡ w.out i) b.lines.outs.items ls _ outs agrees.outs;
      blocks = agrees.blocks;
    }

-- nothing more
pub no_more : {A : Type 0} (xs ys : Vec A Global) → ys ≡ xs → ys.items ≡ xs.items ++ []
no_more xs ys is = ap (λ (v : Vec _ Global). v.items) is ∙ sym (append-nil xs.items)

-- where no point is made, and the goal stays
pub stayed : (w : World) (b : Builder) (l : Lines) → l.points.items ≡ b.lines.points.items ++ [] → l.goal ≡ b.lines.goal
    → stage_of w b ≡ stage_of w (with_lines b l)
stayed w b l points goal =
    let k : ℕ = length b.variables.list.items in
    ap (λ g. stage (w.at g.0) (length b.lines.points.items) k) (sym goal)
    ∙ ap (λ n. stage (w.at l.goal.0) n k) (sym (ap length (points ∙ append-nil b.lines.points.items)))

-- the last point
pub point_there : (w : World) (b : Builder) (l : Lines) (role : RoleCode) (place : Place) (code : Instr)
    → l.points.items ≡ b.lines.points.items ++ record { role = role; code = code; place = place } ∷ [] → Agrees w (with_lines b l)
    → IsPoint w.graph (length b.lines.points.items) (role_of role) place (settled w.at code)
point_there w b l role place code points agrees =
    record {
      there = at_next (λ i d. slice_get w.graph.flow.points i ≡ Some (point_in w.at d)) b.lines.points.items _ [] _ points agrees.points;
      is = at_next (λ i d. slice_get w.graph.roles i ≡ Some (role_of d.role)) b.lines.points.items _ [] _ points agrees.roles;
    }

-- a point at the goal
pub put_there : (w : World) (b : Builder) (l : Lines) (role : RoleCode) (place : Place) (code : Instr)
    → l.points.items ≡ b.lines.points.items ++ record { role = role; code = code; place = place } ∷ []
    → l.marks.items ≡ b.lines.marks.items ++ Mark.At b.lines.goal (length b.lines.points.items) ∷ [] → Agrees w (with_lines b l)
    → IsPut w role place code b (with_lines b l)
put_there w b l role place code points marks agrees =
    record {
      at = at_next (λ i m. IsMarked w.at m) b.lines.marks.items _ [] _ marks agrees.marks;
      there = point_there w b l role place code points agrees;
      points = one_more _ _ _ points;
      variables = refl;
    }

-- from where it goes on to the goal
pub laid : (w : World) (b : Builder) (l : Lines) (role : RoleCode) (place : Place) (code : Instr) (next : Label) → l.goal ≡ next
    → IsPut w role place code b (with_lines b l) → Lays w role place code next (stage_of w b) (stage_of w (with_lines b l))
laid w b l role place code next is put =
    let n : ℕ = length b.lines.points.items in
    let k : ℕ = length b.variables.list.items in
    subst (λ a. Lays w role place code next (stage a n k) (stage_of w (with_lines b l))) (sym put.at)
    (subst (λ m. Lays w role place code next (stage n n k) (stage (w.at l.goal.0) m k)) (sym put.points)
    (subst (λ g. Lays w role place code next (stage n n k) (stage (w.at g.0) (suc n) k)) (sym is) (lays put.there)))

-- what goes on to a label goes there, and what comes next stands elsewhere
pub gone : (w : World) (b : Builder) (l : Lines) (label : Label) → l.points.items ≡ b.lines.points.items ++ []
    → l.marks.items ≡ b.lines.marks.items ++ Mark.Same b.lines.goal label ∷ [] → Agrees w (with_lines b l)
    → GoesTo (w.at label.0) (stage_of w b) (stage_of w (with_lines b l))
gone w b l label points marks agrees =
    let n : ℕ = length b.lines.points.items in
    let k : ℕ = length b.variables.list.items in
    let same : w.at b.lines.goal.0 ≡ w.at label.0 = at_next (λ i m. IsMarked w.at m) b.lines.marks.items _ [] _ marks agrees.marks in
    let count : length l.points.items ≡ n = ap length (points ∙ append-nil b.lines.points.items) in
    subst (λ a. GoesTo (w.at label.0) (stage a n k) (stage_of w (with_lines b l))) (sym same)
    (subst (λ m. GoesTo (w.at label.0) (stage (w.at label.0) n k) (stage (w.at l.goal.0) m k)) (sym count) goes_to)

-- what goes on to a label where there is a point
pub landed : (w : World) (b : Builder) (l : Lines) (at : Label) (role : RoleCode) (place : Place) (code : Instr) (next : Label)
    → l.points.items ≡ b.lines.points.items ++ record { role = role; code = code; place = place } ∷ []
    → l.marks.items ≡ b.lines.marks.items ++ Mark.Same b.lines.goal at ∷ Mark.At at (length b.lines.points.items) ∷ [] → l.goal ≡ next
    → Agrees w (with_lines b l) → Lands w (w.at at.0) role place code next (stage_of w b) (stage_of w (with_lines b l))
landed w b l at role place code next points marks is agrees =
    let n : ℕ = length b.lines.points.items in
    let k : ℕ = length b.variables.list.items in
    let same : w.at b.lines.goal.0 ≡ w.at at.0 = at_next (λ i m. IsMarked w.at m) b.lines.marks.items _ _ _ marks agrees.marks in
    let here : w.at at.0 ≡ n = at_second (λ i m. IsMarked w.at m) b.lines.marks.items _ _ _ marks agrees.marks in
    subst (λ a. Lands w a role place code next (stage (w.at b.lines.goal.0) n k) (stage_of w (with_lines b l))) (sym here)
    (subst (λ a. Lands w n role place code next (stage a n k) (stage_of w (with_lines b l))) (sym (same ∙ here))
    (subst (λ m. Lands w n role place code next (stage n n k) (stage (w.at l.goal.0) m k)) (sym (one_more _ _ _ points))
    (subst (λ g. Lands w n role place code next (stage n n k) (stage (w.at g.0) (suc n) k)) (sym is)
    (lands (point_there w b l role place code points agrees)))))

-- where the `return` of an occurrence goes
pub out_label : (w : World) (b : Builder) (i : ℕ) → i < length b.lines.outs.items → Agrees w b → w.at (label_of b.lines.outs.items (Awaited.Out i)).0 ≡ w.out i
out_label w b i low agrees = agrees.outs i _ (slice_get-get_or b.lines.outs.items i _ low)

-- the stage before
pub went : (q a n k : ℕ) (s : Stage) → GoesTo q s (stage a n k) → s ≡ stage q n k
went q _ _ _ _ goes_to = refl

-- a target that is a label's
pub targets : (q : PointId) (l m : Label) → q ≡ point l.0 → l ≡ m → q ≡ point m.0
targets q l m is same = is ∙ ap (λ (x : Label). point x.0) same

-- with the instruction that it comes to
pub appended : (w : World) (role : RoleCode) (place : Place) (code : Instr) (next : Label) (f : PointId → Instr) (s u : Stage)
    → settled w.at code ≡ f (point (w.at next.0)) → Lays w role place code next s u → Appends w.graph (role_of role) place f s u
appended w role place code next f _ _ is (lays {n = n} {k = k} there) =
    appends (subst (λ c. IsPoint w.graph n (role_of role) place c) is there)

-- the same, where a label is that point
pub appended_there : (w : World) (at : ℕ) (role : RoleCode) (place : Place) (code : Instr) (next : Label) (f : PointId → Instr) (s u : Stage)
    → settled w.at code ≡ f (point (w.at next.0)) → Lands w at role place code next s u
    → (k : ℕ) × (s ≡ stage at at k) × Appends w.graph (role_of role) place f (stage at at k) u
appended_there w at role place code next f _ _ is (lands {k = k} there) =
    (k, refl, appends (subst (λ c. IsPoint w.graph at (role_of role) place c) is there))

pub is_none : {A : Type 0} (xs : List A) → length xs ≡ 0 → xs ≡ []
is_none [] none = refl
is_none (x ∷ xs) none = absurd (omega arith)

pub undefined_none : (g : Graph) (place : Place) (vs : List VarId) (s : Stage) → vs ≡ [] → Undefines g place vs s s
undefined_none g place vs s is = subst (λ l. Undefines g place l s s) (sym is) undefines_none

pub undefined_some : (g : Graph) (place : Place) (vs : List VarId) (s u : Stage) → (vs ≡ [] → ⊥)
    → Appends g plain place (λ q. Undef vs q) s u → Undefines g place vs s u
undefined_some g place [] s u some there = absurd (some refl)
undefined_some g place (v ∷ vs) s u some there = undefines there

-- ---- stages
abbrev pub points_in : Stage → ℕ
points_in (stage a n k) = n

abbrev pub variables_in : Stage → ℕ
variables_in (stage a n k) = k
