-- The finished flow graph as a world, with the points of its labels.
use Rattle.std.proofs.Common.{◌≡◌, ◌≤◌, ◌+◌, ℕ, zero, suc, List, [], ◌∷◌, Option, Some, None, refl, sym, ap, ◌∙◌, subst, length, map, option_map, arith, inl, inr, Vec, Global}
use Rattle.std.proofs.lemmas.List.{length-map}
use Rattle.std.proofs.lemmas.List.Elements.{All-weaker}
use Rattle.std.proofs.lemmas.Option.{same_Some, slice_get-map, slice_get_cases}
use Rattle.std.specs.Prelude.{slice_get}
use Rattle.mc_base.specs.declared.ids.PointId.{PointId}
use Rattle.mc_lower_spec.specs.Graphs.{Graph, Owner, Role, local}
use Rattle.mc_flow.specs.declared.defs.shapes.Structs.{Structs}
use Rattle.mc_semantics.specs.declared.resolved.program.Function.{Function as FunctionCode}
use Rattle.mc_semantics.specs.declared.resolved.program.Resolved.{Resolved}
use Rattle.mc_flow.specs.Valid.{IsValid}
use Rattle.mc_semantics.specs.Resolved.Programs.{Function, Program}
use Rattle.mc_semantics.specs.Resolved.Views.{function_of, program_of}
use Rattle.mc_lower_laws.specs.Valid.Kinds.{IsWellMade}
use Rattle.mc_lower_spec.specs.Graphs.{head, merge, stop}
use Rattle.mc_lower_spec.specs.Lowering.{AreOfRole, IsLowering, Makes}
use Rattle.mc_lower.specs.declared.builder.Builder.{Builder}
use Rattle.mc_lower.specs.declared.lowering.Lowered.{Lowered}
use Rattle.mc_lower.specs.declared.builder.Draft.{Draft}
use Rattle.mc_lower.specs.declared.builder.Label.{Label}
use Rattle.mc_lower.specs.declared.variables.Owner.{Owner as OwnerCode}
use Rattle.mc_lower.specs.declared.variables.Variable.{Variable}
use Rattle.mc_lower.specs.Once.{AreOnce}
use Rattle.mc_lower.specs.Finished.{AreApart, AreThose, IsFinished, IsFlowOf, IsValidFlow, point_at}
use Rattle.mc_lower.specs.Worlds.{World, Agrees, AllAt, owner_of, point_in, role_of}

-- ---- blocks
abbrev block_at : Option (Vec ℕ Global) → List ℕ
block_at None = []
block_at (Some xs) = xs.items

abbrev pub blocks_of : List (Vec ℕ Global) → ℕ → List ℕ
blocks_of blocks i = block_at (slice_get blocks i)

-- ---- where the `return` of each occurrence goes
abbrev total : List ℕ → ℕ
total [] = 0
total (x ∷ xs) = x + total xs

at_most : (table : List ℕ) (l : ℕ) → point_at table l ≤ total table
at_most [] l = omega arith
at_most (x ∷ xs) zero = omega arith
at_most (x ∷ xs) (suc l) = let rest : point_at xs l ≤ total xs = at_most xs l in omega arith

abbrev out_at : List ℕ → ℕ → Option Label → ℕ
out_at table i (Some l) = point_at table l.0
out_at table i None = suc (total table + i)

-- past the last, numbers that are no points
abbrev pub out_of : List ℕ → List Label → ℕ → ℕ
out_of table outs i = out_at table i (slice_get outs i)

apart_at : (table : List ℕ) (outs : List Label) → AreApart (point_at table) outs → (i j : ℕ) (l m : Option Label) → slice_get outs i ≡ l → slice_get outs j ≡ m
    → out_at table i l ≡ out_at table j m → i ≡ j
apart_at table outs apart i j (Some l) (Some m) is_l is_m same = apart i j l m is_l is_m same
apart_at table outs apart i j (Some l) None is_l is_m same = let low : point_at table l.0 ≤ total table = at_most table l.0 in absurd (omega arith)
apart_at table outs apart i j None (Some m) is_l is_m same = let low : point_at table m.0 ≤ total table = at_most table m.0 in absurd (omega arith)
apart_at table outs apart i j None None is_l is_m same = omega arith

pub outs_apart : (table : List ℕ) (outs : List Label) → AreApart (point_at table) outs → (i j : ℕ) → out_of table outs i ≡ out_of table outs j → i ≡ j
outs_apart table outs apart i j same = apart_at table outs apart i j _ _ refl refl same

pub outs_there : (table : List ℕ) (outs : List Label) → AllAt (λ i l. point_at table l.0 ≡ out_of table outs i) outs
outs_there table outs = λ i l there. sym (ap (out_at table i) there)

-- ---- owners
abbrev out_in : Owner → ℕ
out_in (local out x) = out
out_in (Owner.result out) = out
out_in (Owner.temporary j kind) = 0

-- occurrences apart have owners apart
owner_same : (out : ℕ → ℕ) → ((i j : ℕ) → out i ≡ out j → i ≡ j) → (o p : OwnerCode) → owner_of out o ≡ owner_of out p → o ≡ p
owner_same out apart (OwnerCode.Local i x) (OwnerCode.Local j y) same =
    let one : i ≡ j = apart i j (ap out_in same) in
    let number : x ≡ y = cc same in
    ap (λ n. OwnerCode.Local n x) one ∙ ap (λ n. OwnerCode.Local j n) number
owner_same out apart (OwnerCode.Result i) (OwnerCode.Result j) same = ap (λ n. OwnerCode.Result n) (apart i j (ap out_in same))
owner_same out apart (OwnerCode.Temporary i k) (OwnerCode.Temporary j h) same =
    let one : i ≡ j = cc same in
    let kind : k ≡ h = cc same in
    ap (λ n. OwnerCode.Temporary n k) one ∙ ap (λ n. OwnerCode.Temporary j n) kind
owner_same out apart (OwnerCode.Local i x) (OwnerCode.Result j) same = absurd (cc same)
owner_same out apart (OwnerCode.Local i x) (OwnerCode.Temporary j h) same = absurd (cc same)
owner_same out apart (OwnerCode.Result i) (OwnerCode.Local j y) same = absurd (cc same)
owner_same out apart (OwnerCode.Result i) (OwnerCode.Temporary j h) same = absurd (cc same)
owner_same out apart (OwnerCode.Temporary i k) (OwnerCode.Local j y) same = absurd (cc same)
owner_same out apart (OwnerCode.Temporary i k) (OwnerCode.Result j) same = absurd (cc same)

-- an item of a mapped list is that of an item
pub mapped : {A B : Type 0} (f : A → B) (xs : List A) (i : ℕ) (y : B) → slice_get (map f xs) i ≡ Some y → (x : A) × (slice_get xs i ≡ Some x) × (f x ≡ y)
mapped f xs i y there =
    elim (slice_get_cases xs i).1 [
      | inl found ↦ (found.0, found.2, same_Some (f found.0) y (sym (ap (option_map f) found.2) ∙ sym (slice_get-map f xs i) ∙ there))
      | inr past ↦ let never : None ≡ Some y = sym (ap (option_map f) past.1) ∙ sym (slice_get-map f xs i) ∙ there in absurd (cc never)
    ]

pub mapped_there : {A B : Type 0} (f : A → B) (xs : List A) → AllAt (λ i x. slice_get (map f xs) i ≡ Some (f x)) xs
mapped_there f xs = λ i x there. slice_get-map f xs i ∙ ap (option_map f) there

pub once_owned : (out : ℕ → ℕ) (variables : List Variable) → ((i j : ℕ) → out i ≡ out j → i ≡ j) → AreOnce variables
    → (owner : Owner) (v w : ℕ) → slice_get (map (λ x. owner_of out x.owner) variables) v ≡ Some owner → slice_get (map (λ x. owner_of out x.owner) variables) w ≡ Some owner
    → v ≡ w
once_owned out variables apart once owner v w is_v is_w =
    let a = mapped (λ x. owner_of out x.owner) variables v owner is_v in
    let b = mapped (λ x. owner_of out x.owner) variables w owner is_w in
    once v w a.0 b.0 a.1 b.1 (owner_same out apart a.0.owner b.0.owner (a.2 ∙ sym b.2))

-- ---- roles
pub of_roles : (g : Graph) (drafts : List Draft) (role : Role) (ps : List PointId) → g.roles ≡ map (λ d. role_of d.role) drafts → AreThose drafts role ps → AreOfRole g role ps
of_roles g drafts role ps is those =
    record {
      ascending = those.ascending;
      all = λ n there. let d = mapped (λ (x : Draft). role_of x.role) drafts n role (sym (ap (λ l. slice_get l n) is) ∙ there) in those.all n d.0 d.1 d.2;
      only = All-weaker (λ p. (d : Draft) × (slice_get drafts p.0 ≡ Some d) × (role_of d.role ≡ role)) (λ p. slice_get g.roles p.0 ≡ Some role)
          (λ p found. ap (λ l. slice_get l p.0) is ∙ mapped_there (λ (x : Draft). role_of x.role) drafts p.0 found.0 found.1 ∙ ap (λ r. Some r) found.2) ps those.only;
    }

-- ---- the world
abbrev pub graph_of : Program → Builder → List ℕ → Lowered → Graph
graph_of program b table x =
    record {
      program = program;
      flow = x.flow;
      owners = map (λ (v : Variable). owner_of (out_of table b.lines.outs.items) v.owner) b.variables.list.items;
      roles = map (λ (d : Draft). role_of d.role) b.lines.points.items;
      stops = x.stops;
    }

abbrev pub world_of : (program : Program) (b : Builder) (x : Lowered) → IsFinished b x → World
world_of program b x f =
    record {
      graph = graph_of program b f.table x;
      at = point_at f.table;
      out = out_of f.table b.lines.outs.items;
      blocks = blocks_of b.blocks.items;
      apart = outs_apart f.table b.lines.outs.items f.settled.apart;
    }

pub finished_agrees : (program : Program) (b : Builder) (x : Lowered) (f : IsFinished b x) → program.functions ≡ map function_of b.program.now.functions.items
    → Agrees (world_of program b x f) b
finished_agrees program b x f is =
    record {
      functions = is;
      structs = f.structs;
      points = λ i d there. ap (λ l. slice_get l i) f.points ∙ mapped_there (point_in (point_at f.table)) b.lines.points.items i d there;
      roles = mapped_there (λ (d : Draft). role_of d.role) b.lines.points.items;
      owners = mapped_there (λ (v : Variable). owner_of (out_of f.table b.lines.outs.items) v.owner) b.variables.list.items;
      infos = λ i v there. ap (λ l. slice_get l i) f.vars ∙ mapped_there (λ (u : Variable). u.info) b.variables.list.items i v there;
      marks = f.settled.marks;
      outs = outs_there f.table b.lines.outs.items;
      blocks = λ i xs there. ap block_at there;
    }

-- the finished flow graph lowers the program with which the builder began
pub flow_there : (program : Resolved) (structs : Structs) (old new : Builder) (x : Lowered) (entry : FunctionCode)
    → old.program.now ≡ program → old.structs.now ≡ structs
    → ((w : World) → Agrees w old → slice_get w.graph.program.functions program.entry ≡ Some (function_of entry))
    → entry.parameters ≡ 0
    → ((w : World) → Agrees w new → Agrees w old × (out : ℕ) × Makes w.graph (function_of entry) out (length new.variables.list.items) × (length new.lines.points.items ≡ suc out))
    → IsFinished new x → IsFlowOf program structs x
flow_there program structs old new x entry is_program is_structs found alone made f = λ defs.
    let whole : Program = record { functions = map function_of new.program.now.functions.items; entry = program.entry; defs = defs } in
    let w : World = world_of whole new x f in
    let m = made w (finished_agrees whole new x f refl) in
    let same : map function_of new.program.now.functions.items ≡ map function_of program.functions.items =
    m.0.functions ∙ ap (λ (r : Resolved). map function_of r.functions.items) is_program in
    let count : ℕ = length new.variables.list.items in
    let lowering : IsLowering w.graph (function_of entry) m.1 count =
    record {
      there = found w m.0;
      alone = alone;
      made = m.2;
      points = ap (λ l. length l) f.points ∙ length-map new.lines.points.items (point_in (point_at f.table)) ∙ m.3;
      roles = length-map new.lines.points.items (λ (d : Draft). role_of d.role) ∙ m.3;
      variables = ap (λ l. length l) f.vars ∙ length-map new.variables.list.items (λ (v : Variable). v.info);
      owners = length-map new.variables.list.items (λ (v : Variable). owner_of (out_of f.table new.lines.outs.items) v.owner);
      once = once_owned (out_of f.table new.lines.outs.items) new.variables.list.items w.apart new.variables.once;
      heads = of_roles w.graph new.lines.points.items head x.flow.heads refl f.heads;
      merges = of_roles w.graph new.lines.points.items merge x.flow.merges refl f.merges;
      stops = of_roles w.graph new.lines.points.items stop x.stops refl f.stops;
      thresholds = f.thresholds;
    } in (
      w.graph.owners,
      w.graph.roles,
      function_of entry,
      m.1,
      count,
      subst (λ fs. IsLowering (graph_of (record { functions = fs; entry = program.entry; defs = defs }) new f.table x) (function_of entry) m.1 count) same lowering,
      m.0.structs ∙ is_structs,
    )

-- ---- validity
pub valid_there : (program : Resolved) (structs : Structs) (x : Lowered)
    → ((g : Graph) (entry : Function) (out count : ℕ) → IsWellMade g.flow.structs g.program → IsLowering g entry out count → IsValid g.flow g.program.defs)
    → IsFlowOf program structs x → IsValidFlow program structs x
valid_there program structs x law flow = λ defs well.
    let f = flow defs in
    law (record { program = program_of program defs; flow = x.flow; owners = f.0; roles = f.1; stops = x.stops }) f.2 f.3 f.4
    (subst (λ s. IsWellMade s (program_of program defs)) (sym f.6) well) f.5
