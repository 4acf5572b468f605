-- The faults of a flow graph without loops are near in the program of trees.
use Rattle.std.proofs.Common.{◌≡◌, ◌*◌, ℕ, List, [], Some, length, sym, subst, ◌∙◌}
use Rattle.std.specs.Prelude.{slice_get}
use Rattle.std.proofs.lemmas.Option.{same_Some}
use Rattle.mc_flow.specs.Heap.Choices.{Choice}
use Rattle.mc_flow.specs.Runs.{Final, fault, Reaches}
use Rattle.mc_c_syntax.specs.Ast.Trees.{FunctionTree, UnitTree}
use Rattle.mc_flow.specs.declared.defs.rules.Def.{Def}
use Rattle.mc_c_types.specs.Tables.{Tables, called_function, tables_of}
use Rattle.mc_c_types.specs.Typing.{IsWellTyped}
use Rattle.mc_c_grammar.specs.Places.Places.{AreDistinct, declared_places}
use Rattle.mc_semantics.specs.Steps as named
use Rattle.mc_semantics.specs.Resolved.Programs.{Function}
use Rattle.mc_semantics.specs.Resolved.Resolving.{resolved_program}
use Rattle.mc_semantics.specs.Resolved.Running.{RunAlike, program}
use Rattle.mc_semantics.specs.Resolved.Steps.{Step, start as begin}
use Rattle.mc_lower_spec.specs.Graphs.{Graph}
use Rattle.mc_lower_spec.specs.Lowering.{IsLowering}
use Rattle.mc_lower_laws.specs.Faults.{FlowFaultsAreIn}
use Rattle.mc_real.specs.Near.{FlowFaultsAreNear, RunsAreShort}

-- each run of the program of trees that comes to an end is as short as that of the resolved program
short_run : ((g : Graph) (entry : Function) (out count : ℕ) → IsLowering g entry out count → g.flow.heads ≡ []
    → RunsAreShort g entry)
    → (t : Tables) (defs : List Def) (entry : List ℕ) (f : FunctionTree) (g : Graph) (start : Function) (out count : ℕ)
    → RunAlike t defs entry f
    → g.program ≡ resolved_program t defs entry → IsLowering g start out count → g.flow.heads ≡ []
    → (n : ℕ) (choices : List Choice) (final : Final)
    → Reaches (named.Step (program t defs)) n (named.start (program t defs) f) choices final
    → Reaches (named.Step (program t defs)) (2 * length g.flow.points) (named.start (program t defs) f) choices final
short_run short t defs entry f g start out count r same lowering none n choices final run =
    let begins : slice_get (resolved_program t defs entry).functions (resolved_program t defs entry).entry ≡ Some start =
    subst (λ p. slice_get p.functions p.entry ≡ Some start) same lowering.there in
    let one : r.function ≡ start = same_Some r.function start (sym r.there ∙ begins) in
    let resolved = (r.ends n choices final).0 run in
    let renamed =
    subst (λ (h : Function). Reaches (Step (resolved_program t defs entry)) n (begin h) choices final) one resolved in
    let own = subst (λ p. Reaches (Step p) n (begin start) choices final) (sym same) renamed in
    let soon = short g start out count lowering none n choices final own in
    let there = subst (λ p. Reaches (Step p) (2 * length g.flow.points) (begin start) choices final) same soon in
    let back =
    subst (λ (h : Function). Reaches (Step (resolved_program t defs entry)) (2 * length g.flow.points)
    (begin h) choices final) (sym one) there in
    (r.ends (2 * length g.flow.points) choices final).1 back

pub near_faults : ((unit : UnitTree) (defs : List Def) (entry : List ℕ) (f : FunctionTree) (g : Graph) (start : Function)
    (out count : ℕ) → IsWellTyped unit entry → AreDistinct (declared_places unit)
    → called_function (tables_of unit) entry ≡ Some f → g.program ≡ resolved_program (tables_of unit) defs entry
    → IsLowering g start out count → FlowFaultsAreIn g.flow defs (program (tables_of unit) defs) f)
    → ((g : Graph) (entry : Function) (out count : ℕ) → IsLowering g entry out count → g.flow.heads ≡ [] → RunsAreShort g entry)
    → ((t : Tables) (defs : List Def) (entry : List ℕ) (f : FunctionTree) → called_function t entry ≡ Some f
    → RunAlike t defs entry f)
    → (unit : UnitTree) (defs : List Def) (entry : List ℕ) (f : FunctionTree) (g : Graph) (start : Function) (out count : ℕ)
    → IsWellTyped unit entry → AreDistinct (declared_places unit)
    → called_function (tables_of unit) entry ≡ Some f → g.program ≡ resolved_program (tables_of unit) defs entry
    → IsLowering g start out count → g.flow.heads ≡ []
    → FlowFaultsAreNear g.flow defs (program (tables_of unit) defs) f
near_faults faults short alike unit defs entry f g start out count typed distinct called same lowering none n choices kind place at =
    let far = faults unit defs entry f g start out count typed distinct called same lowering n choices kind place at in
    short_run short (tables_of unit) defs entry f g start out count
    (alike (tables_of unit) defs entry f called) same lowering none far.0 choices (fault kind place) far.1
