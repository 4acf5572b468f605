-- A program whose flow graph is safe is safe itself, and its faults are those of its flow graph.
use Rattle.std.proofs.Common.{◌≡◌, ◌&&◌, ℕ, List, Some, subst, sym}
use Rattle.mc_c_syntax.specs.Ast.Names.{is_same}
use Rattle.mc_c_syntax.specs.Ast.Trees.{FunctionTree, UnitTree}
use Rattle.mc_flow.specs.declared.defs.rules.Def.{Def}
use Rattle.mc_flow.specs.declared.graph.Flow.{Flow}
use Rattle.mc_flow.specs.Steps.{IsSafeFlow}
use Rattle.mc_kernel.specs.Branches.{Path}
use Rattle.mc_kernel.specs.Certificates.{FaultsOnlyStuck}
use Rattle.mc_lower_laws.specs.Faults.{FaultsAreIn}
use Rattle.mc_lower_spec.specs.Graphs.{Graph}
use Rattle.mc_lower_spec.specs.Lowering.{IsLowering}
use Rattle.mc_semantics.specs.Steps.{IsSafeProgram, program_of}
use Rattle.mc_c_grammar.specs.Places.Places.{AreAscending, AreDistinct, HasDistinctPlaces, declared_places}
use Rattle.mc_load.specs.Read.Programs.{IsReadAs}
use Rattle.mc_semantics.specs.Resolved.Programs.{Function}
use Rattle.mc_semantics.specs.Resolved.Resolving.{resolved_program}
use Rattle.mc_base.specs.declared.text.place.Place.{Place}
use Rattle.mc_c_types.specs.Tables.{called_function, is_defined, tables_of}
use Rattle.mc_c_types.specs.Typing.{IsWellTyped, is_entry}
use Rattle.mc_load.specs.Inputs.Texts.{IsWellFormed}
use Rattle.mc_load.specs.Lowered.Graphs.{IsGraphOf}
use Rattle.mc_app.specs.Blocked.{FaultsComeBy}
use Rattle.mc_app.specs.Checks.{IsSafeUnit}
use Rattle.mc_run.proofs.InterpretLemmas.Entries.{find_any, first_two}

-- texts that are read declare variables at different places
abbrev pub ReadApart : Type 0
ReadApart = (text : List ℕ) (unit : UnitTree) → IsReadAs text unit → HasDistinctPlaces unit

abbrev pub SafeTrees : Type 0
SafeTrees =
    (unit : UnitTree) (defs : List Def) (entry : List ℕ) (f : FunctionTree) (g : Graph) (start : Function) (out count : ℕ)
    → IsWellTyped unit entry → AreDistinct (declared_places unit) → called_function (tables_of unit) entry ≡ Some f
    → g.program ≡ resolved_program (tables_of unit) defs entry → IsLowering g start out count → IsSafeFlow g.flow defs → IsSafeProgram (program_of unit defs) f

abbrev pub Differ : Type 0
Differ = (places : List Place) → AreAscending places → AreDistinct places

abbrev pub HasEntries : Type 0
HasEntries = (unit : UnitTree) (start : List ℕ) → IsWellTyped unit start → (f : FunctionTree) × (called_function (tables_of unit) start ≡ Some f)

pub safe_graph : SafeTrees → Differ → ReadApart → HasEntries → (start : List ℕ) (unit : UnitTree) (defs : List Def) (flow : Flow) → IsWellFormed start unit → IsGraphOf start unit defs flow
    → IsSafeFlow flow defs → IsSafeUnit start unit defs
safe_graph trees differ apart entries start unit defs flow sound graph safe =
    let main = entries unit start sound.typed in
    let distinct = differ (declared_places unit) (apart sound.text unit sound.read) in
    let safe_too = subst (λ (f : Flow). IsSafeFlow f defs) (sym graph.is_its) safe in
    (main.0, main.1, trees unit defs start main.0 graph.graph graph.function graph.out graph.count sound.typed distinct main.1 graph.program graph.lowered safe_too)

-- ---- faults

abbrev pub FaultsOfTrees : Type 0
FaultsOfTrees =
    (unit : UnitTree) (defs : List Def) (entry : List ℕ) (f : FunctionTree) (g : Graph) (start : Function) (out count : ℕ)
    → IsWellTyped unit entry → AreDistinct (declared_places unit) → called_function (tables_of unit) entry ≡ Some f
    → g.program ≡ resolved_program (tables_of unit) defs entry → IsLowering g start out count → FaultsAreIn g.flow defs (program_of unit defs) f

-- faults of a program come by the branches by which those of its flow graph do
pub graph_faults : FaultsOfTrees → Differ → ReadApart → (start : List ℕ) (unit : UnitTree) (defs : List Def) (flow : Flow) (stuck : List Path) → IsWellFormed start unit
    → IsGraphOf start unit defs flow → FaultsOnlyStuck flow defs stuck → FaultsComeBy start unit defs flow stuck
graph_faults trees differ apart start unit defs flow stuck sound graph only f n choices kind place called run =
    let distinct = differ (declared_places unit) (apart sound.text unit sound.read) in
    let faults = trees unit defs start f graph.graph graph.function graph.out graph.count sound.typed distinct called graph.program graph.lowered in
    let there = subst (λ (x : Flow). FaultsAreIn x defs (program_of unit defs) f) graph.is_its faults n choices kind place run in
    (there.0, only there.0 choices kind place there.1)

-- ---- a well typed program has its entry

pub has_entry : HasEntries
has_entry unit start typed =
    find_any (is_entry start) (λ f. is_defined f && is_same f.name.text start) (tables_of unit).functions
    (λ f e. first_two (is_defined f && is_same f.name.text start) _ e) typed.entered
