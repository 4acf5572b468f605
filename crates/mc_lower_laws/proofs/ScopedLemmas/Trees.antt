-- From the faults of a flow graph to those of a program of trees.
use Rattle.std.proofs.Common.{◌≡◌, ℕ, List, Some, sym, subst, ◌∙◌}
use Rattle.std.specs.Prelude.{slice_get}
use Rattle.std.proofs.lemmas.Option.{same_Some}
use Rattle.mc_flow.specs.Runs.{fault, Reaches}
use Rattle.mc_flow.specs.Steps as flow
use Rattle.mc_c_syntax.specs.Ast.Trees.{FunctionTree, UnitTree}
use Rattle.mc_flow.specs.declared.defs.rules.Def.{Def}
use Rattle.mc_c_types.specs.Tables.{Tables, called_function, tables_of}
use Rattle.mc_c_types.specs.Typing.{IsWellTyped}
use Rattle.mc_c_grammar.specs.Places.Places.{AreDistinct, declared_places}
use Rattle.mc_semantics.specs.Resolved.Programs.{Function}
use Rattle.mc_semantics.specs.Resolved.Resolving.{resolved_program}
use Rattle.mc_semantics.specs.Resolved.Running.{RunAlike, program}
use Rattle.mc_semantics.specs.Resolved.Steps.{Step, start as begin}
use Rattle.mc_semantics.specs.Steps as named
use Rattle.mc_lower_spec.specs.Graphs.{Graph}
use Rattle.mc_lower_spec.specs.Lowering.{IsLowering}
use Rattle.mc_lower_spec.specs.Runs.{FaultsMatch}
use Rattle.mc_lower_spec.specs.Scopes.{AreScoped}
use Rattle.mc_lower_laws.specs.Faults.{FaultsAreIn}

pub tree_faults : ((unit : UnitTree) (defs : List Def) (entry : List ℕ) → IsWellTyped unit entry → AreDistinct (declared_places unit) → AreScoped (resolved_program (tables_of unit) defs entry))
    → ((g : Graph) (entry : Function) (out count : ℕ) → IsLowering g entry out count → AreScoped g.program → FaultsMatch g entry)
    → ((t : Tables) (defs : List Def) (entry : List ℕ) (f : FunctionTree) → called_function t entry ≡ Some f → RunAlike t defs entry f)
    → (unit : UnitTree) (defs : List Def) (entry : List ℕ) (f : FunctionTree) (g : Graph) (start : Function) (out count : ℕ)
    → IsWellTyped unit entry → AreDistinct (declared_places unit) → called_function (tables_of unit) entry ≡ Some f
    → g.program ≡ resolved_program (tables_of unit) defs entry → IsLowering g start out count → FaultsAreIn g.flow defs (program (tables_of unit) defs) f
tree_faults scoped graphs alike unit defs entry f g start out count typed distinct called same lowering n choices kind place run =
    let r : RunAlike (tables_of unit) defs entry f = alike (tables_of unit) defs entry f called in
    let begins : slice_get (resolved_program (tables_of unit) defs entry).functions (resolved_program (tables_of unit) defs entry).entry ≡ Some start =
    subst (λ p. slice_get p.functions p.entry ≡ Some start) same lowering.there in
    let one : r.function ≡ start = same_Some r.function start (sym r.there ∙ begins) in
    let match : FaultsMatch g start = graphs g start out count lowering (subst AreScoped (sym same) (scoped unit defs entry typed distinct)) in
    let resolved = (r.ends n choices (fault kind place)).0 run in
    let renamed = subst (λ (h : Function). Reaches (Step (resolved_program (tables_of unit) defs entry)) n (begin h) choices (fault kind place)) one resolved in
    let there = match n choices kind place (subst (λ p. Reaches (Step p) n (begin start) choices (fault kind place)) (sym same) renamed) in
    (there.0, subst (λ p. Reaches (flow.Step g.flow p.defs) there.0 (flow.start g.flow) choices (fault kind place)) same there.1)

pub safe_trees : ((unit : UnitTree) (defs : List Def) (entry : List ℕ) (f : FunctionTree) (g : Graph) (start : Function) (out count : ℕ)
    → IsWellTyped unit entry → AreDistinct (declared_places unit) → called_function (tables_of unit) entry ≡ Some f
    → g.program ≡ resolved_program (tables_of unit) defs entry → IsLowering g start out count → FaultsAreIn g.flow defs (program (tables_of unit) defs) f)
    → (unit : UnitTree) (defs : List Def) (entry : List ℕ) (f : FunctionTree) (g : Graph) (start : Function) (out count : ℕ)
    → IsWellTyped unit entry → AreDistinct (declared_places unit) → called_function (tables_of unit) entry ≡ Some f
    → g.program ≡ resolved_program (tables_of unit) defs entry → IsLowering g start out count → flow.IsSafeFlow g.flow defs → named.IsSafeProgram (program (tables_of unit) defs) f
safe_trees faults unit defs entry f g start out count typed distinct called same lowering safe n choices kind place run =
    let there = faults unit defs entry f g start out count typed distinct called same lowering n choices kind place run in
    safe there.0 choices kind place there.1
