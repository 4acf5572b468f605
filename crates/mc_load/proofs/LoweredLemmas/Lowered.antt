-- Flow graphs of resolved programs are those of the programs themselves.
use Rattle.std.proofs.Common.{◌≡◌, ◌∙◌, ◌<◌, ℕ, List, Contains, refl, sym, ap, subst}
use Rattle.mc_c_syntax.specs.Ast.Grammar.{IsUnit}
use Rattle.mc_c_syntax.specs.Ast.Trees.{UnitTree}
use Rattle.mc_flow.specs.Defs.Conditions.{DefsFit}
use Rattle.mc_flow.specs.declared.defs.rules.Def.{Def}
use Rattle.mc_flow.specs.declared.defs.shapes.StructInfo.{StructInfo}
use Rattle.mc_flow.specs.declared.defs.shapes.Structs.{Structs}
use Rattle.mc_lower.specs.declared.lowering.Lowered.{Lowered}
use Rattle.mc_load.specs.Inputs.Texts.{IsWellFormed}
use Rattle.mc_lower_laws.specs.Kinds.Typedefs.{HasKnownTypedefs}
use Rattle.mc_lower.specs.Finished.{AreTooLong, IsFlowOf}
use Rattle.mc_lower.specs.Ready.{IsSound}
use Rattle.mc_lower_laws.specs.Existing.Ranks.{HasRanks as AreRanked}
use Rattle.mc_lower_laws.specs.Lowerable.Lowerable.{IsLowerableProgram}
use Rattle.mc_lower_spec.specs.Graphs.{Graph}
use Rattle.mc_lower_spec.specs.Lowering.{IsLowering}
use Rattle.mc_lower_spec.specs.Scopes.{AreScoped}
use Rattle.mc_c_grammar.specs.Numbers.Numbers.{HasSmallNumbers}
use Rattle.mc_c_grammar.specs.Places.Places.{AreAscending, AreDistinct, HasDistinctPlaces, declared_places}
use Rattle.mc_load.specs.Read.Programs.{IsReadAs}
use Rattle.mc_semantics.specs.Resolved.Programs.{Function, Program}
use Rattle.mc_base.specs.declared.text.place.Place.{Place}
use Rattle.mc_base.specs.declared.text.token.Token.{Token}
use Rattle.mc_semantics.specs.declared.resolved.program.Resolved.{Resolved}
use Rattle.mc_semantics.specs.Resolved.Resolving.{resolved_program}
use Rattle.mc_semantics.specs.Resolved.Views.{program_of}
use Rattle.mc_c_check.specs.Ranks.{HasRanks}
use Rattle.mc_c_types.specs.Calls.{CallSite, call_sites}
use Rattle.mc_c_types.specs.Shapes.{IsBound}
use Rattle.mc_c_types.specs.Tables.{struct_infos, tables_of}
use Rattle.mc_c_types.specs.Typing.{IsWellTyped}
use Rattle.mc_lower_laws.specs.Valid.Kinds.{IsWellMade}
use Rattle.mc_load.specs.Lowered.Graphs.{IsGraphOf, IsLong}

-- what is known of programs that were read and are well typed
pub record Laws : Type 0 where
  pub apart : (text : List ℕ) (unit : UnitTree) → IsReadAs text unit → HasDistinctPlaces unit
  pub differ : (places : List Place) → AreAscending places → AreDistinct places
  pub known : (unit : UnitTree) (tokens : List Token) → IsUnit unit tokens → HasKnownTypedefs unit
  pub small : (unit : UnitTree) (tokens : List Token) → IsUnit unit tokens → HasSmallNumbers unit
  pub made : (unit : UnitTree) (defs : List Def) (entry : List ℕ) → IsWellTyped unit entry → HasKnownTypedefs unit → HasSmallNumbers unit
      → AreDistinct (declared_places unit) → DefsFit (struct_infos unit) defs → IsBound unit defs
      → IsWellMade (record { list = struct_infos unit }) (resolved_program (tables_of unit) defs entry)
  pub scoped : (unit : UnitTree) (defs : List Def) (entry : List ℕ) → IsWellTyped unit entry → AreDistinct (declared_places unit)
      → AreScoped (resolved_program (tables_of unit) defs entry)
  pub lowerable : (unit : UnitTree) (defs : List Def) (entry : List ℕ) → IsWellTyped unit entry → AreDistinct (declared_places unit)
      → IsLowerableProgram (record { list = struct_infos unit }) (resolved_program (tables_of unit) defs entry)
  pub ranks : (unit : UnitTree) (entry : List ℕ) → IsWellTyped unit entry → HasRanks unit
  pub ranked : (unit : UnitTree) (defs : List Def) (entry : List ℕ) (rank : List ℕ → ℕ) → ((site : CallSite) → Contains (call_sites unit) site → rank site.callee.text < rank site.caller)
      → AreRanked (resolved_program (tables_of unit) defs entry)
  pub exist : (structs : Structs) (p : Program) → IsWellMade structs p → AreScoped p → IsLowerableProgram structs p → AreRanked p
      → (g : Graph) × (entry : Function) × (out : ℕ) × (count : ℕ) × (g.program ≡ p) × (g.flow.structs ≡ structs) × IsLowering g entry out count

module _ (start : List ℕ) (unit : UnitTree) (defs : List Def) (program : Resolved) (structs : Structs) (same : program_of program defs ≡ resolved_program (tables_of unit) defs start) (infos : structs.list ≡ struct_infos unit) where
  pub graph_of : (x : Lowered) → IsFlowOf program structs x → IsGraphOf start unit defs x.flow
  graph_of x flow =
      let f = flow defs in
      record {
        graph = record { program = program_of program defs; flow = x.flow; owners = f.0; roles = f.1; stops = x.stops };
        program = same;
        is_its = refl;
        structs = ap (λ (s : Structs). s.list) f.6 ∙ infos;
        function = f.2;
        out = f.3;
        count = f.4;
        lowered = f.5;
      }

  one_list : (others : Structs) → others.list ≡ struct_infos unit → others ≡ structs
  one_list others e = ap (λ (l : List StructInfo). record { list = l }) (e ∙ sym infos)

  abbrev list : Structs
  list = record { list = struct_infos unit }

  pub well_made : Laws → IsWellFormed start unit → IsBound unit defs → DefsFit (struct_infos unit) defs → IsWellMade structs (program_of program defs)
  well_made laws sound bound fit =
      let distinct = laws.differ (declared_places unit) (laws.apart sound.text unit sound.read) in
      let known = laws.known unit sound.read.tokens sound.read.spells in
      let small = laws.small unit sound.read.tokens sound.read.spells in
      let made = subst (λ (p : Program). IsWellMade list p) (sym same) (laws.made unit defs start sound.typed known small distinct fit bound) in
      subst (λ (s : Structs). IsWellMade s (program_of program defs)) (one_list list refl) made

  module _ (laws : Laws) (sound : IsWellFormed start unit) where
    distinct : AreDistinct (declared_places unit)
    distinct = laws.differ (declared_places unit) (laws.apart sound.text unit sound.read)

    scoped : AreScoped (program_of program defs)
    scoped = subst (λ (p : Program). AreScoped p) (sym same) (laws.scoped unit defs start sound.typed distinct)

    lowerable : IsLowerableProgram structs (program_of program defs)
    lowerable =
        let listed = subst (λ (p : Program). IsLowerableProgram list p) (sym same) (laws.lowerable unit defs start sound.typed distinct) in
        subst (λ (s : Structs). IsLowerableProgram s (program_of program defs)) (one_list list refl) listed

    ranked : AreRanked (program_of program defs)
    ranked =
        let ranks = laws.ranks unit start sound.typed in
        subst (λ (p : Program). AreRanked p) (sym same) (laws.ranked unit defs start ranks.0 ranks.1)

    pub is_sound : IsBound unit defs → DefsFit (struct_infos unit) defs → IsSound (record { program = program; structs = structs })
    is_sound bound fit = record { defs = defs; well = well_made laws sound bound fit; scoped = scoped; lowerable = lowerable }

    -- where each flow graph has more than 10,000 points, the one that there is has
    pub long_of : IsBound unit defs → DefsFit (struct_infos unit) defs → AreTooLong program structs → IsLong start unit defs
    long_of bound fit long =
        let (g, function, out, count, is, infos_too, lowered) = laws.exist structs (program_of program defs) (well_made laws sound bound fit) scoped lowerable ranked in
        let graph : IsGraphOf start unit defs g.flow =
        record {
          graph = g;
          program = is ∙ same;
          is_its = refl;
          structs = ap (λ (s : Structs). s.list) infos_too ∙ infos;
          function = function;
          out = out;
          count = count;
          lowered = lowered;
        } in
        (g.flow, graph, long g defs function out count is infos_too lowered)
