-- What instructions take fits well-made states.
use Rattle.std.proofs.Common.{◌≡◌, ℕ, ℤ, pos, List, [], ◌∷◌, Bool, true, false, Option, Some, None, map, slice_get, refl, ap, arith}
use Rattle.std.specs.Prelude.{if◌then◌else◌}
use Rattle.std.specs.List.{AllByRecursion}
use Rattle.std.proofs.lemmas.Int.{ints}
use Rattle.mc_base.specs.declared.ids.NodeId.{NodeId}
use Rattle.mc_base.specs.declared.ids.PointId.{PointId}
use Rattle.mc_base.specs.declared.plain.Kind.{Kind}
use Rattle.mc_base.specs.declared.plain.Kind.TheVariants.{Int, Ptr}
use Rattle.mc_base.specs.declared.plain.VarInfo.{VarInfo}
use Rattle.mc_flow.specs.declared.defs.rules.Def.{Def}
use Rattle.mc_state.specs.declared.graph.edge.Edge.{Edge}
use Rattle.mc_state.specs.declared.graph.edge.Edge.TheVariants.{Block, Ind, Seg}
use Rattle.mc_state.specs.Graph.Edges.{nodes_of, start_of}
use Rattle.mc_state.specs.Graph.Graph.{block_starts, without}
use Rattle.mc_pure.specs.Pure.{HasKind, IsNode, Kinds}
use Rattle.mc_base.specs.Ranges.Range.{IsOutcome}
use Rattle.mc_state.specs.Fits.{AreNodes, EdgeFitsDefs}
use Rattle.mc_rules_steps.specs.Fitting.{ConstantsFit, FoundEdgesAreThere, FoundFieldsAreThere, FreedMayBeWritten, EndsAreLeast, InstructionsFit, OperandFits, OperandsFit, ends_of}
use Rattle.mc_rules_steps.specs.Judges.{flat_node, known_field}
use Rattle.mc_rules_steps.specs.Sums.{Operation, difference, product, sum}
use Rattle.mc_rules_steps.proofs.Grown.{all_without}
use Rattle.mc_rules_steps.proofs.JudgedBlocks.{found_there}
use Rattle.mc_rules_steps.proofs.JudgedMoves.{nodes_from}
use Rattle.mc_rules_steps.proofs.JudgedSums.{SpansResults, differences_span, least_atoms, products_span, sums_span}
use Rattle.mc_rules_steps.proofs.Lists.{edge_at, known_field as field_node}
use Rattle.mc_rules_steps.proofs.LowerLaws.{MadeLaws}
use Rattle.mc_rules_steps.proofs.Moving.{fits_at}
use Rattle.mc_rules_steps.proofs.StepsMade.{others_well, starts_pointers}
use Rattle.mc_rules_steps.proofs.WellMade.{many_made, operand_made}

pub instructions_fit : InstructionsFit
instructions_fit flow defs p code s valid made at =
    record { vars = flow.vars; structs = flow.structs; defs = defs; kinds = fits_at flow defs p code valid at; made = made }

-- ---- operands

pub operand_fits : MadeLaws → OperandFits
operand_fits laws defs vars structs s kind o n made fits known = operand_made laws defs vars structs s kind o n made fits known

pub operands_fit : MadeLaws → OperandsFit
operands_fit laws defs vars structs os kinds s ns made fits known = many_made laws defs vars structs os kinds s ns made fits (nodes_from os s ns known)

pub constants_fit : ConstantsFit
constants_fit vars Int c fits = let low = fits.0 in let high = fits.1 in (omega (arith, ints), omega (arith, ints))
constants_fit vars Ptr c fits = let zero = fits in (omega (arith, ints), omega (arith, ints))

-- ---- blocks

flat_some : (o : Option (Option NodeId)) (m : NodeId) → flat_node o ≡ Some m → o ≡ Some (Some m)
flat_some None m e = absurd (cc e)
flat_some (Some n) m e = ap (λ (n : Option NodeId). Some n) e

field_there : (kinds : Kinds) (e : Edge) (f : ℕ) (m : NodeId) → AreNodes kinds (nodes_of e) → known_field e f ≡ Some m → IsNode kinds m
field_there kinds (Block at shape fields) f m there is = field_node (IsNode kinds) fields f m (flat_some (slice_get fields f) m is) there.1
field_there kinds (Ind at pred args) f m there is = absurd (cc is)
field_there kinds (Seg at args pred stop ends) f m there is = absurd (cc is)

pub edges_are_there : FoundEdgesAreThere
edges_are_there s test e b is = (found_there 0 s.graph.edges s.graph.next test e b.ids is).0

pub fields_are_there : FoundFieldsAreThere
fields_are_there s id e f m b is known =
    field_there s.kinds e f m (edge_at (λ (e : Edge). AreNodes s.kinds (nodes_of e)) s.graph.edges id e is b.edges) known

start_kind : (defs : List Def) (kinds : Kinds) (e : Edge) → EdgeFitsDefs defs kinds e → HasKind kinds Ptr (start_of e)
start_kind defs kinds (Block at shape fields) f = f.0
start_kind defs kinds (Ind at pred args) f = f.0
start_kind defs kinds (Seg at args pred stop ends) f = f.0

pub freed_may_be_written : FreedMayBeWritten
freed_may_be_written defs vars structs s id e made there =
    let has = start_kind defs s.kinds e (edge_at (EdgeFitsDefs defs s.kinds) s.graph.edges id e there made.fits_defs) in
    let left = without s.graph.edges id in
    let fit = all_without (EdgeFitsDefs defs s.kinds) s.graph.edges id made.fits_defs in (
      ((Ptr, has), (omega (arith, ints), omega (arith, ints)), (omega (arith, ints), omega (arith, ints))),
      others_well s.kinds (start_of e) (block_starts left) has (starts_pointers defs s.kinds left fit),
    )

-- ---- results

ends_are_least : (op : Operation) → SpansResults op → EndsAreLeast op
ends_are_least op spans n left right results p q is = least_atoms (IsOutcome op.apply left right) (op.ends (ends_of left) (ends_of right)) (spans left right p q) n results is

pub sums_are : EndsAreLeast sum
sums_are = ends_are_least sum sums_span

pub differences_are : EndsAreLeast difference
differences_are = ends_are_least difference differences_span

pub products_are : EndsAreLeast product
products_are = ends_are_least product products_span
