-- States of which nothing is known, and whole states without edges.
use Rattle.std.proofs.Common.{List, [], ◌∷◌, length, replicate, Option, None, refl, sym, subst, ℤ, pos}
use Rattle.mc_base.specs.Nodes.{Valuation}
use Rattle.mc_flow.specs.Heap.Parts.{IsEmpty}
use Rattle.mc_flow.specs.Heap.Heap.{Region}
use Rattle.mc_state.specs.Graph.Graph.{Edges}
use Rattle.mc_state.specs.Stands.{VarsMeet, EdgesMeet}
use Rattle.mc_state.specs.Laws.{UnknownStands, WholeWithoutEdges}
use Rattle.mc_state.proofs.Parts.{SplitLaws}

unknown_meet : (v : Valuation) (values : List (Option ℤ)) → VarsMeet v (replicate (length values) None) values
unknown_meet v [] = tt
unknown_meet v (z ∷ values) = (tt, unknown_meet v values)

module _ (laws : SplitLaws) where
  pub unknown_stands : UnknownStands
  unknown_stands defs values region empty = (
    λ n. pos 0,
    record {
      null = refl;
      kinds = tt;
      atoms = tt;
      vars = unknown_meet (λ n. pos 0) values;
      parts = record { held = region; rest = region; split = laws.adds_empty region region empty; each = empty; alone = λ whole. empty };
    },
  )

  pub whole_without_edges : WholeWithoutEdges
  whole_without_edges defs values region s whole none stands =
      let p = stands.1.parts in
      let empty : IsEmpty p.held = subst (λ (es : Edges). EdgesMeet defs stands.0 es p.held) none p.each in
      let all = laws.drops_empty region p.held p.rest empty p.split in
      subst (λ (r : Region). IsEmpty r) (sym all) (p.alone whole)
