-- The lines that unfold an edge at a branch, and the one that ends a false state, are instances.
use Rattle.std.proofs.Common.{◌≡◌, ◌⊎◌, inl, inr, List, [], map, Bool, true, false, not, Option, Some, None, pos, refl, ap, ◌∙◌}
use Rattle.std.specs.Prelude.{option_and_then, option_map, if◌then◌else◌}
use Rattle.std.specs.List.{list_any}
use Rattle.std.specs.Option.{option_or}
use Rattle.mc_base.specs.declared.ids.EdgeId.{EdgeId}
use Rattle.mc_base.specs.declared.ids.NodeId.{NodeId}
use Rattle.mc_base.specs.declared.ids.PredId.{PredId}
use Rattle.mc_base.specs.declared.plain.Atom.TheVariants.{Eq, Ne}
use Rattle.mc_base.specs.Nodes.{null}
use Rattle.mc_lines.specs.declared.cert.line.Line.{Line}
use Rattle.mc_lines.specs.declared.cert.line.Line.TheVariants as line
use Rattle.mc_flow.specs.declared.defs.rules.Def.{Def}
use Rattle.mc_flow.specs.declared.graph.Flow.{Flow}
use Rattle.mc_state.specs.declared.graph.edge.Edge.{Edge}
use Rattle.mc_state.specs.declared.graph.edge.Edge.TheVariants.{Block, Ind, Seg}
use Rattle.mc_state.specs.Graph.Graph.{Edges, edge_with}
use Rattle.mc_state.specs.Known.{Test, Tells, equal, is_false}
use Rattle.mc_state.specs.Named.{SegParts, seg_of}
use Rattle.mc_pure.specs.Derived.{apart, turned}
use Rattle.mc_state.specs.Facts.{AreEqual}
use Rattle.mc_state.specs.State.{State}
use Rattle.mc_rules_logic.specs.Unfold.Judges.{any_ind_of, may_unfold as may_open, unfolding_ind, unfolding_seg}
use Rattle.mc_rules_logic.specs.Unfold.JudgedLaws.{IndIsJudged, SegIsJudged}
use Rattle.mc_rules_logic.specs.Back.Judges.{ends_back_at, is_reached_back, unfolding_back}
use Rattle.mc_rules_logic.specs.Back.Laws.{BackIsJudged}
use Rattle.mc_rules_steps.specs.Fitting.{FoundEdgesAreThere}
use Rattle.mc_gaps.specs.Unmet.Gaps.{may_unfold}
use Rattle.mc_kernel.specs.Branches.{Path, Setting, with_state}
use Rattle.mc_kernel.specs.Instances.{accessed}
use Rattle.mc_kernel.specs.Reading.Documents.{IsMade}
use Rattle.mc_kernel.specs.Progress.Asked.{FirstLinesAreRight, IsRight, at_end, at_node, at_start, ends_at, false_or_null, from_start, starts_at}
use Rattle.mc_kernel.proofs.ProgressLemmas.Judged.{Found, Gives, either, found_or, have_gives, need_gives, none_of_two, or_left, or_one, or_right}

-- what lower crates prove of edges
pub record EdgeLaws : Type 0 where
  pub found : FoundEdgesAreThere
  pub ind : IndIsJudged
  pub seg : SegIsJudged
  pub back : BackIsJudged

-- nodes that are equal are so both ways
swapped : (s : State) (a b : NodeId) → AreEqual s a b → AreEqual s b a
swapped s a b (inl f) = inl (turned f)
swapped s a b (inr wrong) = inr wrong

pub equal_turned : (know : Test) (s : State) (m n : NodeId) → Tells know s → equal know m n ≡ true → equal know n m ≡ true
equal_turned know s m n tells e = (tells (Eq n m (pos 0))).1 (swapped s m n ((tells (Eq m n (pos 0))).0 e))

-- the same line, asked for in another way
pub right_for : (flow : Flow) (defs : List Def) (g : Setting) (b : Path) (asked other : Option Line) → asked ≡ other → IsRight flow defs g b other → IsRight flow defs g b asked
right_for flow defs g b asked other same r = record { line = r.line; is = same ∙ r.is; is_such = r.is_such; next = r.next; instance = r.instance }

module _ (laws : EdgeLaws) (know : Test) (flow : Flow) (defs : List Def) (g : Setting) (b : Path) (made : IsMade flow defs b) (still_open : b.closing ≡ false)
    (tells : Tells know b.state) where
  abbrev es : Edges
  es = b.state.graph.edges

  abbrev Right : Option Line → Type 0
  Right asked = IsRight flow defs g b asked

  module _ (sound : is_false know ≡ false) where
    consistent : not (is_false know) ≡ true
    consistent = ap not sound

    -- an Ind from its start
    by_ind : (asked : Option Line) (id : EdgeId) (at : NodeId) (pred : PredId) (args : List NodeId) → asked ≡ Some (line.L1 id)
        → edge_with es id ≡ Some (Ind at pred args) → may_open know (accessed flow b) at ≡ true → Right asked
    by_ind asked id at pred args is there opens =
        let gives : Gives (unfolding_ind know defs (accessed flow b) id b.state) =
        need_gives 2 (not (is_false know)) _ consistent
        (have_gives 3 (any_ind_of (edge_with es id)) _ (record { at = at; pred = pred; args = args }) (ap any_ind_of there)
        (need_gives 4 (may_open know (accessed flow b) at) _ opens (_, refl))) in
        record {
          line = line.L1 id;
          is = is;
          is_such = refl;
          next = map (with_state b) gives.0;
          instance = (still_open, (gives.0, (laws.ind know defs (accessed flow b) id b.state made.fits_defs tells gives.0).0 gives.1, refl));
        }

    -- a Seg from its start
    by_seg : (asked : Option Line) (id : EdgeId) (parts : SegParts) → asked ≡ Some (line.L2 id)
        → edge_with es id ≡ Some (Seg parts.at parts.args parts.pred parts.stop parts.ends) → may_open know (accessed flow b) parts.at ≡ true → Right asked
    by_seg asked id parts is there opens =
        let gives : Gives (unfolding_seg know defs (accessed flow b) id b.state) =
        need_gives 2 (not (is_false know)) _ consistent
        (have_gives 3 (seg_of (edge_with es id)) _ parts (ap seg_of there)
        (need_gives 4 (may_open know (accessed flow b) parts.at) _ opens (_, refl))) in
        record {
          line = line.L2 id;
          is = is;
          is_such = refl;
          next = map (with_state b) gives.0;
          instance = (still_open, (gives.0, (laws.seg know defs (accessed flow b) id b.state made.fits_defs tells gives.0).0 gives.1, refl));
        }

    -- a Seg from its end
    by_back : (asked : Option Line) (id : EdgeId) (parts : SegParts) → asked ≡ Some (line.L15 id)
        → edge_with es id ≡ Some (Seg parts.at parts.args parts.pred parts.stop parts.ends) → is_reached_back know defs (accessed flow b) parts ≡ true → Right asked
    by_back asked id parts is there reached =
        let gives : Gives (unfolding_back know defs (accessed flow b) id b.state) =
        need_gives 2 (not (is_false know)) _ consistent
        (have_gives 3 (seg_of (edge_with es id)) _ parts (ap seg_of there)
        (need_gives 4 (is_reached_back know defs (accessed flow b) parts) _ reached (_, refl))) in
        record {
          line = line.L15 id;
          is = is;
          is_such = refl;
          next = map (with_state b) gives.0;
          instance = (still_open, (gives.0, (laws.back know defs (accessed flow b) id b.state tells gives.0).0 gives.1, refl));
        }

    -- ---- edges that start at a node

    module _ (n : NodeId) (opens : (at : NodeId) → equal know at n ≡ true → may_open know (accessed flow b) at ≡ true) where
      start_edge : (asked : Option Line) (e : EdgeId × Edge) → asked ≡ from_start e → edge_with es e.0 ≡ Some e.1 → starts_at know n e ≡ true → Right asked
      start_edge asked (id, Block at shape fields) is there passes = absurd (cc passes)
      start_edge asked (id, Ind at pred args) is there passes = by_ind asked id at pred args is there (opens at passes)
      start_edge asked (id, Seg at args pred stop ends) is there passes =
          by_seg asked id (record { at = at; args = args; pred = pred; stop = stop; ends = ends }) is there (opens at passes)

      pub start_right : Found (starts_at know n) es → Right (at_start know n es)
      start_right f =
          start_edge (at_start know n es) f.item (ap (option_and_then from_start) f.found) (laws.found b.state (starts_at know n) f.item made.bounded f.found) f.passes

    -- ---- edges at a node that is accessed

    module _ (n : NodeId) (accesses : accessed flow b ≡ Some n) where
      opens_at : (at : NodeId) → equal know at n ≡ true → may_open know (accessed flow b) at ≡ true
      opens_at at e = ap (λ (z : Option NodeId). may_open know z at) accesses ∙ or_right (equal know at null) (equal know at n) e

      end_edge : (asked : Option Line) (e : EdgeId × Edge) → asked ≡ Some (line.L15 e.0) → edge_with es e.0 ≡ Some e.1 → ends_at know defs n e ≡ true → Right asked
      end_edge asked (id, Block at shape fields) is there passes = absurd (cc passes)
      end_edge asked (id, Ind at pred args) is there passes = absurd (cc passes)
      end_edge asked (id, Seg at args pred stop ends) is there passes =
          let parts : SegParts = record { at = at; args = args; pred = pred; stop = stop; ends = ends } in
          by_back asked id parts is there (ap (λ (z : Option NodeId). is_reached_back know defs z parts) accesses ∙ passes)

      end_right : Found (ends_at know defs n) es → Right (at_end know defs n es)
      end_right f =
          end_edge (at_end know defs n es) f.item (ap (option_map (λ (e : EdgeId × Edge). line.L15 e.0)) f.found)
          (laws.found b.state (ends_at know defs n) f.item made.bounded f.found) f.passes

      -- what may be unfolded starts there, or ends there
      one_of_two : (e : EdgeId × Edge) → may_unfold know defs n e ≡ true → (starts_at know n e ≡ true) ⊎ (ends_at know defs n e ≡ true)
      one_of_two (id, Block at shape fields) e = absurd (cc e)
      one_of_two (id, Ind at pred args) e = inl (equal_turned know b.state n at tells e)
      one_of_two (id, Seg at args pred stop ends) e = elim (or_one (equal know n at) (ends_back_at know defs pred n 0 ends) e) [
        | inl start ↦ inl (equal_turned know b.state n at tells start)
        | inr back ↦ inr back
      ]

      -- the line that unfolds an edge there, or no edge may be unfolded
      pub node_right : Right (at_node know defs es n) ⊎ (list_any (may_unfold know defs n) es ≡ false)
      node_right = elim (found_or (starts_at know n) es) [
        | inl f ↦
            let r = start_right n opens_at f in
            inl (record { line = r.line; is = ap (λ (z : Option Line). option_or z (at_end know defs n es)) r.is; is_such = r.is_such; next = r.next; instance = r.instance })
        | inr no_start ↦
            let at_no_start : at_node know defs es n ≡ at_end know defs n es = ap (λ (z : Option (EdgeId × Edge)). option_or (option_and_then from_start z) (at_end know defs n es)) no_start.found in
            elim (found_or (ends_at know defs n) es) [
              | inl f ↦ inl (right_for flow defs g b (at_node know defs es n) (at_end know defs n es) at_no_start (end_right f))
              | inr no_end ↦ inr (none_of_two (may_unfold know defs n) (starts_at know n) (ends_at know defs n) es one_of_two no_start.none no_end.none)
            ]
      ]

  -- ---- the first lines

  opens_null : (at : NodeId) → equal know at null ≡ true → may_open know (accessed flow b) at ≡ true
  opens_null at e = by (accessed flow b)
    where
      by : (o : Option NodeId) → may_open know o at ≡ true
      by None = e
      by (Some n) = or_left (equal know at null) (equal know at n) e

  abbrev First : Option Line
  First = false_or_null know es

  ends_false : is_false know ≡ true → Right First
  ends_false e = record {
    line = line.L12;
    is = ap (λ (z : Bool). if z then Some line.L12 else at_start know null es) e;
    is_such = refl;
    next = [];
    instance = (still_open, elim ((tells (Ne null null (pos 0))).0 e) [ inl f ↦ apart f | inr wrong ↦ wrong ], refl);
  }

  pub first_right : Right First ⊎ (First ≡ None)
  first_right = elim (either (is_false know)) [
    | inl e ↦ inl (ends_false e)
    | inr sound ↦
        let same : First ≡ at_start know null es = ap (λ (z : Bool). if z then Some line.L12 else at_start know null es) sound in
        elim (found_or (starts_at know null) es) [
          | inl f ↦ inl (right_for flow defs g b First (at_start know null es) same (start_right sound null opens_null f))
          | inr no_start ↦ inr (same ∙ ap (option_and_then from_start) no_start.found)
        ]
  ]

pub first_lines_are_right : EdgeLaws → FirstLinesAreRight
first_lines_are_right laws know flow defs g b made still_open tells = first_right laws know flow defs g b made still_open tells
