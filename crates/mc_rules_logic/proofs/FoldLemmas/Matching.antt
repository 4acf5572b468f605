-- Edges that match a rule are its body.
use Rattle.std.proofs.Common.{◌≡◌, ℕ, ℤ, Option, Some, None, List, [], ◌∷◌, ◌++◌, map, refl, sym, ◌∙◌, ap, ap₂, subst}
use Rattle.std.specs.List.{AllByRecursion}
use Rattle.std.specs.Prelude.{remove, option_to_list}
use Rattle.std.proofs.lemmas.List.{map-append, length-map}
use Rattle.mc_base.specs.declared.ids.NodeId.{NodeId}
use Rattle.mc_base.specs.declared.ids.StructId.{StructId}
use Rattle.mc_base.specs.Nodes.{Valuation, at_node}
use Rattle.mc_flow.specs.Heap.Heap.{Region, IsAtAddresses}
use Rattle.mc_flow.specs.Heap.Parts.{Split, Star}
use Rattle.mc_flow.specs.declared.defs.rules.Call.{Call}
use Rattle.mc_flow.specs.declared.defs.rules.Def.{Def}
use Rattle.mc_flow.specs.declared.defs.rules.DefAtom.{DefAtom}
use Rattle.mc_flow.specs.declared.defs.rules.Rule.{Rule}
use Rattle.mc_flow.specs.Defs.Instances.{node_of, atom_of}
use Rattle.mc_flow.specs.Defs.Meaning.{RuleValues, BlockMeets, CallMeets, Sat}
use Rattle.mc_flow.specs.Defs.Values as named
use Rattle.mc_flow.specs.Defs.Values.{value_of}
use Rattle.mc_state.specs.declared.graph.edge.Edge.{Edge}
use Rattle.mc_state.specs.declared.graph.edge.Edge.TheVariants.{Block, Ind, Seg}
use Rattle.mc_pure.specs.Pure.{IsNode}
use Rattle.mc_state.specs.Facts.{Derives}
use Rattle.mc_state.specs.Fits.{AreNodes}
use Rattle.mc_state.specs.Stands.{VarsMeet, EdgeMeets, StandsBy}
use Rattle.mc_state.specs.declared.line.FoldInd.{FoldInd}
use Rattle.mc_state.specs.State.{State}
use Rattle.mc_rules_logic.specs.Fold.Folded.{as_ind, FieldsMatch, BlocksMatch, CallsMatch, Matches}
use Rattle.mc_rules_logic.specs.Fold.Laws.{LawOfFoldInd, LawOfFoldSeg}
use Rattle.mc_rules_logic.proofs.FoldLemmas.Names.{name_value, name_values, atom_true, in_kinds, kinds_there}
use Rattle.mc_rules_logic.proofs.FoldLemmas.Parts.{star_parts, one_star}
use Rattle.mc_rules_logic.proofs.FoldLemmas.Standing.{FoldLaws, one_value, folded_lawful}
use Rattle.mc_rules_logic.proofs.UnfoldLemmas.Names.{name_there, names_there}
use Rattle.mc_state.proofs.Lists.{all_append, all_left}

module _ (laws : FoldLaws) (defs : List Def) (v : Valuation) (values : List (Option ℤ)) (region : Region) (s : State) (addresses : IsAtAddresses region) (st : StandsBy defs v values region s) (nodes : List NodeId) where
  abbrev names : List ℤ
  names = map (at_node v) nodes

  fields_are : (contents : List ℕ) (fields : List (Option NodeId)) (zs : List (Option ℤ)) → FieldsMatch s nodes contents fields → VarsMeet v fields zs → zs ≡ map (λ name. Some (value_of names name)) contents
  fields_are [] [] [] m t = refl
  fields_are [] [] (z ∷ zs) m t = absurd t
  fields_are [] (n ∷ fields) zs m t = absurd m
  fields_are (name ∷ contents) [] zs m t = absurd m
  fields_are (name ∷ contents) (None ∷ fields) zs m t = absurd m
  fields_are (name ∷ contents) (Some n ∷ fields) [] m t = absurd t
  fields_are (name ∷ contents) (Some n ∷ fields) (z ∷ zs) m t =
      let same = one_value laws.equal defs v values region s (node_of nodes name) n addresses st m.0 in
      ap₂ (λ x xs. x ∷ xs) (t.0 ∙ ap Some (sym (name_value v nodes st.null name ∙ same))) (fields_are contents fields zs m.1 t.1)

  pub blocks_are : (block : Option StructId) (contents : List ℕ) (es : List Edge) (part : Region) → BlocksMatch s nodes block contents es → Star (EdgeMeets defs v) es part → BlockMeets block contents names part
  blocks_are None contents [] part m t = t
  blocks_are None contents (e ∷ es) part m t = absurd m
  blocks_are (Some shape) contents [] part m t = absurd m
  blocks_are (Some shape) contents (Ind at pred args ∷ []) part m t = absurd m
  blocks_are (Some shape) contents (Seg at args pred «end» ends ∷ []) part m t = absurd m
  blocks_are (Some shape) contents (e ∷ f ∷ es) part m t = absurd m
  blocks_are (Some shape) contents (Block at own fields ∷ []) part m t =
      let block = one_star laws.parts (EdgeMeets defs v) (Block at own fields) part t in
      let first = name_value v nodes st.null 0 ∙ one_value laws.equal defs v values region s (node_of nodes 0) at addresses st m.1 ∙ block.1 in
      (block.0, first, rw (sym m.0, ← (fields_are contents fields block.2.0 m.2 block.2.2)) block.2.1)

  pub calls_are : (calls : List Call) (es : List Edge) (part : Region) → CallsMatch s nodes calls es → Star (EdgeMeets defs v) es part → Star (CallMeets (Sat defs) names) calls part
  calls_are [] [] part m t = t
  calls_are [] (e ∷ es) part m t = absurd m
  calls_are (call ∷ calls) [] part m t = absurd m
  calls_are (call ∷ calls) (Block at own fields ∷ es) part m t = absurd m.0
  calls_are (call ∷ calls) (Seg at args pred «end» ends ∷ es) part m t = absurd m.0
  calls_are (call ∷ calls) (Ind at pred args ∷ es) part m t =
      let first = name_value v nodes st.null call.at ∙ one_value laws.equal defs v values region s (node_of nodes call.at) at addresses st m.0.1 in
      let more = name_values v nodes st.null call.args ∙ laws.equal defs v values region s (map (node_of nodes) call.args) args addresses st m.0.2 in
      (t.0, t.1, t.2, rw (sym m.0.0, first, more) t.3, calls_are calls es t.1 m.1 t.4)

  pub atoms_are : (atoms : List DefAtom) → AllByRecursion (λ a. Derives s (atom_of nodes a)) atoms → AllByRecursion (named.IsTrueAtom names) atoms
  atoms_are [] a = tt
  atoms_are (f ∷ atoms) a = (atom_true v nodes st.null f (laws.truth defs v values region s (atom_of nodes f) addresses st a.0), atoms_are atoms a.1)

module _ (laws : FoldLaws) (defs : List Def) (s : State) (fold : FoldInd) (calls : Rule → List Call) (body : Matches defs s fold calls) where
  there : AreNodes s.kinds fold.names
  there = kinds_there s.kinds body.by.names fold.names body.kinds

  pub front_there : AreNodes s.kinds (body.this ∷ body.args)
  front_there =
      let all : AreNodes s.kinds (body.this ∷ (body.args ++ body.others)) = subst (AreNodes s.kinds) body.front there in
      (all.0, all_left (IsNode s.kinds) body.args body.others all.1)

  pub called_there : (call : Call) → AreNodes s.kinds (node_of fold.names call.at ∷ map (node_of fold.names) call.args)
  called_there call = (name_there s.kinds fold.names call.at there, names_there s.kinds fold.names call.args there)

  module _ (v : Valuation) (values : List (Option ℤ)) (region : Region) (addresses : IsAtAddresses region) (st : StandsBy defs v values region s) where
    -- the rule with the values of the names
    abbrev pub by_rule : RuleValues defs fold.pred (v body.this.0) (map (at_node v) body.args)
    by_rule = record {
      def = body.def;
      defined = body.defined;
      rule = body.by;
      place = fold.rule;
      listed = body.listed;
      names = map (at_node v) fold.names;
      kinds = in_kinds v s.kinds body.by.names fold.names st.null st.kinds body.kinds;
      count = length-map body.args (at_node v) ∙ body.count;
      others = map (at_node v) body.others;
      front = ap (map (at_node v)) body.front ∙ ap (λ zs. v body.this.0 ∷ zs) (map-append (at_node v) body.args body.others);
      atoms = atoms_are laws defs v values region s addresses st fold.names body.by.atoms body.atoms;
    }

    -- the part of the edges is the rule's block and calls
    pub body_is : (part : Region) → Star (EdgeMeets defs v) (body.blocks ++ body.inds) part
        → (held : Region) × (rest : Region) × Split part held rest × BlockMeets body.by.block body.by.contents (map (at_node v) fold.names) held × Star (CallMeets (Sat defs) (map (at_node v) fold.names)) (calls body.by) rest
    body_is part each =
        let both = star_parts laws.parts (EdgeMeets defs v) body.blocks body.inds part each in (
          both.0,
          both.1,
          both.2,
          blocks_are laws defs v values region s addresses st fold.names body.by.block body.by.contents body.blocks both.0 body.block_fits both.3,
          calls_are laws defs v values region s addresses st fold.names (calls body.by) body.inds both.1 body.calls_fit both.4,
        )

pub fold_ind : FoldLaws → LawOfFoldInd
fold_ind laws defs fold s next bounded i =
    let body = i.body in
    let calls : Rule → List Call = λ r. r.calls in
    let lawful = folded_lawful laws defs s (option_to_list fold.block ++ fold.edges) (body.blocks ++ body.inds) body.left (Ind body.this fold.pred body.args) bounded body.picks (front_there laws defs s fold calls body)
    (λ v values region part addresses st each.
    let is = body_is laws defs s fold calls body v values region addresses st part each in
    laws.folds defs fold.pred (v body.this.0) (map (at_node v) body.args) part (by_rule laws defs s fold calls body v values region addresses st, is.0, is.1, is.2, is.3, is.4)) in
    rw i.gives lawful

pub fold_seg : FoldLaws → LawOfFoldSeg
fold_seg laws defs fold s next bounded i =
    let body = i.body in
    let calls : Rule → List Call = λ r. remove r.calls fold.call in
    let new : Edge = Seg body.this body.args fold.pred (node_of fold.names i.open_call.at) (map (node_of fold.names) i.open_call.args) in
    let front = front_there laws defs s (as_ind fold) calls body in
    let lawful = folded_lawful laws defs s (fold.block ∷ fold.edges) (body.blocks ++ body.inds) body.left new bounded body.picks
    (front.0, all_append (IsNode s.kinds) body.args (node_of fold.names i.open_call.at ∷ map (node_of fold.names) i.open_call.args) front.1 (called_there laws defs s (as_ind fold) calls body i.open_call))
    (λ v values region part addresses st each.
    let is = body_is laws defs s (as_ind fold) calls body v values region addresses st part each in
    let by = by_rule laws defs s (as_ind fold) calls body v values region addresses st in
    let seg = laws.of_body defs fold.pred (v body.this.0) (map (at_node v) body.args) part is.0 is.1 by fold.call i.open_call i.called i.own is.2 is.3 is.4 in
    rw (← (name_value v fold.names st.null i.open_call.at), ← (name_values v fold.names st.null i.open_call.args)) seg) in
    rw i.gives lawful
