-- Folded edges fit where the edges before do.
use Rattle.std.proofs.Common.{◌≡◌, ℕ, zero, suc, List, [], ◌∷◌, ◌++◌, Bool, true, false, Some, length, map, take, slice_get, sym, ◌∙◌, ap, subst}
use Rattle.std.proofs.lemmas.List.Elements.{All-contains}
use Rattle.std.specs.Prelude.{◌==◌, option_to_list, remove, if◌then◌else◌}
use Rattle.std.specs.List.{AllByRecursion}
use Rattle.mc_base.specs.declared.ids.EdgeId.{EdgeId}
use Rattle.mc_base.specs.declared.ids.NodeId.{NodeId}
use Rattle.mc_base.specs.declared.plain.Kind.{Kind}
use Rattle.mc_base.specs.declared.plain.Kind.TheVariants.{Ptr}
use Rattle.mc_base.specs.declared.plain.VarInfo.{VarInfo}
use Rattle.mc_base.specs.declared.ids.PredId.{PredId}
use Rattle.mc_flow.specs.Defs.Conditions.{IsDefs, DefFits, RuleFits, RuleFitsStructs, CallFits}
use Rattle.mc_flow.specs.declared.defs.rules.Call.{Call}
use Rattle.mc_flow.specs.declared.defs.rules.Def.{Def}
use Rattle.mc_flow.specs.declared.defs.rules.Rule.{Rule}
use Rattle.mc_flow.specs.declared.defs.shapes.StructInfo.{StructInfo}
use Rattle.mc_flow.specs.Defs.Instances.{node_of}
use Rattle.mc_state.specs.declared.graph.edge.Edge.{Edge}
use Rattle.mc_state.specs.declared.graph.edge.Edge.TheVariants.{Ind, Seg}
use Rattle.mc_state.specs.Graph.Graph.{Edges, Picks, edge_with, without}
use Rattle.mc_pure.specs.Pure.{Kinds, HasKind}
use Rattle.mc_state.specs.declared.line.FoldInd.{FoldInd}
use Rattle.mc_state.specs.State.{State, with_edges}
use Rattle.mc_state.specs.Fits.{IsBounded, HaveKinds, ArgsFit, EdgeFitsDefs, EdgeFitsStructs, IsWellMade}
use Rattle.mc_rules_logic.specs.Fold.Folded.{as_ind, folded, Matches}
use Rattle.mc_rules_logic.specs.Fold.Laws.{LawOfFoldInd, LawOfFoldSeg, LawOfCloseSeg, LawOfJoinSegs, LawOfEmptySeg, LawOfDrop}
use Rattle.mc_rules_logic.specs.Fold.MadeLaws.{FoldIndStaysMade, FoldSegStaysMade, CloseSegStaysMade, JoinSegsStaysMade, EmptySegStaysMade, DropStaysMade}
use Rattle.mc_rules_logic.proofs.FoldLemmas.Reaching.{among_at, among_to}
use Rattle.mc_state.proofs.Lists.{all_append}

-- ---- edges that are left

module _ (P : EdgeId × Edge → Type 0) where
  pub all_without : (es : Edges) (id : EdgeId) → AllByRecursion P es → AllByRecursion P (without es id)
  all_without [] id a = tt
  all_without (e ∷ es) id a = at (e.0.0 == id.0) (all_without es id a.1)
    where
      at : (b : Bool) → AllByRecursion P (without es id) → AllByRecursion P (if b then es else e ∷ without es id)
      at true rest = a.1
      at false rest = (a.0, rest)

  all_left_over : (ids : List EdgeId) (es : Edges) (picked : List Edge) (left : Edges) → Picks ids es picked left → AllByRecursion P es → AllByRecursion P left
  all_left_over [] es picked left p a = subst (AllByRecursion P) (sym p.1) a
  all_left_over (id ∷ ids) es [] left p a = absurd p
  all_left_over (id ∷ ids) es (e ∷ picked) left p a = all_left_over ids (without es id) picked left p.1 (all_without es id a)

-- what holds of all edges holds of the one with an id
edge_has : (Q : Edge → Type 0) (es : Edges) (id : EdgeId) (e : Edge) → AllByRecursion (λ x. Q x.1) es → edge_with es id ≡ Some e → Q e
edge_has Q [] id e a is = absurd (cc is)
edge_has Q (x ∷ es) id e a is = at (x.0.0 == id.0) (edge_has Q es id e a.1) is
  where
    at : (b : Bool) → (edge_with es id ≡ Some e → Q e) → (if b then Some x.1 else edge_with es id) ≡ Some e → Q e
    at true rest is = let same : x.1 ≡ e = cc is in subst Q same a.0
    at false rest is = rest is

-- a state with a new edge that fits
edge_made : (defs : List Def) (vars : List VarInfo) (structs : List StructInfo) (s : State) (new : Edge) → IsWellMade defs vars structs s → EdgeFitsDefs defs s.kinds new → EdgeFitsStructs structs s.kinds new → IsBounded (with_edges s (new ∷ [])) → IsWellMade defs vars structs (with_edges s (new ∷ []))
edge_made defs vars structs s new w fits blocks bounded =
    record {
      bounded = bounded;
      atoms = w.atoms;
      fits_defs = all_append (λ (e : EdgeId × Edge). EdgeFitsDefs defs s.kinds e.1) s.graph.edges ((record { 0 = s.graph.next }, new) ∷ []) w.fits_defs (fits, tt);
      fits_program = record {
        vars_fit = w.fits_program.vars_fit;
        blocks_fit = all_append (λ (e : EdgeId × Edge). EdgeFitsStructs structs s.kinds e.1) s.graph.edges ((record { 0 = s.graph.next }, new) ∷ []) w.fits_program.blocks_fit (blocks, tt);
      };
    }

-- a state with one edge for others
fold_made : (defs : List Def) (vars : List VarInfo) (structs : List StructInfo) (s : State) (ids : List EdgeId) (picked : List Edge) (left : Edges) (new : Edge) → Picks ids s.graph.edges picked left → IsWellMade defs vars structs s → EdgeFitsDefs defs s.kinds new → EdgeFitsStructs structs s.kinds new → IsBounded (folded s left new) → IsWellMade defs vars structs (folded s left new)
fold_made defs vars structs s ids picked left new picks w fits blocks bounded =
    record {
      bounded = bounded;
      atoms = w.atoms;
      fits_defs =
          all_append (λ (e : EdgeId × Edge). EdgeFitsDefs defs s.kinds e.1) left ((record { 0 = s.graph.next }, new) ∷ [])
          (all_left_over (λ (e : EdgeId × Edge). EdgeFitsDefs defs s.kinds e.1) ids s.graph.edges picked left picks w.fits_defs) (fits, tt);
      fits_program = record {
        vars_fit = w.fits_program.vars_fit;
        blocks_fit =
            all_append (λ (e : EdgeId × Edge). EdgeFitsStructs structs s.kinds e.1) left ((record { 0 = s.graph.next }, new) ∷ [])
            (all_left_over (λ (e : EdgeId × Edge). EdgeFitsStructs structs s.kinds e.1) ids s.graph.edges picked left picks w.fits_program.blocks_fit) (blocks, tt);
      };
    }

-- ---- the nodes of names

-- the first names have the kinds of the parameters
take_kinds : (kinds : Kinds) (ks params : List Kind) (args others : List NodeId) → take (length params) ks ≡ params → length args ≡ length params → HaveKinds kinds ks (args ++ others) → HaveKinds kinds params args
take_kinds kinds ks [] [] others e n h = tt
take_kinds kinds ks [] (a ∷ args) others e n h = absurd (cc n)
take_kinds kinds ks (p ∷ params) [] others e n h = absurd (cc n)
take_kinds kinds [] (p ∷ params) (a ∷ args) others e n h = absurd (cc e)
take_kinds kinds (k ∷ ks) (p ∷ params) (a ∷ args) others e n h =
    let first : k ≡ p = cc e in
    let rest : take (length params) ks ≡ params = cc e in
    let count : length args ≡ length params = cc n in
    (subst (λ (x : Kind). HasKind kinds x a) first h.0, take_kinds kinds ks params args others rest count h.1)

front_kinds : (kinds : Kinds) (ks params : List Kind) (names : List NodeId) (this : NodeId) (args others : List NodeId) → take (suc (length params)) ks ≡ Ptr ∷ params → names ≡ this ∷ (args ++ others) → length args ≡ length params → HaveKinds kinds ks names → HasKind kinds Ptr this × HaveKinds kinds params args
front_kinds kinds [] params names this args others e is n h = absurd (cc e)
front_kinds kinds (k ∷ ks) params names this args others e is n h =
    let first : k ≡ Ptr = cc e in
    let rest : take (length params) ks ≡ params = cc e in
    let all : HaveKinds kinds (k ∷ ks) (this ∷ (args ++ others)) = subst (HaveKinds kinds (k ∷ ks)) is h in
    (subst (λ (x : Kind). HasKind kinds x this) first all.0, take_kinds kinds ks params args others rest n all.1)

-- the node of a name has its kind
kind_at : (kinds : Kinds) (ks : List Kind) (names : List NodeId) (i : ℕ) (kind : Kind) → HaveKinds kinds ks names → slice_get ks i ≡ Some kind → HasKind kinds kind (node_of names i)
kind_at kinds [] names i kind h e = absurd (cc e)
kind_at kinds (k ∷ ks) [] i kind h e = absurd h
kind_at kinds (k ∷ ks) (n ∷ names) zero kind h e = let same : k ≡ kind = cc e in subst (λ (x : Kind). HasKind kinds x n) same h.0
kind_at kinds (k ∷ ks) (n ∷ names) (suc i) kind h e = kind_at kinds ks names i kind h.1 e

kinds_at : (kinds : Kinds) (ks : List Kind) (names : List NodeId) (args : List ℕ) (params : List Kind) → HaveKinds kinds ks names → map (slice_get ks) args ≡ map Some params → HaveKinds kinds params (map (node_of names) args)
kinds_at kinds ks names [] [] h e = tt
kinds_at kinds ks names [] (p ∷ params) h e = absurd (cc e)
kinds_at kinds ks names (a ∷ args) [] h e = absurd (cc e)
kinds_at kinds ks names (a ∷ args) (p ∷ params) h e =
    let first : slice_get ks a ≡ Some p = cc e in
    let rest : map (slice_get ks) args ≡ map Some params = cc e in
    (kind_at kinds ks names a p h first, kinds_at kinds ks names args params h rest)

-- a rule of definitions fits
rule_fits : (defs : List Def) (pred rule : ℕ) (def : Def) (by : Rule) → IsDefs defs → slice_get defs pred ≡ Some def → slice_get def.rules rule ≡ Some by → RuleFits defs def.params by
rule_fits defs pred rule def by fit defined listed =
    let d = All-contains (DefFits fit.0 defs) defs def fit.1 (among_to defs def (among_at defs pred def defined)) in
    let r = All-contains (RuleFitsStructs fit.0 defs def.params) def.rules by d.rules (among_to def.rules by (among_at def.rules rule by listed)) in
    r.fits

module _ (defs : List Def) (s : State) (fold : FoldInd) (calls : Rule → List Call) (m : Matches defs s fold calls) (fit : IsDefs defs) where
  front_fits : HasKind s.kinds Ptr m.this × ArgsFit defs s.kinds fold.pred m.args
  front_fits =
      let rule_is = rule_fits defs fold.pred.0 fold.rule m.def m.by fit m.defined m.listed in
      let both = front_kinds s.kinds m.by.names m.def.params fold.names m.this m.args m.others rule_is.names.front m.front m.count m.kinds in
      (both.0, (m.def, m.defined, both.1))

  call_fits : (place : ℕ) (call : Call) → slice_get m.by.calls place ≡ Some call → call.pred ≡ fold.pred → HasKind s.kinds Ptr (node_of fold.names call.at) × ArgsFit defs s.kinds fold.pred (map (node_of fold.names) call.args)
  call_fits place call called own =
      let rule_is = rule_fits defs fold.pred.0 fold.rule m.def m.by fit m.defined m.listed in
      let c = All-contains (CallFits defs m.by.names) m.by.calls call rule_is.calls (among_to m.by.calls call (among_at m.by.calls place call called)) in
      let defined : slice_get defs fold.pred.0 ≡ Some c.def = ap (λ (p : PredId). slice_get defs p.0) (sym own) ∙ c.defined in
      (kind_at s.kinds m.by.names fold.names call.at Ptr m.kinds c.pointer, (c.def, defined, kinds_at s.kinds m.by.names fold.names call.args c.def.params m.kinds c.args))

-- ---- the rules

pub fold_ind_made : LawOfFoldInd → FoldIndStaysMade
fold_ind_made law defs vars structs fold s next fit i w =
    let m = i.body in
    let new : Edge = Ind m.this fold.pred m.args in
    let f = front_fits defs s fold (λ r. r.calls) m fit in
    let bounded = subst (AllByRecursion IsBounded) i.gives (law defs fold s next w.bounded i).1 in
    rw i.gives (fold_made defs vars structs s (option_to_list fold.block ++ fold.edges) (m.blocks ++ m.inds) m.left new m.picks w f tt bounded.0, tt)

pub fold_seg_made : LawOfFoldSeg → FoldSegStaysMade
fold_seg_made law defs vars structs fold s next fit i w =
    let m = i.body in
    let stop : NodeId = node_of fold.names i.open_call.at in
    let ends : List NodeId = map (node_of fold.names) i.open_call.args in
    let new : Edge = Seg m.this m.args fold.pred stop ends in
    let f = front_fits defs s (as_ind fold) (λ r. remove r.calls fold.call) m fit in
    let g = call_fits defs s (as_ind fold) (λ r. remove r.calls fold.call) m fit fold.call i.open_call i.called i.own in
    let bounded = subst (AllByRecursion IsBounded) i.gives (law defs fold s next w.bounded i).1 in
    rw i.gives (fold_made defs vars structs s (fold.block ∷ fold.edges) (m.blocks ++ m.inds) m.left new m.picks w (f.0, f.1, g.0, g.1) tt bounded.0, tt)

pub close_seg_made : LawOfCloseSeg → CloseSegStaysMade
close_seg_made law defs vars structs first second s next i w =
    let f = edge_has (EdgeFitsDefs defs s.kinds) s.graph.edges first (Seg i.at i.args i.pred i.stop i.ends) w.fits_defs i.picks.0 in
    let bounded = subst (AllByRecursion IsBounded) i.gives (law defs first second s next w.bounded i).1 in
    rw i.gives (fold_made defs vars structs s (first ∷ second ∷ []) (Seg i.at i.args i.pred i.stop i.ends ∷ Ind i.from i.pred i.from_args ∷ []) i.left (Ind i.at i.pred i.args) i.picks w (f.0, f.1) tt bounded.0, tt)

pub join_segs_made : LawOfJoinSegs → JoinSegsStaysMade
join_segs_made law defs vars structs first second s next i w =
    let f = edge_has (EdgeFitsDefs defs s.kinds) s.graph.edges first (Seg i.at i.args i.pred i.stop i.ends) w.fits_defs i.picks.0 in
    let others = all_without (λ (e : EdgeId × Edge). EdgeFitsDefs defs s.kinds e.1) s.graph.edges first w.fits_defs in
    let g = edge_has (EdgeFitsDefs defs s.kinds) (without s.graph.edges first) second (Seg i.from i.from_args i.pred i.last i.last_args) others i.picks.1.0 in
    let bounded = subst (AllByRecursion IsBounded) i.gives (law defs first second s next w.bounded i).1 in
    rw i.gives (fold_made defs vars structs s (first ∷ second ∷ []) (Seg i.at i.args i.pred i.stop i.ends ∷ Seg i.from i.from_args i.pred i.last i.last_args ∷ []) i.left (Seg i.at i.args i.pred i.last i.last_args) i.picks w (f.0, f.1, g.2, g.3) tt bounded.0, tt)

pub empty_seg_made : LawOfEmptySeg → EmptySegStaysMade
empty_seg_made law defs vars structs pred at args stop ends s next i w =
    let bounded = subst (AllByRecursion IsBounded) i.gives (law defs pred at args stop ends s next w.bounded i).1 in
    rw i.gives (edge_made defs vars structs s (Seg at args pred stop ends) w (i.at_is, i.args_are, i.stop_is, i.ends_are) tt bounded.0, tt)

pub drop_made : LawOfDrop → DropStaysMade
drop_made law defs vars structs edge s next i w =
    let bounded = subst (AllByRecursion IsBounded) i.gives (law defs edge s next w.bounded i).1 in
    rw i.gives (
      record {
        bounded = bounded.0;
        atoms = w.atoms;
        fits_defs = all_without (λ (e : EdgeId × Edge). EdgeFitsDefs defs s.kinds e.1) s.graph.edges edge w.fits_defs;
        fits_program = record {
          vars_fit = w.fits_program.vars_fit;
          blocks_fit = all_without (λ (e : EdgeId × Edge). EdgeFitsStructs structs s.kinds e.1) s.graph.edges edge w.fits_program.blocks_fit;
        };
      },
      tt,
    )
