-- A rule gives one list of successors at most.
use Rattle.std.proofs.Common.{◌≡◌, Some, List, [], ◌∷◌, ◌++◌, length, map, slice_get, sym, ◌∙◌, ap, ap₂}
use Rattle.std.specs.Prelude.{option_to_list, remove}
use Rattle.mc_base.specs.declared.ids.EdgeId.{EdgeId}
use Rattle.mc_flow.specs.declared.defs.rules.Call.{Call}
use Rattle.mc_flow.specs.declared.defs.rules.Def.{Def}
use Rattle.mc_flow.specs.declared.defs.rules.Rule.{Rule}
use Rattle.mc_flow.specs.Defs.Instances.{node_of}
use Rattle.mc_state.specs.declared.graph.edge.Edge.{Edge}
use Rattle.mc_state.specs.declared.graph.edge.Edge.TheVariants.{Ind, Seg}
use Rattle.mc_state.specs.Graph.Graph.{Edges, Picks, without}
use Rattle.mc_state.specs.declared.line.FoldInd.{FoldInd}
use Rattle.mc_state.specs.State.{State}
use Rattle.mc_rules_logic.specs.Fold.Folded.{as_ind, folded, Matches}
use Rattle.mc_rules_logic.specs.Fold.Laws.{FoldIndIsDetermined, FoldSegIsDetermined, CloseSegIsDetermined, JoinSegsIsDetermined, EmptySegIsDetermined, SpareIsDetermined, MergeIsDetermined, DropIsDetermined}
use Rattle.mc_rules_logic.proofs.FoldLemmas.Lists.{same_front}

-- the edges that ids name, and those that are left
picks_one : (ids : List EdgeId) (es : Edges) (picked others : List Edge) (left more : Edges) → Picks ids es picked left → Picks ids es others more → (picked ≡ others) × (left ≡ more)
picks_one [] es picked others left more p q = (p.0 ∙ sym q.0, p.1 ∙ sym q.1)
picks_one (id ∷ ids) es [] others left more p q = absurd p
picks_one (id ∷ ids) es (e ∷ picked) [] left more p q = absurd q
picks_one (id ∷ ids) es (e ∷ picked) (f ∷ others) left more p q =
    let first : e ≡ f = cc (p.0, q.0) in
    let rest = picks_one ids (without es id) picked others left more p.1 q.1 in
    (ap₂ (λ x xs. x ∷ xs) first rest.0, rest.1)

-- the state with one edge for others is determined by those and the edge
folded_one : (s : State) (left more : Edges) (new other : Edge) (next after : List State) → next ≡ folded s left new ∷ [] → after ≡ folded s more other ∷ [] → left ≡ more → new ≡ other → next ≡ after
folded_one s left more new other next after i j same edges =
    i ∙ ap (λ es. folded s es new ∷ []) same ∙ ap (λ e. folded s more e ∷ []) edges ∙ sym j

module _ (defs : List Def) (s : State) (fold : FoldInd) (calls : Rule → List Call) (m n : Matches defs s fold calls) where
  one_left : m.left ≡ n.left
  one_left = (picks_one (option_to_list fold.block ++ fold.edges) s.graph.edges (m.blocks ++ m.inds) (n.blocks ++ n.inds) m.left n.left m.picks n.picks).1

  one_def : m.def ≡ n.def
  one_def = cc (m.defined, n.defined)

  one_rule : m.by ≡ n.by
  one_rule =
      let other : slice_get n.def.rules fold.rule ≡ Some m.by = ap (λ d. slice_get d.rules fold.rule) (sym one_def) ∙ m.listed in
      cc (other, n.listed)

  one_start : m.this ≡ n.this
  one_start = let same : m.this ∷ (m.args ++ m.others) ≡ n.this ∷ (n.args ++ n.others) = sym m.front ∙ n.front in cc same

  one_args : m.args ≡ n.args
  one_args =
      let same : m.this ∷ (m.args ++ m.others) ≡ n.this ∷ (n.args ++ n.others) = sym m.front ∙ n.front in
      let rest : m.args ++ m.others ≡ n.args ++ n.others = cc same in
      let count : length m.args ≡ length n.args = m.count ∙ ap (λ d. length d.params) one_def ∙ sym n.count in
      same_front m.args n.args m.others n.others count rest

pub fold_ind_determined : FoldIndIsDetermined
fold_ind_determined defs fold s next other i j =
    let calls : Rule → List Call = λ r. r.calls in
    let start = one_start defs s fold calls i.body j.body in
    let args = one_args defs s fold calls i.body j.body in
    folded_one s i.body.left j.body.left (Ind i.body.this fold.pred i.body.args) (Ind j.body.this fold.pred j.body.args) next other i.gives j.gives (one_left defs s fold calls i.body j.body)
    (ap₂ (λ n ns. Ind n fold.pred ns) start args)

pub fold_seg_determined : FoldSegIsDetermined
fold_seg_determined defs fold s next other i j =
    let calls : Rule → List Call = λ r. remove r.calls fold.call in
    let start = one_start defs s (as_ind fold) calls i.body j.body in
    let args = one_args defs s (as_ind fold) calls i.body j.body in
    let by = one_rule defs s (as_ind fold) calls i.body j.body in
    let there : slice_get j.body.by.calls fold.call ≡ Some i.open_call = ap (λ r. slice_get r.calls fold.call) (sym by) ∙ i.called in
    let same : i.open_call ≡ j.open_call = cc (there, j.called) in
    folded_one s i.body.left j.body.left (Seg i.body.this i.body.args fold.pred (node_of fold.names i.open_call.at) (map (node_of fold.names) i.open_call.args))
    (Seg j.body.this j.body.args fold.pred (node_of fold.names j.open_call.at) (map (node_of fold.names) j.open_call.args)) next other i.gives j.gives (one_left defs s (as_ind fold) calls i.body j.body)
    (ap₂ (λ n ns. Seg n ns fold.pred (node_of fold.names i.open_call.at) (map (node_of fold.names) i.open_call.args)) start args
    ∙ ap (λ c. Seg j.body.this j.body.args fold.pred (node_of fold.names c.at) (map (node_of fold.names) c.args)) same)

pub close_seg_determined : CloseSegIsDetermined
close_seg_determined first second s next other i j =
    let both = picks_one (first ∷ second ∷ []) s.graph.edges (Seg i.at i.args i.pred i.stop i.ends ∷ Ind i.from i.pred i.from_args ∷ []) (Seg j.at j.args j.pred j.stop j.ends ∷ Ind j.from j.pred j.from_args ∷ []) i.left j.left i.picks j.picks in
    let same : ◌≡◌ {A = Edge} (Seg i.at i.args i.pred i.stop i.ends) (Seg j.at j.args j.pred j.stop j.ends) = cc (both.0) in
    let at : i.at ≡ j.at = cc same in
    let args : i.args ≡ j.args = cc same in
    let pred : i.pred ≡ j.pred = cc same in
    folded_one s i.left j.left (Ind i.at i.pred i.args) (Ind j.at j.pred j.args) next other i.gives j.gives both.1 (cc (at, args, pred))

pub join_segs_determined : JoinSegsIsDetermined
join_segs_determined first second s next other i j =
    let both = picks_one (first ∷ second ∷ []) s.graph.edges (Seg i.at i.args i.pred i.stop i.ends ∷ Seg i.from i.from_args i.pred i.last i.last_args ∷ []) (Seg j.at j.args j.pred j.stop j.ends ∷ Seg j.from j.from_args j.pred j.last j.last_args ∷ []) i.left j.left i.picks j.picks in
    let one : ◌≡◌ {A = Edge} (Seg i.at i.args i.pred i.stop i.ends) (Seg j.at j.args j.pred j.stop j.ends) = cc in
    let two : ◌≡◌ {A = Edge} (Seg i.from i.from_args i.pred i.last i.last_args) (Seg j.from j.from_args j.pred j.last j.last_args) = cc in
    let at : i.at ≡ j.at = cc one in
    let args : i.args ≡ j.args = cc one in
    let pred : i.pred ≡ j.pred = cc one in
    let last : i.last ≡ j.last = cc two in
    let last_args : i.last_args ≡ j.last_args = cc two in
    folded_one s i.left j.left (Seg i.at i.args i.pred i.last i.last_args) (Seg j.at j.args j.pred j.last j.last_args) next other i.gives j.gives both.1 (cc (at, args, pred, last, last_args))

pub empty_seg_determined : EmptySegIsDetermined
empty_seg_determined defs pred at args stop ends s next other i j = i.gives ∙ sym j.gives

pub spare_determined : SpareIsDetermined
spare_determined node add kind s next other i j = i.gives ∙ sym j.gives

pub merge_determined : MergeIsDetermined
merge_determined keep gone s next other i j = i.gives ∙ sym j.gives

pub drop_determined : DropIsDetermined
drop_determined edge s next other i j = i.gives ∙ sym j.gives
