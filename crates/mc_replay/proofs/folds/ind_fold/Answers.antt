use Rattle.std.proofs.Common.{◌≡◌, ◌∙◌, List, ap, ap₂}
use Rattle.std.specs.Prelude.{option_map}
use Rattle.mc_base.specs.declared.ids.EdgeId.{EdgeId}
use Rattle.mc_state.specs.State.{State}
use Rattle.mc_state.specs.Terms.{plain}
use Rattle.mc_state.specs.declared.terms.Term.{Term}
use Rattle.mc_cover.specs.First.{first_cover}
use Rattle.mc_cover.specs.Search.Setting.{free_edges}
use Rattle.mc_joins.specs.Joinings.{Half, half}
use Rattle.mc_replay.specs.Covers.{edges_of}
use Rattle.mc_replay.specs.Folds.{ind_with}
use Rattle.mc_replay.specs.Joined.{seen}
use Rattle.mc_replay.proofs.FoldLemmas.{tells_at, found_by}
use Rattle.mc_replay.proofs.folds.ind_fold.Goals as goal

pub cover_edges-requires : goal.cover_edges-requires
cover_edges-requires c = (c.half-half.ensures.good c.requires).consistent

pub returns : goal.returns
returns c = λ w same t.
    let s = c.half-half.result.now.state in
    let j = seen c.args.join.now in
    let defs = c.args.defs.now in
    let at = c.of_side.result in
    let args = c.args.args.items in
    let es = free_edges s c.as_slice.result.now in
    let state : s ≡ (half j c.args.side).state = ap (λ (z : Half). z.state) c.half-half.ensures.is in
    c.ind_with.ensures
    ∙ found_by w j c.args.side c.args.pair.now (λ know ds at es. first_cover know ds c.args.pred at args es) (ind_with args)
    (option_map (λ ids. ids.items) c.in_ok-used.used) s defs at es
    state same c.of_side.ensures (ap₂ (λ (z : State) (ids : List EdgeId). free_edges z ids) state c.as_slice.ensures.value ∙ c.in_ok-blocked.ensures)
    (c.in_ok-used.ensures (w.know s) (tells_at w s (half j c.args.side).state state t)
    ∙ ap (λ (z : List Term). edges_of (first_cover (w.know s) defs c.args.pred (plain at) z es)) c.as_slice-2.ensures.value)
