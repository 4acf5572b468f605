use Rattle.std.proofs.Common.{◌≡◌, ◌∙◌, List, ap, ap₂}
use Rattle.std.specs.Prelude.{option_map}
use Rattle.mc_base.specs.declared.ids.EdgeId.{EdgeId}
use Rattle.mc_state.specs.State.{State}
use Rattle.mc_state.specs.Terms.{plain}
use Rattle.mc_state.specs.declared.terms.Term.{Term}
use Rattle.mc_cover.specs.First.{first_seg_cover}
use Rattle.mc_cover.specs.Search.Setting.{free_edges}
use Rattle.mc_joins.specs.Joinings.{Half, half, of_side}
use Rattle.mc_replay.specs.Covers.{edges_of}
use Rattle.mc_replay.specs.Folds.{seg_with, seg_fold_with}
use Rattle.mc_replay.specs.Joined.{seen, seen_half}
use Rattle.mc_replay.proofs.FoldLemmas.{tells_at, tells_same, found_by, same_stop}
use Rattle.mc_replay.proofs.folds.seg_fold.Goals as goal

pub seg_edges-requires : goal.seg_edges-requires
seg_edges-requires c = (c.half-half.ensures.good c.requires).consistent

pub returns : goal.returns
returns c = λ w same t.
    let h = c.half-half.result.now in
    let s = h.state in
    let j = seen c.args.join.now in
    let p = c.args.pair.now in
    let pred = c.args.pred in
    let last = c.args.end in
    let defs = c.args.defs.now in
    let at = c.of_side-at.result in
    let args = c.in_ok-args.args.items in
    let ends = c.args.ends.items in
    let es = free_edges s c.as_slice-2.result.now in
    let state : s ≡ (half j c.args.side).state = ap (λ (z : Half). z.state) c.half-half.ensures.is in
    c.seg_with.ensures
    ∙ (found_by w j c.args.side p (λ know ds n es. first_seg_cover know ds pred n args (plain last) ends es) (seg_with args last ends)
    (option_map (λ ids. ids.items) c.in_ok-used.used) s defs at es
    state same c.of_side-at.ensures (ap₂ (λ (z : State) (ids : List EdgeId). free_edges z ids) state c.as_slice-2.ensures.value ∙ c.in_ok-blocked.ensures)
    (c.in_ok-used.ensures (w.know s) (tells_at w s (half j c.args.side).state state t)
    ∙ ap₂ (λ (ts us : List Term). edges_of (first_seg_cover (w.know s) defs pred (plain at) ts (plain last) us es))
    c.as_slice-3.ensures.value c.as_slice-4.ensures.value)
    ∙ ap (λ (ts : List Term). seg_fold_with w j c.args.side p pred ts last ends)
    (c.in_ok-args.ensures w same (tells_same w s (half j c.args.side).state state t)
    ∙ same_stop w pred last (seen_half h) (half j c.args.side) at (of_side c.args.side p) c.as_slice.result.now ends
    c.half-half.ensures.is c.of_side-at.ensures c.as_slice.ensures.value))
