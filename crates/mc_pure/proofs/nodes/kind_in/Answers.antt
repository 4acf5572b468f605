use Rattle.std.proofs.Common.{◌≡◌, ℕ, Some, None, slice_get, sym, subst, arith}
use Rattle.mc_base.specs.declared.ids.NodeId.{NodeId}
use Rattle.mc_base.specs.Nodes.{null}
use Rattle.mc_pure.specs.Pure.{Kinds, kind_of}
use Rattle.mc_pure.specs.Rows.{nodes_of}
use Rattle.mc_pure.specs.Nodes.{RiseFrom}
use Rattle.mc_pure.proofs.Placing.{null_kind, kind_is}
use Rattle.mc_pure.proofs.nodes.kind_in.Goals as goal

none : (kinds : Kinds) (place : ℕ) (n : NodeId) → place ≡ 0 → RiseFrom 1 kinds → slice_get (nodes_of kinds) place ≡ Some n → None ≡ kind_of kinds n
none kinds place n z r e =
    let f : slice_get (nodes_of kinds) 0 ≡ Some n = subst (λ (w : ℕ). slice_get (nodes_of kinds) w ≡ Some n) z e in
    let s : null ≡ n = cc in
    subst (λ (w : NodeId). None ≡ kind_of kinds w) s (sym (null_kind 1 kinds (omega arith) r))

pub returns-then-place-eq0 : goal.returns-then-place-eq0
returns-then-place-eq0 c = λ n r e. none c.args.kinds.now c.args.place n c.if-place-eq0.true r e

pub returns : goal.returns
returns c = λ n r e. let x = c.requires in let y = c.if-place-eq0.false in kind_is c.args.kinds.now c.args.place n _ r y (omega arith) e
