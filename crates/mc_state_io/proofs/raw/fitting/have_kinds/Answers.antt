use Rattle.std.proofs.Common.{◌≡◌, ◌<◌, length, true, false, refl, arith}
use Rattle.mc_base.specs.declared.plain.Kind.TheVariants.{Int}
use Rattle.mc_base.specs.Nodes.{null}
use Rattle.mc_state_io.proofs.RawLemmas.Items.{have_long, have_before, have_at, have_end}
use Rattle.mc_state_io.proofs.raw.fitting.have_kinds.Goals as goal

pub returns-then-kinds-nodes : goal.returns-then-kinds-nodes
returns-then-kinds-nodes c = (
  λ t. let w : false ≡ true = t in absurd (cc w),
  λ h. let s = have_long c.args.state.now.kinds c.args.kinds.now c.args.nodes.now h in absurd (omega arith),
)

pub returns-then-not-has_kind : goal.returns-then-not-has_kind
returns-then-not-has_kind c =
    let v = c.loop-i.invariant in
    let l = v.lengths in
    let m : c.loop-i.i < length c.args.kinds.now = omega arith in
    let n : c.loop-i.i < length c.args.nodes.now = omega arith in (
      λ t. let w : false ≡ true = t in absurd (cc w),
      λ h. let w = c.if-not-has_kind.ensures.1 (have_at c.args.state.now.kinds c.args.kinds.now c.args.nodes.now c.loop-i.i _ _ m n (v.back h)).0 in absurd (cc w),
    )

pub loop-i-preserved : goal.loop-i-preserved
loop-i-preserved c =
    let v = c.loop-i.invariant in
    let l = v.lengths in
    let m : c.loop-i.i < length c.args.kinds.now = omega arith in
    let n : c.loop-i.i < length c.args.nodes.now = omega arith in
    record {
      lengths = v.lengths;
      forth = λ h. v.forth (have_before c.args.state.now.kinds c.args.kinds.now c.args.nodes.now c.loop-i.i _ _ m n (c.if-not-has_kind.ensures.0 refl) h);
      back = λ h. (have_at c.args.state.now.kinds c.args.kinds.now c.args.nodes.now c.loop-i.i Int null m n (v.back h)).1;
    }

pub returns : goal.returns
returns c = (λ t. c.loop-i.invariant.forth (have_end c.args.state.now.kinds c.args.kinds.now c.args.nodes.now c.loop-i.i c.loop-i.invariant.lengths (omega arith)), λ h. refl)
