use Rattle.std.proofs.Common.{◌≡◌, ◌<◌, length, true, false, refl, arith}
use Rattle.mc_base.specs.declared.plain.VarInfo.{VarInfo}
use Rattle.mc_state_io.proofs.RawLemmas.Items.{may_long, may_before, may_at, may_rest, may_end}
use Rattle.mc_state_io.proofs.raw.fitting.all_vars_fit.Goals as goal

pub returns-then-vars-nodes : goal.returns-then-vars-nodes
returns-then-vars-nodes c = (
  λ t. let w : false ≡ true = t in absurd (cc w),
  λ h. let s = may_long c.args.state.now.kinds (λ (x : VarInfo). x.kind) c.args.vars.now c.args.nodes.now h in absurd (omega arith),
)

pub returns-then-not-may_have_kind : goal.returns-then-not-may_have_kind
returns-then-not-may_have_kind c =
    let v = c.loop-i.invariant in
    let l = v.lengths in
    let m : c.loop-i.i < length c.args.vars.now = omega arith in
    let n : c.loop-i.i < length c.args.nodes.now = omega arith in (
      λ t. let w : false ≡ true = t in absurd (cc w),
      λ h. let w = c.if-not-may_have_kind.ensures.1 (may_at c.args.state.now.kinds (λ (x : VarInfo). x.kind) c.args.vars.now c.args.nodes.now c.loop-i.i _ _ m n (v.back h)).0 in absurd (cc w),
    )

pub loop-i-preserved : goal.loop-i-preserved
loop-i-preserved c =
    let v = c.loop-i.invariant in
    let l = v.lengths in
    let m : c.loop-i.i < length c.args.vars.now = omega arith in
    let n : c.loop-i.i < length c.args.nodes.now = omega arith in
    record {
      lengths = v.lengths;
      forth = λ h. v.forth (may_before c.args.state.now.kinds (λ (x : VarInfo). x.kind) c.args.vars.now c.args.nodes.now c.loop-i.i _ _ m n (c.if-not-may_have_kind.ensures.0 refl) h);
      back = λ h. may_rest c.args.state.now.kinds (λ (x : VarInfo). x.kind) c.args.vars.now c.args.nodes.now c.loop-i.i m n (v.back h);
    }

pub returns : goal.returns
returns c = (λ t. c.loop-i.invariant.forth (may_end c.args.state.now.kinds (λ (x : VarInfo). x.kind) c.args.vars.now c.args.nodes.now c.loop-i.i c.loop-i.invariant.lengths (omega arith)), λ h. refl)
