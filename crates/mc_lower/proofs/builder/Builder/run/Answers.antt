use Rattle.mc_lower.specs.Knowns.{known}
use Rattle.mc_lower.specs.Ready.{Ready}
use Rattle.std.proofs.Common.{◌∙◌}
use Rattle.std.proofs.Common.{refl, sym, subst}
use Rattle.mc_lower.specs.Left.{Rest}
use Rattle.mc_lower.specs.Worlds.{stage_of}
use Rattle.mc_lower.proofs.builder.Builder.run.Goals as goal

pub tasks-init : goal.tasks-init
tasks-init c =
    record {
      leads =
          λ w u agrees rest. (agrees, rest);
      source = refl;
      ready = c.requires;
    }

pub tasks-preserved : goal.tasks-preserved
tasks-preserved c =
    record {
      leads =
          λ w u agrees rest.
          let e = c.in_ok-step-in-Some.ensures.leads w u agrees rest in
          c.tasks.invariant.leads w u e.0 (subst (λ l. Rest w l (stage_of w c.tasks.self) u) (sym c.in-Some.ensures) e.1);
      source = c.in_ok-step-in-Some.ensures.source ∙ c.tasks.invariant.source;
      ready = c.in_ok-step-in-Some.ensures.ready;
    }

pub returns-in-None-clause-leads : goal.returns-in-None-clause-leads
returns-in-None-clause-leads c = λ w agrees.
    let s = stage_of w c.tasks.self in
    c.tasks.invariant.leads w s agrees (subst (λ l. Rest w l s s) (sym c.in-None.ensures.0) refl)

pub returns-in-None-clause-entered : goal.returns-in-None-clause-entered
returns-in-None-clause-entered c =
    subst (λ l. Ready (known c.tasks.self) l) c.in-None.ensures.0 c.tasks.invariant.ready

pub step-requires : goal.step-requires
step-requires c =
    subst (λ l. Ready (known c.tasks.self) l) c.in-Some.ensures c.tasks.invariant.ready
