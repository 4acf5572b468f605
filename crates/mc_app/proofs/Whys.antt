-- Causes, from those of the parts.
use Rattle.std.proofs.Common.{◌≡◌, ◌∙◌, List}
use Rattle.std.specs.Prelude.{None, MatchOption, Some, Option}
use Rattle.mc_c_syntax.specs.Ast.Trees.{UnitTree}
use Rattle.mc_flow.specs.declared.defs.rules.Def.{Def}
use Rattle.mc_load.specs.Inputs.Inputs.{Holds}
use Rattle.mc_outside.specs.Outside.{Stays}
use Rattle.mc_app.specs.declared.words.words.Check.{Check}
use Rattle.mc_app.specs.declared.words.words.Run.{Run}
use Rattle.mc_app.specs.declared.checking.Checked.{Checked}
use Rattle.mc_app.specs.declared.checking.Checked.TheVariants.{TooLong, Judged}
use Rattle.mc_app.specs.declared.running.Ran.{Ran}
use Rattle.mc_app.specs.declared.running.Ran.TheVariants.{TooBig, To}
use Rattle.mc_app.specs.Checks.{IsWhyChecked}
use Rattle.mc_app.specs.Runs.{IsWhyRan}

-- what files hold has stayed
pub stay_checked : (old new : Holds) (c : Check) (unit : UnitTree) (defs : List Def) (found : Checked) → Stays old new → IsWhyChecked new c unit defs found → IsWhyChecked old c unit defs found
stay_checked old new c unit defs TooLong stays why = why
stay_checked old new c unit defs (Judged v) stays why = record {
  flow = why.flow;
  graph = why.graph;
  valid = why.valid;
  short = why.short;
  told = λ document k. why.told document (stays c.document.now ∙ k);
}

pub stay_ran : (old new : Holds) (r : Run) (unit : UnitTree) (defs : List Def) (found : Ran) → Stays old new → IsWhyRan new r unit defs found → IsWhyRan old r unit defs found
stay_ran old new r unit defs TooBig stays why = λ script h. why script (stays r.script.now ∙ h)
stay_ran old new r unit defs (To ending) stays why = λ script h. why script (stays r.script.now ∙ h)

pub at_none : {X : Type 0} (o : Option X) (P : Type 0) (Q : X → Type 0) → o ≡ None → MatchOption o P Q → P
at_none None P Q e m = m
at_none (Some x) P Q e m = cc
