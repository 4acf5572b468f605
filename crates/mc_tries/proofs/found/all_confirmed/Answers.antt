use Rattle.std.proofs.Common.{List, Option, All, IfSome, sym, subst, Vec, Global}
use Rattle.std.proofs.lemmas.List.Elements.{All-push}
use Rattle.mc_c_syntax.specs.Ast.Views.{unit_of}
use Rattle.mc_tries.specs.declared.found.Found.{Found}
use Rattle.mc_tries.specs.Found.{IsFound}
use Rattle.mc_tries.proofs.found.all_confirmed.Goals as goal
use Rattle.mc_tries.proofs.found.all_confirmed.Goals.{in-Some+in_ok-push, in_default}

pub loop-candidate-preserved : goal.loop-candidate-preserved
loop-candidate-preserved c =
    let IsGood : Found → Type 0 = IsFound c.args.bound.now.typed.entry (unit_of c.args.bound.now.typed.unit) c.args.bound.now.defs in
    elim c.match-branch-2.branch [
      | in-Some+in_ok-push w ↦ subst (λ (v : Vec Found Global). All IsGood v.items) (sym w.list-is)
          (subst (λ (xs : List Found). All IsGood xs) (sym w.in_ok-push.ensures.items)
          (All-push IsGood c.loop-candidate.list.items _ c.loop-candidate.invariant
          (subst (λ (f : Option Found). IfSome f IsGood) w.in-Some.is c.in_ok-found.ensures)))
      | in_default w ↦ subst (λ (v : Vec Found Global). All IsGood v.items) (sym w.list-is) c.loop-candidate.invariant
    ]
