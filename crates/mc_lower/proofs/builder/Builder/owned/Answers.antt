use Rattle.std.proofs.Common.{subst}
use Rattle.mc_lower.specs.Owned.{IsFirst}
use Rattle.mc_lower.proofs.Having.{none_owned}
use Rattle.mc_lower.proofs.Owning.{owned_there}
use Rattle.mc_lower.proofs.builder.Builder.owned.Goals as goal

pub returns-in-Some-clause-made : goal.returns-in-Some-clause-made
returns-in-Some-clause-made c = λ w agrees.
    let old = c.args.self.now in
    let first = subst (λ r. IsFirst old.variables.list.items c.args.owner r) c.in-Some.is (subst (λ l. IsFirst l c.args.owner c.find.result) c.as_slice.ensures.value c.find.ensures) in
    owned_there w old c.args.owner c.in-Some.number first agrees

pub returns-in-None-clause-none : goal.returns-in-None-clause-none
returns-in-None-clause-none c = λ same.
    let old = c.args.self.now in
    let first = subst (λ r. IsFirst old.variables.list.items c.args.owner r) c.in-None.is (subst (λ l. IsFirst l c.args.owner c.find.result) c.as_slice.ensures.value c.find.ensures) in
    none_owned old.variables.list.items c.args.owner first

pub returns-in-None-clause-new : goal.returns-in-None-clause-new
returns-in-None-clause-new c = λ same.
    let old = c.args.self.now in
    subst (λ r. IsFirst old.variables.list.items c.args.owner r) c.in-None.is (subst (λ l. IsFirst l c.args.owner c.find.result) c.as_slice.ensures.value c.find.ensures)
