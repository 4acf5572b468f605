use Rattle.std.proofs.Common.{◌≡◌, List, Some, true, false, sym}
use Rattle.std.specs.Prelude.{is_some, option_map}
use Rattle.mc_check_line.specs.Judging.{path}
use Rattle.mc_kernel.specs.Branches.{Path}
use Rattle.mc_kernel.specs.Readings.{first_branch}
use Rattle.mc_follow.proofs.AlarmsLemmas.Followed.{current_at, goal_there, no_goal, none_open}
use Rattle.mc_follow.proofs.alarms.walk.Walk.next_act.Goals as goal

pub returns-then-is_some : goal.returns-then-is_some
returns-then-is_some c =
    let branch : Path = path c.in-Some.branch.now in
    let current : Some branch ≡ option_map (λ (d : Path × List Path). d.0) (first_branch c.args.self.now.proof.branches) = c.in-Some.ensures in
    let at = current_at c.args.self.now.proof branch current in
    let there : is_some branch.goal ≡ true = sym c.if-is_some.ensures in
    let own = goal_there branch.goal there in
    record { first = branch; others = at.0; branches_are = at.1; goal = own.0; side = own.1 }

pub returns-in-Some-false_or_null : goal.returns-in-Some-false_or_null
returns-in-Some-false_or_null c =
    let branch : Path = path c.in-Some.branch.now in
    let current : Some branch ≡ option_map (λ (d : Path × List Path). d.0) (first_branch c.args.self.now.proof.branches) = c.in-Some.ensures in
    let at = current_at c.args.self.now.proof branch current in
    let none : is_some branch.goal ≡ false = sym c.if-is_some.ensures in
    record {
      first = branch;
      others = at.0;
      branches_are = at.1;
      plain = no_goal branch.goal none;
      asked = λ know tells. sym (c.in-Some-false_or_null.ensures know tells);
    }

pub returns : goal.returns
returns c =
    let branch : Path = path c.in-Some.branch.now in
    let current : Some branch ≡ option_map (λ (d : Path × List Path). d.0) (first_branch c.args.self.now.proof.branches) = c.in-Some.ensures in
    let at = current_at c.args.self.now.proof branch current in
    let none : is_some branch.goal ≡ false = sym c.if-is_some.ensures in
    record {
      first = branch;
      others = at.0;
      branches_are = at.1;
      plain = no_goal branch.goal none;
      nothing_first = λ know tells. sym (c.in_default-false_or_null.ensures know tells);
    }

pub returns-in_default : goal.returns-in_default
returns-in_default c = none_open c.args.self.now.proof c.in_default.ensures
