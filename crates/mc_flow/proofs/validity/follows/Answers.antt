use Rattle.std.proofs.Common.{◌≡◌, All, Option, Some, None, List, [], ◌++◌, sym}
use Rattle.std.specs.Prelude.{option_to_list}
use Rattle.std.proofs.lemmas.List.Elements.{All-same, All-append, All-nil, All-cons, All-head, All-tail}
use Rattle.mc_base.specs.declared.ids.PointId.{PointId}
use Rattle.mc_flow.specs.Valid.{GoesOn, targets}
use Rattle.mc_flow.proofs.validity.follows.Goals as goal

module _ (P : PointId → Type 0) where
  first : (o : Option PointId) (qs : List PointId) → All P (option_to_list o ++ qs) → All P (option_to_list o)
  first None qs all = All-nil P
  first (Some q) qs all = All-cons P q [] (All-head P q qs all) (All-nil P)

  others : (o : Option PointId) (qs : List PointId) → All P (option_to_list o ++ qs) → All P qs
  others None qs all = all
  others (Some q) qs all = All-tail P q qs all

pub returns-then-may_follow : goal.returns-then-may_follow
returns-then-may_follow c =
    let P : PointId → Type 0 = GoesOn c.args.flow.now c.args.at in
    let one = c.targets-next.result.0 in
    let two = option_to_list c.targets-next.result.1 in
    let qs = targets c.args.code.now in
    let is : option_to_list one ++ two ≡ qs = c.targets-next.ensures.listed in (
      λ t. All-same P qs (option_to_list one ++ two) (sym is) (All-append P (option_to_list one) two (c.may_follow.ensures.0 c.if-may_follow.true) (c.may_follow-then-may_follow.ensures.0 t)),
      λ all. c.may_follow-then-may_follow.ensures.1 (others P one two (All-same P (option_to_list one ++ two) qs is all)),
    )

pub returns-else-may_follow : goal.returns-else-may_follow
returns-else-may_follow c =
    let P : PointId → Type 0 = GoesOn c.args.flow.now c.args.at in
    let one = c.targets-next.result.0 in
    let two = option_to_list c.targets-next.result.1 in
    let qs = targets c.args.code.now in
    let is : option_to_list one ++ two ≡ qs = c.targets-next.ensures.listed in (
      λ t. absurd (cc (t, c.if-may_follow.false)),
      λ all. c.may_follow.ensures.1 (first P one two (All-same P (option_to_list one ++ two) qs is all)),
    )
