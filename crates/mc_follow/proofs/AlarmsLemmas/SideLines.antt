-- Lines of side branches.
use Rattle.std.proofs.Common.{◌≡◌, ◌<◌, ◌≤◌, ◌∙◌, ◌++◌, ◌∷◌, ◌+◌, ℕ, zero, suc, pos, Bool, true, false, not, List, [], Option, Some, None, get_or, length, map, reverse, slice_get, take, option_map, refl, sym, ap, subst, arith}
use Rattle.std.specs.Prelude.{Err, MatchOption, Ok, OnOk, Result}
use Rattle.std.proofs.lemmas.List.{reverse-append, take_more, take_all}
use Rattle.mc_base.specs.declared.ids.EdgeId.{EdgeId}
use Rattle.mc_base.specs.declared.ids.NodeId.{NodeId}
use Rattle.mc_base.specs.declared.plain.Kind.{Kind}
use Rattle.mc_base.specs.declared.plain.Kind.TheVariants.{Ptr}
use Rattle.mc_base.specs.Nodes.{null}
use Rattle.mc_lines.specs.declared.cert.line.Line.{Line}
use Rattle.mc_lines.specs.declared.cert.line.Line.TheVariants.{L3, L5, L8, L11, L12, L14}
use Rattle.mc_cover.specs.declared.goals.Mark.TheVariants.{AtEnd, ByCall, ByInd, BySeg, ByRule}
use Rattle.mc_cover.specs.First.{first_cover}
use Rattle.mc_cover.specs.Laws.{NoFirstNoCover}
use Rattle.mc_flow.specs.declared.defs.rules.Def.{Def}
use Rattle.mc_flow.specs.declared.defs.rules.Rule.{Rule}
use Rattle.mc_follow.specs.declared.ending.met.Met.{Met}
use Rattle.mc_follow.specs.Ending.Ending.{AreNamed, IsGrown, IsNamed}
use Rattle.mc_follow.specs.Ending.Making.{Opened, setting_in}
use Rattle.mc_follow.specs.Ending.Steps.{AllMayBeNamed, AreOpened, Gives, GoalsAreMade, IsNamedOn, IsTask, Makes, MakesNext, MayBeNamed, Task, asked_for}
use Rattle.mc_flow.specs.declared.graph.Flow.{Flow}
use Rattle.mc_rules_logic.specs.Fold.Changed.{ForgetsNode, NamesSpare}
use Rattle.mc_rules_logic.specs.Fold.Folded.{ClosesSeg, FoldsInd, ind_fold}
use Rattle.mc_rules_logic.specs.Fold.Goals.{MeetsGoal}
use Rattle.mc_kernel.specs.Branches.{IsPlain, Path, closes_by, with_state}
use Rattle.mc_kernel.specs.Instances.{EndsFalse, EndsSide, GoalNamesNot, IsInstance}
use Rattle.mc_kernel.specs.Readings.{first_branch}
use Rattle.mc_state.specs.Known.{Test, Tells}
use Rattle.mc_document.specs.Proof.Lines.{setting_at}
use Rattle.mc_document.specs.Proof.Positions.{Position}
use Rattle.mc_state.specs.declared.goal.Goal.{Goal}
use Rattle.mc_state.specs.declared.terms.Term.{Term}
use Rattle.mc_state.specs.Facts.{IsFalse}
use Rattle.mc_state.specs.Fits.{IsBounded, IsWellMade}
use Rattle.mc_state.specs.State.{State, next_node}
use Rattle.mc_state.specs.Terms.{plain}
use Rattle.mc_exact.specs.Exact.{Picks}
use Rattle.mc_follow.specs.Alarms.Laws.{DocumentsAreFollowed}
use Rattle.mc_follow.specs.Alarms.Sides.{AreMarksMet, AreMetsOf, AreToName, GoesOn, HasMet, HasName, HaveNames, IsAtGoal, IsAtMark, IsAtMarks, IsBegun, IsDone, IsKnownWritten, IsLastEdge, IsMarkMet, IsNamedSide, IsNextNode, IsSide, IsSound, IsToName, IsUnderway, IsWrong, MayName, MayNameAll, PushesLast, TellsFalse, TellsSound}
use Rattle.mc_document.specs.Places.{may_stand_aside}
use Rattle.mc_follow.specs.Alarms.Walks.{AreOpen, IsAtCovered, IsCovered, IsFirstGone, IsFollowed, IsSure, IsTurned, goes_on}
use Rattle.mc_follow.proofs.AlarmsLemmas.Followed.{current_at, current_is, goes_away, told}
use Rattle.mc_follow.proofs.AlarmsLemmas.Going.{aside_stands}

-- ---- the first branch

-- its goal and its state
pub side_is : (p : Position) (c : Path) (goal : Goal) (s : State) (others : List Path) → Some c ≡ option_map (λ (d : Path × List Path). d.0) (first_branch p.branches) → IsSide p goal s others
    → (c.goal ≡ Some goal) × (c.state ≡ s)
side_is p c goal s others e side =
    let same : c ≡ side.first = current_is p c side.first others side.branches_are e in
    (ap (λ (b : Path). b.goal) same ∙ side.goal_is, ap (λ (b : Path). b.state) same ∙ side.state_is)

-- it is there
pub side_there : (p : Position) (goal : Goal) (s : State) (others : List Path) → None ≡ option_map (λ (d : Path × List Path). d.0) (first_branch p.branches) → IsSide p goal s others → ⊥
side_there p goal s others e side =
    let two : None ≡ Some side.first = e ∙ ap (λ (bs : List Path). option_map (λ (d : Path × List Path). d.0) (first_branch bs)) side.branches_are in cc two

not_plain : (b : Path) (goal : Goal) → b.goal ≡ Some goal → IsPlain b → ⊥
not_plain b goal is none = let two : Some goal ≡ None = sym is ∙ none in cc two

same_first : (b c : Path) (bs cs : List Path) → ◌≡◌ {A = List Path} (b ∷ bs) (c ∷ cs) → (b ≡ c) × (bs ≡ cs)
same_first b c bs cs e = (cc e, cc e)

-- it is a side branch with its own goal and state
pub own_side : (p : Position) (c : Path) (goal : Goal) → Some c ≡ option_map (λ (d : Path × List Path). d.0) (first_branch p.branches) → c.goal ≡ Some goal → (others : List Path) × IsSide p goal c.state others
own_side p c goal e is = let at = current_at p c e in (at.0, record { first = c; branches_are = at.1; goal_is = is; state_is = refl })

-- where its state is not false, it goes on
pub goes : (flow : Flow) (defs : List Def) (w : Task) (others : List Path) (p : Position) (front : List Met) (ids : List EdgeId) (s : State) (on : Bool) → IsSide p w.goal s others
    → IsTask flow.structs.list defs flow.vars w → TellsSound p on → Makes defs w s front ids → GoesOn flow defs w others p front ids on
goes flow defs w others p front ids s true side task sound makes = record { state = s; side = side; task = task; consistent = (sound w.goal s others side).0 refl; makes = makes }
goes flow defs w others p front ids s false side task sound makes = record { goal = w.goal; state = s; side = side; wrong = (sound w.goal s others side).1 refl }

pub is_wrong : (p : Position) (goal : Goal) (s : State) (others : List Path) (on : Bool) → on ≡ false → IsSide p goal s others → TellsSound p on → IsWrong p others
is_wrong p goal s others on e side sound = record { goal = goal; state = s; side = side; wrong = (sound goal s others side).1 e }

-- a line that goes on and is an instance at a side branch is surely read
side_sure : (flow : Flow) (defs : List Def) (l : Line) (p : Position) (b : Path) (others : List Path) (goal : Goal) → p.branches ≡ b ∷ others → b.goal ≡ Some goal → goes_on l ≡ true
    → may_stand_aside l ≡ true → (next : List Path) → IsInstance flow defs (setting_at p) l b next → IsSure flow defs l p
side_sure flow defs l p b others goal are is goes aside next i = record {
  goes = goes;
  may = record {
    advance = λ c cs there plain. (let same = same_first c b cs others (sym there ∙ are) in absurd (not_plain b goal is (subst IsPlain same.0 plain)));
    stands = aside_stands l p.branches aside;
  };
  there = λ none. none b others next are i;
}

-- ---- a line of logic

-- a branch with another state, where a line of logic gives it
abbrev Putting : Type 0
Putting = Path → State → Path

pub record KeepsSide (put : Putting) : Type 0 where
  pub state : (b : Path) (s : State) → (put b s).state ≡ s
  pub goal : (b : Path) (s : State) → (put b s).goal ≡ b.goal

module _ (flow : Flow) (defs : List Def) (l : Line) (old : Position) (goal : Goal) (s : State) (others : List Path) (side : IsSide old goal s others)
    (Rule : State → List State → Type 0) (Then : State → Type 0) (put : Putting) (g : Gives (Rule s) Then) where
  -- it is an instance
  logic_sure : goes_on l ≡ true → may_stand_aside l ≡ true → ((states : List State) → Rule side.first.state states → IsInstance flow defs (setting_at old) l side.first (map (put side.first) states)) → IsSure flow defs l old
  logic_sure goes aside is =
      side_sure flow defs l old side.first others goal side.branches_are side.goal_is goes aside (map (put side.first) g.0.0)
      (is g.0.0 (subst (λ (t : State). Rule t g.0.0) (sym side.state_is) g.0.1))

  -- and what it gives is a side branch with the same goal
  logic_came : KeepsSide put → (new : Position) → (t : IsTurned flow defs l old new)
      → (IsInstance flow defs (setting_at old) l t.first t.next → (states : List State) × Rule t.first.state states × (t.next ≡ map (put t.first) states))
      → (u : State) × IsSide new goal u others × Then u
  logic_came keeps new t gives =
      let same = same_first t.first side.first t.others others (sym t.branches_are ∙ side.branches_are) in
      let r = gives t.instance in
      let now : Rule s r.0 = subst (λ (x : State). Rule x r.0) (ap (λ (b : Path). b.state) same.0 ∙ side.state_is) r.1 in
      let u = g.1 r.0 now in (
        u.0,
        record {
          first = put t.first u.0;
          branches_are = t.come ∙ ap (λ (bs : List Path). bs ++ t.others) (r.2 ∙ ap (map (put t.first)) u.1) ∙ ap (λ (bs : List Path). put t.first u.0 ∷ bs) same.1;
          goal_is = keeps.goal t.first u.0 ∙ ap (λ (b : Path). b.goal) same.0 ∙ side.goal_is;
          state_is = keeps.state t.first u.0;
        },
        u.2,
      )

-- what a line that folds gives
abbrev folding : Position → Putting
folding p = λ b s. record { point = b.point; state = s; goal = b.goal; moved = b.moved; closing = closes_by p.form b.goal b.closing }

folding_keeps : (p : Position) → KeepsSide (folding p)
folding_keeps p = record { state = λ b s. refl; goal = λ b s. refl }

-- ---- all that is known is written

module _ (made : GoalsAreMade) (flow : Flow) (defs : List Def) (w : Task) (others : List Path) (old : Position) (begun : IsBegun flow defs w others old) where
  pub zero_sure : IsSure flow defs (L8 null (pos 0) Ptr) old
  zero_sure =
      logic_sure flow defs (L8 null (pos 0) Ptr) old w.goal w.before others begun.side (NamesSpare null (pos 0) Ptr) _ (folding old) (made.known flow.structs.list defs flow.vars w begun.task).1 refl refl
      (λ states r. (states, r, refl))

  abbrev IsForgotten : State → Type 0
  IsForgotten z = Gives (ForgetsNode (next_node w.before) z) (λ t. (front : List Met) → AreOpened defs w front → Makes defs w t front [])

  module _ (mid : Position) (turned : IsTurned flow defs (L8 null (pos 0) Ptr) old mid) where
    pub zero_came : (z : State) × IsSide mid w.goal z others × ((IsFalse z → ⊥) → IsForgotten z)
    zero_came =
        logic_came flow defs (L8 null (pos 0) Ptr) old w.goal w.before others begun.side (NamesSpare null (pos 0) Ptr) (λ z. (IsFalse z → ⊥) → IsForgotten z) (folding old)
        (made.known flow.structs.list defs flow.vars w begun.task).1 (folding_keeps old) mid turned (λ i. i)

    module _ (sound : TellsSound mid true) where
      forgets : IsForgotten zero_came.0
      forgets = zero_came.2 ((sound w.goal zero_came.0 others zero_came.1).0 refl)

      names_not : (o : Option Goal) → o ≡ Some w.goal → GoalNamesNot (next_node w.before) o
      names_not o e = subst (GoalNamesNot (next_node w.before)) (sym e) (made.known flow.structs.list defs flow.vars w begun.task).0

      pub forget_sure : IsSure flow defs (L11 (next_node w.before)) mid
      forget_sure =
          logic_sure flow defs (L11 (next_node w.before)) mid w.goal zero_came.0 others zero_came.1 (ForgetsNode (next_node w.before)) _ with_state forgets refl refl
          (λ states r. (names_not zero_came.1.first.goal zero_came.1.goal_is, (states, r, refl)))

      pub forget_came : (new : Position) → IsTurned flow defs (L11 (next_node w.before)) mid new → (on : Bool) → TellsSound new on → (front : List Met) → AreOpened defs w front
          → GoesOn flow defs w others new front [] on
      forget_came new turned on told front o =
          let u = logic_came flow defs (L11 (next_node w.before)) mid w.goal zero_came.0 others zero_came.1 (ForgetsNode (next_node w.before))
          (λ t. (front : List Met) → AreOpened defs w front → Makes defs w t front []) with_state forgets (record { state = λ b s. refl; goal = λ b s. refl }) new turned (λ i. i.1) in
          goes flow defs w others new front [] u.0 on u.1 begun.task told (u.2 front o)

-- ---- a term is named

module _ (made : GoalsAreMade) (flow : Flow) (defs : List Def) (old : Position) (goal : Goal) (s : State) (others : List Path) (kind : Kind) (t : Term)
    (bounded : IsBounded s) (to : IsToName goal s others old kind t) where
  pub name_sure : IsSure flow defs (L8 t.node t.add kind) old
  name_sure =
      logic_sure flow defs (L8 t.node t.add kind) old goal s others to.side (NamesSpare t.node t.add kind) _ (folding old) (made.name s kind t bounded to.consistent to.may) refl refl
      (λ states r. (states, r, refl))

  pub name_came : (new : Position) → IsTurned flow defs (L8 t.node t.add kind) old new → (u : State) × IsSide new goal u others × (IsNamedOn s u × IsNamed u kind t (next_node s))
  name_came new turned =
      logic_came flow defs (L8 t.node t.add kind) old goal s others to.side (NamesSpare t.node t.add kind) (λ u. IsNamedOn s u × IsNamed u kind t (next_node s)) (folding old)
      (made.name s kind t bounded to.consistent to.may) (folding_keeps old) new turned (λ i. i)

still_named : (s : State) → IsNamedOn s s
still_named s = record { grown = record { kinds = λ kind n h. h; written = λ f h. h }; graph = refl }

-- a node alone is its own
pub own_named : (made : GoalsAreMade) (p : Position) (goal : Goal) (s : State) (others : List Path) (kind : Kind) (t : Term) → t.add ≡ pos 0 → IsToName goal s others p kind t
    → (u : State) × IsNamedSide p goal s u others × IsNamed u kind t t.node
own_named made p goal s others kind t e to = (s, record { side = to.side; consistent = to.consistent; on = still_named s }, made.alone s kind t e to.may)

pub new_named : (made : GoalsAreMade) (flow : Flow) (defs : List Def) (old new : Position) (goal : Goal) (s : State) (others : List Path) (kind : Kind) (t : Term) (n : NodeId) → IsBounded s
    → IsToName goal s others old kind t → IsTurned flow defs (L8 t.node t.add kind) old new → TellsSound new true → n ≡ next_node s
    → (u : State) × IsNamedSide new goal s u others × IsNamed u kind t n
new_named made flow defs old new goal s others kind t n bounded to turned sound e =
    let u = name_came made flow defs old goal s others kind t bounded to new turned in
    (u.0, record { side = u.1; consistent = (sound goal u.0 others u.1).0 refl; on = u.2.0 }, subst (λ (m : NodeId). IsNamed u.0 kind t m) (sym e) u.2.1)

-- ---- terms are named

named_more : (s t u : State) → IsNamedOn s t → IsNamedOn t u → IsNamedOn s u
named_more s t u a b = record {
  grown = record { kinds = λ kind n h. b.grown.kinds kind n (a.grown.kinds kind n h); written = λ f h. b.grown.written f (a.grown.written f h) };
  graph = b.graph ∙ a.graph;
}

pub as_many : (s : State) (kinds : List Kind) (ts : List Term) → AllMayBeNamed s kinds ts → length kinds ≡ length ts
as_many s [] [] a = refl
as_many s [] (t ∷ ts) a = absurd a
as_many s (kind ∷ kinds) [] a = absurd a
as_many s (kind ∷ kinds) (t ∷ ts) a = ap suc (as_many s kinds ts a.1)

may_at : (s : State) (kinds : List Kind) (ts : List Term) (i : ℕ) (k : Kind) (d : Term) → i < length kinds → AllMayBeNamed s kinds ts → MayBeNamed s (get_or kinds i k) (get_or ts i d)
may_at s [] [] i k d less a = absurd (omega arith)
may_at s [] (t ∷ ts) i k d less a = absurd a
may_at s (kind ∷ kinds) [] i k d less a = absurd a
may_at s (kind ∷ kinds) (t ∷ ts) zero k d less a = a.0
may_at s (kind ∷ kinds) (t ∷ ts) (suc i) k d less a = may_at s kinds ts i k d (omega arith) a.1

still_may : (s u : State) (kind : Kind) (t : Term) → IsNamedOn s u → MayBeNamed s kind t → MayBeNamed u kind t
still_may s u kind t on may = (on.grown.kinds kind t.node may.0, on.grown.written _ may.1)

named_still : (s u : State) → IsGrown s u → (kinds : List Kind) (ts : List Term) (ns : List NodeId) → AreNamed s kinds ts ns → AreNamed u kinds ts ns
named_still s u g [] [] [] h = tt
named_still s u g [] [] (n ∷ ns) h = absurd h
named_still s u g [] (t ∷ ts) ns h = absurd h
named_still s u g (kind ∷ kinds) [] ns h = absurd h
named_still s u g (kind ∷ kinds) (t ∷ ts) [] h = absurd h
named_still s u g (kind ∷ kinds) (t ∷ ts) (n ∷ ns) h = ((g.kinds kind n h.0.0, g.written _ h.0.1), named_still s u g kinds ts ns h.1)

named_last : (s : State) (kinds : List Kind) (ts : List Term) (ns : List NodeId) (kind : Kind) (t : Term) (n : NodeId) → AreNamed s kinds ts ns → IsNamed s kind t n
    → AreNamed s (kinds ++ kind ∷ []) (ts ++ t ∷ []) (ns ++ n ∷ [])
named_last s [] [] [] kind t n h last = (last, tt)
named_last s [] [] (m ∷ ns) kind t n h last = absurd h
named_last s [] (x ∷ ts) ns kind t n h last = absurd h
named_last s (k ∷ kinds) [] ns kind t n h last = absurd h
named_last s (k ∷ kinds) (x ∷ ts) [] kind t n h last = absurd h
named_last s (k ∷ kinds) (x ∷ ts) (m ∷ ns) kind t n h last = (h.0, named_last s kinds ts ns kind t n h.1 last)

-- so many of the terms have nodes
abbrev pub NamesSoFar : Position → Position → List Kind → List Term → ℕ → List NodeId → Type 0
NamesSoFar old p kinds ts i ns =
    (goal : Goal) (s : State) (others : List Path) → AreToName goal s others old kinds ts
    → (u : State) × IsNamedSide p goal s u others × AreNamed u (take i kinds) (take i ts) ns

pub none_named : (old : Position) (kinds : List Kind) (ts : List Term) → NamesSoFar old old kinds ts 0 []
none_named old kinds ts goal s others to = (s, record { side = to.side; consistent = to.consistent; on = still_named s }, tt)

-- the next one may be named
pub next_may : (old p : Position) (kinds : List Kind) (ts : List Term) (i : ℕ) (ns : List NodeId) (k : Kind) (d : Term) (goal : Goal) (s : State) (others : List Path) → i < length kinds
    → AreToName goal s others old kinds ts → (so : (u : State) × IsNamedSide p goal s u others × AreNamed u (take i kinds) (take i ts) ns) → IsToName goal so.0 others p (get_or kinds i k) (get_or ts i d)
next_may old p kinds ts i ns k d goal s others less to so =
    record { side = so.1.side; consistent = so.1.consistent; may = still_may s so.0 (get_or kinds i k) (get_or ts i d) so.1.on (may_at s kinds ts i k d less to.may) }

-- and then one more has a node
pub next_named : (old p q : Position) (kinds : List Kind) (ts : List Term) (i : ℕ) (ns : List NodeId) (k : Kind) (d : Term) (n : NodeId) → i < length kinds → NamesSoFar old p kinds ts i ns
    → HasName p q (get_or kinds i k) (get_or ts i d) (Some n) → NamesSoFar old q kinds ts (i + 1) (ns ++ n ∷ [])
next_named old p q kinds ts i ns k d n less far has goal s others to =
    let so = far goal s others to in
    let u = has goal so.0 others (next_may old p kinds ts i ns k d goal s others less to so) in
    let count = as_many s kinds ts to.may in
    let less_too : i < length ts = omega arith in
    let all = named_last u.0 (take i kinds) (take i ts) ns (get_or kinds i k) (get_or ts i d) n (named_still so.0 u.0 u.1.on.grown (take i kinds) (take i ts) ns so.2) u.2 in (
      u.0,
      record { side = u.1.side; consistent = u.1.consistent; on = named_more s so.0 u.0 so.1.on u.1.on },
      subst (λ (xs : List Kind). AreNamed u.0 xs (take (i + 1) ts) (ns ++ n ∷ [])) (sym (take_more kinds i k less))
          (subst (λ (xs : List Term). AreNamed u.0 (take i kinds ++ get_or kinds i k ∷ []) xs (ns ++ n ∷ [])) (sym (take_more ts i d less_too)) all),
    )

pub not_named : (old p q : Position) (kinds : List Kind) (ts : List Term) (i : ℕ) (ns : List NodeId) (k : Kind) (d : Term) → i < length kinds → NamesSoFar old p kinds ts i ns
    → HasName p q (get_or kinds i k) (get_or ts i d) None → HaveNames old q kinds ts None
not_named old p q kinds ts i ns k d less far has goal s others to =
    let so = far goal s others to in has goal so.0 others (next_may old p kinds ts i ns k d goal s others less to so)

pub all_named : (old p : Position) (kinds : List Kind) (ts : List Term) (i : ℕ) (ns : List NodeId) → length kinds ≤ i → NamesSoFar old p kinds ts i ns → HaveNames old p kinds ts (Some ns)
all_named old p kinds ts i ns more far goal s others to =
    let so = far goal s others to in
    let count = as_many s kinds ts to.may in
    let more_too : length ts ≤ i = omega arith in (
      so.0,
      so.1,
      subst (λ (xs : List Kind). AreNamed so.0 xs ts ns) (take_all i kinds more) (subst (λ (xs : List Term). AreNamed so.0 (take i kinds) xs ns) (take_all i ts more_too) so.2),
    )

-- ---- marks are met

same_some : {A : Type 0} (x y : A) → Some x ≡ Some y → x ≡ y
same_some x y e = cc e

reverse_more : (old new : List EdgeId) (id : EdgeId) → new ≡ old ++ id ∷ [] → reverse new ≡ id ∷ reverse old
reverse_more old new id e = ap reverse e ∙ reverse-append old (id ∷ [])

-- where the last edge makes one goal more, and is put on the stack, the making goes on
next_goes : (flow : Flow) (defs : List Def) (w : Task) (others : List Path) (p : Position) (front : List Met) (s : State) (left old new : List EdgeId) (on : Bool) → IsSide p w.goal s others
    → IsTask flow.structs.list defs flow.vars w → TellsSound p on → MakesNext defs w s front left → reverse old ≡ left → PushesLast p old new → GoesOn flow defs w others p front (reverse new) on
next_goes flow defs w others p front s left old new on side task sound m is pushed =
    let spelled = reverse_more old new m.id (pushed w.goal s others m.older m.id m.edge side m.edges_are) ∙ ap (λ (ids : List EdgeId). m.id ∷ ids) is in
    goes flow defs w others p front (reverse new) s on side task sound (subst (λ (ids : List EdgeId). Makes defs w s front ids) (sym spelled) m.makes)

module _ (made : GoalsAreMade) (flow : Flow) (defs : List Def) (w : Task) (others : List Path) (old : Position) (met : Met) (front : List Met) (ids : List EdgeId)
    (under : IsUnderway flow defs w others old (met ∷ front) ids) where
  -- by an Ind
  pub ind_met : (id : EdgeId) → met.mark ≡ ByInd id → (more : List EdgeId) → more ≡ id ∷ ids → IsUnderway flow defs w others old front more
  ind_met id is more e = record {
    state = under.state;
    side = under.side;
    task = under.task;
    consistent = under.consistent;
    makes = subst (λ (xs : List EdgeId). Makes defs w under.state front xs) (sym e) (made.ind flow.structs.list defs flow.vars w under.task under.state met front ids id is under.makes);
  }

  -- by a segment
  module _ (seg : EdgeId) (is : met.mark ≡ BySeg seg) (bounded : IsBounded under.state) where
    closed : (rest : EdgeId) × (left : List EdgeId) × (ids ≡ rest ∷ left) × Gives (ClosesSeg seg rest under.state) (λ t. MakesNext defs w t front left)
    closed = made.seg flow.structs.list defs flow.vars w under.task under.state met front ids seg is bounded under.consistent under.makes

    pub rest_there : ids ≡ [] → ⊥
    rest_there none = let two : ◌≡◌ {A = List EdgeId} (closed.0 ∷ closed.1) [] = sym closed.2 ∙ none in cc two

    module _ (rest : EdgeId) (left : List EdgeId) (are : ids ≡ rest ∷ left) where
      gives : Gives (ClosesSeg seg rest under.state) (λ t. MakesNext defs w t front left)
      gives =
          let same = same_edges closed.0 rest closed.1 left (sym closed.2 ∙ are) in
          subst (λ (x : EdgeId). Gives (ClosesSeg seg x under.state) (λ t. MakesNext defs w t front left)) same.0
          (subst (λ (xs : List EdgeId). Gives (ClosesSeg seg closed.0 under.state) (λ t. MakesNext defs w t front xs)) same.1 closed.3)
        where
          same_edges : (b c : EdgeId) (bs cs : List EdgeId) → ◌≡◌ {A = List EdgeId} (b ∷ bs) (c ∷ cs) → (b ≡ c) × (bs ≡ cs)
          same_edges b c bs cs e = (cc e, cc e)

      pub seg_sure : IsSure flow defs (L5 seg rest) old
      seg_sure = logic_sure flow defs (L5 seg rest) old w.goal under.state others under.side (ClosesSeg seg rest) _ (folding old) gives refl refl (λ states r. (states, r, refl))

      pub seg_met : (new : Position) → IsTurned flow defs (L5 seg rest) old new → (on : Bool) → TellsSound new on → (some more : List EdgeId) → reverse some ≡ left → PushesLast new some more
          → GoesOn flow defs w others new front (reverse more) on
      seg_met new turned on sound some more is pushed =
          let u = logic_came flow defs (L5 seg rest) old w.goal under.state others under.side (ClosesSeg seg rest) (λ t. MakesNext defs w t front left) (folding old) gives (folding_keeps old) new turned (λ i. i) in
          next_goes flow defs w others new front u.0 left some more on u.1 under.task sound u.2 is pushed

  -- by a rule
  module _ (place : ℕ) (block : Option EdgeId) (is : met.mark ≡ ByRule place block) where
    pub rule_there : (def : Def) × (rule : Rule) × (slice_get defs met.goal.pred.0 ≡ Some def) × (slice_get def.rules place ≡ Some rule)
        × AllMayBeNamed under.state rule.names met.names.items × (length rule.calls ≤ length ids)
    rule_there = made.rule flow.structs.list defs flow.vars w under.task under.state met front ids place block is under.makes

    pub rule_missing : ((def : Def) → slice_get defs met.goal.pred.0 ≡ Some def → slice_get def.rules place ≡ None) → ⊥
    rule_missing none = let two : Some rule_there.1 ≡ None = sym rule_there.3 ∙ none rule_there.0 rule_there.2 in cc two

    module _ (def : Def) (rule : Rule) (defined : slice_get defs met.goal.pred.0 ≡ Some def) (listed : slice_get def.rules place ≡ Some rule) where
      same_rule : rule_there.1 ≡ rule
      same_rule =
          let one : rule_there.0 ≡ def = same_some rule_there.0 def (sym rule_there.2 ∙ defined) in
          same_some rule_there.1 rule (sym rule_there.3 ∙ (ap (λ (d : Def). slice_get d.rules place) one ∙ listed))

      pub rule_names : AreToName w.goal under.state others old rule.names met.names.items
      rule_names = record {
        side = under.side;
        consistent = under.consistent;
        may = subst (λ (r : Rule). AllMayBeNamed under.state r.names met.names.items) same_rule rule_there.4;
      }

      pub calls_there : length rule.calls ≤ length ids
      calls_there = subst (λ (r : Rule). length r.calls ≤ length ids) same_rule rule_there.5

      -- nodes are named for it
      module _ (mid : Position) (nodes : List NodeId) (named : HaveNames old mid rule.names met.names.items (Some nodes)) (own left : List EdgeId) (count : length own ≡ length rule.calls) (are : ids ≡ own ++ left) where
        abbrev then_named : (u : State) × IsNamedSide mid w.goal under.state u others × AreNamed u rule.names met.names.items nodes
        then_named = named w.goal under.state others rule_names

        module _ (bounded : IsBounded then_named.0) where
          folds : Gives (FoldsInd defs (ind_fold met.goal.pred place nodes block own) then_named.0) (λ t. MakesNext defs w t front left)
          folds =
              made.fold flow.structs.list defs flow.vars w under.task then_named.0 met front own left place block def rule nodes is defined listed bounded then_named.1.consistent then_named.2 count
              (made.keep flow.structs.list defs flow.vars w under.task under.state then_named.0 (met ∷ front) (own ++ left) then_named.1.on
              (subst (λ (xs : List EdgeId). Makes defs w under.state (met ∷ front) xs) are under.makes))

          pub fold_sure : IsSure flow defs (L3 (ind_fold met.goal.pred place nodes block own)) mid
          fold_sure =
              logic_sure flow defs (L3 (ind_fold met.goal.pred place nodes block own)) mid w.goal then_named.0 others then_named.1.side (FoldsInd defs (ind_fold met.goal.pred place nodes block own)) _ (folding mid) folds refl refl
              (λ states r. (states, r, refl))

          pub fold_met : (new : Position) → IsTurned flow defs (L3 (ind_fold met.goal.pred place nodes block own)) mid new → (on : Bool) → TellsSound new on → (some more : List EdgeId) → reverse some ≡ left
              → PushesLast new some more → GoesOn flow defs w others new front (reverse more) on
          fold_met new turned on sound some more e pushed =
              let u = logic_came flow defs (L3 (ind_fold met.goal.pred place nodes block own)) mid w.goal then_named.0 others then_named.1.side (FoldsInd defs (ind_fold met.goal.pred place nodes block own))
              (λ t. MakesNext defs w t front left) (folding mid) folds (folding_keeps mid) new turned (λ i. i) in
              next_goes flow defs w others new front u.0 left some more on u.1 under.task sound u.2 e pushed

-- ---- the end

-- an edge that is left meets the goal
pub last_met : (made : GoalsAreMade) (flow : Flow) (defs : List Def) (w : Task) (others : List Path) (p : Position) (ids : List EdgeId) → IsUnderway flow defs w others p [] ids
    → (id : EdgeId) × (ids ≡ id ∷ []) × IsDone p others id
last_met made flow defs w others p ids u =
    let r = made.met flow.structs.list defs flow.vars w u.task u.state ids u.consistent u.makes in
    (r.0, r.1, record { goal = w.goal; state = u.state; side = u.side; meets = r.2 })

-- the line that ends a side branch
pub done_sure : (flow : Flow) (defs : List Def) (p : Position) (others : List Path) (edge : EdgeId) → IsDone p others edge → IsSure flow defs (L14 edge) p
done_sure flow defs p others edge d =
    side_sure flow defs (L14 edge) p d.side.first others d.goal d.side.branches_are d.side.goal_is refl refl []
    (record { goal = d.goal; side = d.side.goal_is; meets = subst (λ (s : State). MeetsGoal d.goal edge s) (sym d.side.state_is) d.meets; gives = refl })

pub wrong_sure : (flow : Flow) (defs : List Def) (p : Position) (others : List Path) → AreOpen flow p.branches → IsWrong p others → IsSure flow defs L12 p
wrong_sure flow defs p others open_are x =
    side_sure flow defs L12 p x.side.first others x.goal x.side.branches_are x.side.goal_is refl refl []
    ((subst (AreOpen flow) x.side.branches_are open_are).0.1, subst IsFalse (sym x.side.state_is) x.wrong, refl)

pub done_gone : (flow : Flow) (defs : List Def) (p new : Position) (others : List Path) (edge : EdgeId) → IsDone p others edge → IsTurned flow defs (L14 edge) p new → new.branches ≡ others
done_gone flow defs p new others edge d t =
    let i : EndsSide edge t.first t.next = t.instance in goes_away flow defs (L14 edge) p new t i.gives d.side.first others d.side.branches_are

pub wrong_gone : (flow : Flow) (defs : List Def) (p new : Position) (others : List Path) → IsWrong p others → IsTurned flow defs L12 p new → new.branches ≡ others
wrong_gone flow defs p new others x t =
    let i : EndsFalse t.first t.next = t.instance in goes_away flow defs L12 p new t i.2 x.side.first others x.side.branches_are

-- ---- a goal that has a cover

pub covered_side : (defs : List Def) (p : Position) (b : Path) (others : List Path) (at : IsAtCovered defs p) → p.branches ≡ b ∷ others → IsSide p at.goal at.first.state others
covered_side defs p b others at is =
    let same = same_first at.first b at.others others (sym at.branches_are ∙ is) in
    record { first = b; branches_are = is; goal_is = ap (λ (c : Path). c.goal) (sym same.0) ∙ at.side; state_is = ap (λ (c : Path). c.state) (sym same.0) }

pub covered_at : (defs : List Def) (p : Position) (goal : Goal) (s : State) (others : List Path) → IsAtCovered defs p → IsSide p goal s others → IsCovered defs s goal
covered_at defs p goal s others at side =
    let same = same_first at.first side.first at.others others (sym at.branches_are ∙ side.branches_are) in
    let goals : at.goal ≡ goal = same_some at.goal goal (sym at.side ∙ (ap (λ (c : Path). c.goal) same.0 ∙ side.goal_is)) in
    subst (λ (g : Goal). IsCovered defs s g) goals (subst (λ (t : State). IsCovered defs t at.goal) (ap (λ (c : Path). c.state) same.0 ∙ side.state_is) at.covered)

module _ (laws : DocumentsAreFollowed) (flow : Flow) (defs : List Def) (lines : List Line) (p : Position) (text : List ℕ) (ended : ℕ) (tracks : List (Option Picks)) (f : IsFollowed flow defs lines p text ended tracks)
    (goal : Goal) (s : State) (others : List Path) (side : IsSide p goal s others) where
  -- its state is well made, and a test tells what is entailed there
  pub side_made : IsWellMade defs flow.vars flow.structs.list s
  side_made =
      subst (λ (t : State). IsWellMade defs flow.vars flow.structs.list t) side.state_is (told laws flow defs lines p text ended tracks f side.first others side.branches_are).made

  -- so it may be made where the state is not false
  module _ (at : IsAtCovered defs p) (sound : IsFalse s → ⊥) where
    abbrev pub task_of : Task
    task_of = record { know = (told laws flow defs lines p text ended tracks f side.first others side.branches_are).know; before = s; goal = goal }

    pub tells_of : Tells task_of.know s
    tells_of = subst (Tells task_of.know) side.state_is (told laws flow defs lines p text ended tracks f side.first others side.branches_are).tells

    pub begun_of : IsBegun flow defs task_of others p
    begun_of = record {
      side = side;
      task = record { fit = f.valid.definitions; made = side_made; tells = tells_of; sound = sound; at = (covered_at defs p goal s others at side).at; args = (covered_at defs p goal s others at side).args };
    }

    -- and there is a first cover
    pub cover_found : NoFirstNoCover → ((know : Test) → Tells know s → first_cover know defs goal.pred (plain goal.at) (map plain goal.args) s.graph.edges ≡ None) → ⊥
    cover_found none_missed none =
        let c = (covered_at defs p goal s others at side).cover sound in
        (none_missed task_of.know defs s goal.pred (plain goal.at) (map plain goal.args) s.graph.edges s.graph.next (flow.structs.list, f.valid.definitions) tells_of side_made.bounded.ids).0
        (none task_of.know tells_of) c.0 c.1

-- goals that are met in the state of the first branch
pub mets_found : (defs : List Def) (p : Position) (c : Path) (goal : Goal) → Some c ≡ option_map (λ (d : Path × List Path). d.0) (first_branch p.branches) → c.goal ≡ Some goal → (front : List Met)
    → ((know : Test) → Tells know c.state → Opened (setting_in know defs c.state) (asked_for goal) front []) → AreMetsOf defs p front
mets_found defs p c goal e is front found own s others know side tells =
    let same = side_is p c own s others e side in
    let goals : goal ≡ own = same_some goal own (sym is ∙ same.0) in
    subst (λ (g : Goal). Opened (setting_in know defs s) (asked_for g) front []) goals
    (subst (λ (t : State). Opened (setting_in know defs t) (asked_for goal) front []) same.1 (found know (subst (Tells know) (sym same.1) tells)))

-- the states of side branches are bounded
abbrev pub AreBounded : Position → Type 0
AreBounded p = (goal : Goal) (s : State) (others : List Path) → IsSide p goal s others → IsBounded s

pub are_bounded : (laws : DocumentsAreFollowed) (flow : Flow) (defs : List Def) (lines : List Line) (p : Position) (text : List ℕ) (ended : ℕ) (tracks : List (Option Picks)) → IsFollowed flow defs lines p text ended tracks → AreBounded p
are_bounded laws flow defs lines p text ended tracks f goal s others side = (side_made laws flow defs lines p text ended tracks f goal s others side).bounded

-- ---- what is asked of the first branch

pub told_sound : (p : Position) (answer on : Bool) → TellsFalse p answer → on ≡ not answer → TellsSound p on
told_sound p true on tells e goal s others side = (λ sound. absurd (let two : true ≡ false = sym sound ∙ e in cc two), λ wrong. (tells goal s others side).0 refl)
told_sound p false on tells e goal s others side =
    (λ sound wrong. (let two : false ≡ true = (tells goal s others side).1 wrong in cc two), λ wrong. absurd (let two : true ≡ false = sym e ∙ wrong in cc two))

pub next_is : (p : Position) (answer : Option NodeId) (n : NodeId) (goal : Goal) (s : State) (others : List Path) → answer ≡ Some n → IsNextNode p answer → IsSide p goal s others → n ≡ next_node s
next_is p answer n goal s others e next side = same_some n (next_node s) (sym e ∙ next goal s others side)

pub next_there : (p : Position) (answer : Option NodeId) (goal : Goal) (s : State) (others : List Path) → answer ≡ None → IsNextNode p answer → IsSide p goal s others → ⊥
next_there p answer goal s others e next side = let two : None ≡ Some (next_node s) = sym e ∙ next goal s others side in cc two

pub pushed_last : (p : Position) (answer : Option EdgeId) (edge : EdgeId) (old new : List EdgeId) → answer ≡ Some edge → IsLastEdge p answer → new ≡ old ++ edge ∷ [] → PushesLast p old new
pushed_last p answer edge old new e last is goal s others older id x side are =
    is ∙ ap (λ (i : EdgeId). old ++ i ∷ []) (same_some edge id (sym e ∙ last goal s others older id x side are))

pub none_last : (p : Position) (answer : Option EdgeId) (old new : List EdgeId) → answer ≡ None → IsLastEdge p answer → PushesLast p old new
none_last p answer old new e last goal s others older id x side are = let two : None ≡ Some id = sym e ∙ last goal s others older id x side are in absurd (cc two)

-- ---- all that is known, line by line

module _ (made : GoalsAreMade) (flow : Flow) (defs : List Def) (old mid : Position) (turned : IsTurned flow defs (L8 null (pos 0) Ptr) old mid) (on : Bool) (sound : TellsSound mid on)
    (answer : Option NodeId) (node : NodeId) (is : answer ≡ Some node) (next : IsNextNode old answer) where
  pub forget_line : on ≡ true → IsAtGoal flow defs old → IsSure flow defs (L11 node) mid
  forget_line e at =
      let own : node ≡ next_node at.w.before = next_is old answer node at.w.goal at.w.before at.others is next at.begun.side in
      subst (λ (n : NodeId). IsSure flow defs (L11 n) mid) (sym own)
      (forget_sure made flow defs at.w at.others old at.begun mid turned (subst (TellsSound mid) e sound))

  pub written : on ≡ true → (new : Position) → IsTurned flow defs (L11 node) mid new → (last : Bool) → TellsSound new last → IsKnownWritten flow defs old new last
  written e new turned_too last told w others front begun o =
      let own : node ≡ next_node w.before = next_is old answer node w.goal w.before others is next begun.side in
      forget_came made flow defs w others old begun mid turned (subst (TellsSound mid) e sound) new (subst (λ (n : NodeId). IsTurned flow defs (L11 n) mid new) own turned_too) last told front o

  pub not_written : on ≡ false → IsKnownWritten flow defs old mid false
  not_written e w others front begun o = let z = zero_came made flow defs w others old begun mid turned in is_wrong mid w.goal z.0 others on e z.1 sound

-- ---- a name, line by line

module _ (made : GoalsAreMade) (flow : Flow) (defs : List Def) (old : Position) (bounded : AreBounded old) (kind : Kind) (t : Term) where
  pub name_line : MayName old kind t → IsSure flow defs (L8 t.node t.add kind) old
  name_line may = name_sure made flow defs old may.0 may.1 may.2 kind t (bounded may.0 may.1 may.2 may.3.side) may.3

  pub own_name : t.add ≡ pos 0 → HasName old old kind t (Some t.node)
  own_name e goal s others to = own_named made old goal s others kind t e to

  module _ (new : Position) (turned : IsTurned flow defs (L8 t.node t.add kind) old new) (on : Bool) (sound : TellsSound new on) where
    pub new_name : on ≡ true → (answer : Option NodeId) → IsNextNode old answer → MayName old kind t → HasName old new kind t answer
    new_name e answer next may = subst (HasName old new kind t) (sym there) named
      where
        there : answer ≡ Some (next_node may.1)
        there = next may.0 may.1 may.2 may.3.side

        named : HasName old new kind t (Some (next_node may.1))
        named goal s others to =
            new_named made flow defs old new goal s others kind t (next_node may.1) (bounded goal s others to.side) to turned (subst (TellsSound new) e sound)
            (next_is old answer (next_node may.1) goal s others there next to.side)

    pub no_name : on ≡ false → HasName old new kind t None
    no_name e goal s others to =
        let u = name_came made flow defs old goal s others kind t (bounded goal s others to.side) to new turned in is_wrong new goal u.0 others on e u.1 sound

-- ---- a fold, line by line

module _ (made : GoalsAreMade) (flow : Flow) (defs : List Def) (old : Position) (met : Met) (ids : List EdgeId) (place : ℕ) (block : Option EdgeId) (is : met.mark ≡ ByRule place block) where
  pub no_rule : IsAtMark flow defs old met ids → ((def : Def) → slice_get defs met.goal.pred.0 ≡ Some def → slice_get def.rules place ≡ None) → ⊥
  no_rule at none = rule_missing made flow defs at.w at.others old met at.front ids at.underway place block is none

  module _ (def : Def) (rule : Rule) (defined : slice_get defs met.goal.pred.0 ≡ Some def) (listed : slice_get def.rules place ≡ Some rule) where
    pub calls_line : IsAtMark flow defs old met ids → length rule.calls ≤ length ids
    calls_line at = calls_there made flow defs at.w at.others old met at.front ids at.underway place block is def rule defined listed

    -- the names of the rule, and their terms
    module _ (kinds : List Kind) (ts : List Term) (same_kinds : kinds ≡ rule.names) (same_terms : ts ≡ met.names.items) where
      pub names_line : IsAtMark flow defs old met ids → MayNameAll old kinds ts
      names_line at =
          subst (λ (ks : List Kind). MayNameAll old ks ts) (sym same_kinds)
          (subst (λ (xs : List Term). MayNameAll old rule.names xs) (sym same_terms)
          (at.w.goal, at.underway.state, at.others, rule_names made flow defs at.w at.others old met at.front ids at.underway place block is def rule defined listed))

      own_names : (mid : Position) (found : Option (List NodeId)) → HaveNames old mid kinds ts found → HaveNames old mid rule.names met.names.items found
      own_names mid found h = subst (λ (xs : List Term). HaveNames old mid rule.names xs found) same_terms (subst (λ (ks : List Kind). HaveNames old mid ks ts found) same_kinds h)

      pub not_folded : (mid : Position) (more : List EdgeId) → HaveNames old mid kinds ts None → IsMarkMet flow defs met old ids mid more false
      not_folded mid more wrong w others front under =
          own_names mid None wrong w.goal under.state others (rule_names made flow defs w others old met front ids under place block is def rule defined listed)

      module _ (mid : Position) (bounded : AreBounded mid) (nodes : List NodeId) (named : HaveNames old mid kinds ts (Some nodes)) (own left : List EdgeId) (count : length own ≡ length rule.calls)
          (are : ids ≡ own ++ left) where
        pub fold_line : IsAtMark flow defs old met ids → IsSure flow defs (L3 (ind_fold met.goal.pred place nodes block own)) mid
        fold_line at =
            let all = own_names mid (Some nodes) named in
            let u = all at.w.goal at.underway.state at.others (rule_names made flow defs at.w at.others old met at.front ids at.underway place block is def rule defined listed) in
            fold_sure made flow defs at.w at.others old met at.front ids at.underway place block is def rule defined listed mid nodes all own left count are
            (bounded at.w.goal u.0 at.others u.1.side)

        pub folded : (new : Position) → IsTurned flow defs (L3 (ind_fold met.goal.pred place nodes block own)) mid new → (on : Bool) → TellsSound new on → (some more : List EdgeId) → reverse some ≡ left
            → PushesLast new some more → IsMarkMet flow defs met old ids new (reverse more) on
        folded new turned on sound some more e pushed w others front under =
            let all = own_names mid (Some nodes) named in
            let u = all w.goal under.state others (rule_names made flow defs w others old met front ids under place block is def rule defined listed) in
            fold_met made flow defs w others old met front ids under place block is def rule defined listed mid nodes all own left count are (bounded w.goal u.0 others u.1.side)
            new turned on sound some more e pushed

-- ---- a segment

module _ (made : GoalsAreMade) (flow : Flow) (defs : List Def) (old : Position) (bounded : AreBounded old) (met : Met) (ids : List EdgeId) (seg : EdgeId) (is : met.mark ≡ BySeg seg) where
  pub no_rest : IsAtMark flow defs old met ids → ids ≡ [] → ⊥
  no_rest at none = rest_there made flow defs at.w at.others old met at.front ids at.underway seg is (bounded at.w.goal at.underway.state at.others at.underway.side) none

  module _ (rest : EdgeId) (left : List EdgeId) (are : ids ≡ rest ∷ left) where
    pub close_line : IsAtMark flow defs old met ids → IsSure flow defs (L5 seg rest) old
    close_line at = seg_sure made flow defs at.w at.others old met at.front ids at.underway seg is (bounded at.w.goal at.underway.state at.others at.underway.side) rest left are

    pub closes : (new : Position) → IsTurned flow defs (L5 seg rest) old new → (on : Bool) → TellsSound new on → (some more : List EdgeId) → reverse some ≡ left → PushesLast new some more
        → IsMarkMet flow defs met old ids new (reverse more) on
    closes new turned on sound some more e pushed w others front under =
        seg_met made flow defs w others old met front ids under seg is (bounded w.goal under.state others under.side) rest left are new turned on sound some more e pushed

-- ---- a mark

pub ind_there : (made : GoalsAreMade) (flow : Flow) (defs : List Def) (p : Position) (met : Met) (old new : List EdgeId) (id : EdgeId) → met.mark ≡ ByInd id → new ≡ old ++ id ∷ []
    → IsMarkMet flow defs met p (reverse old) p (reverse new) true
ind_there made flow defs p met old new id is e w others front under = ind_met made flow defs w others p met front (reverse old) under id is (reverse new) (reverse_more old new id e)

pub no_end : (made : GoalsAreMade) (flow : Flow) (defs : List Def) (p : Position) (met : Met) (ids : List EdgeId) → IsAtMark flow defs p met ids → met.mark ≡ AtEnd → ⊥
no_end made flow defs p met ids at e = (made.other flow.structs.list defs flow.vars at.w at.underway.task at.underway.state met at.front ids at.underway.makes).0 e

pub no_call : (made : GoalsAreMade) (flow : Flow) (defs : List Def) (p : Position) (met : Met) (ids : List EdgeId) (place : ℕ) (block : Option EdgeId) (call : ℕ) → IsAtMark flow defs p met ids
    → met.mark ≡ ByCall place block call → ⊥
no_call made flow defs p met ids place block call at e = (made.other flow.structs.list defs flow.vars at.w at.underway.task at.underway.state met at.front ids at.underway.makes).1 place block call e

-- ---- all marks

-- what is made from somewhere on
abbrev pub SoFar : Flow → List Def → Position → List Met → List EdgeId → Position → List Met → List EdgeId → Type 0
SoFar flow defs start front ids p rest more = (w : Task) (others : List Path) → IsUnderway flow defs w others start front ids → IsUnderway flow defs w others p rest more

module _ (flow : Flow) (defs : List Def) (start : Position) (front : List Met) (ids : List EdgeId) (p : Position) (rest : List Met) (more : List EdgeId) (far : SoFar flow defs start front ids p rest more) where
  far_at : (met : Met) (left : List Met) → rest ≡ met ∷ left → (w : Task) (others : List Path) → IsUnderway flow defs w others start front ids → IsUnderway flow defs w others p (met ∷ left) more
  far_at met left e w others u = subst (λ (ms : List Met). IsUnderway flow defs w others p ms more) e (far w others u)

  pub far_mark : IsAtMarks flow defs start front ids → (met : Met) (left : List Met) → rest ≡ met ∷ left → IsAtMark flow defs p met more
  far_mark at met left e = record { w = at.w; others = at.others; front = left; underway = far_at met left e at.w at.others at.underway }

  pub far_next : (met : Met) (left : List Met) → rest ≡ met ∷ left → (q : Position) (then : List EdgeId) (on : Bool) → on ≡ true → IsMarkMet flow defs met p more q then on → SoFar flow defs start front ids q left then
  far_next met left e q then on on_is is w others u = subst (GoesOn flow defs w others q left then) on_is (is w others left (far_at met left e w others u))

  pub far_wrong : (met : Met) (left : List Met) → rest ≡ met ∷ left → (q : Position) (then : List EdgeId) (on : Bool) → on ≡ false → IsMarkMet flow defs met p more q then on
      → AreMarksMet flow defs front start ids q then false
  far_wrong met left e q then on on_is is w others u = subst (GoesOn flow defs w others q left then) on_is (is w others left (far_at met left e w others u))

  pub far_end : rest ≡ [] → AreMarksMet flow defs front start ids p more true
  far_end e w others u = subst (λ (ms : List Met). IsUnderway flow defs w others p ms more) e (far w others u)

-- ---- the whole of it

pub none_false : (p : Position) (answer : Bool) → TellsFalse p answer → answer ≡ false → IsSound p
none_false p answer tells e goal s others side wrong = let two : true ≡ false = sym ((tells goal s others side).1 wrong) ∙ e in cc two

pub false_there : (defs : List Def) (p : Position) (answer : Bool) → TellsFalse p answer → answer ≡ true → HasMet p p None
false_there defs p answer tells e goal s others side = record { goal = goal; state = s; side = side; wrong = (tells goal s others side).0 e }

module _ (laws : DocumentsAreFollowed) (flow : Flow) (defs : List Def) (lines : List Line) (old : Position) (text : List ℕ) (ended : ℕ) (tracks : List (Option Picks)) (f : IsFollowed flow defs lines old text ended tracks)
    (at : IsAtCovered defs old) (sound : IsSound old) where
  pub goal_there_now : IsAtGoal flow defs old
  goal_there_now =
      let side = covered_side defs old at.first at.others at at.branches_are in
      record {
        w = task_of laws flow defs lines old text ended tracks f at.goal at.first.state at.others side at (sound at.goal at.first.state at.others side);
        others = at.others;
        begun = begun_of laws flow defs lines old text ended tracks f at.goal at.first.state at.others side at (sound at.goal at.first.state at.others side);
      }

  module _ (mid : Position) (front : List Met) (mets : AreMetsOf defs old front) (on : Bool) (yes : on ≡ true) (written : IsKnownWritten flow defs old mid on) where
    written_at : (w : Task) (others : List Path) → IsBegun flow defs w others old → IsUnderway flow defs w others mid front []
    written_at w others begun =
        subst (GoesOn flow defs w others mid front []) yes (written w others front begun (mets w.goal w.before others w.know begun.side begun.task.tells))

    pub marks_there : IsAtMarks flow defs mid front []
    marks_there = record { w = goal_there_now.w; others = goal_there_now.others; underway = written_at goal_there_now.w goal_there_now.others goal_there_now.begun }

    module _ (new : Position) (ids : List EdgeId) (then : Bool) (met : AreMarksMet flow defs front mid [] new ids then) where
      goes_at : (goal : Goal) (s : State) (others : List Path) → IsSide old goal s others → (w : Task) × GoesOn flow defs w others new [] ids then
      goes_at goal s others side =
          let w = task_of laws flow defs lines old text ended tracks f goal s others side at (sound goal s others side) in
          (w, met w others (written_at w others (begun_of laws flow defs lines old text ended tracks f goal s others side at (sound goal s others side))))

      last_at : GoalsAreMade → then ≡ true → (goal : Goal) (s : State) (others : List Path) → IsSide old goal s others → (id : EdgeId) × (ids ≡ id ∷ []) × IsDone new others id
      last_at made e goal s others side =
          let r = goes_at goal s others side in last_met made flow defs r.0 others new ids (subst (GoesOn flow defs r.0 others new [] ids) e r.1)

      pub goal_met : (made : GoalsAreMade) → then ≡ true → (answer : Option EdgeId) (left : List EdgeId) → MatchOption answer (ids ≡ []) (λ id. ids ≡ id ∷ left) → HasMet old new answer
      goal_met made e None left none = λ goal s others side. (let l = last_at made e goal s others side in let two : ◌≡◌ {A = List EdgeId} [] (l.0 ∷ []) = sym none ∙ l.1 in absurd (cc two))
      goal_met made e (Some edge) left is = λ goal s others side.
          let l = last_at made e goal s others side in
          let two : ◌≡◌ {A = List EdgeId} (edge ∷ left) (l.0 ∷ []) = sym is ∙ l.1 in
          let same : l.0 ≡ edge = cc two in
          subst (IsDone new others) same l.2

      pub goal_wrong : then ≡ false → HasMet old new None
      goal_wrong e goal s others side = let r = goes_at goal s others side in subst (GoesOn flow defs r.0 others new [] ids) e r.1

  pub known_wrong : (mid : Position) (front : List Met) → AreMetsOf defs old front → (on : Bool) → on ≡ false → IsKnownWritten flow defs old mid on → HasMet old mid None
  known_wrong mid front mets on e written goal s others side =
      let w = task_of laws flow defs lines old text ended tracks f goal s others side at (sound goal s others side) in
      let begun = begun_of laws flow defs lines old text ended tracks f goal s others side at (sound goal s others side) in
      subst (GoesOn flow defs w others mid front []) e (written w others front begun (mets w.goal w.before others w.know begun.side begun.task.tells))

-- ---- the line that ends it

module _ (flow : Flow) (defs : List Def) (old mid : Position) (at : IsAtCovered defs old) where
  module _ (edge : EdgeId) (has : HasMet old mid (Some edge)) where
    pub met_line : IsSure flow defs (L14 edge) mid
    met_line = done_sure flow defs mid at.others edge (has at.goal at.first.state at.others (covered_side defs old at.first at.others at at.branches_are))

    pub met_end : (new : Position) → IsTurned flow defs (L14 edge) mid new → IsFirstGone old new
    met_end new turned b others is = done_gone flow defs mid new others edge (has at.goal at.first.state others (covered_side defs old b others at is)) turned

  module _ (has : HasMet old mid None) where
    pub false_line : AreOpen flow mid.branches → IsSure flow defs L12 mid
    false_line open_are = wrong_sure flow defs mid at.others open_are (has at.goal at.first.state at.others (covered_side defs old at.first at.others at at.branches_are))

    pub false_end : (new : Position) → IsTurned flow defs L12 mid new → IsFirstGone old new
    false_end new turned b others is = wrong_gone flow defs mid new others (has at.goal at.first.state others (covered_side defs old b others at is)) turned

pub on_ok : {E : Type 0} (r : Result Unit E) {A B : Type 0} → (A → B) → OnOk r A → OnOk r B
on_ok (Ok done) f a = f a
on_ok (Err e) f a = tt
