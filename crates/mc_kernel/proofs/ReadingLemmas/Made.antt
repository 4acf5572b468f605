-- What lines make of branches with well-made states has well-made states.
use Rattle.std.proofs.Common.{◌≡◌, List, [], ◌∷◌, None, Some, Option, map, option_map, sym, subst}
use Rattle.std.specs.Prelude.{replicate, length}
use Rattle.std.specs.List.{AllByRecursion}
use Rattle.mc_base.specs.declared.ids.NodeId.{NodeId}
use Rattle.mc_base.specs.declared.ids.PointId.{PointId}
use Rattle.mc_base.specs.declared.plain.VarInfo.{VarInfo}
use Rattle.mc_state.specs.declared.line.InstrRule.{InstrRule}
use Rattle.mc_lines.specs.declared.cert.line.Line.{Line}
use Rattle.mc_lines.specs.declared.cert.line.Line.TheVariants.{Header, Cut, Head, Pass, End, Step, L1, L2, L3, L4, L5, L6, L7, L8, L9, L10}
use Rattle.mc_lines.specs.declared.cert.line.Line.TheVariants.{L11, L12, L13, L14, L15, C1, C2, C3}
use Rattle.mc_flow.specs.declared.defs.rules.Def.{Def}
use Rattle.mc_flow.specs.Defs.Conditions.{IsDefs}
use Rattle.mc_flow.specs.declared.graph.Flow.{Flow}
use Rattle.mc_flow.specs.Valid.{IsValid}
use Rattle.mc_pure.specs.Pure.{Kinds}
use Rattle.mc_state.specs.declared.goal.Goal.{Goal}
use Rattle.mc_state.specs.Fits.{IsWellMade, MayHaveKinds}
use Rattle.mc_state.specs.Laws as state
use Rattle.mc_state.specs.State.{State}
use Rattle.mc_rules_logic.specs.Fold.MadeLaws as fold
use Rattle.mc_rules_logic.specs.Unfold.WellMade as opening
use Rattle.mc_rules_logic.specs.Back.Laws as back
use Rattle.mc_rules_steps.specs.Next.{Next}
use Rattle.mc_rules_steps.specs.JudgedLaws as step
use Rattle.mc_rules_steps.specs.JudgedLaws.{IsMadeFor}
use Rattle.mc_kernel.specs.Branches.{Path, Setting, closes_by, entry_path, merged_goal, path_of, path_to, with_state}
use Rattle.mc_kernel.specs.Instances.{IsInstance, ByStep, accessed}
use Rattle.mc_kernel.specs.Reading.Documents.{IsMade}
use Rattle.mc_kernel.specs.Reading.Laws.{LinesMakeWellMade}

-- what each rule makes of a well-made state
pub record Makes : Type 0 where
  pub steps : step.StepsAreWellMade
  pub ind : opening.IndMakesWellMade
  pub seg : opening.SegMakesWellMade
  pub back : back.BackMakesWellMade
  pub fold_ind : fold.FoldIndStaysMade
  pub fold_seg : fold.FoldSegStaysMade
  pub close : fold.CloseSegStaysMade
  pub join : fold.JoinSegsStaysMade
  pub empty_seg : fold.EmptySegStaysMade
  pub spare : fold.SpareStaysMade
  pub merge : fold.MergeStaysMade
  pub drop_edge : fold.DropStaysMade
  pub forget : fold.ForgetStaysMade
  pub unknown : state.UnknownIsBounded

-- what holds of each image
all_images : {X Y : Type 0} (P : Y → Type 0) (f : X → Y) (xs : List X) → AllByRecursion (λ x. P (f x)) xs → AllByRecursion P (map f xs)
all_images P f [] a = tt
all_images P f (x ∷ xs) a = (a.0, all_images P f xs a.1)

module _ (makes : Makes) (flow : Flow) (defs : List Def) (g : Setting) (valid : IsValid flow defs) where
  abbrev Made : State → Type 0
  Made = IsWellMade defs flow.vars flow.structs.list

  defined : IsDefs defs
  defined = (flow.structs.list, valid.definitions)

  path_made : (p : PointId) (s : State) (goal : Option Goal) → Made s → IsMade flow defs (path_to p s goal)
  path_made p s None made = made
  path_made p s (Some goal) made = made

  stepped_made : (steps : List Next) → AllByRecursion (IsMadeFor flow defs) steps → AllByRecursion (IsMade flow defs) (map path_of steps)
  stepped_made [] a = tt
  stepped_made (n ∷ steps) a = (path_made n.point n.state n.goal a.0.0, stepped_made steps a.1)

  by_step : (rule : InstrRule) (b : Path) (next : List Path) → IsMade flow defs b → ByStep rule flow g b next → AllByRecursion (IsMade flow defs) next
  by_step rule b next made i =
      let steps = i.1 in
      subst (AllByRecursion (IsMade flow defs)) (sym steps.2)
      (stepped_made steps.0 (makes.steps flow defs b.point b.state steps.0 valid made (rule, steps.1)))

  -- branches with other states
  by_states : (f : State → Path) (states : List State) (next : List Path) → next ≡ map f states → AllByRecursion (λ s. IsMade flow defs (f s)) states → AllByRecursion (IsMade flow defs) next
  by_states f states next gives a = subst (AllByRecursion (IsMade flow defs)) (sym gives) (all_images (IsMade flow defs) f states a)

  by_nothing : (next : List Path) → next ≡ [] → AllByRecursion (IsMade flow defs) next
  by_nothing next gives = subst (AllByRecursion (IsMade flow defs)) (sym gives) tt

  -- a branch that a fold comes to
  abbrev folded : Path → State → Path
  folded b s = record { point = b.point; state = s; goal = b.goal; moved = b.moved; closing = closes_by g.form b.goal b.closing }

  -- a branch whose nodes are merged
  abbrev merged : NodeId → NodeId → Path → State → Path
  merged keep gone b s = record { point = b.point; state = s; goal = option_map (merged_goal keep gone) b.goal; moved = b.moved; closing = b.closing }

  pub line_made : (l : Line) (b : Path) (next : List Path) → IsMade flow defs b → IsInstance flow defs g l b next → AllByRecursion (IsMade flow defs) next
  line_made (Step rule) b next made i = by_step rule b next made i
  line_made (L1 edge) b next made i =
      let u = i.1 in
      by_states (with_state b) u.0 next u.2 (makes.ind defs flow.vars flow.structs.list (accessed flow b) edge b.state u.0 valid.definitions made u.1)
  line_made (L2 edge) b next made i =
      let u = i.1 in
      by_states (with_state b) u.0 next u.2 (makes.seg defs flow.vars flow.structs.list (accessed flow b) edge b.state u.0 valid.definitions made u.1)
  line_made (L15 edge) b next made i =
      let u = i.1 in
      by_states (with_state b) u.0 next u.2 (makes.back defs flow.vars flow.structs.list (accessed flow b) edge b.state u.0 valid.definitions made u.1)
  line_made (L3 fold) b next made i =
      by_states (folded b) i.0 next i.2 (makes.fold_ind defs flow.vars flow.structs.list fold b.state i.0 defined i.1 made)
  line_made (L4 fold) b next made i =
      by_states (folded b) i.0 next i.2 (makes.fold_seg defs flow.vars flow.structs.list fold b.state i.0 defined i.1 made)
  line_made (L5 first second) b next made i = by_states (folded b) i.0 next i.2 (makes.close defs flow.vars flow.structs.list first second b.state i.0 i.1 made)
  line_made (L6 first second) b next made i = by_states (folded b) i.0 next i.2 (makes.join defs flow.vars flow.structs.list first second b.state i.0 i.1 made)
  line_made (L7 pred at args stop ends) b next made i =
      by_states (folded b) i.0 next i.2 (makes.empty_seg defs flow.vars flow.structs.list pred at args stop ends b.state i.0 i.1 made)
  line_made (L8 node add kind) b next made i = by_states (folded b) i.0 next i.2 (makes.spare defs flow.vars flow.structs.list node add kind b.state i.0 i.1 made)
  line_made (L9 keep gone) b next made i = by_states (merged keep gone b) i.0 next i.2 (makes.merge defs flow.vars flow.structs.list keep gone b.state i.0 i.1 made)
  line_made (L10 edge) b next made i = by_states (with_state b) i.0 next i.2 (makes.drop_edge defs flow.vars flow.structs.list edge b.state i.0 i.1 made)
  line_made (L11 node) b next made i =
      let u = i.1 in
      by_states (with_state b) u.0 next u.2 (makes.forget defs flow.vars flow.structs.list node b.state u.0 u.1 made)
  line_made L12 b next made i = by_nothing next i.2
  line_made (L13 j images edges) b next made i = by_nothing next i.gives
  line_made (L14 edge) b next made i = by_nothing next i.gives
  line_made C1 b next made i = by_nothing next i.gives
  line_made (Header version form) b next made i = absurd i
  line_made (Cut p) b next made i = absurd i
  line_made (Head p raw) b next made i = absurd i
  line_made Pass b next made i = absurd i
  line_made End b next made i = absurd i
  line_made (C2 tries) b next made i = absurd i
  line_made (C3 j steps) b next made i = absurd i

pub lines_make_well_made : Makes → LinesMakeWellMade
lines_make_well_made makes flow defs g l b next valid made i = line_made makes flow defs g valid l b next made i

-- ---- the entry

unknown_kinds : (kinds : Kinds) (vars : List VarInfo) → MayHaveKinds kinds (map (λ x. x.kind) vars) (replicate (length vars) None)
unknown_kinds kinds [] = tt
unknown_kinds kinds (x ∷ vars) = (tt, unknown_kinds kinds vars)

-- nothing is known at the entry, so its state is well made
pub entry_made : Makes → (flow : Flow) (defs : List Def) → IsMade flow defs (entry_path flow)
entry_made makes flow defs = record {
  bounded = makes.unknown (length flow.vars);
  atoms = tt;
  fits_defs = tt;
  fits_program = record { vars_fit = unknown_kinds [] flow.vars; blocks_fit = tt };
}
