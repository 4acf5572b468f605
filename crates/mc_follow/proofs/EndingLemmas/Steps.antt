-- The steps by which a goal is made, one by one.
use Rattle.std.proofs.Common.{◌≡◌, inl, inr, ◌≤◌, ℕ, pos, Option, Some, List, [], ◌∷◌, ◌++◌, Contains, length, slice_get, refl, sym, ◌∙◌, ap, subst}
use Rattle.std.specs.Prelude.{option_to_list}
use Rattle.mc_base.specs.declared.ids.EdgeId.{EdgeId}
use Rattle.mc_base.specs.declared.ids.NodeId.{NodeId}
use Rattle.mc_base.specs.declared.plain.Atom.{Atom}
use Rattle.mc_base.specs.declared.plain.Kind.{Kind}
use Rattle.mc_base.specs.declared.plain.Kind.TheVariants.{Ptr}
use Rattle.mc_base.specs.declared.plain.VarInfo.{VarInfo}
use Rattle.mc_base.specs.Nodes.{null}
use Rattle.mc_cover.specs.declared.goals.Mark.{Mark}
use Rattle.mc_cover.specs.declared.goals.Mark.TheVariants.{BySeg, ByRule}
use Rattle.mc_cover.specs.Goals.{Setting}
use Rattle.mc_cover.specs.Marks.{Named, rule_at}
use Rattle.mc_flow.specs.declared.defs.rules.Def.{Def}
use Rattle.mc_flow.specs.declared.defs.rules.Rule.{Rule}
use Rattle.mc_flow.specs.declared.defs.shapes.StructInfo.{StructInfo}
use Rattle.mc_rules_logic.specs.Fold.Changed.{ForgetsNode, IsListWithout, NamesSpare}
use Rattle.mc_rules_logic.specs.Fold.Folded.{ClosesSeg, FoldsInd, folded, ind_fold}
use Rattle.mc_rules_logic.specs.Fold.Goals.{MeetsGoal}
use Rattle.mc_rules_logic.specs.Fold.Laws.{CloseSegIsDetermined, FoldIndIsDetermined, ForgetIsDetermined, SpareIsDetermined}
use Rattle.mc_rules_logic.specs.Fold.MadeLaws.{SpareStaysMade}
use Rattle.mc_rules_logic.proofs.FoldLemmas.Names.{kinds_there}
use Rattle.mc_rules_logic.specs.Listed.Lists.{ListsAreThere}
use Rattle.mc_state.specs.Named.{others}
use Rattle.mc_state.specs.declared.terms.Term.{Term}
use Rattle.mc_state.specs.Facts.{IsFalse}
use Rattle.mc_state.specs.Fits.{IsBounded, IsWellMade}
use Rattle.mc_state.specs.State.{State, next_node}
use Rattle.mc_state.specs.Terms.{TermsLieIn}
use Rattle.mc_follow.specs.declared.ending.met.Met.{Met}
use Rattle.mc_follow.specs.Ending.Ending.{AreNamed, IsLater}
use Rattle.mc_follow.specs.Ending.Making.{AreNamesOf, setting_in}
use Rattle.mc_follow.specs.Ending.Steps.{AllMayBeNamed, AreOpened, Gives, GoalsAreMade, IsTask, Makes, MakesNext, Task, TermsAreNamed, asked_for}
use Rattle.mc_cover.proofs.Parts.{rule_parts}
use Rattle.mc_follow.proofs.EndingLemmas.Forgetting.{forgets_zero, forgotten, forgotten_later, made_fits, made_rises, names_zero, none_is_next, zeroed}
use Rattle.mc_follow.proofs.EndingLemmas.Kinded.{HaveTermKinds, goal_kinded}
use Rattle.mc_follow.proofs.EndingLemmas.Machine as machine
use Rattle.mc_follow.proofs.EndingLemmas.Machine.{IsAsked}
use Rattle.mc_follow.proofs.EndingLemmas.Naming.{meets}
use Rattle.mc_cover.proofs.Options.{same_some}
use Rattle.mc_follow.proofs.EndingLemmas.Written.{derives, plain_named, spare, spare_grown, spare_named}

-- a rule that gives one list at most gives one state
gives_one : (Rule : List State → Type 0) (Then : State → Type 0) (t : State) → Rule (t ∷ []) → ((next other : List State) → Rule next → Rule other → next ≡ other) → Then t → Gives Rule Then
gives_one Rule Then t is one so = ((t ∷ [], is), λ next r. (t, one next (t ∷ []) r is, so))

-- ---- names

lies_written : (before s : State) → (IsFalse before → ⊥) → IsLater before s → (kinds : List Kind) (ts : List Term) → HaveTermKinds before.kinds kinds ts → TermsLieIn before kinds ts → AllMayBeNamed s kinds ts
lies_written before s sound later [] [] has lie = tt
lies_written before s sound later [] (t ∷ ts) has lie = absurd has
lies_written before s sound later (kind ∷ kinds) [] has lie = absurd has
lies_written before s sound later (kind ∷ kinds) (t ∷ ts) has lie = (
  (later.kinds kind t.node has.0, elim lie.0 [ inl h ↦ later.known _ h | inr wrong ↦ absurd (sound wrong) ]),
  lies_written before s sound later kinds ts has.1 lie.1,
)

term_named : SpareIsDetermined → TermsAreNamed
term_named one s kind t bounded consistent may =
    gives_one (NamesSpare t.node t.add kind s) _ (spare s t.node t.add kind)
    (record { consistent = consistent; there = (kind, may.0); lies = derives s _ may.1; one_kind = may.0; gives = refl })
    (λ next other a b. one t.node t.add kind s next other a b)
    (record { grown = spare_grown s t.node t.add kind bounded; graph = refl }, spare_named s t.node t.add kind t refl refl bounded)

module _ (structs : List StructInfo) (defs : List Def) (vars : List VarInfo) (w : Task) (task : IsTask structs defs vars w) where
  asked : IsAsked structs defs vars task.fit w.know w.before task.made task.tells task.sound (asked_for w.goal) (asked_for w.goal)
  asked = (goal_kinded structs defs vars task.fit w.before task.made w.goal.pred w.goal.at w.goal.args task.at task.args, refl)

  -- ---- the begin

  not_named : Contains (w.goal.at ∷ w.goal.args) (next_node w.before) → ⊥
  not_named c = none_is_next w.before task.made.bounded (w.goal.at ∷ w.goal.args) ((Ptr, task.at), kinds_there w.before.kinds task.args.0.params w.goal.args task.args.2) c

  known : ListsAreThere → SpareStaysMade → SpareIsDetermined → ForgetIsDetermined
      → Gives (NamesSpare null (pos 0) Ptr w.before)
      (λ z. (IsFalse z → ⊥) → Gives (ForgetsNode (next_node w.before) z) (λ t. (front : List Met) → AreOpened defs w front → Makes defs w t front []))
  known lists stays one_spare one_forget =
      gives_one (NamesSpare null (pos 0) Ptr w.before) _ z is (λ next other a b. one_spare null (pos 0) Ptr w.before next other a b)
      (λ consistent.
      gives_one (ForgetsNode (next_node w.before) z) _ (forgotten w.before task.made.bounded l.0 consistent) (forgets_zero w.before task.made.bounded l.0 consistent l.1)
      (λ next other a b. one_forget (next_node w.before) z next other a b)
      (λ front o.
      machine.first_step structs defs vars task.fit w.know w.before task.made task.tells task.sound (asked_for w.goal) asked (forgotten w.before task.made.bounded l.0 consistent) front
      (forgotten_later w.before task.made.bounded l.0 consistent l.1) refl o))
    where
      z : State
      z = zeroed w.before task.made.bounded

      is : NamesSpare null (pos 0) Ptr w.before (z ∷ [])
      is = names_zero w.before task.made.bounded task.sound

      made_z : IsWellMade defs vars structs z
      made_z = (stays defs vars structs null (pos 0) Ptr w.before (z ∷ []) is task.made).0

      l : (atoms : List Atom) × IsListWithout (next_node w.before) z atoms
      l = lists z (next_node w.before) (made_rises z made_z.bounded) (made_fits z made_z.bounded made_z.atoms)

  -- ---- marks

  seg_closed : CloseSegIsDetermined → (s : State) (met : Met) (front : List Met) (ids : List EdgeId) (id : EdgeId) → met.mark ≡ BySeg id → IsBounded s → (IsFalse s → ⊥) → Makes defs w s (met ∷ front) ids
      → (rest : EdgeId) × (left : List EdgeId) × (ids ≡ rest ∷ left) × Gives (ClosesSeg id rest s) (λ t. MakesNext defs w t front left)
  seg_closed one s met front [] id is bounded consistent m =
      absurd (machine.rest_there structs defs vars task.fit w.know w.before task.made task.tells task.sound (asked_for w.goal) asked s met front id is m)
  seg_closed one s met front (rest ∷ left) id is bounded consistent m =
      let r = machine.seg_step structs defs vars task.fit w.know w.before task.made task.tells task.sound (asked_for w.goal) asked s bounded consistent met front id rest left is m in (
        rest,
        left,
        refl,
        gives_one (ClosesSeg id rest s) (λ t. MakesNext defs w t front left) (folded s (others s.graph.edges (id ∷ rest ∷ [])) r.new) r.instance (λ next other a b. one id rest s next other a b)
            (record { id = record { 0 = s.graph.next }; edge = r.new; older = others s.graph.edges (id ∷ rest ∷ []); edges_are = refl; makes = r.making }),
      )

  abbrev setting : Setting
  setting = setting_in w.know defs w.before

  -- the rule of a mark, with its names
  record IsRuleOf (met : Met) (place : ℕ) (block : Option EdgeId) : Type 0 where
    pub by : Named
    pub is : rule_at setting met.goal place block ≡ Some by
    pub names : met.names.items ≡ by.names

  rule_of : (s : State) (met : Met) (front : List Met) (ids : List EdgeId) (place : ℕ) (block : Option EdgeId) → met.mark ≡ ByRule place block → Makes defs w s (met ∷ front) ids → IsRuleOf met place block
  rule_of s met front ids place block is_mark m =
      let n = subst (λ (x : Mark). AreNamesOf setting met.goal x met.names.items) is_mark m.opened.3 in
      record { by = n.0; is = n.1; names = n.2 }

  rule_there : (s : State) (met : Met) (front : List Met) (ids : List EdgeId) (place : ℕ) (block : Option EdgeId) → met.mark ≡ ByRule place block → Makes defs w s (met ∷ front) ids
      → (def : Def) × (rule : Rule) × (slice_get defs met.goal.pred.0 ≡ Some def) × (slice_get def.rules place ≡ Some rule) × AllMayBeNamed s rule.names met.names.items × (length rule.calls ≤ length ids)
  rule_there s met front ids place block is_mark m =
      let r = rule_of s met front ids place block is_mark m in
      let p = rule_parts setting met.goal place block r.by r.is in
      let h = (machine.opened_asked structs defs vars task.fit w.know w.before task.made task.tells task.sound (asked_for w.goal) asked front (met.goal ∷ m.opened.0) m.opened.5).0 in
      let kinds = machine.all_kinds structs defs vars task.fit w.know w.before task.made task.tells task.sound (asked_for w.goal) met.goal h place block r.by r.is in
      let lie = machine.all_lie structs defs vars task.fit w.know w.before task.made task.tells task.sound (asked_for w.goal) met.goal h place block r.by r.is in (
        p.def,
        r.by.rule,
        p.defined,
        p.listed,
        subst (λ (ts : List Term). AllMayBeNamed s r.by.rule.names ts) (sym r.names) (lies_written w.before s task.sound m.later r.by.rule.names r.by.names kinds lie),
        machine.calls_enough structs defs vars task.fit w.know w.before task.made task.tells task.sound (asked_for w.goal) asked s met front place block r.by is_mark r.is ids m,
      )

  rule_folded : FoldIndIsDetermined → (s : State) (met : Met) (front : List Met) (own ids : List EdgeId) (place : ℕ) (block : Option EdgeId) (def : Def) (rule : Rule) (nodes : List NodeId)
      → met.mark ≡ ByRule place block → slice_get defs met.goal.pred.0 ≡ Some def → slice_get def.rules place ≡ Some rule → IsBounded s → (IsFalse s → ⊥) → AreNamed s rule.names met.names.items nodes
      → length own ≡ length rule.calls → Makes defs w s (met ∷ front) (own ++ ids) → Gives (FoldsInd defs (ind_fold met.goal.pred place nodes block own) s) (λ t. MakesNext defs w t front ids)
  rule_folded one s met front own ids place block def rule nodes is_mark defined listed bounded consistent named count m =
      let r = rule_of s met front (own ++ ids) place block is_mark m in
      let p = rule_parts setting met.goal place block r.by r.is in
      let same_def : def ≡ p.def = same_some def p.def (sym defined ∙ p.defined) in
      let same : rule ≡ r.by.rule = same_some rule r.by.rule (sym listed ∙ (ap (λ (d : Def). slice_get d.rules place) same_def ∙ p.listed)) in
      let own_names : AreNamed s r.by.rule.names r.by.names nodes = subst (λ (x : Rule). AreNamed s x.names r.by.names nodes) same (subst (λ (ts : List Term). AreNamed s rule.names ts nodes) r.names named) in
      let step = machine.rule_step structs defs vars task.fit w.know w.before task.made task.tells task.sound (asked_for w.goal) asked s bounded consistent met front place block r.by is_mark r.is nodes own_names
      own ids (count ∙ ap (λ (x : Rule). length x.calls) same) m in
      gives_one (FoldsInd defs (ind_fold met.goal.pred place nodes block own) s) (λ t. MakesNext defs w t front ids) (folded s (others s.graph.edges (option_to_list block ++ own)) step.new) step.instance
      (λ next other a b. one defs (ind_fold met.goal.pred place nodes block own) s next other a b)
      (record { id = record { 0 = s.graph.next }; edge = step.new; older = others s.graph.edges (option_to_list block ++ own); edges_are = refl; makes = step.making })

  -- ---- the end

  goal_met : (s : State) (ids : List EdgeId) → (IsFalse s → ⊥) → Makes defs w s [] ids → (id : EdgeId) × (ids ≡ id ∷ []) × MeetsGoal w.goal id s
  goal_met s ids consistent m =
      let r = machine.last_step structs defs vars task.fit w.know w.before task.made task.tells task.sound (asked_for w.goal) asked s ids m in
      (r.0, r.1, meets s w.goal r.0 consistent r.2)

pub steps : ListsAreThere → SpareStaysMade → SpareIsDetermined → ForgetIsDetermined → FoldIndIsDetermined → CloseSegIsDetermined → GoalsAreMade
steps lists stays one_spare one_forget one_fold one_close = record {
  known = λ structs defs vars w task. (not_named structs defs vars w task, known structs defs vars w task lists stays one_spare one_forget);
  name = term_named one_spare;
  alone = λ s kind t e may. plain_named s kind t e may.0;
  keep = λ structs defs vars w task s u front ids on m.
      machine.grow_step structs defs vars task.fit w.know w.before task.made task.tells task.sound (asked_for w.goal) (asked structs defs vars w task) s u front ids m on.grown on.graph;
  ind = λ structs defs vars w task s met front ids id is m.
      machine.ind_step structs defs vars task.fit w.know w.before task.made task.tells task.sound (asked_for w.goal) (asked structs defs vars w task) s met front ids id is m;
  seg = λ structs defs vars w task. seg_closed structs defs vars w task one_close;
  rule = rule_there;
  fold = λ structs defs vars w task. rule_folded structs defs vars w task one_fold;
  other = λ structs defs vars w task s met front ids m.
      machine.no_other structs defs vars task.fit w.know w.before task.made task.tells task.sound (asked_for w.goal) (asked structs defs vars w task) s met front ids m;
  met = goal_met;
}
