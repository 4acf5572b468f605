-- Each line is judged alike by whatever judges rightly.
use Rattle.std.proofs.Common.{◌≡◌, ℕ, List, [], ◌∷◌, Bool, true, false, not, Option, Some, None, map, refl, ap, sym, subst, ◌∙◌}
use mathlib.Core.Path.{fun_ext}
use Rattle.std.specs.Prelude.{Ok, Err}
use Rattle.mc_base.specs.declared.ids.NodeId.{NodeId}
use Rattle.mc_base.specs.declared.ids.PointId.{PointId}
use Rattle.mc_base.specs.declared.plain.Atom.{Atom}
use Rattle.mc_lines.specs.declared.cert.line.Line.{Line}
use Rattle.mc_lines.specs.declared.cert.line.Line.TheVariants as line
use Rattle.mc_flow.specs.declared.defs.rules.Def.{Def}
use Rattle.mc_flow.specs.declared.graph.Flow.{Flow}
use Rattle.mc_state.specs.Known.{Test, Tells, is_false}
use Rattle.mc_state.specs.Premises.{Judged, IsJudged, need, have, then_give}
use Rattle.mc_state.specs.State.{State, with_atoms}
use Rattle.mc_state.specs.declared.line.InstrRule.{InstrRule}
use Rattle.mc_state.specs.declared.line.InstrRule.TheVariants.{S5, S6, S7, S14}
use Rattle.mc_rules_logic.specs.Fold.ChangeJudges.{forgetting_node}
use Rattle.mc_rules_steps.specs.declared.gap.Gap.{Gap}
use Rattle.mc_rules_steps.specs.Instructions.{ResultParts, TestParts, add_of, sub_of, mul_of, test_le_of}
use Rattle.mc_rules_steps.specs.Judges.{computing, stepping}
use Rattle.mc_rules_steps.specs.Next.{Next}
use Rattle.mc_rules_steps.specs.Operands.{code_at, operand_node, with_operand}
use Rattle.mc_rules_steps.specs.Steps.{moved_to}
use Rattle.mc_rules_steps.specs.Sums.{Ranges, Operation, sum, difference, product, with_result, at_most_atoms, above_atoms}
use Rattle.mc_kernel.specs.Branches.{Path, Setting, path_of, with_state}
use Rattle.mc_kernel.specs.JudgedLaws.{IsAsked, LinesAreJudged}
use Rattle.mc_kernel.specs.Judges.{Knowledge, and_need, goal_is_free, judged_line, may_step}

pub one_test : (a b : Bool) → (a ≡ true → b ≡ true) → (b ≡ true → a ≡ true) → a ≡ b
one_test true b f g = sym (f refl)
one_test false true f g = g refl
one_test false false f g = refl

one_option : {A : Type 0} (o p : Option A) → ((a : A) → o ≡ Some a → p ≡ Some a) → ((a : A) → p ≡ Some a → o ≡ Some a) → o ≡ p
one_option (Some a) p f g = sym (f a refl)
one_option None (Some a) f g = g a refl
one_option None None f g = refl

-- tests that tell what is entailed are one
pub one_knows : (know other : Test) (s : State) → Tells know s → Tells other s → know ≡ other
one_knows know other s one two = fun_ext (λ f. one_test (know f) (other f) (λ e. (two f).1 ((one f).0 e)) (λ e. (one f).1 ((two f).0 e)))

-- ---- the first premise that is unmet

-- both give something, or both lack the same premise
abbrev AreAlike : {A : Type 0} → Judged A → Judged A → Type 0
AreAlike (Ok a) (Ok b) = Unit {0}
AreAlike (Err p) (Err q) = p ≡ q
AreAlike (Ok a) (Err q) = ⊥
AreAlike (Err p) (Ok b) = ⊥

record Alike {A : Type 0} (i j : Judged A) : Type 0 where
  is : AreAlike i j

module _ {A : Type 0} where
  alike_self : (j : Judged A) → Alike j j
  alike_self (Ok a) = record { is = tt }
  alike_self (Err p) = record { is = refl }

  alike_given : (a b : A) → Alike {A = A} (Ok a) (Ok b)
  alike_given a b = record { is = tt }

  need_alike : (k : ℕ) (test : Bool) (i j : Judged A) → Alike i j → Alike (need k test i) (need k test j)
  need_alike k true i j a = a
  need_alike k false i j a = record { is = refl }

  and_alike : (k : ℕ) (test : Bool) (i j : Judged A) → Alike i j → Alike (and_need k test i) (and_need k test j)
  and_alike k test (Ok a) (Ok b) alike = need_alike k test (Ok a) (Ok b) alike
  and_alike k test (Err p) (Err q) alike = alike
  and_alike k test (Ok a) (Err q) alike = absurd alike.is
  and_alike k test (Err p) (Ok b) alike = absurd alike.is

  -- two judges of the same instances that are alike judge the same
  one_judged : (i j : Judged A) (Instance : A → Type 0) → IsJudged i Instance → IsJudged j Instance → Alike i j → i ≡ j
  one_judged (Ok a) (Ok b) Instance one other alike = (one b).1 ((other b).0 refl)
  one_judged (Err p) (Err q) Instance one other alike = ap (λ (x : ℕ). Err x) alike.is
  one_judged (Ok a) (Err q) Instance one other alike = absurd alike.is
  one_judged (Err p) (Ok b) Instance one other alike = absurd alike.is

module _ {W A : Type 0} where
  have_alike : (k : ℕ) (o : Option W) (f g : W → Judged A) → ((w : W) → Alike (f w) (g w)) → Alike (have k o f) (have k o g)
  have_alike k None f g alike = record { is = refl }
  have_alike k (Some w) f g alike = alike w

  then_alike : (f : W → A) (i j : Judged W) → Alike i j → Alike (then_give f i) (then_give f j)
  then_alike f (Ok a) (Ok b) alike = record { is = tt }
  then_alike f (Err p) (Err q) alike = record { is = alike.is }
  then_alike f (Ok a) (Err q) alike = absurd alike.is
  then_alike f (Err p) (Ok b) alike = absurd alike.is

-- premises on two operands, whatever comes after them
operands_alike : {I : Type 0} (parts : Option I) (test : Bool) (first second : I → Option NodeId) (give other : I → NodeId → NodeId → List Next)
    → Alike (have 1 parts (λ i. need 2 test (have 3 (first i) (λ a. have 4 (second i) (λ b. Ok (give i a b))))))
    (have 1 parts (λ i. need 2 test (have 3 (first i) (λ a. have 4 (second i) (λ b. Ok (other i a b))))))
operands_alike parts test first second give other =
    have_alike 1 parts _ _ (λ i.
    need_alike 2 test _ _
    (have_alike 3 (first i) _ _ (λ a.
    have_alike 4 (second i) _ _ (λ b. alike_given (give i a b) (other i a b)))))

-- what comes after them
abbrev computed : Operation → Ranges → State → ResultParts → NodeId → NodeId → List Next
computed op range s i a b =
    let before = with_operand (with_operand s i.o) i.o' in
    moved_to i.q (with_result op i.x a b (range before a) (range before b) before) ∷ []

abbrev compared : Ranges → State → TestParts → NodeId → NodeId → List Next
compared range s i a b =
    let before = with_operand (with_operand s i.o) i.o' in
    moved_to i.t (with_atoms before (at_most_atoms a b (range before a) (range before b)))
    ∷ moved_to i.f (with_atoms before (above_atoms a b (range before a) (range before b))) ∷ []

module _ (know : Test) (s : State) where
  computing_alike : (op : Operation) (range other : Ranges) (parts : Option ResultParts)
      → Alike (computing op know range parts s) (computing op know other parts s)
  computing_alike op range other parts =
      operands_alike parts (not (is_false know)) (λ i. operand_node s i.o) (λ i. operand_node (with_operand s i.o) i.o') (computed op range s)
      (computed op other s)

  -- which premise is unmet does not hang on ranges
  step_alike : (range other : Ranges) (flow : Flow) (rule : InstrRule) (p : PointId)
      → Alike (stepping know range flow rule p s) (stepping know other flow rule p s)
  step_alike range other flow S5 p = computing_alike sum range other (add_of (code_at flow p))
  step_alike range other flow S6 p = computing_alike difference range other (sub_of (code_at flow p))
  step_alike range other flow S7 p = computing_alike product range other (mul_of (code_at flow p))
  step_alike range other flow S14 p =
      operands_alike (test_le_of (code_at flow p)) (not (is_false know)) (λ i. operand_node s i.o) (λ i. operand_node (with_operand s i.o) i.o')
      (compared range s) (compared other s)
  step_alike range other flow rule p = alike_self (stepping know range flow rule p s)

  -- nor on the list that is written where a node is forgotten
  forget_alike : (atoms other : List Atom) (node : NodeId) → Alike (forgetting_node know atoms node s) (forgetting_node know other node s)
  forget_alike atoms other node = need_alike 2 _ _ _ (need_alike 3 _ _ _ (need_alike 4 _ _ _ (alike_given _ _)))

-- ---- lines

-- what is known at one branch, known everywhere
abbrev fixed : Knowledge → Test → Option Gap → Knowledge
fixed k know gap = record k { know = λ s. know; gap = λ p s. gap }

module _ (flow : Flow) (defs : List Def) (g : Setting) (b : Path) where
  -- a line asks what is known at its branch alone
  asked_at : (k : Knowledge) (l : Line) → judged_line k flow defs g l b ≡ judged_line (fixed k (k.know b.state) (k.gap b.point b.state)) flow defs g l b
  asked_at k (line.Step rule) = refl
  asked_at k (line.L11 node) = refl
  asked_at k l = refl

  fixed_alike : (k other : Knowledge) (know : Test) (gap : Option Gap) (l : Line)
      → Alike (judged_line (fixed k know gap) flow defs g l b) (judged_line (fixed other know gap) flow defs g l b)
  fixed_alike k other know gap (line.Step rule) =
      need_alike 1 (may_step g b) _ _
      (then_alike (map path_of) (stepping know k.range flow rule b.point b.state) (stepping know other.range flow rule b.point b.state)
      (step_alike know b.state k.range other.range flow rule b.point))
  fixed_alike k other know gap (line.L11 node) =
      and_alike 4 (goal_is_free node b.goal) _ _
      (then_alike (map (with_state b)) (forgetting_node know (k.left b.state node) node b.state) (forgetting_node know (other.left b.state node) node b.state)
      (forget_alike know b.state (k.left b.state node) (other.left b.state node) node))
  fixed_alike k other know gap l = alike_self (judged_line (fixed k know gap) flow defs g l b)

  pub lines_agree : LinesAreJudged → (k other : Knowledge) → IsAsked k flow defs b → IsAsked other flow defs b → (l : Line)
      → judged_line k flow defs g l b ≡ judged_line other flow defs g l b
  lines_agree judged k other asked asked' l =
      one_judged (judged_line k flow defs g l b) (judged_line other flow defs g l b) _ (judged k flow defs g l b asked)
      (judged other flow defs g l b asked') alike
    where
      knows : k.know b.state ≡ other.know b.state
      knows = one_knows (k.know b.state) (other.know b.state) b.state asked.given.tells asked'.given.tells

      gaps : k.gap b.point b.state ≡ other.gap b.point b.state
      gaps =
          one_option (k.gap b.point b.state) (other.gap b.point b.state) (λ gap e. (asked'.gap gap).1 ((asked.gap gap).0 e))
          (λ gap e. (asked.gap gap).1 ((asked'.gap gap).0 e))

      there : judged_line (fixed other (k.know b.state) (k.gap b.point b.state)) flow defs g l b ≡ judged_line other flow defs g l b
      there =
          ap (λ (know : Test). judged_line (fixed other know (k.gap b.point b.state)) flow defs g l b) knows
          ∙ ap (λ (gap : Option Gap). judged_line (fixed other (other.know b.state) gap) flow defs g l b) gaps
          ∙ sym (asked_at other l)

      alike : Alike (judged_line k flow defs g l b) (judged_line other flow defs g l b)
      alike =
          subst (λ (j : Judged (List Path)). Alike j (judged_line other flow defs g l b)) (sym (asked_at k l))
          (subst (Alike (judged_line (fixed k (k.know b.state) (k.gap b.point b.state)) flow defs g l b)) there
          (fixed_alike k other (k.know b.state) (k.gap b.point b.state) l))
