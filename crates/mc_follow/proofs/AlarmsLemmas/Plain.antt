-- What comes of branches that are no side branches.
use Rattle.std.proofs.Common.{◌≡◌, ◌⊎◌, inl, inr, List, [], ◌∷◌, map, Option, Some, None, option_map, refl, sym, ap, subst}
use Rattle.std.specs.List.{AllByRecursion}
use Rattle.mc_base.specs.declared.ids.PointId.{PointId}
use Rattle.mc_state.specs.declared.line.InstrRule.{InstrRule}
use Rattle.mc_state.specs.declared.line.InstrRule.TheVariants.{S1, S2, S3, S4, S5, S6, S7, S8, S9, S10, S11, S12, S13, S14, S15, S16, S17, S18}
use Rattle.mc_lines.specs.declared.cert.line.Line.{Line}
use Rattle.mc_lines.specs.declared.cert.line.Line.TheVariants.{Header, Cut, Head, Pass, End, Step, L1, L2, L3, L4, L5, L6, L7, L8, L9, L10}
use Rattle.mc_lines.specs.declared.cert.line.Line.TheVariants.{L11, L12, L13, L14, L15, C1, C2, C3}
use Rattle.mc_flow.specs.declared.defs.rules.Def.{Def}
use Rattle.mc_flow.specs.declared.graph.Flow.{Flow}
use Rattle.mc_state.specs.declared.goal.Goal.{Goal}
use Rattle.mc_state.specs.State.{State}
use Rattle.mc_rules_steps.specs.Next.{Next}
use Rattle.mc_rules_steps.specs.Steps.{StepIs}
use Rattle.mc_kernel.specs.Branches.{IsPlain, Path, Setting, merged_goal, path_of, path_to, with_state}
use Rattle.mc_kernel.specs.Instances.{ByStep, IsInstance}

-- none is a side branch
abbrev pub ArePlain : List Path → Type 0
ArePlain next = AllByRecursion IsPlain next

-- branches that come of states
of_states : {X : Type 0} (f : X → Path) → ((x : X) → IsPlain (f x)) → (xs : List X) (next : List Path) → next ≡ map f xs → ArePlain next
of_states f each xs next gives = subst ArePlain (sym gives) (all f each xs)
  where
    all : {X : Type 0} (f : X → Path) → ((x : X) → IsPlain (f x)) → (xs : List X) → ArePlain (map f xs)
    all f each [] = tt
    all f each (x ∷ xs) = (each x, all f each xs)

of_nothing : (next : List Path) → next ≡ [] → ArePlain next
of_nothing next gives = subst ArePlain (sym gives) tt

-- ---- successors

-- none has a goal
abbrev HaveNoGoal : List Next → Type 0
HaveNoGoal next = AllByRecursion (λ n. n.goal ≡ None) next

given : (next steps : List Next) → next ≡ steps → HaveNoGoal steps → HaveNoGoal next
given next steps gives none = subst HaveNoGoal (sym gives) none

path_plain : (p : PointId) (s : State) (goal : Option Goal) → goal ≡ None → IsPlain (path_to p s goal)
path_plain p s None e = refl
path_plain p s (Some goal) e = e

paths_plain : (steps : List Next) → HaveNoGoal steps → ArePlain (map path_of steps)
paths_plain [] none = tt
paths_plain (n ∷ steps) none = (path_plain n.point n.state n.goal none.0, paths_plain steps none.1)

by_step : (rule : InstrRule) (flow : Flow) (g : Setting) (b : Path) (next : List Path)
    → ((steps : List Next) → StepIs rule flow b.point b.state steps → HaveNoGoal steps) → ByStep rule flow g b next → ArePlain next
by_step rule flow g b next each i =
    let steps = i.1 in
    subst ArePlain (sym steps.2) (paths_plain steps.0 (each steps.0 steps.1))

-- ---- lines

-- the line is that of an assertion, and an instance
abbrev pub Asserts : Flow → Setting → Line → Path → List Path → Type 0
Asserts flow g l b next = (l ≡ Step S16) × ByStep S16 flow g b next

module _ (flow : Flow) (defs : List Def) (g : Setting) (b : Path) (next : List Path) (plain : IsPlain b) where
  one : (steps : List Next) (n : Next) → n.goal ≡ None → steps ≡ n ∷ [] → HaveNoGoal steps
  one steps n plain_n gives = given steps (n ∷ []) gives (plain_n, tt)

  two : (steps : List Next) (n m : Next) → n.goal ≡ None → m.goal ≡ None → steps ≡ n ∷ m ∷ [] → HaveNoGoal steps
  two steps n m plain_n plain_m gives = given steps (n ∷ m ∷ []) gives (plain_n, (plain_m, tt))

  stepped_or : (rule : InstrRule) → ByStep rule flow g b next → ArePlain next ⊎ Asserts flow g (Step rule) b next
  stepped_or S1 i = inl (by_step S1 flow g b next (λ steps r. one steps _ refl r.gives) i)
  stepped_or S2 i = inl (by_step S2 flow g b next (λ steps r. one steps _ refl r.gives) i)
  stepped_or S3 i = inl (by_step S3 flow g b next (λ steps r. one steps _ refl r.gives) i)
  stepped_or S4 i = inl (by_step S4 flow g b next (λ steps r. one steps _ refl r.gives) i)
  stepped_or S5 i = inl (by_step S5 flow g b next (λ steps r. one steps _ refl r.computes.gives) i)
  stepped_or S6 i = inl (by_step S6 flow g b next (λ steps r. one steps _ refl r.computes.gives) i)
  stepped_or S7 i = inl (by_step S7 flow g b next (λ steps r. one steps _ refl r.computes.gives) i)
  stepped_or S8 i = inl (by_step S8 flow g b next (λ steps r. one steps _ refl r.gives) i)
  stepped_or S9 i = inl (by_step S9 flow g b next (λ steps r. one steps _ refl r.gives) i)
  stepped_or S10 i = inl (by_step S10 flow g b next (λ steps r. two steps _ _ refl refl r.gives) i)
  stepped_or S11 i = inl (by_step S11 flow g b next (λ steps r. one steps _ refl r.gives) i)
  stepped_or S12 i = inl (by_step S12 flow g b next (λ steps r. one steps _ refl r.gives) i)
  stepped_or S13 i = inl (by_step S13 flow g b next (λ steps r. two steps _ _ refl refl r.gives) i)
  stepped_or S14 i = inl (by_step S14 flow g b next (λ steps r. two steps _ _ refl refl r.gives) i)
  stepped_or S15 i = inl (by_step S15 flow g b next (λ steps r. one steps _ refl r.gives) i)
  stepped_or S16 i = inr (refl, i)
  stepped_or S17 i = inl (by_step S17 flow g b next (λ steps r. given steps [] r.gives tt) i)
  stepped_or S18 i = inl (by_step S18 flow g b next (λ steps r. one steps _ refl r.gives) i)

  -- all are plain, but by an assertion
  pub plain_or : (l : Line) → IsInstance flow defs g l b next → ArePlain next ⊎ Asserts flow g l b next
  plain_or (Step rule) i = stepped_or rule i
  plain_or (L1 edge) i = inl (of_states (with_state b) (λ s. plain) i.1.0 next i.1.2)
  plain_or (L2 edge) i = inl (of_states (with_state b) (λ s. plain) i.1.0 next i.1.2)
  plain_or (L15 edge) i = inl (of_states (with_state b) (λ s. plain) i.1.0 next i.1.2)
  plain_or (L3 fold) i = inl (of_states _ (λ s. plain) i.0 next i.2)
  plain_or (L4 fold) i = inl (of_states _ (λ s. plain) i.0 next i.2)
  plain_or (L5 first second) i = inl (of_states _ (λ s. plain) i.0 next i.2)
  plain_or (L6 first second) i = inl (of_states _ (λ s. plain) i.0 next i.2)
  plain_or (L7 pred at args stop ends) i = inl (of_states _ (λ s. plain) i.0 next i.2)
  plain_or (L8 node add kind) i = inl (of_states _ (λ s. plain) i.0 next i.2)
  plain_or (L9 keep gone) i = inl (of_states _ (λ s. ap (λ (goal : Option Goal). option_map (merged_goal keep gone) goal) plain) i.0 next i.2)
  plain_or (L10 edge) i = inl (of_states (with_state b) (λ s. plain) i.0 next i.2)
  plain_or (L11 node) i = inl (of_states (with_state b) (λ s. plain) i.1.0 next i.1.2)
  plain_or L12 i = inl (of_nothing next i.2)
  plain_or (L13 j images edges) i = inl (of_nothing next i.gives)
  plain_or (L14 edge) i = inl (of_nothing next i.gives)
  plain_or C1 i = inl (of_nothing next i.gives)
  plain_or (Header version form) i = absurd i
  plain_or (Cut p) i = absurd i
  plain_or (Head p raw) i = absurd i
  plain_or Pass i = absurd i
  plain_or End i = absurd i
  plain_or (C2 tries) i = absurd i
  plain_or (C3 j steps) i = absurd i
