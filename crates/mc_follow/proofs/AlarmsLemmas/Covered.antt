-- Side branches that come of lines have covers.
use Rattle.std.proofs.Common.{◌≡◌, ◌∙◌, inl, inr, ℕ, Bool, true, false, List, [], ◌∷◌, Option, Some, None, option_and_then, refl, sym, subst}
use Rattle.std.specs.List.{find}
use Rattle.std.specs.Prelude.{if◌then◌else◌}
use Rattle.mc_base.specs.declared.ids.EdgeId.{EdgeId}
use Rattle.mc_base.specs.Nodes.{null}
use Rattle.mc_state.specs.declared.line.InstrRule.TheVariants.{S16}
use Rattle.mc_lines.specs.declared.cert.line.Line.{Line}
use Rattle.mc_lines.specs.declared.cert.line.Line.TheVariants.{Step, L12}
use Rattle.mc_flow.specs.declared.defs.rules.Def.{Def}
use Rattle.mc_flow.specs.declared.graph.Flow.{Flow}
use Rattle.mc_state.specs.declared.graph.edge.Edge.{Edge}
use Rattle.mc_state.specs.declared.graph.edge.Edge.TheVariants.{Block, Ind, Seg}
use Rattle.mc_state.specs.Graph.Graph.{Edges}
use Rattle.mc_kernel.specs.Branches.{IsPlain, Path, entry_path, roots}
use Rattle.mc_state.specs.Known.{Test, Tells, is_false}
use Rattle.mc_kernel.specs.Progress.Asked.{at_start, false_or_null, from_start, starts_at}
use Rattle.mc_document.specs.Proof.Lines.{setting_at}
use Rattle.mc_document.specs.Proof.Positions.{Position}
use Rattle.mc_state.specs.Fits.{IsWellMade}
use Rattle.mc_state.specs.State.{State}
use Rattle.mc_exact.specs.Exact.{Picks}
use Rattle.mc_follow.specs.Alarms.Laws.{AssertionsAreCovered, DocumentsAreFollowed}
use Rattle.mc_follow.specs.Alarms.Walks.{AreCovered, IsAtCovered, IsAtFirst, IsAtSide, IsFirstGone, IsFollowed, IsMet, IsTurned}
use Rattle.mc_follow.proofs.AlarmsLemmas.Asserted.{asserted_covered, both_covered, plain_covered}
use Rattle.mc_follow.proofs.AlarmsLemmas.Followed.{told}
use Rattle.mc_follow.proofs.AlarmsLemmas.Plain.{plain_or}

-- the entry is no side branch
pub roots_covered : (flow : Flow) (defs : List Def) (p : Position) → p.branches ≡ roots flow [] → AreCovered defs p.branches
roots_covered flow defs p is = subst (AreCovered defs) (sym is) (plain_covered defs (entry_path flow ∷ []) (refl, tt))

-- where the first branch is gone, the others stay
pub gone_covered : (defs : List Def) (old new : Position) (first : Path) (others : List Path) → old.branches ≡ first ∷ others → IsFirstGone old new
    → AreCovered defs old.branches → AreCovered defs new.branches
gone_covered defs old new first others is gone covered = subst (AreCovered defs) (sym (gone first others is)) (subst (AreCovered defs) is covered).1

pub side_gone : (defs : List Def) (old new : Position) → IsAtSide old → IsFirstGone old new → AreCovered defs old.branches → AreCovered defs new.branches
side_gone defs old new at gone covered = gone_covered defs old new at.first at.others at.branches_are gone covered

-- the first branch's goal has a cover, where it is a side branch
pub at_covered : (defs : List Def) (p : Position) → AreCovered defs p.branches → IsAtSide p → IsAtCovered defs p
at_covered defs p covered at = record {
  first = at.first;
  others = at.others;
  branches_are = at.branches_are;
  goal = at.goal;
  side = at.side;
  covered = (subst (AreCovered defs) at.branches_are covered).0 at.goal at.side;
}

-- the line of a false state or an edge at null asserts nothing
first_asserts_not : (know : Test) (es : Edges) → false_or_null know es ≡ Some (Step S16) → ⊥
first_asserts_not know es e = by (is_false know) e
  where
    from : (o : Option (EdgeId × Edge)) → option_and_then from_start o ≡ Some (Step S16) → ⊥
    from None e = cc e
    from (Some (id, Block at shape fields)) e = cc e
    from (Some (id, Ind at pred args)) e = cc e
    from (Some (id, Seg at args pred «end» ends)) e = cc e

    by : (b : Bool) → (if b then Some L12 else at_start know null es) ≡ Some (Step S16) → ⊥
    by true e = cc e
    by false e = from (find (starts_at know null) es) e

module _ (laws : DocumentsAreFollowed) (flow : Flow) (defs : List Def) (lines : List Line) (p : Position) (text : List ℕ) (ended : ℕ) (tracks : List (Option Picks))
    (f : IsFollowed flow defs lines p text ended tracks) (covers : AssertionsAreCovered) where
  -- a test that tells what is entailed in each well-made state
  record Telling : Type 0 where
    pub know : State → Test
    pub tells : (s : State) → IsWellMade defs flow.vars flow.structs.list s → Tells (know s) s

  telling : Telling
  telling =
      let one = laws.judges flow defs f.valid in
      record {
        know = one.0.know;
        tells = λ s made. (one.2.asked (record { point = record { 0 = 0 }; state = s; goal = None; moved = false; closing = false }) made).given.tells;
      }

  -- what a line makes of the first branch, where that is no side branch, is covered, if its instruction is met where it asserts
  module _ (l : Line) (new : Position) (t : IsTurned flow defs l p new) (plain : IsPlain t.first) (met : l ≡ Step S16 → IsMet flow defs p) where
    next_covered : AreCovered defs t.next
    next_covered = elim (plain_or flow defs (setting_at p) t.first t.next plain l t.instance) [
      | inl all ↦ plain_covered defs t.next all
      | inr a ↦ asserted_covered covers flow defs f.valid t.first (told laws flow defs lines p text ended tracks f t.first t.others t.branches_are).made
          telling.know telling.tells (λ gap. met a.0 t.first t.others gap t.branches_are) (setting_at p) t.next a.1
    ]

    pub turned_covered : AreCovered defs p.branches → AreCovered defs new.branches
    turned_covered all = subst (AreCovered defs) (sym t.come) (both_covered defs t.next t.others next_covered (subst (AreCovered defs) t.branches_are all).1)

  -- the first branch is the one
  pub first_plain : (l : Line) (new : Position) (t : IsTurned flow defs l p new) (b : Path) (others : List Path) → p.branches ≡ b ∷ others → IsPlain b → IsPlain t.first
  first_plain l new t b others is plain = subst IsPlain (same b t.first others t.others (sym is ∙ t.branches_are)) plain
    where
      same : (b c : Path) (bs cs : List Path) → ◌≡◌ {A = List Path} (b ∷ bs) (c ∷ cs) → b ≡ c
      same b c bs cs e = cc e

  -- the line that is asked for first asserts nothing
  pub first_is_no_assertion : (l : Line) → IsAtFirst l p → l ≡ Step S16 → IsMet flow defs p
  first_is_no_assertion l at e =
      let t = told laws flow defs lines p text ended tracks f at.first at.others at.branches_are in
      absurd (first_asserts_not t.know at.first.state.graph.edges (at.asked t.know t.tells ∙ some_same l (Step S16) e))
    where
      some_same : (l m : Line) → l ≡ m → Some l ≡ Some m
      some_same l m e = cc e
