-- The tracks of open branches and the alarms go on with the lines.
use Rattle.std.proofs.Common.{◌≡◌, ◌++◌, ◌∷◌, ◌∙◌, ℕ, List, [], true, Option, Some, None, length, map, refl, replicate, sym, ap, ap₂, subst}
use Rattle.std.proofs.lemmas.List.{map-append}
use Rattle.mc_base.specs.declared.ids.NodeId.{NodeId}
use Rattle.mc_flow.specs.declared.defs.rules.Def.{Def}
use Rattle.mc_flow.specs.declared.graph.Flow.{Flow}
use Rattle.mc_state.specs.declared.line.InstrRule.TheVariants as step
use Rattle.mc_state.specs.State.{State, next_node}
use Rattle.mc_rules_steps.specs.declared.gap.Gap.{Gap}
use Rattle.mc_rules_steps.specs.Unmet.{IsUnmet}
use Rattle.mc_lines.specs.declared.cert.line.Line.{Line}
use Rattle.mc_lines.specs.declared.cert.line.Line.TheVariants as line
use Rattle.mc_kernel.specs.Branches.{IsPlain, Path}
use Rattle.mc_kernel.specs.Instances.{IsInstance}
use Rattle.mc_kernel.specs.Progress.Progress.{advances}
use Rattle.mc_exact.specs.Exact.{Picks}
use Rattle.mc_exact.specs.Marks.{Alarm, Branch, IsMark, Tracked, alone, followed, inexact, ruled, stuck}
use Rattle.mc_exact.specs.Tracks.{Track, picked}
use Rattle.mc_follow.specs.Alarms.Tracks.{come, is_allocation, tracks_after}
use Rattle.mc_follow.specs.Alarms.Walks.{IsMarkedTo}
use Rattle.mc_follow.proofs.AlarmsLemmas.Coming.{count_is}

-- ---- the branches that come of a line, and their tracks

lost_paths : (next : List Path) → map (λ (c : Branch). c.0) (inexact next) ≡ next
lost_paths [] = refl
lost_paths (n ∷ next) = ap (λ (bs : List Path). n ∷ bs) (lost_paths next)

lost_tracks : (next : List Path) → map (λ (c : Branch). c.1) (inexact next) ≡ replicate (length next) None
lost_tracks [] = refl
lost_tracks (n ∷ next) = ap (λ (ts : List (Option Picks)). None ∷ ts) (lost_tracks next)

-- those of an exact branch that stay so
abbrev exactly : List Track → List Branch
exactly ts = map (λ t. (t.0, Some t.1)) ts

kept_paths : (picks : Picks) (next : List Path) → map (λ (c : Branch). c.0) (exactly (map (λ n. (n, picks)) next)) ≡ next
kept_paths picks [] = refl
kept_paths picks (n ∷ next) = ap (λ (bs : List Path). n ∷ bs) (kept_paths picks next)

kept_tracks : (picks : Picks) (next : List Path) → map (λ (c : Branch). c.1) (exactly (map (λ n. (n, picks)) next)) ≡ replicate (length next) (Some picks)
kept_tracks picks [] = refl
kept_tracks picks (n ∷ next) = ap (λ (ts : List (Option Picks)). Some picks ∷ ts) (kept_tracks picks next)

forked_paths : (s : State) (picks : Picks) (next : List Path) → map (λ (c : Branch). c.0) (exactly (picked s picks next)) ≡ next
forked_paths s picks [] = refl
forked_paths s picks (a ∷ []) = refl
forked_paths s picks (a ∷ b ∷ next) = ap (λ (bs : List Path). a ∷ b ∷ bs) (kept_paths picks next)

forked_tracks : (s : State) (picks : Picks) (next : List Path) → length next ≡ 2
    → map (λ (c : Branch). c.1) (exactly (picked s picks next)) ≡ Some (picks ++ None ∷ []) ∷ Some (picks ++ Some (next_node s) ∷ []) ∷ []
forked_tracks s picks [] e = cc e
forked_tracks s picks (a ∷ []) e = cc e
forked_tracks s picks (a ∷ b ∷ []) e = refl
forked_tracks s picks (a ∷ b ∷ c ∷ next) e = cc e

paths_after : (l : Line) (b : Path) (picks : Picks) (next : List Path) → map (λ (c : Branch). c.0) (followed l (b, Some picks) next) ≡ next
paths_after (line.Step step.S10) b picks next = forked_paths b.state picks next
paths_after (line.Step step.S1) b picks next = kept_paths picks next
paths_after (line.Step step.S2) b picks next = kept_paths picks next
paths_after (line.Step step.S3) b picks next = kept_paths picks next
paths_after (line.Step step.S5) b picks next = kept_paths picks next
paths_after (line.Step step.S6) b picks next = kept_paths picks next
paths_after (line.Step step.S7) b picks next = kept_paths picks next
paths_after (line.Step step.S8) b picks next = kept_paths picks next
paths_after (line.Step step.S9) b picks next = kept_paths picks next
paths_after (line.Step step.S11) b picks next = kept_paths picks next
paths_after (line.Step step.S12) b picks next = kept_paths picks next
paths_after (line.Step step.S13) b picks next = kept_paths picks next
paths_after (line.Step step.S14) b picks next = kept_paths picks next
paths_after (line.Step step.S17) b picks next = kept_paths picks next
paths_after (line.Step step.S18) b picks next = kept_paths picks next
paths_after other b picks next = lost_paths next

tracks_are : (l : Line) (b : Path) (picks : Picks) (next : List Path) → (is_allocation l ≡ true → length next ≡ 2)
    → map (λ (c : Branch). c.1) (followed l (b, Some picks) next) ≡ tracks_after l (next_node b.state) (Some picks) (length next)
tracks_are (line.Step step.S10) b picks next two = forked_tracks b.state picks next (two refl)
tracks_are (line.Step step.S1) b picks next two = kept_tracks picks next
tracks_are (line.Step step.S2) b picks next two = kept_tracks picks next
tracks_are (line.Step step.S3) b picks next two = kept_tracks picks next
tracks_are (line.Step step.S5) b picks next two = kept_tracks picks next
tracks_are (line.Step step.S6) b picks next two = kept_tracks picks next
tracks_are (line.Step step.S7) b picks next two = kept_tracks picks next
tracks_are (line.Step step.S8) b picks next two = kept_tracks picks next
tracks_are (line.Step step.S9) b picks next two = kept_tracks picks next
tracks_are (line.Step step.S11) b picks next two = kept_tracks picks next
tracks_are (line.Step step.S12) b picks next two = kept_tracks picks next
tracks_are (line.Step step.S13) b picks next two = kept_tracks picks next
tracks_are (line.Step step.S14) b picks next two = kept_tracks picks next
tracks_are (line.Step step.S17) b picks next two = kept_tracks picks next
tracks_are (line.Step step.S18) b picks next two = kept_tracks picks next
tracks_are other b picks next two = lost_tracks next

-- an allocation has two branches
allocates_two : (defs : List Def) (s : State) (l : Line) → is_allocation l ≡ true → come defs s l ≡ 2
allocates_two defs s (line.Step step.S10) e = refl
allocates_two defs s other e = absurd (cc e)

module _ (flow : Flow) (defs : List Def) where
  followed_paths : (l : Line) (c : Branch) (next : List Path) → map (λ (d : Branch). d.0) (followed l c next) ≡ next
  followed_paths l (b, None) next = lost_paths next
  followed_paths l (b, Some picks) next = paths_after l b picks next

  followed_tracks : (l : Line) (c : Branch) (next : List Path) → IsInstance flow defs alone l c.0 next
      → map (λ (d : Branch). d.1) (followed l c next) ≡ tracks_after l (next_node c.0.state) c.1 (come defs c.0.state l)
  followed_tracks l (b, None) next i = lost_tracks next ∙ ap (λ (n : ℕ). replicate n None) (count_is flow defs alone b next l i)
  followed_tracks l (b, Some picks) next i =
      let count = count_is flow defs alone b next l i in
      tracks_are l b picks next (λ e. count ∙ allocates_two defs b.state l e) ∙ ap (tracks_after l (next_node b.state) (Some picks)) count

  -- ---- lines

  module _ (rules : List Line) (branches : List Path) (tracks : List (Option Picks)) (alarms : List Alarm) where
    -- the first open branch, with its track, and the others
    pub record IsAtFirstTrack (b : Path) (others : List Path) : Type 0 where
      pub track : Option Picks
      pub rest : List Branch
      pub tracks_are : tracks ≡ track ∷ map (λ (c : Branch). c.1) rest
      pub others_are : others ≡ map (λ (c : Branch). c.0) rest
      pub tracked : Tracked flow defs rules ((b, track) ∷ rest) alarms

    pub first_track : (b : Path) (others : List Path) → branches ≡ b ∷ others → IsMarkedTo flow defs rules branches tracks alarms → IsAtFirstTrack b others
    first_track b others is m = by m.is_open m.tracked (sym is ∙ m.branches_are) m.tracks_are
      where
        by : (cs : List Branch) → Tracked flow defs rules cs alarms → b ∷ others ≡ map (λ (c : Branch). c.0) cs → tracks ≡ map (λ (c : Branch). c.1) cs → IsAtFirstTrack b others
        by [] t bs ts = absurd (cc bs)
        by (c ∷ cs) t bs ts = record {
          track = c.1;
          rest = cs;
          tracks_are = ts;
          others_are = others_same b c.0 others (map (λ (c : Branch). c.0) cs) bs;
          tracked = subst (λ (d : Path). Tracked flow defs rules ((d, c.1) ∷ cs) alarms) (sym (first_same b c.0 others (map (λ (c : Branch). c.0) cs) bs)) t;
        }
          where
            first_same : (b c : Path) (bs cs : List Path) → ◌≡◌ {A = List Path} (b ∷ bs) (c ∷ cs) → b ≡ c
            first_same b c bs cs e = cc e

            others_same : (b c : Path) (bs cs : List Path) → ◌≡◌ {A = List Path} (b ∷ bs) (c ∷ cs) → bs ≡ cs
            others_same b c bs cs e = cc e

    -- a line that advances the first branch, unless that is a side branch
    pub marked_more : (l : Line) (b : Path) (others next after : List Path) (node : NodeId) (count : ℕ) (new : List (Option Picks))
        → IsMarkedTo flow defs rules branches tracks alarms → branches ≡ b ∷ others → (IsPlain b → advances l ≡ true) → IsInstance flow defs alone l b next
        → after ≡ next ++ others → node ≡ next_node b.state → count ≡ come defs b.state l
        → ((track : Option Picks) (rest : List (Option Picks)) → tracks ≡ track ∷ rest → new ≡ tracks_after l node track count ++ rest)
        → IsMarkedTo flow defs (rules ++ l ∷ []) after new alarms
    marked_more l b others next after node count new m is fits i come_are node_is count_is turned =
        let f = first_track b others is m in
        let c : Branch = (b, f.track) in
        let cs = followed l c next in
        record {
          is_open = cs ++ f.rest;
          branches_are = come_are ∙ ap₂ (λ (bs ds : List Path). bs ++ ds) (sym (followed_paths l c next)) f.others_are ∙ sym (map-append (λ (d : Branch). d.0) cs f.rest);
          tracks_are = turned f.track (map (λ (d : Branch). d.1) f.rest) f.tracks_are
              ∙ ap₂ (λ (n : NodeId) (k : ℕ). tracks_after l n f.track k ++ map (λ (d : Branch). d.1) f.rest) node_is count_is
              ∙ ap (λ (ts : List (Option Picks)). ts ++ map (λ (d : Branch). d.1) f.rest) (sym (followed_tracks l c next i))
              ∙ sym (map-append (λ (d : Branch). d.1) cs f.rest);
          tracked = ruled l c next f.tracked fits i;
        }

    -- a branch that is stuck
    pub marked_stuck : (b : Path) (others next after : List Path) (gap : Gap) (mark : Option (List ℕ)) (new : List (Option Picks))
        → IsMarkedTo flow defs rules branches tracks alarms → branches ≡ b ∷ others → IsInstance flow defs alone line.C1 b next → after ≡ others
        → IsUnmet flow defs b.point b.state gap
        → ((track : Option Picks) (rest : List (Option Picks)) → tracks ≡ track ∷ rest → IsMark b.state track gap mark × (new ≡ rest))
        → IsMarkedTo flow defs (rules ++ line.C1 ∷ []) after new (alarms ++ (b, mark) ∷ [])
    marked_stuck b others next after gap mark new m is i gone unmet turned =
        let f = first_track b others is m in
        let t = turned f.track (map (λ (d : Branch). d.1) f.rest) f.tracks_are in
        record {
          is_open = f.rest;
          branches_are = gone ∙ f.others_are;
          tracks_are = t.1;
          tracked = stuck (b, f.track) next gap mark f.tracked i unmet t.0;
        }

    -- where none is open
    pub ended_tracks : branches ≡ [] → IsMarkedTo flow defs rules branches tracks alarms → Tracked flow defs rules [] alarms
    ended_tracks none m = by m.is_open m.tracked (sym none ∙ m.branches_are)
      where
        by : (cs : List Branch) → Tracked flow defs rules cs alarms → [] ≡ map (λ (c : Branch). c.0) cs → Tracked flow defs rules [] alarms
        by [] t e = t
        by (c ∷ cs) t e = absurd (cc e)
