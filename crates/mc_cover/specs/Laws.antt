-- What is first is a cover, there is none only where none exists, and the guess is the one that there is.
use Rattle.std.specs.Prelude.{◌≡◌, ◌↔◌, ◌≤◌, ℕ, List, Option, Some, None, true, slice_get}
use Rattle.mc_base.specs.declared.ids.PredId.{PredId}
use Rattle.mc_flow.specs.declared.defs.rules.Def.{Def}
use Rattle.mc_flow.specs.Defs.Conditions.{IsDefs}
use Rattle.mc_state.specs.Graph.Graph.{Edges, IdsAscend}
use Rattle.mc_state.specs.declared.terms.Term.{Term}
use Rattle.mc_state.specs.Covers.{Cover, SegCover}
use Rattle.mc_state.specs.Guess.{Guess}
use Rattle.mc_state.specs.State.{State}
use Rattle.mc_state.specs.Known.{Test, Tells}
use Rattle.mc_state.specs.Named.{others, are_there, are_distinct}
use Rattle.mc_shape_search.specs.Search.Search.{first_try}
use Rattle.mc_cover.specs.First.{Choice, limit, first_marks, first_for, first_cover, first_seg_cover}
use Rattle.mc_cover.specs.Goals.{Stop, Goal, Setting}
use Rattle.mc_cover.specs.Guessed.{guess}
use Rattle.mc_cover.specs.Near.{near_space}

-- the first cover is a cover
abbrev pub FirstIsCover : Type 0
FirstIsCover =
    (know : Test) (defs : List Def) (s : State) (pred : PredId) (at : Term) (args : List Term) (es : Edges)
    (found : Choice)
    → IsDefs defs → Tells know s
    → first_cover know defs pred at args es ≡ Some found → Cover defs s pred at args es found.left

-- the first segment cover is a segment cover
abbrev pub FirstIsSegCover : Type 0
FirstIsSegCover =
    (know : Test) (defs : List Def) (s : State) (pred : PredId) (at : Term) (args : List Term)
    («end» : Term) (ends : List Term) (es : Edges) (found : Choice)
    → IsDefs defs → Tells know s
    → first_seg_cover know defs pred at args end ends es ≡ Some found
    → SegCover defs s pred at args end ends es found.left

-- the edges of the first way to meet a goal are there, each once, and the others are left
abbrev pub FirstTakesEdges : Type 0
FirstTakesEdges =
    (w : Setting) (g : Goal) (found : Choice) → first_for w g ≡ Some found
    → (are_distinct found.used ≡ true) × (are_there w.edges found.used ≡ true) × (found.left ≡ others w.edges found.used)

-- there is no first cover exactly where there is no cover
abbrev pub NoFirstNoCover : Type 0
NoFirstNoCover =
    (know : Test) (defs : List Def) (s : State) (pred : PredId) (at : Term) (args : List Term) (es : Edges) (high : ℕ)
    → IsDefs defs → Tells know s → IdsAscend 0 es high
    → (first_cover know defs pred at args es ≡ None) ↔ ((left : Edges) → Cover defs s pred at args es left → ⊥)

-- there is no first segment cover exactly where there is no segment cover
abbrev pub NoFirstNoSegCover : Type 0
NoFirstNoSegCover =
    (know : Test) (defs : List Def) (s : State) (pred : PredId) (at : Term) (args : List Term)
    («end» : Term) (ends : List Term) (es : Edges) (high : ℕ)
    → IsDefs defs → Tells know s → IdsAscend 0 es high
    → (first_seg_cover know defs pred at args end ends es ≡ None)
    ↔ ((left : Edges) → SegCover defs s pred at args end ends es left → ⊥)

-- of a predicate that is defined there is one guess, and this is it
abbrev pub GuessIsTheGuess : Type 0
GuessIsTheGuess =
    (know : Test) (defs : List Def) (s : State) (pred : PredId) (def : Def) (at : Term) (stop : Option Stop)
    (es : Edges) (high : ℕ) (guessed : List Term)
    → IsDefs defs → Tells know s → IdsAscend 0 es high → slice_get defs pred.0 ≡ Some def
    → Guess defs s pred at stop es guessed ↔ (guessed ≡ guess know defs pred at stop es)

-- of a predicate that is not defined there is none
abbrev pub NoGuessUndefined : Type 0
NoGuessUndefined =
    (defs : List Def) (s : State) (pred : PredId) (at : Term) (stop : Option Stop) (es : Edges) (guessed : List Term)
    → slice_get defs pred.0 ≡ None → Guess defs s pred at stop es guessed → ⊥

-- what edges that start where the goal stands give first, with at most so many marks or more, is what is first
abbrev pub NearIsFirst : Type 0
NearIsFirst =
    (w : Setting) (g : Goal) (high n : ℕ) → IsDefs w.defs → IdsAscend 0 w.edges high → limit w ≤ n
    → first_try (near_space w) n g ≡ first_marks w g
