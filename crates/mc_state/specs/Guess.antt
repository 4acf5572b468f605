-- The arguments with which a predicate may hold at a term.
use Rattle.std.specs.Prelude.{◌≡◌, ◌⊎◌, ◌≤◌, ◌<◌, ℕ, zero, suc, List, [], ◌∷◌, ◌++◌, ℤ, pos, negsuc, ◌+ℤ◌, ◌-ℤ◌}
use Rattle.std.specs.Prelude.{◌≤ℤ◌, int_le, ◌&&◌, Bool, true, false, Option, Some, None, length, map, replicate}
use Rattle.std.specs.Prelude.{slice_get, slice_set, if◌then◌else◌}
use Rattle.mc_base.specs.declared.ids.EdgeId.{EdgeId}
use Rattle.mc_base.specs.declared.ids.NodeId.{NodeId}
use Rattle.mc_base.specs.declared.ids.PredId.{PredId}
use Rattle.mc_base.specs.declared.ids.StructId.{StructId}
use Rattle.mc_flow.specs.declared.defs.rules.Call.{Call}
use Rattle.mc_flow.specs.declared.defs.rules.Def.{Def}
use Rattle.mc_flow.specs.declared.defs.rules.DefAtom.{DefAtom}
use Rattle.mc_flow.specs.declared.defs.rules.DefAtom.TheVariants.{Eq, Ne, In}
use Rattle.mc_flow.specs.declared.defs.rules.Rule.{Rule}
use Rattle.mc_state.specs.declared.graph.edge.Edge.{Edge}
use Rattle.mc_state.specs.declared.graph.edge.Edge.TheVariants.{Block, Ind, Seg}
use Rattle.mc_state.specs.Graph.Graph.{Edges, edge_with, without}
use Rattle.mc_state.specs.declared.terms.Term.{Term}
use Rattle.mc_state.specs.State.{State}
use Rattle.mc_state.specs.Terms.{plain, plus, zero_term, AreEqualTerms}

-- the terms of names, of which some have none yet
abbrev pub Partial : Type 0
Partial = List (Option Term)

-- a name keeps the first term that it gets
abbrev pub first_kept : Option Term → Option Term → Option Term
first_kept None new = new
first_kept (Some t) new = Some t

-- the term of a name, if it has one
abbrev pub given : Partial → ℕ → Option Term
given [] name = None
given (t ∷ ts) zero = t
given (t ∷ ts) (suc name) = given ts name

-- a name gets a term, if it has none yet
abbrev pub give : Partial → ℕ → Option Term → Partial
give [] name new = []
give (t ∷ ts) zero new = first_kept t new ∷ ts
give (t ∷ ts) (suc name) new = t ∷ give ts name new

-- a term whose number would lie outside the bounds of offsets is not taken
abbrev pub bounded : Term → Option Term
bounded t = if int_le (negsuc 4611686022722355199) t.add && int_le t.add (pos 4611686022722355200) then Some t else None

-- a number more, where there is a term
abbrev pub moved_by : ℤ → Option Term → Option Term
moved_by c None = None
moved_by c (Some t) = bounded (plus t c)

-- the term of a base: that of a name if it has one, or zero
abbrev pub base_given : Partial → Option ℕ → Option Term
base_given names None = Some zero_term
base_given names (Some name) = given names name

-- the name of a base gets a term
abbrev pub give_base : Partial → Option ℕ → Option Term → Partial
give_base names None new = names
give_base names (Some name) new = give names name new

-- an equality with one side given gives the other
abbrev pub by_atom : Partial → DefAtom → Partial
by_atom names (Eq left base add fixes) =
    give_base (give names left (moved_by add (base_given names base))) base (moved_by (pos 0 -ℤ add) (given names left))
by_atom names (Ne left base add) = names
by_atom names (In left lo hi) = names

-- all atoms, in order
abbrev pub by_atoms : Partial → List DefAtom → Partial
by_atoms names [] = names
by_atoms names (atom ∷ atoms) = by_atoms (by_atom names atom) atoms

-- again and again
abbrev pub by_passes : ℕ → Partial → List DefAtom → Partial
by_passes zero names atoms = names
by_passes (suc passes) names atoms = by_passes passes (by_atoms names atoms) atoms

-- until nothing changes
abbrev pub Settles : Partial → List DefAtom → Partial → Type 0
Settles names atoms settled = (passes : ℕ) × (settled ≡ by_passes passes names atoms) × (by_atoms settled atoms ≡ settled)

-- where a guess is made: a predicate, at a term, with these edges unused
abbrev pub Guessing : Type 1
Guessing = PredId → Term → Edges → List Term → Type 0

-- the names of a call's arguments that have no term yet take what is guessed where the call stands, if it has a term
abbrev pub give_all : Partial → List ℕ → List Term → Partial
give_all names [] ts = names
give_all names (arg ∷ args) [] = names
give_all names (arg ∷ args) (t ∷ ts) = give_all (give names arg (bounded t)) args ts

-- where the call stands at a term, its arguments take what is guessed there
abbrev pub ByCall : Guessing → PredId → Edges → Call → Option Term → Partial → Partial → Type 0
ByCall M pred es call None before after = after ≡ before
ByCall M pred es call (Some at) before after = (ts : List Term) × M pred at es ts × (after ≡ give_all before call.args ts)

-- the calls of the predicate itself, in order
abbrev pub ByCalls : Guessing → PredId → Edges → List Call → Partial → Partial → Type 0
ByCalls M pred es [] before after = after ≡ before
ByCalls M pred es (call ∷ calls) before after =
    (mid : Partial)
    × ((call.pred ≡ pred × ByCall M pred es call (given before call.at) before mid) ⊎ ((call.pred ≡ pred → ⊥) × (mid ≡ before)))
    × ByCalls M pred es calls mid after

-- `this` and the contents have terms, and no other name
abbrev pub begun : Rule → ℕ → Term → List NodeId → Partial
begun rule params at contents =
    Some at ∷ (replicate params None ++ (map (λ n. Some (plain n)) contents ++ replicate (length rule.names) None))

-- the parameters' terms, zero where there is none
abbrev pub or_zero : Option Term → Term
or_zero None = zero_term
or_zero (Some t) = t

-- the parameters' terms, zero where there is none
abbrev pub parameters_of : Partial → ℕ → ℕ → List Term
parameters_of names first zero = []
parameters_of names first (suc count) = or_zero (given names first) ∷ parameters_of names (suc first) count

-- what a rule gives
abbrev pub ByRule : Guessing → PredId → Def → Rule → Term → List NodeId → Edges → List Term → Type 0
ByRule M pred def rule at contents es guess =
    (mid : Partial) × (settled : Partial)
    × ByCalls M pred es rule.calls (begun rule (length def.params) at contents) mid × Settles mid rule.atoms settled
    × (guess ≡ parameters_of settled 1 (length def.params))

-- an unused block of a struct lies at the term, and all its fields are known
abbrev pub HasWholeBlock : State → Term → Edges → StructId → EdgeId → List NodeId → Type 0
HasWholeBlock s at es shape id contents =
    (b : NodeId) × (edge_with es id ≡ Some (Block b shape (map Some contents))) × AreEqualTerms s at (plain b)

-- an unused Ind or Seg of the predicate lies there, with these arguments
abbrev pub HasSummary : State → PredId → Term → Edges → EdgeId → List NodeId → Type 0
HasSummary s pred at es id args =
    (b : NodeId) × AreEqualTerms s at (plain b)
    × ((edge_with es id ≡ Some (Ind b pred args))
    ⊎ ((e : NodeId) × (ends : List NodeId) × (edge_with es id ≡ Some (Seg b args pred e ends))))

-- the stop is reached
abbrev pub Stops : State → Term → Option (Term × List Term) → List Term → Type 0
Stops s at None guess = ⊥
Stops s at (Some stop) guess = AreEqualTerms s at stop.0 × (guess ≡ stop.1)

-- the arguments of the least such edge
abbrev pub BySummary : State → PredId → Term → Edges → List Term → Type 0
BySummary s pred at es guess =
    (id : EdgeId) × (args : List NodeId) × HasSummary s pred at es id args × (guess ≡ map plain args)
    × ((other : EdgeId) (others : List NodeId) → HasSummary s pred at es other others → id.0 ≤ other.0)

-- the first rule whose struct is that of such a block, with the least such block
abbrev pub ByBlock : Guessing → Def → State → PredId → Term → Edges → List Term → Type 0
ByBlock M def s pred at es guess =
    (place : ℕ) × (rule : Rule) × (shape : StructId) × (id : EdgeId) × (contents : List NodeId)
    × (slice_get def.rules place ≡ Some rule) × (rule.block ≡ Some shape) × HasWholeBlock s at es shape id contents
    × ((earlier : ℕ) (other : Rule) (own : StructId) (i : EdgeId) (ns : List NodeId) → earlier < place
    → slice_get def.rules earlier ≡ Some other → other.block ≡ Some own → HasWholeBlock s at es own i ns → ⊥)
    × ((i : EdgeId) (ns : List NodeId) → HasWholeBlock s at es shape i ns → id.0 ≤ i.0)
    × ByRule M pred def rule at contents (without es id) guess

-- the first rule without a block
abbrev pub ByEmptyRule : Guessing → Def → PredId → Term → Edges → List Term → Type 0
ByEmptyRule M def pred at es guess =
    (place : ℕ) × (rule : Rule) × (slice_get def.rules place ≡ Some rule) × (rule.block ≡ None)
    × ((earlier : ℕ) (other : Rule) → earlier < place → slice_get def.rules earlier ≡ Some other → other.block ≡ None → ⊥)
    × ByRule M pred def rule at [] es guess

-- one of two: the first, or, where it gives nothing, the second
abbrev pub FirstOf : (List Term → Type 0) → (List Term → Type 0) → List Term → Type 0
FirstOf P Q guess = P guess ⊎ (((other : List Term) → P other → ⊥) × Q guess)

-- the guess: the stop's arguments, those of an edge there, what a rule with a block there gives, what one without a block gives, or zeros
abbrev pub GuessAt : List Def → State → Option (Term × List Term) → ℕ → Guessing
GuessAt defs s stop zero pred at es guess = ⊥
GuessAt defs s stop (suc k) pred at es guess =
    (def : Def) × (slice_get defs pred.0 ≡ Some def)
    × FirstOf (Stops s at stop)
    (FirstOf (BySummary s pred at es)
    (FirstOf (ByBlock (GuessAt defs s stop k) def s pred at es)
    (FirstOf (ByEmptyRule (GuessAt defs s stop k) def pred at es) (λ g. g ≡ replicate (length def.params) zero_term)))) guess

-- by so many guesses, one within the other, as there are edges and one more
abbrev pub Guess : List Def → State → PredId → Term → Option (Term × List Term) → Edges → List Term → Type 0
Guess defs s pred at stop es guess = GuessAt defs s stop (suc (length es)) pred at es guess
