-- The guess of a predicate's arguments, as a function.
use Rattle.std.specs.Prelude.{◌==◌, ◌&&◌, ℕ, zero, suc, List, [], ◌∷◌, Option, Some, None, length, map, replicate, option_map, slice_get, unwrap_or, if◌then◌else◌}
use Rattle.mc_base.specs.declared.ids.EdgeId.{EdgeId}
use Rattle.mc_base.specs.declared.ids.NodeId.{NodeId}
use Rattle.mc_base.specs.declared.ids.PredId.{PredId}
use Rattle.mc_base.specs.declared.ids.StructId.{StructId}
use Rattle.mc_flow.specs.declared.defs.rules.Call.{Call}
use Rattle.mc_flow.specs.declared.defs.rules.Def.{Def}
use Rattle.mc_flow.specs.declared.defs.rules.DefAtom.{DefAtom}
use Rattle.mc_flow.specs.declared.defs.rules.Rule.{Rule}
use Rattle.mc_state.specs.declared.graph.edge.Edge.{Edge}
use Rattle.mc_state.specs.declared.graph.edge.Edge.TheVariants.{Block, Ind, Seg}
use Rattle.mc_state.specs.Graph.Graph.{Edges, without}
use Rattle.mc_state.specs.declared.terms.Term.{Term}
use Rattle.mc_state.specs.Terms.{plain, zero_term}
use Rattle.mc_state.specs.Guess.{Partial, given, give_all, by_passes, begun, parameters_of}
use Rattle.mc_state.specs.Known.{Test}
use Rattle.mc_cover.specs.Goals.{Stop, whole_block}
use Rattle.mc_cover.specs.Terms.{equal_terms}

-- one of two options: the first, or, where it is none, the second
abbrev pub or_else : {X : Type 0} → Option X → Option X → Option X
or_else None other = other
or_else (Some x) other = Some x

-- the first edge of which something is known, and what that is
abbrev pub first_edge : {X : Type 0} → (Edge → Option X) → Edges → Option (EdgeId × X)
first_edge f [] = None
first_edge f (e ∷ es) = or_else (option_map (λ x. (e.0, x)) (f e.1)) (first_edge f es)

-- the arguments of an Ind or Seg of the predicate at an equal node
abbrev pub summary_of : Test → PredId → Term → Edge → Option (List NodeId)
summary_of know pred at (Block b shape fields) = None
summary_of know pred at (Ind b own args) = if own.0 == pred.0 && equal_terms know at (plain b) then Some args else None
summary_of know pred at (Seg b args own «end» ends) =
    if own.0 == pred.0 && equal_terms know at (plain b) then Some args else None

-- a block for a rule: its id, and the nodes of its fields
pub record BlockFor : Type 0 where
  pub rule : Rule
  pub id : EdgeId
  pub contents : List NodeId

-- the least block of a rule's struct there
abbrev pub block_of_rule : Test → Term → Edges → Rule → Option StructId → Option BlockFor
block_of_rule know at es rule None = None
block_of_rule know at es rule (Some shape) =
    option_map (λ (b : EdgeId × List NodeId). record { rule = rule; id = b.0; contents = b.1 })
    (first_edge (whole_block know at shape) es)

-- the first rule whose block is there, with it
abbrev pub first_block : Test → Term → Edges → List Rule → Option BlockFor
first_block know at es [] = None
first_block know at es (rule ∷ rules) =
    or_else (block_of_rule know at es rule rule.block) (first_block know at es rules)

-- the rule, if it has no block
abbrev pub if_empty : Rule → Option StructId → Option Rule
if_empty rule None = Some rule
if_empty rule (Some shape) = None

-- the first rule without a block
abbrev pub first_empty : List Rule → Option Rule
first_empty [] = None
first_empty (rule ∷ rules) = or_else (if_empty rule rule.block) (first_empty rules)

-- a guess in any place
abbrev pub Guesses : Type 0
Guesses = PredId → Term → Edges → List Term

-- where the call stands at a term, its arguments take what is guessed there
abbrev pub after_call : Guesses → PredId → Edges → Call → Option Term → Partial → Partial
after_call M pred es call None names = names
after_call M pred es call (Some at) names = give_all names call.args (M pred at es)

-- the calls of the predicate itself, in order
abbrev pub after_calls : Guesses → PredId → Edges → List Call → Partial → Partial
after_calls M pred es [] names = names
after_calls M pred es (call ∷ calls) names =
    after_calls M pred es calls
    (if call.pred.0 == pred.0 then after_call M pred es call (given names call.at) names else names)

-- the atoms' equalities, again and again: no name gets a term twice, so as many passes as names suffice
abbrev pub settled : Partial → List DefAtom → Partial
settled names atoms = by_passes (length names) names atoms

-- what a rule gives
abbrev pub given_by_rule : Guesses → PredId → Def → Rule → Term → List NodeId → Edges → List Term
given_by_rule M pred def rule at contents es =
    parameters_of (settled (after_calls M pred es rule.calls (begun rule (length def.params) at contents)) rule.atoms)
    1 (length def.params)

-- the arguments of the least Ind or Seg of the predicate there
abbrev pub by_summary : Test → PredId → Term → Edges → Option (List Term)
by_summary know pred at es =
    option_map (λ (found : EdgeId × List NodeId). map plain found.1) (first_edge (summary_of know pred at) es)

-- what the first rule gives whose block is there
abbrev pub by_block : Test → Guesses → PredId → Def → Term → Edges → Option (List Term)
by_block know M pred def at es =
    option_map (λ (b : BlockFor). given_by_rule M pred def b.rule at b.contents (without es b.id))
    (first_block know at es def.rules)

-- what the first rule without a block gives
abbrev pub by_empty_rule : Guesses → PredId → Def → Term → Edges → Option (List Term)
by_empty_rule M pred def at es = option_map (λ rule. given_by_rule M pred def rule at [] es) (first_empty def.rules)

-- the stop's arguments, where it is reached
abbrev pub by_stop : Test → Term → Option Stop → Option (List Term)
by_stop know at None = None
by_stop know at (Some stop) = if equal_terms know at stop.0 then Some stop.1 else None

-- the first of these that there is, or zeros; nothing where the predicate is not defined
abbrev pub guess_of : Test → Option Stop → Guesses → PredId → Term → Edges → Option Def → List Term
guess_of know stop M pred at es None = []
guess_of know stop M pred at es (Some def) =
    unwrap_or (by_stop know at stop)
    (unwrap_or (by_summary know pred at es)
    (unwrap_or (by_block know M pred def at es)
    (unwrap_or (by_empty_rule M pred def at es) (replicate (length def.params) zero_term))))

-- at most so many guesses, one within the other
abbrev pub guess_at : Test → List Def → Option Stop → ℕ → Guesses
guess_at know defs stop zero pred at es = []
guess_at know defs stop (suc k) pred at es =
    guess_of know stop (guess_at know defs stop k) pred at es (slice_get defs pred.0)

-- the guess: each within another has one edge less
abbrev pub guess : Test → List Def → PredId → Term → Option Stop → Edges → List Term
guess know defs pred at stop es = guess_at know defs stop (suc (length es)) pred at es
