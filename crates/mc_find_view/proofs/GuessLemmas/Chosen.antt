-- The guess, by what there is.
use Rattle.std.proofs.Common.{◌≡◌, ◌≤◌, ℕ, zero, suc, List, [], ◌∷◌, Option, Some, None, ◌++◌, drop, length, replicate, refl, sym, ap, ◌∙◌, arith}
use Rattle.std.specs.Prelude.{slice_get}
use Rattle.mc_base.specs.declared.ids.EdgeId.{EdgeId}
use Rattle.mc_base.specs.declared.ids.NodeId.{NodeId}
use Rattle.mc_base.specs.declared.ids.PredId.{PredId}
use Rattle.mc_flow.specs.declared.defs.rules.Call.{Call}
use Rattle.mc_flow.specs.declared.defs.rules.Def.{Def}
use Rattle.mc_flow.specs.declared.defs.rules.DefAtom.{DefAtom}
use Rattle.mc_flow.specs.declared.defs.rules.Rule.{Rule}
use Rattle.mc_state.specs.Graph.Graph.{Edges, without}
use Rattle.mc_state.specs.declared.terms.Term.{Term}
use Rattle.mc_state.specs.State.{State}
use Rattle.mc_state.specs.Terms.{zero_term}
use Rattle.mc_state.specs.Guess.{Partial, by_passes, parameters_of}
use Rattle.mc_state.specs.Known.{Test}
use Rattle.mc_cover.specs.Goals.{Stop}
use Rattle.mc_cover.specs.Guessed.{Guesses, BlockFor, after_calls, settled, first_block, first_empty, by_stop, by_summary, given_by_rule, guess_of, guess_at}
use Rattle.mc_cover.specs.Search.Setting.{free_edges}
use Rattle.mc_find_view.proofs.GuessLemmas.Firsts.{others_push}

pub rule_end : (M : Guesses) (pred : PredId) (es : Edges) (calls : List Call) (i : ℕ) (first now new : Partial) (atoms : List DefAtom) (count : ℕ) (terms : List Term)
    → length calls ≤ i → after_calls M pred es calls first ≡ after_calls M pred es (drop i calls) now → new ≡ by_passes (length now) now atoms → terms ≡ parameters_of new 1 count
    → terms ≡ parameters_of (settled (after_calls M pred es calls first) atoms) 1 count
rule_end M pred es calls i first now new atoms count terms l h settle is =
    let same : after_calls M pred es calls first ≡ now = h ∙ ap (λ (z : List Call). after_calls M pred es z now) (none calls i l) in
    is
    ∙ (ap (λ (z : Partial). parameters_of z 1 count) settle
    ∙ ap (λ (z : Partial). parameters_of (settled z atoms) 1 count) (sym same))
  where
    none : (xs : List Call) (i : ℕ) → length xs ≤ i → drop i xs ≡ []
    none [] zero l = refl
    none [] (suc i) l = refl
    none (x ∷ xs) zero l = absurd (omega arith)
    none (x ∷ xs) (suc i) l = none xs i (omega arith)

module _ (know : Test) (stop : Option Stop) (M : Guesses) (pred : PredId) (at : Term) (es : Edges) (def : Def) (no_stop : by_stop know at stop ≡ None) (no_summary : by_summary know pred at es ≡ None) where
  pub by_found : (b : BlockFor) → first_block know at es def.rules ≡ Some b → guess_of know stop M pred at es (Some def) ≡ given_by_rule M pred def b.rule at b.contents (without es b.id)
  by_found b r = rw (no_stop, no_summary, r) refl

  pub by_empty : (rule : Rule) → first_block know at es def.rules ≡ None → first_empty def.rules ≡ Some rule → guess_of know stop M pred at es (Some def) ≡ given_by_rule M pred def rule at [] es
  by_empty rule r e = rw (no_stop, no_summary, r, e) refl

  pub by_zero : first_block know at es def.rules ≡ None → first_empty def.rules ≡ None → guess_of know stop M pred at es (Some def) ≡ replicate (length def.params) zero_term
  by_zero r e = rw (no_stop, no_summary, r, e) refl

-- a guess within which fewer are left, where neither the stop nor an edge gives the arguments
module _ (know : Test) (defs : List Def) (stop : Option Stop) (left less : ℕ) (pred : PredId) (at : Term) (s : State) (used : List EdgeId) (def : Def) (rules : List Rule) (terms : List Term)
    (one_less : left ≡ suc less) (defined : slice_get defs pred.0 ≡ Some def) (no_stop : by_stop know at stop ≡ None) (no_summary : by_summary know pred at (free_edges s used) ≡ None) (are : rules ≡ def.rules) where
  abbrev Within : Guesses
  Within = guess_at know defs stop less

  step : guess_at know defs stop left pred at (free_edges s used) ≡ guess_of know stop Within pred at (free_edges s used) (Some def)
  step = rw (one_less, defined) refl

  pub at_found : (b : BlockFor) (contents : List NodeId) (taken : List EdgeId) → Some b ≡ first_block know at (free_edges s used) rules → contents ≡ b.contents
      → taken ≡ used ++ b.id ∷ [] → terms ≡ given_by_rule Within pred def b.rule at contents (free_edges s taken) → terms ≡ guess_at know defs stop left pred at (free_edges s used)
  at_found b contents taken found same more is =
      let first : first_block know at (free_edges s used) def.rules ≡ Some b = sym (found ∙ ap (λ (z : List Rule). first_block know at (free_edges s used) z) are) in
      let rest : free_edges s taken ≡ without (free_edges s used) b.id = ap (λ (z : List EdgeId). free_edges s z) more ∙ others_push s.graph.edges used b.id in
      is
      ∙ (ap (λ (z : List NodeId). given_by_rule Within pred def b.rule at z (free_edges s taken)) same
      ∙ (ap (λ (z : Edges). given_by_rule Within pred def b.rule at b.contents z) rest
      ∙ sym (step ∙ by_found know stop Within pred at (free_edges s used) def no_stop no_summary b first)))

  pub at_empty : (rule : Rule) → None ≡ first_block know at (free_edges s used) rules → Some rule ≡ first_empty rules
      → terms ≡ given_by_rule Within pred def rule at [] (free_edges s used) → terms ≡ guess_at know defs stop left pred at (free_edges s used)
  at_empty rule none found is =
      let first : first_block know at (free_edges s used) def.rules ≡ None = sym (none ∙ ap (λ (z : List Rule). first_block know at (free_edges s used) z) are) in
      let empty : first_empty def.rules ≡ Some rule = sym (found ∙ ap first_empty are) in
      is ∙ sym (step ∙ by_empty know stop Within pred at (free_edges s used) def no_stop no_summary rule first empty)

  pub at_zero : None ≡ first_block know at (free_edges s used) rules → None ≡ first_empty rules → terms ≡ replicate (length def.params) zero_term
      → terms ≡ guess_at know defs stop left pred at (free_edges s used)
  at_zero none nothing is =
      let first : first_block know at (free_edges s used) def.rules ≡ None = sym (none ∙ ap (λ (z : List Rule). first_block know at (free_edges s used) z) are) in
      let empty : first_empty def.rules ≡ None = sym (nothing ∙ ap first_empty are) in
      is ∙ sym (step ∙ by_zero know stop Within pred at (free_edges s used) def no_stop no_summary first empty)
