-- The guess is the one that there is.
use Rattle.std.proofs.Common.{◌≡◌, ◌<◌, inl, inr, ℕ, zero, suc, Bool, true, false, ◌&&◌, Option, Some, None, List, [], ◌∷◌, length, map, slice_get, refl, ap, sym, subst, ◌∙◌, arith, eq-eqb}
use Rattle.std.specs.Prelude.{◌==◌, ◌↔◌, replicate, option_map, unwrap_or, if◌then◌else◌}
use Rattle.mc_base.specs.declared.ids.EdgeId.{EdgeId}
use Rattle.mc_base.specs.declared.ids.NodeId.{NodeId}
use Rattle.mc_base.specs.declared.ids.PredId.{PredId}
use Rattle.mc_base.specs.declared.ids.StructId.{StructId}
use Rattle.mc_flow.specs.declared.defs.rules.Call.{Call}
use Rattle.mc_flow.specs.declared.defs.rules.Def.{Def}
use Rattle.mc_flow.specs.declared.defs.rules.Rule.{Rule}
use Rattle.mc_flow.specs.Defs.Conditions.{IsDefs}
use Rattle.mc_state.specs.declared.graph.edge.Edge.{Edge}
use Rattle.mc_state.specs.declared.graph.edge.Edge.TheVariants.{Block, Ind, Seg}
use Rattle.mc_state.specs.Graph.Graph.{Edges, edge_with, without, IdsAscend}
use Rattle.mc_state.specs.declared.terms.Term.{Term}
use Rattle.mc_state.specs.Guess.{HasWholeBlock, HasSummary, Stops, BySummary, ByBlock, ByEmptyRule, FirstOf, GuessAt}
use Rattle.mc_state.specs.State.{State}
use Rattle.mc_state.specs.Terms.{plain, zero_term, AreEqualTerms}
use Rattle.mc_state.specs.Known.{Test, Tells}
use Rattle.mc_state.proofs.Tests.{and_both, and_yes}
use Rattle.mc_cover.specs.Goals.{Stop, whole_block}
use Rattle.mc_cover.specs.Guessed.{Guesses, or_else, first_edge, summary_of, BlockFor, block_of_rule, first_block, if_empty, first_empty, given_by_rule, by_summary, by_block, by_empty_rule, by_stop, guess_of, guess_at}
use Rattle.mc_cover.specs.Laws.{GuessIsTheGuess, NoGuessUndefined}
use Rattle.mc_cover.specs.Terms.{equal_terms}
use Rattle.mc_cover.proofs.FirstEdge.{IsFirst, first_from, first_none, first_to, less_edges}
use Rattle.mc_cover.proofs.Options.{same_some, if_some, if_yes}
use Rattle.mc_cover.proofs.Parts.{same_pred, block_parts, block_yes}
use Rattle.mc_cover.proofs.Rules.{IsThe, IsRight, IfAny, rule_is}
use Rattle.mc_cover.proofs.Sound.{rule_fits}
use Rattle.mc_cover.proofs.Terms.{equal_from, equal_to}
use Rattle.mc_state.proofs.Ids.{ids_without}

-- this holds of what the option has, and of nothing else
abbrev IsGiven : (List Term → Type 0) → Option (List Term) → Type 0
IsGiven P o = (g : List Term) → P g ↔ (o ≡ Some g)

-- the first of two
first_of : (P Q : List Term → Type 0) (o : Option (List Term)) (y : List Term) → IsGiven P o → IsThe Q y → IsThe (FirstOf P Q) (unwrap_or o y)
first_of P Q None y p q g = (from, λ e. inr ((λ other a. none other a), (q g).1 e))
  where
    none : (other : List Term) → P other → ⊥
    none other a = let e = (p other).0 a in cc e

    from : FirstOf P Q g → g ≡ y
    from (inl a) = absurd (none g a)
    from (inr b) = (q g).0 b.1
first_of P Q (Some x) y p q g = (from, λ e. inl ((p g).1 (ap (λ l. Some l) (sym e))))
  where
    from : FirstOf P Q g → g ≡ x
    from (inl a) = sym (same_some x g ((p g).0 a))
    from (inr b) = absurd (b.0 x ((p x).1 refl))

clash : {b : Bool} → b ≡ true → b ≡ false → ⊥
clash p q = cc (p, q)

module _ (know : Test) (s : State) (tells : Tells know s) where
  -- the stop
  stop_given : (at : Term) (stop : Option Stop) → IsGiven (Stops s at stop) (by_stop know at stop)
  stop_given at None g = (λ h. absurd h, λ e. absurd (cc e))
  stop_given at (Some to) g = by (equal_terms know at to.0) refl
    where
      by : (b : Bool) → equal_terms know at to.0 ≡ b → (AreEqualTerms s at to.0 × (g ≡ to.1)) ↔ ((if b then Some to.1 else None) ≡ Some g)
      by true is = (λ h. ap (λ l. Some l) (sym h.1), λ e. (equal_from know s tells at to.0 is, sym (same_some to.1 g e)))
      by false is = (λ h. absurd (clash (equal_to know s tells at to.0 h.0) is), λ e. absurd (cc e))

  -- an Ind or a Seg
  has_from : (pred : PredId) (at : Term) (es : Edges) (id : EdgeId) (e : Edge) (args : List NodeId) → edge_with es id ≡ Some e → summary_of know pred at e ≡ Some args → HasSummary s pred at es id args
  has_from pred at es id (Block b shape fields) args t g = absurd (cc g)
  has_from pred at es id (Ind b own own_args) args t g =
      let r = if_some (own.0 == pred.0 && equal_terms know at (plain b)) own_args args g in
      let both = and_both (own.0 == pred.0) (equal_terms know at (plain b)) r.0 in
      (b, equal_from know s tells at (plain b) both.1, inl (t ∙ (ap (λ p. Some (Ind b p own_args)) (same_pred own pred both.0) ∙ ap (λ l. Some (Ind b pred l)) r.1)))
  has_from pred at es id (Seg b own_args own last lasts) args t g =
      let r = if_some (own.0 == pred.0 && equal_terms know at (plain b)) own_args args g in
      let both = and_both (own.0 == pred.0) (equal_terms know at (plain b)) r.0 in
      (b, equal_from know s tells at (plain b) both.1, inr (last, lasts, t ∙ (ap (λ p. Some (Seg b own_args p last lasts)) (same_pred own pred both.0) ∙ ap (λ l. Some (Seg b l pred last lasts)) r.1)))

  has_to : (pred : PredId) (at : Term) (es : Edges) (id : EdgeId) (args : List NodeId) → HasSummary s pred at es id args → (e : Edge) × (edge_with es id ≡ Some e) × (summary_of know pred at e ≡ Some args)
  has_to pred at es id args (b, same, inl h) =
      (Ind b pred args, h, if_yes (pred.0 == pred.0 && equal_terms know at (plain b)) args (and_yes (pred.0 == pred.0) (equal_terms know at (plain b)) (eq-eqb pred.0 pred.0 refl) (equal_to know s tells at (plain b) same)))
  has_to pred at es id args (b, same, inr (last, lasts, h)) =
      (Seg b args pred last lasts, h, if_yes (pred.0 == pred.0 && equal_terms know at (plain b)) args (and_yes (pred.0 == pred.0) (equal_terms know at (plain b)) (eq-eqb pred.0 pred.0 refl) (equal_to know s tells at (plain b) same)))

  summary_given : (pred : PredId) (at : Term) (es : Edges) (high : ℕ) → IdsAscend 0 es high → IsGiven (BySummary s pred at es) (by_summary know pred at es)
  summary_given pred at es high ascend g = (from, λ e. to (first_edge (summary_of know pred at) es) refl e)
    where
      from : BySummary s pred at es g → by_summary know pred at es ≡ Some g
      from (id, args, has, is, least) =
          let h = has_to pred at es id args has in
          let first : IsFirst (summary_of know pred at) es id args =
          record { edge = h.0; there = h.1; gives = h.2; least = λ other e y t f. least other y (has_from pred at es other e y t f) } in
          ap (option_map (λ (found : EdgeId × List NodeId). map plain found.1)) (first_to (summary_of know pred at) 0 es high id args ascend first) ∙ ap (λ l. Some l) (sym is)

      to : (o : Option (EdgeId × List NodeId)) → first_edge (summary_of know pred at) es ≡ o → option_map (λ (found : EdgeId × List NodeId). map plain found.1) o ≡ Some g → BySummary s pred at es g
      to None is e = absurd (cc e)
      to (Some (id, args)) is e =
          let r = first_from (summary_of know pred at) 0 es high id args ascend is in (
            id,
            args,
            has_from pred at es id r.edge args r.there r.gives,
            sym (same_some (map plain args) g e),
            λ other others h. (let o = has_to pred at es other others h in r.least other o.0 others o.1 o.2),
          )

  -- a whole block
  whole_from : (at : Term) (es : Edges) (shape : StructId) (id : EdgeId) (e : Edge) (contents : List NodeId) → edge_with es id ≡ Some e → whole_block know at shape e ≡ Some contents → HasWholeBlock s at es shape id contents
  whole_from at es shape id e contents t g =
      let p = block_parts know at shape e contents g in
      (p.b, t ∙ ap (λ b. Some b) p.block, equal_from know s tells at (plain p.b) p.same_at)

  whole_to : (at : Term) (es : Edges) (shape : StructId) (id : EdgeId) (contents : List NodeId) → HasWholeBlock s at es shape id contents → (e : Edge) × (edge_with es id ≡ Some e) × (whole_block know at shape e ≡ Some contents)
  whole_to at es shape id contents (b, h, same) = (Block b shape (map Some contents), h, block_yes know at shape b contents (equal_to know s tells at (plain b) same))

  module _ (at : Term) (es : Edges) where
    -- no rule before the place has a block there
    abbrev NoneBefore : List Rule → ℕ → Type 0
    NoneBefore rules place = (earlier : ℕ) (other : Rule) (own : StructId) → earlier < place → slice_get rules earlier ≡ Some other → other.block ≡ Some own → first_edge (whole_block know at own) es ≡ None

    -- which block is first
    record IsBlock (rules : List Rule) (place : ℕ) (shape : StructId) (b : BlockFor) : Type 0 where
      listed : slice_get rules place ≡ Some b.rule
      block : b.rule.block ≡ Some shape
      found : first_edge (whole_block know at shape) es ≡ Some (b.id, b.contents)
      before : NoneBefore rules place

    of_rule : (rule : Rule) (block : Option StructId) (b : BlockFor) → block_of_rule know at es rule block ≡ Some b → (shape : StructId) × (block ≡ Some shape) × (rule ≡ b.rule) × (first_edge (whole_block know at shape) es ≡ Some (b.id, b.contents))
    of_rule rule None b h = absurd (cc h)
    of_rule rule (Some shape) b h = with_edge (first_edge (whole_block know at shape) es) refl h
      where
        with_edge : (o : Option (EdgeId × List NodeId)) → first_edge (whole_block know at shape) es ≡ o → option_map (λ (b : EdgeId × List NodeId). record { rule = rule; id = b.0; contents = b.1 }) o ≡ Some b
            → (own : StructId) × (Some shape ≡ Some own) × (rule ≡ b.rule) × (first_edge (whole_block know at own) es ≡ Some (b.id, b.contents))
        with_edge None is h = absurd (cc h)
        with_edge (Some (id, contents)) is h =
            let same = same_some (record { rule = rule; id = id; contents = contents }) b h in
            (shape, refl, ap (λ (b : BlockFor). b.rule) same, is ∙ ap (λ (b : BlockFor). Some (b.id, b.contents)) same)

    block_none : (rule : Rule) (block : Option StructId) → ((own : StructId) → block ≡ Some own → first_edge (whole_block know at own) es ≡ None) → block_of_rule know at es rule block ≡ None
    block_none rule None f = refl
    block_none rule (Some shape) f = ap (option_map (λ (b : EdgeId × List NodeId). record { rule = rule; id = b.0; contents = b.1 })) (f shape refl)

    none_of : (rule : Rule) (block : Option StructId) (own : StructId) → block_of_rule know at es rule block ≡ None → block ≡ Some own → first_edge (whole_block know at own) es ≡ None
    none_of rule None own h e = absurd (cc e)
    none_of rule (Some shape) own h e = ap (λ o. first_edge (whole_block know at o) es) (sym (same_some shape own e)) ∙ with_edge (first_edge (whole_block know at shape) es) h
      where
        with_edge : (o : Option (EdgeId × List NodeId)) → option_map {U = BlockFor} (λ (b : EdgeId × List NodeId). record { rule = rule; id = b.0; contents = b.1 }) o ≡ None → o ≡ None
        with_edge None h = refl
        with_edge (Some x) h = absurd (cc h)

    block_from : (rules : List Rule) (b : BlockFor) → first_block know at es rules ≡ Some b → (place : ℕ) × (shape : StructId) × IsBlock rules place shape b
    block_from [] b h = absurd (cc h)
    block_from (rule ∷ rules) b h = here (λ h. block_from rules b h) (block_of_rule know at es rule rule.block) refl h
      where
        here : (first_block know at es rules ≡ Some b → (place : ℕ) × (shape : StructId) × IsBlock rules place shape b) → (o : Option BlockFor) → block_of_rule know at es rule rule.block ≡ o → or_else o (first_block know at es rules) ≡ Some b → (place : ℕ) × (shape : StructId) × IsBlock (rule ∷ rules) place shape b
        here rest (Some x) is h =
            let same = same_some x b h in
            let r = of_rule rule rule.block b (is ∙ ap (λ x. Some x) same) in
            (0, r.0, record { listed = ap (λ x. Some x) r.2; block = ap (λ (x : Rule). x.block) (sym r.2) ∙ r.1; found = r.3; before = λ earlier other own l at' e. absurd (omega arith) })
        here rest None is h =
            let r = rest h in
            (suc r.0, r.1, record { listed = r.2.listed; block = r.2.block; found = r.2.found; before = λ earlier other own l at' e. none_before is r.0 r.2.before earlier other own l at' e })
          where
            none_before : block_of_rule know at es rule rule.block ≡ None → (place : ℕ) → NoneBefore rules place → NoneBefore (rule ∷ rules) (suc place)
            none_before is place before zero other own l at' e = none_of rule rule.block own is (ap (λ (r : Rule). r.block) (same_some rule other at') ∙ e)
            none_before is place before (suc earlier) other own l at' e = before earlier other own (omega arith) at' e

    block_to : (rules : List Rule) (place : ℕ) (shape : StructId) (b : BlockFor) → IsBlock rules place shape b → first_block know at es rules ≡ Some b
    block_to [] place shape b is = let e = is.listed in absurd (cc e)
    block_to (rule ∷ rules) zero shape b is =
        let same : rule ≡ b.rule = same_some rule b.rule is.listed in
        let here : block_of_rule know at es b.rule b.rule.block ≡ Some b =
        ap (block_of_rule know at es b.rule) is.block ∙ ap (option_map (λ (x : EdgeId × List NodeId). record { rule = b.rule; id = x.0; contents = x.1 })) is.found in
        let own : block_of_rule know at es rule rule.block ≡ Some b = ap (λ (r : Rule). block_of_rule know at es r r.block) same ∙ here in
        ap (λ o. or_else o (first_block know at es rules)) own
    block_to (rule ∷ rules) (suc place) shape b is =
        let none : block_of_rule know at es rule rule.block ≡ None = block_none rule rule.block (λ own e. is.before 0 rule own (omega arith) refl e) in
        ap (λ o. or_else o (first_block know at es rules)) none
        ∙ block_to rules place shape b (record { listed = is.listed; block = is.block; found = is.found; before = λ earlier other own l at' e. is.before (suc earlier) other own (omega arith) at' e })

    module _ (M : PredId → Term → Edges → List Term → Type 0) (F : Guesses) (pred : PredId) (def : Def) (high : ℕ) (ascend : IdsAscend 0 es high) where
      -- guesses with one edge less are right
      abbrev LessIsRight : Type 0
      LessIsRight = (id : EdgeId) (e : Edge) → edge_with es id ≡ Some e → IsRight M F pred (without es id)

      any_right : (id : EdgeId) (e : Edge) → edge_with es id ≡ Some e → LessIsRight → (rule : Rule) → IfAny M F pred (without es id) rule.calls
      any_right id e t right rule = for_calls rule.calls
        where
          for_calls : (calls : List Call) → IfAny M F pred (without es id) calls
          for_calls [] = tt
          for_calls (c ∷ cs) = right id e t

      block_given : LessIsRight → IsGiven (ByBlock M def s pred at es) (by_block know F pred def at es)
      block_given right g = (from, λ e. to (first_block know at es def.rules) refl e)
        where
          from : ByBlock M def s pred at es g → by_block know F pred def at es ≡ Some g
          from (place, rule, shape, id, contents, listed, block, has, before, least, by) =
              let h = whole_to at es shape id contents has in
              let first : IsFirst (whole_block know at shape) es id contents =
              record { edge = h.0; there = h.1; gives = h.2; least = λ other e y t f. least other y (whole_from at es shape other e y t f) } in
              let b : BlockFor = record { rule = rule; id = id; contents = contents } in
              let is : IsBlock def.rules place shape b =
              record { listed = listed; block = block; found = first_to (whole_block know at shape) 0 es high id contents ascend first; before = λ earlier other own l at' e. none_there earlier other own (before earlier other own) l at' e (first_edge (whole_block know at own) es) refl } in
              let value = (rule_is M F pred (without es id) def rule at contents (any_right id h.0 h.1 right rule) g).0 by in
              ap (option_map (λ (b : BlockFor). given_by_rule F pred def b.rule at b.contents (without es b.id))) (block_to def.rules place shape b is) ∙ ap (λ l. Some l) (sym value)
            where
              none_there : (earlier : ℕ) (other : Rule) (own : StructId) → ((i : EdgeId) (ns : List NodeId) → earlier < place → slice_get def.rules earlier ≡ Some other → other.block ≡ Some own → HasWholeBlock s at es own i ns → ⊥)
                  → earlier < place → slice_get def.rules earlier ≡ Some other → other.block ≡ Some own → (o : Option (EdgeId × List NodeId)) → first_edge (whole_block know at own) es ≡ o → first_edge (whole_block know at own) es ≡ None
              none_there earlier other own no' l at' e None is = is
              none_there earlier other own no' l at' e (Some (i, ns)) is =
                  let r = first_from (whole_block know at own) 0 es high i ns ascend is in
                  absurd (no' i ns l at' e (whole_from at es own i r.edge ns r.there r.gives))

          to : (o : Option BlockFor) → first_block know at es def.rules ≡ o → option_map (λ (b : BlockFor). given_by_rule F pred def b.rule at b.contents (without es b.id)) o ≡ Some g → ByBlock M def s pred at es g
          to None is e = absurd (cc e)
          to (Some b) is e =
              let r = block_from def.rules b is in
              let p = r.2 in
              let first = first_from (whole_block know at r.1) 0 es high b.id b.contents ascend p.found in (
                r.0,
                b.rule,
                r.1,
                b.id,
                b.contents,
                p.listed,
                p.block,
                whole_from at es r.1 b.id first.edge b.contents first.there first.gives,
                λ earlier other own i ns l at' o h. (let w = whole_to at es own i ns h in first_none (whole_block know at own) es (p.before earlier other own l at' o) i w.0 ns w.1 w.2),
                λ i ns h. (let w = whole_to at es r.1 i ns h in first.least i w.0 ns w.1 w.2),
                (rule_is M F pred (without es b.id) def b.rule at b.contents (any_right b.id first.edge first.there right b.rule) g).1 (sym (same_some (given_by_rule F pred def b.rule at b.contents (without es b.id)) g e)),
              )

      -- the first rule without a block
      abbrev NoneEmpty : List Rule → ℕ → Type 0
      NoneEmpty rules place = (earlier : ℕ) (other : Rule) → earlier < place → slice_get rules earlier ≡ Some other → other.block ≡ None → ⊥

      record IsEmptyRule (rules : List Rule) (place : ℕ) (rule : Rule) : Type 0 where
        listed : slice_get rules place ≡ Some rule
        bare : rule.block ≡ None
        before : NoneEmpty rules place

      is_empty : (rule : Rule) (block : Option StructId) (own : Rule) → if_empty rule block ≡ Some own → (block ≡ None) × (rule ≡ own)
      is_empty rule None own h = (refl, same_some rule own h)
      is_empty rule (Some shape) own h = absurd (cc h)

      not_empty : (rule : Rule) (block : Option StructId) → if_empty rule block ≡ None → block ≡ None → ⊥
      not_empty rule None h e = cc h
      not_empty rule (Some shape) h e = cc e

      bare_from : (rules : List Rule) (own : Rule) → first_empty rules ≡ Some own → (place : ℕ) × IsEmptyRule rules place own
      bare_from [] own h = absurd (cc h)
      bare_from (rule ∷ rules) own h = here (λ h. bare_from rules own h) (if_empty rule rule.block) refl h
        where
          here : (first_empty rules ≡ Some own → (place : ℕ) × IsEmptyRule rules place own) → (o : Option Rule) → if_empty rule rule.block ≡ o → or_else o (first_empty rules) ≡ Some own → (place : ℕ) × IsEmptyRule (rule ∷ rules) place own
          here rest (Some x) is h =
              let r = is_empty rule rule.block own (is ∙ ap (λ x. Some x) (same_some x own h)) in
              (0, record { listed = ap (λ x. Some x) r.1; bare = ap (λ (x : Rule). x.block) (sym r.1) ∙ r.0; before = λ earlier other l at' e. absurd (omega arith) })
          here rest None is h =
              let r = rest h in
              (suc r.0, record { listed = r.1.listed; bare = r.1.bare; before = λ earlier other l at' e. none_before is r.0 r.1.before earlier other l at' e })
            where
              none_before : if_empty rule rule.block ≡ None → (place : ℕ) → NoneEmpty rules place → NoneEmpty (rule ∷ rules) (suc place)
              none_before is place before zero other l at' e = not_empty rule rule.block is (ap (λ (r : Rule). r.block) (same_some rule other at') ∙ e)
              none_before is place before (suc earlier) other l at' e = before earlier other (omega arith) at' e

      bare_to : (rules : List Rule) (place : ℕ) (own : Rule) → IsEmptyRule rules place own → first_empty rules ≡ Some own
      bare_to [] place own is = let e = is.listed in absurd (cc e)
      bare_to (rule ∷ rules) zero own is =
          let same : rule ≡ own = same_some rule own is.listed in
          let here : if_empty rule rule.block ≡ Some own = ap (λ (r : Rule). if_empty r r.block) same ∙ ap (if_empty own) is.bare in
          ap (λ o. or_else o (first_empty rules)) here
      bare_to (rule ∷ rules) (suc place) own is =
          let none : if_empty rule rule.block ≡ None = no_rule rule.block (λ e. is.before 0 rule (omega arith) refl e) in
          ap (λ o. or_else o (first_empty rules)) none ∙ bare_to rules place own (record { listed = is.listed; bare = is.bare; before = λ earlier other l at' e. is.before (suc earlier) other (omega arith) at' e })
        where
          no_rule : (block : Option StructId) → (block ≡ None → ⊥) → if_empty rule block ≡ None
          no_rule None no' = absurd (no' refl)
          no_rule (Some shape) no' = refl

      empty_given : ((place : ℕ) (rule : Rule) → slice_get def.rules place ≡ Some rule → rule.block ≡ None → rule.calls ≡ []) → IsGiven (ByEmptyRule M def pred at es) (by_empty_rule F pred def at es)
      empty_given guarded g = (from, λ e. to (first_empty def.rules) refl e)
        where
          none_called : (place : ℕ) (rule : Rule) → slice_get def.rules place ≡ Some rule → rule.block ≡ None → IfAny M F pred es rule.calls
          none_called place rule listed bare = subst (λ calls. IfAny M F pred es calls) (sym (guarded place rule listed bare)) tt

          from : ByEmptyRule M def pred at es g → by_empty_rule F pred def at es ≡ Some g
          from (place, rule, listed, bare, before, by) =
              let value = (rule_is M F pred es def rule at [] (none_called place rule listed bare) g).0 by in
              ap (option_map (λ rule. given_by_rule F pred def rule at [] es)) (bare_to def.rules place rule (record { listed = listed; bare = bare; before = before })) ∙ ap (λ l. Some l) (sym value)

          to : (o : Option Rule) → first_empty def.rules ≡ o → option_map (λ rule. given_by_rule F pred def rule at [] es) o ≡ Some g → ByEmptyRule M def pred at es g
          to None is e = absurd (cc e)
          to (Some rule) is e =
              let r = bare_from def.rules rule is in
              let p = r.1 in
              (r.0, rule, p.listed, p.bare, p.before, (rule_is M F pred es def rule at [] (none_called r.0 rule p.listed p.bare) g).1 (sym (same_some (given_by_rule F pred def rule at [] es) g e)))

  module _ (defs : List Def) (fit : IsDefs defs) (stop : Option Stop) (pred : PredId) (def : Def) (defined : slice_get defs pred.0 ≡ Some def) where
    guarded : (place : ℕ) (rule : Rule) → slice_get def.rules place ≡ Some rule → rule.block ≡ None → rule.calls ≡ []
    guarded place rule listed = (rule_fits defs fit pred.0 def defined place rule listed).guarded

    -- all that a guess may be by
    abbrev AllWays : ℕ → Term → Edges → Def → List Term → Type 0
    AllWays k at es def g =
        FirstOf (Stops s at stop) (FirstOf (BySummary s pred at es) (FirstOf (ByBlock (GuessAt defs s stop k) def s pred at es) (FirstOf (ByEmptyRule (GuessAt defs s stop k) def pred at es) (λ g. g ≡ replicate (length def.params) zero_term)))) g

    one_level : (k : ℕ) (at : Term) (es : Edges) (high : ℕ) → IdsAscend 0 es high → ((id : EdgeId) (e : Edge) → edge_with es id ≡ Some e → IsRight (GuessAt defs s stop k) (guess_at know defs stop k) pred (without es id))
        → IsThe (AllWays k at es def) (guess_of know stop (guess_at know defs stop k) pred at es (Some def))
    one_level k at es high ascend right =
        let M : PredId → Term → Edges → List Term → Type 0 = GuessAt defs s stop k in
        let F : Guesses = guess_at know defs stop k in
        let z : List Term = replicate (length def.params) zero_term in
        let four = first_of (ByEmptyRule M def pred at es) (λ g. g ≡ z) (by_empty_rule F pred def at es) z (empty_given at es M F pred def high ascend guarded) (λ g. (λ e. e, λ e. e)) in
        let three = first_of (ByBlock M def s pred at es) (FirstOf (ByEmptyRule M def pred at es) (λ g. g ≡ z)) (by_block know F pred def at es) (unwrap_or (by_empty_rule F pred def at es) z) (block_given at es M F pred def high ascend right) four in
        let two = first_of (BySummary s pred at es) (FirstOf (ByBlock M def s pred at es) (FirstOf (ByEmptyRule M def pred at es) (λ g. g ≡ z))) (by_summary know pred at es) (unwrap_or (by_block know F pred def at es) (unwrap_or (by_empty_rule F pred def at es) z)) (summary_given pred at es high ascend) three in
        first_of (Stops s at stop) (FirstOf (BySummary s pred at es) (FirstOf (ByBlock M def s pred at es) (FirstOf (ByEmptyRule M def pred at es) (λ g. g ≡ z)))) (by_stop know at stop)
        (unwrap_or (by_summary know pred at es) (unwrap_or (by_block know F pred def at es) (unwrap_or (by_empty_rule F pred def at es) z))) (stop_given at stop) two

    next_level : (k : ℕ) (at : Term) (es : Edges) → IsThe (AllWays k at es def) (guess_of know stop (guess_at know defs stop k) pred at es (Some def)) → IsThe (GuessAt defs s stop (suc k) pred at es) (guess_at know defs stop (suc k) pred at es)
    next_level k at es inner g = (from, λ e. (def, defined, (inner g).1 (e ∙ here)))
      where
        here : guess_at know defs stop (suc k) pred at es ≡ guess_of know stop (guess_at know defs stop k) pred at es (Some def)
        here = ap (guess_of know stop (guess_at know defs stop k) pred at es) defined

        from : GuessAt defs s stop (suc k) pred at es g → g ≡ guess_at know defs stop (suc k) pred at es
        from (own, d, f) =
            let same : own ≡ def = same_some own def (sym d ∙ defined) in
            (inner g).0 (subst (λ (o : Def). AllWays k at es o g) same f) ∙ sym here

    -- by as many guesses as there are edges and one more
    guess_is : (k : ℕ) (at : Term) (es : Edges) (high : ℕ) → IdsAscend 0 es high → length es < k → IsThe (GuessAt defs s stop k pred at es) (guess_at know defs stop k pred at es)
    guess_is zero at es high ascend l g = absurd (omega arith)
    guess_is (suc k) at es high ascend l g =
        next_level k at es (one_level k at es high ascend
        (λ id e t at. (let less = less_edges es id e t in guess_is k at (without es id) high (ids_without 0 es high id ascend) (omega arith)))) g

pub guess_is_the_guess : GuessIsTheGuess
guess_is_the_guess know defs s pred def at stop es high guessed fit tells ascend defined =
    guess_is know s tells defs fit stop pred def defined (suc (length es)) at es high ascend (omega arith) guessed

pub no_guess_undefined : NoGuessUndefined
no_guess_undefined defs s pred at stop es guessed none (def, d, f) = let both = sym none ∙ d in cc both
