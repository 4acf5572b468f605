use Rattle.std.proofs.Common.{◌∷◌, [], refl, ap, sym, ◌∙◌, subst}
use Rattle.mc_state.specs.State.{State}
use Rattle.mc_rules_logic.specs.Fold.ChangeJudges.{naming_spare}
use Rattle.mc_rules_logic.specs.Fold.Changed.{NamesSpare}
use Rattle.mc_replay.specs.Named.{IsGood, TellsFrom}
use Rattle.mc_replay.proofs.NamedLemmas.{changes_ok, changes_premise, one_state, named_own, named_spare, named_none, spare_is, spare_told}
use Rattle.mc_replay.proofs.naming.name_term.Goals as goal

pub returns-in-Some : goal.returns-in-Some
returns-in-Some c =
    record {
      named = λ w t. named_own w c.args.state.now c.args.kind c.args.term.now c.in-Some.node (sym c.in-Some.is ∙ c.own_node.ensures w t);
      good = c.requires;
      tells = λ w t. t;
      graph = refl;
    }

pub returns-in-Ok-clause-named : goal.returns-in-Ok-clause-named
returns-in-Ok-clause-named c = λ w t.
    let s = c.args.state.now in
    let x = c.args.term.now in
    named_spare w s c.args.kind x c.name_new.new.state c.next_node-node.result (sym c.in_default.is ∙ c.own_node.ensures w t)
    (changes_ok (naming_spare (w.know s) x.node x.add c.args.kind s) (s ∷ []) (c.name_new.new.state ∷ []) c.name_new.result c.in-Ok.field-0 c.in-Ok.is
    (c.name_new.ensures (w.know s) (t.knows s t.made))) c.next_node-node.ensures

pub returns-in-Ok-clause-good : goal.returns-in-Ok-clause-good
returns-in-Ok-clause-good c =
    let s = c.args.state.now in
    let x = c.args.term.now in
    let told = c.naming_keeps_good.ensures.told s c.requires in
    c.naming_keeps_good.ensures.good x.node x.add c.args.kind s c.name_new.new.state c.requires
    (spare_told c.naming_is_judged.ensures.spare s c.name_new.new.state told x.node x.add c.args.kind
    (changes_ok (naming_spare told.0 x.node x.add c.args.kind s) (s ∷ []) (c.name_new.new.state ∷ []) c.name_new.result c.in-Ok.field-0 c.in-Ok.is (c.name_new.ensures told.0 told.1)))

pub returns-in-Ok-clause-tells : goal.returns-in-Ok-clause-tells
returns-in-Ok-clause-tells c = λ w t.
    let s = c.args.state.now in
    let x = c.args.term.now in
    c.naming_keeps_good.ensures.tests x.node x.add c.args.kind w s c.name_new.new.state t
    (spare_is c.naming_is_judged.ensures.spare w s c.name_new.new.state t x.node x.add c.args.kind
    (changes_ok (naming_spare (w.know s) x.node x.add c.args.kind s) (s ∷ []) (c.name_new.new.state ∷ []) c.name_new.result c.in-Ok.field-0 c.in-Ok.is
    (c.name_new.ensures (w.know s) (t.knows s t.made))))

pub returns-in-Ok-clause-graph : goal.returns-in-Ok-clause-graph
returns-in-Ok-clause-graph c =
    let s = c.args.state.now in
    let x = c.args.term.now in
    let told = c.naming_keeps_good.ensures.told s c.requires in
    let named : NamesSpare x.node x.add c.args.kind s (c.name_new.new.state ∷ []) =
    spare_told c.naming_is_judged.ensures.spare s c.name_new.new.state told x.node x.add c.args.kind
    (changes_ok (naming_spare told.0 x.node x.add c.args.kind s) (s ∷ []) (c.name_new.new.state ∷ []) c.name_new.result c.in-Ok.field-0 c.in-Ok.is (c.name_new.ensures told.0 told.1)) in
    ap (λ (z : State). z.graph) (one_state named.gives)

pub returns-in-Err-Premise-clause-named : goal.returns-in-Err-Premise-clause-named
returns-in-Err-Premise-clause-named c = λ w t.
    let s = c.args.state.now in
    let x = c.args.term.now in
    let unmet = changes_premise (naming_spare (w.know s) x.node x.add c.args.kind s) (s ∷ []) (c.name_new.new.state ∷ []) c.name_new.result c.in-Err-Premise.field-0 c.in-Err-Premise.field-0-0 c.in-Err-Premise.is c.in-Err-Premise.field-0-is
    (c.name_new.ensures (w.know s) (t.knows s t.made)) in
    named_none w s c.args.kind x c.in-Err-Premise.field-0-0 (sym c.in_default.is ∙ c.own_node.ensures w t) unmet.0

pub returns-in-Err-Premise-clause-good : goal.returns-in-Err-Premise-clause-good
returns-in-Err-Premise-clause-good c =
    let s = c.args.state.now in
    let x = c.args.term.now in
    let told = c.naming_keeps_good.ensures.told s c.requires in
    let unmet = changes_premise (naming_spare told.0 x.node x.add c.args.kind s) (s ∷ []) (c.name_new.new.state ∷ []) c.name_new.result c.in-Err-Premise.field-0 c.in-Err-Premise.field-0-0 c.in-Err-Premise.is c.in-Err-Premise.field-0-is
    (c.name_new.ensures told.0 told.1) in
    subst (λ (z : State). IsGood z) (sym (one_state unmet.1)) c.requires

pub returns-in-Err-Premise-clause-tells : goal.returns-in-Err-Premise-clause-tells
returns-in-Err-Premise-clause-tells c = λ w t.
    let s = c.args.state.now in
    let x = c.args.term.now in
    let unmet = changes_premise (naming_spare (w.know s) x.node x.add c.args.kind s) (s ∷ []) (c.name_new.new.state ∷ []) c.name_new.result c.in-Err-Premise.field-0 c.in-Err-Premise.field-0-0 c.in-Err-Premise.is c.in-Err-Premise.field-0-is
    (c.name_new.ensures (w.know s) (t.knows s t.made)) in
    subst (λ (z : State). TellsFrom w z) (sym (one_state unmet.1)) t

pub returns-in-Err-Premise-clause-graph : goal.returns-in-Err-Premise-clause-graph
returns-in-Err-Premise-clause-graph c =
    let s = c.args.state.now in
    let x = c.args.term.now in
    let told = c.naming_keeps_good.ensures.told s c.requires in
    let unmet = changes_premise (naming_spare told.0 x.node x.add c.args.kind s) (s ∷ []) (c.name_new.new.state ∷ []) c.name_new.result c.in-Err-Premise.field-0 c.in-Err-Premise.field-0-0 c.in-Err-Premise.is c.in-Err-Premise.field-0-is
    (c.name_new.ensures told.0 told.1) in
    ap (λ (z : State). z.graph) (one_state unmet.1)
