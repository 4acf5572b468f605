use Rattle.std.proofs.Common.{sym, subst, ◌∙◌}
use Rattle.mc_state.specs.State.{State}
use Rattle.mc_rules_logic.specs.Fold.Changed.{Forgets}
use Rattle.mc_apply_fold.proofs.ForgetLemmas.Made.{IsAsked, atoms_fit, starts_fit, all_left}
use Rattle.mc_apply_fold.proofs.forget.forgetting.forget.Goals as goal

pub has_normal_form-requires : goal.has_normal_form-requires
has_normal_form-requires c = λ f. c.requires.not_false (c.known-known.ensures.is_false.0 f)

pub put_starts-requires : goal.put_starts-requires
put_starts-requires c =
    let k = c.known-known in
    starts_fit c.args.state.now k.result.now c.args.node c.starts.result.now c.in_ok-rest.rest c.is_kept.ensures.fit
    k.ensures.kinds k.ensures.starts c.requires.unnamed c.starts.ensures c.in_ok-rest.ensures

pub put_atoms-requires : goal.put_atoms-requires
put_atoms-requires c =
    let k = c.known-known in
    let asked : IsAsked c.args.state.now k.result.now c.args.node = record {
      kinds = k.ensures.kinds;
      starts = k.ensures.starts;
      follows = k.ensures.follows;
      is_false = k.ensures.is_false;
      well = c.requires.made;
      there = c.requires.there;
      not_null = c.requires.not_null;
      not_false = c.requires.not_false;
      unnamed = c.requires.unnamed;
      says = c.normal_forms_say_all.ensures;
      form = c.has_normal_form.ensures;
      made_law = c.naming_makes_well.ensures.forget;
      one_law = c.naming_is_determined.ensures.forget;
    } in
    atoms_fit c.args.state.now k.result.now c.args.node c.in_ok-atoms.atoms.items c.as_slice.result.now c.starts.result.now
    c.in_ok-rest.rest c.put_starts.new.pure asked c.in_ok-atoms.ensures c.as_slice.ensures.value c.in_ok-rest.ensures c.in_ok-put_starts.ensures

pub put_known-requires : goal.put_known-requires
put_known-requires c =
    let k = c.known-known in
    let asked : IsAsked c.args.state.now k.result.now c.args.node = record {
      kinds = k.ensures.kinds;
      starts = k.ensures.starts;
      follows = k.ensures.follows;
      is_false = k.ensures.is_false;
      well = c.requires.made;
      there = c.requires.there;
      not_null = c.requires.not_null;
      not_false = c.requires.not_false;
      unnamed = c.requires.unnamed;
      says = c.normal_forms_say_all.ensures;
      form = c.has_normal_form.ensures;
      made_law = c.naming_makes_well.ensures.forget;
      one_law = c.naming_is_determined.ensures.forget;
    } in
    let left =
    all_left c.args.state.now k.result.now c.args.node c.in_ok-atoms.atoms.items c.as_slice.result.now c.starts.result.now
    c.in_ok-rest.rest c.put_starts.new.pure c.put_atoms.new.pure asked c.in_ok-atoms.ensures c.as_slice.ensures.value c.starts.ensures
    c.in_ok-rest.ensures c.in_ok-put_starts.ensures c.in_ok-put_atoms.ensures in
    record { starts = left.starts; bounded = left.bounded; atoms = left.atoms }

pub returns : goal.returns
returns c =
    let k = c.known-known in
    let asked : IsAsked c.args.state.now k.result.now c.args.node = record {
      kinds = k.ensures.kinds;
      starts = k.ensures.starts;
      follows = k.ensures.follows;
      is_false = k.ensures.is_false;
      well = c.requires.made;
      there = c.requires.there;
      not_null = c.requires.not_null;
      not_false = c.requires.not_false;
      unnamed = c.requires.unnamed;
      says = c.normal_forms_say_all.ensures;
      form = c.has_normal_form.ensures;
      made_law = c.naming_makes_well.ensures.forget;
      one_law = c.naming_is_determined.ensures.forget;
    } in
    let left =
    all_left c.args.state.now k.result.now c.args.node c.in_ok-atoms.atoms.items c.as_slice.result.now c.starts.result.now
    c.in_ok-rest.rest c.put_starts.new.pure c.put_atoms.new.pure asked c.in_ok-atoms.ensures c.as_slice.ensures.value c.starts.ensures
    c.in_ok-rest.ensures c.in_ok-put_starts.ensures c.in_ok-put_atoms.ensures in
    record {
      ok = subst (λ (z : State). Forgets c.args.node c.args.state.now z) (sym c.put_known.ensures) left.forgets;
      told = λ atoms list. c.put_known.ensures ∙ left.told atoms list;
      err = tt;
    }
