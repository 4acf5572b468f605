use Rattle.std.proofs.Common.{◌++◌, ◌∷◌, [], ◌∙◌, ap, sym, refl, subst}
use Rattle.std.specs.Prelude.{IsSome, Result, Ok, Err, OnErr}
use Rattle.std.specs.Option.{option_copied_mut}
use Rattle.mc_c_syntax.specs.Names.Grouped.{items_of}
use Rattle.mc_c_syntax.proofs.NamesLemmas.Grouped.{Puts, Adds-put, Stays-put}
use Rattle.mc_c_syntax.proofs.names.groups.add.Goals as goal

failed : {T E : Type 0} (result : Result T E) (P : Type 0) → P → OnErr result P
failed (Ok value) P p = tt
failed (Err fault) P p = p

-- src/groups.rt:23:9
pub returns-in_err-push-clause-err : goal.returns-in_err-push-clause-err
returns-in_err-push-clause-err g c =
    let found = ap option_copied_mut (sym c.in-Some.is) ∙ c.get_mut.ensures.value in
    failed c.from_residual.result _
    (Stays-put c.args.groups.now (c.get_mut.follows.lender c.push.new.self) c.as_slice-name.result c.push.new.self
    (c.in_err-push.ensures.items ∙ ap items_of found)
    ((c.get_mut.follows.holds c.push.new.self).3 (subst IsSome found refl)))

-- src/groups.rt:24:9
pub returns-in-Some-clause-ok : goal.returns-in-Some-clause-ok
returns-in-Some-clause-ok g c =
    let found = ap option_copied_mut (sym c.in-Some.is) ∙ c.get_mut.ensures.value in
    Adds-put c.args.groups.now (c.get_mut.follows.lender c.push.new.self) c.as_slice-name.result (g.T.HasName.name c.args.item.now) c.push.new.self c.args.item
    (c.as_slice-name.ensures ∙ c.name.ensures)
    (c.in_ok-push.ensures.items ∙ ap (λ group. items_of group ++ c.args.item ∷ []) found)
    ((c.get_mut.follows.holds c.push.new.self).3 (subst IsSome found refl))

-- src/groups.rt:13:1
pub returns-clause-ok : goal.returns-clause-ok
returns-clause-ok g c =
    let found = ap option_copied_mut (sym c.in_default.is) ∙ c.get_mut.ensures.value in
    Adds-put c.args.groups.now c.insert.new.self c.as_slice-name.result (g.T.HasName.name c.args.item.now) c.push-2.new.self c.args.item
    (c.as_slice-name.ensures ∙ c.name.ensures)
    (c.in_ok-push-2.ensures.items ∙ ap (λ items. items ++ c.args.item ∷ []) (c.new-group.ensures.items ∙ ap items_of found))
    (subst (λ groups. Puts groups c.insert.new.self c.as_slice-name.result c.push-2.new.self) c.get_mut.follows.holds-at-none c.in_ok-insert.ensures.updates)
