use Rattle.std.proofs.Common.{refl, ap, sym, subst, ◌∙◌, ◌≡◌, ℕ, false, true≢false}
use Rattle.std.specs.Prelude.{length, Option, None, Some, is_some}
use Rattle.indexmap.specs.IndexMap.{Updates}
use Rattle.mc_resolve.specs.Numbered.{AreNumbers}
use Rattle.mc_resolve.proofs.Numbers.{AreNumbers-again, AreNumbers-new, number_at, same_key}
use Rattle.mc_resolve.proofs.locals.Locals.push.Goals as goal

pub invariant_of-self-then-is_some : goal.invariant_of-self-then-is_some
invariant_of-self-then-is_some c =
    subst (λ vs. AreNumbers vs c.self.inside.numbers) (sym c.in_ok-push.ensures.items)
    (AreNumbers-again c.self.inside.variables.items c.self.inside.numbers c.args.variable c.self.invariant
    (ap is_some (ap (λ vs. number_at vs c.args.variable.place) c.self.view_is ∙ sym c.find.ensures) ∙ sym c.is_some.ensures ∙ c.if-is_some.true))

none : (o : Option ℕ) → is_some o ≡ false → o ≡ None
none None e = refl
none (Some i) e = absurd (true≢false e)

pub invariant_of-self-in_default : goal.invariant_of-self-in_default
invariant_of-self-in_default c =
    subst (λ vs. AreNumbers vs c.insert.new.self) (sym c.in_ok-push-2.ensures.items)
    (AreNumbers-new c.self.inside.variables.items c.self.inside.numbers c.insert.new.self c.args.variable c.key_of.result c.self.invariant
    (ap (λ vs. number_at vs c.args.variable.place) c.self.view_is ∙ sym c.find.ensures ∙ none c.find.result (sym c.is_some.ensures ∙ c.if-is_some.false))
    c.key_of.ensures
    (subst (λ n. Updates same_key c.self.inside.numbers c.insert.new.self c.key_of.result (Some n)) (c.len-number.ensures ∙ ap length (sym c.self.view_is)) c.in_default.ensures.updates))
