use Rattle.std.proofs.Common.{refl, ap, sym, subst, ◌∙◌, ◌≡◌, ℕ, false, true≢false}
use Rattle.std.specs.Prelude.{length, Option, None, Some, is_some}
use Rattle.indexmap.specs.IndexMap.{Updates}
use Rattle.mc_c_syntax.specs.Ast.Names.{is_same}
use Rattle.mc_c_syntax.specs.Names.Firsts.{AreFirsts, behind}
use Rattle.mc_c_syntax.proofs.NamesLemmas.Firsts.{AreFirsts-again, AreFirsts-new, place_of}
use Rattle.mc_c_syntax.proofs.names.names.Names.push.Goals as goal

-- src/names.rt:59:13
pub invariant_of-self-then-is_some : goal.invariant_of-self-then-is_some
invariant_of-self-then-is_some c =
    subst (λ names. AreFirsts (behind names) c.self.inside.firsts) (sym c.in_ok-push.ensures.items)
    (AreFirsts-again c.self.inside.names.items c.self.inside.firsts c.args.name c.self.invariant (ap is_some (ap (λ names. place_of names c.args.name.now) c.self.view_is ∙ sym c.place.ensures) ∙ sym c.is_some.ensures ∙ c.if-is_some.true))

none : (o : Option ℕ) → is_some o ≡ false → o ≡ None
none None e = refl
none (Some i) e = absurd (true≢false e)

pub invariant_of-self-in_default : goal.invariant_of-self-in_default
invariant_of-self-in_default c =
    subst (λ names. AreFirsts (behind names) c.insert.new.self) (sym c.in_ok-push-2.ensures.items)
    (AreFirsts-new c.self.inside.names.items c.self.inside.firsts c.insert.new.self c.args.name c.as_slice.result c.self.invariant
    (ap (λ names. place_of names c.args.name.now) c.self.view_is ∙ sym c.place.ensures ∙ none c.place.result (sym c.is_some.ensures ∙ c.if-is_some.false)) c.as_slice.ensures
    (subst (λ n. Updates (λ k l. is_same k.now l.now) c.self.inside.firsts c.insert.new.self c.as_slice.result (Some n)) (c.len-place.ensures ∙ ap length (sym c.self.view_is)) c.in_default.ensures.updates))
