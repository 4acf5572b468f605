use Rattle.std.proofs.Common.{◌≡◌, ◌<◌, ◌+◌, refl, sym, subst, ◌∙◌, true, false, length, Vec, Global, arith}
use Rattle.std.proofs.lemmas.Option.{slice_get_read}
use Rattle.std.specs.Prelude.{Contains}
use Rattle.mc_base.specs.declared.ids.VarId.{VarId}
use Rattle.mc_lower.proofs.Gathering.{Gathers, gathered_none, gathered_more, gathered_same, gathered}
use Rattle.mc_lower.proofs.builder.Builder.made_among.Goals as goal
use Rattle.mc_lower.proofs.builder.Builder.made_among.Goals.{then-is_among+in_ok-push, else-is_among}

pub loop-number-init : goal.loop-number-init
loop-number-init c = gathered_none _ _ _ _ c.new-made.ensures.items

pub loop-number-preserved : goal.loop-number-preserved
loop-number-preserved c =
    let n = c.loop-number.number in
    let variables = c.args.self.now.variables.list.items in
    let counted : c.len-number-end.result ≡ length variables = c.len-number-end.ensures ∙ c.args.self.now.variables.list.ok.0 in
    let below = c.loop-number-test.true in
    let inside : n < length variables = omega arith in
    let v = c.index.result.now in
    let there = slice_get_read variables (length variables) n v refl inside c.index.ensures in
    elim c.if-is_among.branch [
      | then-is_among+in_ok-push w ↦ subst (λ (m : Vec VarId Global). Gathers (λ x. Contains c.args.numbers.now x) c.args.occurrence variables (n + 1) m.items) (sym w.made-is)
          (gathered_more (λ x. Contains c.args.numbers.now x) c.args.occurrence n variables c.loop-number.made.items _ v there (c.is_among.ensures.0 w.if-is_among.true) w.in_ok-push.ensures.items c.loop-number.invariant)
      | else-is_among w ↦ subst (λ (m : Vec VarId Global). Gathers (λ x. Contains c.args.numbers.now x) c.args.occurrence variables (n + 1) m.items) (sym w.made-is)
          (gathered_same (λ x. Contains c.args.numbers.now x) c.args.occurrence n variables c.loop-number.made.items v there
          (λ is_meant. let never : false ≡ true = sym w.if-is_among.false ∙ c.is_among.ensures.1 is_meant in cc) c.loop-number.invariant)
    ]

pub returns : goal.returns
returns c = λ w agrees.
    let n = c.loop-number.number in
    let variables = c.args.self.now.variables.list.items in
    let counted : c.len-number-end.result ≡ length variables = c.len-number-end.ensures ∙ c.args.self.now.variables.list.ok.0 in
    let above = c.loop-number-test.false in
    let end = c.loop-number.auto.number-end in
    let same : n ≡ length variables = omega arith in
    gathered w c.args.self.now (λ x. Contains c.args.numbers.now x) c.args.occurrence c.loop-number.made.items
    (subst (λ k. Gathers (λ x. Contains c.args.numbers.now x) c.args.occurrence variables k c.loop-number.made.items) same c.loop-number.invariant) agrees
