use Rattle.std.proofs.Common.{◌≡◌, ◌∷◌, ◌∙◌, ◌-◌, List, None, ap, drop, length, sym, subst, take}
use Rattle.std.specs.Prelude.{IfOk}
use Rattle.mc_lines.specs.declared.cert.line.Line.{Line}
use Rattle.mc_lines.specs.declared.cert.line.Line.TheVariants.{Header}
use Rattle.mc_state.specs.declared.line.Form.TheVariants.{Chain}
use Rattle.mc_state.specs.declared.line.Version.TheVariants.{One}
use Rattle.mc_follow.specs.Report.Chains.{IsNoChain}
use Rattle.mc_follow.proofs.ReportLemmas.Chains.{first_rest}
use Rattle.mc_follow.proofs.report.chains.chain_report.Goals as goal

pub returns-then-is_header-clause-none : goal.returns-then-is_header-clause-none
returns-then-is_header-clause-none c =
    let lines = c.args.lines.now in
    let rest : List Line = take (length lines - 1) (drop 1 lines) in
    let all : lines ≡ Header One Chain ∷ rest =
    first_rest lines c.header-item.result c.in-len1-up.len_at_least c.header-item.is ∙ ap (λ (l : Line). l ∷ rest) (c.is_header.ensures.0 c.if-is_header.true) in
    subst (λ (ls : List Line). IfOk c.report_after.result (λ found. found ≡ None → IsNoChain c.args.flow.now c.args.defs.now ls)) (sym all)
    c.report_after.ensures.none
