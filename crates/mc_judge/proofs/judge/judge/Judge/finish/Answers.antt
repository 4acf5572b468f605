use Rattle.std.proofs.lemmas.Result.{IfOk-weaker}
use Rattle.mc_judge.specs.declared.judge.stage.Stage.TheVariants.{Spent}
use Rattle.std.proofs.Common.{◌≡◌, ◌≢◌, ◌∙◌, ℕ, List, true, false, length, suc, sym, subst}
use Rattle.std.specs.Prelude.{◌==◌}
use Rattle.mc_lines.specs.Cert.Lines.{lines_of}
use Rattle.mc_judge.specs.Judge.Stages.{IsAt, Leads}
use Rattle.mc_judge.proofs.JudgeLemmas.Hearing.{finished_closed, finished_open, no_bytes, some_bytes}
use Rattle.mc_judge.proofs.JudgeLemmas.Telling.{Laws, if_tells}
use Rattle.mc_judge.proofs.judge.judge.Judge.finish.Goals as goal

pub returns-then-is_empty-clause-verdict : goal.returns-then-is_empty-clause-verdict
returns-then-is_empty-clause-verdict c = λ k text judge heard.
    let empty : (length c.args.self.open.items == 0) ≡ true =
    subst (λ (bs : List ℕ). (length bs == 0) ≡ true) c.as_slice-bytes.ensures.value (sym c.is_empty.ensures ∙ c.if-is_empty.true) in
    let at : IsAt k c.args.self.flow.now c.args.self.defs.now (lines_of text) c.args.self.stage =
    finished_closed k text c.args.self heard (no_bytes c.args.self.open.items empty) in
    c.verdict.ensures.verdict k c.args.self.flow.now c.args.self.defs.now (lines_of text) at

pub returns-then-is_empty-clause-tells : goal.returns-then-is_empty-clause-tells
returns-then-is_empty-clause-tells c = λ k text judge heard.
    let empty : (length c.args.self.open.items == 0) ≡ true =
    subst (λ (bs : List ℕ). (length bs == 0) ≡ true) c.as_slice-bytes.ensures.value (sym c.is_empty.ensures ∙ c.if-is_empty.true) in
    let at : IsAt k c.args.self.flow.now c.args.self.defs.now (lines_of text) c.args.self.stage =
    finished_closed k text c.args.self heard (no_bytes c.args.self.open.items empty) in
    let laws : Laws = record {
      once = c.line_is_spelled_once.ensures;
      are_read = c.spelled_lines_are_read.ensures;
      certificates = c.documents_are_read.ensures.certificates;
      no_stuck = c.documents_are_read.ensures.no_stuck;
      alarms = c.legal_chains_are_read.ensures.alarms;
      no_alarm = c.legal_chains_are_read.ensures.no_alarm;
      unfinished = c.legal_chains_are_read.ensures.unfinished;
      one = c.chain_judges_agree.ensures.legal;
    } in
    if_tells laws k c.args.self.flow.now c.args.self.defs.now c.requires judge text c.verdict.result
    (c.verdict.ensures.verdict k c.args.self.flow.now c.args.self.defs.now (lines_of text) at)

pub returns-clause-verdict : goal.returns-clause-verdict
returns-clause-verdict c = λ k text judge heard.
    let some : (length c.args.self.open.items == 0) ≡ false =
    subst (λ (bs : List ℕ). (length bs == 0) ≡ false) c.as_slice-bytes.ensures.value (sym c.is_empty.ensures ∙ c.if-is_empty.false) in
    let leads : (texts : List (List ℕ)) → c.in_ok-number.number ≡ suc (length texts)
    → Leads c.args.self.flow.now c.args.self.defs.now c.args.self.open.items texts c.args.self.stage c.next_stage-last.result =
    λ texts counted. subst (λ (bs : List ℕ). Leads c.args.self.flow.now c.args.self.defs.now bs texts c.args.self.stage c.next_stage-last.result)
    c.as_slice-bytes.ensures.value (c.next_stage-last.ensures.leads texts counted) in
    let at : IsAt k c.args.self.flow.now c.args.self.defs.now (lines_of text) c.next_stage-last.result =
    finished_open k text c.args.self c.in_ok-number.number c.next_stage-last.result heard (some_bytes c.args.self.open.items some) judge
    c.in_ok-number.ensures leads c.next_stage-last.ensures.stays in
    c.verdict-2.ensures.verdict k c.args.self.flow.now c.args.self.defs.now (lines_of text) at

pub returns-clause-tells : goal.returns-clause-tells
returns-clause-tells c = λ k text judge heard.
    let some : (length c.args.self.open.items == 0) ≡ false =
    subst (λ (bs : List ℕ). (length bs == 0) ≡ false) c.as_slice-bytes.ensures.value (sym c.is_empty.ensures ∙ c.if-is_empty.false) in
    let leads : (texts : List (List ℕ)) → c.in_ok-number.number ≡ suc (length texts)
    → Leads c.args.self.flow.now c.args.self.defs.now c.args.self.open.items texts c.args.self.stage c.next_stage-last.result =
    λ texts counted. subst (λ (bs : List ℕ). Leads c.args.self.flow.now c.args.self.defs.now bs texts c.args.self.stage c.next_stage-last.result)
    c.as_slice-bytes.ensures.value (c.next_stage-last.ensures.leads texts counted) in
    let at : IsAt k c.args.self.flow.now c.args.self.defs.now (lines_of text) c.next_stage-last.result =
    finished_open k text c.args.self c.in_ok-number.number c.next_stage-last.result heard (some_bytes c.args.self.open.items some) judge
    c.in_ok-number.ensures leads c.next_stage-last.ensures.stays in
    let laws : Laws = record {
      once = c.line_is_spelled_once.ensures;
      are_read = c.spelled_lines_are_read.ensures;
      certificates = c.documents_are_read.ensures.certificates;
      no_stuck = c.documents_are_read.ensures.no_stuck;
      alarms = c.legal_chains_are_read.ensures.alarms;
      no_alarm = c.legal_chains_are_read.ensures.no_alarm;
      unfinished = c.legal_chains_are_read.ensures.unfinished;
      one = c.chain_judges_agree.ensures.legal;
    } in
    if_tells laws k c.args.self.flow.now c.args.self.defs.now c.requires judge text c.verdict-2.result
    (c.verdict-2.ensures.verdict k c.args.self.flow.now c.args.self.defs.now (lines_of text) at)

pub returns-clause-unspent : goal.returns-clause-unspent
returns-clause-unspent c =
    IfOk-weaker c.verdict-2.result (λ verdict. c.next_stage-last.result ≢ Spent) (λ verdict. c.args.self.stage ≢ Spent)
    (λ verdict known spent. known (c.next_stage-last.ensures.spent spent)) c.verdict-2.ensures.unspent
