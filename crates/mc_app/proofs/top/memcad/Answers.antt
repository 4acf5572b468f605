use Rattle.std.proofs.Common.{◌∙◌, map, option_map, subst, sym}
use Rattle.std.specs.Prelude.{string_bytes}
use Rattle.mc_app.specs.Alike.{IsLikeAnalysis}
use Rattle.mc_app.specs.Answers.{document_of, status_of}
use Rattle.mc_app.proofs.Leaving.{answer_ends, fault_ends, leaves_document, only_target, target_part}
use Rattle.mc_app.specs.Statuses.{IsComplete, IsDecided}
use Rattle.mc_app.specs.declared.answer.Status.{Status}
use Rattle.mc_app.specs.Demo.Ending.{EndsWellForDemo}
use Rattle.mc_app.proofs.Seeing.{answer_ends_demo}
use Rattle.mc_app.proofs.Printing.{part_of_answer}
use Rattle.mc_app.proofs.Telling.{alarms_tell, answer_is_like}
use Rattle.mc_app.proofs.top.memcad.Goals as goal

pub returns-in-Err-keep-clause-why : goal.returns-in-Err-keep-clause-why
returns-in-Err-keep-clause-why g c =
    fault_ends _ _ (map string_bytes c.args.words.now) _ _ c.in-Err-keep.fault c.status_of-in-Err-keep.result c.status_of-in-Err-keep.ensures

pub returns-in-Err-keep-clause-same : goal.returns-in-Err-keep-clause-same
returns-in-Err-keep-clause-same g c =
    let words = map string_bytes c.args.words.now in
    let old = g.F.Files.holds c.args.files.now in
    let mid = g.F.Files.holds c.found.new.files in
    let new = g.F.Files.holds c.keep.new.files in
    let target = option_map (λ s. s.now) c.in-Ok.reply.target in
    only_target words target old mid new (document_of c.in-Ok.reply.answer) c.keep.result c.in-Ok.ensures.target c.in-Ok.ensures.same c.keep.ensures.kept

pub returns-in-Err-keep-clause-leaves_part : goal.returns-in-Err-keep-clause-leaves_part
returns-in-Err-keep-clause-leaves_part g c =
    let words = map string_bytes c.args.words.now in
    let old = g.F.Files.holds c.args.files.now in
    let mid = g.F.Files.holds c.found.new.files in
    let new = g.F.Files.holds c.keep.new.files in
    let target = option_map (λ s. s.now) c.in-Ok.reply.target in
    target_part words target old mid new c.in-Ok.reply.answer c.keep.result c.in-Ok.ensures.target c.in-Ok.ensures.same c.in-Ok.ensures.why c.keep.ensures.kept

pub returns-in-Err-tell-clause-why : goal.returns-in-Err-tell-clause-why
returns-in-Err-tell-clause-why g c =
    fault_ends _ _ (map string_bytes c.args.words.now) _ _ c.in-Err-tell.fault c.status_of-in-Err-tell.result c.status_of-in-Err-tell.ensures

pub returns-in-Err-tell-clause-same : goal.returns-in-Err-tell-clause-same
returns-in-Err-tell-clause-same g c =
    let words = map string_bytes c.args.words.now in
    let old = g.F.Files.holds c.args.files.now in
    let mid = g.F.Files.holds c.found.new.files in
    let new = g.F.Files.holds c.keep.new.files in
    let target = option_map (λ s. s.now) c.in-Ok.reply.target in
    only_target words target old mid new (document_of c.in-Ok.reply.answer) c.keep.result c.in-Ok.ensures.target c.in-Ok.ensures.same c.keep.ensures.kept

pub returns-in-Err-tell-clause-leaves_part : goal.returns-in-Err-tell-clause-leaves_part
returns-in-Err-tell-clause-leaves_part g c =
    let words = map string_bytes c.args.words.now in
    let old = g.F.Files.holds c.args.files.now in
    let mid = g.F.Files.holds c.found.new.files in
    let new = g.F.Files.holds c.keep.new.files in
    let target = option_map (λ s. s.now) c.in-Ok.reply.target in
    target_part words target old mid new c.in-Ok.reply.answer c.keep.result c.in-Ok.ensures.target c.in-Ok.ensures.same c.in-Ok.ensures.why c.keep.ensures.kept

pub returns-clause-safe : goal.returns-clause-safe
returns-clause-safe g c = λ good. c.in-Ok.ensures.safe (sym c.status.ensures ∙ good)

pub returns-clause-why : goal.returns-clause-why
returns-clause-why g c =
    let words = map string_bytes c.args.words.now in
    let old = g.F.Files.holds c.args.files.now in
    let mid = g.F.Files.holds c.found.new.files in
    let new = g.F.Files.holds c.keep.new.files in
    let target = option_map (λ s. s.now) c.in-Ok.reply.target in
    answer_ends old mid new words target _ _ c.in-Ok.reply.answer c.status.result c.in-Ok-keep.field-0 c.in-Ok-tell.field-0 c.status.ensures c.in-Ok.ensures.why c.in-Ok.ensures.target c.in-Ok.ensures.same
    c.in-Ok-keep.ensures.kept c.in-Ok-tell.ensures.adds

pub returns-clause-prints_part : goal.returns-clause-prints_part
returns-clause-prints_part g c =
    let words = map string_bytes c.args.words.now in
    let old = g.F.Files.holds c.args.files.now in
    let mid = g.F.Files.holds c.found.new.files in
    let new = g.F.Files.holds c.keep.new.files in
    let target = option_map (λ s. s.now) c.in-Ok.reply.target in
    let answer = c.in-Ok.reply.answer in
    let leaves = leaves_document words target old mid new (document_of answer) c.in-Ok-keep.field-0 c.in-Ok.ensures.target c.in-Ok.ensures.same c.in-Ok-keep.ensures.kept in
    part_of_answer old new words answer _ _ c.tell.result c.in-Ok.ensures.why leaves c.tell.ensures.adds

pub returns-in-Err-tell-clause-prints_part : goal.returns-in-Err-tell-clause-prints_part
returns-in-Err-tell-clause-prints_part g c =
    let words = map string_bytes c.args.words.now in
    let old = g.F.Files.holds c.args.files.now in
    let mid = g.F.Files.holds c.found.new.files in
    let new = g.F.Files.holds c.keep.new.files in
    let target = option_map (λ s. s.now) c.in-Ok.reply.target in
    let answer = c.in-Ok.reply.answer in
    let leaves = leaves_document words target old mid new (document_of answer) c.in-Ok-keep.field-0 c.in-Ok.ensures.target c.in-Ok.ensures.same c.in-Ok-keep.ensures.kept in
    part_of_answer old new words answer _ _ c.tell.result c.in-Ok.ensures.why leaves c.tell.ensures.adds

pub returns-clause-same : goal.returns-clause-same
returns-clause-same g c =
    let words = map string_bytes c.args.words.now in
    let old = g.F.Files.holds c.args.files.now in
    let mid = g.F.Files.holds c.found.new.files in
    let new = g.F.Files.holds c.keep.new.files in
    let target = option_map (λ s. s.now) c.in-Ok.reply.target in
    only_target words target old mid new (document_of c.in-Ok.reply.answer) c.keep.result c.in-Ok.ensures.target c.in-Ok.ensures.same c.keep.ensures.kept

pub returns-clause-leaves_part : goal.returns-clause-leaves_part
returns-clause-leaves_part g c =
    let words = map string_bytes c.args.words.now in
    let old = g.F.Files.holds c.args.files.now in
    let mid = g.F.Files.holds c.found.new.files in
    let new = g.F.Files.holds c.keep.new.files in
    let target = option_map (λ s. s.now) c.in-Ok.reply.target in
    target_part words target old mid new c.in-Ok.reply.answer c.keep.result c.in-Ok.ensures.target c.in-Ok.ensures.same c.in-Ok.ensures.why c.keep.ensures.kept

pub returns-clause-alarms : goal.returns-clause-alarms
returns-clause-alarms g c = λ is.
    alarms_tell (g.F.Files.holds c.args.files.now) (map string_bytes c.args.words.now) c.in-Ok.reply.answer _ _ c.in-Ok.ensures.why c.in-Ok-tell.ensures.adds (sym c.status.ensures ∙ is)

pub returns-clause-complete : goal.returns-clause-complete
returns-clause-complete g c =
    let holds = g.F.Files.holds c.args.files.now in
    let words = map string_bytes c.args.words.now in
    subst (λ (s : Status). IsComplete holds words s) (sym c.status.ensures) (c.answers_are_complete.ensures holds words c.in-Ok.reply.answer c.in-Ok.ensures.why)

pub returns-clause-demo : goal.returns-clause-demo
returns-clause-demo g c =
    let words = map string_bytes c.args.words.now in
    subst (λ (s : Status). EndsWellForDemo words s) (sym c.status.ensures) (answer_ends_demo (g.F.Files.holds c.args.files.now) words c.in-Ok.reply.answer c.in-Ok.ensures.why)

pub returns-clause-alike : goal.returns-clause-alike
returns-clause-alike g c =
    let holds = g.F.Files.holds c.args.files.now in
    let words = map string_bytes c.args.words.now in
    let like = answer_is_like c.documents_are_judged_alike.ensures holds words c.in-Ok.reply.answer _ _ c.in-Ok.ensures.why c.in-Ok-tell.ensures.adds in
    subst (λ (s : Status). IsLikeAnalysis holds words (g.K.Sink.written c.args.out.now) (g.K.Sink.written c.tell.new.out) s) (sym c.status.ensures) like

pub returns-clause-decided : goal.returns-clause-decided
returns-clause-decided g c =
    let holds = g.F.Files.holds c.args.files.now in
    let words = map string_bytes c.args.words.now in
    let complete = c.answers_are_complete.ensures holds words c.in-Ok.reply.answer c.in-Ok.ensures.why in
    subst (λ (s : Status). IsDecided holds words s) (sym c.status.ensures) (c.closed_programs_are_decided.ensures holds words (status_of c.in-Ok.reply.answer) complete)
