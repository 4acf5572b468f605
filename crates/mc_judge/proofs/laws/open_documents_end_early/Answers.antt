use Rattle.std.proofs.Common.{inl, inr, [], ◌∷◌, sym, subst}
use Rattle.mc_judge.specs.Documents.{IsEnded}
use Rattle.mc_judge.specs.Judge.Laws.{OpenDocumentsEndEarly}
use Rattle.mc_judge.proofs.JudgeLemmas.Documents.{AreRead, Once, not_refused, nothing_refused, same_document}
use Rattle.mc_judge.proofs.laws.open_documents_end_early.Goals as goal

ends_early : Once → AreRead → OpenDocumentsEndEarly
ends_early once are_read k flow defs [] v (inl (d, reading, ended, said)) goes = absurd reading.spelled
ends_early once are_read k flow defs (t ∷ texts) v (inl (d, reading, ended, said)) (last, begun, still) =
    let same = same_document k flow defs once (t ∷ texts) last d begun reading in
    absurd (still (subst IsEnded (sym same) ended))
ends_early once are_read k flow defs texts v (inr (inl (goes, is))) too = is
ends_early once are_read k flow defs [] v (inr (inr (cause, bad, is))) goes = absurd (nothing_refused k flow defs cause bad)
ends_early once are_read k flow defs (t ∷ texts) v (inr (inr (cause, bad, is))) (last, begun, still) =
    absurd (not_refused k flow defs once are_read (t ∷ texts) last cause begun bad)

pub returns : goal.returns
returns c = ends_early c.line_is_spelled_once.ensures c.spelled_lines_are_read.ensures
