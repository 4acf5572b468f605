use Rattle.std.proofs.Common.{◌≡◌, add-one, ap, length, arith}
use Rattle.mc_lines.proofs.CertLemmas.LineFirst.{line_first}
use Rattle.mc_lines.proofs.cert.pieces.first_line.Goals as goal

pub returns-clause-lines : goal.returns-clause-lines
returns-clause-lines c =
    rw (c.after.ensures, c.line_len-n.ensures.value, add-one)
    (line_first c.args.bytes.now (λ e. let none : length c.args.bytes.now ≡ 0 = ap length e in grind arith))
