use Rattle.mc_judge.proofs.JudgeLemmas.Cutting.{all_has_none, whole}
use Rattle.mc_judge.proofs.judge.pieces.whole_line.Goals as goal

pub returns-then-n-bytes : goal.returns-then-n-bytes
returns-then-n-bytes c = whole c.args.bytes.now c.line_len-n.result c.line_len-n.ensures.value c.if-n-bytes.true

pub returns-else-n-bytes : goal.returns-else-n-bytes
returns-else-n-bytes c = all_has_none c.args.bytes.now (rw c.line_len-n.ensures.value at c.if-n-bytes.false)
