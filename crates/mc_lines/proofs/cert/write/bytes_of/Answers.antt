use Rattle.std.proofs.Common.{ℕ}
use Rattle.std.specs.Prelude.{Vec}
use Rattle.std.specs.declared.alloc.Global.{Global}
use Rattle.serde_json.specs.View.{view}
use Rattle.mc_lines.proofs.CertLemmas.Flat.{written_compactly, written_readably}
use Rattle.mc_lines.proofs.cert.write.bytes_of.Goals as goal

pub returns-clause-compact : goal.returns-clause-compact
returns-clause-compact c =
    written_compactly (λ (b : Vec ℕ Global). b.items) c.to_vec.result (view c.in_ok-value_of.field-0) c.args.line.now c.in_ok-value_of.ensures.0 c.to_vec.ensures.text

pub returns-clause-spells : goal.returns-clause-spells
returns-clause-spells c =
    written_readably (λ (b : Vec ℕ Global). b.items) c.to_vec.result (view c.in_ok-value_of.field-0) c.args.line.now c.in_ok-value_of.ensures.0 c.in_ok-value_of.ensures.1 c.to_vec.ensures.utf8 c.to_vec.ensures.reads_back
