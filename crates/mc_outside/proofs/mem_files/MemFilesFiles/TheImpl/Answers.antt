use Rattle.std.proofs.Common.{rules}
use Rattle.std.proofs.lemmas.Result.{on_err_weaker}
use Rattle.mc_outside.specs.Entries.{bytes_at}
use Rattle.mc_outside.proofs.OutsideLemmas.{adds_or_stays}
use Rattle.mc_outside.proofs.mem_files.MemFilesFiles.TheImpl.Goals as goal

pub append-tells : goal.append-tells
append-tells c = record {
  adds = adds_or_stays (bytes_at c.args.self.now.entries c.args.name.now) c.args.bytes.now (bytes_at c.new.self.now.entries c.args.name.now) c.result
      c.ensures.added (on_err_weaker c.result (λ stays. stays c.args.name.now) c.ensures.fault);
  limit = search rules;
  others = c.ensures.others;
  cause = search rules;
}
