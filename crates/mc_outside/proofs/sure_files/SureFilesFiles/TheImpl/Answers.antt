use Rattle.std.proofs.Common.{rules, ap, Some, unwrap_or, []}
use Rattle.std.proofs.lemmas.Result.{on_ok_weaker, on_err_weaker}
use Rattle.mc_outside.specs.Entries.{bytes_or_empty}
use Rattle.mc_outside.proofs.OutsideLemmas.{adds_or_stays}
use Rattle.mc_outside.proofs.sure_files.SureFilesFiles.TheImpl.Goals as goal

pub append-tells : goal.append-tells
append-tells c = record {
  adds = adds_or_stays (Some (bytes_or_empty c.args.self.now c.args.name.now)) c.args.bytes.now (Some (bytes_or_empty c.new.self.now c.args.name.now)) c.result
      (on_ok_weaker c.result (ap (λ o. Some (unwrap_or o []))) c.ensures.added)
      (on_err_weaker c.result (λ stays. ap (λ o. Some (unwrap_or o [])) (stays c.args.name.now)) c.ensures.fault);
  limit = search rules;
  others = λ other ne. ap (λ o. Some (unwrap_or o [])) (c.ensures.others other ne);
  cause = search rules;
}
