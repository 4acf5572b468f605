use Rattle.std.proofs.Common.{◌≡◌, ◌∙◌, All, ap, arith, map, subst, take}
use Rattle.std.proofs.lemmas.List.{take_all}
use Rattle.serde_json.specs.View.{view}
use Rattle.serde_json.proofs.Views.{view-Array}
use Rattle.mc_lines.specs.Cert.Entries.{values_data}
use Rattle.mc_lines.proofs.CertLemmas.Arrays.{all_more, spelled_more}
use Rattle.mc_lines.proofs.cert.entry.ItemsEntry.write.Goals as goal

pub loop-item-preserved : goal.loop-item-preserved
loop-item-preserved g c = record {
  spelled = rw c.in_ok-push.ensures.items (spelled_more view g.T.Entry.spelled c.loop-item.values.items c.in_ok-write.field-0 c.as_slice-items.result.now c.loop-item.item-index c.item-item.result (omega arith) c.item-item.is c.in_ok-write.ensures.0 c.loop-item.invariant.spelled);
  fits = all_more g.T.Entry.fits c.as_slice-items.result.now c.loop-item.item-index c.item-item.result (omega arith) c.item-item.is c.in_ok-write.ensures.1 c.loop-item.invariant.fits;
}

pub returns : goal.returns
returns g c =
    let whole : take c.loop-item.item-index c.as_slice-items.result.now ≡ c.args.self.now = take_all c.loop-item.item-index c.as_slice-items.result.now (omega arith) ∙ c.as_slice-items.ensures in
    let all : values_data (map view c.loop-item.values.items) ≡ values_data (map g.T.Entry.spelled c.args.self.now) = ap values_data (c.loop-item.invariant.spelled ∙ ap (map g.T.Entry.spelled) whole) in
    (view-Array c.loop-item.values ∙ all, subst (λ xs. All g.T.Entry.fits xs) whole c.loop-item.invariant.fits)
