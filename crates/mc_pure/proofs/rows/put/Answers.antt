use Rattle.std.proofs.Common.{◌≡◌, ◌<◌, ◌+◌, ℕ, List, length, take, drop, ◌++◌, map, Some, slice_get, slice_set, get_or, sym, ◌∙◌, ap, add-one, arith}
use Rattle.mc_pure.specs.declared.rows.Row.{Row}
use Rattle.mc_pure.specs.Rows.{changed_by}
use Rattle.mc_pure.proofs.Changing.{map_step, map_rest, there, still_first}
use Rattle.mc_pure.proofs.rows.put.Goals as goal

step : (f : Row → Row) (rows before : List Row) (i : ℕ) (d r : Row) → i < length rows → rows ≡ map f (take i before) ++ drop i before → r ≡ f (get_or rows i d) → slice_set rows i r ≡ map f (take (i + 1) before) ++ drop (i + 1) before
step f rows before i d r lt inv e =
    let x : slice_get rows i ≡ Some (get_or rows i d) = there rows i d lt in
    let y : slice_get (map f (take i before) ++ drop i before) i ≡ Some (get_or rows i d) = ap (λ (z : List Row). slice_get z i) (sym inv) ∙ x in
    rw (add-one, e) (ap (λ (z : List Row). slice_set z i (f (get_or rows i d))) inv ∙ map_step f before i (get_or rows i d) (map_rest f before i (get_or rows i d) y))

pub loop-i-init : goal.loop-i-init
loop-i-init c = still_first (changed_by c.args.change.now) c.args.rows.now c.args.first c.requires.stay

pub loop-i-preserved : goal.loop-i-preserved
loop-i-preserved c = step (changed_by c.args.change.now) c.loop-i.rows c.args.rows.now c.loop-i.i _ c.change_row.new.row (omega (arith, c.loop-i.auto.rows, c.loop-i-test.true)) c.loop-i.invariant c.change_row.ensures
