use Rattle.std.proofs.Common.{◌≡◌, false}
use Rattle.mc_state.specs.Known.{is_false}
use Rattle.mc_apply_steps.proofs.step.blocks.malloc.Goals as goal

pub returns-in-Ok-allocated : goal.returns-in-Ok-allocated
returns-in-Ok-allocated c = λ know tells.
    let no : is_false know ≡ false = let told = c.is_false.ensures.told know tells in cc in
    let full = c.in-Ok.ensures in
    let new = c.in-Ok-allocated.ensures in
    let count = c.field_count-fields.ensures in
    let both = c.null_or_block.ensures in
    rw (no) (cc)
