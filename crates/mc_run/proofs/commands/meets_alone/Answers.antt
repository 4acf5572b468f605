use Rattle.std.proofs.Common.{◌≡◌, rules}
use mir.Syntax.{w64}
use mir.Val.{to_z, of_z}
use Rattle.mc_run.proofs.commands.meets_alone.Goals as goal

pub returns-then-not-branch : goal.returns-then-not-branch
returns-then-not-branch c =
    let free = rw (c.new-part.ensures, c.as_slice.ensures) at c.in_ok-add_blocks.ensures.free in
    ((λ yes. cc), λ both. (let all = free.1 both.0 in let taken = c.if-not-branch.true in cc))

pub returns : goal.returns
returns c =
    let free = rw (c.new-part.ensures, c.as_slice.ensures) at c.in_ok-add_blocks.ensures.free in
    let added = rw (c.new-part.ensures, c.as_slice.ensures) at (c.in_ok-add_blocks.ensures.added c.if-not-branch.false) in
    let d : to_z w64 (of_z w64 c.args.given.now.value) ≡ c.args.given.now.value = search rules in
    let met = rw (d, added) at c.in_ok-met.ensures in
    ((λ yes. (free.0 c.if-not-branch.false, met.0 yes)), λ both. met.1 both.1)
