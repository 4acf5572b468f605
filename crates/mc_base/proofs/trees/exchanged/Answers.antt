use Rattle.std.proofs.Common.{◌≡◌, ◌<◌, ◌≤◌, ◌+◌, length, get_or, arith}
use Rattle.std.proofs.Math.ListN.{set}
use Rattle.std.proofs.lemmas.List.Sums.{sum_by-set, get_or-le-sum_by}
use Rattle.std.specs.List.{sum_by}
use Rattle.mc_base.proofs.Work.{less_at_hand}
use Rattle.mc_base.proofs.trees.exchanged.Goals as goal

pub returns-in-Some : goal.returns-in-Some
returns-in-Some g c =
    let size = g.T.Tree.size in
    let list = c.in-Many.list.items in
    let first = c.in-Some.first.now in
    let waiting = c.args.waiting in
    let is : first ≡ get_or list 0 first = c.in-Some.ensures.value in
    let some : 0 < length list = grind (arith, c.in-Many.list.ok.0, c.in-Some.ensures.variant) in
    let all : sum_by size (set list 0 waiting) + size first ≡ sum_by size list + size waiting = rw is (sum_by-set size list 0 waiting first some) in
    let held : size first ≤ sum_by size list = rw is (get_or-le-sum_by size list 0 first some) in
    let made : size c.holding-in-Some.result ≡ sum_by size (set list 0 waiting) + 1 = rw (← c.replace-tree-in-Some.ensures.after) c.holding-in-Some.ensures in
    rw (c.in-Many.is, c.replace-tree-in-Some.ensures.value) (less_at_hand (sum_by size list + 1) (size waiting) (size first) (size c.holding-in-Some.result) (omega (arith, all, made)) (omega (arith, held)))
