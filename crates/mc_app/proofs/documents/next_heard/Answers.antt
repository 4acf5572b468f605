use Rattle.std.proofs.Common.{◌≤◌, ◌∙◌, length, drop, arith}
use Rattle.mc_app.proofs.Hearing.{front_length, front_of}
use Rattle.mc_app.proofs.documents.next_heard.Goals as goal

pub returns-clause-heard : goal.returns-clause-heard
returns-clause-heard g c =
    let bound = c.in_ok-n.ensures.bound in
    let kept = c.read_at.auto.buf in
    let inside : c.in_ok-n.n ≤ length c.read_at.new.buf = omega arith in (
      _,
      front_length c.in_ok-n.n c.read_at.new.buf (drop c.min-want.result c.args.buf.now) inside,
      c.in_ok-feed.ensures.heard,
      λ bytes h. front_of c.in_ok-n.n c.read_at.new.buf (drop c.min-want.result c.args.buf.now) inside ∙ (c.in_ok-n.ensures.read bytes h).copied,
    )
