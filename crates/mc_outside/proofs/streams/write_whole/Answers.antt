use Rattle.std.proofs.Common.{◌≤◌, ◌-◌, subst, length, take, drop, arith}
use Rattle.std.proofs.Math.Seq.{take-add}
use Rattle.std.proofs.lemmas.List.{length-drop, length-take-le, take-take}
use Rattle.std.specs.Io.KnownBytes.{Appends}
use Rattle.mc_outside.proofs.StreamLemmas.{appends_more}
use Rattle.mc_outside.proofs.streams.write_whole.Goals as goal

pub loop-written-preserved : goal.loop-written-preserved
loop-written-preserved g c = record {
  bound = omega (arith, c.in_ok-n.ensures.bound, length-take-le (length c.args.bytes.now - c.loop-written.written) (drop c.loop-written.written c.args.bytes.now) (omega (arith, length-drop c.loop-written.written c.args.bytes.now)));
  added =
      let bytes = c.args.bytes.now in
      let w = c.loop-written.written in
      let n = c.in_ok-n.n in
      let before = g.W.Write.contents c.loop-written.to in
      let now = g.W.Write.contents c.write.new.self in
      let few : n ≤ length bytes - w = omega (arith, c.in_ok-n.ensures.bound, length-take-le (length bytes - w) (drop w bytes) (omega (arith, length-drop w bytes))) in
      let wrote : Appends before now (take n (drop w bytes)) = subst (λ xs. Appends before now xs) (take-take n (length bytes - w) (drop w bytes) few) c.in_ok-n.ensures.bytes in
      rw take-add (appends_more (g.W.Write.contents c.args.to.now) before now (take w bytes) (take n (drop w bytes)) c.loop-written.invariant.added wrote);
}
