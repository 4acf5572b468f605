use Rattle.std.proofs.Common.{Ok, length, ap, arith}
use Rattle.mc_c_syntax.specs.Lex.Readings.{at_end, at_fault, past_gap, past_token, onto, Lexes}
use Rattle.mc_c_syntax.proofs.LexLemmas.Prefixes.{all_onto-push, all_onto-tokens, all_onto-fault}
use Rattle.mc_c_syntax.proofs.LexLemmas.Ends.{tokens_end}
use Rattle.mc_c_syntax.proofs.LexLemmas.Rooms.{room_behind}
use Rattle.mc_c_syntax.proofs.lex.lexer.lex.Goals as goal

pub returns-in-Fault-clause-reading : goal.returns-in-Fault-clause-reading
returns-in-Fault-clause-reading c = λ _. rw all_onto-fault at (c.pieces.invariant.so_far _ (at_fault c.in-Fault.ensures.piece))

pub returns-in-End : goal.returns-in-End
returns-in-End c =
    let all = c.pieces.invariant.so_far _ (at_end c.in-End.ensures.piece) in
    let read : Lexes c.args.bytes.now (Ok c.push.new.self.items) = rw (c.in_ok-push-in-End.ensures.items, c.new.ensures) (rw all_onto-tokens at all) in
    record { reading = read; end = tokens_end read }

pub pieces-preserved-in-Gap : goal.pieces-preserved-in-Gap
pieces-preserved-in-Gap c =
    let split = c.split_at.ensures in
    record {
      so_far = λ reading read. c.pieces.invariant.so_far reading (past_gap c.in-Gap.ensures.piece (rw (c.behind-spot.ensures, split.front, split.back) at read));
      room = rw c.behind-spot.ensures (room_behind c.pieces.spot c.split_at.result.0.now _ (length c.pieces.rest.now) (omega (arith, split.front_len, split.back_len)) c.pieces.invariant.room);
    }

pub pieces-preserved : goal.pieces-preserved
pieces-preserved c =
    let split = c.split_at-in-Lexeme.ensures in
    record {
      so_far = λ reading read.
          let is_token = c.in_ok-token-in-Lexeme.ensures in
          let rest = rw (c.behind-spot-in-Lexeme.ensures, split.front, split.back) at read in
          let whole = past_token c.in-Lexeme.ensures.piece rest (ap (λ t. onto t reading) (rw split.front at is_token)) in
          rw (c.in_ok-push-in-Lexeme.ensures.items, all_onto-push) (c.pieces.invariant.so_far _ whole);
      room = rw c.behind-spot-in-Lexeme.ensures (room_behind c.pieces.spot c.split_at-in-Lexeme.result.0.now _ (length c.pieces.rest.now) (omega (arith, split.front_len, split.back_len)) c.pieces.invariant.room);
    }
