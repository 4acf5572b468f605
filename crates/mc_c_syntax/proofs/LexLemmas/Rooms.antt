-- Room after some bytes.
use Rattle.std.proofs.Common.{◌≡◌, ◌+◌, ℕ, Bool, true, false, cond, eqb, List, [], ◌∷◌, length, arith}
use Rattle.mc_c_syntax.specs.declared.lex.spot.Spot.{Spot}
use Rattle.mc_c_syntax.specs.Lex.Spots.{step, behind, HasRoom}

room_of_either : (v : Bool) (one other : Spot) (count : ℕ) → HasRoom one count → HasRoom other count → HasRoom (cond v one other) count
room_of_either true one other count r s = r
room_of_either false one other count r s = s

step_room : (spot : Spot) (byte count : ℕ) → HasRoom spot (count + 1) → HasRoom (step spot byte) count
step_room spot byte count room =
    room_of_either (eqb byte 10) _ _ count
    (record { lines = omega (arith, room.lines); columns = omega (arith, room.columns) })
    (record { lines = omega (arith, room.lines); columns = omega (arith, room.columns) })

-- what stands after some bytes has the room that they leave
pub room_behind : (spot : Spot) (bytes : List ℕ) (count total : ℕ) → length bytes + count ≡ total → HasRoom spot total → HasRoom (behind spot bytes) count
room_behind spot [] count total e room = record { lines = omega (arith, room.lines, e); columns = omega (arith, room.columns, e) }
room_behind spot (byte ∷ bytes) count total e room =
    room_behind (step spot byte) bytes count (length bytes + count) (omega arith)
    (step_room spot byte (length bytes + count) (record { lines = omega (arith, room.lines, e); columns = omega (arith, room.columns, e) }))
