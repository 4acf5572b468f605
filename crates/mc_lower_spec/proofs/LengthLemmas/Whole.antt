-- So many points a flow graph has.
use Rattle.std.proofs.Common.{◌≤◌, ◌+◌, ℕ, suc, List, [], Option, length, refl, arith, inl, inr}
use Rattle.mc_base.specs.declared.plain.Kind.{Kind}
use Rattle.mc_semantics.specs.Resolved.Programs.{Function}
use Rattle.mc_lower_spec.specs.Graphs.{Graph, local, Stage}
use Rattle.mc_lower_spec.specs.Lowering.{Answers, answers_none, answers, Falls, falls_in_main, falls, Makes, makes, IsLowering}
use Rattle.mc_lower_spec.specs.Length.Lengths.{IsFalling, IsSoMany, IsTable, stretch_all}
use Rattle.mc_lower_spec.proofs.LengthLemmas.Counting.{Counts, appended, created}
use Rattle.mc_lower_spec.proofs.LengthLemmas.Least as least
use Rattle.mc_lower_spec.proofs.LengthLemmas.Least.{HasMade}
use Rattle.mc_lower_spec.proofs.LengthLemmas.Most as most
use Rattle.mc_lower_spec.proofs.LengthLemmas.Most.{OnlyMade, IsFree}
use Rattle.mc_lower_spec.proofs.Owning as owning
use Rattle.mc_lower_spec.proofs.Owning.{IsOwned, of_local, locals, on}
use Rattle.mc_lower_spec.proofs.Stages.{points_of, variables_of}

answered : {g : Graph} {out : ℕ} {kind : Option Kind} {s u : Stage} → Answers g out kind s u → Counts 0 s u
answered answers_none = record { points = omega arith; variables = omega arith }
answered (answers is) = created is

answer_owned : {g : Graph} {out at : ℕ} {kind : Option Kind} {s u : Stage} → Answers g at kind s u → IsOwned of_local g out (points_of s) (variables_of s) (points_of u) (variables_of u)
answer_owned {s = s} answers_none = owning.same s
answer_owned (answers is) = owning.made (λ o never. absurd (cc never)) is

fallen : {g : Graph} {f : Function} {out n : ℕ} {s u : Stage} → IsFalling f n → Falls g f out s u → Counts n s u
fallen falling (falls_in_main is made_by copies) = let a = appended copies in let one = falling.0 is in record { points = omega (arith, a.points, one); variables = a.variables }
fallen falling (falls other) = let nothing = falling.1 other in record { points = omega (arith, nothing); variables = omega arith }

none_made : {g : Graph} {out k : ℕ} → HasMade g out [] k
none_made = record { has = λ x among. absurd (omega (arith, among.1)) }

none_only : {g : Graph} {out n k : ℕ} → IsOwned of_local g (suc out) 0 0 n k → n ≤ out → OnlyMade g out [] k
none_only {out = out} before bound =
    record {
      only = λ i x is within. elim (before.owned i out (local out x) is refl (omega arith) within) [
        | inl own ↦ absurd (omega (arith, own))
        | inr inner ↦ absurd (omega (arith, inner.1, bound))
      ];
    }

none_there : {g : Graph} {out n k high : ℕ} → IsOwned of_local g (suc out) 0 0 n k → high ≤ out → IsFree g n high k
none_there before bound =
    record {
      free = λ i o x is within low less. elim (before.owned i o (local o x) is refl (omega arith) within) [
        | inl own ↦ omega (arith, own, less, bound)
        | inr inner ↦ omega (arith, inner.1, low)
      ];
    }

pub made : {g : Graph} {f : Function} {out k n : ℕ} (table : List ℕ) → IsTable table g.program.functions → IsFalling f n → Makes g f out k → IsSoMany (suc (stretch_all table [] [] f.body + n)) out
made {out = out} table right falling (makes skip answers_first body falls_last end) =
    let a = appended skip in
    let b = answered answers_first in
    let d = fallen falling falls_last in
    let grow = owning.all_lowered body in
    let before = on (locals (owning.appended {out = suc out} skip)) (answer_owned answers_first) in
    let i = least.all_lowered table right [] body none_made in
    let j = most.all_lowered table right [] body (none_only before (omega (arith, grow.points, d.points))) (none_there before (omega (arith, d.points))) (omega (arith, d.points)) in
    record {
      least = omega (arith, a.points, b.points, d.points, i.points);
      most = λ few. let y = j.points (omega (arith, few)) in omega (arith, few, a.points, b.points, d.points, y);
    }

pub whole : (g : Graph) (table : List ℕ) (entry : Function) (out count n : ℕ) → IsTable table g.program.functions → IsLowering g entry out count → IsFalling entry n
    → IsSoMany (suc (suc (stretch_all table [] [] entry.body + n))) (length g.flow.points)
whole g table entry out count n right lowering falling =
    let m = made table right falling lowering.made in
    let all = lowering.points in
    record { least = omega (arith, m.least, all); most = λ few. let y = m.most (omega (arith, few)) in omega (arith, y, all) }
