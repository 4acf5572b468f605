-- Tidiness, from what each edge and each two nodes say.
use Rattle.std.proofs.Common.{◌≡◌, ◌↔◌, Bool, true}
use Rattle.std.specs.Prelude.{IfOk, IsTrue, Result, Ok, Err}
use Rattle.mc_state.specs.State.{State}
use Rattle.mc_state.specs.Facts.{IsFalse, IsTidy}
use Rattle.mc_joins.specs.Alike.Tidy.{NoneMerges, AllReached}
use Rattle.mc_joins.proofs.AlikeLemmas.Places.{place_of}

pub tidy_from : (s : State) → (IsFalse s → ⊥) → NoneMerges s → AllReached s → IsTidy s
tidy_from s consistent none all = record {
  consistent = consistent;
  reached = λ place id e h. all place (id, e) h;
  merged = λ keep gone can equal.
      let k = place_of s.kinds keep can.keep_is in
      let g = place_of s.kinds gone can.gone_is in
      none k.0 keep k.1 g.0 gone g.1 (can, equal);
}

pub none_merges : (s : State) → IsTidy s → NoneMerges s
none_merges s t = λ place keep e other gone h m. t.merged keep gone m.0 m.1

pub all_reached : (s : State) → IsTidy s → AllReached s
all_reached s t = λ place e h. t.reached place e.0 e.1 h

pub tells_tidy : {E : Type 0} (s : State) (r : Result Bool E) → (IsFalse s → ⊥) → NoneMerges s → IfOk r (λ b. IsTrue b ↔ AllReached s) → IfOk r (λ b. IsTrue b ↔ IsTidy s)
tells_tidy s (Ok b) consistent none h = (λ t. tidy_from s consistent none (h.0 t), λ t. h.1 (all_reached s t))
tells_tidy s (Err e) consistent none h = h
