-- What a jump asks of a state and one state of its cut.
use Rattle.std.specs.Prelude.{◌≡◌, ◌==◌, ◌&&◌, not, ℕ, Bool, List, Option, Some, None, Ok, Err, length, slice_get}
use Rattle.std.specs.List.{list_all}
use Rattle.mc_base.specs.declared.ids.EdgeId.{EdgeId}
use Rattle.mc_base.specs.declared.ids.NodeId.{NodeId}
use Rattle.mc_pure.specs.Pure.{Kinds, kind_of}
use Rattle.mc_state.specs.Known.{Test, is_false}
use Rattle.mc_state.specs.Lists.{all_both, on_some}
use Rattle.mc_state.specs.Named.{are_distinct}
use Rattle.mc_state.specs.Premises.{Judged, need, have, then_give}
use Rattle.mc_state.specs.State.{State}
use Rattle.mc_kernel.specs.Judges.{has_image, are_images, is_known_too, is_edge_at, knows_image, is_whole_too, jumping_to, ends}

-- the premises of L13 from 4 on
abbrev pub fitting_to : Test → State → List NodeId → List EdgeId → State → Judged (Unit {0})
fitting_to know t images ids s =
    need 4 (are_images know s images t)
    (need 5 (all_both (is_known_too know images) t.env s.env)
    (need 6 (are_distinct ids && length t.graph.edges == length ids)
    (need 7 (all_both (is_edge_at know s.graph.edges images) t.graph.edges ids)
    (need 8 (list_all (knows_image know images) t.atoms)
    (need 9 (is_whole_too s t ids)
    (Ok tt))))))

-- the first premise that is unmet
abbrev pub unmet : {A : Type 0} → Judged A → Option ℕ
unmet (Ok a) = None
unmet (Err k) = Some k

-- the node there has a kind, and an image of it
abbrev pub has_kind_image : Test → Kinds → List NodeId → Kinds → NodeId → Bool
has_kind_image know kinds images theres n = on_some (λ kind. has_image know kinds images (n, kind)) (kind_of theres n)

-- what a jump gives is what fitting gives, where the state is not false and the cut has the state
abbrev pub JumpsAreFits : Type 0
JumpsAreFits =
    (know : Test) (heads : List State) (j : ℕ) (images : List NodeId) (ids : List EdgeId) (s : State)
    → jumping_to know heads j images ids s
    ≡ need 2 (not (is_false know)) (have 3 (slice_get heads j) (λ t. then_give ends (fitting_to know t images ids s)))
