-- What calls come to in the finished flow graph.
use Rattle.std.proofs.Common.{◌≡◌, ◌+◌, ℕ, suc, List, [], ◌∷◌, Option, Some, sym, subst, length, drop, arith}
use Rattle.std.specs.Prelude.{slice_get}
use Rattle.mc_base.specs.declared.ids.VarId.{VarId}
use Rattle.mc_base.specs.declared.text.place.Place.{Place}
use Rattle.mc_flow.specs.declared.instr.Instr.TheVariants.{Copy}
use Rattle.mc_flow.specs.declared.instr.Operand.{Operand}
use Rattle.mc_flow.specs.declared.instr.Operand.TheVariants.{Var}
use Rattle.mc_semantics.specs.Resolved.Programs.{Call, Function, assign, result_of, returns}
use Rattle.mc_lower_spec.specs.Graphs.{Graph, result, plain, Stage, Appends, Undefines, IsMade}
use Rattle.mc_lower_spec.specs.Lowering.{Around, in_body, Receives, receives, Passes, passes, Awaits, Calls, calls, Performs, performs_result, Lowers, LowersAll, returns_result}
use Rattle.mc_lower.specs.declared.values.Target.{Target}
use Rattle.mc_lower.specs.Left.{EndsCall, ends_call, PassesAll, TakesResult, AnswersResult}
use Rattle.mc_lower.specs.Owned.{CreatesLocal}
use Rattle.mc_lower.specs.Valued.{target_of}
use Rattle.mc_lower.specs.Worlds.{GoesTo, goes_to}
use Rattle.mc_lower.proofs.Valuing.{one_left}

-- ---- parameters and arguments one after the other
pub received_on : (g : Graph) (f : Function) (out x n rest more : ℕ) (v : VarId) (vs : List VarId) (s m u : Stage) → n ≡ x + 1 → rest ≡ suc more
    → CreatesLocal g f out x s v m → Receives g f out n more m vs u → Receives g f out x rest s (v ∷ vs) u
received_on g f out x n rest more v vs s m u next is created received =
    let same : n ≡ suc x = omega arith in
    subst (λ k. Receives g f out x k s (v ∷ vs) u) (sym is)
    (receives created.there created.created (subst (λ k. Receives g f out k more m vs u) same received))

pub passed_on : (g : Graph) (place : Place) (vs : List VarId) (os : List Operand) (at n : ℕ) (v : VarId) (o : Operand) (s m u : Stage)
    → n ≡ at + 1 → slice_get vs at ≡ Some v → slice_get os at ≡ Some o → Appends g plain place (λ q. Copy v o q) s m
    → Passes g place (drop n vs) (drop n os) m u → Passes g place (drop at vs) (drop at os) s u
passed_on g place vs os at n v o s m u next first second copied rest =
    subst (λ l. Passes g place l (drop at os) s u) (sym (one_left vs at n v next first))
    (subst (λ l. Passes g place (v ∷ drop n vs) l s u) (sym (one_left os at n o next second)) (passes copied rest))

-- ---- whole calls
pub called : (g : Graph) (out inner : ℕ) (place : Place) (c : Call) (f : Function) (vs : List VarId) (ret : Option VarId) (s m j r e u : Stage)
    → slice_get g.program.functions c.function ≡ Some f → Receives g f inner 0 f.parameters s vs m → PassesAll g out place c.arguments vs m j
    → Awaits g inner place f.result j ret r → LowersAll g (in_body f inner) f.body r e → EndsCall g inner place (length f.locals) e u
    → Calls g out place c s ret u
called g out inner place c f vs ret s m j r _ _ there received passed awaited body (ends_call forgotten) =
    calls there received passed.evaluates passed.passes passed.undefines awaited body forgotten.are_made forgotten.undefined

pub taken_result : (g : Graph) (out : ℕ) (place : Place) (c : Call) (target : Target) (answer : Option VarId) (s m u : Stage)
    → Calls g out place c s answer m → TakesResult g out place target answer m u → Performs g out place (assign (target_of target) (result_of c)) s u
taken_result g out place c target answer s m u called_there t =
    performs_result (subst (λ a. Calls g out place c s a m) t.there called_there) t.puts t.undefines

answered_on : (g : Graph) (c : Around) (place : Place) (d : Call) (own ret : VarId) (s m i j u : Stage) → IsMade g (result c.out) own s
    → Calls g c.out place d s (Some ret) m → Appends g plain place (λ q. Copy own (Var ret) q) m i → Undefines g place (ret ∷ []) i j → GoesTo c.out j u
    → Lowers g c (returns place (Some (result_of d))) s u
answered_on g c place d own ret s m i _ _ made called_there copied undefined goes_to = returns_result made called_there copied undefined

pub answered : (g : Graph) (c : Around) (place : Place) (d : Call) (own : VarId) (answer : Option VarId) (s m u : Stage) → IsMade g (result c.out) own s
    → Calls g c.out place d s answer m → AnswersResult g c.out place own answer m u → Lowers g c (returns place (Some (result_of d))) s u
answered g c place d own answer s m u made called_there t =
    answered_on g c place d own t.returned s m t.copied t.undefined u made (subst (λ a. Calls g c.out place d s a m) t.there called_there) t.appends t.undefines t.goes
