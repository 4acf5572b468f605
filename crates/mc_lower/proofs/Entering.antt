-- The entry of a program, in the finished flow graph.
use Rattle.std.proofs.Common.{◌≡◌, ℕ, suc, refl, sym, ap, ◌∙◌, subst}
use Rattle.mc_flow.specs.declared.instr.Instr.TheVariants.{End, Skip}
use Rattle.mc_semantics.specs.Resolved.Programs.{Function}
use Rattle.mc_lower_spec.specs.Graphs.{Graph, plain, nowhere, Stage, stage, IsPoint, Appends}
use Rattle.mc_lower_spec.specs.Lowering.{Answers, Falls, Makes, makes, LowersAll, in_body}
use Rattle.mc_lower.specs.Finished.{Ends, ends}
use Rattle.mc_lower.specs.declared.builder.Label.{Label}
use Rattle.mc_lower.specs.declared.builder.Role.{Role as RoleCode}
use Rattle.mc_lower.specs.Worlds.{World, Lands, lands}
use Rattle.mc_lower.proofs.Meeting.{appended_at}

pub ended_at : (w : World) (out at : ℕ) (next : Label) (s u : Stage) → at ≡ out → Lands w at RoleCode.Plain nowhere End next s u → Ends w.graph out s u
ended_at w out at next _ _ is (lands {k = k} there) =
    subst (λ x. Ends w.graph out (stage x x k) (stage (w.at next.0) (suc x) k)) (sym is) (ends (subst (λ x. IsPoint w.graph x plain nowhere End) is there))

pub entry_made : (g : Graph) (f : Function) (out a n k b p j : ℕ) (s m l e : Stage) → n ≡ 0 → k ≡ 0 → Appends g plain nowhere (λ q. Skip q) (stage a n k) s
    → Answers g out f.result s m → LowersAll g (in_body f out) f.body m l → Falls g f out l e → Ends g out e (stage b p j)
    → Makes g f out j × (p ≡ suc out)
entry_made g f out a n k _ _ _ s m l _ none zero first answers_there body falls_there (ends last) =
    let at : a ≡ n = appended_at g plain nowhere _ a n k s first in
    let from : stage a n k ≡ stage 0 0 0 = ap (λ x. stage x n k) (at ∙ none) ∙ ap (λ x. stage 0 x k) none ∙ ap (λ x. stage 0 0 x) zero in
    (makes (subst (λ x. Appends g plain nowhere (λ q. Skip q) x s) from first) answers_there body falls_there last, refl)
