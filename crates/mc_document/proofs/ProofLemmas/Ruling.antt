-- Lines of rules, from the first of the branches to the whole document.
use Rattle.std.proofs.Common.{◌≡◌, ◌+◌, ℕ, List, refl, ap, map, subst}
use Rattle.std.specs.Prelude.{Result, Ok, Err}
use Rattle.mc_base.specs.declared.ids.PointId.{PointId}
use Rattle.mc_flow.specs.declared.defs.rules.Def.{Def}
use Rattle.mc_flow.specs.declared.graph.Flow.{Flow}
use Rattle.mc_state.specs.declared.line.Form.{Form}
use Rattle.mc_check_line.specs.declared.branch.Head.{Head as HeadCode}
use Rattle.mc_check_line.specs.Judging.{head_of}
use Rattle.mc_lines.specs.declared.cert.line.Line.{Line}
use Rattle.mc_state.specs.Premises.{then_give}
use Rattle.mc_kernel.specs.Branches.{Path}
use Rattle.mc_kernel.specs.Judges.{Knowledge}
use Rattle.mc_document.specs.declared.proof.fault.ApplyFault.{ApplyFault}
use Rattle.mc_document.specs.declared.proof.fault.ApplyFault.TheVariants.{Premise, NoMemory}
use Rattle.mc_document.specs.Proof.Lines.{AnswersAll, ComesTo, advanced, marks, ruling_at, setting_at}
use Rattle.mc_document.specs.Proof.Positions.{Position}

module _ (k : Knowledge) (l : Line) (q : Position) where
  abbrev come : List Path → Position
  come branches = record q { branches = branches; stuck = q.stuck + marks l }

  pub ruled_ok : (after : List Path) → advanced k q.flow q.defs (setting_at q) l q.branches ≡ Ok after
      → ruling_at k l q ≡ Ok (record q { branches = after; stuck = q.stuck + marks l })
  ruled_ok after e = ap (then_give come) e

  pub ruled_err : (p : ℕ) → advanced k q.flow q.defs (setting_at q) l q.branches ≡ Err p → ruling_at k l q ≡ Err p
  ruled_err p e = ap (then_give come) e

  -- a refused line leaves the branches
  pub stays : (after : List Path) (fault : ApplyFault)
      → ComesTo (advanced k q.flow q.defs (setting_at q) l q.branches) q.branches after (Err fault)
      → ComesTo (ruling_at k l q) q (record q { branches = after }) (Err fault)
  stays after (Premise p) told = (ruled_err p told.0, ap (λ (bs : List Path). record q { branches = bs }) told.1)
  stays after NoMemory told = tt

  -- and begins nothing
  pub begins_not : (old : Position) (after : List Path) (fault : ApplyFault)
      → ComesTo (advanced k q.flow q.defs (setting_at q) l q.branches) q.branches after (Err fault)
      → ComesTo (ruling_at k l q) old old (Err fault)
  begins_not old after (Premise p) told = (ruled_err p told.0, refl)
  begins_not old after NoMemory told = tt

-- what comes of a line is the same for equal cuts, heads and branches
pub settle : (flow : Flow) (defs : List Def) (form : Form) (l : Line) (after : List Path) (result : Result Unit ApplyFault)
    (cuts cs : List PointId) (heads hs : List HeadCode) (branches bs : List Path) → cuts ≡ cs → heads ≡ hs → branches ≡ bs
    → ((k : Knowledge) → AnswersAll k flow defs
    → ComesTo (advanced k flow defs (record { form = form; cuts = cuts; heads = map head_of heads }) l branches) branches after result)
    → (k : Knowledge) → AnswersAll k flow defs
    → ComesTo (advanced k flow defs (record { form = form; cuts = cs; heads = map head_of hs }) l bs) bs after result
settle flow defs form l after result cuts cs heads hs branches bs a b c told =
    subst (λ (bs : List Path). (k : Knowledge) → AnswersAll k flow defs
    → ComesTo (advanced k flow defs (record { form = form; cuts = cs; heads = map head_of hs }) l bs) bs after result) c
    (subst (λ (hs : List HeadCode). (k : Knowledge) → AnswersAll k flow defs
    → ComesTo (advanced k flow defs (record { form = form; cuts = cs; heads = map head_of hs }) l branches) branches after result) b
    (subst (λ (cs : List PointId). (k : Knowledge) → AnswersAll k flow defs
    → ComesTo (advanced k flow defs (record { form = form; cuts = cs; heads = map head_of heads }) l branches) branches after result) a told))
