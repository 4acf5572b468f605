-- Variables of the flow graph so far, in the finished one.
use Rattle.std.proofs.Common.{◌≡◌, ◌++◌, ℕ, List, [], ◌∷◌, Some, sym, ap, ◌∙◌, subst, length}
use Rattle.std.proofs.lemmas.Option.{slice_get_within}
use Rattle.std.specs.Prelude.{slice_get}
use Rattle.mc_base.specs.declared.plain.Kind.{Kind}
use Rattle.mc_base.specs.declared.plain.VarInfo.{VarInfo}
use Rattle.mc_lower_spec.specs.Graphs.{stage, var, Creates, creates, IsMade, is_made}
use Rattle.mc_lower.specs.declared.builder.Builder.{Builder}
use Rattle.mc_lower.specs.declared.variables.Owner.{Owner as OwnerCode}
use Rattle.mc_lower.specs.Owned.{IsFirst}
use Rattle.mc_lower.specs.Worlds.{World, Agrees, owner_of, stage_of}
use Rattle.mc_lower.proofs.Agreeing.{at_last, one_more}

-- the variable that was found is made
pub owned_there : (w : World) (b : Builder) (owner : OwnerCode) (i : ℕ) → IsFirst b.variables.list.items owner (Some i) → Agrees w b
    → IsMade w.graph (owner_of w.out owner) (var i) (stage_of w b)
owned_there w b owner i first agrees =
    is_made (agrees.owners i first.0.0 first.0.1 ∙ ap (λ o. Some (owner_of w.out o)) first.0.2) (slice_get_within b.variables.list.items i first.0.0 first.0.1)

-- the variable that was put last is created
pub created : (w : World) (owner : OwnerCode) (info : VarInfo) (old new : Builder) (n : ℕ) → n ≡ length old.variables.list.items
    → new.variables.list.items ≡ old.variables.list.items ++ record { owner = owner; info = info } ∷ [] → new.lines ≡ old.lines
    → Agrees w new → Creates w.graph (owner_of w.out owner) info (stage_of w old) (var n) (stage_of w new)
created w owner info old new n number items lines agrees =
    let k : ℕ = length old.variables.list.items in
    let there : slice_get w.graph.owners k ≡ Some (owner_of w.out owner) =
    at_last (λ i v. slice_get w.graph.owners i ≡ Some (owner_of w.out v.owner)) old.variables.list.items _ _ items agrees.owners in
    let known : slice_get w.graph.flow.vars k ≡ Some info = at_last (λ i v. slice_get w.graph.flow.vars i ≡ Some v.info) old.variables.list.items _ _ items agrees.infos in
    subst (λ m. Creates w.graph (owner_of w.out owner) info (stage_of w old) (var m) (stage_of w new)) (sym number)
    (subst (λ u. Creates w.graph (owner_of w.out owner) info (stage_of w old) (var k) u)
    (ap (λ m. stage (w.at old.lines.goal.0) (length old.lines.points.items) m) (sym (one_more old.variables.list.items _ _ items))
    ∙ ap (λ l. stage (w.at l.goal.0) (length l.points.items) (length new.variables.list.items)) (sym lines))
    (creates there known))

-- a name and a kind make what is known of a variable
abbrev with_info : List ℕ → Kind → VarInfo
with_info name kind = record { name = name; kind = kind }

pub info_same : (i : VarInfo) (name : List ℕ) (kind : Kind) → i.name ≡ name → i.kind ≡ kind → i ≡ record { name = name; kind = kind }
info_same i name kind a b = ap (λ x. with_info x i.kind) a ∙ ap (λ y. with_info name y) b
