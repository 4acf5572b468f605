use Rattle.std.proofs.Common.{◌≡◌, ◌∙◌, ◌++◌, List, [], ◌∷◌, ap, map, refl, subst, sym, true}
use Rattle.std.specs.Prelude.{Ok}
use Rattle.std.proofs.lemmas.List.{map-append}
use Rattle.mc_base.specs.declared.ids.PointId.{PointId}
use Rattle.mc_check_line.specs.declared.branch.Head.{Head as HeadCode}
use Rattle.mc_check_line.specs.Judging.{head_of}
use Rattle.mc_kernel.specs.Branches.{Head}
use Rattle.mc_kernel.specs.Judges.{is_cut}
use Rattle.mc_kernel.specs.Readings.{heading}
use Rattle.mc_kernel.proofs.ReadingLemmas.Lists.{all_end}
use Rattle.mc_state.specs.Fits.{IsWellMade}
use Rattle.mc_document.specs.Proof.Held.{seen}
use Rattle.mc_document.specs.Proof.Lines.{may_head_at, stands_behind}
use Rattle.mc_document.specs.Proof.Positions.{Position}
use Rattle.mc_document.specs.Proof.Stacks.{HeadsAreMade}
use Rattle.mc_document.proofs.ProofLemmas.Heads.{head_none, head_some}
use Rattle.mc_document.proofs.proof.proof.Proof.head.Goals as goal

pub returns-in_default : goal.returns-in_default
returns-in_default c = λ well formed.
    let old = c.args.self.now in
    let may : may_head_at old old.stage ≡ true = sym c.may_head.ensures ∙ c.if-not-may_head.false in
    let cut : is_cut old.cuts c.args.point ≡ true =
    ap (λ (q : Position). is_cut q.cuts c.args.point) (sym c.self.view_is)
    ∙ (sym (c.is_cut.ensures ∙ ap (λ (cs : List PointId). is_cut cs c.args.point) c.as_slice.ensures.value) ∙ c.if-not-is_cut.false) in
    let behind : stands_behind old.heads c.args.point ≡ true =
    ap (λ (q : Position). stands_behind q.heads c.args.point) (sym c.self.view_is)
    ∙ (sym (c.stands_behind.ensures ∙ ap (λ (hs : List HeadCode). stands_behind (map head_of hs) c.args.point) c.as_slice-else-not-is_cut.ensures.value) ∙ c.if-not-stands_behind.false) in
    (head_none old c.args.point c.args.raw.now well may cut behind (sym c.in_default.is ∙ c.in_ok-state.ensures.told well formed), refl)

pub returns : goal.returns
returns c = λ well formed.
    let old = c.args.self.now in
    let h : HeadCode = record { point = c.args.point; state = c.in-Some.state } in
    let may : may_head_at old old.stage ≡ true = sym c.may_head.ensures ∙ c.if-not-may_head.false in
    let cut : is_cut old.cuts c.args.point ≡ true =
    ap (λ (q : Position). is_cut q.cuts c.args.point) (sym c.self.view_is)
    ∙ (sym (c.is_cut.ensures ∙ ap (λ (cs : List PointId). is_cut cs c.args.point) c.as_slice.ensures.value) ∙ c.if-not-is_cut.false) in
    let behind : stands_behind old.heads c.args.point ≡ true =
    ap (λ (q : Position). stands_behind q.heads c.args.point) (sym c.self.view_is)
    ∙ (sym (c.stands_behind.ensures ∙ ap (λ (hs : List HeadCode). stands_behind (map head_of hs) c.args.point) c.as_slice-else-not-is_cut.ensures.value) ∙ c.if-not-stands_behind.false) in
    let heads : map head_of c.self.inside.heads.items ++ head_of h ∷ [] ≡ map head_of c.push.new.self.items =
    sym (map-append head_of c.self.inside.heads.items (h ∷ [])) ∙ ap (λ (hs : List HeadCode). map head_of hs) (sym c.in_ok-push.ensures.items) in
    head_some old c.args.point c.args.raw.now well may cut behind c.in-Some.state (sym c.in-Some.is ∙ c.in_ok-state.ensures.told well formed)
    ∙ ap (λ (q : Position). Ok (record q { stage = heading; heads = q.heads ++ head_of h ∷ [] })) (sym c.self.view_is)
    ∙ ap (λ (hs : List Head). Ok (record (seen c.self.inside) { stage = heading; heads = hs })) heads

pub invariant_of-self-2 : goal.invariant_of-self-2
invariant_of-self-2 c =
    let h : HeadCode = record { point = c.args.point; state = c.in-Some.state } in
    let flow = c.self.inside.flow.now in
    let defs = c.self.inside.defs.now in
    let heads : map head_of c.self.inside.heads.items ++ head_of h ∷ [] ≡ map head_of c.push.new.self.items =
    sym (map-append head_of c.self.inside.heads.items (h ∷ [])) ∙ ap (λ (hs : List HeadCode). map head_of hs) (sym c.in_ok-push.ensures.items) in
    let made : IsWellMade defs flow.vars flow.structs.list c.in-Some.state =
    subst (λ (q : Position). IsWellMade q.defs q.flow.vars q.flow.structs.list c.in-Some.state) (sym c.self.view_is)
    (c.in_ok-state.ensures.made c.in-Some.state c.in-Some.is) in
    record {
      valid = c.self.invariant.valid;
      heads = subst (λ (hs : List Head). HeadsAreMade flow defs hs) heads
          (all_end (λ (x : Head). IsWellMade defs flow.vars flow.structs.list x.1) (map head_of c.self.inside.heads.items) (head_of h) c.self.invariant.heads made);
      branches = c.self.invariant.branches;
    }
