use Rattle.std.proofs.Common.{◌≡◌, ◌∙◌, List, ap, map, insert, subst, sym}
use Rattle.std.specs.Prelude.{Ok}
use Rattle.mc_check_line.specs.declared.branch.Head.{Head as HeadCode}
use Rattle.mc_check_line.specs.Judging.{head_of, path}
use Rattle.mc_kernel.specs.Branches.{Head, Path}
use Rattle.mc_state.specs.Fits.{IsWellMade}
use Rattle.mc_document.specs.Proof.Held.{seen}
use Rattle.mc_document.specs.Proof.Lines.{ending_with}
use Rattle.mc_document.specs.Proof.Positions.{Position}
use Rattle.mc_document.specs.Proof.Stacks.{AreMade}
use Rattle.mc_kernel.specs.Reading.Documents.{IsMade}
use Rattle.mc_document.proofs.ProofLemmas.Placed.{all_later, ends_first, map_inserted, put_made}
use Rattle.mc_document.proofs.proof.proof.Proof.put_head.Goals as goal

pub returns : goal.returns
returns c =
    let h : HeadCode = record { point = c.in-Some.branch.now.point; state = c.args.state } in
    let heads : Path → List Head = λ (b : Path). insert (map head_of c.self.inside.heads.items) c.args.place (b.point, c.args.state) in
    subst (λ (q : Position). ending_with (λ b. insert q.heads c.args.place (b.point, c.args.state)) q
    ≡ Ok (seen (record c.self.inside { heads = c.insert.new.self; branches = c.end_first.new.self }))) c.self.view_is
    (ends_first (seen c.self.inside) heads (path c.in-Some.branch.now) (map head_of c.insert.new.self.items) c.end_first.new.self
    c.in-Some.ensures
    (sym (map_inserted head_of c.self.inside.heads.items c.args.place h) ∙ ap (λ (hs : List HeadCode). map head_of hs) (sym c.in_ok-insert.ensures.items))
    c.end_first.ensures)

pub invariant_of-self-2 : goal.invariant_of-self-2
invariant_of-self-2 c =
    let flow = c.self.inside.flow.now in
    let defs = c.self.inside.defs.now in
    let h : HeadCode = record { point = c.in-Some.branch.now.point; state = c.args.state } in
    let made : IsWellMade defs flow.vars flow.structs.list c.args.state =
    subst (λ (q : Position). IsWellMade q.defs q.flow.vars q.flow.structs.list c.args.state) (sym c.self.view_is) c.requires.made in
    record {
      valid = c.self.invariant.valid;
      heads = put_made flow defs c.self.inside.heads.items c.insert.new.self.items c.args.place h c.in_ok-insert.ensures.items c.self.invariant.heads made;
      branches = subst (λ (bs : List Path). AreMade flow defs bs) (sym c.end_first.ensures)
          (all_later (IsMade flow defs) c.self.inside.branches c.self.invariant.branches);
    }
