use Rattle.std.proofs.Common.{◌≡◌, Some, refl, ◌∙◌}
use Rattle.std.specs.Prelude.{slice_get}
use Rattle.mc_lower.specs.Worlds.{owner_of}
use Rattle.mc_lower.proofs.Agreeing.{before}
use Rattle.mc_lower.proofs.Having.{made_last}
use Rattle.mc_lower.proofs.Owning.{created}
use Rattle.mc_lower.proofs.builder.Builder.create.Goals as goal

pub returns-clause-leads : goal.returns-clause-leads
returns-clause-leads c = λ w agrees.
    let old = c.args.self.now in
    let items = c.in_ok-add.ensures in (
      record {
        functions = agrees.functions;
        structs = agrees.structs;
        points = agrees.points;
        roles = agrees.roles;
        owners = before (λ i v. slice_get w.graph.owners i ≡ Some (owner_of w.out v.owner)) old.variables.list.items _ _ items agrees.owners;
        infos = before (λ i v. slice_get w.graph.flow.vars i ≡ Some v.info) old.variables.list.items _ _ items agrees.infos;
        marks = agrees.marks;
        outs = agrees.outs;
        blocks = agrees.blocks;
      },
      created w c.args.owner c.args.info old _ c.len.result (c.len.ensures ∙ old.variables.list.ok.0) items refl agrees,
    )

pub returns-clause-same : goal.returns-clause-same
returns-clause-same c = made_last c.args.self.now _ _ c.in_ok-add.ensures
