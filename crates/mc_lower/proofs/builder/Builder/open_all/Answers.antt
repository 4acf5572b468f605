use Rattle.std.proofs.Common.{◌≡◌, refl, ap, ◌∙◌}
use Rattle.mc_lower.proofs.Agreeing.{before, at_last, one_more}
use Rattle.mc_lower.proofs.Having.{one_block_more}
use Rattle.mc_lower.proofs.builder.Builder.open_all.Goals as goal

pub returns-clause-kept : goal.returns-clause-kept
returns-clause-kept c = λ w agrees.
    let old = c.args.self.now in (
      record {
        functions = agrees.functions;
        structs = agrees.structs;
        points = agrees.points;
        roles = agrees.roles;
        owners = agrees.owners;
        infos = agrees.infos;
        marks = agrees.marks;
        outs = agrees.outs;
        blocks = before (λ i xs. w.blocks i ≡ xs.items) old.blocks.items _ _ c.in_ok-push.ensures.items agrees.blocks;
      },
      refl,
    )

pub returns-clause-opened : goal.returns-clause-opened
returns-clause-opened c = λ w agrees.
    let old = c.args.self.now in
    ap w.blocks (c.len-block.ensures ∙ old.blocks.ok.0)
    ∙ at_last (λ i xs. w.blocks i ≡ xs.items) old.blocks.items _ _ c.in_ok-push.ensures.items agrees.blocks

pub returns-clause-last : goal.returns-clause-last
returns-clause-last c = c.len-block.ensures ∙ c.args.self.now.blocks.ok.0

pub returns-clause-same : goal.returns-clause-same
returns-clause-same c = one_block_more c.args.self.now _ (one_more _ _ _ c.in_ok-push.ensures.items)
