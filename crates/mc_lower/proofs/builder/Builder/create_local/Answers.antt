use Rattle.mc_lower.specs.declared.variables.Owner.{Owner}
use Rattle.mc_lower.proofs.Having.{new_if}
use Rattle.std.proofs.Common.{subst, sym, ap, refl, ◌∙◌, length}
use Rattle.std.proofs.lemmas.Option.{slice_get-map, slice_get_read}
use Rattle.std.specs.Prelude.{option_map, slice_get}
use Rattle.mc_semantics.specs.Resolved.Views.{local_of}
use Rattle.mc_lower_spec.specs.Graphs.{local, Creates}
use Rattle.mc_lower.specs.Worlds.{stage_of}
use Rattle.mc_lower.proofs.Owning.{info_same}
use Rattle.mc_lower.proofs.builder.Builder.create_local.Goals as goal

pub returns-clause-leads : goal.returns-clause-leads
returns-clause-leads c = λ w agrees.
    let made = c.in_ok-variable.ensures.leads w agrees in
    let l = c.in-Some.local.now in (
      made.0,
      record {
        info = local_of l;
        there = slice_get-map local_of c.args.function.now.locals.items c.args.number
            ∙ ap (λ o. option_map local_of o) (sym (ap (λ vs. slice_get vs c.args.number) c.deref.ensures.value)
            ∙ slice_get_read c.deref.result.now (length c.deref.result.now) c.args.number l refl c.in-Some.ensures.lookup.3.0 c.in-Some.ensures.lookup.1);
        created = subst (λ i. Creates w.graph (local (w.out c.args.occurrence) c.args.number) i (stage_of w c.args.self.now) c.in_ok-variable.variable (stage_of w c.create.new.self))
            (info_same c.in_ok-info.info l.name l.kind c.in_ok-info.ensures.name c.in_ok-info.ensures.kind) made.1;
      },
    )

pub create-requires : goal.create-requires
create-requires c = new_if c.args.self.now.variables.list.items (Owner.Local c.args.occurrence c.args.number) refl c.requires.new
