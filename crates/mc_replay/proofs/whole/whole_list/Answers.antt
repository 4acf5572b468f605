use Rattle.std.proofs.Common.{◌≡◌, ap, subst, ◌∙◌}
use Rattle.mc_base.specs.declared.plain.Kind.TheVariants.{Int}
use Rattle.mc_pure.specs.Known.{with_node}
use Rattle.mc_pure.specs.Nodes.{RiseFrom}
use Rattle.mc_pure.specs.Pure.{Pure}
use Rattle.mc_pure_ops.specs.Canon.Forgotten.{IsForgottenOrFalse}
use Rattle.mc_replay.proofs.WholeLemmas.Listing.{further_there, says_all}
use Rattle.mc_replay.proofs.whole.whole_list.Goals as goal

pub forget-requires-clause-there : goal.forget-requires-clause-there
forget-requires-clause-there c =
    further_there c.args.known.now c.args.further c.node.new.self c.requires.new
    (c.in_ok-node.ensures.ok ∙ ap (λ (p : Pure). with_node p c.args.further Int) c.in_ok-more.ensures)

pub returns : goal.returns
returns c =
    let p = c.args.known.now in
    let n = c.args.further in
    let is : c.node.new.self ≡ with_node p n Int = c.in_ok-node.ensures.ok ∙ ap (λ (x : Pure). with_node x n Int) c.in_ok-more.ensures in
    says_all p n (record {
      says = c.normal_forms_say_all.ensures;
      grows = c.derived_grows.ensures.atoms;
      follows = c.derived_is_renamed.ensures.follows;
      wrong = c.derived_is_renamed.ensures.is_false;
      fit = c.is_kept.ensures.fit;
      form = c.has_normal_form.ensures;
      consistent = c.requires.consistent;
      bare = c.requires.bare;
      new = c.requires.new;
      rise = c.is_kept.ensures.rise;
      more_rise = subst (λ (x : Pure). RiseFrom 1 x.kinds) is c.is_kept-2.ensures.rise;
    }) c.in_ok-list.list.items (subst (λ (x : Pure). IsForgottenOrFalse x n c.in_ok-list.list.items) is c.in_ok-list.ensures)
