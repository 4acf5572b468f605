use Rattle.std.proofs.Common.{◌≡◌, ℕ, Option, Some, None, MatchOption, slice_get, true, sym, ◌∙◌}
use Rattle.std.specs.Option.{is_some}
use Rattle.mc_base.specs.declared.ids.NodeId.{NodeId}
use Rattle.mc_pure_ops.specs.Renaming.Images.{Images, image_of, RiseFrom, IsPlace}
use Rattle.mc_pure_ops.proofs.RenamingLemmas.Looking.{do_rise, image_there, not_there}
use Rattle.mc_pure_ops.proofs.renaming.image_in.Goals as goal

abbrev Found : Images → NodeId → ℕ → Option NodeId → Type 0
Found ps n place o = MatchOption o ((to : NodeId) → slice_get ps place ≡ Some (n, to) → ⊥) (λ to. slice_get ps place ≡ Some (n, to))

near : (ps : Images) (n : NodeId) (place : ℕ) (o : Option NodeId) → RiseFrom 0 ps → true ≡ is_some o → Found ps n place o → o ≡ image_of ps n
near ps n place None r e h = cc
near ps n place (Some to) r e h = sym (image_there 0 ps r place n to h).0

found : (ps : Images) (n : NodeId) (place : ℕ) (o : Option NodeId) → RiseFrom 0 ps → IsPlace ps n place → Found ps n place o → o ≡ image_of ps n
found ps n place None r p h = sym (not_there ps n place (do_rise 0 ps r) p h)
found ps n place (Some to) r p h = sym (image_there 0 ps r place n to h).0

pub returns-then-is_some : goal.returns-then-is_some
returns-then-is_some c = near c.args.pairs.now c.args.node c.args.node.0 c.image_at-near.result c.requires (sym c.if-is_some.true ∙ c.is_some.ensures) c.image_at-near.ensures

pub place_in-requires : goal.place_in-requires
place_in-requires c = do_rise 0 c.args.pairs.now c.requires

pub returns : goal.returns
returns c = found c.args.pairs.now c.args.node c.place_in.result c.image_at.result c.requires c.place_in.ensures.place c.image_at.ensures
