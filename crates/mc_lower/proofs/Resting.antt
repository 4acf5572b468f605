-- What is left to be lowered.
use Rattle.std.proofs.Common.{◌≡◌, ◌++◌, ℕ, List, ◌∷◌, Bor, Option, None, Some, refl, ap, ◌∙◌, subst}
use Rattle.std.specs.Prelude.{option_copied, option_map}
use Rattle.mc_semantics.specs.Resolved.Views.{function_of}
use Rattle.mc_lower_spec.specs.Graphs.{Stage}
use Rattle.mc_lower_spec.specs.Lowering.{in_block}
use Rattle.mc_lower.specs.declared.builder.Builder.{Builder}
use Rattle.mc_lower.specs.declared.tasks.Context.{Context}
use Rattle.mc_lower.specs.declared.tasks.Task.{Task}
use Rattle.mc_lower.specs.Left.{Rest, Begins, Met, around_of, turns_in}
use Rattle.mc_lower.specs.Worlds.{World, Leads, blocks_in, stage_of}

-- what leaves nothing more to be lowered
pub begun : (R : World → Stage → Stage → Type 0) (old new : Builder) (before : List Task) → Leads R old new → Begins R old before new before
begun R old new before leads = λ w u agrees rest. let l = leads w agrees in (l.0, (stage_of w new, l.1, rest))

-- what is left, as it was pushed
pub pushed : (w : World) (now more : List Task) (s u : Stage) → now ≡ more → Rest w now s u → Rest w more s u
pushed w now more s u is rest = subst (λ l. Rest w l s u) is rest

pub pushed_two : (w : World) (now middle more : List Task) (t v : Task) (s u : Stage) → now ≡ t ∷ middle → middle ≡ v ∷ more → Rest w now s u
    → (m : Stage) × Met w t s m × ((n : Stage) × Met w v m n × Rest w more n u)
pushed_two w now middle more t v s u first second rest = pushed w now (t ∷ v ∷ more) s u (first ∙ ap (λ l. t ∷ l) second) rest

-- what is after a reference that may be missing
pub copied_map : {X Y : Type 0} (f : X → Y) (o : Option (Bor X)) → option_map f (option_copied o) ≡ option_map (λ x. f x.now) o
copied_map f None = refl
copied_map f (Some x) = refl

-- ---- where statements stand
pub inside_block : (w : World) (c d : Context) (i : ℕ) (xs : List ℕ)
    → d ≡ record { function = c.function; occurrence = c.occurrence; block = Some i; turns = c.turns }
    → w.blocks i ≡ xs ++ blocks_in w c.block → around_of w d ≡ in_block (around_of w c) xs
inside_block w c d i xs is opened =
    ap (λ x. around_of w x) is
    ∙ ap (λ (l : List ℕ). record { function = function_of c.function.now; out = w.out c.occurrence; blocks = l; loop = option_map (λ t. turns_in w t) c.turns }) opened
