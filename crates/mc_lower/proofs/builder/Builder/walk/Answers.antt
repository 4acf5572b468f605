use Rattle.std.proofs.Common.{sym, subst}
use Rattle.mc_lower.specs.Knowns.{known}
use Rattle.mc_lower.specs.Ready.{HasKind}
use Rattle.mc_lower.proofs.Having.{kind_at}
use Rattle.std.proofs.Common.{◌∙◌}
use Rattle.std.proofs.Common.{◌≡◌, ◌<◌, ◌+◌, refl, length, get_or, arith}
use Rattle.std.proofs.lemmas.Option.{slice_get-get_or}
use Rattle.mc_semantics.specs.declared.resolved.program.FieldAt.{FieldAt as FieldCode}
use Rattle.mc_semantics.specs.Resolved.Views.{field_of}
use Rattle.mc_lower.specs.Worlds.{stage_of}
use Rattle.mc_lower.proofs.Valuing.{walked_to, walked_on}
use Rattle.mc_lower.proofs.builder.Builder.walk.Goals as goal

abbrev none : FieldCode
none = record { shape = record { 0 = 0 }; field = 0 }

pub loop-at-init : goal.loop-at-init
loop-at-init c =
    record {
      leads =
          λ w z last ws u agrees walks_there. (agrees, walks_there);
      same = refl;
      below = c.requires.some;
    }

pub loop-at-preserved : goal.loop-at-preserved
loop-at-preserved c =
    record {
      leads =
          λ w z last ws u agrees rest.
          let fields = c.args.fields.now in
          let at = c.loop-at.at in
          let bound = c.loop-at-test.true in
          let differs = c.if-at-fields.false in
          let inside : at < length fields = omega arith in
          let less : at + 1 < length fields = omega arith in
          let t = c.in_ok-base.ensures.leads w agrees in
          let of_kind = c.field_kind-kind.ensures w t.0 in
          c.loop-at.invariant.leads w z last ws u t.0
          (walked_on w.graph c.args.place fields at (at + 1) (get_or fields at none) c.field_kind-kind.result c.loop-at.base c.in_ok-base.base z last _ _ _ _ _ _ (slice_get-get_or fields at none inside) less refl of_kind t.1 rest);
      same = c.in_ok-base.ensures.same ∙ c.loop-at.invariant.same;
      below = let differs = c.if-at-fields.false in let low = c.loop-at.invariant.below in omega arith;
    }

pub returns-then-at-fields-clause-leads : goal.returns-then-at-fields-clause-leads
returns-then-at-fields-clause-leads c = λ w agrees.
    let fields = c.args.fields.now in
    let at = c.loop-at.at in
    let bound = c.loop-at-test.true in
    let same = c.if-at-fields.true in
    let inside : at < length fields = omega arith in
    let one : length fields ≡ at + 1 = omega arith in
    c.loop-at.invariant.leads w c.loop-at.base (field_of (get_or fields at none)) c.loop-at.temporaries.items (stage_of w c.loop-at.self) agrees
    (walked_to w.graph c.args.place fields at (get_or fields at none) c.loop-at.base c.loop-at.temporaries.items (stage_of w c.loop-at.self) (slice_get-get_or fields at none inside) one)

pub field_kind-kind-requires : goal.field_kind-kind-requires
field_kind-kind-requires c =
    let bound = c.loop-at-test.true in
    let inside : c.loop-at.at < length c.args.fields.now = omega arith in
    subst (λ k. HasKind k.source.structs (field_of (get_or c.args.fields.now c.loop-at.at none))) (sym c.loop-at.invariant.same)
    (kind_at (known c.args.self.now).source.structs c.args.fields.now c.loop-at.at none c.requires.kinds inside)

pub returns-then-at-fields-clause-kind : goal.returns-then-at-fields-clause-kind
returns-then-at-fields-clause-kind c =
    let bound = c.loop-at-test.true in
    let inside : c.loop-at.at < length c.args.fields.now = omega arith in
    kind_at (known c.args.self.now).source.structs c.args.fields.now c.loop-at.at none c.requires.kinds inside
