-- Peeling one list off both types leaves what is inside as it was; where not both are lists, nothing
-- more is peeled, and the two layers are the answer.
use Rattle.std.proofs.Common.{rules, ap, ◌≡◌, ◌∙◌}
use Rattle.capnp_base.specs.Types.{variant_kind}
use Rattle.capnp_base.specs.declared.introspect.TypeVariant.TheVariants as variant
use Rattle.capnp_schema.specs.Entries.{lists_seen}
use Rattle.capnp_schema.specs.Types.{SchemaType}
use Rattle.capnp_compatible.proofs.ByLayer.{peeled_all}
use Rattle.capnp_compatible.proofs.types.inside_lists.Goals as goal

pub returns-in_default : goal.returns-in_default
returns-in_default c =
    let all : variant_kind c.which-s.result ≡ 15 → variant_kind c.which-t.result ≡ 15 → ⊥ = search rules in
    let same = peeled_all c.args.lists (lists_seen c.args.schemas.now) c.loop-x.one c.loop-x.other c.which-s.result c.which-t.result c.which-s.ensures c.which-t.ensures all ∙ c.loop-x.invariant in
    record {
      older = ap (λ (p : SchemaType × SchemaType). p.0) same;
      newer = ap (λ (p : SchemaType × SchemaType). p.1) same;
      all = all;
    }

pub returns-in_default-t : goal.returns-in_default-t
returns-in_default-t c =
    let all : variant_kind (variant.List c.in-List.x) ≡ 15 → variant_kind c.which-t.result ≡ 15 → ⊥ = search rules in
    let same = peeled_all c.args.lists (lists_seen c.args.schemas.now) c.loop-x.one c.loop-x.other (variant.List c.in-List.x) c.which-t.result c.in-List.ensures c.which-t.ensures all ∙ c.loop-x.invariant in
    record {
      older = ap (λ (p : SchemaType × SchemaType). p.0) same;
      newer = ap (λ (p : SchemaType × SchemaType). p.1) same;
      all = all;
    }
