-- A struct is that of its brand in the set, and a list has elements of one type.
use Rattle.std.proofs.Common.{◌≡◌, ℕ, IfSome, ap, subst, sym, ◌∙◌}
use Rattle.std.specs.Option.{option_map}
use Rattle.capnp_base.specs.declared.introspect.TypeVariant.{TypeVariant}
use Rattle.capnp_schema.specs.Entries.{lists_seen}
use Rattle.capnp_schema.specs.Schema.{Schemas}
use Rattle.capnp_schema.specs.StructHandles.{number_of}
use Rattle.capnp_schema.specs.Types.{StructType, seen_variant}
use Rattle.capnp_words.specs.Seen.{step_text_seen}
use Rattle.capnp_words.specs.Targets.{type_behind}
use Rattle.riftcalico_core.specs.LastFields.{spot_behind}
use Rattle.riftcalico_core.specs.SpotsSeen.{spot_seen}
use Rattle.riftcalico_core.proofs.last_field.reach_behind.Goals as goal

pub returns-in-Struct-clause-spot : goal.returns-in-Struct-clause-spot
returns-in-Struct-clause-spot c =
    let o = option_map spot_seen c.args.spot in
    let step = step_text_seen c.args.step.now in
    subst (λ (k : TypeVariant). IfSome c.reach_field.result (λ r. option_map spot_seen r.spot ≡ spot_behind (lists_seen c.args.schemas.now) o (seen_variant k) step)) (sym c.in-Struct.is)
    (subst (λ (b : ℕ). IfSome c.reach_field.result (λ r. option_map spot_seen r.spot ≡ spot_behind (lists_seen c.args.schemas.now) o (StructType b c.in-Struct.raw.generic) step)) c.struct_schema.ensures.number
    (subst (λ (set : Schemas). IfSome c.reach_field.result (λ r. option_map spot_seen r.spot ≡ spot_behind set o (StructType (number_of c.struct_schema.result) c.in-Struct.raw.generic) step)) c.struct_schema.ensures.set
    (c.reach_field.ensures.spot o)))

pub returns-in-List-clause-is : goal.returns-in-List-clause-is
returns-in-List-clause-is c =
    c.reach_element.ensures.is (lists_seen c.args.schemas.now)
    ∙ ap (λ (k : TypeVariant). type_behind (lists_seen c.args.schemas.now) (seen_variant k) (step_text_seen c.args.step.now)) (sym c.in-List.is)

pub returns-in-List-clause-spot : goal.returns-in-List-clause-spot
returns-in-List-clause-spot c =
    let o = option_map spot_seen c.args.spot in
    subst (λ (k : TypeVariant). IfSome c.reach_element.result (λ r. option_map spot_seen r.spot ≡ spot_behind (lists_seen c.args.schemas.now) o (seen_variant k) (step_text_seen c.args.step.now))) (sym c.in-List.is)
    (c.reach_element.ensures.spot (lists_seen c.args.schemas.now))
