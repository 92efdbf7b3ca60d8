-- What is added at the root, where nothing was made before, is all that is made.
use Rattle.std.proofs.Common.{◌≡◌, Ok, ap, subst, ◌∙◌}
use Rattle.capnp_schema.specs.Schema.{Schemas}
use Rattle.capnp_schema.specs.StructHandles.{set_of}
use Rattle.capnp_slots.specs.Fields.{field_set}
use Rattle.capnp_value_texts.specs.Calls.{Target, value_calls}
use Rattle.capnp_value_texts.specs.Made.{calls_made}
use Rattle.capnp_value_texts.specs.Seen.{shown_view}
use Rattle.capnp_value_texts.specs.TargetsSeen.{target_seen}
use Rattle.capnp_value_texts.proofs.Making.{made_alone}
use Rattle.capnp_value_texts.proofs.calls.field_calls.Goals as goal

pub returns-in-Ok-clause-calls : goal.returns-in-Ok-clause-calls
returns-in-Ok-clause-calls c =
    let made = Ok (calls_made c.make_value.new.out.items) in
    let same = c.get_set-schemas.ensures ∙ ap set_of c.get_containing_struct.ensures.is in
    subst (λ (t : Target). value_calls (field_set c.args.field) (shown_view c.args.shown.now) t ≡ made) c.field_target.ensures
    (subst (λ (z : Schemas). value_calls z (shown_view c.args.shown.now) (target_seen c.field_target.result) ≡ made) same
    (made_alone c.new-path.result.items c.new-made.result.items c.make_value.new.out.items _ c.new-path.ensures.items c.new-made.ensures.items c.in-Ok.ensures.made))
