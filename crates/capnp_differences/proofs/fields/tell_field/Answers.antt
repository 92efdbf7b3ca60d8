-- Past the newer struct's fields the field is gone, and nothing is known of its defaults.
-- Else both fields read there are compared, as the structs' own.
use Rattle.std.proofs.Common.{arith, subst}
use Rattle.capnp_schema.specs.Entries.{lists_seen}
use Rattle.capnp_schema.specs.FieldLists.{typed_of}
use Rattle.capnp_schema.specs.Schema.{TypedField, field_at}
use Rattle.capnp_differences.specs.Differences.{SameDefaults}
use Rattle.capnp_differences.specs.Steps.Telling.{IsKnown}
use Rattle.capnp_differences.proofs.Tellings.{field_told, gone_told}
use Rattle.capnp_differences.proofs.Turns.{gone_turns}
use Rattle.capnp_differences.proofs.fields.tell_field.Goals as goal

pub returns-then-index-field_count-clause-told : goal.returns-then-index-field_count-clause-told
returns-then-index-field_count-clause-told c = gone_told (lists_seen c.args.schemas.now) c.args.pair c.args.index c.args.told.now.items c.tell.new.told.items (omega arith) c.in_ok-tell.ensures.told

pub returns-then-index-field_count-clause-known : goal.returns-then-index-field_count-clause-known
returns-then-index-field_count-clause-known c = λ here. absurd (omega arith)

pub returns-clause-told : goal.returns-clause-told
returns-clause-told c = field_told (lists_seen c.args.schemas.now) c.args.pair c.args.index c.args.told.now.items c.tell_shared.new.told.items (typed_of c.field_of-older.result) (typed_of c.field_of-newer.result)
    c.field_of-older.ensures c.field_of-newer.ensures (omega arith) c.in_ok-tell_shared.ensures.told

pub returns-clause-known : goal.returns-clause-known
returns-clause-known c = λ here.
    subst (λ (y : TypedField). IsKnown (SameDefaults (field_at (lists_seen c.args.schemas.now) c.args.pair.older c.args.index).field.kind y.field.kind)) c.field_of-newer.ensures
    (subst (λ (x : TypedField). IsKnown (SameDefaults x.field.kind (typed_of c.field_of-newer.result).field.kind)) c.field_of-older.ensures c.in_ok-tell_shared.ensures.known)

pub returns-then-index-field_count-clause-turn : goal.returns-then-index-field_count-clause-turn
returns-then-index-field_count-clause-turn c = gone_turns c.args.pair c.args.index c.args.told.now.items c.tell.new.told.items c.in_ok-tell.ensures.turn
