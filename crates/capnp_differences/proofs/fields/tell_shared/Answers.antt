-- Two fields differ by kind, default, member or type, and each cause is told in this turn; the
-- fields read and their types are those of the entries.
use Rattle.std.proofs.Common.{Some}
use Rattle.capnp_schema.specs.Entries.{lists_seen}
use Rattle.capnp_schema.specs.FieldLists.{typed_of}
use Rattle.capnp_schema.specs.Schema.{seen_field}
use Rattle.capnp_schema.specs.Types.{seen_type}
use Rattle.capnp_differences.proofs.Tellings.{known_as, shared_as, shared_told, typed_as}
use Rattle.capnp_differences.proofs.Turns.{shared_turns}
use Rattle.capnp_differences.proofs.fields.tell_shared.Goals as goal

pub returns-clause-told : goal.returns-clause-told
returns-clause-told c =
    shared_as c.args.pair (Some c.args.index) (lists_seen c.args.schemas.now) (typed_of c.args.older) (typed_of c.args.newer) (seen_field c.get_proto-one.result.now) (seen_field c.get_proto-other.result.now)
    (seen_type c.get_type.result) (seen_type c.get_type-2.result) c.get_proto-one.ensures c.get_proto-other.ensures c.args.told.now.items c.tell-4.new.told.items c.get_type.ensures.is c.get_type-2.ensures.is
    (shared_told c.args.pair (Some c.args.index) (lists_seen c.args.schemas.now) (typed_as (seen_field c.get_proto-one.result.now) (seen_type c.get_type.result)) (typed_as (seen_field c.get_proto-other.result.now) (seen_type c.get_type-2.result))
    c.args.told.now.items c.tell.new.told.items c.tell-2.new.told.items c.tell-3.new.told.items c.tell-4.new.told.items c.kind_change-kinds.result c.default_change.result c.member_change-members.result c.type_change-types.result c.are_same_defaults-same.result
    c.are_same_defaults-same.ensures c.kind_change-kinds.ensures c.default_change.ensures c.member_change-members.ensures c.type_change-types.ensures
    c.in_ok-tell.ensures.told c.in_ok-tell-2.ensures.told c.in_ok-tell-3.ensures.told c.in_ok-tell-4.ensures.told)

pub returns-clause-known : goal.returns-clause-known
returns-clause-known c = known_as c.are_same_defaults-same.result (typed_of c.args.older) (typed_of c.args.newer) (seen_field c.get_proto-one.result.now) (seen_field c.get_proto-other.result.now) c.get_proto-one.ensures c.get_proto-other.ensures c.are_same_defaults-same.ensures

pub returns-clause-turn : goal.returns-clause-turn
returns-clause-turn c =
    shared_turns c.args.pair c.args.index (lists_seen c.args.schemas.now) (seen_field c.get_proto-one.result.now) (seen_field c.get_proto-other.result.now) (seen_type c.get_type.result) (seen_type c.get_type-2.result)
    c.args.told.now.items c.tell.new.told.items c.tell-2.new.told.items c.tell-3.new.told.items c.tell-4.new.told.items c.kind_change-kinds.result c.default_change.result c.member_change-members.result c.type_change-types.result c.are_same_defaults-same.result
    c.kind_change-kinds.ensures c.default_change.ensures c.member_change-members.ensures c.type_change-types.ensures
    c.in_ok-tell.ensures.turn c.in_ok-tell-2.ensures.turn c.in_ok-tell-3.ensures.turn c.in_ok-tell-4.ensures.turn
