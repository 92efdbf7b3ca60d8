-- A newer type that is no struct stays.
-- Of a struct it is decided whether it stands where an element stood: then the type of its field 0 does, else the struct stays.
use Rattle.std.proofs.Common.{ap, sym, ◌∙◌}
use Rattle.capnp_schema.specs.Entries.{lists_seen}
use Rattle.capnp_schema.specs.Schema.{TypedField}
use Rattle.capnp_schema.specs.Types.{seen_type}
use Rattle.capnp_compatible.proofs.InPlace.{first_in_place, stays, struct_stays}
use Rattle.capnp_compatible.proofs.first.type_in_place.Goals as goal

pub returns-in_default : goal.returns-in_default
returns-in_default c = stays c.args.lists (lists_seen c.args.schemas.now) (seen_type c.args.older) c.args.newer c.which.result c.which.ensures c.in_default.not-Struct

pub returns-then-is_in_place : goal.returns-then-is_in_place
returns-then-is_in_place c = c.get_type.ensures.is
    ∙ (ap (λ (f : TypedField). f.type) c.field_of.ensures
    ∙ first_in_place c.args.lists (lists_seen c.args.schemas.now) (seen_type c.args.older) c.args.newer c.in-Struct.schema c.in-Struct.ensures (sym c.if-is_in_place.ensures.is))

pub returns : goal.returns
returns c = struct_stays c.args.lists (lists_seen c.args.schemas.now) (seen_type c.args.older) c.args.newer c.in-Struct.schema c.in-Struct.ensures (sym c.if-is_in_place.ensures.is)
