-- Enumerants of the enum at the index meet, or those of the enums up to it don't.
use Rattle.std.proofs.Common.{◌≡◌, Some, slice_get}
use Rattle.capnp_schema.specs.Entries.{lists_seen}
use Rattle.capnp_schema.specs.Schema.{seen_enum}
use Rattle.capnp_json_names.proofs.NodesMet.{no_enum_left, enum_met, enum_passed, seen_past, seen_there}
use Rattle.capnp_json_names.proofs.names.find_enumerants.Goals as goal

pub returns-in-Some : goal.returns-in-Some
returns-in-Some c =
    let set = lists_seen c.args.schemas.now in
    let there : slice_get set.enums c.loop-of.of-index ≡ Some (seen_enum c.of-item.result) =
    seen_there seen_enum c.enums-of-items.result.now set.enums c.loop-of.of-index c.of-item.result c.enums-of-items.ensures c.loop-of-test.true c.of-item.is in
    enum_met set c.loop-of.of-index (seen_enum c.of-item.result) c.in-Some.met there c.loop-of.invariant c.in-Some.ensures

pub loop-of-preserved : goal.loop-of-preserved
loop-of-preserved c =
    let set = lists_seen c.args.schemas.now in
    let there : slice_get set.enums c.loop-of.of-index ≡ Some (seen_enum c.of-item.result) =
    seen_there seen_enum c.enums-of-items.result.now set.enums c.loop-of.of-index c.of-item.result c.enums-of-items.ensures c.loop-of-test.true c.of-item.is in
    enum_passed set c.loop-of.of-index (seen_enum c.of-item.result) there c.loop-of.invariant c.in_default.ensures

pub returns : goal.returns
returns c =
    let set = lists_seen c.args.schemas.now in
    no_enum_left set c.loop-of.of-index (seen_past seen_enum c.enums-of-items.result.now set.enums c.loop-of.of-index c.enums-of-items.ensures c.loop-of-test.false) c.loop-of.invariant
