-- The measure is what is left of the pattern; what is left of a list or struct gives all of its listing.
use Rattle.std.proofs.Common.{◌+◌, ◌-◌, ◌*◌, true, drop, length, map}
use Rattle.capnp_call.specs.Seen.{path_seen}
use Rattle.capnp_dynamic_readers.specs.Handles.{list_reader_of, schema_of}
use Rattle.capnp_dynamic_readers.specs.Shown.{type_seen}
use Rattle.capnp_dynamic_readers.specs.Typed.{IsOf}
use Rattle.capnp_dynamic_readers.specs.declared.dynamic_value.Reader.TheVariants.{List as ListOf, Struct as StructOf}
use Rattle.capnp_patch.specs.Gets.{is_empty, value_part_seen}
use Rattle.capnp_queries.specs.Patterns.{all_listed, elements_from, field_step, listing, step_listing}
use Rattle.capnp_queries.specs.Steps.Listings.{each_listing}
use Rattle.capnp_queries.specs.PatternsSeen.{paths_seen}
use Rattle.capnp_queries.proofs.Listings.{GoesOn}
use Rattle.capnp_schema.specs.Schema.{Schemas, fields_of}
use Rattle.capnp_schema.specs.StructHandles.{number_of}
use Rattle.capnp_wire.specs.Reading.{list_length}
use Rattle.capnp_wire.specs.Standing.{list_of}
use Rattle.capnp_queries.proofs.patterns.+list.Given as goal

abbrev pub decreases-list_from : goal.decreases-list_from
decreases-list_from l = 4 * length l.pattern.now + 3

abbrev pub decreases-list_step : goal.decreases-list_step
decreases-list_step l = 4 * length l.rest.now + 4

abbrev pub decreases-list_each : goal.decreases-list_each
decreases-list_each l = 4 * length l.rest.now + 6

abbrev pub decreases-list_fields : goal.decreases-list_fields
decreases-list_fields l = 4 * length l.rest.now + 5

abbrev pub decreases-list_elements : goal.decreases-list_elements
decreases-list_elements l = 4 * length l.rest.now + 5

abbrev pub invariant-list_fields-loop-index : goal.invariant-list_fields-loop-index
invariant-list_fields-loop-index l = (schemas : Schemas) → IsOf schemas (type_seen (StructOf l.reader)) (StructOf l.reader) →
    GoesOn l.most (paths_seen l.fn.before.items) schemas (each_listing schemas (path_seen l.rest) (path_seen l.here) (value_part_seen (StructOf l.reader))) (paths_seen l.paths.items)
    (all_listed (step_listing schemas (listing schemas true (path_seen l.rest)) true (is_empty (path_seen l.rest)) (path_seen l.here) (value_part_seen (StructOf l.reader)))
    (map field_step (drop l.index (fields_of schemas (number_of (schema_of l.reader))))))

abbrev pub invariant-list_elements-loop-index : goal.invariant-list_elements-loop-index
invariant-list_elements-loop-index l = (schemas : Schemas) → IsOf schemas (type_seen (ListOf l.list)) (ListOf l.list) →
    GoesOn l.most (paths_seen l.fn.before.items) schemas (each_listing schemas (path_seen l.rest) (path_seen l.here) (value_part_seen (ListOf l.list))) (paths_seen l.paths.items)
    (all_listed (step_listing schemas (listing schemas true (path_seen l.rest)) true (is_empty (path_seen l.rest)) (path_seen l.here) (value_part_seen (ListOf l.list)))
    (elements_from l.index (list_length (list_of (list_reader_of l.list)) - l.index)))
