-- The walk keeps that no field it passed is refused: the first that is ends the search, and a walk that ends has passed all.
use Rattle.std.proofs.Common.{subst, sym, ◌∙◌}
use Rattle.capnp_dynamic_readers.specs.Handles.{schema_of}
use Rattle.capnp_schema.specs.GroupWalks.{walk_index, walk_schema}
use Rattle.capnp_check.proofs.PlacesFound.{FieldsSaid, field_of_walk, fields_start, walk_ends, walk_found, walk_past}
use Rattle.capnp_check.proofs.parts_below.find_field.Goals as goal

pub loop-field-init : goal.loop-field-init
loop-field-init c = record {
  said = subst (FieldsSaid c.args.left c.args.reader) (sym c.start-walk.ensures.index) (fields_start c.args.left c.args.reader);
  schema = c.start-walk.ensures.schema ∙ c.get_schema.ensures;
}

pub find_in_field-requires : goal.find_in_field-requires
find_in_field-requires c = record { field = field_of_walk (walk_schema c.loop-field.walk) (schema_of c.args.reader) (walk_index c.loop-field.walk) c.in-Some.field c.loop-field.invariant.schema c.in-Some.ensures }

pub loop-field-preserved : goal.loop-field-preserved
loop-field-preserved c = record {
  said =
      walk_past c.args.left c.args.reader (walk_schema c.loop-field.walk) (walk_index c.loop-field.walk) c.loop-field.invariant.schema c.loop-field.invariant.said c.in-Some.field
      (walk_index c.advance-walk.result) c.advance-walk.ensures.index c.in-Some.ensures c.in_default-find_in_field.ensures;
  schema = c.advance-walk.ensures.schema ∙ c.loop-field.invariant.schema;
}

pub returns-in-Some-find_in_field : goal.returns-in-Some-find_in_field
returns-in-Some-find_in_field c =
    walk_found c.args.left c.args.reader (walk_schema c.loop-field.walk) (walk_index c.loop-field.walk) c.loop-field.invariant.schema c.loop-field.invariant.said c.in-Some.field
    c.get_index.result c.in-Some-find_in_field.value c.get_index.ensures c.in-Some.ensures c.in-Some-find_in_field.ensures

pub returns : goal.returns
returns c =
    walk_ends c.args.left c.args.reader (walk_schema c.loop-field.walk) (walk_index c.loop-field.walk) c.loop-field.invariant.schema c.loop-field.invariant.said
    c.in_default.ensures
