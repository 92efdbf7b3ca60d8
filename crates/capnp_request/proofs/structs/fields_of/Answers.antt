-- The fields made, ahead of what those from this index on make, are the work on the whole list.
-- The notes gathered are those of the fields made.
use Rattle.std.proofs.Common.{[], ◌∷◌, ◌++◌, ◌+◌, ◌<◌, ◌≤◌, ◌≡◌, ◌∙◌, ap, arith, length-append, map, refl, rules}
use Rattle.std.proofs.lemmas.Result.{err_from_is_err_and}
use Rattle.capnp_request.specs.Steps.Seen.{record_seen}
use Rattle.capnp_request.specs.Steps.Bindings.{bounds}
use Rattle.capnp_request.specs.Conversion.{fields_of}
use Rattle.capnp_request.specs.Steps.Done.{between}
use Rattle.capnp_request.specs.Steps.Handles.{values_left}
use Rattle.capnp_request.specs.Steps.Nodes.{nodes_of}
use Rattle.capnp_request.specs.Reading.{each_said, field_said}
use Rattle.capnp_request.specs.StructsSeen.{seen_notes}
use Rattle.capnp_request.specs.declared.fields.ConvertedField.{ConvertedField}
use Rattle.capnp_request.proofs.ListsSaid.{length_of}
use Rattle.capnp_request.proofs.ListsWalked.{all_made, field_made, field_unmade, field_unread}
use Rattle.capnp_request.proofs.StructsMade.{fields_in, fields_opened, fields_unread, listed_fields, more_parts, notes_of_fields}
use Rattle.capnp_request.proofs.Works.{ahead_none}
use Rattle.capnp_request.proofs.structs.fields_of.Goals as goal

pub returns-in_err-listed-clause-refused : goal.returns-in_err-listed-clause-refused
returns-in_err-listed-clause-refused c =
    let p = err_from_is_err_and c.from_residual.result c.from_residual.ensures.1 in
    rw (p.1, p.2) (λ is. fields_unread (nodes_of c.args.context.nodes.now) c.args.context.strict (bounds c.args.inside.now) c.args.number _ _ (between c.args.entries.now) (fields_in (record_seen c.args.part) _ c.in_err-listed.ensures.refused))

pub returns-in_err-field-clause-refused : goal.returns-in_err-field-clause-refused
returns-in_err-field-clause-refused c =
    let within : c.loop-index.index < length_of c.in_ok-listed.listed = omega arith in
    let p = err_from_is_err_and c.from_residual-in_err-field.result c.from_residual-in_err-field.ensures.1 in
    rw (p.1, p.2) (λ is. fields_opened (nodes_of c.args.context.nodes.now) c.args.context.strict (bounds c.args.inside.now) c.args.number _ _ (between c.args.entries.now) (listed_fields (record_seen c.args.part) c.in_ok-listed.listed c.in_ok-listed.ensures.read) ∙ field_unread (nodes_of c.args.context.nodes.now) c.args.context.strict (bounds c.args.inside.now) c.args.number c.in_ok-listed.listed c.in_ok-listed.ensures.elements c.loop-index.index c.loop-index.invariant.made.0 (between c.loop-index.entries) _ c.loop-index.invariant.made.3 _ within c.in_err-field.ensures.refused)

pub returns-in_err-add_field-clause-refused : goal.returns-in_err-add_field-clause-refused
returns-in_err-add_field-clause-refused c =
    let within : c.loop-index.index < length_of c.in_ok-listed.listed = omega arith in
    let p = err_from_is_err_and c.from_residual-in_err-add_field.result c.from_residual-in_err-add_field.ensures.1 in
    rw (p.1, p.2) (λ is. fields_opened (nodes_of c.args.context.nodes.now) c.args.context.strict (bounds c.args.inside.now) c.args.number _ _ (between c.args.entries.now) (listed_fields (record_seen c.args.part) c.in_ok-listed.listed c.in_ok-listed.ensures.read) ∙ field_unmade (nodes_of c.args.context.nodes.now) c.args.context.strict (bounds c.args.inside.now) c.args.number c.in_ok-listed.listed c.in_ok-listed.ensures.elements c.loop-index.index c.loop-index.invariant.made.0 (between c.loop-index.entries) _ c.loop-index.invariant.made.3 (record_seen c.in_ok-field.field) _ within c.in_ok-field.ensures.read (c.in_err-add_field.ensures.refused is))

pub loop-index-init : goal.loop-index-init
loop-index-init c =
    let records : c.in_ok-records.records.items ≡ [] = search rules in
    let types : c.in_ok-types.types.items ≡ [] = search rules in
    let children : c.in_ok-annotation_types.annotation_types.items ≡ [] = search rules in
    let notes : c.new.result.items ≡ [] = search rules in
    record {
      numbers = c.requires.numbers;
      made = ([], refl, record { records = records; types = types; children = ap (map (λ types. types.items)) children; notes = ap seen_notes notes }, ahead_none (fields_of (nodes_of c.args.context.nodes.now) c.args.context.strict (bounds c.args.inside.now) c.args.number 0 (each_said 8 field_said (values_left c.in_ok-listed.listed 0)) (between c.args.entries.now)));
    }

pub loop-index-preserved : goal.loop-index-preserved
loop-index-preserved c =
    let within : c.loop-index.index < length_of c.in_ok-listed.listed = omega arith in
    let made = c.loop-index.invariant.made in
    let added = c.in_ok-add_field.ensures.done in
    record {
      numbers = c.in_ok-add_field.ensures.numbers;
      made = (
        made.0 ++ added.0 ∷ [],
        length-append made.0 (added.0 ∷ []) ∙ ap (λ n. n + 1) made.1,
        record {
          records = added.1.records ∙ more_parts (λ (f : ConvertedField). f.record) _ made.0 added.0 made.2.records;
          types = added.1.types ∙ more_parts (λ (f : ConvertedField). f.field_type) _ made.0 added.0 made.2.types;
          children = added.1.children ∙ more_parts (λ (f : ConvertedField). f.annotation_types.items) _ made.0 added.0 made.2.children;
          notes = notes_of_fields c.args.number c.loop-index.index made.0 added.0 _ _ _ made.2.notes made.1 refl added.2;
        },
        field_made (nodes_of c.args.context.nodes.now) c.args.context.strict (bounds c.args.inside.now) c.args.number c.in_ok-listed.listed c.in_ok-listed.ensures.elements c.loop-index.index made.0 (between c.loop-index.entries) _ made.3 (record_seen c.in_ok-field.field) added.0 (between c.add_field.new.entries) _ within c.in_ok-field.ensures.read added.3 made.1 refl,
      );
    }

pub returns-clause-done : goal.returns-clause-done
returns-clause-done c =
    let past : length_of c.in_ok-listed.listed ≤ c.loop-index.index = omega arith in
    let made = c.loop-index.invariant.made in (
      made.0,
      made.2,
      fields_opened (nodes_of c.args.context.nodes.now) c.args.context.strict (bounds c.args.inside.now) c.args.number _ _ (between c.args.entries.now) (listed_fields (record_seen c.args.part) c.in_ok-listed.listed c.in_ok-listed.ensures.read)
          ∙ all_made (nodes_of c.args.context.nodes.now) c.args.context.strict (bounds c.args.inside.now) c.args.number c.in_ok-listed.listed c.in_ok-listed.ensures.elements c.loop-index.index made.0 (between c.loop-index.entries) _ made.3 past,
    )
