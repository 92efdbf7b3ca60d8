-- The field at the index meets another, or those up to it don't.
use Rattle.std.proofs.Common.{◌≡◌, ◌∙◌, Some, ap, map, slice_get, sym}
use Rattle.capnp_schema.specs.Schema.{seen_field}
use Rattle.capnp_json_names.specs.Labels.{field_label, field_labels}
use Rattle.capnp_json_names.specs.Steps.Labels.{label_seen}
use Rattle.capnp_json_names.proofs.Found.{no_pair_left, pair_found, pair_passed, seen_get, seen_length}
use Rattle.capnp_json_names.proofs.fields.find_pair.Goals as goal

pub returns-in-Some : goal.returns-in-Some
returns-in-Some c =
    let there : slice_get (field_labels (map seen_field c.args.fields.now)) c.loop-index.index ≡ Some (label_seen c.field_label.result) =
    seen_get seen_field field_label c.args.fields.now c.loop-index.index c.index-fields-index.result c.loop-index-test.true c.index-fields-index.is ∙ ap Some (sym c.field_label.ensures) in
    pair_found (field_labels (map seen_field c.args.fields.now)) c.loop-index.index (label_seen c.field_label.result) c.in-Some.pair c.find_met.result there c.find_met.ensures c.in-Some.is c.loop-index.invariant

pub loop-index-preserved : goal.loop-index-preserved
loop-index-preserved c =
    let there : slice_get (field_labels (map seen_field c.args.fields.now)) c.loop-index.index ≡ Some (label_seen c.field_label.result) =
    seen_get seen_field field_label c.args.fields.now c.loop-index.index c.index-fields-index.result c.loop-index-test.true c.index-fields-index.is ∙ ap Some (sym c.field_label.ensures) in
    pair_passed (field_labels (map seen_field c.args.fields.now)) c.loop-index.index (label_seen c.field_label.result) c.find_met.result there c.find_met.ensures c.in_default.is c.loop-index.invariant

pub returns : goal.returns
returns c =
    no_pair_left (field_labels (map seen_field c.args.fields.now)) c.loop-index.index (seen_length seen_field field_label c.args.fields.now c.loop-index.index c.loop-index-test.false) c.loop-index.invariant
