-- The enumerant of the ordinal has the name, or those up to it haven't.
use Rattle.std.proofs.Common.{◌≡◌, ◌∙◌, Some, ap, map, slice_get, sym}
use Rattle.capnp_schema.specs.Schema.{seen_enumerant}
use Rattle.capnp_json_names.specs.Labels.{enumerant_label, enumerant_labels}
use Rattle.capnp_json_names.specs.Steps.Labels.{label_seen}
use Rattle.capnp_json_names.proofs.Found.{no_other_left, other_found, other_passed, seen_get, seen_length}
use Rattle.capnp_json_names.proofs.enumerants.find_other.Goals as goal

pub returns-then-is_other : goal.returns-then-is_other
returns-then-is_other c =
    let there : slice_get (enumerant_labels (map seen_enumerant c.args.enumerants.now)) c.loop-other.other ≡ Some (label_seen c.enumerant_label.result) =
    seen_get seen_enumerant enumerant_label c.args.enumerants.now c.loop-other.other c.index-enumerants-other.result c.loop-other-test.true c.index-enumerants-other.is ∙ ap Some (sym c.enumerant_label.ensures) in
    other_found (enumerant_labels (map seen_enumerant c.args.enumerants.now)) c.args.ordinal c.args.name.now c.loop-other.other (label_seen c.enumerant_label.result) c.is_other.result there c.is_other.ensures c.if-is_other.true c.loop-other.invariant

pub loop-other-preserved : goal.loop-other-preserved
loop-other-preserved c =
    let there : slice_get (enumerant_labels (map seen_enumerant c.args.enumerants.now)) c.loop-other.other ≡ Some (label_seen c.enumerant_label.result) =
    seen_get seen_enumerant enumerant_label c.args.enumerants.now c.loop-other.other c.index-enumerants-other.result c.loop-other-test.true c.index-enumerants-other.is ∙ ap Some (sym c.enumerant_label.ensures) in
    other_passed (enumerant_labels (map seen_enumerant c.args.enumerants.now)) c.args.ordinal c.args.name.now c.loop-other.other (label_seen c.enumerant_label.result) c.is_other.result there c.is_other.ensures c.if-is_other.false c.loop-other.invariant

pub returns : goal.returns
returns c =
    no_other_left (enumerant_labels (map seen_enumerant c.args.enumerants.now)) c.args.ordinal c.args.name.now c.loop-other.other (seen_length seen_enumerant enumerant_label c.args.enumerants.now c.loop-other.other c.loop-other-test.false) c.loop-other.invariant
