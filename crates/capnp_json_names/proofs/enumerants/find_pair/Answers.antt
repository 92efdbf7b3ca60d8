-- The enumerant of the ordinal meets another, or those up to it don't.
use Rattle.std.proofs.Common.{◌≡◌, ◌∙◌, Some, ap, map, slice_get, sym}
use Rattle.capnp_schema.specs.Schema.{seen_enumerant}
use Rattle.capnp_json_names.specs.Labels.{enumerant_label, enumerant_labels}
use Rattle.capnp_json_names.specs.Steps.Labels.{label_seen}
use Rattle.capnp_json_names.proofs.Found.{no_pair_left, pair_found, pair_passed, seen_get, seen_length}
use Rattle.capnp_json_names.proofs.enumerants.find_pair.Goals as goal

pub returns-in-Some : goal.returns-in-Some
returns-in-Some c =
    let there : slice_get (enumerant_labels (map seen_enumerant c.args.enumerants.now)) c.loop-ordinal.ordinal ≡ Some (label_seen c.enumerant_label.result) =
    seen_get seen_enumerant enumerant_label c.args.enumerants.now c.loop-ordinal.ordinal c.index-enumerants-ordinal.result c.loop-ordinal-test.true c.index-enumerants-ordinal.is ∙ ap Some (sym c.enumerant_label.ensures) in
    pair_found (enumerant_labels (map seen_enumerant c.args.enumerants.now)) c.loop-ordinal.ordinal (label_seen c.enumerant_label.result) c.in-Some.pair c.find_met.result there c.find_met.ensures c.in-Some.is c.loop-ordinal.invariant

pub loop-ordinal-preserved : goal.loop-ordinal-preserved
loop-ordinal-preserved c =
    let there : slice_get (enumerant_labels (map seen_enumerant c.args.enumerants.now)) c.loop-ordinal.ordinal ≡ Some (label_seen c.enumerant_label.result) =
    seen_get seen_enumerant enumerant_label c.args.enumerants.now c.loop-ordinal.ordinal c.index-enumerants-ordinal.result c.loop-ordinal-test.true c.index-enumerants-ordinal.is ∙ ap Some (sym c.enumerant_label.ensures) in
    pair_passed (enumerant_labels (map seen_enumerant c.args.enumerants.now)) c.loop-ordinal.ordinal (label_seen c.enumerant_label.result) c.find_met.result there c.find_met.ensures c.in_default.is c.loop-ordinal.invariant

pub returns : goal.returns
returns c =
    no_pair_left (enumerant_labels (map seen_enumerant c.args.enumerants.now)) c.loop-ordinal.ordinal (seen_length seen_enumerant enumerant_label c.args.enumerants.now c.loop-ordinal.ordinal c.loop-ordinal-test.false) c.loop-ordinal.invariant
