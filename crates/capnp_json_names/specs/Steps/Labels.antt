-- What labels of the code stand for.
use Rattle.capnp_json_names.specs.Labels.{Label}
use Rattle.capnp_json_names.specs.declared.labels.Label.{Label as Record}

abbrev pub label_seen : Record → Label
label_seen l = record { name = l.name.now; is_given = l.is_given }
