-- The pair is that of the node's own fields, and the names are theirs.
use Rattle.std.proofs.Common.{List, ◌∙◌, ap, map, sym}
use Rattle.capnp_schema.specs.Schema.{seen_field}
use Rattle.capnp_schema.specs.declared.record.FieldRecord.{FieldRecord}
use Rattle.capnp_json_names.specs.Labels.{field_labels}
use Rattle.capnp_json_names.specs.Meetings.{pair_of}
use Rattle.capnp_json_names.specs.Met.{field_name_at}
use Rattle.capnp_json_names.proofs.names.find_in_node.Goals as goal

pub returns : goal.returns
returns c =
    record {
      pair = (c.in_ok-first.first, c.in_ok-first.second);
      is = ap (λ (xs : List FieldRecord). pair_of (field_labels (map seen_field xs))) (sym c.deref.ensures.value) ∙ (sym c.find_pair.ensures ∙ c.in_ok-first.was);
      place = c.as_str.ensures.value;
      first = c.name_at.ensures ∙ ap (λ (xs : List FieldRecord). field_name_at (map seen_field xs) c.in_ok-first.first) c.deref-2.ensures.value;
      second = c.name_at-2.ensures ∙ ap (λ (xs : List FieldRecord). field_name_at (map seen_field xs) c.in_ok-first.second) c.deref-3.ensures.value;
    }
