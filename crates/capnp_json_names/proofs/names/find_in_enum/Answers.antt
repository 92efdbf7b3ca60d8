-- The pair is that of the enum's own enumerants, and the names are theirs.
use Rattle.std.proofs.Common.{List, ◌∙◌, ap, map, sym}
use Rattle.capnp_schema.specs.Schema.{seen_enumerant}
use Rattle.capnp_schema.specs.declared.record.EnumerantRecord.{EnumerantRecord}
use Rattle.capnp_json_names.specs.Labels.{enumerant_labels}
use Rattle.capnp_json_names.specs.Meetings.{pair_of}
use Rattle.capnp_json_names.specs.Met.{enumerant_name_at}
use Rattle.capnp_json_names.proofs.names.find_in_enum.Goals as goal

pub returns : goal.returns
returns c =
    record {
      pair = (c.in_ok-first.first, c.in_ok-first.second);
      is = ap (λ (xs : List EnumerantRecord). pair_of (enumerant_labels (map seen_enumerant xs))) (sym c.deref.ensures.value) ∙ (sym c.find_pair.ensures ∙ c.in_ok-first.was);
      place = c.as_str.ensures.value;
      first = c.name_at.ensures ∙ ap (λ (xs : List EnumerantRecord). enumerant_name_at (map seen_enumerant xs) c.in_ok-first.first) c.deref-2.ensures.value;
      second = c.name_at-2.ensures ∙ ap (λ (xs : List EnumerantRecord). enumerant_name_at (map seen_enumerant xs) c.in_ok-first.second) c.deref-3.ensures.value;
    }
