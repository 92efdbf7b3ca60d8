-- The JSON of the value is that of the part at the path.
use Rattle.std.proofs.Common.{Ok, ap, sym, ◌∙◌}
use Rattle.capnp_call.specs.Seen.{path_seen}
use Rattle.capnp_json.specs.declared.forms.Form.{Form}
use Rattle.capnp_schema.specs.StructHandles.{number_of, set_of}
use Rattle.capnp_patch.specs.Gets.{value_part_seen}
use Rattle.capnp_queries.specs.Floats.{form_at}
use Rattle.capnp_queries.specs.Json.{reached_json}
use Rattle.capnp_queries.proofs.JsonParts.{part_json}
use Rattle.capnp_queries.proofs.json.get_json.Goals as goal

pub returns-in-Err-clause-refused : goal.returns-in-Err-clause-refused
returns-in-Err-clause-refused c = (sym c.in-Err.ensures.reached, c.in-Err.ensures.place, c.in-Err.ensures.way)

pub returns-in-Ok-to_json_as-clause-json : goal.returns-in-Ok-to_json_as-clause-json
returns-in-Ok-to_json_as-clause-json c =
    let by_form = ap (λ (f : Form). reached_json (set_of c.args.schema) f c.args.indented (Ok (value_part_seen c.in-Ok.value))) c.get_form_at-form.ensures in
    let same = part_json (set_of c.args.schema) c.get_form_at-form.result c.args.indented c.in-Ok.value c.in-Ok.ensures.typed
    ∙ (by_form ∙ ap (reached_json (set_of c.args.schema) (form_at (set_of c.args.schema) (number_of c.args.schema) (path_seen c.args.path.now)) c.args.indented) c.in-Ok.ensures.reached) in
    rw same at c.in-Ok-to_json_as.ensures.json

pub returns-in-Ok-to_json_as-clause-only : goal.returns-in-Ok-to_json_as-clause-only
returns-in-Ok-to_json_as-clause-only c =
    let by_form = ap (λ (f : Form). reached_json (set_of c.args.schema) f c.args.indented (Ok (value_part_seen c.in-Ok.value))) c.get_form_at-form.ensures in
    let same = part_json (set_of c.args.schema) c.get_form_at-form.result c.args.indented c.in-Ok.value c.in-Ok.ensures.typed
    ∙ (by_form ∙ ap (reached_json (set_of c.args.schema) (form_at (set_of c.args.schema) (number_of c.args.schema) (path_seen c.args.path.now)) c.args.indented) c.in-Ok.ensures.reached) in
    rw same at c.in-Ok-to_json_as.ensures.only

pub returns-in-Err-to_json_as-clause-refused : goal.returns-in-Err-to_json_as-clause-refused
returns-in-Err-to_json_as-clause-refused c =
    let by_form = ap (λ (f : Form). reached_json (set_of c.args.schema) f c.args.indented (Ok (value_part_seen c.in-Ok.value))) c.get_form_at-form.ensures in
    let same = part_json (set_of c.args.schema) c.get_form_at-form.result c.args.indented c.in-Ok.value c.in-Ok.ensures.typed
    ∙ (by_form ∙ ap (reached_json (set_of c.args.schema) (form_at (set_of c.args.schema) (number_of c.args.schema) (path_seen c.args.path.now)) c.args.indented) c.in-Ok.ensures.reached) in
    (value_part_seen c.in-Ok.value, sym c.in-Ok.ensures.reached, rw same at c.in-Err-to_json_as.ensures.refused)
