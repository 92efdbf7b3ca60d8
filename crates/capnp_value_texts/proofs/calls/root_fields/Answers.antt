-- What is added at the root, where nothing was made before, is all that is made.
use Rattle.std.proofs.Common.{◌≤◌, [], length, rules, ◌∙◌}
use Rattle.capnp_schema.specs.StructHandles.{number_of, set_of}
use Rattle.capnp_value_texts.specs.Calls.{InStruct, most_parts, parts_calls}
use Rattle.capnp_value_texts.specs.Steps.Seen.{parts_view}
use Rattle.capnp_value_texts.proofs.Making.{made_alone, within_most}
use Rattle.capnp_value_texts.proofs.calls.root_fields.Goals as goal

pub returns-in-Ok-clause-calls : goal.returns-in-Ok-clause-calls
returns-in-Ok-clause-calls c =
    let most : length c.args.parts.now.items ≤ most_parts = search rules in
    let calls = parts_calls (set_of c.args.schema) (parts_view c.args.parts.now.items) (InStruct (number_of c.args.schema)) 0 [] in
    within_most c.args.place (length c.args.parts.now.items) calls most
    ∙ made_alone c.new-path.result.items c.new-made.result.items c.make_parts.new.out.items calls c.new-path.ensures.items c.new-made.ensures.items c.in-Ok.ensures.made
