-- The root is what the text's calls leave of the field's struct, or the text is refused.
use Rattle.std.proofs.Common.{refl}
use Rattle.capnp_arena.specs.Message.{message_tree}
use Rattle.capnp_schema.specs.FieldLists.{field_schema, index_of, typed_of}
use Rattle.capnp_schema.specs.StructHandles.{number_of}
use Rattle.capnp_schema.specs.Types.{seen_type}
use Rattle.capnp_slots.specs.Fields.{field_set}
use Rattle.capnp_value_texts.specs.Calls.{element_of_text}
use Rattle.riftcalico_core.specs.ShownSeen.{shown_source}
use Rattle.riftcalico_core.proofs.ShownRead.{deep_if, list_fits, list_if, part_is, unmade_at}
use Rattle.riftcalico_core.proofs.shown_values.read_shown_list.Goals as goal

pub returns-in-Ok-clause-read : goal.returns-in-Ok-clause-read
returns-in-Ok-clause-read c =
    let field = c.args.spot.field in
    list_if shown_source c.keep_part.result field c.args.spot.depth (seen_type c.args.element) c.args.text.now (message_tree c.in-Ok.root) c.requires.typed
    (list_fits field c.get_containing_struct-schema.result c.get_containing_struct-schema.ensures.is c.get_containing_struct-schema.ensures.stands field.inside) c.in-Ok.ensures.made
    (part_is c.keep_part.result c.list_at_spot.result (message_tree c.in-Ok.root) _ c.keep_part.ensures.source c.list_at_spot.ensures) c.keep_part.ensures.sound

pub returns-in-Ok-clause-unread : goal.returns-in-Ok-clause-unread
returns-in-Ok-clause-unread c =
    let field = c.args.spot.field in
    deep_if c.keep_part.result (field_set field) (record { brand = number_of (field_schema field); calls = element_of_text (field_set field) (typed_of field) (index_of field) c.args.spot.depth c.args.text.now })
    c.args.text.now (field_schema field) (record { same_set = refl; same_number = refl }) (message_tree c.in-Ok.root) c.find_begin-first.result c.find_begin-first.ensures c.in-Ok.ensures.made
    c.keep_part.ensures.place c.keep_part.ensures.deep

pub returns-in_ok-place_of-in-Err-clause-unread : goal.returns-in_ok-place_of-in-Err-clause-unread
returns-in_ok-place_of-in-Err-clause-unread c =
    let field = c.args.spot.field in
    unmade_at (field_set field) (record { brand = number_of (field_schema field); calls = element_of_text (field_set field) (typed_of field) (index_of field) c.args.spot.depth c.args.text.now })
    c.args.text.now (field_schema field) (record { same_set = refl; same_number = refl }) c.in-Err.error c.find_begin-first.result _ c.find_begin-first.ensures c.in-Err.ensures.refused
    c.in_ok-place_of-in-Err.ensures.place
