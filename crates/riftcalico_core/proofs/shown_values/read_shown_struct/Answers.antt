-- The root is what the text's calls leave, or the text is refused.
use Rattle.std.proofs.Common.{refl}
use Rattle.capnp_arena.specs.Message.{message_tree}
use Rattle.capnp_schema.specs.StructHandles.{number_of, set_of}
use Rattle.capnp_value_texts.specs.Calls.{root_of_text}
use Rattle.riftcalico_core.specs.ShownSeen.{shown_source}
use Rattle.riftcalico_core.proofs.ShownRead.{deep_if, struct_if, unmade_at}
use Rattle.riftcalico_core.proofs.shown_values.read_shown_struct.Goals as goal

pub returns-in-Ok-clause-read : goal.returns-in-Ok-clause-read
returns-in-Ok-clause-read c = λ spot g.
    struct_if shown_source c.keep_part.result c.args.schema spot g c.args.text.now (message_tree c.in-Ok.root) c.in-Ok.ensures.made c.keep_part.ensures.source c.keep_part.ensures.shallow c.keep_part.ensures.sound

pub returns-in-Ok-clause-unread : goal.returns-in-Ok-clause-unread
returns-in-Ok-clause-unread c = λ spot g.
    deep_if c.keep_part.result (set_of c.args.schema) (record { brand = number_of c.args.schema; calls = root_of_text (set_of c.args.schema) (number_of c.args.schema) c.args.text.now }) c.args.text.now
    c.args.schema (record { same_set = refl; same_number = refl }) (message_tree c.in-Ok.root) c.find_begin-first.result c.find_begin-first.ensures c.in-Ok.ensures.made c.keep_part.ensures.place c.keep_part.ensures.deep

pub returns-in_ok-place_of-in-Err-clause-unread : goal.returns-in_ok-place_of-in-Err-clause-unread
returns-in_ok-place_of-in-Err-clause-unread c = λ spot g.
    unmade_at (set_of c.args.schema) (record { brand = number_of c.args.schema; calls = root_of_text (set_of c.args.schema) (number_of c.args.schema) c.args.text.now }) c.args.text.now
    c.args.schema (record { same_set = refl; same_number = refl }) c.in-Err.error c.find_begin-first.result _ c.find_begin-first.ensures c.in-Err.ensures.refused c.in_ok-place_of-in-Err.ensures.place
