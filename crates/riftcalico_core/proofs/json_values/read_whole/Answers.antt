-- What the message holds is the text's value, and a refusal has its place.
use Rattle.std.proofs.Common.{rules, ◌∙◌}
use Rattle.capnp_arena.specs.Message.{message_tree}
use Rattle.capnp_schema.specs.Entries.{lists_seen}
use Rattle.capnp_schema.specs.Types.{seen_type}
use Rattle.riftcalico_core.proofs.WholeTexts.{begun_is, deep_at, read_at, readable_at, refused_at, unbegun_at}
use Rattle.riftcalico_core.proofs.json_values.read_whole.Goals as goal

pub returns-then-not-begins_whole-clause-unread : goal.returns-then-not-begins_whole-clause-unread
returns-then-not-begins_whole-clause-unread c =
    unbegun_at (lists_seen c.args.schemas.now) c.args.is_float (seen_type c.args.element) c.args.text.now c.skip_blanks.result.now c.find_begin-begin.result c.begins_whole.result
    c.find_begin-begin.ensures c.skip_blanks.ensures c.begins_whole.ensures (search rules)

pub returns-in-Err-clause-unread : goal.returns-in-Err-clause-unread
returns-in-Err-clause-unread c =
    refused_at c.make_row-row.result (lists_seen c.args.schemas.now) (seen_type c.args.element) c.args.is_float c.args.text.now c.make_row-row.ensures.set c.make_row-row.ensures.element c.make_row-row.ensures.floats
    c.in-Err.error c.in_ok-place-in-Err.place c.in-Err.ensures.refused c.in_ok-place-in-Err.ensures.place

pub returns-then-not-is_shallow-clause-unread : goal.returns-then-not-is_shallow-clause-unread
returns-then-not-is_shallow-clause-unread c =
    deep_at c.make_row-row.result (lists_seen c.args.schemas.now) (seen_type c.args.element) c.args.is_float c.args.text.now c.make_row-row.ensures.set c.make_row-row.ensures.element c.make_row-row.ensures.floats
    c.in_ok-place.place (message_tree c.in-Ok.list) (c.in_ok-place.ensures.place ∙ c.find_begin-begin.ensures) c.in-Ok.ensures.one (c.is_shallow.ensures.deep (search rules))
    c.in_ok-place.ensures.many

pub invariant_of-result : goal.invariant_of-result
invariant_of-result c = (
  c.in-Ok.ensures.message,
  c.is_shallow.ensures.shallow (search rules),
  readable_at c.make_row-row.result (lists_seen c.args.schemas.now) (seen_type c.args.element) c.args.is_float c.args.text.now c.make_row-row.ensures.set c.make_row-row.ensures.element c.make_row-row.ensures.floats
      c.values_stand_in_steps.ensures c.rules_are_there.ensures (begun_is c.args.text.now c.skip_blanks.result.now c.begins_whole.result c.skip_blanks.ensures c.begins_whole.ensures (search rules))
      (message_tree c.in-Ok.list) c.in-Ok.ensures.one,
)

pub returns-clause-read : goal.returns-clause-read
returns-clause-read c =
    read_at c.make_row-row.result (lists_seen c.args.schemas.now) (seen_type c.args.element) c.args.is_float c.args.text.now c.make_row-row.ensures.set c.make_row-row.ensures.element c.make_row-row.ensures.floats
    c.values_stand_in_steps.ensures c.rules_are_there.ensures (begun_is c.args.text.now c.skip_blanks.result.now c.begins_whole.result c.skip_blanks.ensures c.begins_whole.ensures (search rules))
    (message_tree c.in-Ok.list) c.in-Ok.ensures.one c.requires.whole c.tree_is_sound.ensures.whole (c.is_shallow.ensures.shallow (search rules))
