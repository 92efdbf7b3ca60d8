-- The text that was appended to an empty string makes the record that the reader sees, and is refused for room alone.
use Rattle.std.proofs.Common.{string_bytes, ◌≡◌, ◌⊎◌, inl, inr, subst, ◌∙◌}
use Rattle.capnp_arena.specs.Message.{message_tree}
use Rattle.capnp_device.specs.declared.error.ErrorKind.{ErrorKind}
use Rattle.capnp_device.specs.declared.error.ErrorKind.TheVariants.{OutOfMemory, SizePastFormat, TooLarge}
use Rattle.capnp_value_laws.specs.Messages.{IsForRoom}
use Rattle.capnp_value_laws.proofs.ReadersBack.{for_room, same_record}
use Rattle.capnp_value_laws.proofs.callers.copied_by_text.Goals as goal

pub returns-in-Ok-clause-same : goal.returns-in-Ok-clause-same
returns-in-Ok-clause-same c =
    same_record c.printed_values_are_read.ensures c.floats_are_read_back.ensures c.args.source c.args.indented c.requires.whole c.get_schema.result c.get_schema.ensures (string_bytes c.new-text.result) (string_bytes c.print_floats_within.new.out)
    c.as_bytes.result.now c.new-text.ensures.bytes c.as_bytes.ensures.value c.in_ok-print_floats_within.ensures.printed (message_tree c.in-Ok.message) c.in-Ok.ensures.made

other : (kind given : ErrorKind) → given ≡ kind → (kind ≡ OutOfMemory) ⊎ (kind ≡ SizePastFormat) → (given ≡ OutOfMemory → ⊥) → (given ≡ SizePastFormat → ⊥) → ⊥
other kind given same (inl e) memory format = memory (same ∙ e)
other kind given same (inr e) memory format = format (same ∙ e)

pub returns-in-Err-NotMade-clause-cause : goal.returns-in-Err-NotMade-clause-cause
returns-in-Err-NotMade-clause-cause c = λ memory format long.
    absurd (other c.in-Err-NotMade.kind c.from-in-Err-NotMade.result.kind c.from-in-Err-NotMade.ensures
    (subst IsForRoom c.in-Err-NotMade.field-0-is
    (for_room c.printed_values_are_read.ensures c.floats_are_read_back.ensures c.args.source c.args.indented c.requires.whole c.get_schema.result c.get_schema.ensures (string_bytes c.new-text.result) (string_bytes c.print_floats_within.new.out)
    c.as_bytes.result.now c.new-text.ensures.bytes c.as_bytes.ensures.value c.in_ok-print_floats_within.ensures.printed c.in-Err-NotMade.field-0 c.in-Err-NotMade.ensures.refused)) memory format)

memory_long : (kind : ErrorKind) → kind ≡ TooLarge → kind ≡ OutOfMemory → ⊥
memory_long kind long e = cc

format_long : (kind : ErrorKind) → kind ≡ TooLarge → kind ≡ SizePastFormat → ⊥
format_long kind long e = cc

pub returns-in-Err-NotMade-clause-too_long : goal.returns-in-Err-NotMade-clause-too_long
returns-in-Err-NotMade-clause-too_long c = λ long.
    absurd (other c.in-Err-NotMade.kind c.from-in-Err-NotMade.result.kind c.from-in-Err-NotMade.ensures
    (subst IsForRoom c.in-Err-NotMade.field-0-is
    (for_room c.printed_values_are_read.ensures c.floats_are_read_back.ensures c.args.source c.args.indented c.requires.whole c.get_schema.result c.get_schema.ensures (string_bytes c.new-text.result) (string_bytes c.print_floats_within.new.out)
    c.as_bytes.result.now c.new-text.ensures.bytes c.as_bytes.ensures.value c.in_ok-print_floats_within.ensures.printed c.in-Err-NotMade.field-0 c.in-Err-NotMade.ensures.refused))
    (memory_long c.from-in-Err-NotMade.result.kind long) (format_long c.from-in-Err-NotMade.result.kind long))

pub unreachable-requires : goal.unreachable-requires
unreachable-requires c =
    subst IsForRoom c.in-Err-Refused.field-0-is
    (for_room c.printed_values_are_read.ensures c.floats_are_read_back.ensures c.args.source c.args.indented c.requires.whole c.get_schema.result c.get_schema.ensures (string_bytes c.new-text.result) (string_bytes c.print_floats_within.new.out)
    c.as_bytes.result.now c.new-text.ensures.bytes c.as_bytes.ensures.value c.in_ok-print_floats_within.ensures.printed c.in-Err-Refused.field-0 c.in-Err-Refused.ensures.refused)
