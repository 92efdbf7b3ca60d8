-- What is printed is the text of the whole record; the reader sees the first levels of it.
use Rattle.std.proofs.Common.{string_bytes, ap, arith, ◌∙◌, ◌≡◌}
use Rattle.capnp_wire.specs.Standing.{levels_of, struct_levels, struct_of, tree_of}
use Rattle.capnp_arena.specs.Message.{message_tree}
use Rattle.capnp_call.proofs.Starts.{struct_reads}
use Rattle.capnp_call.proofs.CutTexts.{is_struct_cut, printed_of, unprinted_of}
use Rattle.capnp_call.proofs.Results.{if_err, on_ok}
use Rattle.capnp_call.proofs.message.print_message_root.Goals as goal

pub returns-in_err-reader-clause-cause : goal.returns-in_err-reader-clause-cause
returns-in_err-reader-clause-cause c =
    absurd (struct_reads (tree_of c.get_pointer_reader.result) (levels_of c.get_pointer_reader.result) _ (is_struct_cut (tree_of c.get_pointer_reader.result) (message_tree c.args.message.now) c.get_pointer_reader.ensures.cut c.requires.here)
    c.get_pointer_reader.ensures.levels c.in_err-reader.ensures.read)

pub returns-clause-printed : goal.returns-clause-printed
returns-clause-printed c =
    let levels : struct_levels c.in_ok-reader.reader ≡ 63 = omega (arith, c.in_ok-reader.ensures.levels, c.get_pointer_reader.ensures.levels) in
    on_ok c.print.result
    (printed_of c.args.schema c.args.indented (tree_of c.get_pointer_reader.result) (message_tree c.args.message.now) c.get_pointer_reader.ensures.cut c.requires.here c.new-root.result (levels_of c.get_pointer_reader.result) c.in_ok-reader.reader
    c.new-root.ensures.schema (ap struct_of c.new-root.ensures.reader) c.in_ok-reader.ensures.read (ap struct_levels c.new-root.ensures.reader ∙ levels)
    c.print_law.ensures.records c.print_law.ensures.groups (string_bytes c.args.out.now) (string_bytes c.print.new.out))
    c.print.ensures.printed

pub returns-clause-cause : goal.returns-clause-cause
returns-clause-cause c =
    let levels : struct_levels c.in_ok-reader.reader ≡ 63 = omega (arith, c.in_ok-reader.ensures.levels, c.get_pointer_reader.ensures.levels) in
    if_err c.print.result
    (λ e refused other. unprinted_of c.args.schema c.args.indented (tree_of c.get_pointer_reader.result) (message_tree c.args.message.now) c.get_pointer_reader.ensures.cut c.requires.here c.new-root.result (levels_of c.get_pointer_reader.result) c.in_ok-reader.reader
    c.new-root.ensures.schema (ap struct_of c.new-root.ensures.reader) c.in_ok-reader.ensures.read (ap struct_levels c.new-root.ensures.reader ∙ levels)
    e.kind (refused other))
    c.print.ensures.refused
