-- The root is read whole, and what is given of it is the part.
use Rattle.std.proofs.Common.{◌≡◌, ◌∙◌, ap, arith, sym}
use Rattle.capnp_wire.specs.Edits.{struct_in}
use Rattle.capnp_wire.specs.Standing.{levels_of, list_levels, list_of, struct_levels, struct_of, tree_of}
use Rattle.capnp_wire.specs.Tree.{StructTree, nth_tree}
use Rattle.capnp_arena.specs.Message.{message_tree}
use Rattle.capnp_schema.specs.StructHandles.{number_of}
use Rattle.capnp_schema.specs.Types.{seen_type}
use Rattle.capnp_dynamic_readers.specs.Handles.{element_of, list_reader_of, reader_of, schema_of}
use Rattle.capnp_splices.proofs.Deeper.{below_deeper}
use Rattle.riftcalico_core.specs.ShownSeen.{part_source, shown_source, tree_down}
use Rattle.riftcalico_core.specs.declared.shown_values.Part.{Part}
use Rattle.riftcalico_core.proofs.ShownGiven.{list_source, never_refused, root_is, struct_source}
use Rattle.riftcalico_core.proofs.shown_values.ShownValue.as_reader.Goals as goal

pub returns-in_err-root-clause-read : goal.returns-in_err-root-clause-read
returns-in_err-root-clause-read c =
    let x = message_tree c.self.inside.root in
    absurd (never_refused x (tree_of c.get_pointer_reader.result) (levels_of c.get_pointer_reader.result)
    (c.get_pointer_reader.ensures.tree (below_deeper x 65 130 (omega arith) c.self.invariant.1)) c.get_pointer_reader.ensures.levels c.self.invariant.2
    c.in_err-root.field-0.0.kind c.in_err-root.ensures.read)

pub returns-in-Root-clause-source : goal.returns-in-Root-clause-source
returns-in-Root-clause-source c =
    let x = message_tree c.self.inside.root in
    let levels : struct_levels (reader_of c.new.result) ≡ 63 = ap struct_levels c.new.ensures.reader ∙ omega (arith, c.in_ok-root.ensures.levels, c.get_pointer_reader.ensures.levels) in
    let root = root_is x (tree_of c.get_pointer_reader.result) (levels_of c.get_pointer_reader.result)
    (c.get_pointer_reader.ensures.tree (below_deeper x 65 130 (omega arith) c.self.invariant.1)) c.get_pointer_reader.ensures.levels c.self.invariant.2
    (struct_of c.in_ok-root.root) c.in_ok-root.ensures.read in
    struct_source (struct_levels (reader_of c.new.result)) 63 (number_of (schema_of c.new.result)) (number_of c.in-Root.schema) (struct_of (reader_of c.new.result)) (struct_in x) levels
    (ap struct_of c.new.ensures.reader ∙ root) (ap number_of c.new.ensures.schema)
    ∙ (ap (λ (p : Part). part_source p (struct_in x)) (sym c.in-Root.is) ∙ ap shown_source c.self.view_is)

pub returns-in-Behind-clause-source : goal.returns-in-Behind-clause-source
returns-in-Behind-clause-source c =
    let x = message_tree c.self.inside.root in
    let root = root_is x (tree_of c.get_pointer_reader.result) (levels_of c.get_pointer_reader.result)
    (c.get_pointer_reader.ensures.tree (below_deeper x 65 130 (omega arith) c.self.invariant.1)) c.get_pointer_reader.ensures.levels c.self.invariant.2
    (struct_of c.in_ok-root.root) c.in_ok-root.ensures.read in
    list_source (list_levels (list_reader_of c.new-in-Behind.result)) 62 (list_of (list_reader_of c.new-in-Behind.result)) (tree_down c.in-Behind.depth (nth_tree (struct_in x).pointers c.in-Behind.index))
    (element_of c.new-in-Behind.result) (seen_type c.in-Behind.element)
    (ap list_levels c.new-in-Behind.ensures.reader ∙ c.list_behind-list.ensures.levels)
    (ap list_of c.new-in-Behind.ensures.reader ∙ (c.list_behind-list.ensures.list ∙ ap (λ (s : StructTree). tree_down c.in-Behind.depth (nth_tree s.pointers c.in-Behind.index)) root))
    (ap seen_type c.new-in-Behind.ensures.element)
    ∙ (ap (λ (p : Part). part_source p (struct_in x)) (sym c.in-Behind.is) ∙ ap shown_source c.self.view_is)
