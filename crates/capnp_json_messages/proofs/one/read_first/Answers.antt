-- A list is that of its own elements, by the levels that are left to it.
use Rattle.std.proofs.Common.{ap, sym, ◌∙◌}
use Rattle.capnp_wire.specs.Standing.{list_levels, list_of}
use Rattle.capnp_schema.specs.Facts.Layers.{elements_sized, seen_which}
use Rattle.capnp_schema.specs.Types.{seen_type, seen_variant}
use Rattle.capnp_json_messages.proofs.OneTaken.{list_source}
use Rattle.capnp_json_messages.proofs.one.read_first.Goals as goal

pub returns-in_ok-reader-in-List-clause-source : goal.returns-in_ok-reader-in-List-clause-source
returns-in_ok-reader-in-List-clause-source c =
    list_source (seen_type c.args.element) (seen_type c.in-List.inner) (seen_type c.new-in-List.result.element_type) (list_of c.args.list) (list_of c.new-in-List.result.reader)
    (list_levels c.new-in-List.result.reader) c.expected_element_size.result
    (sym (seen_which c.args.element) ∙ (sym (ap seen_variant c.which.ensures) ∙ ap seen_variant c.in-List.is))
    (ap list_levels c.new-in-List.ensures.reader ∙ c.in_ok-reader-in-List.ensures.levels) (ap list_of c.new-in-List.ensures.reader ∙ c.in_ok-reader-in-List.ensures.list)
    (c.expected_element_size.ensures ∙ elements_sized c.in-List.inner) (ap seen_type c.new-in-List.ensures.element)
