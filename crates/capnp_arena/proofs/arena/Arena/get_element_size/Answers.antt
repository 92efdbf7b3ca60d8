-- The size of a plain list is its tree's, for its shape has the number of that size; a list of structs is a composite.
use Rattle.std.proofs.Common.{◌∙◌, ap, sym}
use Rattle.capnp_wire.specs.ElementSizes.{element_size_of}
use Rattle.capnp_arena.specs.Forest.{tree}
use Rattle.capnp_arena.specs.Listed.{list_shape, listed_tree}
use Rattle.capnp_arena.proofs.ListsRead.{plain_size_is, size_is_simple}
use Rattle.capnp_arena.specs.Facts.Structs.{tree_composite}
use Rattle.capnp_arena.proofs.arena.Arena.get_element_size.Goals as goal

pub returns-in-Plain : goal.returns-in-Plain
returns-in-Plain c =
    sym (ap (λ l. element_size_of (listed_tree (tree c.args.self.now.bytes.items c.args.at) l)) c.in-Plain.is
    ∙ plain_size_is c.args.self.now.bytes.items c.args.at c.requires.forest c.in-Plain.plain.start c.in-Plain.plain.count c.in-Plain.plain.size (size_is_simple _ _ c.requires.forest c.in-Plain.plain.start c.in-Plain.plain.count _ (c.requires.there ∙ ap list_shape c.in-Plain.is)) (c.requires.there ∙ ap list_shape c.in-Plain.is))

pub returns-in-Structs : goal.returns-in-Structs
returns-in-Structs c =
    sym (ap (λ l. element_size_of (listed_tree (tree c.args.self.now.bytes.items c.args.at) l)) c.in-Structs.is
    ∙ ap element_size_of (tree_composite c.args.self.now.bytes.items c.args.at _ _ _ _ c.requires.forest (c.requires.there ∙ ap list_shape c.in-Structs.is)))
