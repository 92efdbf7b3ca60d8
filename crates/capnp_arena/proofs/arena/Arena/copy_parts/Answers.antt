-- The struct appended and the pointer word to it make the rounded struct, which is well formed; a refusal is cut back.
use Rattle.std.proofs.Common.{◌∙◌}
use Rattle.capnp_wire.specs.Edits.{rounded_struct}
use Rattle.capnp_wire.specs.Facts.Structs.{copied_struct_is_well_formed}
use Rattle.capnp_wire.specs.Found.{parts_tree}
use Rattle.capnp_wire.specs.Place.{struct_tree}
use Rattle.capnp_arena.proofs.NewTrees.{copy_is_made, cut_back}
use Rattle.capnp_arena.proofs.arena.Arena.copy_parts.Goals as goal

pub returns-in-Err-clause-refused : goal.returns-in-Err-clause-refused
returns-in-Err-clause-refused c = c.cut.ensures ∙ cut_back _ _ _ c.count_words-end.ensures.whole c.append_struct.ensures.kept

pub returns-clause-made : goal.returns-clause-made
returns-clause-made c =
    copy_is_made _ c.append_struct.new.arena.bytes.items _ c.args.at c.count_words-end.result c.point_to_struct.result (struct_tree (rounded_struct (parts_tree c.args.parts))) (copied_struct_is_well_formed (parts_tree c.args.parts) c.requires.held) c.args.self.now.whole c.requires.inside c.count_words-end.ensures.count c.in_default.ensures.copy c.append_struct.new.arena.few c.point_to_struct.ensures c.put_word.ensures.put
