-- The object appended and the pointer word to it make the object whole; after a refusal, a cut back to the old end restores all.
use Rattle.std.proofs.Common.{◌∙◌}
use Rattle.capnp_wire.specs.Found.{found_tree}
use Rattle.capnp_arena.proofs.NewTrees.{copy_is_made, cut_back}
use Rattle.capnp_arena.proofs.arena.Arena.copy_found.Goals as goal

pub returns-in-Err-clause-refused : goal.returns-in-Err-clause-refused
returns-in-Err-clause-refused c = c.cut.ensures ∙ cut_back _ _ _ c.count_words-end.ensures.whole c.append_found.ensures.kept

pub returns-clause-made : goal.returns-clause-made
returns-clause-made c =
    copy_is_made _ c.append_found.new.arena.bytes.items _ c.args.at c.count_words-end.result c.point_to.result (found_tree c.args.found) c.requires.held c.args.self.now.whole c.requires.inside c.count_words-end.ensures.count c.in_default.ensures.copy c.append_found.new.arena.few c.point_to.ensures c.put_word.ensures.put
