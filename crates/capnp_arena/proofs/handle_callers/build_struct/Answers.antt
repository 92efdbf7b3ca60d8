-- The text changes a pointer of the new struct, and that struct is the message's root: one law of change inside the other.
use Rattle.std.proofs.Common.{[], rules, ◌++◌, ◌∷◌, ◌≡◌, subst}
use Rattle.capnp_wire.specs.Edits.{with_pointer_tree, zero_struct}
use Rattle.capnp_wire.specs.Place.{struct_tree}
use Rattle.capnp_wire.specs.Tree.{Numbers}
use Rattle.capnp_arena.specs.Forest.{Forest, tree}
use Rattle.capnp_arena.specs.Segment.{segment}
use Rattle.capnp_arena.proofs.BuiltParts.{struct_message, struct_tree_is}
use Rattle.capnp_arena.proofs.handle_callers.build_struct.Goals as goal

pub returns-clause-message : goal.returns-clause-message
returns-clause-message c =
    subst (λ b. Forest b 0) (search rules)
    (struct_message c.in_ok-made.ensures.forest c.in_ok-made.ensures.place (c.get_pointer_field.ensures.leaves (segment c.set_text.new.self.arena.now) (search rules) (search rules)) c.root.ensures.at)

pub returns-clause-tree : goal.returns-clause-tree
returns-clause-tree c =
    subst (λ b. tree b 0 ≡ struct_tree (with_pointer_tree (zero_struct c.args.size) c.args.index (Numbers 1 (c.args.text.now ++ 0 ∷ [])))) (search rules)
    (struct_tree_is c.in_ok-made.ensures.forest c.in_ok-made.ensures.place (c.get_pointer_field.ensures.leaves (segment c.set_text.new.self.arena.now) (search rules) (search rules))
    (zero_struct c.args.size) (Numbers 1 (c.args.text.now ++ 0 ∷ [])) c.in_ok-made.ensures.tree (search rules) c.root.ensures.at)
