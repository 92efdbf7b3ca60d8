-- What is seen there is the tree, cut off far down.
use Rattle.std.proofs.Common.{[], ◌∷◌, ◌∙◌, ap, subst, sym}
use Rattle.capnp_wire.specs.Place.{tree_below}
use Rattle.capnp_wire.specs.Standing.{tree_of}
use Rattle.capnp_arena.specs.Forest.{tree}
use Rattle.capnp_arena.specs.Same.{SameTo}
use Rattle.capnp_arena.proofs.Peeked.{data_seen, text_seen}
use Rattle.capnp_arena.proofs.Shallow.{seen}
use Rattle.capnp_arena.proofs.arena.Arena.peek.Goals as goal

pub returns-clause-read : goal.returns-clause-read
unfolding tree_below
returns-clause-read c = c.of_word.ensures.tree ∙ ap (λ b. tree_below 65 (b ∷ []) b c.args.at) c.as_slice.ensures.value

pub returns-clause-text : goal.returns-clause-text
returns-clause-text c = λ f. text_seen (tree_of c.of_word.result) (tree c.args.self.now.bytes.items c.args.at)
    (subst (λ t. SameTo 32 t (tree c.args.self.now.bytes.items c.args.at)) (sym (c.of_word.ensures.tree ∙ ap (λ b. tree_below 65 (b ∷ []) b c.args.at) c.as_slice.ensures.value)) (seen c.args.self.now.bytes.items c.args.at f))

pub returns-clause-data : goal.returns-clause-data
returns-clause-data c = λ f. data_seen (tree_of c.of_word.result) (tree c.args.self.now.bytes.items c.args.at)
    (subst (λ t. SameTo 32 t (tree c.args.self.now.bytes.items c.args.at)) (sym (c.of_word.ensures.tree ∙ ap (λ b. tree_below 65 (b ∷ []) b c.args.at) c.as_slice.ensures.value)) (seen c.args.self.now.bytes.items c.args.at f))
