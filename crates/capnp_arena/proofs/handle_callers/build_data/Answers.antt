-- The new list's bytes are zeros; what is left in them, with the first byte set, is as long and so is the list's content.
use Rattle.std.proofs.Common.{◌∙◌, ◌≡◌, length, slice_set}
use Rattle.std.proofs.lemmas.List.{length-set}
use Rattle.capnp_arena.proofs.NewBytes.{new_left}
use Rattle.capnp_arena.proofs.handle_callers.build_data.Goals as goal

pub returns-clause-message : goal.returns-clause-message
returns-clause-message c =
    let long : length (slice_set c.bytes_mut-bytes.result.now 0 c.args.first) ≡ c.args.count = length-set c.bytes_mut-bytes.result.now 0 c.args.first ∙ c.bytes_mut-bytes.ensures.long in
    (c.bytes_mut-bytes.ensures.leaves (slice_set c.bytes_mut-bytes.result.now 0 c.args.first) long).forest

pub returns-clause-tree : goal.returns-clause-tree
returns-clause-tree c =
    let long : length (slice_set c.bytes_mut-bytes.result.now 0 c.args.first) ≡ c.args.count = length-set c.bytes_mut-bytes.result.now 0 c.args.first ∙ c.bytes_mut-bytes.ensures.long in
    (c.bytes_mut-bytes.ensures.leaves (slice_set c.bytes_mut-bytes.result.now 0 c.args.first) long).tree
    ∙ new_left _ _ c.in_ok-start.ensures.forest _ _ 0 c.args.first c.in_ok-start.ensures.place c.in_ok-start.ensures.tree _ c.bytes_mut-bytes.ensures.now c.bytes_mut-bytes.ensures.long
