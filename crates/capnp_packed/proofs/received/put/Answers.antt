-- What is written stands behind what stood before the place.
use Rattle.std.proofs.Common.{◌∙◌, arith, rules}
use Rattle.std.proofs.lemmas.List.{same_lists, places}
use Rattle.capnp_packed.proofs.received.put.Goals as goal

pub returns-clause-bytes : goal.returns-clause-bytes
returns-clause-bytes c =
    let new = c.copy_from_slice.ensures.after ∙ c.part.ensures in
    let n = c.if-bytes-room.count in
    same_lists _ _ (search (rules, places)) (λ k d h. grind (arith, places, new))
