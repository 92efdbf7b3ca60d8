-- A node applies its nine parts in order.
-- Only its name, annotations and fields can be refused, and the cause of each is one in the node.
use Rattle.std.proofs.Common.{refl}
use Rattle.std.proofs.lemmas.Result.{err_from_is_err_and}
use Rattle.capnp_sets.specs.Fields.{node_meant}
use Rattle.capnp_sets.proofs.AppliedReads.{cause_left, cause_right, made}
use Rattle.capnp_sets.proofs.PartsRead.{number_there, truth_there}
use Rattle.capnp_sets.proofs.fields.read_node.Goals as goal

pub returns-in_err-display_name-clause-refused : goal.returns-in_err-display_name-clause-refused
unfolding node_meant
returns-in_err-display_name-clause-refused c = let p = err_from_is_err_and c.from_residual.result c.from_residual.ensures.1 in rw (p.1, p.2) (λ m. cause_left _ _ _ (cause_left _ _ _ (cause_right _ _ _ (c.in_err-display_name.ensures.refused m))))

pub returns-in_err-annotations-clause-refused : goal.returns-in_err-annotations-clause-refused
unfolding node_meant
returns-in_err-annotations-clause-refused c = let p = err_from_is_err_and c.from_residual-in_err-annotations.result c.from_residual-in_err-annotations.ensures.1 in rw (p.1, p.2) (λ m. cause_left _ _ _ (cause_right _ _ _ (c.in_err-annotations.ensures.refused m)))

pub returns-in_err-fields-clause-refused : goal.returns-in_err-fields-clause-refused
unfolding node_meant
returns-in_err-fields-clause-refused c = let p = err_from_is_err_and c.from_residual-in_err-fields.result c.from_residual-in_err-fields.ensures.1 in rw (p.1, p.2) (λ m. cause_right _ _ _ (c.in_err-fields.ensures.refused m))

pub returns-clause-read : goal.returns-clause-read
unfolding node_meant
returns-clause-read c = made (made (made (made (made (made (made (made (made refl (number_there _ _ _ c.u64_at-id.ensures)) (number_there _ _ _ c.u16_at-data_word_count.ensures)) (number_there _ _ _ c.u16_at-pointer_count.ensures)) (number_there _ _ _ c.u16_at-discriminant_count.ensures)) (truth_there _ _ _ c.bool_at-is_group.ensures)) (number_there _ _ _ c.u32_at-discriminant_offset.ensures)) c.in_ok-display_name.ensures.read) c.in_ok-annotations.ensures.read) c.in_ok-fields.ensures.read
