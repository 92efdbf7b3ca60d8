-- A well-formed list is not longer.
use Rattle.std.proofs.Common.{ℕ, ◌<◌, ◌^◌, subst, sym}
use Rattle.capnp_wire.specs.Facts.Parts.{list_length_lt}
use Rattle.capnp_dynamic.specs.Built.{built_elements}
use Rattle.capnp_dynamic.proofs.dynamic_list.build.Builder.len.Goals as goal

pub returns-clause-bound : goal.returns-clause-bound
returns-clause-bound c = subst (λ (n : ℕ). n < 2 ^ 29) (sym c.get_length.ensures) (list_length_lt (built_elements c.args.self.now) c.tree_is_sound.ensures.formed)
