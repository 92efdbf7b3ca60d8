use Rattle.std.proofs.Common.{◌≡◌, ℕ, suc, ◌+◌, ◌*◌, ◌<◌, ◌≤◌, length}
use Rattle.capnp_value_texts.specs.Errors.{read_as}
use Rattle.capnp_value_texts.specs.Written.{part_at, parts_within, written_within}
use Rattle.capnp_value_texts.proofs.Trees.{onto}
use Rattle.capnp_value_texts.proofs.shown.+show.Given as goal

abbrev pub decreases-read_within : goal.decreases-read_within
decreases-read_within l = 4 * l.levels

abbrev pub decreases-read_held : goal.decreases-read_held
decreases-read_held l = 4 * l.levels + 3

abbrev pub decreases-read_parts : goal.decreases-read_parts
decreases-read_parts l = 4 * l.levels + 2

abbrev pub decreases-read_part : goal.decreases-read_part
decreases-read_part l = 4 * l.levels + 1

abbrev pub invariant-read_parts-parts : goal.invariant-read_parts-parts
invariant-read_parts-parts l =
    (n : ℕ) × (length l.rest < n)
    × (parts_within (part_at (written_within l.levels l.whole) l.bracket l.whole) (suc (length l.fn.bytes)) l.fn.bytes
    ≡ read_as (onto l.parts.items) (parts_within (part_at (written_within l.levels l.whole) l.bracket l.whole) n l.rest))
    × (length l.rest ≤ length l.fn.bytes)

abbrev pub decreases-read_parts-parts : goal.decreases-read_parts-parts
decreases-read_parts-parts l = length l.rest
