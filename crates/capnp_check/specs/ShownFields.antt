-- What a text shows of a record.
use Rattle.std.specs.Prelude.{ℕ, Bool, not, ◌&&◌, ◌||◌, ◌==◌}
use Rattle.capnp_schema.specs.Schema.{Field, is_member}
use Rattle.capnp_records.specs.Part.{is_inactive, part_at}
use Rattle.capnp_records.specs.Record.{Record, is_there}

-- whether a text shows field i of a record: no member that isn't active, and a null only as the active member, of a
-- discriminant value other than 0
abbrev pub is_shown : Record → Field → ℕ → Bool
is_shown r f i = not (is_inactive r f i) && (is_there (part_at r f i) || (is_member f && not (f.discriminant_value == 0)))
