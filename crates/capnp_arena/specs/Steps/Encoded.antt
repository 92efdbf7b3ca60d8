-- The pointer word of a target, wherever it starts.
use Rattle.std.specs.Prelude.{ℕ, ◌+◌, ◌-◌, ◌*◌, ◌^◌, ◌<◌, ⊤, ◌==◌, cond}
use Rattle.capnp_wire.specs.Encoding.{list_word, struct_word}
use Rattle.capnp_wire.specs.Locate.{words_past_format}
use Rattle.capnp_arena.specs.Shape.{CompositeIn, ListIn, NoShape, Shape, StructIn}

-- sizes within the fields of a pointer
abbrev pub HasSize : Shape → Type 0
HasSize NoShape = ⊤
HasSize (StructIn start d p) = (d < 2 ^ 16) × (p < 2 ^ 16)
HasSize (ListIn start size count) = (size < 7) × (count < words_past_format)
HasSize (CompositeIn tag count d p) = (d < 2 ^ 16) × (p < 2 ^ 16) × (count < words_past_format) × (count * (d + p) < words_past_format)

-- with so many words between the two
abbrev pub pointer_to : ℕ → Shape → ℕ
pointer_to gap NoShape = 0
pointer_to gap (StructIn start d p) = cond (d + p == 0) (struct_word (2 ^ 30 - 1) 0 0) (struct_word gap d p)
pointer_to gap (ListIn start size count) = list_word gap size count
pointer_to gap (CompositeIn tag count d p) = list_word gap 7 (count * (d + p))
