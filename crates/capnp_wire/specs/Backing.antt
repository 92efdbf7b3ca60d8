-- Segments and targets in code, as the definitions see them.
use Rattle.std.specs.Prelude.{ℕ, ◌^◌, ◌≤◌, ⊤, List, [], ◌∷◌, Bool, true, false}
use Rattle.capnp_wire.specs.Locate as locate
use Rattle.capnp_wire.specs.Stream.{stream_segments}
use Rattle.capnp_wire.specs.declared.parts.segments.Segments.{Segments}
use Rattle.capnp_wire.specs.declared.parts.locate.Target.{Target}
use Rattle.capnp_wire.specs.declared.parts.locate.Target.TheVariants as target

-- the segments of a stream, or the bytes as one segment
abbrev pub segments_in : Bool → List ℕ → locate.Segments
segments_in true bytes = stream_segments bytes
segments_in false bytes = bytes ∷ []

abbrev pub segment_list : Segments → locate.Segments
segment_list segments = segments_in segments.is_stream segments.bytes.now

abbrev pub target_of : Target → locate.Target
target_of target.Null = locate.NoTarget
target_of (target.Bad fault) = locate.BadTarget fault
target_of (target.Struct segment start data_words pointers) = locate.StructAt segment.now start data_words pointers
target_of (target.List segment start element_size count) = locate.ListAt segment.now start element_size count
target_of (target.Composite segment start count data_words pointers) = locate.CompositeAt segment.now start count data_words pointers

-- the start is no larger than memory allows
abbrev pub StartFits : Target → Type 0
StartFits target.Null = ⊤
StartFits (target.Bad fault) = ⊤
StartFits (target.Struct segment start data_words pointers) = start ≤ 2 ^ 60
StartFits (target.List segment start element_size count) = start ≤ 2 ^ 60
StartFits (target.Composite segment start count data_words pointers) = start ≤ 2 ^ 60
