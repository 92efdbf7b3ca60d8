-- A struct whose data ends inside the segment is well formed, and a planted one has no faults behind its pointers.
use Rattle.std.proofs.Common.{subst, arith, List, ℕ, ◌+◌, ◌≤◌}
use Rattle.capnp_wire.specs.Place.{struct_tree}
use Rattle.capnp_wire.specs.WellFormed.{IsWellFormed}
use Rattle.capnp_arena.specs.Forest.{struct_from}
use Rattle.capnp_arena.specs.Shape.{word_count}
use Rattle.capnp_arena.proofs.Whole.{struct_whole}
use Rattle.capnp_arena.proofs.arena.Arena.struct_is_sound.Goals as goal

pub returns-clause-formed : goal.returns-clause-formed
returns-clause-formed c =
    let p = c.args.place in
    subst (λ (b : List ℕ). p.start + p.data_words ≤ word_count b → IsWellFormed (struct_tree (struct_from b p.start p.data_words p.pointers))) c.as_slice.ensures.value
    (λ h. c.words_are_well_formed.ensures.structs p.start p.data_words p.pointers (omega arith) (omega arith) h) (omega (arith, c.requires.ends))

pub returns-clause-whole : goal.returns-clause-whole
returns-clause-whole c = struct_whole c.args.self.now.bytes.items c.args.place.start c.args.place.data_words c.args.place.pointers c.requires
