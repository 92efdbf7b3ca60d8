-- The reader is limited in depth, so it has a cut of the struct; a struct whose pointers lead within that depth is read whole.
use Rattle.std.proofs.Common.{[], ◌∷◌, ◌∙◌, ap, arith, subst, sym}
use Rattle.capnp_wire.specs.Place.{struct_at, tree_below}
use Rattle.capnp_arena.specs.Forest.{struct_from}
use Rattle.capnp_arena.specs.Same.{IsStructCutOf}
use Rattle.capnp_arena.proofs.Shallow.{cut_struct, deep_struct}
use Rattle.capnp_arena.proofs.arena.Arena.get_struct_reader.Goals as goal

pub of_words-requires : goal.of_words-requires
of_words-requires c = omega (arith, c.args.self.now.few, c.requires.planted.ends)

pub returns-clause-read : goal.returns-clause-read
returns-clause-read c =
    c.of_words.ensures.parts ∙ ap (λ b. struct_at (tree_below 130 (b ∷ []) b) b c.args.place.data_words c.args.place.pointers c.args.place.start) c.as_slice.ensures.value

pub returns-clause-parts : goal.returns-clause-parts
returns-clause-parts c = λ below. returns-clause-read c ∙ deep_struct c.args.self.now.bytes.items c.args.place.start c.args.place.data_words c.args.place.pointers c.requires.planted 130 below

pub returns-clause-cut : goal.returns-clause-cut
returns-clause-cut c =
    let bytes = c.args.self.now.bytes.items in
    let place = c.args.place in
    subst (λ s. IsStructCutOf s (struct_from bytes place.start place.data_words place.pointers)) (sym (returns-clause-read c)) (cut_struct bytes place.start place.data_words place.pointers c.requires.planted)
