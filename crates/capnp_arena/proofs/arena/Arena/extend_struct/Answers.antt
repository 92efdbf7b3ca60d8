-- The pointer leads to the larger struct at the end. One lemma on extensions gives the forest, place, tree and changes.
use Rattle.std.proofs.Common.{rules, arith, ◌/◌, ◌<◌, ap}
use Rattle.capnp_arena.specs.Shape.{word_count}
use Rattle.capnp_arena.proofs.Extensions.{extension_made}
use Rattle.capnp_arena.specs.Facts.Forests.{points}
use Rattle.capnp_arena.specs.Facts.Shapes.{itself_inside}
use Rattle.capnp_arena.proofs.arena.Arena.extend_struct.Goals as goal

pub make_with-requires-clause-inside : goal.make_with-requires-clause-inside
make_with-requires-clause-inside c = itself_inside _ _ _ (points _ _ c.requires.forest)

pub overflow_sub-end : goal.overflow_sub-end
overflow_sub-end c = let l : c.args.at < word_count c.args.self.now.bytes.items = itself_inside _ _ _ (points _ _ c.requires.forest) in omega (arith, l, c.len-end.ensures)

pub overflow_sub-end-2 : goal.overflow_sub-end-2
overflow_sub-end-2 c = let l : c.args.at < word_count c.args.self.now.bytes.items = itself_inside _ _ _ (points _ _ c.requires.forest) in omega (arith, l, c.len-end.ensures)

pub returns-clause-forest : goal.returns-clause-forest
returns-clause-forest c =
    (extension_made c.args.self.now.bytes.items c.make_with.new.self.bytes.items c.in_ok-content.content.items c.args.at c.args.place.start c.args.place.data_words c.args.place.pointers (c.len-end.result / 8) (c.len.result / 8) c.make_struct_word-word.result c.args.size (search rules) c.requires.forest c.requires.there
    (record { data_fit = omega arith; pointers_fit = omega arith; some = c.requires.larger.2 })
    (record { content_is = search rules; end_is = ap (λ n. n / 8) (search rules); whole = search rules; word_is = c.make_struct_word-word.ensures })
    (search rules)).forest

pub returns-clause-place : goal.returns-clause-place
returns-clause-place c =
    (extension_made c.args.self.now.bytes.items c.make_with.new.self.bytes.items c.in_ok-content.content.items c.args.at c.args.place.start c.args.place.data_words c.args.place.pointers (c.len-end.result / 8) (c.len.result / 8) c.make_struct_word-word.result c.args.size (search rules) c.requires.forest c.requires.there
    (record { data_fit = omega arith; pointers_fit = omega arith; some = c.requires.larger.2 })
    (record { content_is = search rules; end_is = ap (λ n. n / 8) (search rules); whole = search rules; word_is = c.make_struct_word-word.ensures })
    (search rules)).place

pub returns-clause-tree : goal.returns-clause-tree
returns-clause-tree c =
    (extension_made c.args.self.now.bytes.items c.make_with.new.self.bytes.items c.in_ok-content.content.items c.args.at c.args.place.start c.args.place.data_words c.args.place.pointers (c.len-end.result / 8) (c.len.result / 8) c.make_struct_word-word.result c.args.size (search rules) c.requires.forest c.requires.there
    (record { data_fit = omega arith; pointers_fit = omega arith; some = c.requires.larger.2 })
    (record { content_is = search rules; end_is = ap (λ n. n / 8) (search rules); whole = search rules; word_is = c.make_struct_word-word.ensures })
    (search rules)).tree

pub returns-clause-changes : goal.returns-clause-changes
returns-clause-changes c =
    (extension_made c.args.self.now.bytes.items c.make_with.new.self.bytes.items c.in_ok-content.content.items c.args.at c.args.place.start c.args.place.data_words c.args.place.pointers (c.len-end.result / 8) (c.len.result / 8) c.make_struct_word-word.result c.args.size (search rules) c.requires.forest c.requires.there
    (record { data_fit = omega arith; pointers_fit = omega arith; some = c.requires.larger.2 })
    (record { content_is = search rules; end_is = ap (λ n. n / 8) (search rules); whole = search rules; word_is = c.make_struct_word-word.ensures })
    (search rules)).changes
