-- The tag and the zeroed words behind it make the list of zero structs, for count and words are both within the format.
use Rattle.std.proofs.Common.{refl, rules, arith, ◌/◌, length, ap}
use Rattle.capnp_arena.proofs.NewLists.{structs_made}
use Rattle.capnp_arena.proofs.arena.Arena.init_struct_list.Goals as goal

pub returns-clause-forest : goal.returns-clause-forest
returns-clause-forest c =
    (structs_made _ _ _ _ _ _ _ _ c.args.size (ap (λ n. n / 8) {x = c.len-end.result} {y = length c.args.self.now.bytes.items} (search rules))
    (record { elements = omega (arith, c.if-count.false); data_fit = omega arith; pointers_fit = omega arith; words_are = refl; few = omega (arith, c.if-words.false) }) c.make_struct_word-tag.ensures c.make_list_word-word.ensures c.in_ok-make_tagged.ensures.made).forest

pub returns-clause-place : goal.returns-clause-place
returns-clause-place c =
    (structs_made _ _ _ _ _ _ _ _ c.args.size (ap (λ n. n / 8) {x = c.len-end.result} {y = length c.args.self.now.bytes.items} (search rules))
    (record { elements = omega (arith, c.if-count.false); data_fit = omega arith; pointers_fit = omega arith; words_are = refl; few = omega (arith, c.if-words.false) }) c.make_struct_word-tag.ensures c.make_list_word-word.ensures c.in_ok-make_tagged.ensures.made).place

pub returns-clause-tree : goal.returns-clause-tree
returns-clause-tree c =
    (structs_made _ _ _ _ _ _ _ _ c.args.size (ap (λ n. n / 8) {x = c.len-end.result} {y = length c.args.self.now.bytes.items} (search rules))
    (record { elements = omega (arith, c.if-count.false); data_fit = omega arith; pointers_fit = omega arith; words_are = refl; few = omega (arith, c.if-words.false) }) c.make_struct_word-tag.ensures c.make_list_word-word.ensures c.in_ok-make_tagged.ensures.made).tree

pub returns-clause-changes : goal.returns-clause-changes
returns-clause-changes c =
    (structs_made _ _ _ _ _ _ _ _ c.args.size (ap (λ n. n / 8) {x = c.len-end.result} {y = length c.args.self.now.bytes.items} (search rules))
    (record { elements = omega (arith, c.if-count.false); data_fit = omega arith; pointers_fit = omega arith; words_are = refl; few = omega (arith, c.if-words.false) }) c.make_struct_word-tag.ensures c.make_list_word-word.ensures c.in_ok-make_tagged.ensures.made).changes
