-- The zeroed words at the end and the pointer to them make the list of zeros: one lemma for forest, place, tree and changes.
use Rattle.std.proofs.Common.{rules, arith, ◌/◌, length, ap}
use Rattle.capnp_arena.proofs.NewLists.{list_made_by}
use Rattle.capnp_arena.proofs.arena.Arena.init_list.Goals as goal

pub returns-clause-forest : goal.returns-clause-forest
returns-clause-forest c = (list_made_by _ _ _ _ _ _ _ _ c.args.size (ap (λ n. n / 8) {x = c.len-end.result} {y = length c.args.self.now.bytes.items} (search rules)) c.requires.simple (omega (arith, c.if-count.false)) c.make_list_word-word.ensures c.get_size_number.ensures.value c.get_list_words.ensures.value c.in_ok-make.ensures.made).forest

pub returns-clause-place : goal.returns-clause-place
returns-clause-place c = (list_made_by _ _ _ _ _ _ _ _ c.args.size (ap (λ n. n / 8) {x = c.len-end.result} {y = length c.args.self.now.bytes.items} (search rules)) c.requires.simple (omega (arith, c.if-count.false)) c.make_list_word-word.ensures c.get_size_number.ensures.value c.get_list_words.ensures.value c.in_ok-make.ensures.made).place

pub returns-clause-tree : goal.returns-clause-tree
returns-clause-tree c = (list_made_by _ _ _ _ _ _ _ _ c.args.size (ap (λ n. n / 8) {x = c.len-end.result} {y = length c.args.self.now.bytes.items} (search rules)) c.requires.simple (omega (arith, c.if-count.false)) c.make_list_word-word.ensures c.get_size_number.ensures.value c.get_list_words.ensures.value c.in_ok-make.ensures.made).tree

pub returns-clause-changes : goal.returns-clause-changes
returns-clause-changes c = (list_made_by _ _ _ _ _ _ _ _ c.args.size (ap (λ n. n / 8) {x = c.len-end.result} {y = length c.args.self.now.bytes.items} (search rules)) c.requires.simple (omega (arith, c.if-count.false)) c.make_list_word-word.ensures c.get_size_number.ensures.value c.get_list_words.ensures.value c.in_ok-make.ensures.made).changes
