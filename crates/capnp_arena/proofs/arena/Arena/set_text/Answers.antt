-- The text with the zero behind it, padded to words, and the pointer to it make a list of bytes: one lemma for all claims.
use Rattle.std.proofs.Common.{rules, arith, ◌/◌, length, ap}
use Rattle.capnp_arena.proofs.NewLists.{text_made}
use Rattle.capnp_arena.proofs.arena.Arena.set_text.Goals as goal

pub returns-clause-forest : goal.returns-clause-forest
returns-clause-forest c = (text_made _ _ _ _ _ _ _ (ap (λ n. n / 8) {x = c.len-end.result} {y = length c.args.self.now.bytes.items} (search rules)) (omega arith) c.make_list_word-word.ensures (search rules) c.in_ok-make_with.ensures.made).forest

pub returns-clause-tree : goal.returns-clause-tree
returns-clause-tree c = (text_made _ _ _ _ _ _ _ (ap (λ n. n / 8) {x = c.len-end.result} {y = length c.args.self.now.bytes.items} (search rules)) (omega arith) c.make_list_word-word.ensures (search rules) c.in_ok-make_with.ensures.made).tree

pub returns-clause-changes : goal.returns-clause-changes
returns-clause-changes c = (text_made _ _ _ _ _ _ _ (ap (λ n. n / 8) {x = c.len-end.result} {y = length c.args.self.now.bytes.items} (search rules)) (omega arith) c.make_list_word-word.ensures (search rules) c.in_ok-make_with.ensures.made).changes
