-- As of `parse_head`: each front ends in a space.
use Rattle.std.proofs.Common.{codes, refl, rules}
use Rattle.capnp_words.proofs.CallHeads.{front_boundary}
use Rattle.capnp_words.proofs.call.parse_edit_head.Goals as goal

pub returns-then-is_front-clause-inside : goal.returns-then-is_front-clause-inside
returns-then-is_front-clause-inside c = front_boundary (codes "append ") c.args.word.now 6 (search rules) refl refl c.utf8.word

pub returns-then-is_front-2-clause-inside : goal.returns-then-is_front-2-clause-inside
returns-then-is_front-2-clause-inside c = front_boundary (codes "insert ") c.args.word.now 6 (search rules) refl refl c.utf8.word

pub returns-then-is_front-3-clause-inside : goal.returns-then-is_front-3-clause-inside
returns-then-is_front-3-clause-inside c = front_boundary (codes "remove ") c.args.word.now 6 (search rules) refl refl c.utf8.word

pub returns-then-is_front-4-clause-inside : goal.returns-then-is_front-4-clause-inside
returns-then-is_front-4-clause-inside c = front_boundary (codes "resize ") c.args.word.now 6 (search rules) refl refl c.utf8.word

pub returns-then-is_front-5-clause-inside : goal.returns-then-is_front-5-clause-inside
returns-then-is_front-5-clause-inside c = front_boundary (codes "copy ") c.args.word.now 4 (search rules) refl refl c.utf8.word
