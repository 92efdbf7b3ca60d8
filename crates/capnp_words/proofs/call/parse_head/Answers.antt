-- Each front ends in a space, an ASCII byte. So in a UTF-8 word the place behind it is a boundary of characters.
use Rattle.std.proofs.Common.{codes, refl, rules}
use Rattle.capnp_words.proofs.CallHeads.{front_boundary}
use Rattle.capnp_words.proofs.call.parse_head.Goals as goal

pub returns-then-is_front-clause-inside : goal.returns-then-is_front-clause-inside
returns-then-is_front-clause-inside c = front_boundary (codes "set ") c.args.word.now 3 (search rules) refl refl c.utf8.word

pub returns-then-is_front-2-clause-inside : goal.returns-then-is_front-2-clause-inside
returns-then-is_front-2-clause-inside c = front_boundary (codes "init ") c.args.word.now 4 (search rules) refl refl c.utf8.word

pub returns-then-is_front-3-clause-inside : goal.returns-then-is_front-3-clause-inside
returns-then-is_front-3-clause-inside c = front_boundary (codes "initn ") c.args.word.now 5 (search rules) refl refl c.utf8.word

pub returns-then-is_front-4-clause-inside : goal.returns-then-is_front-4-clause-inside
returns-then-is_front-4-clause-inside c = front_boundary (codes "clear ") c.args.word.now 5 (search rules) refl refl c.utf8.word

pub returns-then-is_front-5-clause-inside : goal.returns-then-is_front-5-clause-inside
returns-then-is_front-5-clause-inside c = front_boundary (codes "get ") c.args.word.now 3 (search rules) refl refl c.utf8.word

pub returns-then-is_front-6-clause-inside : goal.returns-then-is_front-6-clause-inside
returns-then-is_front-6-clause-inside c = front_boundary (codes "has ") c.args.word.now 3 (search rules) refl refl c.utf8.word

pub returns-then-is_front-7-clause-inside : goal.returns-then-is_front-7-clause-inside
returns-then-is_front-7-clause-inside c = front_boundary (codes "which ") c.args.word.now 5 (search rules) refl refl c.utf8.word
