-- The bytes counted and those shared behind them are the bytes shared; where the second row ends, nothing behind is shared.
use Rattle.std.proofs.Common.{◌≡◌, ◌+◌, drop, [], arith}
use Rattle.std.proofs.lemmas.List.{drop_all}
use Rattle.capnp_words.specs.Words.{shared_length}
use Rattle.capnp_words.proofs.SharedBytes.{shared_none}
use Rattle.capnp_words.proofs.words.count_shared.Goals as goal

pub returns-else-count-bytes-clause-count : goal.returns-else-count-bytes-clause-count
returns-else-count-bytes-clause-count c =
    let n = c.loop-count.count in
    let ends : drop n c.args.bytes.now ≡ [] = drop_all n c.args.bytes.now (omega arith) in
    let left : n + shared_length (drop n c.args.word.now) [] ≡ shared_length c.args.word.now c.args.bytes.now = rw ends at c.loop-count.invariant.rest in
    omega (arith, left, shared_none (drop n c.args.word.now))
