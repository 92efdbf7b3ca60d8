-- At the end no colon stands from the start on, and one stands right before it unless the start is 0.
-- So file and dotted name meet there.
use Rattle.std.proofs.Common.{◌≤◌, length, arith}
use Rattle.capnp_request.proofs.NamesSplit.{dotted_behind, file_before}
use Rattle.capnp_request.proofs.names.behind_colon.Goals as goal

pub returns-clause-file : goal.returns-clause-file
returns-clause-file c =
    let all : length c.args.name.now ≤ c.loop-index.index = omega arith in
    file_before c.args.name.now c.loop-index.start (record { inside = omega arith; none = λ k from inside. c.loop-index.invariant.1 k from (omega (arith, inside)); before = c.loop-index.invariant.2 })

pub returns-clause-dotted : goal.returns-clause-dotted
returns-clause-dotted c =
    let all : length c.args.name.now ≤ c.loop-index.index = omega arith in
    dotted_behind c.args.name.now c.loop-index.start (record { inside = omega arith; none = λ k from inside. c.loop-index.invariant.1 k from (omega (arith, inside)); before = c.loop-index.invariant.2 })
