-- Each walk keeps that all nodes, or all enums, before the index have whole words, and the
-- nodes' defaults stand; at the end this is so of all.
use Rattle.std.proofs.Common.{arith}
use Rattle.std.proofs.lemmas.List.{length-map}
use Rattle.capnp_schema.specs.Accepted.{EachOfEnum, HaveWords, NodeHasWords}
use Rattle.capnp_schema.specs.Schema.{seen_enum, seen_node}
use Rattle.capnp_schema.proofs.EntryWalk.{all_stand, more_stand, none_stand}
use Rattle.capnp_schema.proofs.check.values.check_words.Goals as goal

pub loop-n-init : goal.loop-n-init
loop-n-init c = none_stand _ NodeHasWords

pub loop-n-preserved : goal.loop-n-preserved
loop-n-preserved c = more_stand _ NodeHasWords _ c.loop-n.invariant c.in_ok-check_node_words.ensures

pub loop-e-init : goal.loop-e-init
loop-e-init c = none_stand _ (EachOfEnum HaveWords)

pub loop-e-preserved : goal.loop-e-preserved
loop-e-preserved c = more_stand _ (EachOfEnum HaveWords) _ c.loop-e.invariant c.in_ok-check_enum_words.ensures

pub returns : goal.returns
returns c = record {
  nodes = all_stand _ NodeHasWords _ c.loop-n.invariant (let n = length-map c.args.lists.now.nodes.items seen_node in omega arith);
  enums = all_stand _ (EachOfEnum HaveWords) _ c.loop-e.invariant (let n = length-map c.args.lists.now.enums.items seen_enum in omega arith);
}
