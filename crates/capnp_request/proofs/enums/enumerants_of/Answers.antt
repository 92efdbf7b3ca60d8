-- The enumerants made, ahead of what those from this index on make, are the work on the whole list.
-- One that can't be read or made refuses it.
use Rattle.std.proofs.Common.{[], ◌+◌, ◌<◌, ◌≤◌, ◌≡◌, ◌∙◌, ap, arith, refl, rules}
use Rattle.std.proofs.lemmas.Result.{err_from_is_err_and}
use Rattle.capnp_request.specs.Steps.Seen.{record_seen}
use Rattle.capnp_request.specs.Steps.Done.{between}
use Rattle.capnp_request.specs.Steps.Handles.{values_left}
use Rattle.capnp_request.specs.Steps.Nodes.{nodes_of}
use Rattle.capnp_request.specs.Order.{enumerant_of}
use Rattle.capnp_request.specs.Reading.{each_said, enumerant_said}
use Rattle.capnp_request.specs.Steps.StructsSeen.{seen_converted_enumerant, seen_enumerants}
use Rattle.capnp_request.specs.Work.{each_read}
use Rattle.capnp_request.proofs.ListsSaid.{length_of}
use Rattle.capnp_request.proofs.ListsWalked.{all_given, element_refused, item_given, item_refused}
use Rattle.capnp_request.proofs.Numbering.{map_more}
use Rattle.capnp_request.proofs.Works.{ahead, ahead_none}
use Rattle.capnp_request.proofs.enums.enumerants_of.Goals as goal

pub returns-in_err-enumerant-clause-done : goal.returns-in_err-enumerant-clause-done
returns-in_err-enumerant-clause-done c =
    let within : c.loop-index.index < length_of c.args.listed = omega arith in
    let p = err_from_is_err_and c.from_residual.result c.from_residual.ensures.1 in
    rw (p.1, p.2) (λ is. element_refused 11 enumerant_said (enumerant_of (nodes_of c.args.context.nodes.now) c.args.context.strict) c.args.listed c.requires.is_list c.loop-index.index (seen_enumerants c.loop-index.made.items) (between c.loop-index.entries) _ c.loop-index.invariant.left _ within c.in_err-enumerant.ensures.refused)

pub returns-in_err-converted-clause-done : goal.returns-in_err-converted-clause-done
returns-in_err-converted-clause-done c =
    let within : c.loop-index.index < length_of c.args.listed = omega arith in
    let p = err_from_is_err_and c.from_residual-in_err-converted.result c.from_residual-in_err-converted.ensures.1 in
    rw (p.1, p.2) (λ is. item_refused 11 enumerant_said (enumerant_of (nodes_of c.args.context.nodes.now) c.args.context.strict) c.args.listed c.requires.is_list c.loop-index.index (seen_enumerants c.loop-index.made.items) (between c.loop-index.entries) _ c.loop-index.invariant.left (record_seen c.in_ok-enumerant.enumerant) _ within c.in_ok-enumerant.ensures.read (c.in_err-converted.ensures.done is))

pub loop-index-init : goal.loop-index-init
loop-index-init c =
    let none : c.new-made.result.items ≡ [] = search rules in
    record { numbers = c.requires.numbers; left = ap (λ es. ahead (seen_enumerants es) (each_read (enumerant_of (nodes_of c.args.context.nodes.now) c.args.context.strict) (each_said 11 enumerant_said (values_left c.args.listed 0)) (between c.args.entries.now))) none ∙ ahead_none (each_read (enumerant_of (nodes_of c.args.context.nodes.now) c.args.context.strict) (each_said 11 enumerant_said (values_left c.args.listed 0)) (between c.args.entries.now)) }

pub loop-index-preserved : goal.loop-index-preserved
loop-index-preserved c =
    let within : c.loop-index.index < length_of c.args.listed = omega arith in
    record {
      numbers = c.in_ok-converted.ensures.numbers;
      left = ap (λ ys. ahead ys (each_read (enumerant_of (nodes_of c.args.context.nodes.now) c.args.context.strict) (each_said 11 enumerant_said (values_left c.args.listed (c.loop-index.index + 1))) (between c.enumerant_of.new.entries))) (map_more seen_converted_enumerant c.loop-index.made.items _ c.in_ok-converted.converted (seen_converted_enumerant c.in_ok-converted.converted) c.in_ok-push.ensures.items refl)
          ∙ item_given 11 enumerant_said (enumerant_of (nodes_of c.args.context.nodes.now) c.args.context.strict) c.args.listed c.requires.is_list c.loop-index.index (seen_enumerants c.loop-index.made.items) (between c.loop-index.entries) _ c.loop-index.invariant.left (record_seen c.in_ok-enumerant.enumerant) (seen_converted_enumerant c.in_ok-converted.converted) (between c.enumerant_of.new.entries) within c.in_ok-enumerant.ensures.read c.in_ok-converted.ensures.done;
    }

pub returns-clause-done : goal.returns-clause-done
returns-clause-done c =
    let past : length_of c.args.listed ≤ c.loop-index.index = omega arith in
    all_given 11 enumerant_said (enumerant_of (nodes_of c.args.context.nodes.now) c.args.context.strict) c.args.listed c.requires.is_list c.loop-index.index (seen_enumerants c.loop-index.made.items) (between c.loop-index.entries) _ c.loop-index.invariant.left past
