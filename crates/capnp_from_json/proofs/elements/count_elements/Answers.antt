-- The elements counted and those from the rest on make all elements.
-- A following item is one more; without one the rest is the last.
use Rattle.std.proofs.Common.{length, Some, suc, sym, ap, ◌∙◌, arith}
use Rattle.std.specs.Option.{option_map}
use Rattle.capnp_json_text.specs.Values.{elements_of, elements_within}
use Rattle.capnp_from_json.specs.Records.{element_count}
use Rattle.capnp_from_json.proofs.ElementSteps.{count_last, count_more}
use Rattle.capnp_from_json.proofs.elements.count_elements.Goals as goal

pub elements-preserved : goal.elements-preserved
elements-preserved c = record {
  few = omega arith;
  left = λ json. count_more json (length c.in-Some.bytes.now) c.elements.count c.elements.rest.now c.in-Some-2.next.now
      (element_count (elements_within json (suc (length c.in-Some.bytes.now)) (Some c.in-Some.bytes.now))) (omega arith)
      (sym c.in_ok-next.ensures.next ∙ ap (option_map (λ x. x.now)) c.in-Some-2.is) (c.elements.invariant.left json);
}

pub returns-in-None-clause-count : goal.returns-in-None-clause-count
unfolding elements_of
returns-in-None-clause-count c = λ json.
    count_last json (length c.in-Some.bytes.now) c.elements.count c.elements.rest.now
    (element_count (elements_within json (suc (length c.in-Some.bytes.now)) (Some c.in-Some.bytes.now)))
    (sym c.in_ok-next.ensures.next ∙ ap (option_map (λ x. x.now)) c.in-None.is) (c.elements.invariant.left json)
    ∙ ap (λ o. element_count (elements_of json (option_map (λ x. x.now) o))) (sym c.in-Some.is)
