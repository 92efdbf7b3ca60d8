-- The set read to its source's end is accepted, and the brand found bears the name.
-- Under these, what the show of the message promises is promised here.
use Rattle.std.proofs.Common.{inr, sym}
use Rattle.capnp_schema.specs.Entries.{lists_seen}
use Rattle.capnp_show_engine.proofs.Outcomes.{each_refusal}
use Rattle.capnp_show_engine.proofs.with_set.show_with_set.Goals as goal

pub returns-clause-refused : goal.returns-clause-refused
returns-clause-refused g c =
    each_refusal c.show.result
    (λ e f h. inr (inr (record {
      set = lists_seen c.in_ok-schemas.schemas;
      read = record { bytes = c.in_ok-bytes.bytes.items; read = (c.in_ok-bytes.ensures.whole, c.in_ok-bytes.ensures.to_end); stands = rw c.deref.ensures.value at c.in_ok-schemas.ensures.set; accepted = c.in_ok-schemas.ensures.accepted };
      brand = c.in-Some.brand;
      named = sym c.in-Some.ensures.found;
      is_so = f h;
    })))
    c.show.ensures.refused

pub returns-clause-read_failed : goal.returns-clause-read_failed
returns-clause-read_failed g c = each_refusal c.show.result (λ e f h. inr (f h)) c.show.ensures.read_failed

pub returns-clause-beginning : goal.returns-clause-beginning
returns-clause-beginning g c =
    each_refusal c.show.result
    (λ e f h. record {
      set = lists_seen c.in_ok-schemas.schemas;
      read = record { bytes = c.in_ok-bytes.bytes.items; read = (c.in_ok-bytes.ensures.whole, c.in_ok-bytes.ensures.to_end); stands = rw c.deref.ensures.value at c.in_ok-schemas.ensures.set; accepted = c.in_ok-schemas.ensures.accepted };
      brand = c.in-Some.brand;
      named = sym c.in-Some.ensures.found;
      is_so = f h;
    })
    c.show.ensures.beginning
