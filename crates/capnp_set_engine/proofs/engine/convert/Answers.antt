-- What is made of the bytes read to the source's end is written whole.
-- Where the sink fails a beginning is, and where nothing can be made, the source's bytes have no set.
use Rattle.std.proofs.lemmas.Result.{err_from_is_err_and}
use Rattle.capnp_set_engine.proofs.Made.{all_written, in_bytes, some_written}
use Rattle.capnp_set_engine.proofs.engine.convert.Goals as goal

pub returns-in_err-made-clause-refused : goal.returns-in_err-made-clause-refused
returns-in_err-made-clause-refused g c =
    let p = err_from_is_err_and c.from_residual-in_err-made.result c.from_residual-in_err-made.ensures.1 in rw (p.1, p.2)
    (λ m. record {
      bytes = c.in_ok-bytes.bytes.items;
      read = (c.in_ok-bytes.ensures.whole, c.in_ok-bytes.ensures.to_end);
      none = in_bytes c.args.strict _ _ _ c.deref.ensures.value (c.in_err-made.ensures.refused m.0);
    })

pub returns-in_err-write_all-clause-beginning : goal.returns-in_err-write_all-clause-beginning
returns-in_err-write_all-clause-beginning g c =
    let p = err_from_is_err_and c.from_residual-in_err-write_all.result c.from_residual-in_err-write_all.ensures.1 in rw (p.1, p.2)
    (λ failed. some_written c.args.strict _ _ _ _ c.in_ok-bytes.bytes.items _ c.in_ok-made.made.message.items _ _ (c.in_ok-bytes.ensures.whole, c.in_ok-bytes.ensures.to_end) c.deref.ensures.value c.deref-2.ensures.value c.in_ok-made.ensures.made c.in_err-write_all.ensures.beginning)

pub returns-clause-written : goal.returns-clause-written
returns-clause-written g c =
    all_written c.args.strict _ _ _ _ c.in_ok-bytes.bytes.items _ c.in_ok-made.made.message.items _ _ (c.in_ok-bytes.ensures.whole, c.in_ok-bytes.ensures.to_end) c.deref.ensures.value c.deref-2.ensures.value c.in_ok-made.ensures.made
    _ _ _ _ c.in_ok-write_all.ensures.whole (rw c.as_bytes.ensures.value at c.tell.ensures)
