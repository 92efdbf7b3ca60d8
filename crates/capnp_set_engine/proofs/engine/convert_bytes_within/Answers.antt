-- The conversion read from the bytes carries what is made of it and how many bytes it has, or why nothing is made; where the
-- request is unread or too large, this is the first cause.
use Rattle.std.proofs.Common.{inl, inr}
use Rattle.std.proofs.lemmas.Result.{err_from_is_err_and}
use Rattle.capnp_set_engine.proofs.Made.{each_answer, each_refusal, no_set_within}
use Rattle.capnp_set_engine.proofs.engine.convert_bytes_within.Goals as goal

pub returns-clause-made : goal.returns-clause-made
returns-clause-made c =
    each_answer c.make.result (λ m h. record { conversion = c.in_ok-conversion.conversion; request = c.in_ok-conversion.ensures.converted; made = h }) c.make.ensures.made

pub returns-clause-within : goal.returns-clause-within
returns-clause-within c =
    each_answer c.make.result (λ m h. record { conversion = c.in_ok-conversion.conversion; request = c.in_ok-conversion.ensures.converted; few = c.in_ok-conversion.ensures.within }) c.make.ensures.made

pub returns-clause-refused : goal.returns-clause-refused
returns-clause-refused c =
    each_refusal c.make.result (λ e h m. inl (inr (c.in_ok-conversion.conversion, c.in_ok-conversion.ensures.converted, h m))) c.make.ensures.refused

pub returns-in_err-conversion-clause-refused : goal.returns-in_err-conversion-clause-refused
returns-in_err-conversion-clause-refused c =
    let p = err_from_is_err_and c.from_residual.result c.from_residual.ensures.1 in rw (p.1, p.2) (λ m. no_set_within c.args.limit c.args.strict c.args.bytes.now _ (c.in_err-conversion.ensures.refused m))
