-- A request past the limit isn't converted; of another the message is within it, or too long.
use Rattle.std.proofs.Common.{ℕ, ◌≡◌, ◌⊎◌, Bool, List, arith, inl, inr, string_bytes}
use Rattle.std.proofs.lemmas.Result.{err_from_is_err_and}
use Rattle.capnp_device.specs.declared.error.Error.{Error}
use Rattle.capnp_device.specs.declared.error.ErrorKind.TheVariants.{TooLarge}
use Rattle.capnp_set_engine.specs.Convert.{HasManyBytes, HasNoSet}
use Rattle.riftcalico_core.specs.Answers.{IsNotConverted}
use Rattle.riftcalico_core.proofs.sets.convert_within.Goals as goal

not_converted : (strict : Bool) (limit : ℕ) (bytes : List ℕ) (e : Error) → HasNoSet strict bytes e ⊎ ((e.kind ≡ TooLarge) × HasManyBytes limit strict bytes) → IsNotConverted strict limit bytes e
not_converted strict limit bytes e (inl none) = inl none
not_converted strict limit bytes e (inr many) = inr (many.0, inr (inl many.1))

pub returns-in_err-made-clause-refused : goal.returns-in_err-made-clause-refused
returns-in_err-made-clause-refused c =
    let p = err_from_is_err_and c.from_residual-in_err-made.result c.from_residual-in_err-made.ensures.1 in
    rw (p.1, p.2) (λ m. not_converted c.args.strict c.args.limit c.args.input.now _ (c.in_err-made.ensures.refused m))

pub returns-then-len-limit-clause-refused : goal.returns-then-len-limit-clause-refused
returns-then-len-limit-clause-refused c =
    λ _. inr (c.from-then-len-limit.ensures, inr (inr (c.in_ok-made.made.message.items, string_bytes c.in_ok-made.made.lines, c.in_ok-made.ensures.made, omega (arith, c.len.ensures, c.if-len-limit.true))))

pub returns-clause-fits : goal.returns-clause-fits
returns-clause-fits c = rw c.get_set_room.ensures at (c.in_ok-is_large.ensures.small c.if-branch.false)
