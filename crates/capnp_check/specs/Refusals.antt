-- Whether a text is refused, and why.
use Rattle.std.specs.Prelude.{Option, Some, None, Result, Ok, Err}
use Rattle.capnp_device.specs.declared.error.Error.{Error}
use Rattle.capnp_device.specs.declared.error.ErrorKind.{ErrorKind}
use Rattle.capnp_records.specs.Text.{Out}

-- the number with which a text is refused; none where there is a text
abbrev pub text_refusal : Out → Option ErrorKind
text_refusal (Ok pieces) = None
text_refusal (Err kind) = Some kind

-- the number that an answer is refused with
abbrev pub answer_refusal : {A : Type 0} → Result A Error → Option ErrorKind
answer_refusal (Ok a) = None
answer_refusal (Err e) = Some e.kind
