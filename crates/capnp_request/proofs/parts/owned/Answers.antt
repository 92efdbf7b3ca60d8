-- Whether the bytes are UTF-8 decides: the copy of a text has its bytes as the name, and other bytes are refused as no name.
use Rattle.std.proofs.Common.{ℕ, List, ap, sym, ◌∙◌, ◌≡◌, Ok, rules, string_bytes}
use Rattle.capnp_request.proofs.NamesRead.{broken_name, utf8_name}
use Rattle.capnp_request.proofs.parts.owned.Goals as goal

pub returns-in_ok-from_str-in-Ok-clause-read : goal.returns-in_ok-from_str-in-Ok-clause-read
returns-in_ok-from_str-in-Ok-clause-read c =
    let e : string_bytes c.in_ok-from_str-in-Ok.field-0 ≡ c.args.bytes.now = search rules in
    utf8_name c.args.bytes.now c.in-Ok.ensures.1 ∙ ap (λ (b : List ℕ). Ok b) (sym e)

pub returns-in-Err-clause-refused : goal.returns-in-Err-clause-refused
returns-in-Err-clause-refused c = λ _. broken_name c.args.bytes.now c.in-Err.ensures.0
