-- The string is the text that it would be set as.
use Rattle.std.proofs.Common.{ℕ, ◌≡◌, Bor, List, Result, Ok, Err, IfOk, arith, refl}
use Rattle.capnp_wire.specs.Depth.{IsBelow, memory_depth}
use Rattle.capnp_base.specs.Text.{text_tree}
use Rattle.capnp_base.specs.declared.text.Reader.{Reader as Text}
use Rattle.capnp_device.specs.declared.error.Error.{Error}
use Rattle.capnp_callers.proofs.pointers.set_and_get_string.Goals as goal

string_got : (s : Bor (List ℕ)) (r : Result Text Error) → IfOk r (λ y. (x : Text) → IsBelow memory_depth (text_tree s.now) → text_tree s.now ≡ text_tree x.0.now → y.0.now ≡ x.0.now) → IfOk r (λ y. y.0.now ≡ s.now)
string_got s (Ok y) h = h (record { 0 = s }) (omega arith) refl
string_got s (Err e) h = tt

pub returns : goal.returns
returns c = string_got c.args.string c.set_and_get.result c.set_and_get.ensures.same
