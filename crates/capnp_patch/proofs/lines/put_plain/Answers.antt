-- Void, bool, integers, text and data are printed by the printer.
-- What is appended for an enum, list, struct or pointer is the answer's own text.
use Rattle.std.proofs.Common.{Bool, codes, decimal, string_bytes, ◌++◌, ◌∙◌, subst, sym}
use Rattle.capnp_call.specs.declared.calls.Plain.{Plain}
use Rattle.capnp_call.specs.declared.calls.Plain.TheVariants as plain
use Rattle.capnp_dynamic_readers.specs.Facts.Appended.{bytes_put}
use Rattle.capnp_dynamic_readers.specs.Pieces.{IsAppended}
use Rattle.capnp_patch.specs.Lines.{answer_text}
use Rattle.capnp_patch.proofs.lines.put_plain.Goals as goal

pub returns-in_ok-write-in-Enum-clause-put : goal.returns-in_ok-write-in-Enum-clause-put
returns-in_ok-write-in-Enum-clause-put c =
    subst (λ (p : Plain). IsAppended (string_bytes c.args.out.now) (answer_text p) (string_bytes c.write.new.self)) (sym c.in-Enum.is)
    (bytes_put (decimal c.in-Enum.number) (string_bytes c.args.out.now) (string_bytes c.write.new.self) c.in_ok-write-in-Enum.ensures.bytes)

pub returns-in_ok-write-in-List-clause-put : goal.returns-in_ok-write-in-List-clause-put
returns-in_ok-write-in-List-clause-put c =
    subst (λ (p : Plain). IsAppended (string_bytes c.args.out.now) (answer_text p) (string_bytes c.write-in-List.new.self)) (sym c.in-List.is)
    (bytes_put (codes "[" ++ decimal c.in-List.len ++ codes " elements]") (string_bytes c.args.out.now) (string_bytes c.write-in-List.new.self) c.in_ok-write-in-List.ensures.bytes)

pub returns-in_ok-push_str-in-Struct-clause-put : goal.returns-in_ok-push_str-in-Struct-clause-put
returns-in_ok-push_str-in-Struct-clause-put c =
    subst (λ (p : Plain). IsAppended (string_bytes c.args.out.now) (answer_text p) (string_bytes c.push_str.new.self)) (sym c.in-Struct.is)
    (bytes_put (codes "(..)") (string_bytes c.args.out.now) (string_bytes c.push_str.new.self) c.in_ok-push_str-in-Struct.ensures.bytes)

pub returns-in_ok-push_str-in-AnyPointer-true-clause-put : goal.returns-in_ok-push_str-in-AnyPointer-true-clause-put
returns-in_ok-push_str-in-AnyPointer-true-clause-put c =
    subst (λ (p : Plain). IsAppended (string_bytes c.args.out.now) (answer_text p) (string_bytes c.push_str-in-AnyPointer-true.new.self)) (sym c.in-AnyPointer-true.is)
    (subst (λ (q : Bool). IsAppended (string_bytes c.args.out.now) (answer_text (plain.AnyPointer q)) (string_bytes c.push_str-in-AnyPointer-true.new.self)) (sym (sym c.in-AnyPointer-true.field-0-is ∙ c.in-AnyPointer-true.field-0-test))
    (bytes_put (codes "null") (string_bytes c.args.out.now) (string_bytes c.push_str-in-AnyPointer-true.new.self) c.in_ok-push_str-in-AnyPointer-true.ensures.bytes))

pub returns-in_ok-push_str-in-AnyPointer-false-clause-put : goal.returns-in_ok-push_str-in-AnyPointer-false-clause-put
returns-in_ok-push_str-in-AnyPointer-false-clause-put c =
    subst (λ (p : Plain). IsAppended (string_bytes c.args.out.now) (answer_text p) (string_bytes c.push_str-in-AnyPointer-false.new.self)) (sym c.in-AnyPointer-false.is)
    (subst (λ (q : Bool). IsAppended (string_bytes c.args.out.now) (answer_text (plain.AnyPointer q)) (string_bytes c.push_str-in-AnyPointer-false.new.self)) (sym (sym c.in-AnyPointer-false.field-0-is ∙ c.in-AnyPointer-false.field-0-test))
    (bytes_put (codes "<opaque pointer>") (string_bytes c.args.out.now) (string_bytes c.push_str-in-AnyPointer-false.new.self) c.in_ok-push_str-in-AnyPointer-false.ensures.bytes))
