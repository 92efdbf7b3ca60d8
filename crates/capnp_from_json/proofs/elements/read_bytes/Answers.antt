-- The bytes out and what is read of the rest make the bytes of all elements.
-- An element that is no byte refuses it, a following one goes on, the last ends it.
use Rattle.std.proofs.Common.{◌≡◌, ◌-◌, [], ◌∷◌, ◌++◌, Ok, Some, suc, sym, ap, ◌∙◌, arith}
use Rattle.std.proofs.lemmas.Grind.{common_steps}
use Rattle.std.specs.Option.{option_map}
use Rattle.capnp_json_text.specs.Values.{elements_within, json_at}
use Rattle.capnp_from_json.specs.ElementReads.{behind, bytes_read, element_bytes}
use Rattle.capnp_from_json.specs.Records.{byte_target, elements_of_json}
use Rattle.capnp_from_json.proofs.ElementSteps.{error_goes_on, last_byte, next_byte}
use Rattle.capnp_from_json.proofs.elements.read_bytes.Goals as goal

pub returns-in-Err-clause-refused : goal.returns-in-Err-clause-refused
returns-in-Err-clause-refused c = λ rules levels.
    error_goes_on rules (json_at c.args.whole) levels c.elements.left c.elements.rest.now c.elements.out.items (element_bytes rules c.args.whole (option_map (λ x. x.now) c.args.first) levels)
    (c.elements.invariant rules levels) c.in-Err.error (c.in-Err.ensures.refused rules levels)

pub returns-in_default-next-clause-read : goal.returns-in_default-next-clause-read
returns-in_default-next-clause-read c = λ rules levels.
    last_byte rules (json_at c.args.whole) levels c.elements.left c.elements.rest.now c.elements.out.items (element_bytes rules c.args.whole (option_map (λ x. x.now) c.args.first) levels)
    (c.elements.invariant rules levels) c.in-Ok.byte (c.in-Ok.ensures.read rules levels)
    (sym c.in-Ok-following_item.ensures.next ∙ ap (option_map (λ x. x.now)) c.in_default-next.is)
    ∙ ap Ok (let p : c.elements.out.items ++ c.in-Ok.byte ∷ [] ≡ c.push.new.self.items = first_of (search rules, grind (arith, common_steps)) in p)

pub elements-preserved : goal.elements-preserved
elements-preserved c = λ rules levels.
    next_byte rules (json_at c.args.whole) levels c.elements.left c.elements.rest.now c.elements.out.items (element_bytes rules c.args.whole (option_map (λ x. x.now) c.args.first) levels)
    (c.elements.invariant rules levels) c.in-Ok.byte (c.in-Ok.ensures.read rules levels)
    c.in-Some-next.more.now (sym c.in-Ok-following_item.ensures.next ∙ ap (option_map (λ x. x.now)) c.in-Some-next.is) (c.elements.left - 1) (omega arith)
    ∙ ap (λ front. behind front (bytes_read (elements_of_json rules (elements_within (json_at c.args.whole) (suc (c.elements.left - 1)) (Some c.in-Some-next.more.now)) levels byte_target)))
    (let p : c.elements.out.items ++ c.in-Ok.byte ∷ [] ≡ c.push.new.self.items = first_of (search rules, grind (arith, common_steps)) in p)
