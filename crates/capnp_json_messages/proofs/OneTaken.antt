-- What was answered is the element, and is taken as the source that it is.
use Rattle.std.proofs.Common.{◌≡◌, ◌-◌, ◌∙◌, ℕ, Result, Ok, Err, IfOk, ap, subst, sym}
use Rattle.capnp_wire.specs.Elements.{or_empty}
use Rattle.capnp_wire.specs.Reading.{element_levels, element_pointer}
use Rattle.capnp_wire.specs.Tree.{Tree}
use Rattle.capnp_wire.specs.declared.size.ElementSize.{ElementSize}
use Rattle.capnp_schema.specs.Schema.{Schemas}
use Rattle.capnp_schema.specs.Types.{ListType, SchemaType, element_size}
use Rattle.capnp_records.specs.Call.{ListSource, Source}
use Rattle.capnp_records.specs.Record.{Left, Value}
use Rattle.capnp_json_messages.specs.Ones.{IsTakenAs, element_source, inner_list}

pub list_source : (t e e' : SchemaType) (x y : Tree) (levels : ℕ) (size : ElementSize) → t ≡ ListType e → levels ≡ element_levels x 63 - 1 → y ≡ or_empty size (element_pointer x 0 63) → size ≡ element_size e → e' ≡ e
    → ListSource (Left levels) y e' ≡ element_source t x
list_source t e e' x y levels size of left is sized same =
    ap (λ (n : ℕ). ListSource (Left n) y e') left
    ∙ (ap (λ (z : Tree). ListSource (Left (element_levels x 63 - 1)) z e') (is ∙ ap (λ (s : ElementSize). or_empty s (element_pointer x 0 63)) sized)
    ∙ (ap (ListSource (Left (element_levels x 63 - 1)) (inner_list e x)) same
    ∙ sym (ap (λ (u : SchemaType). element_source u x) of)))

pub taken_if : {A E : Type 0} (f : A → Source) (r : Result A E) (set : Schemas) (t : SchemaType) (s : Source) (v : Value) → IfOk r (λ x. f x ≡ s) → IsTakenAs set t s v → IfOk r (λ x. IsTakenAs set t (f x) v)
taken_if f (Ok x) set t s v is taken = subst (λ (z : Source). IsTakenAs set t z v) (sym is) taken
taken_if f (Err e) set t s v is taken = tt {0}
