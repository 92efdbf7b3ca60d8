-- What is printed of a whole value is read as its tree.
use Rattle.std.proofs.Common.{ℕ, ◌≡◌, inl, inr, List, Bool, Ok, arith, sym, ap, ◌∙◌}
use Rattle.capnp_schema.specs.Schema.{Schemas, VoidValue}
use Rattle.capnp_schema.specs.Types.{SchemaType}
use Rattle.capnp_records.specs.Record.{Value}
use Rattle.capnp_records.specs.Text.{Out, said_text}
use Rattle.capnp_float_texts.specs.Texts.{float_text_of, text_within}
use Rattle.capnp_float_texts.proofs.Unmarked.{unmarked}
use Rattle.capnp_value_texts.specs.Lines.{HasLine}
use Rattle.capnp_value_texts.specs.Written.{Written, most_levels, written}
use Rattle.capnp_value_laws.specs.Laws.{IsPrint, WholeValuesArePrinted, layout_of}
use Rattle.capnp_value_laws.specs.Texts.{AreAlike}
use Rattle.capnp_value_laws.specs.Trees.{printed_value}
use Rattle.capnp_value_laws.specs.Whole.{IsWhole, IsWholeGroup}
use Rattle.capnp_value_laws.proofs.Leaves.{Spelt}
use Rattle.capnp_value_laws.proofs.LinesPrinted.{group_has, value_has}
use Rattle.capnp_value_laws.proofs.TextsPrinted.{group_said, same_spelt, slot_part, value_said}
use Rattle.capnp_value_laws.proofs.TextsRead.{texts_read}

-- the text with floats is what is printed
pub print_is : (set : Schemas) (floats indented : Bool) (t : SchemaType) (v : Value) (o : Out) → IsPrint set floats indented t v o → o ≡ float_text_of set floats indented t v
print_is set floats indented t v o (inl is) = is
print_is set floats indented t v o (inr (none, plain, is)) = is ∙ (sym (unmarked set indented t v none) ∙ ap (λ q. float_text_of set q indented t v) (sym plain))

-- what is printed has a text, which is read as its tree, but for its places
abbrev pub IsReadAs : Schemas → (floats : Bool) → SchemaType → Value → Out → Type 0
IsReadAs set floats t v o = (text : List ℕ) × (o ≡ said_text text) × (w : Written) × (written text ≡ Ok w) × AreAlike (printed_value set floats t v) w

module _ (set : Schemas) (floats indented : Bool) (t : SchemaType) (v : Value) (o : Out) (print : IsPrint set floats indented t v o) where
  abbrev IsSpelt : Type 0
  IsSpelt = Spelt (layout_of indented) (printed_value set floats t v) o

  spelt_read : HasLine most_levels (printed_value set floats t v) → IsSpelt → IsReadAs set floats t v o
  spelt_read has said =
      let read = texts_read (layout_of indented) (printed_value set floats t v) said.0 has said.1 in
      (said.0, said.2, read.0, read.2, read.1)

  pub whole_spelt : IsWhole set floats most_levels t v → IsSpelt
  whole_spelt whole =
      same_spelt (layout_of indented) (printed_value set floats t v) o (text_within set 64 floats (layout_of indented) t v)
      (print_is set floats indented t v o print ∙ slot_part set (text_within set 64) floats (layout_of indented) VoidValue most_levels t v whole) (value_said set floats most_levels t v (layout_of indented) 64 (omega arith) whole)

  pub group_spelt : IsWholeGroup set most_levels t v → IsSpelt
  group_spelt whole =
      same_spelt (layout_of indented) (printed_value set floats t v) o (float_text_of set floats indented t v) (print_is set floats indented t v o print)
      (group_said set floats most_levels t v (layout_of indented) VoidValue 64 (omega arith) whole)

  pub text_read : IsWhole set floats most_levels t v → IsReadAs set floats t v o
  text_read whole = spelt_read (value_has set floats most_levels t v whole) (whole_spelt whole)

  pub group_read : IsWholeGroup set most_levels t v → IsReadAs set floats t v o
  group_read whole = spelt_read (group_has set floats most_levels t v whole) (group_spelt whole)

pub whole_values : WholeValuesArePrinted
whole_values set floats indented t v o whole print = let said = whole_spelt set floats indented t v o print whole in (value_has set floats most_levels t v whole, said.0, said.2, said.1)
