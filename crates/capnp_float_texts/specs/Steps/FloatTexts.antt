-- The style that shows floats: the texts of values with them.
use Rattle.std.specs.Prelude.{ℕ, Bool, cond, decimal}
use Rattle.capnp_floats.specs.declared.width.Width.TheVariants.{Float32, Float64}
use Rattle.capnp_records.specs.Text.{Layout}
use Rattle.capnp_dynamic_readers.specs.Reads.{element_seen}
use Rattle.capnp_dynamic_readers.specs.Styles.{Texts}
use Rattle.capnp_dynamic_readers.specs.declared.dynamic_list.Reader.{Reader as ListHandle}
use Rattle.capnp_float_texts.specs.Numbers.{float_bytes}
use Rattle.capnp_float_texts.specs.Steps.Shown.{element_items, element_shown, field_shown, items_from, root_shown, value_shown}

-- by whether the numbers of what is shown are floats; under a field that is what the field says
abbrev pub float_texts : (floats : Bool) → Texts
float_texts floats = record {
  root = root_shown floats;
  value = value_shown floats;
  element = λ (left : ℕ) (at : Layout) (l : ListHandle) (i : ℕ). element_shown floats left at l (element_seen l i);
  elements = element_items floats;
  field = field_shown;
  items = items_from;
  narrow = λ (n : ℕ). cond floats (float_bytes Float32 n) (decimal n);
  wide = λ (n : ℕ). cond floats (float_bytes Float64 n) (decimal n);
}
