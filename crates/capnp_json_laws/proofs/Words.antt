-- What is written of null, of truth values and of strings is a value.
use Rattle.std.proofs.Common.{◌≡◌, ℕ, ◌-◌, true, false, List, [], ◌∷◌, ◌++◌, flat_map, length, codes, refl, ap, ◌∙◌, append_assoc, IsUtf8}
use Rattle.capnp_json_text.specs.Texts.{after_part, after_value, begun, begun_by, ended, gone_on, kind_of}
use Rattle.capnp_json_text.specs.Values.{Text, json_at}
use Rattle.capnp_json_text.specs.Writing.{byte_written, string_written}
use Rattle.capnp_json_text.specs.declared.kinds.Part.TheVariants.{Value}
use Rattle.capnp_json_text.proofs.ReadBack.{read_back}
use Rattle.capnp_json_text.proofs.ValueSteps.{read_in_steps, stands_in_steps}
use Rattle.capnp_json_laws.specs.Stands.{IsNull, IsString, IsTruth, IsValue}
use Rattle.capnp_json_laws.proofs.Ascii.{ascii_utf8, written_utf8}

-- a value by its first byte
pub value_read : (b : ℕ) (bs : List ℕ) → after_value (b ∷ bs) ≡ gone_on after_part (begun_by (kind_of b) b bs)
unfolding begun
value_read b bs = read_in_steps.parts Value (b ∷ bs)

pub null_value : IsValue (codes "null") IsNull
null_value = record {
  utf8 = ascii_utf8 (codes "null") refl;
  first = 110;
  others = codes "ull";
  begins = refl;
  no_blank = refl;
  no_end = refl;
  read = λ rest f. value_read 110 (117 ∷ 108 ∷ 108 ∷ rest);
  stands = λ whole rest f. (_, stands_in_steps.values whole 110 (117 ∷ 108 ∷ 108 ∷ rest));
}

pub true_value : IsValue (codes "true") (IsTruth true)
true_value = record {
  utf8 = ascii_utf8 (codes "true") refl;
  first = 116;
  others = codes "rue";
  begins = refl;
  no_blank = refl;
  no_end = refl;
  read = λ rest f. value_read 116 (114 ∷ 117 ∷ 101 ∷ rest);
  stands = λ whole rest f. (_, stands_in_steps.values whole 116 (114 ∷ 117 ∷ 101 ∷ rest));
}

pub false_value : IsValue (codes "false") (IsTruth false)
false_value = record {
  utf8 = ascii_utf8 (codes "false") refl;
  first = 102;
  others = codes "alse";
  begins = refl;
  no_blank = refl;
  no_end = refl;
  read = λ rest f. value_read 102 (97 ∷ 108 ∷ 115 ∷ 101 ∷ rest);
  stands = λ whole rest f. (_, stands_in_steps.values whole 102 (97 ∷ 108 ∷ 115 ∷ 101 ∷ rest));
}

-- the quote at the end stands before what follows
pub string_joined : (bytes rest : List ℕ) → string_written bytes ++ rest ≡ 34 ∷ (flat_map byte_written bytes ++ 34 ∷ rest)
string_joined bytes rest = ap (λ x. 34 ∷ x) (append_assoc (flat_map byte_written bytes) (34 ∷ []) rest)

pub string_value : (bytes : List ℕ) → IsUtf8 bytes → IsValue (string_written bytes) (IsString bytes)
string_value bytes u = record {
  utf8 = written_utf8 bytes u;
  first = 34;
  others = flat_map byte_written bytes ++ 34 ∷ [];
  begins = refl;
  no_blank = refl;
  no_end = refl;
  read = λ rest f. ap after_value (string_joined bytes rest) ∙ value_read 34 (flat_map byte_written bytes ++ 34 ∷ rest) ∙ ap (λ r. gone_on after_part (ended r)) (read_back bytes rest).0;
  stands = λ whole rest f. (
    whole - length (34 ∷ (flat_map byte_written bytes ++ 34 ∷ rest)),
    ap (json_at whole) (string_joined bytes rest) ∙ stands_in_steps.values whole 34 (flat_map byte_written bytes ++ 34 ∷ rest) ∙ ap (Text (whole - length (34 ∷ (flat_map byte_written bytes ++ 34 ∷ rest)))) (read_back bytes rest).1,
  );
}
