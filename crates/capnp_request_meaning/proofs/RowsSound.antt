-- Worked rows of what causes refusals.
use Rattle.std.proofs.Common.{ℕ, ◌≡◌, ◌==◌, codes, refl, subst, Bool, true, false, List, [], ◌∷◌, map, Some, Ok, Err}
use Rattle.std.specs.Str.{chars, is_utf8}
use lib.Utf8.{encode}
use Rattle.capnp_device.specs.declared.error.ErrorKind.{ErrorKind}
use Rattle.capnp_device.specs.declared.error.ErrorKind.TheVariants.{FloatType, InterfaceType, NodeNotFound}
use Rattle.capnp_request.specs.Order.{conversion_of}
use Rattle.capnp_request.specs.Scopes.{node_named, some_where}
use Rattle.capnp_request.specs.Terms.{EnumTerm, FieldTerm, Float32, OtherNode, RequestTerm, SchemaNode, StructNode}
use Rattle.capnp_request_meaning.specs.Sound.{EachSaidSo, IsFieldSound, IsNodeSound, IsRequestSound, Refusal}
use Rattle.capnp_request_meaning.proofs.OrderSound.{nothing_missing, refusals_caused}
use Rattle.capnp_request_meaning.proofs.Rows.{first_fields, node, request, slot, struct_part}

abbrev refused : ErrorKind → (strict : Bool) → Refusal
refused kind strict = record { kind = kind; strict = strict }

abbrev pub AreSound : Refusal → List SchemaNode → List SchemaNode → Type 0
AreSound cause nodes [] = Unit {0}
AreSound cause nodes (n ∷ ns) = IsNodeSound cause nodes n × AreSound cause nodes ns

pub all_sound : (cause : Refusal) (nodes ns : List SchemaNode) (id : ℕ) (n : SchemaNode) → AreSound cause nodes ns → node_named ns id ≡ Some n → IsNodeSound cause nodes n
all_sound cause nodes [] id n h e = absurd (cc)
all_sound cause nodes (m ∷ ns) id n h e = go (m.id == id) (all_sound cause nodes ns id n h.1) e
  where
    go : (q : Bool) → (node_named ns id ≡ Some n → IsNodeSound cause nodes n) → some_where q m (node_named ns id) ≡ Some n → IsNodeSound cause nodes n
    go true rest e = let same : m ≡ n = cc in subst (IsNodeSound cause nodes) same h.0
    go false rest e = rest e

-- ---- ids that are there, and one that isn't ----

row_fields_sound : EachSaidSo (refused NodeNotFound false) (IsFieldSound (refused NodeNotFound false) request.nodes) (map (λ (f : FieldTerm). Ok f) first_fields)
unfolding is_utf8 chars encode
row_fields_sound = (record { name = λ e. refl; annotations = tt; kind = (tt, tt) }, (record { name = λ e. refl; annotations = tt; kind = λ e. refl }, (record { name = λ e. refl; annotations = tt; kind = (λ e. refl, tt) }, tt)))

row_sound : IsRequestSound (refused NodeNotFound false) request
unfolding is_utf8 chars encode
row_sound = record {
  files = tt;
  nodes = λ id n e. all_sound (refused NodeNotFound false) request.nodes request.nodes id n (
    record { display_name = λ e. refl; nested = tt; parameters = tt; annotations = tt; kind = tt },
    (
      record { display_name = λ e. refl; nested = tt; parameters = tt; annotations = tt; kind = row_fields_sound },
      (
        record { display_name = λ e. refl; nested = tt; parameters = tt; annotations = tt; kind = (record { name = λ e. refl; annotations = tt; kind = (tt, tt) }, tt) },
        (record { display_name = λ e. refl; nested = tt; parameters = tt; annotations = tt; kind = (record { name = λ e. refl; annotations = tt }, (record { name = λ e. refl; annotations = tt }, tt)) }, tt),
      ),
    ),
  ) e;
}

abbrev dangling : RequestTerm
dangling = record { nodes = node 1 (codes "x.capnp") 0 (2 ∷ []) OtherNode ∷ node 2 (codes "x.capnp:A") 1 [] (StructNode (struct_part false 0 (slot (codes "e") 65535 0 (EnumTerm 2) ∷ []))) ∷ []; files = Ok (1 ∷ []) }

-- an enum's id that is a struct's
dangling_refused : conversion_of dangling false ≡ Err NodeNotFound
unfolding is_utf8 chars encode
dangling_refused = refl

row_dangling : IsRequestSound (refused NodeNotFound false) dangling → ⊥
row_dangling h = nothing_missing dangling false h dangling_refused

-- ---- a float, which is a cause under strict alone ----

abbrev floating : RequestTerm
floating = record { nodes = node 1 (codes "x.capnp") 0 (2 ∷ []) OtherNode ∷ node 2 (codes "x.capnp:A") 1 [] (StructNode (struct_part false 0 (slot (codes "f") 65535 0 Float32 ∷ []))) ∷ []; files = Ok (1 ∷ []) }

floating_refused : conversion_of floating true ≡ Err FloatType
unfolding is_utf8 chars encode
floating_refused = refl

pub row_floating : IsRequestSound (refused FloatType true) floating → ⊥
row_floating h = refusals_caused (refused FloatType true) floating (λ e. cc) h floating_refused

not_true : false ≡ true → ⊥
not_true e = cc

not_interface : FloatType ≡ InterfaceType → ⊥
not_interface e = cc

float_sound : (cause : Refusal) → (cause.strict ≡ true → FloatType ≡ cause.kind → ⊥) → IsRequestSound cause floating
unfolding is_utf8 chars encode
float_sound cause float = record {
  files = tt;
  nodes = λ id n e. all_sound cause floating.nodes floating.nodes id n (
    record { display_name = λ e. refl; nested = tt; parameters = tt; annotations = tt; kind = tt },
    (record { display_name = λ e. refl; nested = tt; parameters = tt; annotations = tt; kind = (record { name = λ e. refl; annotations = tt; kind = (float, tt) }, tt) }, tt),
  ) e;
}

-- none without it, nor one of other refusals
row_taken : IsRequestSound (refused FloatType false) floating
row_taken = float_sound (refused FloatType false) (λ e. absurd (not_true e))

row_another : IsRequestSound (refused InterfaceType true) floating
row_another = float_sound (refused InterfaceType true) (λ e. not_interface)
