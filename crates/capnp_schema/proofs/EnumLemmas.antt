-- Enums and enumerants by their numbers.
use Rattle.std.proofs.Common.{ℕ, ◌≡◌, ◌<◌, List, length, map, slice_get, get_or, sym, ap, ◌∙◌}
use Rattle.std.specs.Option.{unwrap_or, option_map}
use Rattle.std.proofs.lemmas.Option.{slice_get-get_or, slice_get-map}
use Rattle.capnp_schema.specs.declared.record.EnumerantRecord.{EnumerantRecord}
use Rattle.capnp_schema.specs.Schema.{seen_enumerant}
use Rattle.capnp_schema.specs.Annotated.{no_enumerant}

pub enumerant_read : (xs : List EnumerantRecord) (i : ℕ) (d : EnumerantRecord) → i < length xs → seen_enumerant (get_or xs i d) ≡ unwrap_or (slice_get (map seen_enumerant xs) i) no_enumerant
enumerant_read xs i d h = ap (λ o. unwrap_or (option_map seen_enumerant o) no_enumerant) (sym (slice_get-get_or xs i d h)) ∙ ap (λ o. unwrap_or o no_enumerant) (sym (slice_get-map seen_enumerant xs i))
