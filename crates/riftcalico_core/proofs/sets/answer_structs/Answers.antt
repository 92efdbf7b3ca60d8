-- A text that is refused is longer than it may be.
use Rattle.std.proofs.Common.{◌≡◌, ◌<◌, ℕ, length, refl}
use Rattle.std.proofs.lemmas.Result.{err_from_is_err_and}
use Rattle.capnp_device.specs.declared.error.ErrorKind.{ErrorKind}
use Rattle.capnp_device.specs.declared.error.ErrorKind.TheVariants.{TooLarge}
use Rattle.capnp_schema.specs.Entries.{lists_seen}
use Rattle.capnp_schema.specs.Schema.{Schemas}
use Rattle.capnp_structs.specs.Names.{structs_text}
use Rattle.riftcalico_core.specs.Answers.{IsStructsText}
use Rattle.riftcalico_core.specs.Room.{IsLongText}
use Rattle.riftcalico_core.proofs.sets.answer_structs.Goals as goal

too_long : (limit : ℕ) (set : Schemas) (kind : ErrorKind) → (kind ≡ TooLarge) × (limit < length (structs_text set)) → IsLongText limit (IsStructsText set) kind
too_long limit set kind h = record { is = h.0; text = structs_text set; of = refl; long = h.1 }

pub returns-in_err-text-clause-refused : goal.returns-in_err-text-clause-refused
returns-in_err-text-clause-refused c =
    let p = err_from_is_err_and c.from_residual.result c.from_residual.ensures.1 in
    rw (p.1, p.2) (λ m. too_long c.args.limit (lists_seen c.args.schemas.now) _ (c.in_err-text.ensures.too_long m))
