-- Structs of the files that a record requests are found by their names.
use Rattle.std.proofs.Common.{◌≡◌, ◌∙◌, Bool, List, subst, sym, Ok}
use Rattle.capnp_schema.specs.Accepted.{IsAccepted}
use Rattle.capnp_schema.specs.Schema.{Schemas}
use Rattle.capnp_records.specs.Record.{Record}
use Rattle.capnp_request.specs.Conversion.{Note}
use Rattle.capnp_request.specs.Reading.{request_said}
use Rattle.capnp_request.specs.Terms.{RequestTerm, Said}
use Rattle.capnp_request_meaning.specs.Laws.{FindsRequested, IsSetOfRecord}
use Rattle.capnp_request_meaning.specs.Meaning.{IsSetOf}
use Rattle.capnp_request_meaning.proofs.NamesFound.{structs_found}

same_request : (d : Said RequestTerm) (a b : RequestTerm) → d ≡ Ok a → d ≡ Ok b → a ≡ b
same_request d a b e f = let h : ◌≡◌ {A = Said RequestTerm} (Ok a) (Ok b) = sym e ∙ f in cc

pub finds_requested : (r : Record) (strict : Bool) (set : Schemas) (notes : List Note) → IsSetOfRecord r strict set notes → IsAccepted set → FindsRequested r set
finds_requested r strict set notes of accepted request said own bare =
    let is : IsSetOf request strict set = subst (λ q. IsSetOf q strict set) (same_request (request_said r) of.request request of.said said) of.is in
    (is.entries, λ id n part listed first struct group. structs_found request strict set is accepted own bare id n part listed first struct group)
