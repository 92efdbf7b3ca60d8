-- The brand's struct is read and then its list of scopes, so the brand says what is in that list.
-- A fault of either leaves the brand unread.
use Rattle.capnp_request.specs.Steps.Seen.{list_seen, record_seen}
use Rattle.capnp_request.proofs.ListsRead.{all_left}
use Rattle.capnp_request.proofs.Refused.{err_if}
use Rattle.capnp_request.proofs.ScopesBound.{brand_fault, list_fault, list_read}
use Rattle.capnp_request.proofs.types.brand_list.Goals as goal

pub returns-clause-read : goal.returns-clause-read
returns-clause-read c = λ inner.
    list_read inner _ (record_seen c.in_ok-brand.brand) c.in_ok-brand.ensures.read c.in_ok-listed.listed (list_seen c.in_ok-listed.listed) (all_left c.in_ok-listed.listed) c.in_ok-listed.ensures.read

pub returns-in_err-brand-clause-refused : goal.returns-in_err-brand-clause-refused
returns-in_err-brand-clause-refused c = λ inner. err_if _ c.from_residual.result _ c.from_residual.ensures.1 (brand_fault inner _ _ c.in_err-brand.ensures.refused)

pub returns-in_err-listed-clause-refused : goal.returns-in_err-listed-clause-refused
returns-in_err-listed-clause-refused c = λ inner.
    err_if _ c.from_residual-in_err-listed.result _ c.from_residual-in_err-listed.ensures.1 (list_fault inner _ (record_seen c.in_ok-brand.brand) c.in_ok-brand.ensures.read _ c.in_err-listed.ensures.refused)
