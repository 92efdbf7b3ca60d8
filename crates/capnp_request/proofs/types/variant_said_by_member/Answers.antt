-- A member that says all of a type says it by its number alone. Any other is a float's, or lies behind 13.
use Rattle.std.proofs.Common.{ap, arith}
use Rattle.capnp_request.specs.Steps.Meant.{IsSaidByMember, type_kind}
use Rattle.capnp_request.proofs.types.variant_said_by_member.Goals as goal

pub returns-in-0 : goal.returns-in-0
unfolding IsSaidByMember
returns-in-0 c = λ inner v. ap (λ m. type_kind inner m v) c.in-0.is

pub returns-in-1 : goal.returns-in-1
unfolding IsSaidByMember
returns-in-1 c = λ inner v. ap (λ m. type_kind inner m v) c.in-1.is

pub returns-in-2 : goal.returns-in-2
unfolding IsSaidByMember
returns-in-2 c = λ inner v. ap (λ m. type_kind inner m v) c.in-2.is

pub returns-in-3 : goal.returns-in-3
unfolding IsSaidByMember
returns-in-3 c = λ inner v. ap (λ m. type_kind inner m v) c.in-3.is

pub returns-in-4 : goal.returns-in-4
unfolding IsSaidByMember
returns-in-4 c = λ inner v. ap (λ m. type_kind inner m v) c.in-4.is

pub returns-in-5 : goal.returns-in-5
unfolding IsSaidByMember
returns-in-5 c = λ inner v. ap (λ m. type_kind inner m v) c.in-5.is

pub returns-in-6 : goal.returns-in-6
unfolding IsSaidByMember
returns-in-6 c = λ inner v. ap (λ m. type_kind inner m v) c.in-6.is

pub returns-in-7 : goal.returns-in-7
unfolding IsSaidByMember
returns-in-7 c = λ inner v. ap (λ m. type_kind inner m v) c.in-7.is

pub returns-in-8 : goal.returns-in-8
unfolding IsSaidByMember
returns-in-8 c = λ inner v. ap (λ m. type_kind inner m v) c.in-8.is

pub returns-in-9 : goal.returns-in-9
unfolding IsSaidByMember
returns-in-9 c = λ inner v. ap (λ m. type_kind inner m v) c.in-9.is

pub returns-in-12 : goal.returns-in-12
unfolding IsSaidByMember
returns-in-12 c = λ inner v. ap (λ m. type_kind inner m v) c.in-12.is

pub returns-in-13 : goal.returns-in-13
unfolding IsSaidByMember
returns-in-13 c = λ inner v. ap (λ m. type_kind inner m v) c.in-13.is

pub returns-in_default : goal.returns-in_default
returns-in_default c = (omega arith, λ h. omega (arith, h))
