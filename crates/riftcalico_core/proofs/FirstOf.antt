-- One of two is one of three.
use Rattle.std.proofs.Common.{◌⊎◌, inl, inr}

pub first_two : {A B C : Type 0} → A ⊎ B → A ⊎ B ⊎ C
first_two (inl a) = inl a
first_two (inr b) = inr (inl b)
