-- Worked rows of the nearest floats, stated by hand. They judge the definitions.
use Rattle.std.proofs.Common.{inl, inr, refl, lit<, lit≤}
use lib.IntN.{pos, negsuc}
use Rattle.capnp_floats.specs.declared.width.Width.TheVariants.{Float32, Float64}
use Rattle.capnp_floats.specs.Nearest.{IsNearest, IsPastRange, least_numbers}
use Rattle.capnp_floats.proofs.Nearing.{low_is_nearest, next_is_nearest}

-- ---- 64 bits ----

middle_goes_down : IsNearest Float64 9007199254740993 (pos 0) 0x4340000000000000
unfolding least_numbers
middle_goes_down = low_is_nearest Float64 9007199254740993 0x4340000000000000 (pos 0) (lit< tt) (lit≤ tt) (inr (refl, refl))

middle_goes_up : IsNearest Float64 9007199254740995 (pos 0) 0x4340000000000002
unfolding least_numbers
middle_goes_up = next_is_nearest Float64 9007199254740995 0x4340000000000001 (pos 0) (lit< tt) (lit≤ tt) (lit< tt) (inr (refl, refl))

half_the_least : IsNearest Float64 24703282292062327 (negsuc 339) 0x0
unfolding least_numbers
half_the_least = low_is_nearest Float64 24703282292062327 0x0 (negsuc 339) (lit< tt) (lit≤ tt) (inl (lit< tt))

more_than_half_the_least : IsNearest Float64 24703282292062328 (negsuc 339) 0x1
unfolding least_numbers
more_than_half_the_least = next_is_nearest Float64 24703282292062328 0x0 (negsuc 339) (lit< tt) (lit≤ tt) (lit< tt) (inl (lit< tt))

tiny : IsNearest Float64 1 (negsuc 399) 0x0
unfolding least_numbers
tiny = low_is_nearest Float64 1 0x0 (negsuc 399) (lit< tt) (lit≤ tt) (inl (lit< tt))

largest : IsNearest Float64 17976931348623158 (pos 292) 0x7fefffffffffffff
unfolding least_numbers
largest = low_is_nearest Float64 17976931348623158 0x7fefffffffffffff (pos 292) (lit< tt) (lit≤ tt) (inl (lit< tt))

past_the_largest : IsPastRange Float64 17976931348623159 (pos 292)
unfolding least_numbers
past_the_largest = lit≤ tt

one_tenth : IsNearest Float64 1 (negsuc 0) 0x3fb999999999999a
unfolding least_numbers
one_tenth = next_is_nearest Float64 1 0x3fb9999999999999 (negsuc 0) (lit< tt) (lit≤ tt) (lit< tt) (inl (lit< tt))

one_third : IsNearest Float64 3333333333333333 (negsuc 15) 0x3fd5555555555555
unfolding least_numbers
one_third = next_is_nearest Float64 3333333333333333 0x3fd5555555555554 (negsuc 15) (lit< tt) (lit≤ tt) (lit< tt) (inl (lit< tt))

one : IsNearest Float64 1 (pos 0) 0x3ff0000000000000
unfolding least_numbers
one = low_is_nearest Float64 1 0x3ff0000000000000 (pos 0) (lit< tt) (lit≤ tt) (inl (lit< tt))

zero : IsNearest Float64 0 (pos 5) 0x0
unfolding least_numbers
zero = low_is_nearest Float64 0 0x0 (pos 5) (lit< tt) (lit≤ tt) (inl (lit< tt))

-- ---- 32 bits ----

middle_goes_down_32 : IsNearest Float32 16777217 (pos 0) 0x4b800000
unfolding least_numbers
middle_goes_down_32 = low_is_nearest Float32 16777217 0x4b800000 (pos 0) (lit< tt) (lit≤ tt) (inr (refl, refl))

middle_goes_up_32 : IsNearest Float32 16777219 (pos 0) 0x4b800002
unfolding least_numbers
middle_goes_up_32 = next_is_nearest Float32 16777219 0x4b800001 (pos 0) (lit< tt) (lit≤ tt) (lit< tt) (inr (refl, refl))

largest_32 : IsNearest Float32 34028235677973366 (pos 22) 0x7f7fffff
unfolding least_numbers
largest_32 = low_is_nearest Float32 34028235677973366 0x7f7fffff (pos 22) (lit< tt) (lit≤ tt) (inl (lit< tt))

last_middle_32 : IsPastRange Float32 340282356779733661637539395458142568448 (pos 0)
unfolding least_numbers
last_middle_32 = lit≤ tt

-- the decimal of a number that a reader through 64 bits takes for its neighbour
read_once : IsNearest Float32 7038531 (negsuc 31) 0x15ae43fd
unfolding least_numbers
read_once = low_is_nearest Float32 7038531 0x15ae43fd (negsuc 31) (lit< tt) (lit≤ tt) (inl (lit< tt))
