-- The label range: which whole numbers a label that is kept may hold, and a written constant.
use Rattle.std.specs.Prelude.{ℕ, ◌^◌, ℤ, pos, negsuc, Bool, nat_lt, FitsSigned}
use Rattle.std.specs.Int.{Width, w64}

-- how many bits such a number has beside its sign
abbrev pub label_bits : ℕ
label_bits = 63

-- and with its sign
abbrev pub label_width : Width
label_width = w64

-- from -2^63 to 2^63 - 1
abbrev pub is_label_number : ℤ → Bool
is_label_number (pos n) = nat_lt n (2 ^ label_bits)
is_label_number (negsuc n) = nat_lt n (2 ^ label_bits)

-- the same as a fact
abbrev pub IsLabelNumber : ℤ → Type 0
IsLabelNumber z = FitsSigned label_width z
