-- Messages as bytes: 16 × own + 4 × variable + value.
use Rattle.std.specs.Prelude.{ℕ, ◌/◌, ◌%◌, ◌<◌, Bool, nat_le}
use Rattle.files.specs.declared.sizes.Sizes.{Sizes}

abbrev pub variable_of : ℕ → ℕ
variable_of m = m / 4 % 4

abbrev pub value_of : ℕ → ℕ
value_of m = m % 4

abbrev pub own_of : ℕ → Bool
own_of m = nat_le 16 m

pub record MessageFits (z : Sizes) (m : ℕ) : Type 0 where
  pub own : m < 32
  pub variable : variable_of m < z.variables
  pub value : value_of m < z.values
