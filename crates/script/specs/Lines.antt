-- What a line of a script says.
use Rattle.std.specs.Prelude.{ℕ, ◌+◌, ◌-◌, ◌*◌, cond, ◌&&◌, List, length, Some, None, Option, ◌==◌, nat_le, nat_lt, slice_index}
use Rattle.std.specs.Option.{option_map}
use Rattle.machines.specs.Step.{propagate, delete, update, number_of}
use Rattle.script.specs.declared.command.Command.{Command}
use Rattle.script.specs.declared.command.Command.TheVariants.{Play, Drain}

-- a digit that is at most max
abbrev pub digit_to : ℕ → ℕ → Option ℕ
digit_to b max = cond (nat_lt b 48) None (cond (nat_le (b - 48) max) (Some (b - 48)) None)

abbrev pub both : {X Y : Type 0} → Option X → Option Y → Option (X × Y)
both None o = None
both (Some x) None = None
both (Some x) (Some y) = Some (x, y)

-- the digit of a line of a letter, a space and a digit
abbrev pub one_digit : List ℕ → Option ℕ
one_digit l = cond (length l == 3) (digit_to (slice_index l 2) 3) None

-- the digits of a line with one more space and digit
abbrev pub two_digits : List ℕ → Option (ℕ × ℕ)
two_digits l = cond (length l == 5) (cond (slice_index l 3 == 32) (both (digit_to (slice_index l 2) 3) (digit_to (slice_index l 4) 3)) None) None

-- two digits, the first not 0, of a number below 64
abbrev pub tens : Option (ℕ × ℕ) → Option ℕ
tens None = None
tens (Some d) = cond (nat_lt 0 d.0 && nat_lt (10 * d.0 + d.1) 64) (Some (10 * d.0 + d.1)) None

abbrev pub transition_in : List ℕ → Option ℕ
transition_in l =
    cond (length l == 3) (digit_to (slice_index l 2) 9) (cond (length l == 4) (tens (both (digit_to (slice_index l 2) 6) (digit_to (slice_index l 3) 9))) None)

-- the letters t, p, d, u and a
abbrev pub by_letter : ℕ → List ℕ → Option Command
by_letter c l =
    cond (c == 116) (option_map Play (transition_in l))
    (cond (c == 112) (option_map (λ d. Play (number_of d.0 (propagate d.1))) (two_digits l))
    (cond (c == 100) (option_map (λ p. Play (number_of p delete)) (one_digit l))
    (cond (c == 117) (option_map (λ p. Play (number_of p update)) (one_digit l))
    (cond (c == 97) (option_map Drain (one_digit l)) None))))

abbrev pub line_command : List ℕ → Option Command
line_command l = cond (nat_lt (length l) 3) None (cond (slice_index l 1 == 32) (by_letter (slice_index l 0) l) None)
