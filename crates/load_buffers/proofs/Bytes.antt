-- Messages, as bytes.
use Rattle.std.proofs.Common.{◌≡◌, ℕ, ◌<◌, true, false, leb, ap, arith}
use Rattle.std.proofs.lemmas.Bool.{le-leb, lt-leb, leb-true, leb-false}
use Rattle.files.specs.Program.{Ranges}
use Rattle.files.specs.declared.sizes.Sizes.{Sizes}
use Rattle.machines.specs.Message.{Message, seen_of, own_of as own_message}
use Rattle.load_buffers.specs.Backs.{seen_byte, own_byte}
use Rattle.load_buffers.specs.Configs.{message_of}
use Rattle.load_buffers.specs.Messages.{MessageFits, variable_of, value_of}

module _ (x v : ℕ) (hx : x < 4) (hv : v < 4) where
  pub message_seen : message_of (seen_byte x v) ≡ seen_of x v
  message_seen =
      let o : leb 16 (seen_byte x v) ≡ false = lt-leb 16 (seen_byte x v) (omega arith) in
      let a : variable_of (seen_byte x v) ≡ x = omega arith in
      let b : value_of (seen_byte x v) ≡ v = omega arith in
      λ i. record { own = o i; variable = a i; value = b i }

  pub message_own : message_of (own_byte x v) ≡ own_message x v
  message_own =
      let o : leb 16 (own_byte x v) ≡ true = le-leb 16 (own_byte x v) (omega arith) in
      let a : variable_of (own_byte x v) ≡ x = omega arith in
      let b : value_of (own_byte x v) ≡ v = omega arith in
      λ i. record { own = o i; variable = a i; value = b i }

  pub seen_byte_lem : (m : ℕ) → message_of m ≡ seen_of x v → m ≡ seen_byte x v
  seen_byte_lem m e =
      let o = leb-false 16 m (ap (λ (n : Message). n.own) e) in
      let a : variable_of m ≡ x = ap (λ (n : Message). n.variable) e in
      let b : value_of m ≡ v = ap (λ (n : Message). n.value) e in
      omega arith

  pub own_byte_lem : (m : ℕ) → m < 32 → message_of m ≡ own_message x v → m ≡ own_byte x v
  own_byte_lem m h e =
      let o = leb-true 16 m (ap (λ (n : Message). n.own) e) in
      let a : variable_of m ≡ x = ap (λ (n : Message). n.variable) e in
      let b : value_of m ≡ v = ap (λ (n : Message). n.value) e in
      omega arith

pub fits_seen : (z : Sizes) (x v : ℕ) → Ranges z → x < z.variables → v < z.values → MessageFits z (seen_byte x v)
fits_seen z x v r hx hv =
    let a : variable_of (seen_byte x v) ≡ x = omega arith in
    let b : value_of (seen_byte x v) ≡ v = omega arith in
    record { own = omega arith; variable = rw a hx; value = rw b hv }

pub fits_own : (z : Sizes) (x v : ℕ) → Ranges z → x < z.variables → v < z.values → MessageFits z (own_byte x v)
fits_own z x v r hx hv =
    let a : variable_of (own_byte x v) ≡ x = omega arith in
    let b : value_of (own_byte x v) ≡ v = omega arith in
    record { own = omega arith; variable = rw a hx; value = rw b hv }
