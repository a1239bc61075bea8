-- Which bytes begin a line.
use Rattle.std.proofs.Common.{◌≡◌, ℕ, ◌+◌, ◌-◌, ◌<◌, ◌≤◌, List, ◌++◌, length, get_or, take, replicate, Some, Err, refl, sym, ap, ◌∙◌, subst, ⊎_elim, arith}
use Rattle.std.proofs.lemmas.List.{get_or_append_left, get_or-append_right, get_or-replicate, get_or-take, length-append, length-replicate, length-take-le}
use Rattle.std.proofs.lemmas.Bool.{cases_lt}
use Rattle.std.proofs.lemmas.Bool.Decides.{nat_tests}
use Rattle.files.specs.Program.{Program}
use Rattle.files.specs.declared.list_fault.LineFault.{LineFault}
use Rattle.files.specs.declared.list_fault.LineFault.TheVariants.{Byte, Early}
use Rattle.machines.specs.Kind.{Beginning, LineAnswer}
use Rattle.plain.specs.PlainRules.{plain_rules}
use Rattle.fronts.specs.Fronts.{FrontFits, front_len, limit_of}
use Rattle.fronts.specs.Reading.{below, taken}
use Rattle.fronts.proofs.Systems.{Known, limit_range}

-- a byte that is not taken, and one that is not there
taken_byte : (limit : ℕ) (l : List ℕ) (i : ℕ) (f : LineFault) → i < length l → Err f ≡ taken (below limit) l i → (f ≡ Byte i) × (limit ≤ get_or l i 0)
taken_byte limit l i f h e = (grind (arith, nat_tests), grind (arith, nat_tests))

taken_early : (limit : ℕ) (l : List ℕ) (i : ℕ) (f : LineFault) → length l ≤ i → Err f ≡ taken (below limit) l i → f ≡ Early (length l)
taken_early limit l i f h e = grind (arith, nat_tests)

-- bytes in range, which zeros make a line
module _ {s : Program} (known : Known s) (l : List ℕ) (short : length l ≤ front_len s) (bytes : (i : ℕ) → i < length l → get_or l i 0 < limit_of s i) where
  zeros : List ℕ
  zeros = replicate (front_len s - length l) 0

  past : (i : ℕ) → i < front_len s → length l ≤ i → get_or (l ++ zeros) i 0 < limit_of s i
  unfolding zeros
  past i h k =
      let n : i - length l < front_len s - length l = omega arith in
      let r = limit_range known i in
      rw (get_or-append_right l zeros (length l) i 0 refl k, get_or-replicate {A = ℕ} (front_len s - length l) (i - length l) 0 0 n) (omega arith)

  filled : FrontFits s (l ++ zeros)
  unfolding zeros
  filled =
      record {
        long = simp (length-append, length-replicate) (omega arith);
        bytes = λ i h. ⊎_elim (λ p. rw (get_or_append_left l zeros 0 i p) (bytes i p)) (past i h) (cases_lt i (length l));
      }

  pub begins : Beginning (plain_rules s) l
  begins = (zeros, (l ++ zeros, (filled, refl)))

-- so do the first i bytes
pub begins_front : {s : Program} → Known s → (l : List ℕ) (i : ℕ) → i ≤ length l → i ≤ front_len s
    → ((k : ℕ) → k < i → get_or l k 0 < limit_of s k)
    → Beginning (plain_rules s) (take i l)
begins_front known l i h short bytes =
    let n = length-take-le i l h in
    begins known (take i l) (rw n short) (λ k p. let q : k < i = rw n at p in rw (get_or-take i l k 0 q) (bytes k q))

-- no line has a byte past its end, or one that is out of range
pub no_beginning : (s : Program) (l : List ℕ) (i : ℕ) → i < length l → (i < front_len s → limit_of s i ≤ get_or l i 0)
    → Beginning (plain_rules s) (take (i + 1) l)
    → ⊥
no_beginning s l i h out (rest, (r, (f, e))) =
    let n = length-take-le (i + 1) l (omega arith) in
    let k : i < length (take (i + 1) l) = omega arith in
    let same = get_or_append_left (take (i + 1) l) rest 0 i k in
    let here = get_or-take (i + 1) l i 0 (omega arith) in
    let total = length-append (take (i + 1) l) rest in
    let b = f.bytes i in
    let g = f.long in
    grind (arith, b, out, same, here, total, g, e)

-- a byte that is missing or out of range, behind bytes in range, is the fault
pub faulty : {s : Program} → Known s → (l : List ℕ) (i limit : ℕ) (f : LineFault) → i ≤ length l → i < front_len s
    → ((k : ℕ) → k < i → get_or l k 0 < limit_of s k)
    → limit ≡ limit_of s i
    → Err f ≡ taken (below limit) l i
    → LineAnswer (plain_rules s) l (Some f)
faulty {s} known l i limit f within h bytes e t =
    ⊎_elim
    (λ (p : i < length l).
    let out = taken_byte limit l i f p t in
    subst (λ g. LineAnswer (plain_rules s) l (Some g)) (sym out.0)
    (p, begins_front known l i within (omega arith) bytes, no_beginning s l i p (λ _. omega (arith, out.1))))
    (λ (p : length l ≤ i).
    let all : i ≡ length l = omega arith in
    subst (λ g. LineAnswer (plain_rules s) l (Some g)) (sym (taken_early limit l i f p t))
    (refl, begins known l (omega arith) (rw all at bytes), λ (r, (fits, same)). let n = ap length same ∙ fits.long in omega arith))
    (cases_lt i (length l))
