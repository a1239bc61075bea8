-- The queues of a row, written into a line one after the other.
use Rattle.std.proofs.Common.{◌≡◌, ℕ, suc, ◌+◌, ◌*◌, ◌≤◌, List, ◌++◌, length, get_or, take, drop, sym, ap, ◌∙◌, add-zero, arith}
use borrow.Rule.Slice.PartMut.{put_mid}
use Rattle.std.proofs.lemmas.List.{append_assoc, append-nil, drop-drop, get_or-take, length-take-le, take_at}
use Rattle.std.proofs.lemmas.Slice.{take-put_mid}
use Rattle.files.specs.Program.{Program, sizes_of}
use Rattle.fronts.specs.Fronts.{front_len}
use Rattle.load_buffers.specs.Lines.{in_use, line_of}
use Rattle.load_buffers.specs.Rows.{queue_of}

-- p queues are written, into the bytes before `end`
pub record Put (s : Program) (row : List ℕ) (end p : ℕ) (line : List ℕ) : Type 0 where
  pub short : end ≤ front_len s + 9 * p
  pub part : (k : ℕ) → k + p ≡ length s.states → take end line ++ in_use k (drop (front_len s + 10 * p) row) ≡ line_of s row

module _ (s : Program) (row : List ℕ) (end p : ℕ) (line : List ℕ) (put : Put s row end p line) where
  -- what is in use of a queue's ten bytes q, whose count is c
  pub put_more : (q used : List ℕ) (c size next : ℕ) → q ≡ queue_of (sizes_of s) p row → c ≡ get_or q 0 0 → c ≤ 8 → used ≡ take (suc c) q → length used ≡ suc c → next ≡ end + suc c → end ≤ length line → Put s row next (p + 1) (put_mid end size line used)
  put_more q used c size next e f few g n m h =
      let qs = drop (front_len s + 10 * p) row in
      let o : front_len s + 10 * p + 10 ≡ front_len s + 10 * (p + 1) = omega arith in
      let first : get_or qs 0 0 ≡ c = sym (f ∙ ap (λ x. get_or x 0 0) e ∙ get_or-take 10 qs 0 0 (omega arith)) in
      let d : drop 10 qs ≡ drop (front_len s + 10 * (p + 1)) row = drop-drop 10 (front_len s + 10 * p) row ∙ ap (λ x. drop x row) o in
      let u : take (suc c) (take 10 qs) ≡ used = sym (g ∙ ap (take (suc c)) e) in
      record {
        short = omega (arith, put.short);
        part = λ k j.
            let rest = in_use k (drop (front_len s + 10 * (p + 1)) row) in
            let t = take-put_mid end size line used next (omega arith) h in
            let v : in_use (suc k) qs ≡ used ++ rest = rw (first, d, u) in
            ap (λ x. x ++ rest) t ∙ append_assoc (take end line) used rest ∙ ap (λ x. take end line ++ x) (sym v) ∙ put.part (suc k) (omega arith);
      }

  pub put_all : length s.states ≡ p → take end line ≡ line_of s row
  put_all e = sym (append-nil (take end line)) ∙ put.part 0 (omega arith)
