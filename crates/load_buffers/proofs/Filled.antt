-- The queues of a row, filled in one after the other.
use Rattle.std.proofs.Common.{◌≡◌, ℕ, suc, ◌+◌, ◌-◌, ◌*◌, ◌<◌, ◌≤◌, List, [], ◌∷◌, ◌++◌, length, get_or, take, drop, replicate, Some, sym, refl, ap, ◌∙◌, add-zero, arith}
use borrow.Rule.Slice.PartMut.{put_mid}
use Rattle.std.proofs.lemmas.List.{append_assoc, append-nil, drop-drop, get_or-drop, take_all}
use Rattle.std.proofs.lemmas.Slice.{take-put_mid}
use Rattle.files.specs.Program.{Program, sizes_of}
use Rattle.files.specs.declared.list_fault.LineFault.{LineFault}
use Rattle.files.specs.declared.list_fault.LineFault.TheVariants.{Byte}
use Rattle.fronts.specs.Fronts.{front_len}
use Rattle.load_buffers.specs.Reading.{Faulty, QueueRead, RowRead, line_fault, padded, queue, row_of, spread, walk}
use Rattle.load_buffers.specs.Walks.{walk_more, walk_none}

-- p queues are filled in, from the bytes before `end`
pub record Filled (s : Program) (l : List ℕ) (end p : ℕ) (row : List ℕ) : Type 0 where
  pub within : end ≤ length l
  pub part : (k : ℕ) → k + p ≡ length s.states → take (front_len s + 10 * p) row ++ spread k (drop end l) ≡ row_of s l
  pub on : (k : ℕ) → k + p ≡ length s.states → line_fault s l ≡ walk end (replicate k (queue (sizes_of s))) (drop end l)

spread_more : (l : List ℕ) (k end next c : ℕ) → c ≡ get_or l end 0 → next ≡ end + suc c → spread (suc k) (drop end l) ≡ padded (take (suc c) (drop end l)) ++ spread k (drop next l)
unfolding spread
spread_more l k end next c e n =
    let g : get_or (drop end l) 0 0 ≡ c = get_or-drop end l 0 0 ∙ ap (λ x. get_or l x 0) (add-zero end) ∙ sym e in
    let d = drop-drop (suc c) end l in
    rw (g, d, n)

module _ (s : Program) (l row : List ℕ) (end p : ℕ) (fill : Filled s l end p row) where
  pub filled_fault : (f : LineFault) → p < length s.states → Faulty end (queue (sizes_of s) ∷ []) l f → line_fault s l ≡ Some f
  filled_fault f h on = let k = length s.states - p - 1 in fill.on (suc k) (omega arith) ∙ on (replicate k (queue (sizes_of s)))

  pub filled_more : (at size next : ℕ) (q : List ℕ) → at ≡ front_len s + 10 * p → at ≤ length row → length q ≡ 10 → QueueRead (sizes_of s) l end next q → Filled s l next (p + 1) (put_mid at size row q)
  filled_more at size next q e h ten r =
      record {
        within = r.within;
        part = λ k f.
            let rest = spread k (drop next l) in
            let t = take-put_mid at size row q (front_len s + 10 * (p + 1)) (omega arith) h in
            let v : spread (suc k) (drop end l) ≡ q ++ rest = spread_more l k end next (get_or l end 0) refl r.end_is ∙ ap (λ x. x ++ rest) (sym r.ten) in
            ap (λ x. x ++ rest) t
            ∙ append_assoc (take at row) q rest
            ∙ ap (λ x. take at row ++ x) (sym v)
            ∙ ap (λ x. take x row ++ spread (suc k) (drop end l)) e
            ∙ fill.part (suc k) (omega arith);
        on = λ k f. fill.on (suc k) (omega arith) ∙ r.on (replicate k (queue (sizes_of s)));
      }

  pub filled_over : length s.states ≡ p → end < length l → line_fault s l ≡ Some (Byte end)
  filled_over e h = fill.on 0 (omega arith) ∙ walk_more l end h

  pub filled_all : length s.states ≡ p → length l ≤ end → length row ≡ front_len s + 10 * p → RowRead s l row
  unfolding spread
  filled_all e h n =
      let t = take_all (front_len s + 10 * p) row (omega arith) in
      (fill.on 0 (omega arith) ∙ walk_none l end h, sym t ∙ sym (append-nil (take (front_len s + 10 * p) row)) ∙ fill.part 0 (omega arith))
