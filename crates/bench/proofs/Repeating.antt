-- The same move again and again.
use Rattle.std.proofs.Common.{◌≡◌, ℕ, zero, suc, ◌+◌, ◌<◌, Ok, Err, sym, refl, ap, ◌∙◌, arith}
use Rattle.files.specs.Program.{Program}
use Rattle.queue.specs.Fifo.{Kind}
use Rattle.bench.specs.declared.fault.BenchFault.{BenchFault}
use Rattle.bench.specs.Play.{played, repeated, onward, refused, done, Came}
use Rattle.rules.specs.Rulebook.{Rulebook}
use Rattle.bench.specs.Table.{Table}

module _ {M : Type 0} (k : Kind M) (u : Rulebook M) (s : Program) (m : ℕ) where
  pub repeated_more : (n : ℕ) (t t' : Table M) → Came (played k u s t m) (Ok tt) t' → repeated k u s m (suc n) t ≡ repeated k u s m n t'
  unfolding repeated
  repeated_more n t t' h =
      ap (λ r. onward r (played k u s t m).after (repeated k u s m n)) (sym h.0) ∙ ap (repeated k u s m n) (sym h.1)

  pub repeated_stop : (n i l : ℕ) (e : BenchFault) (t t' : Table M) → n + i ≡ l → i < l → Came (played k u s t m) (Err e) t' → repeated k u s m n t ≡ refused e t'
  unfolding repeated
  repeated_stop zero i l e t t' a b h = absurd (omega arith)
  repeated_stop (suc n) i l e t t' a b h =
      ap (λ r. onward r (played k u s t m).after (repeated k u s m n)) (sym h.0) ∙ ap (refused e) (sym h.1)

  pub repeated_end : (t : Table M) → repeated k u s m 0 t ≡ done t
  unfolding repeated
  repeated_end t = refl
