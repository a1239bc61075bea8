-- One byte of a script, and one line.
use Rattle.std.proofs.Common.{◌≡◌, ℕ, ◌+◌, ◌<◌, ◌≤◌, List, [], ◌∷◌, length, get_or, drop, Some, None, Ok, Err, sym, refl, ap, ◌∙◌, arith}
use Rattle.std.specs.List.{between}
use Rattle.std.proofs.lemmas.List.{drop_more, drop_all}
use Rattle.std.proofs.lemmas.List.Edits.{between_none, between_more, length-between}
use Rattle.std.proofs.lemmas.Bool.{eq-eqb, ne_eqb, cond-true, cond-false}
use Rattle.files.specs.Program.{Program}
use Rattle.queue.specs.Fifo.{Kind}
use Rattle.bench.specs.declared.fault.BenchFault.{BenchFault}
use Rattle.bench.specs.declared.fault.BenchFault.TheVariants.{Unreadable}
use Rattle.bench.specs.Play.{Came}
use Rattle.rules.specs.Rulebook.{Rulebook}
use Rattle.bench.specs.Table.{Table}
use Rattle.script.specs.Lines.{line_command}
use Rattle.script.specs.Scripts.{Line, ended, begun_line, lines_from, obeyed, stopped, onwards, by_command, folded}
use Rattle.script.specs.declared.command.Command.{Command}

-- the byte at i ends a line
pub lines_line : (start i : ℕ) (bs : List ℕ) → i < length bs → get_or bs i 0 ≡ 10 → lines_from (between start i bs) (drop i bs) ≡ ended (between start i bs) ∷ lines_from (between (i + 1) (i + 1) bs) (drop (i + 1) bs)
unfolding lines_from
lines_line start i bs l e =
    ap (lines_from (between start i bs)) (drop_more bs i 0 l)
    ∙ cond-true _ _ _ (eq-eqb _ _ e)
    ∙ ap (λ t. ended (between start i bs) ∷ lines_from t (drop (i + 1) bs)) (sym (between_none bs (i + 1)))

-- it does not
pub lines_byte : (start i : ℕ) (bs : List ℕ) → start ≤ i → i < length bs → (get_or bs i 0 ≡ 10 → ⊥) → lines_from (between start i bs) (drop i bs) ≡ lines_from (between start (i + 1) bs) (drop (i + 1) bs)
unfolding lines_from
lines_byte start i bs s l e =
    ap (lines_from (between start i bs)) (drop_more bs i 0 l)
    ∙ cond-false _ _ _ (ne_eqb _ _ e)
    ∙ ap (λ t. lines_from t (drop (i + 1) bs)) (sym (between_more bs start i 0 s l))

-- nothing follows
lines_end : (line : List ℕ) (i : ℕ) (bs : List ℕ) → length bs ≤ i → lines_from line (drop i bs) ≡ begun_line line
unfolding lines_from
lines_end line i bs h = ap (lines_from line) (drop_all i bs h)

begun_none : (line : List ℕ) → length line ≡ 0 → begun_line line ≡ []
begun_none [] h = refl
begun_none (x ∷ line) h = absurd (omega arith)

module _ {M : Type 0} (k : Kind M) (u : Rulebook M) (s : Program) (n : ℕ) (t : Table M) where
  begun_stops : (line : List ℕ) → 0 < length line → folded k u s n (begun_line line) t ≡ stopped n (Unreadable n) t
  unfolding folded
  begun_stops [] h = absurd (omega arith)
  begun_stops (x ∷ line) h = refl

  -- bytes are left behind the last line
  pub folded_left : (start i : ℕ) (bs : List ℕ) → start < i → i ≤ length bs → length bs ≤ i → folded k u s n (lines_from (between start i bs) (drop i bs)) t ≡ stopped n (Unreadable n) t
  folded_left start i bs a b c =
      let l = length-between bs start i b in
      ap (λ ls. folded k u s n ls t) (lines_end (between start i bs) i bs c) ∙ begun_stops (between start i bs) (omega arith)

  -- none are
  pub folded_end : (start i : ℕ) (bs : List ℕ) → i ≤ start → i ≤ length bs → length bs ≤ i → folded k u s n (lines_from (between start i bs) (drop i bs)) t ≡ record { answer = Ok n; after = t }
  unfolding folded
  folded_end start i bs a b c =
      let l = length-between bs start i b in
      ap (λ ls. folded k u s n ls t) (lines_end (between start i bs) i bs c ∙ begun_none (between start i bs) (omega arith))

  -- a line that cannot be read
  pub folded_unread : (line : List ℕ) (rest : List Line) → None ≡ line_command line → folded k u s n (ended line ∷ rest) t ≡ stopped n (Unreadable n) t
  unfolding folded
  folded_unread line rest h = ap (λ o. by_command k u s n o t (folded k u s (n + 1) rest)) (sym h)

  -- a line that is refused
  pub folded_refused : (line : List ℕ) (rest : List Line) (c : Command) (e : BenchFault) (t' : Table M) → Some c ≡ line_command line → Came (obeyed k u s t c) (Err e) t' → folded k u s n (ended line ∷ rest) t ≡ stopped n e t'
  unfolding folded
  folded_refused line rest c e t' h g =
      ap (λ o. by_command k u s n o t (folded k u s (n + 1) rest)) (sym h)
      ∙ ap (λ r. onwards n r (obeyed k u s t c).after (folded k u s (n + 1) rest)) (sym g.0)
      ∙ ap (stopped n e) (sym g.1)

  -- a line that is played
  pub folded_more : (line : List ℕ) (rest : List Line) (c : Command) (t' : Table M) → Some c ≡ line_command line → Came (obeyed k u s t c) (Ok tt) t' → folded k u s n (ended line ∷ rest) t ≡ folded k u s (n + 1) rest t'
  unfolding folded
  folded_more line rest c t' h g =
      ap (λ o. by_command k u s n o t (folded k u s (n + 1) rest)) (sym h)
      ∙ ap (λ r. onwards n r (obeyed k u s t c).after (folded k u s (n + 1) rest)) (sym g.0)
      ∙ ap (folded k u s (n + 1) rest) (sym g.1)
