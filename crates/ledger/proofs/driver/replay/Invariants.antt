use Rattle.std.proofs.Common.{◌≡◌, [], length, take}
use Rattle.rows.specs.Standing.{standing}
use Rattle.ledger.specs.Ledger.{Played, state}
use Rattle.ledger.proofs.driver.replay.Given as goal

abbrev pub invariant-loop-i : goal.invariant-loop-i
invariant-loop-i g l =
    let k = g.M.OrderedRow.kind l.fn.machine in
    let u = g.M.Machine.rules l.fn.machine in
    (l.folder.machine ≡ l.fn.machine)
    × Played k u (length l.initial.memory) (state [] l.initial.strip l.initial.witness) (take l.i l.calls) (take l.i l.answers)
    (state (standing k.width l.folder.count l.memory) l.strip l.witness)
