-- The messages that wait in a queue.
use Rattle.std.specs.Prelude.{map, take}
use Rattle.machines.specs.Message.{Queue as Messages}
use Rattle.queue.specs.Fifo.{Kind}
use Rattle.queue.specs.declared.fifo.Queue.{Queue}

-- oldest first
abbrev pub waiting : {M : Type 0} → Kind M → Queue M → Messages
waiting k q = map k.means (take q.count q.places.now)
