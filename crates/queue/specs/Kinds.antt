-- The two kinds of record.
use Rattle.std.specs.Prelude.{false}
use Rattle.machines.specs.Message.{Message, own_of}
use Rattle.queue.specs.Fifo.{Kind}
use Rattle.queue.specs.declared.load.LoadMessage.{LoadMessage}
use Rattle.queue.specs.declared.store.StoreMessage.{StoreMessage}

-- a pending store is an own message
abbrev pub store_means : StoreMessage → Message
store_means m = own_of m.variable m.value

abbrev pub store_kind : Kind StoreMessage
store_kind = record { means = store_means; zero = record { variable = 0; value = 0 } }

abbrev pub load_means : LoadMessage → Message
load_means m = record { own = m.own; variable = m.variable; value = m.value }

abbrev pub load_kind : Kind LoadMessage
load_kind = record { means = load_means; zero = record { own = false; variable = 0; value = 0 } }
